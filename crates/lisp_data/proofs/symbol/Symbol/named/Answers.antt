use Rattle.std.proofs.Common.{◌≡◌, rules}
use Rattle.std.specs.String.{string_bytes}
use Rattle.lisp_data.proofs.Uppercase.{tested-same}
use Rattle.lisp_data.proofs.symbol.Symbol.named.Goals as goal

pub invariant_of-result : goal.invariant_of-result
invariant_of-result c =
    let e : string_bytes c.in-Ok-new.text.value ≡ c.args.text.now = search rules in
    tested-same _ _ e c.requires
