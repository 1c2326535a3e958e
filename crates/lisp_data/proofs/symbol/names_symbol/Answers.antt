use Rattle.std.proofs.Common.{◌≡◌, length, arith}
use Rattle.std.proofs.lemmas.Bool.Decides.{nat_tests}
use Rattle.lisp_data.proofs.Uppercase.{named-nonempty}
use Rattle.lisp_data.proofs.symbol.names_symbol.Goals as goal

pub returns-then-is_empty-clause-only : goal.returns-then-is_empty-clause-only
returns-then-is_empty-clause-only c =
    let empty : length c.args.text.now ≡ 0 = grind (arith, nat_tests) in
    λ e s n. named-nonempty c.args.text.now s empty n
