use Rattle.std.proofs.Common.{◌≡◌, ◌+◌, ◌^◌, ◌<◌, true, arith, sym, ◌∙◌, ap, nat_eq, rules}
use Rattle.std.specs.List.{list_any}
use Rattle.ports.proofs.Failures.{failing_among-rise}
use Rattle.ports.proofs.calls.Numbered.call_fails.Goals as goal

pub returns-clause-rose : goal.returns-clause-rose
returns-clause-rose c h =
    let k : c.self.inside.made + 1 < 2 ^ 64 = omega arith in
    let t : c.contains.result ≡ true = search rules in
    let found : list_any (λ listed. nat_eq listed (c.self.inside.made + 1)) c.self.inside.failing ≡ true =
    ap (list_any (λ listed. nat_eq listed (c.self.inside.made + 1))) (sym c.as_slice.ensures) ∙ (sym c.contains.ensures.value ∙ t) in
    rw (← c.self.view_is) (failing_among-rise c.self.inside.failing c.self.inside.made k found)
