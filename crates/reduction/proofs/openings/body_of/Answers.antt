use Rattle.std.proofs.Common.{◌≡◌, IfOk, subst}
use Rattle.lisp_data.specs.Values.{Name}
use Rattle.terms.specs.Terms.{Tm, substitute}
use Rattle.reduction.proofs.openings.body_of.Goals as goal

pub returns : goal.returns
returns c =
    subst (λ (s : Name → Tm). IfOk c.substitute.result (λ t. t ≡ substitute s c.args.definition.now.body)) c.in_ok-s.ensures.replaces c.substitute.ensures
