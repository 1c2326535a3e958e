use Rattle.std.proofs.Common.{sym, subst}
use Rattle.lisp_data.specs.Values.{Name}
use Rattle.terms.specs.Links.{IsLinked}
use Rattle.terms.specs.declared.entries.Link.{Link}
use Rattle.plans.proofs.entries.with_new_link.Goals as goal

pub with_link-requires : goal.with_link-requires
with_link-requires c =
    subst (λ (l : Link). IsLinked c.args.world.now c.in_ok-theorem.theorem l) (sym c.in_ok-link.ensures)
    (subst (λ (n : Name). IsLinked c.args.world.now n c.args.link.now) (sym c.in_ok-theorem.ensures) c.requires)
