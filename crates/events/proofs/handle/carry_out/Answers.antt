use Rattle.std.proofs.Common.{◌≡◌, List, Ok, sym, ◌∙◌, subst}
use Rattle.kernel.specs.Conclusion.{Conclusion}
use Rattle.plans.specs.Proving.{ProvesAll, sequents}
use Rattle.events.specs.Frames.{Clauses}
use Rattle.events.specs.Verdicts.{proved}
use Rattle.events.proofs.HandleLemmas.{can_install, made_by}
use Rattle.events.proofs.handle.carry_out.Goals as goal

pub finish-requires-clause-proved : goal.finish-requires-clause-proved
finish-requires-clause-proved g c =
    subst (λ (ps : List Conclusion). ProvesAll c.args.world.now (sequents c.args.plan.conditions) ps) (sym c.as_slice.ensures) c.in_ok-proved.ensures.own

pub install-requires : goal.install-requires
install-requires g c =
    can_install c.args.world.now c.in_ok-share.field-0 c.args.plan c.as_slice-2.result.now c.in_ok-proved.ensures.admitted c.in_ok-share.ensures c.as_slice-2.ensures

pub returns : goal.returns
returns g c = (
  c.args.plan,
  subst (λ (clauses : Clauses). proved c.args.world.now clauses c.args.plan ≡ Ok c.args.plan) c.clauses.ensures.clauses c.in_ok-proved.ensures.passed,
  made_by c.args.world.now c.in_ok-share.field-0 c.in_ok-world.world c.args.plan c.in_ok-proved.proved c.in_ok-claims.claims c.in_ok-proofs.proofs c.as_slice-2.result.now
      c.in_ok-proved.ensures.own c.in_ok-claims.ensures c.in_ok-proofs.ensures.before c.in_ok-proofs.ensures.after c.in_ok-share.ensures c.as_slice-2.ensures c.in_ok-world.ensures,
)
