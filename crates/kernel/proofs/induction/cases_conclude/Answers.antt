use Rattle.std.proofs.Common.{◌≡◌, Some, subst}
use Rattle.kernel.specs.Concludes.{concludes}
use Rattle.kernel.specs.declared.induction.InductCase.{InductCase}
use Rattle.kernel.proofs.Cases.{falls-world, falls-next}
use Rattle.kernel.proofs.induction.cases_conclude.Goals as goal

pub loop-case-preserved : goal.loop-case-preserved
loop-case-preserved c =
    let cs = c.args.cases.now in
    let i = c.loop-case.case-index in
    let item = c.case-item.result in
    let world = falls-world c.args.world.now cs i item c.requires c.loop-case-test.true in
    falls-next c.args.world.now cs i item c.loop-case-test.true c.loop-case.invariant world
    (subst (λ (x : InductCase). concludes x.falls.world x.falls.proof ≡ Some x.falls.sequent) c.case-item.is c.sequent-sequent.ensures.concludes)
