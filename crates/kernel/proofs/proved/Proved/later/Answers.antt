use Rattle.std.proofs.Common.{◌≡◌, Some, sym, subst, ap, ◌∙◌}
use Rattle.terms.specs.Later.{IsLater}
use Rattle.terms.specs.Worlds.{World}
use Rattle.terms.specs.declared.sequent.Sequent.{Sequent}
use Rattle.proof_objects.specs.ProofTrees.{ProofTree}
use Rattle.kernel.specs.Concludes.{concludes}
use Rattle.kernel.proofs.proved.Proved.later.Goals as goal

pub invariant_of-result : goal.invariant_of-result
invariant_of-result c =
    let V : World = c.args.world.now in
    let p : ProofTree = c.self.inside.proof in
    let s : Sequent = c.self.inside.sequent.value in
    let later : IsLater c.self.inside.world V = subst (λ it. IsLater it.world V) (sym c.self.view_is) c.requires in
    let after : concludes V p ≡ Some s = c.proofs_stay.ensures c.self.inside.world V c.soundness.ensures c.soundness-2.ensures later p s c.self.invariant in
    let same : c.in_ok-sequent.sequent.value ≡ s = c.in_ok-sequent.ensures.cases in
    subst (λ W. concludes W c.in_ok-proof.proof ≡ Some c.in_ok-sequent.sequent.value) (sym c.in_ok-world.ensures)
    (subst (λ q. concludes V q ≡ Some c.in_ok-sequent.sequent.value) (sym c.in_ok-proof.ensures)
    (subst (λ r. concludes V p ≡ Some r) (sym same) after))
