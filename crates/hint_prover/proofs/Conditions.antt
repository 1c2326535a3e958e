-- A proof that proves a condition concludes what does.
use Rattle.std.proofs.Common.{◌≡◌, true, Some, None, sym, subst, ◌∙◌}
use Rattle.terms.specs.Worlds.{World}
use Rattle.terms.specs.declared.sequent.Sequent.{Sequent}
use Rattle.kernel.specs.Concludes.{concludes}
use Rattle.plans.specs.Proving.{proves}
use Rattle.reduction_proofs.specs.Proving.{ProvesCondition}
use Rattle.reduction_proofs.specs.Trees.{Proof}

some_is : {A : Type 0} {x y : A} → Some x ≡ Some y → x ≡ y
some_is e = cc

pub concluded-proves : (W : World) (c s : Sequent) (P : Proof) → ProvesCondition W c P → concludes W P ≡ Some s → proves s c ≡ true
concluded-proves W c s P p e = subst (λ t. proves t c ≡ true) (some_is (sym p.concluded ∙ e)) p.proved

pub never-refused : (W : World) (c : Sequent) (P : Proof) → ProvesCondition W c P → concludes W P ≡ None → ⊥
never-refused W c P p e = let f : Some p.sequent ≡ None = sym p.concluded ∙ e in absurd (cc)

pub ruleset conditions = (concluded-proves, never-refused)
