-- A proof has a first bad node exactly where it concludes nothing.
use Rattle.std.proofs.Common.{◌≡◌, ◌+◌, ◌↔◌, ℕ, ◌∷◌, Option, Some, None, refl}
use Rattle.std.specs.Option.{IsSome, option_or}
use Rattle.terms.specs.Evaluation.{then_with}
use Rattle.terms.specs.Worlds.{World}
use Rattle.terms.specs.declared.sequent.Sequent.{Sequent}
use Rattle.proof_objects.specs.ProofTrees.{ProofTree, By, Trees, NoMore, Also, steps, steps_in}
use Rattle.kernel.specs.Conclude.{conclude}
use Rattle.kernel.specs.Concludes.{BadNode, concludes, all_concluded, bad_at, bad_if_none, first_bad, first_bad_in}
use Rattle.kernel.specs.Laws.{BadWhereNothing}

own : (o : Option Sequent) (bad : BadNode) → IsSome (bad_if_none o bad) ↔ (o ≡ None)
own None bad = (λ h. refl, λ h. refl)
own (Some s) bad = (λ h. cc, λ h. cc)

either : {A B : Type 0} (a b : Option A) → (IsSome a → B) → (IsSome b → B) → IsSome (option_or a b) → B
either None b f g h = g h
either (Some x) b f g h = f refl

last : {A : Type 0} (a b : Option A) → IsSome b → IsSome (option_or a b)
last None b h = h
last (Some x) b h = refl

none_then : {A B : Type 0} (a : Option A) (k : A → Option B) → a ≡ None → then_with a k ≡ None
none_then None k h = refl
none_then (Some x) k h = absurd (cc)

then_none : {A B C : Type 0} (a : Option A) (b : Option B) (k : A → B → Option C) → b ≡ None → then_with a (λ x. then_with b (k x)) ≡ None
then_none None b k h = refl
then_none (Some x) b k h = none_then b (k x) h

mutual
  pub bad_tree : (W : World) (before : ℕ) (p : ProofTree) → IsSome (first_bad W before p) ↔ (concludes W p ≡ None)
  bad_tree W before (By s ps) =
      let r = own (concludes W (By s ps)) (bad_at W (before + steps_in ps + 1) s (all_concluded W ps)) in (
        either (first_bad_in W before ps) _ (λ h. none_then (all_concluded W ps) (conclude W s) (bad_within W before ps h)) r.0,
        λ h. last (first_bad_in W before ps) _ (r.1 h),
      )

  pub bad_within : (W : World) (before : ℕ) (ps : Trees) → IsSome (first_bad_in W before ps) → all_concluded W ps ≡ None
  bad_within W before NoMore h = absurd (cc)
  bad_within W before (Also p ps) h =
      either (first_bad W before p) (first_bad_in W (before + steps p) ps)
      (λ g. let e = bad_tree W before p in none_then (concludes W p) _ (e.0 g))
      (λ g. then_none (concludes W p) (all_concluded W ps) (λ s ss. Some (s ∷ ss)) (bad_within W (before + steps p) ps g)) h

pub bad_where_nothing : BadWhereNothing
bad_where_nothing = bad_tree
