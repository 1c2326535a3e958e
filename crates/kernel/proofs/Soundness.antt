-- What concludes in a sound world is well formed and holds there: a line for each rule, and one induction.
use Rattle.std.proofs.Common.{◌≡◌, List, [], ◌∷◌, Option, Some, subst}
use Rattle.terms.specs.Substitution.{by_pairs}
use Rattle.terms.specs.Terms.{substitute}
use Rattle.terms.specs.Worlds.{World, Each}
use Rattle.terms.specs.Sound.{Sound}
use Rattle.terms.specs.declared.sequent.Sequent.{Sequent}
use Rattle.proof_objects.specs.declared.step.Step.{Step}
use Rattle.proof_objects.specs.declared.step.Step.TheVariants.{Hyp, Refl, Replace, Unfold, Eval, Substitute, IfTrue, IfFalse, Cases, Cut, Weaken, Contradict, Axiom, Ring, ImpliesIn, ImpliesOut, Universal, Discharge, Theorem, Instance, Induct}
use Rattle.proof_objects.specs.ProofTrees.{ProofTree, By, Trees, NoMore, Also}
use Rattle.kernel.specs.Sequents.{of_goal}
use Rattle.kernel.specs.Conclude.{from_none, from_one, from_two, from_more, conclude}
use Rattle.kernel.specs.Concludes.{concludes, all_concluded}
use Rattle.kernel.specs.Laws.{AxiomsHold, ConclusionsFit, SoundRules}
use Rattle.kernel.proofs.Inversions.{then_some, pairs_fit_each}
use Rattle.kernel.proofs.Good as good
use Rattle.kernel.proofs.InductionHolds.{good_induct}

some_is : {A : Type 0} {x y : A} → Some x ≡ Some y → x ≡ y
some_is q = cc

-- what a rule's conclusion has, from what its premises have
module _ (P : Sequent → Type 0) where
  none_gives : (o : Option Sequent) (ps : List Sequent) (t : Sequent) → (o ≡ Some t → P t) → from_none o ps ≡ Some t → P t
  none_gives o [] t f e = f e
  none_gives o (p ∷ ps) t f e = absurd (cc)

  one_gives : (k : Sequent → Option Sequent) (ps : List Sequent) (t : Sequent) → Each P ps → ((p : Sequent) → P p → k p ≡ Some t → P t) → from_one k ps ≡ Some t → P t
  one_gives k [] t g f e = absurd (cc)
  one_gives k (p ∷ []) t g f e = f p g.0 e
  one_gives k (p ∷ q ∷ ps) t g f e = absurd (cc)

  two_gives : (k : Sequent → Sequent → Option Sequent) (ps : List Sequent) (t : Sequent) → Each P ps → ((p q : Sequent) → P p → P q → k p q ≡ Some t → P t) → from_two k ps ≡ Some t → P t
  two_gives k [] t g f e = absurd (cc)
  two_gives k (p ∷ []) t g f e = absurd (cc)
  two_gives k (p ∷ q ∷ []) t g f e = f p q g.0 g.1.0 e
  two_gives k (p ∷ q ∷ r ∷ ps) t g f e = absurd (cc)

  more_gives : (k : Sequent → Sequent → List Sequent → Option Sequent) (ps : List Sequent) (t : Sequent) → Each P ps → ((p q : Sequent) (rest : List Sequent) → P p → P q → Each P rest → k p q rest ≡ Some t → P t) → from_more k ps ≡ Some t → P t
  more_gives k [] t g f e = absurd (cc)
  more_gives k (p ∷ []) t g f e = absurd (cc)
  more_gives k (p ∷ q ∷ rest) t g f e = f p q rest g.0 g.1.0 g.1.1 e

module _ (W : World) (sound : Sound W) where
  abbrev Good : Sequent → Type 0
  Good = good.Good W sound

  -- a line for each rule
  rule_good : (s : Step) (ps : List Sequent) (t : Sequent) → Each Good ps → conclude W s ps ≡ Some t → Good t
  rule_good (Hyp a) ps t g = none_gives Good _ ps t (good.good_hypothesis W sound a t)
  rule_good (Refl a) ps t g = none_gives Good _ ps t (good.good_refl W sound a t)
  rule_good (Replace path) ps t g = two_gives Good _ ps t g (λ p q. good.good_replace W sound path p q t)
  rule_good (Unfold a) ps t g = none_gives Good _ ps t (good.good_unfold W sound a t)
  rule_good (Eval a) ps t g = none_gives Good _ ps t (good.good_eval W sound a t)
  rule_good (Substitute s) ps t g = one_gives Good _ ps t g (λ p. good.good_substitute W sound s p t)
  rule_good (IfTrue b c) ps t g = one_gives Good _ ps t g (λ p. good.good_if_true W sound b c p t)
  rule_good (IfFalse b c) ps t g = one_gives Good _ ps t g (λ p. good.good_if_false W sound b c p t)
  rule_good (Cases c) ps t g = two_gives Good _ ps t g (λ p q. good.good_cases W sound c p q t)
  rule_good Cut ps t g = two_gives Good _ ps t g (λ p q. good.good_cut W sound p q t)
  rule_good (Weaken hs us) ps t g = one_gives Good _ ps t g (λ p. good.good_weaken W sound hs us p t)
  rule_good (Contradict a) ps t g = two_gives Good _ ps t g (λ p q. good.good_contradict W sound a p q t)
  rule_good (Axiom k s) ps t g = none_gives Good _ ps t (good.good_axiom_rule W sound k s t)
  rule_good (Ring a b) ps t g = none_gives Good _ ps t (good.good_ring W sound a b t)
  rule_good (ImpliesIn a) ps t g = one_gives Good _ ps t g (λ p. good.good_implies_in W sound a p t)
  rule_good ImpliesOut ps t g = two_gives Good _ ps t g (λ p q. good.good_implies_out W sound p q t)
  rule_good (Universal u s) ps t g = none_gives Good _ ps t (good.good_universal W sound u s t)
  rule_good Discharge ps t g = two_gives Good _ ps t g (λ p q. good.good_discharge W sound p q t)
  rule_good (Theorem fact) ps t g = none_gives Good _ ps t (good.good_fact_rule W sound fact t)
  rule_good (Instance fact pairs) ps t g = none_gives Good _ ps t (good.good_instance_rule W sound pairs fact t)
  rule_good (Induct m cases) ps t g = more_gives Good _ ps t g (λ p q rest. good_induct W sound m cases p q rest t)

  mutual
    proof_good : (p : ProofTree) (t : Sequent) → concludes W p ≡ Some t → Good t
    proof_good (By s ps) t e =
        let r = then_some (all_concluded W ps) (conclude W s) t e in
        rule_good s r.0 t (all_good ps r.0 r.1) r.2

    all_good : (ps : Trees) (ts : List Sequent) → all_concluded W ps ≡ Some ts → Each Good ts
    all_good NoMore ts e = subst (Each Good) (some_is e) tt
    all_good (Also p ps) ts e =
        let a = then_some (concludes W p) _ ts e in
        let b = then_some (all_concluded W ps) _ ts a.2 in
        subst (Each Good) (some_is b.2) (proof_good p a.0 a.1, all_good ps b.0 b.1)

pub axioms_hold : AxiomsHold
axioms_hold W sound k a e s f =
    let g = good.good_axiom_instance W sound k a e s (pairs_fit_each W.functions s f) in
    (g.fit, λ I tot us env hs. good.holds_by W sound I tot (of_goal (substitute (by_pairs s) a)) g.fit (g.follows I tot) us env hs)

pub conclusions_fit : ConclusionsFit
conclusions_fit W sound p s e = let g = proof_good W sound p s e in g.fit

pub sound_rules : SoundRules
sound_rules W sound p s e =
    let g = proof_good W sound p s e in
    (g.fit, λ I tot us env hs. good.holds_by W sound I tot s g.fit (g.follows I tot) us env hs)
