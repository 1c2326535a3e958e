-- What the check of a proof comes to is what the proof concludes, or its first bad node.
use Rattle.std.proofs.Common.{◌≡◌, ◌+◌, ℕ, List, [], ◌∷◌, ◌++◌, Option, Some, None, Err, refl, sym, ap, ◌∙◌, subst, arith}
use Rattle.std.specs.Option.{option_or}
use Rattle.std.proofs.lemmas.List.{append-nil, append_assoc}
use Rattle.terms.specs.Evaluation.{then_with}
use Rattle.terms.specs.Worlds.{World}
use Rattle.terms.specs.declared.sequent.Sequent.{Sequent}
use Rattle.proof_objects.specs.ProofTrees.{ProofTree, By, Trees, NoMore, Also, steps, steps_in}
use Rattle.proof_objects.specs.declared.step.Step.{Step}
use Rattle.kernel.specs.Conclude.{conclude}
use Rattle.kernel.specs.Concludes.{BadNode, concludes, all_concluded, bad_at, bad_if_none, first_bad, first_bad_in}
use Rattle.kernel.specs.Answers.{IfProofWrong, IfLimitAt, OnRefusal, IsBadAt, IsLimitAt}
use Rattle.kernel.specs.declared.errors.RuleName.TheVariants.{Rule, Claim}
use Rattle.kernel.specs.declared.errors.CheckError.{CheckError}
use Rattle.kernel.specs.declared.errors.CheckError.TheVariants.{ProofWrong, Limit as LimitAt, Memory as NoMemory}
use Rattle.kernel.specs.view.Checking.{Outcome, Concludes, Fails, then_check, or_bad, at_step, checked, gathered, IsLimitOf, Refuses}

-- an outcome says that this is concluded, this is the first bad node, and so many nodes stand up to the end
abbrev pub Says : Option Sequent → Option BadNode → ℕ → Outcome → Type 0
Says c b n (Concludes s m) = (c ≡ Some s) × (b ≡ None) × (m ≡ n)
Says c b n (Fails bad) = (c ≡ None) × (b ≡ Some bad)

says_same : (c d : Option Sequent) (a b : Option BadNode) (n m : ℕ) (o : Outcome) → c ≡ d → a ≡ b → n ≡ m → Says c a n o → Says d b m o
says_same c d a b n m o p q r h = subst (λ x. Says x b m o) p (subst (λ x. Says c x m o) q (subst (λ x. Says c a x o) r h))

-- what is concluded, and the first bad node, of a step whose first subproofs conclude these sequents, and these are left
abbrev own : World → Step → List Sequent → Trees → Option Sequent
own W s done ps = then_with (all_concluded W ps) (λ ss. conclude W s (done ++ ss))

abbrev own_bad : World → ℕ → Step → List Sequent → Trees → Option BadNode
own_bad W n s done ps = option_or (first_bad_in W n ps) (bad_if_none (own W s done ps) (bad_at W (n + steps_in ps + 1) s (then_with (all_concluded W ps) (λ ss. Some (done ++ ss)))))

says_step : (c : Option Sequent) (bad : BadNode) → Says c (bad_if_none c bad) bad.node (or_bad c bad)
says_step None bad = (refl, refl)
says_step (Some s) bad = (refl, refl, refl)

one_more : {B : Type 0} (t : Sequent) (done : List Sequent) (a : Option (List Sequent)) (k : List Sequent → Option B) → then_with (then_with a (λ ss. Some (t ∷ ss))) (λ ss. k (done ++ ss)) ≡ then_with a (λ ss. k ((done ++ t ∷ []) ++ ss))
one_more t done None k = refl
one_more t done (Some ss) k = ap k (sym (append_assoc done (t ∷ []) ss))

all_of : {A : Type 0} (a : Option (List A)) → then_with a (λ ss. Some ss) ≡ a
all_of None = refl
all_of (Some ss) = refl

module _ (W : World) where
  -- a subproof that concludes something goes to those before it
  own_next : (s : Step) (done : List Sequent) (p : ProofTree) (ps : Trees) (t : Sequent) → concludes W p ≡ Some t → own W s (done ++ t ∷ []) ps ≡ own W s done (Also p ps)
  own_next s done p ps t e =
      sym (one_more t done (all_concluded W ps) (conclude W s))
      ∙ ap (λ c. then_with (then_with c (λ x. then_with (all_concluded W ps) (λ ss. Some (x ∷ ss)))) (λ ss. conclude W s (done ++ ss))) (sym e)

  bad_next : (n m : ℕ) (s : Step) (done : List Sequent) (p : ProofTree) (ps : Trees) (t : Sequent) → concludes W p ≡ Some t → first_bad W n p ≡ None → m ≡ n + steps p → own_bad W m s (done ++ t ∷ []) ps ≡ own_bad W n s done (Also p ps)
  bad_next n m s done p ps t e none count =
      let items : then_with (all_concluded W ps) (λ ss. Some ((done ++ t ∷ []) ++ ss)) ≡ then_with (all_concluded W (Also p ps)) (λ ss. Some (done ++ ss)) =
      sym (one_more t done (all_concluded W ps) Some)
      ∙ ap (λ c. then_with (then_with c (λ x. then_with (all_concluded W ps) (λ ss. Some (x ∷ ss)))) (λ ss. Some (done ++ ss))) (sym e) in
      let number : m + steps_in ps + 1 ≡ n + steps_in (Also p ps) + 1 = omega (arith, count) in
      let first : first_bad_in W m ps ≡ first_bad_in W n (Also p ps) = ap (λ k. first_bad_in W k ps) count ∙ ap (λ o. option_or o (first_bad_in W (n + steps p) ps)) (sym none) in
      λ i. option_or (first i) (bad_if_none (own_next s done p ps t e i) (bad_at W (number i) s (items i)))

  mutual
    pub told : (n : ℕ) (p : ProofTree) → Says (concludes W p) (first_bad W n p) (n + steps p) (checked W p n)
    told n (By s ps) =
        says_same (own W s [] ps) (concludes W (By s ps)) (own_bad W n s [] ps) (first_bad W n (By s ps)) (n + steps_in ps + 1) (n + steps (By s ps)) (gathered W s [] ps n)
        refl (ap (λ a. option_or (first_bad_in W n ps) (bad_if_none (concludes W (By s ps)) (bad_at W (n + steps_in ps + 1) s a))) (all_of (all_concluded W ps))) (omega arith)
        (told_of n s [] ps)

    told_of : (n : ℕ) (s : Step) (done : List Sequent) (ps : Trees) → Says (own W s done ps) (own_bad W n s done ps) (n + steps_in ps + 1) (gathered W s done ps n)
    told_of n s done NoMore =
        let same : done ≡ done ++ [] = sym (append-nil done) in
        let number : n + 1 ≡ n + 0 + 1 = omega arith in
        says_same (conclude W s done) _ (bad_if_none (conclude W s done) (bad_at W (n + 1) s (Some done))) _ (n + 1) _ (at_step W s done n)
        (ap (conclude W s) same) (λ i. bad_if_none (conclude W s (same i)) (bad_at W (number i) s (Some (same i)))) number
        (says_step (conclude W s done) (bad_at W (n + 1) s (Some done)))
    told_of n s done (Also p ps) = by_first (checked W p n) (told n p) (λ t m. told_of m s (done ++ t ∷ []) ps)
      where
        by_first : (o : Outcome) → Says (concludes W p) (first_bad W n p) (n + steps p) o
            → ((t : Sequent) (m : ℕ) → Says (own W s (done ++ t ∷ []) ps) (own_bad W m s (done ++ t ∷ []) ps) (m + steps_in ps + 1) (gathered W s (done ++ t ∷ []) ps m))
            → Says (own W s done (Also p ps)) (own_bad W n s done (Also p ps)) (n + steps_in (Also p ps) + 1) (then_check o (λ t m. gathered W s (done ++ t ∷ []) ps m))
        by_first (Concludes t m) h ih =
            says_same _ _ _ _ _ _ (gathered W s (done ++ t ∷ []) ps m)
            (own_next s done p ps t h.0) (bad_next n m s done p ps t h.0 h.1 h.2) (omega (arith, h.2))
            (ih t m)
        by_first (Fails bad) h ih = (
          ap (λ c. then_with (then_with c (λ x. then_with (all_concluded W ps) (λ ss. Some (x ∷ ss)))) (λ ss. conclude W s (done ++ ss))) h.0,
          ap (λ b. option_or (option_or b (first_bad_in W (n + steps p) ps)) (bad_if_none (own W s done (Also p ps)) (bad_at W (n + steps_in (Also p ps) + 1) s (then_with (all_concluded W (Also p ps)) (λ ss. Some (done ++ ss)))))) h.1,
        )

-- the same, as the check's answers
pub told_concludes : (W : World) (p : ProofTree) (s : Sequent) (n : ℕ) → checked W p 0 ≡ Concludes s n → (concludes W p ≡ Some s) × (first_bad W 0 p ≡ None) × (n ≡ steps p)
told_concludes W p s n e =
    let h = subst (Says (concludes W p) (first_bad W 0 p) (0 + steps p)) e (told W 0 p) in
    (h.0, h.1, omega (arith, h.2))

pub told_fails : (W : World) (p : ProofTree) (bad : BadNode) → checked W p 0 ≡ Fails bad → (concludes W p ≡ None) × (first_bad W 0 p ≡ Some bad)
told_fails W p bad e = subst (Says (concludes W p) (first_bad W 0 p) (0 + steps p)) e (told W 0 p)

module _ (T : Type 0) (W : World) (p : ProofTree) where
  pub wrong_at : (e : CheckError) → Refuses (checked W p 0) e → IfProofWrong {T = T} (Err e) (λ node rule. IsBadAt (first_bad W 0 p) node rule)
  wrong_at (ProofWrong node (Rule rule)) h = let r = told_fails W p _ h in r.1
  wrong_at (ProofWrong node Claim) h = absurd h
  wrong_at (LimitAt node code) h = tt
  wrong_at NoMemory h = tt

  pub limit_at : (e : CheckError) → Refuses (checked W p 0) e → IfLimitAt {T = T} (Err e) (λ node code. IsLimitAt (first_bad W 0 p) node code)
  limit_at (ProofWrong node rule) h = tt
  limit_at (LimitAt node code) h = by_outcome (checked W p 0) refl h
    where
      by_outcome : (o : Outcome) → checked W p 0 ≡ o → IsLimitOf o node code → IsLimitAt (first_bad W 0 p) node code
      by_outcome (Concludes s n) e g = absurd g
      by_outcome (Fails bad) e g = let r = told_fails W p bad e in subst (λ b. IsLimitAt b node code) (sym r.1) g
  limit_at NoMemory h = tt

  pub nothing_at : (e : CheckError) → Refuses (checked W p 0) e → OnRefusal {T = T} (Err e) (concludes W p ≡ None)
  nothing_at (ProofWrong node (Rule rule)) h = let r = told_fails W p _ h in r.0
  nothing_at (ProofWrong node Claim) h = absurd h
  nothing_at (LimitAt node code) h = by_outcome (checked W p 0) refl h
    where
      by_outcome : (o : Outcome) → checked W p 0 ≡ o → IsLimitOf o node code → concludes W p ≡ None
      by_outcome (Concludes s n) e g = absurd g
      by_outcome (Fails bad) e g = let r = told_fails W p bad e in r.0
  nothing_at NoMemory h = tt
