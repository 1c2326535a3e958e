-- Lists of premises, one after the other.
use Rattle.std.proofs.Common.{◌≡◌, ◌+◌, ◌<◌, ◌≤◌, ℕ, zero, suc, List, [], ◌∷◌, ◌++◌, length, get_or, drop, take, map, Option, Some, None, refl, sym, ap, ◌∙◌, subst, arith}
use Rattle.std.proofs.lemmas.List.{append-nil, append_assoc, drop_all, take_all}
use Rattle.std.proofs.lemmas.List.{take_more}
use Rattle.terms.specs.Evaluation.{then_with}
use Rattle.terms.specs.Worlds.{World}
use Rattle.terms.specs.declared.sequent.Sequent.{Sequent}
use Rattle.proof_objects.specs.ProofTrees.{ProofTree, trees}
use Rattle.kernel.specs.Concludes.{concludes, all_concluded}
use Rattle.kernel.specs.Conclusion.{Conclusion, proofs_of, sequents_of, AllIn}
use Rattle.kernel.specs.view.Checking.{rest_of}

pub rest-start : (W : World) (ps : List ProofTree) → rest_of W [] ps ≡ all_concluded W (trees ps)
unfolding rest_of
rest-start W ps = by_option (all_concluded W (trees ps))
  where
    by_option : (o : Option (List Sequent)) → then_with o (λ ss. Some ss) ≡ o
    by_option None = refl
    by_option (Some ss) = refl

pub rest-end : (W : World) (done : List Conclusion) → rest_of W done [] ≡ Some (sequents_of done)
unfolding rest_of
rest-end W done = ap Some (append-nil (sequents_of done))

pub sequents-snoc : (done : List Conclusion) (c : Conclusion) (ss : List Sequent) → (sequents_of (done ++ c ∷ []) ++ ss) ≡ (sequents_of done ++ c.sequent ∷ ss)
sequents-snoc [] c ss = refl
sequents-snoc (d ∷ done) c ss = ap (λ x. d.sequent ∷ x) (sequents-snoc done c ss)

-- a premise more
pub rest-next : (W : World) (done : List Conclusion) (c : Conclusion) (p : ProofTree) (ps : List ProofTree) → concludes W p ≡ Some c.sequent → rest_of W done (p ∷ ps) ≡ rest_of W (done ++ c ∷ []) ps
unfolding rest_of
rest-next W done c p ps proved =
    ap (λ o. then_with (then_with o (λ s. then_with (all_concluded W (trees ps)) (λ ss. Some (s ∷ ss)))) (λ ss. Some (sequents_of done ++ ss))) proved
    ∙ by_rest (all_concluded W (trees ps))
  where
    by_rest : (o : Option (List Sequent)) → then_with (then_with o (λ ss. Some (c.sequent ∷ ss))) (λ ss. Some (sequents_of done ++ ss)) ≡ then_with o (λ ss. Some (sequents_of (done ++ c ∷ []) ++ ss))
    by_rest None = refl
    by_rest (Some ss) = ap Some (sym (sequents-snoc done c ss))

-- premises that are what their proofs conclude
all_concluded-snoc : (W : World) (cs : List Conclusion) (c : Conclusion) → all_concluded W (trees (proofs_of cs)) ≡ Some (sequents_of cs) → concludes W c.proof ≡ Some c.sequent → all_concluded W (trees (proofs_of (cs ++ c ∷ []))) ≡ Some (sequents_of (cs ++ c ∷ []))
all_concluded-snoc W [] c e h = ap (λ o. then_with o (λ x. Some (x ∷ []))) h
all_concluded-snoc W (b ∷ cs) c e h = by_first (concludes W b.proof) (all_concluded W (trees (proofs_of cs))) refl e (λ f. all_concluded-snoc W cs c f h)
  where
    same : {x y : Sequent} {xs ys : List Sequent} → Some (x ∷ xs) ≡ Some (y ∷ ys) → (x ≡ y) × (xs ≡ ys)
    same q = (cc, cc)

    by_first : (a : Option Sequent) (o : Option (List Sequent)) → all_concluded W (trees (proofs_of cs)) ≡ o → then_with a (λ x. then_with o (λ us. Some (x ∷ us))) ≡ Some (b.sequent ∷ sequents_of cs) → (all_concluded W (trees (proofs_of cs)) ≡ Some (sequents_of cs) → all_concluded W (trees (proofs_of (cs ++ c ∷ []))) ≡ Some (sequents_of (cs ++ c ∷ []))) → then_with a (λ x. then_with (all_concluded W (trees (proofs_of (cs ++ c ∷ [])))) (λ us. Some (x ∷ us))) ≡ Some (b.sequent ∷ sequents_of (cs ++ c ∷ []))
    by_first None o f g ih = absurd (cc)
    by_first (Some x) None f g ih = absurd (cc)
    by_first (Some x) (Some us) f g ih =
        let s = same g in
        ap (λ o. then_with o (λ vs. Some (x ∷ vs))) (ih (f ∙ ap Some s.1)) ∙ ap (λ y. Some (y ∷ sequents_of (cs ++ c ∷ []))) s.0

-- so many premises of the world are what their proofs conclude
unfoldable pub Concluded : World → List Conclusion → ℕ → Type 0
Concluded W cs i = all_concluded W (trees (proofs_of (take i cs))) ≡ Some (sequents_of (take i cs))

pub concluded-start : (W : World) (cs : List Conclusion) → Concluded W cs 0
unfolding Concluded
concluded-start W cs = refl

pub concluded-next : (W : World) (cs : List Conclusion) (i : ℕ) (d : Conclusion) → i < length cs → Concluded W cs i → (get_or cs i d).world ≡ W → concludes (get_or cs i d).world (get_or cs i d).proof ≡ Some (get_or cs i d).sequent → Concluded W cs (i + 1)
unfolding Concluded
concluded-next W cs i d h e w c =
    subst (λ xs. all_concluded W (trees (proofs_of xs)) ≡ Some (sequents_of xs)) (sym (take_more cs i d h))
    (all_concluded-snoc W (take i cs) (get_or cs i d) e (subst (λ V. concludes V (get_or cs i d).proof ≡ Some (get_or cs i d).sequent) w c))

pub concluded-end : (W : World) (cs : List Conclusion) (i : ℕ) → length cs ≤ i → Concluded W cs i → all_concluded W (trees (proofs_of cs)) ≡ Some (sequents_of cs)
unfolding Concluded
concluded-end W cs i h e = subst (λ xs. all_concluded W (trees (proofs_of xs)) ≡ Some (sequents_of xs)) (take_all i cs h) e

pub AllIn-at : (W : World) (cs : List Conclusion) (i : ℕ) (d : Conclusion) → AllIn W cs → i < length cs → (get_or cs i d).world ≡ W
AllIn-at W [] i d h l = absurd (omega arith)
AllIn-at W (c ∷ cs) zero d h l = h.0
AllIn-at W (c ∷ cs) (suc i) d h l = AllIn-at W cs i d h.1 (omega arith)

pub ruleset concluded = (AllIn-at, concluded-start, concluded-next, concluded-end)

-- the proofs of premises
pub proofs-next : (cs : List Conclusion) (i : ℕ) (d : Conclusion) → i < length cs → proofs_of (take (i + 1) cs) ≡ (proofs_of (take i cs) ++ (get_or cs i d).proof ∷ [])
proofs-next cs i d h = ap proofs_of (take_more cs i d h) ∙ snoc (take i cs) (get_or cs i d)
  where
    snoc : (xs : List Conclusion) (c : Conclusion) → proofs_of (xs ++ c ∷ []) ≡ (proofs_of xs ++ c.proof ∷ [])
    snoc [] c = refl
    snoc (x ∷ xs) c = ap (λ ps. x.proof ∷ ps) (snoc xs c)

pub ruleset lists = (proofs-next, take_all)
