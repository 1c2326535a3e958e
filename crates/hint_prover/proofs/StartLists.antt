-- What is cut and put back at the start, item by item.
use Rattle.std.proofs.Common.{◌≡◌, ℕ, zero, suc, ◌+◌, ◌<◌, ◌≤◌, List, [], ◌∷◌, ◌++◌, length, get_or, map, drop, append_assoc, append-nil, refl, ap, ◌∙◌, arith}
use Rattle.std.proofs.lemmas.List.{drop_all, drop_more}
use Rattle.lisp_data.specs.Values.{Name}
use Rattle.terms.specs.Substitution.{Pairs}
use Rattle.terms.specs.Terms.{Tm}
use Rattle.terms.proofs.Args.{tm_list-tms}
use Rattle.measures.specs.Calls.{call_of}
use Rattle.measures.specs.declared.calls.RecursiveCall.{RecursiveCall}
use Rattle.hints.specs.Start.{conjunction, images}
use Rattle.hints.proofs.Inducting.{conjunction-end, conjunction-more, map-more}
use Rattle.hints.specs.declared.hint.Use.{Use}
use Rattle.reduction_proofs.specs.Trees.{Proof, Hyp, Substitute, Cut, ImpliesOut, Owed}
use Rattle.reduction_proofs.specs.Derived.{first_part, second_part}
use Rattle.reduction_proofs.specs.Start.{fact_under, without_uses, cut_conjunction, falls_by, unfolded}

pub falls-more : (f : Name) (r : Pairs) (k : ℕ) (cs : List RecursiveCall) (i : ℕ) (d : RecursiveCall) → i < length cs →
    falls_by f r k (map call_of (drop i cs))
    ≡ cut_conjunction (images r (get_or cs i d).tests) (Substitute (Owed f k) r) ∷ falls_by f r (k + 1) (map call_of (drop (i + 1) cs))
falls-more f r k cs i d h =
    let next : suc k ≡ k + 1 = omega arith in
    ap (λ ds. falls_by f r k (map call_of ds)) (drop_more cs i d h)
    ∙ ap (λ m. cut_conjunction (images r (get_or cs i d).tests) (Substitute (Owed f k) r) ∷ falls_by f r m (map call_of (drop (i + 1) cs))) next

pub falls-end : (f : Name) (r : Pairs) (k : ℕ) (cs : List RecursiveCall) (i : ℕ) → length cs ≤ i → falls_by f r k (map call_of (drop i cs)) ≡ []
falls-end f r k cs i h = ap (λ ds. falls_by f r k (map call_of ds)) (drop_all i cs h)

pub uses-more : (us : List Use) (i : ℕ) (d : Use) (P : Proof) → i < length us →
    without_uses (drop i us) P ≡ without_uses (drop (i + 1) us) (Cut (fact_under (get_or us i d).s (get_or us i d).fact) P)
uses-more us i d P h = ap (λ vs. without_uses vs P) (drop_more us i d h)

pub uses-end : (us : List Use) (i : ℕ) (P : Proof) → length us ≤ i → without_uses (drop i us) P ≡ P
uses-end us i P h = ap (λ vs. without_uses vs P) (drop_all i us h)

pub unfolded-more : (hs : List Tm) (i : ℕ) (d : Tm) (P : Proof) → i < length hs →
    unfolded (drop i hs) P ≡ unfolded (drop (i + 1) hs) (ImpliesOut P (Hyp (get_or hs i d)))
unfolded-more hs i d P h = ap (λ ks. unfolded ks P) (drop_more hs i d h)

pub unfolded-end : (hs : List Tm) (i : ℕ) (P : Proof) → length hs ≤ i → unfolded (drop i hs) P ≡ P
unfolded-end hs i P h = ap (λ ks. unfolded ks P) (drop_all i hs h)

pub ruleset lists =
    (drop_more, drop_all, append_assoc, append-nil, map-more, tm_list-tms, falls-more, falls-end, uses-more, uses-end, unfolded-more, unfolded-end)

-- what the conjunction from an item on is cut with
cut_at : List Tm → ℕ → ℕ → Tm → Proof → Proof
cut_at ts i j d P =
    Cut (first_part (get_or ts i d) (conjunction (drop j ts))) (Cut (second_part (get_or ts i d) (conjunction (drop j ts))) (cut_conjunction (drop j ts) P))

cut-next : (ts : List Tm) (i : ℕ) (d : Tm) (P : Proof) → i + 1 < length ts → cut_conjunction (drop i ts) P ≡ cut_at ts i (suc i) d P
unfolding cut_at
cut-next [] i d P h = absurd (omega arith)
cut-next (t ∷ []) i d P h = absurd (omega arith)
cut-next (t ∷ u ∷ us) zero d P h = refl
cut-next (t ∷ u ∷ us) (suc i) d P h = cut-next (u ∷ us) i d P (omega arith)

pub cut-more : (ts : List Tm) (i : ℕ) (d : Tm) (P : Proof) → i + 1 < length ts →
    cut_conjunction (drop i ts) P
    ≡ Cut (first_part (get_or ts i d) (conjunction (drop (i + 1) ts))) (Cut (second_part (get_or ts i d) (conjunction (drop (i + 1) ts))) (cut_conjunction (drop (i + 1) ts) P))
unfolding cut_at
cut-more ts i d P h =
    let next : suc i ≡ i + 1 = omega arith in
    cut-next ts i d P h ∙ ap (λ j. cut_at ts i j d P) next

pub cut-end : (ts : List Tm) (i : ℕ) (P : Proof) → i + 1 ≡ length ts → cut_conjunction (drop i ts) P ≡ P
cut-end [] i P h = absurd (omega arith)
cut-end (t ∷ []) zero P h = refl
cut-end (t ∷ []) (suc i) P h = absurd (omega arith)
cut-end (t ∷ u ∷ us) zero P h = absurd (omega arith)
cut-end (t ∷ u ∷ us) (suc i) P h = cut-end (u ∷ us) i P (omega arith)

pub ruleset conjunctions = (cut-more, cut-end, conjunction-end, conjunction-more)
