-- Equations on a variable, argument by argument and hypothesis by hypothesis.
use Rattle.std.proofs.Common.{◌≡◌, ℕ, suc, ◌+◌, ◌<◌, ◌≤◌, Bool, true, false, if◌then◌else◌, List, [], ◌∷◌, length, get_or, drop, refl, ap, sym, ◌∙◌, arith}
use Rattle.std.proofs.lemmas.List.{drop_all, drop_more}
use Rattle.lisp_data.specs.Values.{Name}
use Rattle.terms.specs.Terms.{Tm, Tms, Done, tms}
use Rattle.terms.proofs.Args.{tms-drop, depth-get_or}
use Rattle.reduction.specs.Moves.{occurs}
use Rattle.reduction_proofs.specs.Trees.{Proof, Hyp, Replace, Cut}
use Rattle.reduction_proofs.specs.Derived.{forth, equate, equate_all}
use Rattle.reduction_proofs.specs.WayBack.{put_hyps}

equate_all-item : (x : Name) (E P : Proof) (ts : List Tm) (i n : ℕ) (d : Tm) → i < length ts →
    equate_all x E (tms (drop i ts)) n P
    ≡ equate_all x E (tms (drop (i + 1) ts)) (n + 1) (if occurs x (get_or ts i d) then Replace (equate x E (get_or ts i d)) P (2 ∷ n ∷ []) else P)
equate_all-item x E P ts i n d h =
    let next : suc n ≡ n + 1 = omega arith in
    ap (λ us. equate_all x E us n P) (tms-drop ts i d h)
    ∙ ap (λ m. equate_all x E (tms (drop (i + 1) ts)) m (if occurs x (get_or ts i d) then Replace (equate x E (get_or ts i d)) P (2 ∷ n ∷ []) else P)) next

pub equate_all-in : (x : Name) (E P : Proof) (ts : List Tm) (i n : ℕ) (d : Tm) → i < length ts → occurs x (get_or ts i d) ≡ true →
    equate_all x E (tms (drop i ts)) n P ≡ equate_all x E (tms (drop (i + 1) ts)) (n + 1) (Replace (equate x E (get_or ts i d)) P (2 ∷ n ∷ []))
equate_all-in x E P ts i n d h e =
    equate_all-item x E P ts i n d h
    ∙ ap (λ b. equate_all x E (tms (drop (i + 1) ts)) (n + 1) (if b then Replace (equate x E (get_or ts i d)) P (2 ∷ n ∷ []) else P)) e

pub equate_all-out : (x : Name) (E P : Proof) (ts : List Tm) (i n : ℕ) (d : Tm) → i < length ts → occurs x (get_or ts i d) ≡ false →
    equate_all x E (tms (drop i ts)) n P ≡ equate_all x E (tms (drop (i + 1) ts)) (n + 1) P
equate_all-out x E P ts i n d h e =
    equate_all-item x E P ts i n d h
    ∙ ap (λ b. equate_all x E (tms (drop (i + 1) ts)) (n + 1) (if b then Replace (equate x E (get_or ts i d)) P (2 ∷ n ∷ []) else P)) e

pub equate_all-end : (x : Name) (E P : Proof) (ts : List Tm) (i n : ℕ) → length ts ≤ i → equate_all x E (tms (drop i ts)) n P ≡ P
equate_all-end x E P ts i n h = ap (λ us. equate_all x E (tms us) n P) (drop_all i ts h)

pub ruleset equations = (equate_all-in, equate_all-out, equate_all-end, depth-get_or)

pub put_hyps-in : (x : Name) (E P : Proof) (hs : List Tm) (i : ℕ) (d : Tm) → i < length hs → occurs x (get_or hs i d) ≡ true →
    put_hyps x E (drop i hs) P ≡ put_hyps x E (drop (i + 1) hs) (Cut (forth (equate x E (get_or hs i d)) (Hyp (get_or hs i d))) P)
put_hyps-in x E P hs i d h e =
    ap (λ ks. put_hyps x E ks P) (drop_more hs i d h)
    ∙ ap (λ b. put_hyps x E (drop (i + 1) hs) (if b then Cut (forth (equate x E (get_or hs i d)) (Hyp (get_or hs i d))) P else P)) e

pub put_hyps-out : (x : Name) (E P : Proof) (hs : List Tm) (i : ℕ) (d : Tm) → i < length hs → occurs x (get_or hs i d) ≡ false →
    put_hyps x E (drop i hs) P ≡ put_hyps x E (drop (i + 1) hs) P
put_hyps-out x E P hs i d h e =
    ap (λ ks. put_hyps x E ks P) (drop_more hs i d h)
    ∙ ap (λ b. put_hyps x E (drop (i + 1) hs) (if b then Cut (forth (equate x E (get_or hs i d)) (Hyp (get_or hs i d))) P else P)) e

pub put_hyps-end : (x : Name) (E P : Proof) (hs : List Tm) (i : ℕ) → length hs ≤ i → put_hyps x E (drop i hs) P ≡ P
put_hyps-end x E P hs i h = ap (λ ks. put_hyps x E ks P) (drop_all i hs h)

pub ruleset hypotheses = (put_hyps-in, put_hyps-out, put_hyps-end)
