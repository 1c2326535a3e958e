-- The clauses of `cond`, from the last one on.
use Rattle.std.proofs.Common.{◌≡◌, ℕ, zero, suc, ◌+◌, ◌<◌, ◌≤◌, Bool, true, false, Ok, Err, List, [], ◌∷◌, length, get_or, take, drop, if◌then◌else◌, refl, ap, sym, ◌∙◌, arith}
use native.Mathlib.Numerals.{unary_clauses}
use Rattle.std.proofs.lemmas.List.{drop_all}
use Rattle.term_forms.specs.declared.translation.TermError.{TermError}
use Rattle.term_forms.specs.declared.translation.TermError.TheVariants.{Refused, Memory}
use Rattle.terms.specs.Terms.{Tm}
use Rattle.term_forms.specs.Macros.{if_of}
use Rattle.term_forms.specs.Translation.{Clause, chosen, limited}
use Rattle.term_forms.specs.view.TranslationView.{SaysOutcome}
use Rattle.term_forms.specs.Words.{folded}
use Rattle.term_forms.specs.Clauses.{open_clauses, choice, behind_open}
use Rattle.term_forms.proofs.Growing.{limited-same, larger-refused}
use Rattle.term_forms.proofs.Folds.{folded-more, IsGrowing, within-folded}

pub open-step : (cs : List Clause) (i : ℕ) (c : Clause) → i < length cs → c ≡ get_or cs i c → open_clauses (drop i cs) ≡ (if c.is_last then 0 else suc (open_clauses (drop (i + 1) cs)))
open-step [] i c h e = absurd (omega arith)
open-step (x ∷ cs) zero c h e = ap (λ (c : Clause). if c.is_last then 0 else suc (open_clauses cs)) (sym e)
open-step (x ∷ cs) (suc i) c h e = simp unary_clauses (simp unary_clauses at (open-step cs i c (omega arith) e))

pub open-end : (cs : List Clause) (i : ℕ) → length cs ≤ i → open_clauses (drop i cs) ≡ 0
open-end cs i h = ap open_clauses (drop_all i cs h)

pub open-within : (cs : List Clause) → open_clauses cs ≤ length cs
open-within [] = omega arith
open-within (c ∷ cs) = by_test c.is_last (open-within cs)
  where
    by_test : (b : Bool) → open_clauses cs ≤ length cs → (if b then 0 else suc (open_clauses cs)) ≤ length (c ∷ cs)
    by_test true h = omega arith
    by_test false h = omega arith

pub ruleset opened = (open-step, open-end)

choice-grows : IsGrowing choice
choice-grows c r = record { few = omega arith; low = omega arith }

pub step-refused : (cs : List Clause) (i : ℕ) (d : Clause) (r all : Tm) (e : TermError) → i < length cs → folded choice (take (i + 1) cs) r ≡ all →
    SaysOutcome {A = Tm} (limited (choice (get_or cs i d) r)) (Err e) → SaysOutcome {A = Tm} (limited all) (Err e)
step-refused cs i d r all (Refused code detail) h p says =
    let whole : folded choice (take i cs) (choice (get_or cs i d) r) ≡ all = folded-more choice cs i d r h ∙ p in
    ap limited (sym whole) ∙ larger-refused (choice (get_or cs i d) r) (folded choice (take i cs) (choice (get_or cs i d) r)) (code, detail) (within-folded choice (take i cs) (choice (get_or cs i d) r) choice-grows) says
step-refused cs i d r all Memory h p says = tt

pub step-taken : (cs : List Clause) (i j : ℕ) (x : Clause) (r t all : Tm) → i < length cs → i + 1 ≡ j → x ≡ get_or cs i x → folded choice (take j cs) r ≡ all →
    limited (choice x r) ≡ Ok t → folded choice (take i cs) t ≡ all
step-taken cs i j x r t all h n q p e =
    ap (folded choice (take i cs)) (limited-same (choice x r) t e ∙ ap (λ (x : Clause). choice x r) q) ∙ folded-more choice cs i x r h ∙ ap (λ k. folded choice (take k cs) r) n ∙ p

pub ruleset steps = (folded-more, step-refused)

pub chosen-open : (cs : List Clause) → folded choice (take (open_clauses cs) cs) (behind_open (drop (open_clauses cs) cs)) ≡ chosen cs
chosen-open [] = refl
chosen-open (c ∷ cs) = by_test c.is_last (chosen-open cs)
  where
    by_test : (b : Bool) → folded choice (take (open_clauses cs) cs) (behind_open (drop (open_clauses cs) cs)) ≡ chosen cs →
        folded choice (take (if b then 0 else suc (open_clauses cs)) (c ∷ cs)) (behind_open (drop (if b then 0 else suc (open_clauses cs)) (c ∷ cs)))
        ≡ (if b then c.answer else if_of c.test c.answer (chosen cs))
    by_test true h = refl
    by_test false h = ap (choice c) h

pub ruleset up_to_last = (chosen-open, open-within)
