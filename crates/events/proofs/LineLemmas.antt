-- Lines that are added one after the other.
use Rattle.std.proofs.Common.{◌≡◌, ℕ, zero, suc, ◌+◌, ◌<◌, List, [], ◌∷◌, ◌++◌, length, get_or, drop, map, ap, sym, ◌∙◌, arith, append_assoc, append-nil}
use native.Mathlib.Numerals.{unary_clauses}
use Rattle.std.proofs.lemmas.List.{drop_all, drop_more}
use Rattle.terms.specs.Terms.{Tm}
use Rattle.events.specs.Lines.{hypothesis_line}

hypotheses-step : (hyps : List Tm) (i : ℕ) (hyp : Tm) → i < length hyps → hyp ≡ get_or hyps i hyp → map hypothesis_line (drop i hyps) ≡ hypothesis_line hyp ∷ map hypothesis_line (drop (i + 1) hyps)
hypotheses-step [] i hyp h e = absurd (omega arith)
hypotheses-step (t ∷ hyps) zero hyp h e = ap (λ u. hypothesis_line u ∷ map hypothesis_line hyps) (sym e)
hypotheses-step (t ∷ hyps) (suc i) hyp h e = simp unary_clauses (simp unary_clauses at (hypotheses-step hyps i hyp (omega arith) e))

-- the line of one more hypothesis
pub hypotheses-more : (hyps : List Tm) (i : ℕ) (hyp : Tm) (old new whole : List (List ℕ)) (line : List ℕ) → i < length hyps → hyp ≡ get_or hyps i hyp → line ≡ hypothesis_line hyp → new ≡ old ++ line ∷ [] → old ++ map hypothesis_line (drop i hyps) ≡ whole → new ++ map hypothesis_line (drop (i + 1) hyps) ≡ whole
hypotheses-more hyps i hyp old new whole line h e line_is new_is before =
    let rest = map hypothesis_line (drop (i + 1) hyps) in
    ap (λ (ls : List (List ℕ)). ls ++ rest) new_is
    ∙ append_assoc old (line ∷ []) rest
    ∙ ap (λ (l : List ℕ). old ++ l ∷ rest) line_is
    ∙ ap (λ (ls : List (List ℕ)). old ++ ls) (sym (hypotheses-step hyps i hyp h e))
    ∙ before

pub ruleset lines = (drop_more, drop_all, append_assoc, append-nil)
