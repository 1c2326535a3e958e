-- The pairs of an instance, one at a time.
use Rattle.std.proofs.Common.{◌≡◌, ℕ, zero, suc, ◌+◌, ◌<◌, ◌≤◌, Ok, Err, List, [], ◌∷◌, ◌++◌, length, get_or, map, drop, refl, ap, sym, ◌∙◌, arith, append_assoc, append-nil}
use native.Mathlib.Numerals.{unary_clauses}
use Rattle.std.proofs.lemmas.List.{drop_all}
use Rattle.lisp_data.specs.FormView.{form_of}
use Rattle.lisp_data.specs.declared.form.Form.{Form}
use Rattle.terms.specs.declared.entries.FunPair.{FunPair}
use Rattle.term_forms.specs.Translation.{Outcome, and_rest}
use Rattle.term_forms.specs.Outcomes.{after}
use Rattle.proof_texts.proofs.ItemLemmas.{proper_at}
use Rattle.proof_texts.specs.Parts.{two_symbols}
use Rattle.event_forms.specs.Instances.{pair_by, pairs_of}
use Rattle.event_forms.specs.Refused.{IsRefusal}
use Rattle.event_forms.specs.declared.errors.EventError.{EventError}
use Rattle.event_forms.specs.declared.errors.EventError.TheVariants.{Refused, Memory}

abbrev pair_of : Form → Outcome FunPair
pair_of form = pair_by (two_symbols (form_of form))

-- the pairs from a place on
abbrev pub pairs_from : List Form → ℕ → Outcome (List FunPair)
pairs_from xs i = pairs_of (map form_of (drop i xs))

step : (xs : List Form) (i : ℕ) (d : Form) → i < length xs → pairs_from xs i ≡ and_rest (pair_of (get_or xs i d)) (pairs_from xs (i + 1))
step [] i d h = absurd (omega arith)
step (x ∷ xs) zero d h = refl
step (x ∷ xs) (suc i) d h = simp unary_clauses (simp unary_clauses at (step xs i d (omega arith)))

after-step : (ps : List FunPair) (p : FunPair) (o : Outcome (List FunPair)) → after (ps ++ p ∷ []) o ≡ after ps (and_rest (Ok p) o)
after-step ps p (Err e) = refl
after-step ps p (Ok qs) = ap Ok (append_assoc ps (p ∷ []) qs)

pub pairs-more : (xs : List Form) (i : ℕ) (d : Form) (ps : List FunPair) (p : FunPair) → i < length xs →
    pair_by (two_symbols (form_of (get_or xs i d))) ≡ Ok p →
    after (ps ++ p ∷ []) (pairs_from xs (i + 1)) ≡ after ps (pairs_from xs i)
pairs-more xs i d ps p h e =
    after-step ps p (pairs_from xs (i + 1)) ∙ ap (after ps) (ap (λ o. and_rest o (pairs_from xs (i + 1))) (sym e) ∙ sym (step xs i d h))

pub pairs-refused : (xs : List Form) (i : ℕ) (d : Form) (ps : List FunPair) (e : EventError) → i < length xs →
    after ps (pairs_from xs i) ≡ pairs_from xs 0 → IsRefusal (pair_by (two_symbols (form_of (get_or xs i d)))) e → IsRefusal (pairs_from xs 0) e
pairs-refused xs i d ps (Refused code detail) h g r =
    sym g ∙ ap (after ps) (step xs i d h ∙ ap (λ o. and_rest o (pairs_from xs (i + 1))) r)
pairs-refused xs i d ps Memory h g r = tt

pub pairs-end : (xs : List Form) (i : ℕ) (ps : List FunPair) → length xs ≤ i → after ps (pairs_from xs i) ≡ pairs_from xs 0 → pairs_from xs 0 ≡ Ok ps
pairs-end xs i ps h g = sym g ∙ ap (λ zs. after ps (pairs_of (map form_of zs))) (drop_all i xs h) ∙ ap Ok (append-nil ps)

pub ruleset pairs = (pairs-more, pairs-refused, pairs-end, proper_at)
