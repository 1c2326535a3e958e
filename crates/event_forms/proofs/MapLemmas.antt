-- The pairs of a formal and an isomorphism, one at a time.
use Rattle.std.proofs.Common.{◌≡◌, ℕ, zero, suc, ◌+◌, ◌<◌, ◌≤◌, Ok, Err, List, [], ◌∷◌, ◌++◌, length, get_or, map, drop, refl, ap, sym, ◌∙◌, arith, append_assoc, append-nil}
use native.Mathlib.Numerals.{unary_clauses}
use Rattle.std.proofs.lemmas.List.{drop_all}
use Rattle.lisp_data.specs.FormView.{form_of}
use Rattle.lisp_data.specs.declared.form.Form.{Form}
use Rattle.lisp_data.specs.Values.{Name}
use Rattle.term_forms.specs.Translation.{Outcome, and_rest}
use Rattle.term_forms.specs.Outcomes.{after}
use Rattle.proof_texts.proofs.ItemLemmas.{proper_at}
use Rattle.proof_texts.specs.Items.{items_of}
use Rattle.event_forms.specs.Representations.{map_by, maps_of}
use Rattle.event_forms.specs.Refused.{IsRefusal}
use Rattle.event_forms.specs.declared.errors.EventError.{EventError}
use Rattle.event_forms.specs.declared.errors.EventError.TheVariants.{Refused, Memory}

abbrev map_of : Form → Outcome (Name × Name)
map_of form = map_by (items_of (form_of form))

-- the pairs from a place on
abbrev pub maps_from : List Form → ℕ → Outcome (List (Name × Name))
maps_from xs i = maps_of (map form_of (drop i xs))

step : (xs : List Form) (i : ℕ) (d : Form) → i < length xs → maps_from xs i ≡ and_rest (map_of (get_or xs i d)) (maps_from xs (i + 1))
step [] i d h = absurd (omega arith)
step (x ∷ xs) zero d h = refl
step (x ∷ xs) (suc i) d h = simp unary_clauses (simp unary_clauses at (step xs i d (omega arith)))

after-step : (ps : List (Name × Name)) (p : (Name × Name)) (o : Outcome (List (Name × Name))) → after (ps ++ p ∷ []) o ≡ after ps (and_rest (Ok p) o)
after-step ps p (Err e) = refl
after-step ps p (Ok qs) = ap Ok (append_assoc ps (p ∷ []) qs)

pub maps-more : (xs : List Form) (i : ℕ) (d : Form) (ps : List (Name × Name)) (p : (Name × Name)) → i < length xs →
    map_by (items_of (form_of (get_or xs i d))) ≡ Ok p →
    after (ps ++ p ∷ []) (maps_from xs (i + 1)) ≡ after ps (maps_from xs i)
maps-more xs i d ps p h e =
    after-step ps p (maps_from xs (i + 1)) ∙ ap (after ps) (ap (λ o. and_rest o (maps_from xs (i + 1))) (sym e) ∙ sym (step xs i d h))

pub maps-refused : (xs : List Form) (i : ℕ) (d : Form) (ps : List (Name × Name)) (e : EventError) → i < length xs →
    after ps (maps_from xs i) ≡ maps_from xs 0 → IsRefusal (map_by (items_of (form_of (get_or xs i d)))) e → IsRefusal (maps_from xs 0) e
maps-refused xs i d ps (Refused code detail) h g r =
    sym g ∙ ap (after ps) (step xs i d h ∙ ap (λ o. and_rest o (maps_from xs (i + 1))) r)
maps-refused xs i d ps Memory h g r = tt

pub maps-end : (xs : List Form) (i : ℕ) (ps : List (Name × Name)) → length xs ≤ i → after ps (maps_from xs i) ≡ maps_from xs 0 → maps_from xs 0 ≡ Ok ps
maps-end xs i ps h g = sym g ∙ ap (λ zs. after ps (maps_of (map form_of zs))) (drop_all i xs h) ∙ ap Ok (append-nil ps)

pub ruleset maps = (maps-more, maps-refused, maps-end, proper_at)
