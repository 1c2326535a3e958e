-- Outcomes that are found one after the other.
use Rattle.std.proofs.Common.{◌≡◌, ℕ, zero, suc, ◌+◌, ◌<◌, ◌≤◌, Ok, Err, List, [], ◌∷◌, ◌++◌, length, get_or, drop, refl, ap, sym, ◌∙◌, arith}
use native.Mathlib.Numerals.{unary_clauses}
use Rattle.std.proofs.lemmas.List.{append-nil, drop_all}
use Rattle.term_forms.specs.declared.translation.TermError.{TermError}
use Rattle.term_forms.specs.declared.translation.TermError.TheVariants.{Refused, Memory}
use Rattle.term_forms.specs.Translation.{Outcome, and_rest, and_then, map_outcome}
use Rattle.term_forms.specs.view.TranslationView.{SaysOutcome}
use Rattle.term_forms.specs.Outcomes.{each, after}

-- a refusal of the first is one of both
pub says-and_then : {A B : Type 0} (o : Outcome A) (f : A → Outcome B) (e : TermError) →
    SaysOutcome {A = A} o (Err e) → SaysOutcome {A = B} (and_then o f) (Err e)
says-and_then o f (Refused code detail) h = ap (λ o. and_then o f) h
says-and_then o f Memory h = tt

pub says-map_outcome : {A B : Type 0} (f : A → B) (o : Outcome A) (e : TermError) →
    SaysOutcome {A = A} o (Err e) → SaysOutcome {A = B} (map_outcome f o) (Err e)
says-map_outcome f o (Refused code detail) h = ap (map_outcome f) h
says-map_outcome f o Memory h = tt

after-step : {A : Type 0} (xs : List A) (x : A) (o : Outcome (List A)) → after (xs ++ x ∷ []) o ≡ after xs (and_rest (Ok x) o)
after-step {A = A} xs x (Err e) = refl
after-step {A = A} xs x (Ok ys) = ap Ok (more xs)
  where
    more : (zs : List A) → (zs ++ x ∷ []) ++ ys ≡ zs ++ x ∷ ys
    more [] = refl
    more (z ∷ zs) = ap (λ r. z ∷ r) (more zs)

module _ {A B : Type 0} (f : A → Outcome B) where
  -- from a place on: the one there, and the rest
  each-drop : (xs : List A) (i : ℕ) (d : A) → i < length xs → each f (drop i xs) ≡ and_rest (f (get_or xs i d)) (each f (drop (i + 1) xs))
  each-drop [] i d h = absurd (omega arith)
  each-drop (x ∷ xs) zero d h = refl
  each-drop (x ∷ xs) (suc i) d h = simp unary_clauses (simp unary_clauses at (each-drop xs i d (omega arith)))

  pub each-more : (xs : List A) (i : ℕ) (d : A) (ys : List B) (y : B) → i < length xs → f (get_or xs i d) ≡ Ok y →
      after (ys ++ y ∷ []) (each f (drop (i + 1) xs)) ≡ after ys (each f (drop i xs))
  each-more xs i d ys y h e =
      after-step ys y (each f (drop (i + 1) xs)) ∙ ap (after ys) (ap (λ o. and_rest o (each f (drop (i + 1) xs))) (sym e) ∙ sym (each-drop xs i d h))

  pub each-refused : (xs : List A) (i : ℕ) (d : A) (ys : List B) (e : TermError) → i < length xs →
      after ys (each f (drop i xs)) ≡ each f xs → SaysOutcome {A = B} (f (get_or xs i d)) (Err e) → SaysOutcome {A = List B} (each f xs) (Err e)
  each-refused xs i d ys (Refused code detail) h g r =
      sym g ∙ ap (after ys) (each-drop xs i d h ∙ ap (λ o. and_rest o (each f (drop (i + 1) xs))) r)
  each-refused xs i d ys Memory h g r = tt

  pub each-end : (xs : List A) (i : ℕ) (ys : List B) → length xs ≤ i → after ys (each f (drop i xs)) ≡ each f xs → each f xs ≡ Ok ys
  each-end xs i ys h g = sym g ∙ ap (λ zs. after ys (each f zs)) (drop_all i xs h) ∙ ap Ok (append-nil ys)

  pub each-length : (xs : List A) (ys : List B) → each f xs ≡ Ok ys → length ys ≡ length xs
  each-length [] ys h = ap length (let e : ys ≡ [] = cc in e)
  each-length (x ∷ xs) ys h = by_outcomes (f x) (each f xs) (each-length xs) h
    where
      by_outcomes : (o : Outcome B) (p : Outcome (List B)) → ((zs : List B) → p ≡ Ok zs → length zs ≡ length xs) → and_rest o p ≡ Ok ys → length ys ≡ length (x ∷ xs)
      by_outcomes (Err e) p ih h = cc
      by_outcomes (Ok y) (Err e) ih h = cc
      by_outcomes (Ok y) (Ok zs) ih h =
          let is : ys ≡ y ∷ zs = cc in
          ap length is ∙ ap suc (ih zs refl)
