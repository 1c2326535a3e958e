-- Texts and values of lists.
use Rattle.std.proofs.Common.{◌≡◌, ℕ, zero, suc, ◌+◌, ◌<◌, ◌≤◌, Bool, true, false, ◌||◌, Result, Ok, Err, List, [], ◌∷◌, length, get_or, map, drop, refl, ap, sym, subst, ◌∙◌, arith}
use Rattle.std.specs.List.{list_any}
use native.Mathlib.Numerals.{unary_clauses}
use Rattle.lisp_data.specs.Values.{Val, Pair, IsSmall}
use Rattle.lisp_data.specs.declared.value.ValueError.{ValueError}
use Rattle.lisp_data.specs.declared.value.ValueError.TheVariants.{TooLarge, NotAValue, Memory}
use Rattle.lisp_data.specs.declared.value.Value.{Value}
use Rattle.lisp_data.specs.Datum.{Datum, chain, nil_form}
use Rattle.lisp_data.specs.FormView.{form_of}
use Rattle.lisp_data.specs.declared.form.Form.{Form}
use Rattle.lisp_reader.specs.FormValue.{has_text, value}
use Rattle.lisp_reader.specs.view.Building.{value_before, SaysBuilt, SaysBefore}

or-assoc : (a b c : Bool) → (a || (b || c)) ≡ ((a || b) || c)
or-assoc true b c = refl
or-assoc false b c = refl

or-false : (a : Bool) → (a || false) ≡ a
or-false true = refl
or-false false = refl

or-right : (a b : Bool) → b ≡ true → (a || b) ≡ true
or-right true b h = refl
or-right false b h = h

pub has_text-chain : (fs : List Datum) (e : Datum) → has_text (chain fs e) ≡ (list_any has_text fs || has_text e)
has_text-chain [] e = refl
has_text-chain (f ∷ fs) e = ap (λ b. has_text f || b) (has_text-chain fs e) ∙ or-assoc (has_text f) (list_any has_text fs) (has_text e)

pub has_text-list : (fs : List Datum) → has_text (chain fs nil_form) ≡ list_any has_text fs
has_text-list fs = has_text-chain fs nil_form ∙ or-false _

-- the texts from a place on
abbrev pub any_from : List Form → ℕ → Bool
any_from fs i = list_any has_text (map form_of (drop i fs))

map-drop : (fs : List Form) (i : ℕ) (d : Form) → i < length fs → map form_of (drop i fs) ≡ form_of (get_or fs i d) ∷ map form_of (drop (i + 1) fs)
map-drop [] i d h = absurd (omega arith)
map-drop (f ∷ fs) zero d h = refl
map-drop (f ∷ fs) (suc i) d h = simp unary_clauses (simp unary_clauses at (map-drop fs i d (omega arith)))

pub any_from-step : (fs : List Form) (i : ℕ) (d : Form) → i < length fs → any_from fs i ≡ (has_text (form_of (get_or fs i d)) || any_from fs (i + 1))
any_from-step fs i d h = ap (list_any has_text) (map-drop fs i d h)

pub any_from-end : (fs : List Form) (i : ℕ) → length fs ≤ i → any_from fs i ≡ false
any_from-end [] zero h = refl
any_from-end [] (suc i) h = refl
any_from-end (f ∷ fs) zero h = absurd (omega arith)
any_from-end (f ∷ fs) (suc i) h = any_from-end fs i (omega arith)

pub ruleset texts = (has_text-chain, has_text-list, any_from-step, any_from-end)

value-chain : (fs : List Datum) (e : Datum) → value (chain fs e) ≡ value_before fs (value e)
value-chain [] e = refl
value-chain (f ∷ fs) e = ap (Pair (value f)) (value-chain fs e)

small-car : (a d : Val) → IsSmall (Pair a d) → IsSmall a
small-car a d s = record { path_fits = omega (arith, s.path_fits); pairs_fit = omega (arith, s.pairs_fit) }

small-cdr : (a d : Val) → IsSmall (Pair a d) → IsSmall d
small-cdr a d s = record { path_fits = omega (arith, s.path_fits); pairs_fit = omega (arith, s.pairs_fit) }

small-end : (fs : List Datum) (e : Val) → IsSmall (value_before fs e) → IsSmall e
small-end [] e s = s
small-end (f ∷ fs) e s = small-end fs e (small-cdr _ _ s)

-- what the items and the end give is what the list gives
pub before-built : (f : Datum) (fs : List Datum) (end : Datum) (e : Val) (r : Result Value ValueError) → f ≡ chain fs end → e ≡ value end → SaysBefore fs e r → SaysBuilt f r
before-built f fs end e (Ok v) p q h =
    let same : value_before fs e ≡ value f = ap (value_before fs) q ∙ sym (value-chain fs end) ∙ ap value (sym p) in
    (h.0 ∙ same, subst IsSmall same h.1)
before-built f fs end e (Err TooLarge) p q h =
    let same : value f ≡ value_before fs e = ap value p ∙ value-chain fs end ∙ ap (value_before fs) (sym q) in
    λ s. h (subst IsSmall same s)
before-built f fs end e (Err NotAValue) p q h = ap has_text p ∙ has_text-chain fs end ∙ ap (λ b. b || has_text end) h
before-built f fs end e (Err Memory) p q h = tt

-- a refusal of the end is one of the list
pub end-refused : (f : Datum) (fs : List Datum) (end : Datum) (x : ValueError) → f ≡ chain fs end → SaysBuilt end (Err x) → SaysBuilt f (Err x)
end-refused f fs end TooLarge p h = λ s. h (small-end fs (value end) (subst IsSmall (ap value p ∙ value-chain fs end) s))
end-refused f fs end NotAValue p h = ap has_text p ∙ has_text-chain fs end ∙ or-right (list_any has_text fs) (has_text end) h
end-refused f fs end Memory p h = tt

pub before-step : (xs : List Form) (i : ℕ) (d : Form) (e : Val) → i < length xs →
    value_before (map form_of (drop i xs)) e ≡ Pair (value (form_of (get_or xs i d))) (value_before (map form_of (drop (i + 1) xs)) e)
before-step xs i d e h = ap (λ fs. value_before fs e) (map-drop xs i d h)

small-from : (xs : List Form) (i : ℕ) (e : Val) → IsSmall (value_before (map form_of xs) e) → IsSmall (value_before (map form_of (drop i xs)) e)
small-from xs zero e s = s
small-from [] (suc i) e s = s
small-from (x ∷ xs) (suc i) e s = small-from xs i e (small-cdr _ _ s)

-- a list that is too large from a place on, or has an item that is, is too large
pub too_large-from : (xs : List Form) (i : ℕ) (d : Form) (e w : Val) → i < length xs → w ≡ value_before (map form_of (drop (i + 1) xs)) e →
    (IsSmall (Pair (value (form_of (get_or xs i d))) w) → ⊥) → IsSmall (value_before (map form_of xs) e) → ⊥
too_large-from xs i d e w h q h0 s = h0 (subst (λ (u : Val). IsSmall (Pair (value (form_of (get_or xs i d))) u)) (sym q) (subst IsSmall (before-step xs i d e h) (small-from xs i e s)))

pub item_too_large : (xs : List Form) (i : ℕ) (d : Form) (e : Val) → i < length xs →
    (IsSmall (value (form_of (get_or xs i d))) → ⊥) → IsSmall (value_before (map form_of xs) e) → ⊥
item_too_large xs i d e h h0 s = h0 (small-car _ _ (subst IsSmall (before-step xs i d e h) (small-from xs i e s)))

pub item_has_text : (xs : List Form) (i : ℕ) (d : Form) → i < length xs → has_text (form_of (get_or xs i d)) ≡ true → list_any has_text (map form_of xs) ≡ true
item_has_text [] i d h t = absurd (omega arith)
item_has_text (x ∷ xs) zero d h t = ap (λ b. b || list_any has_text (map form_of xs)) t
item_has_text (x ∷ xs) (suc i) d h t = or-right _ _ (item_has_text xs i d (omega arith) t)

pub ruleset built = (before-built, end-refused, before-step, too_large-from, item_too_large, item_has_text)
