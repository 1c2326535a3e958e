-- Formals, one by one.
use Rattle.std.proofs.Common.{◌≡◌, ℕ, zero, suc, ◌+◌, ◌<◌, ◌≤◌, Bool, true, false, ◌||◌, bytes_eq, List, [], ◌∷◌, ◌++◌, length, get_or, map, take, drop, Ok, Err, if◌then◌else◌, refl, ap, sym, ◌∙◌, arith, append_assoc}
use native.Mathlib.Numerals.{unary_clauses}
use Rattle.std.proofs.lemmas.List.{drop_all, append-nil}
use Rattle.lisp_data.specs.Values.{Name}
use Rattle.lisp_data.specs.FormView.{form_of}
use Rattle.lisp_data.specs.declared.code.Code.{Code}
use Rattle.lisp_data.specs.declared.code.Code.TheVariants.{RepeatedFormal}
use Rattle.lisp_data.specs.declared.detail.Detail.{Detail}
use Rattle.lisp_data.specs.declared.detail.Detail.TheVariants as detail
use Rattle.lisp_data.specs.declared.form.Form.{Form}
use Rattle.terms.specs.Worlds.{is_in}
use Rattle.term_forms.specs.Translation.{Outcome, map_outcome, and_rest, distinct_after}
use Rattle.proof_texts.proofs.ItemLemmas.{proper_at}
use Rattle.events.specs.Definitions.{formal_of, names_of}

-- the names from the place i on
abbrev pub names_from : List Form → ℕ → Outcome (List Name)
names_from xs i = names_of (map form_of (drop i xs))

abbrev pub joined : List Name → Outcome (List Name) → Outcome (List Name)
joined ns o = map_outcome (λ ms. ns ++ ms) o

names_from-step : (xs : List Form) (i : ℕ) (d : Form) → i < length xs → names_from xs i ≡ and_rest (formal_of (form_of (get_or xs i d))) (names_from xs (i + 1))
names_from-step [] i d h = absurd (omega arith)
names_from-step (x ∷ xs) zero d h = refl
names_from-step (x ∷ xs) (suc i) d h = simp unary_clauses (simp unary_clauses at (names_from-step xs i d (omega arith)))

joined-more : (ns : List Name) (x : Name) (o : Outcome (List Name)) → joined (ns ++ x ∷ []) o ≡ joined ns (map_outcome (λ ms. x ∷ ms) o)
joined-more ns x (Err e) = refl
joined-more ns x (Ok ms) = ap Ok (append_assoc ns (x ∷ []) ms)

pub names-some : (xs : List Form) (i : ℕ) (d : Form) (ns : List Name) (x : Name) → i < length xs → formal_of (form_of (get_or xs i d)) ≡ Ok x → joined (ns ++ x ∷ []) (names_from xs (i + 1)) ≡ joined ns (names_from xs i)
names-some xs i d ns x h e = joined-more ns x (names_from xs (i + 1)) ∙ ap (joined ns) (sym (names_from-step xs i d h ∙ ap (λ o. and_rest o (names_from xs (i + 1))) e))

pub names-err : (xs : List Form) (i : ℕ) (d : Form) (e : Code × Detail) → i < length xs → formal_of (form_of (get_or xs i d)) ≡ Err e → names_from xs i ≡ Err e
names-err xs i d e h same = names_from-step xs i d h ∙ ap (λ o. and_rest o (names_from xs (i + 1))) same

pub joined-err : (ns : List Name) (o q : Outcome (List Name)) (e : Code × Detail) → joined ns o ≡ q → o ≡ Err e → q ≡ Err e
joined-err ns o q e h same = sym h ∙ ap (joined ns) same

pub names-end : (xs : List Form) (i : ℕ) (ns : List Name) → length xs ≤ i → joined ns (names_from xs i) ≡ names_from xs 0 → names_from xs 0 ≡ Ok ns
names-end xs i ns h e = sym e ∙ ap (λ zs. joined ns (names_of (map form_of zs))) (drop_all i xs h) ∙ ap Ok (append-nil ns)

pub ruleset formals = (names-some, names-err, joined-err, names-end, proper_at)

-- names that were seen, in another order
module _ (a b : List Name) (same : (x : Name) → is_in a x ≡ is_in b x) where
  or_same : (x y : Name) → is_in (x ∷ a) y ≡ is_in (x ∷ b) y
  or_same x y = ap (λ c. bytes_eq x y || c) (same y)

pub distinct_seen : (a b xs : List Name) → ((x : Name) → is_in a x ≡ is_in b x) → distinct_after a xs ≡ distinct_after b xs
distinct_seen a b [] same = refl
distinct_seen a b (x ∷ xs) same =
    ap (λ c. if c then Err (RepeatedFormal, detail.Name x) else distinct_after (x ∷ a) xs) (same x)
    ∙ ap (λ o. if is_in b x then Err (RepeatedFormal, detail.Name x) else o) (distinct_seen (x ∷ a) (x ∷ b) xs (or_same a b same x))

or_swap : (a b c : Bool) → (a || (b || c)) ≡ (b || (a || c))
or_swap true true c = refl
or_swap true false c = refl
or_swap false b c = refl

in_end : (ys : List Name) (x y : Name) → is_in (x ∷ ys) y ≡ is_in (ys ++ x ∷ []) y
in_end [] x y = refl
in_end (z ∷ zs) x y = or_swap (bytes_eq x y) (bytes_eq z y) (is_in zs y) ∙ ap (λ c. bytes_eq z y || c) (in_end zs x y)

-- what is left to look at
abbrev pub distinct_from : List Name → ℕ → Outcome (Unit {0})
distinct_from xs i = distinct_after (take i xs) (drop i xs)

take-more : (xs : List Name) (i : ℕ) (d : Name) → i < length xs → take (i + 1) xs ≡ take i xs ++ get_or xs i d ∷ []
take-more [] i d h = absurd (omega arith)
take-more (x ∷ xs) zero d h = refl
take-more (x ∷ xs) (suc i) d h =
    let k : suc i + 1 ≡ suc (i + 1) = omega arith in
    ap (λ n. take n (x ∷ xs)) k ∙ ap (λ ys. x ∷ ys) (take-more xs i d (omega arith))

drop-more : (xs : List Name) (i : ℕ) (d : Name) → i < length xs → drop i xs ≡ get_or xs i d ∷ drop (i + 1) xs
drop-more [] i d h = absurd (omega arith)
drop-more (x ∷ xs) zero d h = refl
drop-more (x ∷ xs) (suc i) d h = simp unary_clauses (simp unary_clauses at (drop-more xs i d (omega arith)))

module _ (xs : List Name) (i : ℕ) (d : Name) (h : i < length xs) where
  here : distinct_from xs i ≡ distinct_after (take i xs) (get_or xs i d ∷ drop (i + 1) xs)
  here = ap (distinct_after (take i xs)) (drop-more xs i d h)

  pub distinct-twice : is_in (take i xs) (get_or xs i d) ≡ true → distinct_from xs i ≡ Err (RepeatedFormal, detail.Name (get_or xs i d))
  distinct-twice e = here ∙ ap (λ c. if c then Err (RepeatedFormal, detail.Name (get_or xs i d)) else distinct_after (get_or xs i d ∷ take i xs) (drop (i + 1) xs)) e

  pub distinct-once : is_in (take i xs) (get_or xs i d) ≡ false → distinct_from xs (i + 1) ≡ distinct_from xs i
  distinct-once e =
      ap (λ ys. distinct_after ys (drop (i + 1) xs)) (take-more xs i d h)
      ∙ sym (distinct_seen (get_or xs i d ∷ take i xs) (take i xs ++ get_or xs i d ∷ []) (drop (i + 1) xs) (in_end (take i xs) (get_or xs i d)))
      ∙ sym (here ∙ ap (λ c. if c then Err (RepeatedFormal, detail.Name (get_or xs i d)) else distinct_after (get_or xs i d ∷ take i xs) (drop (i + 1) xs)) e)

pub distinct-end : (xs : List Name) (i : ℕ) → length xs ≤ i → distinct_from xs i ≡ distinct_from xs 0 → distinct_from xs 0 ≡ Ok tt
distinct-end xs i h e = sym e ∙ ap (distinct_after (take i xs)) (drop_all i xs h)

pub ruleset distinct_steps = (distinct-twice, distinct-once, distinct-end)
