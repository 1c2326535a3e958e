-- How many forms a book has, and how one that goes on ends.
use Rattle.std.proofs.Common.{◌≡◌, ℕ, zero, suc, ◌+◌, ◌-◌, ◌≤◌, Bool, true, false, ◌&&◌, not, nat_eq, if◌then◌else◌, List, [], ◌∷◌, length, drop, Option, Some, None, refl, sym, subst, arith}
use Rattle.lisp_data.specs.Datum.{Datum}
use Rattle.std.proofs.lemmas.Bool.Decides.{nat_tests}
use Rattle.lisp_data.specs.Atoms.{in_atom, is_delimiter, leaf}
use Rattle.lisp_reader.specs.Spans.{is_blank, opens_block, Front, Nothing, Gap, EndlessGap, Open, Close, Quote, Text, EndlessText, Atom, Stray, front, begins, is_sharp, gaps, behind}
use Rattle.lisp_reader.specs.Grammar.{Read, Got, Bad, shift, one_by, items, quote_form, mapped, form, begins_form, next_form, book_and, before, book, parse}
use Rattle.lisp_data.specs.declared.code.Code.{Code}
use Rattle.lisp_data.specs.declared.code.Code.TheVariants.{TooDeep, BookTooLong}
use Rattle.lisp_reader.specs.declared.limits.TheConstants.{MAX_FORMS, MAX_NESTING}

abbrev Books : Type 0
Books = List (Datum × ℕ) × Option (Code × ℕ)

abbrev pub IsBad : Read → Type 0
IsBad (Got f n) = ⊥
IsBad (Bad c n) = Unit {0}

module _ (more : Bool) where
  one_bad : (inside : Bool) (list mark : List ℕ → Read) (text : List ℕ) (f : Front) → begins f ≡ false → IsBad (one_by more inside list mark text f)
  one_bad inside list mark text Nothing e = tt
  one_bad inside list mark text (Gap n) e = tt
  one_bad inside list mark text EndlessGap e = tt
  one_bad inside list mark text Open e = cc
  one_bad inside list mark text Close e = tt
  one_bad inside list mark text Quote e = cc
  one_bad inside list mark text (Text n) e = cc
  one_bad inside list mark text EndlessText e = cc
  one_bad inside list mark text (Atom n) e = cc
  one_bad inside list mark text Stray e = tt

  shift_bad : (n : ℕ) (r : Read) → IsBad r → IsBad (shift n r)
  shift_bad n (Got f m) h = absurd h
  shift_bad n (Bad c m) h = tt

  form_bad : (inside : Bool) (depth : ℕ) (text : List ℕ) → begins (front (behind text)) ≡ false → IsBad (form more inside depth text)
  unfolding form
  form_bad inside zero text e = shift_bad (gaps text) _ (one_bad inside (λ t. Bad TooDeep 0) (λ t. Bad TooDeep 0) (behind text) (front (behind text)) e)
  form_bad inside (suc depth) text e =
      shift_bad (gaps text) _
      (one_bad inside (λ t. shift 1 (items more (form more true depth) false 0 (drop 1 t))) (λ t. shift 1 (mapped quote_form (form more true depth (drop 1 t)))) (behind text) (front (behind text)) e)

  -- a number sign alone where the book goes on
  sharp_here : (inside : Bool) (list mark : List ℕ → Read) → IsBad (one_by true inside list mark (35 ∷ []) (front (35 ∷ [])))
  unfolding front in_atom is_delimiter is_blank opens_block leaf
  sharp_here inside list mark = tt

  sharp_one : (inside : Bool) (list mark : List ℕ → Read) (b : ℕ) → nat_eq b 35 ≡ true → more ≡ true → IsBad (one_by more inside list mark (b ∷ []) (front (b ∷ [])))
  sharp_one inside list mark b h m =
      let same : b ≡ 35 = grind (arith, nat_tests) in
      subst (λ k. IsBad (one_by more inside list mark (k ∷ []) (front (k ∷ [])))) (sym same) (subst (λ c. IsBad (one_by c inside list mark (35 ∷ []) (front (35 ∷ [])))) (sym m) (sharp_here inside list mark))

  sharp_any : (inside : Bool) (list mark : List ℕ → Read) (text : List ℕ) → (more && is_sharp text) ≡ true → IsBad (one_by more inside list mark text (front text))
  sharp_any inside list mark text h = on more text refl h
    where
      on : (m : Bool) (t : List ℕ) → more ≡ m → (m && is_sharp t) ≡ true → IsBad (one_by more inside list mark t (front t))
      on true [] e k = cc
      on true (b ∷ []) e k = sharp_one inside list mark b k e
      on true (b ∷ c ∷ t) e k = cc
      on false t e k = cc

  sharp_bad : (inside : Bool) (depth : ℕ) (text : List ℕ) → (more && is_sharp (behind text)) ≡ true → IsBad (form more inside depth text)
  unfolding form
  sharp_bad inside zero text h = shift_bad (gaps text) _ (sharp_any inside (λ t. Bad TooDeep 0) (λ t. Bad TooDeep 0) (behind text) h)
  sharp_bad inside (suc depth) text h =
      shift_bad (gaps text) _
      (sharp_any inside (λ t. shift 1 (items more (form more true depth) false 0 (drop 1 t))) (λ t. shift 1 (mapped quote_form (form more true depth (drop 1 t)))) (behind text) h)

  -- no form is read where no more may come
  pub none_bad : (text : List ℕ) → IsBad (next_form more true text)
  unfolding begins_form
  none_bad text = by_front (begins (front (behind text))) (more && is_sharp (behind text)) refl refl
    where
      by_front : (b c : Bool) → begins (front (behind text)) ≡ b → (more && is_sharp (behind text)) ≡ c → IsBad (if (b && not c) && true then Bad BookTooLong (gaps text) else form more false MAX_NESTING text)
      by_front true true e h = sharp_bad false MAX_NESTING text h
      by_front true false e h = tt
      by_front false c e h = form_bad false MAX_NESTING text e

  few_after : (left place : ℕ) (r : Read) (rest : Datum → ℕ → Books) → (nat_eq left 0 ≡ true → IsBad r) → ((f : Datum) (n : ℕ) → length (rest f n).0 ≤ suc (left - 1)) → length (book_and more r place rest).0 ≤ left
  few_after left place (Bad c n) rest none h = omega arith
  few_after zero place (Got f n) rest none h = absurd (none refl)
  few_after (suc left) place (Got f n) rest none h = omega (arith, h f n)

  -- no more forms than may come
  pub few_forms : (left place skip : ℕ) (text : List ℕ) → length (book more left place skip text).0 ≤ left
  unfolding book
  few_forms left place skip [] = omega arith
  few_forms left place (suc skip) (b ∷ t) = few_forms left (place + 1) skip t
  few_forms left place zero (b ∷ t) =
      by_end (nat_eq (length (behind (b ∷ t))) 0) (if more then Some (BookTooLong, place + gaps (b ∷ t)) else None)
      (book_and more (next_form more (nat_eq left 0) (b ∷ t)) place (λ f n. before more (f, place + gaps (b ∷ t)) (book more (left - 1) (place + 1) n t)))
      (few_after left place (next_form more (nat_eq left 0) (b ∷ t)) (λ f n. before more (f, place + gaps (b ∷ t)) (book more (left - 1) (place + 1) n t)) (λ e. subst (λ n. IsBad (next_form more n (b ∷ t))) (sym e) (none_bad (b ∷ t))) (λ f n. let h = few_forms (left - 1) (place + 1) n t in omega arith))
    where
      by_end : (c : Bool) (x : Option (Code × ℕ)) (y : Books) → length y.0 ≤ left → length (if c then ([], x) else y).0 ≤ left
      by_end true x y h = omega arith
      by_end false x y h = h

pub few : (more : Bool) (text : List ℕ) → length (parse more text).0 ≤ MAX_FORMS
few more text = few_forms more MAX_FORMS 0 0 text

abbrev IsThere : Option (Code × ℕ) → Type 0
IsThere None = ⊥
IsThere (Some fault) = Unit {0}

-- a book that goes on never ends with its last form
module _ where
  book_goes_on : (left place skip : ℕ) (text : List ℕ) → IsThere (book true left place skip text).1
  unfolding book
  book_goes_on left place skip [] = tt
  book_goes_on left place (suc skip) (b ∷ t) = book_goes_on left (place + 1) skip t
  book_goes_on left place zero (b ∷ t) =
      by_end (nat_eq (length (behind (b ∷ t))) 0) (book_and true (next_form true (nat_eq left 0) (b ∷ t)) place (λ f n. before true (f, place + gaps (b ∷ t)) (book true (left - 1) (place + 1) n t)))
      (after (next_form true (nat_eq left 0) (b ∷ t)) (λ n. book_goes_on (left - 1) (place + 1) n t))
    where
      by_end : (c : Bool) (y : Books) → IsThere y.1 → IsThere (if c then ([], Some (BookTooLong, place + gaps (b ∷ t))) else y).1
      by_end true y h = tt
      by_end false y h = h

      after : (r : Read) → ((n : ℕ) → IsThere (book true (left - 1) (place + 1) n t).1) → IsThere (book_and true r place (λ f n. before true (f, place + gaps (b ∷ t)) (book true (left - 1) (place + 1) n t))).1
      after (Got f n) h = h n
      after (Bad c n) h = tt

pub goes_on : (text : List ℕ) → (parse true text).1 ≡ None → ⊥
goes_on text e = subst IsThere e (book_goes_on MAX_FORMS 0 0 text)
