-- A book from a place on.
use Rattle.std.proofs.Common.{◌≡◌, ℕ, zero, suc, ◌+◌, ◌-◌, ◌<◌, ◌≤◌, Bool, true, false, cond, if◌then◌else◌, ◌&&◌, nat_eq, nat_lt, Some, None, Err, List, [], ◌∷◌, length, drop, refl, ap, sym, subst, ◌∙◌, arith, length-drop}
use Rattle.std.proofs.lemmas.List.{drop-drop}
use Rattle.std.proofs.lemmas.Bool.Decides.{nat_tests}
use Rattle.lisp_data.specs.Datum.{Datum}
use Rattle.lisp_reader.specs.Spans.{front, gaps_from, gaps, behind}
use Rattle.lisp_reader.specs.view.TokenView.{seen, IsWithin}
use Rattle.lisp_reader.specs.view.BookSteps.{SaysStep}
use Rattle.lisp_reader.specs.declared.read.ReadError.{ReadError}
use Rattle.lisp_reader.specs.declared.read.ReadError.TheVariants.{Refused}
use Rattle.lisp_reader.specs.declared.token.Token.TheVariants as tokens
use Rattle.lisp_reader.specs.Answers.{Answers}
use Rattle.lisp_reader.specs.Grammar.{Read, Got, Bad, shift, form, begins_form, next_form, book_and, before, book}
use Rattle.lisp_reader.specs.declared.token.Token.{Token}
use Rattle.lisp_reader.proofs.Steps.{behind-at, form-behind}
use Rattle.lisp_reader.proofs.Items.{unshift}
use Rattle.lisp_data.specs.declared.code.Code.{Code}
use Rattle.lisp_data.specs.declared.code.Code.TheVariants.{BookTooLong}
use Rattle.lisp_reader.specs.declared.limits.TheConstants.{MAX_NESTING}

module _ (more : Bool) where
  book-skip : (left place skip : ℕ) (t : List ℕ) → skip ≤ length t → book more left place skip t ≡ book more left (place + skip) 0 (drop skip t)
  unfolding book
  book-skip left place zero [] h = let e : place ≡ place + 0 = omega arith in ap (λ p. book more left p 0 []) e
  book-skip left place zero (b ∷ t) h = let e : place ≡ place + 0 = omega arith in ap (λ p. book more left p 0 (b ∷ t)) e
  book-skip left place (suc k) [] h = absurd (omega arith)
  book-skip left place (suc k) (b ∷ t) h =
      let e : (place + 1) + k ≡ place + suc k = omega arith in
      book-skip left (place + 1) k t (omega arith) ∙ ap (λ p. book more left p 0 (drop k t)) e

  abbrev ended : ℕ → Answers
  ended place = ([], if more then Some (BookTooLong, place) else None)

  pub book-nothing : (left at : ℕ) (t : List ℕ) → length (behind t) ≡ 0 → book more left at 0 t ≡ ended (at + gaps t)
  unfolding book gaps_from
  book-nothing left at [] h = let e : at ≡ at + 0 = omega arith in ap ended e
  book-nothing left at (b ∷ t) h =
      ap (λ n. cond (nat_eq n 0) (ended (at + gaps (b ∷ t))) (book_and more (next_form more (nat_eq left 0) (b ∷ t)) at (λ f n. before more (f, at + gaps (b ∷ t)) (book more (left - 1) (at + 1) n t)))) h

  pub book-and : (left at : ℕ) (t : List ℕ) (r : Read) → nat_eq (length (behind t)) 0 ≡ false → next_form more (nat_eq left 0) t ≡ r →
      (b : ℕ) (s : List ℕ) → t ≡ b ∷ s → book more left at 0 t ≡ book_and more r at (λ f n. before more (f, at + gaps t) (book more (left - 1) (at + 1) n s))
  unfolding book
  book-and left at [] r h e b s is = cc
  book-and left at (a ∷ t) r h e b s is =
      let same : t ≡ s = cc in
      let rest : List ℕ → Datum → ℕ → Answers = λ s f n. before more (f, at + gaps (a ∷ t)) (book more (left - 1) (at + 1) n s) in
      ap (λ c. cond c (ended (at + gaps (a ∷ t))) (book_and more (next_form more (nat_eq left 0) (a ∷ t)) at (rest t))) h
      ∙ ap (λ r. book_and more r at (rest t)) e ∙ ap (λ s. book_and more r at (rest s)) same

  book-bad : (left at : ℕ) (t : List ℕ) (c : Code) (n : ℕ) → nat_eq (length (behind t)) 0 ≡ false → next_form more (nat_eq left 0) t ≡ Bad c n →
      book more left at 0 t ≡ ([], Some (c, at + n))
  unfolding gaps_from
  book-bad left at [] c n h e = cc
  book-bad left at (b ∷ t) c n h e = book-and left at (b ∷ t) (Bad c n) h e b t refl

  pub book-got : (left at : ℕ) (t : List ℕ) (f : Datum) (n : ℕ) → nat_eq (length (behind t)) 0 ≡ false → next_form more (nat_eq left 0) t ≡ Got f n → n < length t →
      book more left at 0 t ≡ before more (f, at + gaps t) (book more (left - 1) (at + (n + 1)) 0 (drop (n + 1) t))
  book-got left at [] f n h e room = absurd (omega arith)
  book-got left at (b ∷ t) f n h e room =
      let p : (at + 1) + n ≡ at + (n + 1) = omega arith in
      let next : suc n ≡ n + 1 = omega arith in
      let x : Datum × ℕ = (f, at + gaps (b ∷ t)) in
      book-and left at (b ∷ t) (Got f n) h e b t refl
      ∙ ap (before more x) (book-skip (left - 1) (at + 1) n t (omega arith))
      ∙ ap (λ p. before more x (book more (left - 1) p 0 (drop n t))) p
      ∙ ap (λ k. before more x (book more (left - 1) (at + (n + 1)) 0 (drop k (b ∷ t)))) next

  module _ (left : ℕ) (xs : List ℕ) (at place : ℕ) (token : Token) (p : place ≡ at + gaps (drop at xs)) (e : seen token ≡ front (drop place xs)) where
    abbrev read_here : Read
    read_here = shift place (form more (nat_lt 0 0) (MAX_NESTING - 0) (drop place xs))

    abbrev left_here : Answers
    left_here = book more left at 0 (drop at xs)

    -- there are bytes after the gaps
    full : place < length xs → nat_eq (length (behind (drop at xs))) 0 ≡ false
    full lt =
        let long : length (behind (drop at xs)) ≡ length xs - place = ap length (behind-at xs at place p) ∙ length-drop place xs in
        let some : 0 < length (behind (drop at xs)) = omega arith in
        grind (arith, nat_tests)

    begins_here : begins_form more (behind (drop at xs)) ≡ begins_form more (drop place xs)
    begins_here = ap (begins_form more) (behind-at xs at place p)

    pub step-nothing : length xs - place ≡ 0 → place ≤ length xs → left_here ≡ ended place
    step-nothing z le =
        let none : length (behind (drop at xs)) ≡ 0 = ap length (behind-at xs at place p) ∙ length-drop place xs ∙ z in
        book-nothing left at (drop at xs) none ∙ ap ended (sym p)

    pub step-full : left ≡ 0 → place < length xs → begins_form more (drop place xs) ≡ true → left_here ≡ ([], Some (BookTooLong, place))
    step-full z lt b =
        let t = drop at xs in
        let over : (begins_form more (behind t) && nat_eq left 0) ≡ true = ap (λ c. c && nat_eq left 0) (begins_here ∙ b) ∙ ap (λ n. nat_eq n 0) z in
        book-bad left at t BookTooLong (gaps t) (full lt) (ap (λ c. cond c (Bad BookTooLong (gaps t)) (form more false MAX_NESTING t)) over) ∙ ap (λ k. ([], Some (BookTooLong, k))) (sym p)

    free_form : (begins_form more (drop place xs) && nat_eq left 0) ≡ false → next_form more (nat_eq left 0) (drop at xs) ≡ form more false MAX_NESTING (drop at xs)
    free_form h =
        let t = drop at xs in
        ap (λ c. cond (c && nat_eq left 0) (Bad BookTooLong (gaps t)) (form more false MAX_NESTING t)) begins_here ∙ ap (λ c. cond c (Bad BookTooLong (gaps t)) (form more false MAX_NESTING t)) h

    read_behind : shift at (form more false MAX_NESTING (drop at xs)) ≡ read_here
    read_behind = form-behind more false MAX_NESTING xs at place token p e

    pub step-got : (last : ℕ) (x : Datum) → place < length xs → (begins_form more (drop place xs) && nat_eq left 0) ≡ false → read_here ≡ Got x last → place ≤ last → last < length xs →
        left_here ≡ before more (x, place) (book more (left - 1) (last + 1) 0 (drop (last + 1) xs))
    step-got last x lt b h le end =
        let t = drop at xs in
        let n = last - at in
        let room : n < length t = omega (arith, length-drop at xs) in
        let far : at + (n + 1) ≡ last + 1 = omega arith in
        book-got left at t x n (full lt) (free_form b ∙ unshift _ at last x (read_behind ∙ h)) room
        ∙ ap (λ s. before more (x, at + gaps t) (book more (left - 1) (at + (n + 1)) 0 s)) (drop-drop (n + 1) at xs)
        ∙ ap (λ k. before more (x, at + gaps t) (book more (left - 1) k 0 (drop k xs))) far
        ∙ ap (λ k. before more (x, k) (book more (left - 1) (last + 1) 0 (drop (last + 1) xs))) (sym p)

    pub step-bad : (c : Code) (k : ℕ) → place < length xs → (begins_form more (drop place xs) && nat_eq left 0) ≡ false → read_here ≡ Bad c k → left_here ≡ ([], Some (c, k))
    step-bad c k lt b h = on (form more false MAX_NESTING (drop at xs)) refl (read_behind ∙ h)
      where
        on : (r : Read) → form more false MAX_NESTING (drop at xs) ≡ r → shift at r ≡ Bad c k → left_here ≡ ([], Some (c, k))
        on (Got f n) q h = cc
        on (Bad d n) q h =
            let one : d ≡ c = cc in
            let two : at + n ≡ k = cc in
            book-bad left at (drop at xs) d n (full lt) (free_form b ∙ q) ∙ λ j. ([], Some (one j, two j))

-- the book is refused
pub refuses : (more : Bool) (left : ℕ) (xs : List ℕ) (b : Answers) (x : ReadError) (code : Code) (place : ℕ) → x ≡ Refused code place → b ≡ ([], Some (code, place)) → SaysStep more left xs b (Err x)
refuses more left xs b x code place e h = subst (λ (y : ReadError). SaysStep more left xs b (Err y)) (sym e) h

-- nothing is left of the bytes
pub nothing-left : (n : ℕ) (token : Token) → token ≡ tokens.Nothing → IsWithin n (seen token) → n ≡ 0
nothing-left n token e h = subst (λ (t : Token). IsWithin n (seen t)) e h

-- a form begins, so bytes are left
pub begins-room : (more : Bool) (text : List ℕ) → begins_form more text ≡ true → 0 < length text
unfolding front begins_form
begins-room more [] h = cc
begins-room more (b ∷ t) h = omega arith

pub ruleset books = (step-nothing, step-full, step-got, step-bad)
