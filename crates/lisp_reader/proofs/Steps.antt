-- Forms at a place.
use Rattle.std.proofs.Common.{◌≡◌, ℕ, zero, suc, ◌+◌, ◌-◌, ◌<◌, ◌≤◌, Bool, true, false, nat_lt, Result, List, [], length, take, drop, refl, ap, sym, subst, ◌∙◌, arith, length-drop}
use Rattle.std.proofs.lemmas.List.{drop-drop}
use Rattle.std.proofs.lemmas.Bool.Decides.{nat_tests}
use Rattle.lisp_data.specs.declared.form.Form.{Form}
use Rattle.lisp_data.specs.Datum.{Datum, TextForm}
use Rattle.lisp_reader.specs.Spans.{Front, unescaped, front, is_gap, gaps_from, gaps, behind}
use Rattle.lisp_reader.specs.view.TokenView.{seen}
use Rattle.lisp_reader.specs.view.Says.{SaysRead}
use Rattle.lisp_reader.specs.Grammar.{Read, Got, Bad, shift, mapped, quote_form, at_end, in_text, leaf_at, leaf_read, one_by, one, items, form}
use Rattle.lisp_reader.specs.declared.read.ReadError.{ReadError}
use Rattle.lisp_reader.specs.declared.token.Token.{Token}
use Rattle.lisp_reader.specs.declared.token.Token.TheVariants as tokens
use Rattle.lisp_reader.proofs.Pieces.{gaps-none}
use Rattle.lisp_data.specs.declared.code.Code.{Code}
use Rattle.lisp_data.specs.declared.code.Code.TheVariants.{BadByte, UnclosedList, StrayClose, TooDeep}
use Rattle.lisp_reader.specs.declared.limits.TheConstants.{MAX_NESTING}

pub shift-shift : (m n : ℕ) (r : Read) → shift m (shift n r) ≡ shift (m + n) r
shift-shift m n (Got f k) = let e : m + (n + k) ≡ (m + n) + k = omega arith in ap (Got f) e
shift-shift m n (Bad c k) = let e : m + (n + k) ≡ (m + n) + k = omega arith in ap (Bad c) e

pub shift-zero : (r : Read) → shift 0 r ≡ r
shift-zero (Got f k) = let e : 0 + k ≡ k = omega arith in ap (Got f) e
shift-zero (Bad c k) = let e : 0 + k ≡ k = omega arith in ap (Bad c) e

pub shift-mapped : (n : ℕ) (h : Datum → Datum) (r : Read) → shift n (mapped h r) ≡ mapped h (shift n r)
shift-mapped n h (Got f k) = refl
shift-mapped n h (Bad c k) = refl

pub bad-here : (c : Code) (place : ℕ) → Bad c (place + 0) ≡ Bad c place
bad-here c place = let e : place + 0 ≡ place = omega arith in ap (Bad c) e

pub seen-gap : (t : Token) → is_gap (seen t) ≡ false
seen-gap tokens.Nothing = refl
seen-gap tokens.EndlessGap = refl
seen-gap tokens.Open = refl
seen-gap tokens.Close = refl
seen-gap tokens.Quote = refl
seen-gap (tokens.Text n) = refl
seen-gap tokens.EndlessText = refl
seen-gap (tokens.Atom n) = refl
seen-gap tokens.Stray = refl

-- a token stands there, and no gap
pub token-gaps : (token : Token) (t : List ℕ) → seen token ≡ front t → gaps t ≡ 0
token-gaps token t e = gaps-none t (ap is_gap (sym e) ∙ seen-gap token)

pub behind-at : (xs : List ℕ) (i place : ℕ) → place ≡ i + gaps (drop i xs) → behind (drop i xs) ≡ drop place xs
behind-at xs i place p = drop-drop (gaps (drop i xs)) i xs ∙ ap (λ k. drop k xs) (sym p)

module _ (more : Bool) where
  abbrev pub list_in : ℕ → List ℕ → Read
  list_in zero t = Bad TooDeep 0
  list_in (suc d) t = shift 1 (items more (form more true d) false 0 (drop 1 t))

  abbrev pub mark_in : ℕ → List ℕ → Read
  mark_in zero t = Bad TooDeep 0
  mark_in (suc d) t = shift 1 (mapped quote_form (form more true d (drop 1 t)))

  pub form-one : (inside : Bool) (d : ℕ) (t : List ℕ) → form more inside d t ≡ one more inside (list_in d) (mark_in d) t
  unfolding form
  form-one inside zero t = refl
  form-one inside (suc d) t = refl

  pub form-nil : (inside : Bool) (d : ℕ) → form more inside d [] ≡ Bad (at_end more UnclosedList) 0
  unfolding front gaps_from
  form-nil inside d = form-one inside d []

  -- where no gaps come first
  pub form-at : (inside : Bool) (d : ℕ) (t : List ℕ) (f : Front) → gaps t ≡ 0 → front t ≡ f → form more inside d t ≡ one_by more inside (list_in d) (mark_in d) t f
  form-at inside d t f z e =
      let by : List ℕ → Front → Read = one_by more inside (list_in d) (mark_in d) in
      form-one inside d t ∙ ap (λ n. shift n (by (drop n t) (front (drop n t)))) z ∙ shift-zero _ ∙ ap (by t) e

  -- the gaps before a token
  pub form-behind : (inside : Bool) (d : ℕ) (xs : List ℕ) (i place : ℕ) (token : Token) → place ≡ i + gaps (drop i xs) → seen token ≡ front (drop place xs) →
      shift i (form more inside d (drop i xs)) ≡ shift place (form more inside d (drop place xs))
  form-behind inside d xs i place token p e =
      let by : List ℕ → Front → Read = one_by more inside (list_in d) (mark_in d) in
      ap (shift i) (form-one inside d (drop i xs)) ∙ shift-shift i (gaps (drop i xs)) _
      ∙ ap (λ k. shift k (by (behind (drop i xs)) (front (behind (drop i xs))))) (sym p)
      ∙ ap (λ t. shift place (by t (front t))) (behind-at xs i place p)
      ∙ ap (shift place) (sym (form-at inside d (drop place xs) (front (drop place xs)) (token-gaps token _ e) refl))

  module _ (xs : List ℕ) (place depth : ℕ) where
    -- what is read at a place, where so many lists and quotes are around it
    abbrev pub read_at : Read
    read_at = shift place (form more (nat_lt 0 depth) (MAX_NESTING - depth) (drop place xs))

    by_token : (token : Token) → seen token ≡ front (drop place xs) →
        read_at ≡ shift place (one_by more (nat_lt 0 depth) (list_in (MAX_NESTING - depth)) (mark_in (MAX_NESTING - depth)) (drop place xs) (seen token))
    by_token token e = ap (shift place) (form-at (nat_lt 0 depth) (MAX_NESTING - depth) (drop place xs) (seen token) (token-gaps token _ e) (sym e))

    pub read-nothing : seen tokens.Nothing ≡ front (drop place xs) → read_at ≡ Bad (at_end more UnclosedList) place
    read-nothing e = by_token tokens.Nothing e ∙ bad-here _ place

    pub read-close : seen tokens.Close ≡ front (drop place xs) → read_at ≡ Bad StrayClose place
    read-close e = by_token tokens.Close e ∙ bad-here _ place

    pub read-stray : seen tokens.Stray ≡ front (drop place xs) → read_at ≡ Bad BadByte place
    read-stray e = by_token tokens.Stray e ∙ bad-here _ place

    all-bytes : place ≤ length xs → place + length (drop place xs) ≡ length xs
    all-bytes le = omega (arith, length-drop place xs)

    pub read-endless : place ≤ length xs → seen tokens.EndlessGap ≡ front (drop place xs) → read_at ≡ Bad (in_text more (nat_lt 0 depth)) (length xs)
    read-endless le e = by_token tokens.EndlessGap e ∙ ap (Bad (in_text more (nat_lt 0 depth))) (all-bytes le)

    pub read-endless_text : place ≤ length xs → seen tokens.EndlessText ≡ front (drop place xs) → read_at ≡ Bad (in_text more (nat_lt 0 depth)) (length xs)
    read-endless_text le e = by_token tokens.EndlessText e ∙ ap (Bad (in_text more (nat_lt 0 depth))) (all-bytes le)

    pub read-string : (n : ℕ) → seen (tokens.Text n) ≡ front (drop place xs) → read_at ≡ Got (TextForm (unescaped (take (n - 1) (drop 1 (drop place xs))))) (place + n)
    read-string n e = by_token (tokens.Text n) e

    pub read-atom : (n : ℕ) → seen (tokens.Atom n) ≡ front (drop place xs) → read_at ≡ shift place (leaf_read more (leaf_at more (drop place xs) n) n)
    read-atom n e = by_token (tokens.Atom n) e

    pub read-open_last : depth ≡ MAX_NESTING → seen tokens.Open ≡ front (drop place xs) → read_at ≡ Bad TooDeep place
    read-open_last d e =
        let none : MAX_NESTING - depth ≡ 0 = omega arith in
        by_token tokens.Open e ∙ ap (λ k. shift place (list_in k (drop place xs))) none ∙ bad-here _ place

    pub read-quote_last : depth ≡ MAX_NESTING → seen tokens.Quote ≡ front (drop place xs) → read_at ≡ Bad TooDeep place
    read-quote_last d e =
        let none : MAX_NESTING - depth ≡ 0 = omega arith in
        by_token tokens.Quote e ∙ ap (λ k. shift place (mark_in k (drop place xs))) none ∙ bad-here _ place

    pub read-open : depth < MAX_NESTING → seen tokens.Open ≡ front (drop place xs) →
        read_at ≡ shift (place + 1) (items more (form more true (MAX_NESTING - (depth + 1))) false 0 (drop (place + 1) xs))
    read-open d e =
        let next : MAX_NESTING - depth ≡ suc (MAX_NESTING - (depth + 1)) = omega arith in
        let inner = items more (form more true (MAX_NESTING - (depth + 1))) false 0 in
        by_token tokens.Open e ∙ ap (λ k. shift place (list_in k (drop place xs))) next ∙ shift-shift place 1 _ ∙ ap (λ t. shift (place + 1) (inner t)) (drop-drop 1 place xs)

    pub read-quote : depth < MAX_NESTING → seen tokens.Quote ≡ front (drop place xs) →
        read_at ≡ mapped quote_form (shift (place + 1) (form more (nat_lt 0 (depth + 1)) (MAX_NESTING - (depth + 1)) (drop (place + 1) xs)))
    read-quote d e =
        let inside : true ≡ nat_lt 0 (depth + 1) = grind (arith, nat_tests) in
        let next : MAX_NESTING - depth ≡ suc (MAX_NESTING - (depth + 1)) = omega arith in
        let inner = form more true (MAX_NESTING - (depth + 1)) in
        by_token tokens.Quote e ∙ ap (λ k. shift place (mark_in k (drop place xs))) next ∙ shift-shift place 1 _ ∙ shift-mapped (place + 1) quote_form _
        ∙ ap (λ t. mapped quote_form (shift (place + 1) (inner t))) (drop-drop 1 place xs)
        ∙ ap (λ b. mapped quote_form (shift (place + 1) (form more b (MAX_NESTING - (depth + 1)) (drop (place + 1) xs)))) inside

-- what was read is what the definition gives
pub says-same : (q r : Read) (a : Result (Form × ℕ) ReadError) → r ≡ q → SaysRead q a → SaysRead r a
says-same q r a e h = subst (λ (r : Read). SaysRead r a) (sym e) h

pub ruleset reads = (says-same, read-nothing, read-close, read-stray, read-endless, read-endless_text, read-string, read-atom, read-open_last, read-quote_last, read-open, read-quote)
