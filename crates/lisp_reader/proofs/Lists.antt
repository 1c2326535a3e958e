-- The items of a list at a place, and where lists close.
use Rattle.std.proofs.Common.{◌≡◌, ℕ, zero, suc, ◌+◌, ◌-◌, ◌<◌, ◌≤◌, Bool, true, false, cond, Result, List, length, take, drop, refl, ap, sym, subst, ◌∙◌, arith, length-drop}
use Rattle.lisp_data.specs.Datum.{Datum, nil_form}
use Rattle.lisp_data.specs.Atoms as atoms
use Rattle.lisp_data.specs.Atoms.{Leaf, is_odd}
use Rattle.lisp_reader.specs.Spans.{Front, Nothing, Gap, EndlessGap, Open, Close, Quote, Text, EndlessText, Atom, Stray, front, gaps, behind}
use Rattle.lisp_reader.specs.view.TokenView.{seen}
use Rattle.lisp_reader.specs.view.Says.{SaysPlace}
use Rattle.lisp_reader.specs.Grammar.{Read, Got, Bad, shift, mapped, at_end, in_text, leaf_at, leaf_fault, closing_by, closing}
use Rattle.lisp_reader.specs.view.Closes.{close, closed}
use Rattle.lisp_reader.specs.declared.read.ReadError.{ReadError}
use Rattle.lisp_reader.specs.declared.token.Token.{Token}
use Rattle.lisp_reader.specs.declared.token.Token.TheVariants as tokens
use Rattle.lisp_reader.proofs.Steps.{shift-shift, shift-mapped, bad-here, behind-at}
use Rattle.lisp_data.specs.declared.code.Code.{Code}
use Rattle.lisp_data.specs.declared.code.Code.TheVariants.{BadByte, UnclosedList, BadDot}

mapped-shift : (n : ℕ) (h : Datum → Datum) (r : Read) → mapped h (shift n r) ≡ shift n (mapped h r)
mapped-shift n h r = sym (shift-mapped n h r)

module _ (more : Bool) where
  closing_by-mapped : (h : Datum → Datum) (f : Datum) (t : List ℕ) (x : Front) → closing_by more (h f) t x ≡ mapped h (closing_by more f t x)
  closing_by-mapped h f t Nothing = refl
  closing_by-mapped h f t (Gap n) = refl
  closing_by-mapped h f t EndlessGap = refl
  closing_by-mapped h f t Open = refl
  closing_by-mapped h f t Close = refl
  closing_by-mapped h f t Quote = refl
  closing_by-mapped h f t (Text n) = refl
  closing_by-mapped h f t EndlessText = refl
  closing_by-mapped h f t (Atom n) = odd (is_odd (take (n + 1) t)) (leaf_at more t n)
    where
      odd : (c : Bool) (l : Leaf) → cond c (leaf_fault more l) (Bad BadDot 0) ≡ mapped h (cond c (leaf_fault more l) (Bad BadDot 0))
      odd true (atoms.Integer z) = refl
      odd true (atoms.Named s) = refl
      odd true atoms.Point = refl
      odd true (atoms.Wrong c m) = refl
      odd false l = refl
  closing_by-mapped h f t Stray = refl

  pub closing-mapped : (h : Datum → Datum) (f : Datum) (t : List ℕ) → closing more (h f) t ≡ mapped h (closing more f t)
  closing-mapped h f t = ap (shift (gaps t)) (closing_by-mapped h f (behind t) (front (behind t))) ∙ shift-mapped (gaps t) h _

  pub close-mapped : (xs : List ℕ) (h : Datum → Datum) (r : Read) → close more xs (mapped h r) ≡ mapped h (close more xs r)
  close-mapped xs h (Got f n) = ap (shift (n + 1)) (closing-mapped h f (drop (n + 1) xs)) ∙ shift-mapped (n + 1) h _
  close-mapped xs h (Bad c n) = refl

  pub closed-mapped : (xs : List ℕ) (j : ℕ) (h : Datum → Datum) (r : Read) → closed more xs j (mapped h r) ≡ mapped h (closed more xs j r)
  closed-mapped xs zero h r = refl
  closed-mapped xs (suc j) h r = ap (closed more xs j) (close-mapped xs h r) ∙ closed-mapped xs j h (close more xs r)

  pub closed-bad : (xs : List ℕ) (j : ℕ) (c : Code) (n : ℕ) → closed more xs j (Bad c n) ≡ Bad c n
  closed-bad xs zero c n = refl
  closed-bad xs (suc j) c n = closed-bad xs j c n

  -- one list closed
  pub closed-step : (xs : List ℕ) (j n m : ℕ) → 0 < j → shift (n + 1) (closing more nil_form (drop (n + 1) xs)) ≡ Got nil_form m →
      closed more xs j (Got nil_form n) ≡ closed more xs (j - 1) (Got nil_form m)
  closed-step xs zero n m h e = absurd (omega arith)
  closed-step xs (suc j) n m h e =
      let less : j ≡ suc j - 1 = omega arith in
      ap (closed more xs j) e ∙ ap (λ k. closed more xs k (Got nil_form m)) less

  pub closed-fault : (xs : List ℕ) (j n : ℕ) (c : Code) (m : ℕ) → 0 < j → shift (n + 1) (closing more nil_form (drop (n + 1) xs)) ≡ Bad c m → closed more xs j (Got nil_form n) ≡ Bad c m
  closed-fault xs zero n c m h e = absurd (omega arith)
  closed-fault xs (suc j) n c m h e = ap (closed more xs j) e ∙ closed-bad xs j c m

  pub closed-none : (xs : List ℕ) (j n : ℕ) → j ≡ 0 → closed more xs j (Got nil_form n) ≡ Got nil_form n
  closed-none xs zero n h = refl
  closed-none xs (suc j) n h = absurd (omega arith)

  module _ (xs : List ℕ) (at place : ℕ) (p : place ≡ at + gaps (drop at xs)) where
    abbrev closing_here : Read
    closing_here = shift at (closing more nil_form (drop at xs))

    close_by : (token : Token) → seen token ≡ front (drop place xs) → closing_here ≡ shift place (closing_by more nil_form (drop place xs) (seen token))
    close_by token e =
        shift-shift at (gaps (drop at xs)) _
        ∙ ap (λ k. shift k (closing_by more nil_form (behind (drop at xs)) (front (behind (drop at xs))))) (sym p)
        ∙ ap (λ t. shift place (closing_by more nil_form t (front t))) (behind-at xs at place p)
        ∙ ap (λ x. shift place (closing_by more nil_form (drop place xs) x)) (sym e)

    pub close-here : seen tokens.Close ≡ front (drop place xs) → closing_here ≡ Got nil_form place
    close-here e = let n : place + 0 ≡ place = omega arith in close_by tokens.Close e ∙ ap (Got nil_form) n

    pub close-nothing : seen tokens.Nothing ≡ front (drop place xs) → closing_here ≡ Bad (at_end more UnclosedList) place
    close-nothing e = close_by tokens.Nothing e ∙ bad-here _ place

    pub close-stray : seen tokens.Stray ≡ front (drop place xs) → closing_here ≡ Bad BadByte place
    close-stray e = close_by tokens.Stray e ∙ bad-here _ place

    pub close-endless : place ≤ length xs → seen tokens.EndlessGap ≡ front (drop place xs) → closing_here ≡ Bad (in_text more true) (length xs)
    close-endless le e =
        let all : place + length (drop place xs) ≡ length xs = omega (arith, length-drop place xs) in
        close_by tokens.EndlessGap e ∙ ap (Bad (in_text more true)) all

    pub close-open : seen tokens.Open ≡ front (drop place xs) → closing_here ≡ Bad BadDot place
    close-open e = close_by tokens.Open e ∙ bad-here _ place

    pub close-quote : seen tokens.Quote ≡ front (drop place xs) → closing_here ≡ Bad BadDot place
    close-quote e = close_by tokens.Quote e ∙ bad-here _ place

    pub close-string : (n : ℕ) → seen (tokens.Text n) ≡ front (drop place xs) → closing_here ≡ Bad BadDot place
    close-string n e = close_by (tokens.Text n) e ∙ bad-here _ place

    pub close-endless_text : seen tokens.EndlessText ≡ front (drop place xs) → closing_here ≡ Bad BadDot place
    close-endless_text e = close_by tokens.EndlessText e ∙ bad-here _ place

    pub close-atom : (n : ℕ) → seen (tokens.Atom n) ≡ front (drop place xs) →
        closing_here ≡ shift place (cond (is_odd (take (n + 1) (drop place xs))) (leaf_fault more (leaf_at more (drop place xs) n)) (Bad BadDot 0))
    close-atom n e = close_by (tokens.Atom n) e

pub place-same : (q r : Read) (a : Result ℕ ReadError) → r ≡ q → SaysPlace q a → SaysPlace r a
place-same q r a e h = subst (λ (r : Read). SaysPlace r a) (sym e) h

pub ruleset closings = (place-same, close-here, close-nothing, close-stray, close-endless, close-open, close-quote, close-string, close-endless_text, close-atom)

pub ruleset closes = (closed-step, closed-fault, closed-none)
