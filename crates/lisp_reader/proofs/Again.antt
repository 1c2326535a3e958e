-- What is written is read again.
use Rattle.std.proofs.Common.{◌≡◌, ℕ, zero, suc, ◌+◌, ◌-◌, ◌<◌, ◌≤◌, Bool, true, false, cond, ◌&&◌, ◌||◌, nat_eq, nat_lt, Some, None, List, [], ◌∷◌, ◌++◌, length, take, drop, refl, ap, sym, subst, ◌∙◌, arith, append_assoc, length-append}
use Rattle.std.specs.Prelude.{ℤ, codes, bytes_eq}
use Rattle.std.proofs.lemmas.Bool.Decides.{nat_tests}
use Rattle.std.proofs.lemmas.List.{take_at, drop_at, append-nil, drop_all}
use Rattle.std.specs.List.{list_all}
use Rattle.std.specs.Cmp.Lexicographic.{bytes_decides}
use Rattle.std.specs.Fmt.{signed_decimal}
use Rattle.lisp_data.specs.Datum.{Datum, IntForm, SymForm, TextForm, PairForm, nil_form}
use Rattle.lisp_data.specs.Atoms.{Leaf, Integer, Named, Point, Wrong, in_atom, is_delimiter, is_odd, leaf}
use Rattle.lisp_data.proofs.AtomSteps.{odd-leaf}
use Rattle.lisp_data.specs.SymbolText.{IsSymbolText}
use Rattle.lisp_reader.specs.Spans as s
use Rattle.lisp_reader.specs.Spans.{Front, Nothing, Gap, EndlessGap, Open, Close, Quote, Text, EndlessText, Atom, Stray, run, later, string, unescaped, escapes, is_blank, opens, opens_block, front, begins, is_gap, gaps_from, gaps, behind}
use Rattle.lisp_reader.specs.Grammar.{Read, Got, Bad, shift, mapped, and_then, quote_form, Points, Item, leaf_at, leaf_read, leaf_kind, one_by, kind_of, kind, closing_by, closing, last_by, last, items, form, begins_form, next_form, before, book, parse}
use Rattle.lisp_data.specs.Values.{Val}
use Rattle.lisp_data.specs.Values as v
use Rattle.lisp_reader.specs.FormValue.{has_text, value}
use Rattle.lisp_reader.specs.Printed.{escaped, form_text, rest_text, nesting, datum_of, IsPrintable, IsReadAgain, IsValueAgain}
use Rattle.lisp_reader.specs.Texts.{IsText, integer, symbol, string as string_of, quoted, list, IsRestText, end, last as last_of, next, TextsAreRead}
use Rattle.lisp_reader.proofs.Pieces.{string-first, gaps-none}
use Rattle.lisp_reader.proofs.Leaves.{plain-first}
use Rattle.lisp_reader.proofs.Numerals.{signed-leaf, signed-atom}
use Rattle.lisp_reader.proofs.Steps.{shift-zero, list_in, mark_in, form-one, form-at}
use Rattle.lisp_reader.proofs.Items.{items-close, items-points, items-item}
use Rattle.lisp_reader.proofs.Book.{book-got}
use Rattle.lisp_data.specs.declared.code.Code.TheVariants.{BadByte, BadDot, BookTooLong}
use Rattle.lisp_reader.specs.declared.limits.TheConstants.{MAX_BOOK, MAX_FORMS, MAX_NESTING}

-- a text with which no atom goes on
abbrev Ends : List ℕ → Type 0
Ends [] = Unit {0}
Ends (b ∷ t) = in_atom b ≡ false

run-ends : (r : List ℕ) → Ends r → run r ≡ 0
run-ends [] e = refl
run-ends (b ∷ t) e = ap (λ c. cond c (1 + run t) 0) e

and-left : (a c : Bool) → (a && c) ≡ true → a ≡ true
and-left true c e = refl
and-left false c e = e

and-right : (a c : Bool) → (a && c) ≡ true → c ≡ true
and-right true c e = e
and-right false c e = cc

run-atom : (t r : List ℕ) → list_all in_atom t ≡ true → Ends r → run (t ++ r) ≡ length t
run-atom [] r h e = run-ends r e
run-atom (b ∷ t) r h e =
    let next : 1 + length t ≡ suc (length t) = omega arith in
    ap (λ c. cond c (1 + run (t ++ r)) 0) (and-left (in_atom b) (list_all in_atom t) h) ∙ ap (λ n. 1 + n) (run-atom t r (and-right (in_atom b) (list_all in_atom t) h) e) ∙ next

-- an atom's byte begins no gap, list, quote or string
record IsPlain (b : ℕ) : Type 0 where
  blank : is_blank b ≡ false
  line : nat_eq b 59 ≡ false
  start : nat_eq b 40 ≡ false
  end : nat_eq b 41 ≡ false
  mark : nat_eq b 39 ≡ false
  text : nat_eq b 34 ≡ false

is-plain : (b : ℕ) → in_atom b ≡ true → IsPlain b
unfolding in_atom is_delimiter is_blank
is-plain b h = record {
  blank = grind (arith, nat_tests);
  line = grind (arith, nat_tests);
  start = grind (arith, nat_tests);
  end = grind (arith, nat_tests);
  mark = grind (arith, nat_tests);
  text = grind (arith, nat_tests);
}

plain-byte : (b : ℕ) (t : List ℕ) → in_atom b ≡ true → s.plain b t ≡ Atom (run t)
plain-byte b t h =
    let p = is-plain b h in
    λ i. cond (p.blank i) (Gap 0) (cond (p.line i) (Gap (s.line t)) (cond (p.start i) Open (cond (p.end i) Close (cond (p.mark i) Quote (cond (p.text i) (s.text (string t)) (cond (h i) (Atom (run t)) Stray))))))

no-block : (b : ℕ) (t : List ℕ) → nat_eq b 35 ≡ false → opens_block (b ∷ t) ≡ false
unfolding opens_block opens
no-block b [] h = refl
no-block b (c ∷ t) h = ap (λ x. x && nat_eq c 124) h

atom-front : (b : ℕ) (t r : List ℕ) → list_all in_atom (b ∷ t) ≡ true → nat_eq b 35 ≡ false → Ends r → front (b ∷ t ++ r) ≡ Atom (length t)
unfolding front
atom-front b t r h n e =
    ap (λ c. cond c (s.comment (s.block 0 (drop 1 (t ++ r)))) (s.plain b (t ++ r))) (no-block b (t ++ r) n)
    ∙ plain-byte b (t ++ r) (and-left (in_atom b) (list_all in_atom t) h) ∙ ap Atom (run-atom t r (and-right (in_atom b) (list_all in_atom t) h) e)

atom-leaf : (b : ℕ) (t r : List ℕ) → leaf_at false (b ∷ t ++ r) (length t) ≡ leaf false (b ∷ t)
atom-leaf b t r =
    let long : length t + 1 ≡ suc (length t) = omega arith in
    ap (λ n. leaf false (take n (b ∷ t ++ r))) long ∙ ap (λ x. leaf false (b ∷ x)) (take_at t r (length t) refl)

-- an atom that is a form
record IsWord (text : List ℕ) (d : Datum) (l : Leaf) : Type 0 where
  byte : ℕ
  rest : List ℕ
  split : text ≡ byte ∷ rest
  atom : list_all in_atom text ≡ true
  sharp : nat_eq byte 35 ≡ false
  means : leaf false text ≡ l
  reads : (n : ℕ) → leaf_read false l n ≡ Got d n

not-sharp : (b : ℕ) (t : List ℕ) (c : Bool) → nat_eq b 35 ≡ c → (is_odd (b ∷ t) ≡ true → ⊥) → nat_eq b 35 ≡ false
not-sharp b t false e n = e
not-sharp b [] true e n = absurd (n (ap (λ x. x || nat_eq b 58) e))
not-sharp b (c ∷ t) true e n = absurd (n e)

empty-leaf : leaf false [] ≡ Wrong BadDot 0
unfolding leaf
empty-leaf = refl

word : (text : List ℕ) (d : Datum) (l : Leaf) → list_all in_atom text ≡ true → leaf false text ≡ l → ((n : ℕ) → leaf_read false l n ≡ Got d n) → IsWord text d l
word [] d l a e r =
    let wrong : Wrong BadDot 0 ≡ l = sym empty-leaf ∙ e in
    let read : Bad BadDot 0 ≡ Got d 0 = ap (λ l. leaf_read false l 0) wrong ∙ r 0 in
    absurd (let k = read in cc)
word (b ∷ t) d l a e r =
    let odd : is_odd (b ∷ t) ≡ true → ⊥ = λ h. (let read : Bad BadByte 0 ≡ Got d 0 = ap (λ l. leaf_read false l 0) (sym (odd-leaf (b ∷ t) h) ∙ e) ∙ r 0 in cc) in
    record { byte = b; rest = t; split = refl; atom = a; sharp = not-sharp b t (nat_eq b 35) refl odd; means = e; reads = r }

integer-word : (z : ℤ) → IsPrintable (IntForm z) → IsWord (signed_decimal z) (IntForm z) (Integer z)
integer-word z h = word (signed_decimal z) (IntForm z) (Integer z) (signed-atom z h) (signed-leaf z h) (λ n. refl)

symbol-word : (t : List ℕ) → IsPrintable (SymForm t) → IsWord t (SymForm t) (Named t)
symbol-word t h = word t (SymForm t) (Named t) h.atom h.symbol (λ n. refl)

-- A text is read as a form, whatever follows that ends an atom, where so many lists and quotes more may be open.
record IsRead (text : List ℕ) (d : Datum) (k : ℕ) : Type 0 where
  long : 0 < length text
  gapless : (r : List ℕ) → Ends r → is_gap (front (text ++ r)) ≡ false
  item : (r : List ℕ) → Ends r → (some : Bool) → kind_of false some (text ++ r) (front (text ++ r)) ≡ Item
  read : (r : List ℕ) → Ends r → (inside : Bool) (depth : ℕ) → k ≤ depth → form false inside depth (text ++ r) ≡ Got d (length text - 1)

leaf-item : (some : Bool) (l : Leaf) (d : Datum) → ((n : ℕ) → leaf_read false l n ≡ Got d n) → cond some (leaf_kind false l) Item ≡ Item
leaf-item false l d r = refl
leaf-item true (Integer z) d r = refl
leaf-item true (Named t) d r = refl
leaf-item true Point d r = let read : Bad BadDot 0 ≡ Got d 0 = r 0 in cc
leaf-item true (Wrong c n) d r = refl

word-read : (text : List ℕ) (d : Datum) (l : Leaf) (k : ℕ) → IsWord text d l → IsRead text d k
word-read text d l k w =
    let b = w.byte in
    let t = w.rest in
    let whole : list_all in_atom (b ∷ t) ≡ true = ap (list_all in_atom) (sym w.split) ∙ w.atom in
    let here : (r : List ℕ) → Ends r → front (text ++ r) ≡ Atom (length t) = λ r e. ap (λ x. front (x ++ r)) w.split ∙ atom-front b t r whole w.sharp e in
    let leaf_here : (r : List ℕ) → leaf_at false (text ++ r) (length t) ≡ l = λ r. ap (λ x. leaf_at false (x ++ r) (length t)) w.split ∙ atom-leaf b t r ∙ ap (leaf false) (sym w.split) ∙ w.means in
    let last : length t ≡ length text - 1 = omega (arith, ap length w.split) in
    record {
      long = omega (arith, ap length w.split);
      gapless = λ r e. ap is_gap (here r e);
      item = λ r e some. ap (kind_of false some (text ++ r)) (here r e) ∙ ap (λ l. cond some (leaf_kind false l) Item) (leaf_here r) ∙ leaf-item some l d w.reads;
      read = λ r e inside depth h.
          form-at false inside depth (text ++ r) (Atom (length t)) (gaps-none (text ++ r) (ap is_gap (here r e))) (here r e)
          ∙ ap (λ l. leaf_read false l (length t)) (leaf_here r) ∙ w.reads (length t) ∙ ap (Got d) last;
    }

or-left : (a c : Bool) → (a || c) ≡ false → a ≡ false
or-left true c e = e
or-left false c e = refl

or-right : (a c : Bool) → (a || c) ≡ false → c ≡ false
or-right true c e = cc
or-right false c e = e

escaped-byte : (b : ℕ) (e t : List ℕ) (c : Bool) → (nat_eq b 34 || nat_eq b 92) ≡ c → string (e ++ 34 ∷ t) ≡ Some (length e) →
    string (cond c (92 ∷ b ∷ e) (b ∷ e) ++ 34 ∷ t) ≡ Some (length (cond c (92 ∷ b ∷ e) (b ∷ e)))
escaped-byte b e t true k h =
    let two : length e + 2 ≡ suc (suc (length e)) = omega arith in
    string-first 92 (b ∷ e ++ 34 ∷ t) ∙ ap (later 2) h ∙ ap Some two
escaped-byte b e t false k h =
    let one : length e + 1 ≡ suc (length e) = omega arith in
    let quote = or-left (nat_eq b 34) (nat_eq b 92) k in
    let slash = or-right (nat_eq b 34) (nat_eq b 92) k in
    string-first b (e ++ 34 ∷ t)
    ∙ (λ i. cond (quote i) (Some 0) (cond (slash i) (later 2 (string (drop 1 (e ++ 34 ∷ t)))) (later 1 (h i)))) ∙ ap Some one

string-escaped : (x t : List ℕ) → string (escaped x ++ 34 ∷ t) ≡ Some (length (escaped x))
unfolding escaped
string-escaped [] t = string-first 34 t
string-escaped (b ∷ x) t = escaped-byte b (escaped x) t (nat_eq b 34 || nat_eq b 92) refl (string-escaped x t)

no-escape : (b : ℕ) (t : List ℕ) → nat_eq b 92 ≡ false → escapes (b ∷ t) ≡ false
unfolding escapes
no-escape b [] h = refl
no-escape b (c ∷ t) h = h

unescaped-byte : (b : ℕ) (e x : List ℕ) (c : Bool) → (nat_eq b 34 || nat_eq b 92) ≡ c → unescaped e ≡ x → unescaped (cond c (92 ∷ b ∷ e) (b ∷ e)) ≡ b ∷ x
unfolding unescaped
unescaped-byte b e x true k h = ap (λ y. b ∷ y) h
unescaped-byte b e x false k h = plain-first b e (no-escape b e (or-right (nat_eq b 34) (nat_eq b 92) k)) ∙ ap (λ y. b ∷ y) h

unescaped-escaped : (x : List ℕ) → unescaped (escaped x) ≡ x
unfolding escaped unescaped
unescaped-escaped [] = refl
unescaped-escaped (b ∷ x) = unescaped-byte b (escaped x) x (nat_eq b 34 || nat_eq b 92) refl (unescaped-escaped x)

-- a byte that begins no block comment
string-front : (t : List ℕ) → front (34 ∷ t) ≡ s.text (string t)
unfolding front opens_block opens is_blank
string-front [] = refl
string-front (c ∷ t) = refl

string-read : (x : List ℕ) (k : ℕ) → IsRead (34 ∷ escaped x ++ 34 ∷ []) (TextForm x) k
string-read x k =
    let e = escaped x in
    let here : (r : List ℕ) → front ((34 ∷ e ++ 34 ∷ []) ++ r) ≡ Text (length e + 1) = λ r.
    string-front ((e ++ 34 ∷ []) ++ r) ∙ ap (λ y. s.text (string y)) (append_assoc e (34 ∷ []) r) ∙ ap s.text (string-escaped x r) in
    let last : length e + 1 ≡ length (34 ∷ e ++ 34 ∷ []) - 1 = omega (arith, length-append e (34 ∷ [])) in
    let long : length e ≡ length e + 1 - 1 = omega arith in
    record {
      long = omega arith;
      gapless = λ r q. ap is_gap (here r);
      item = λ r q some. ap (kind_of false some ((34 ∷ e ++ 34 ∷ []) ++ r)) (here r);
      read = λ r q inside depth h.
          form-at false inside depth ((34 ∷ e ++ 34 ∷ []) ++ r) (Text (length e + 1)) (gaps-none _ (ap is_gap (here r))) (here r)
          ∙ ap (λ n. Got (TextForm (unescaped (take n ((e ++ 34 ∷ []) ++ r)))) (length e + 1)) (sym long)
          ∙ ap (λ y. Got (TextForm (unescaped (take (length e) y))) (length e + 1)) (append_assoc e (34 ∷ []) r)
          ∙ ap (λ y. Got (TextForm (unescaped y)) (length e + 1)) (take_at e (34 ∷ r) (length e) refl)
          ∙ ap (λ y. Got (TextForm y) (length e + 1)) (unescaped-escaped x) ∙ ap (Got (TextForm x)) last;
    }

-- one blank before a text without gaps
blank-gaps : (u : List ℕ) → gaps u ≡ 0 → gaps (32 ∷ u) ≡ 1
unfolding gaps_from front opens_block opens is_blank
blank-gaps [] h = refl
blank-gaps (c ∷ u) h = ap (λ n. n + 1) h

blank-form : (inside : Bool) (depth : ℕ) (u : List ℕ) → gaps u ≡ 0 → form false inside depth (32 ∷ u) ≡ shift 1 (form false inside depth u)
blank-form inside depth u h =
    let by : List ℕ → Front → Read = one_by false inside (list_in false depth) (mark_in false depth) in
    form-one false inside depth (32 ∷ u) ∙ ap (λ n. shift n (by (drop n (32 ∷ u)) (front (drop n (32 ∷ u))))) (blank-gaps u h)
    ∙ ap (shift 1) (sym (form-at false inside depth u (front u) h refl))

blank-kind : (some : Bool) (u : List ℕ) → gaps u ≡ 0 → kind false some (32 ∷ u) ≡ kind_of false some u (front u)
blank-kind some u h = ap (λ n. kind_of false some (drop n (32 ∷ u)) (front (drop n (32 ∷ u)))) (blank-gaps u h)

-- the rest of a list is read after its items, where so many lists and quotes more may be open in it
record IsRest (text : List ℕ) (d : Datum) (k : ℕ) : Type 0 where
  long : 0 < length text
  ends : (r : List ℕ) → Ends (text ++ r)
  rest : (r : List ℕ) (depth : ℕ) → k ≤ depth → items false (form false true depth) true 0 (text ++ r) ≡ Got d (length text - 1)

-- one item, and the rest after it
item-rest : (x y : List ℕ) (a d : Datum) (k : ℕ) → IsRead x a k → IsRest y d k → (some : Bool) (t r : List ℕ) (depth gap : ℕ) →
    kind false some t ≡ Item → form false true depth t ≡ Got a (gap + (length x - 1)) → drop (gap + length x) t ≡ y ++ r → gap + length x < length t → k ≤ depth →
    items false (form false true depth) some 0 t ≡ Got (PairForm a d) (gap + length x + (length y - 1))
item-rest x y a d k xs ys some t r depth gap i f b l h =
    let n = gap + (length x - 1) in
    let next : n + 1 ≡ gap + length x = omega (arith, xs.long) in
    let rest : List ℕ → Read = items false (form false true depth) true 0 in
    items-item false (form false true depth) some t a n i f (omega (arith, xs.long))
    ∙ ap (λ n. mapped (PairForm a) (shift n (rest (drop n t)))) next
    ∙ ap (λ u. mapped (PairForm a) (shift (gap + length x) (rest u))) b
    ∙ ap (λ q. mapped (PairForm a) (shift (gap + length x) q)) (ys.rest r depth h)

open-front : (t : List ℕ) → front (40 ∷ t) ≡ Open
unfolding front opens_block opens is_blank
open-front [] = refl
open-front (c ∷ t) = refl

close-front : (t : List ℕ) → front (41 ∷ t) ≡ Close
unfolding front opens_block opens is_blank
close-front [] = refl
close-front (c ∷ t) = refl

plain-kind : (some : Bool) (u : List ℕ) → gaps u ≡ 0 → kind false some u ≡ kind_of false some u (front u)
plain-kind some u h = ap (λ n. kind_of false some (drop n u) (front (drop n u))) h

list-items : (x y r : List ℕ) (a d : Datum) (k depth : ℕ) → IsRead x a k → IsRest y d k → k ≤ depth →
    items false (form false true depth) false 0 ((x ++ y) ++ r) ≡ Got (PairForm a d) (length x + (length y - 1))
list-items x y r a d k depth xs ys h =
    let u = x ++ (y ++ r) in
    let e = ys.ends r in
    let none = gaps-none u (xs.gapless (y ++ r) e) in
    let zero_more : 0 + (length x - 1) ≡ length x - 1 = omega arith in
    let here : 0 + length x ≡ length x = omega arith in
    ap (λ t. items false (form false true depth) false 0 t) (append_assoc x y r)
    ∙ item-rest x y a d k xs ys false u r depth 0 (plain-kind false u none ∙ xs.item (y ++ r) e false)
    (xs.read (y ++ r) e true depth h ∙ ap (Got a) (sym zero_more)) (ap (λ n. drop n u) here ∙ drop_at x (y ++ r) (length x) refl)
    (omega (arith, length-append x (y ++ r), length-append y r, ys.long)) h
    ∙ ap (λ n. Got (PairForm a d) (n + (length y - 1))) here

list-form : (x y r : List ℕ) (a d : Datum) (k : ℕ) → IsRead x a k → IsRest y d k → (inside : Bool) (depth : ℕ) → suc k ≤ depth →
    form false inside depth (40 ∷ (x ++ y) ++ r) ≡ Got (PairForm a d) (length x + length y)
list-form x y r a d k xs ys inside zero h = absurd (omega arith)
list-form x y r a d k xs ys inside (suc depth) h =
    let last : 1 + (length x + (length y - 1)) ≡ length x + length y = omega (arith, ys.long) in
    let t = 40 ∷ (x ++ y) ++ r in
    form-at false inside (suc depth) t Open (gaps-none t (ap is_gap (open-front ((x ++ y) ++ r)))) (open-front ((x ++ y) ++ r))
    ∙ ap (shift 1) (list-items x y r a d k depth xs ys (omega arith)) ∙ ap (Got (PairForm a d)) last

list-read : (x y : List ℕ) (a d : Datum) (k : ℕ) → IsRead x a k → IsRest y d k → IsRead (40 ∷ x ++ y) (PairForm a d) (suc k)
list-read x y a d k xs ys =
    let last : length x + length y ≡ length (40 ∷ x ++ y) - 1 = omega (arith, length-append x y) in
    record {
      long = omega arith;
      gapless = λ r e. ap is_gap (open-front ((x ++ y) ++ r));
      item = λ r e some. ap (kind_of false some ((40 ∷ x ++ y) ++ r)) (open-front ((x ++ y) ++ r));
      read = λ r e inside depth h. list-form x y r a d k xs ys inside depth h ∙ ap (Got (PairForm a d)) last;
    }

blank-ends : in_atom 32 ≡ false
unfolding in_atom
blank-ends = refl

close-ends : in_atom 41 ≡ false
unfolding in_atom is_delimiter
close-ends = refl

pair-rest : (x y : List ℕ) (a d : Datum) (k : ℕ) → IsRead x a k → IsRest y d k → IsRest (32 ∷ x ++ y) (PairForm a d) k
pair-rest x y a d k xs ys =
    let last : 1 + length x + (length y - 1) ≡ length (32 ∷ x ++ y) - 1 = omega (arith, length-append x y, ys.long) in
    record {
      long = omega arith;
      ends = λ r. blank-ends;
      rest = λ r depth h.
          let u = x ++ (y ++ r) in
          let e = ys.ends r in
          let none = gaps-none u (xs.gapless (y ++ r) e) in
          let next : 1 + length x ≡ suc (length x) = omega arith in
          ap (λ t. items false (form false true depth) true 0 (32 ∷ t)) (append_assoc x y r)
          ∙ item-rest x y a d k xs ys true (32 ∷ u) r depth 1 (blank-kind true u none ∙ xs.item (y ++ r) e true)
          (blank-form true depth u none ∙ ap (shift 1) (xs.read (y ++ r) e true depth h))
          (ap (λ n. drop n (32 ∷ u)) next ∙ drop_at x (y ++ r) (length x) refl)
          (omega (arith, length-append x (y ++ r), length-append y r, ys.long)) h
          ∙ ap (Got (PairForm a d)) last;
    }

close-gaps : (r : List ℕ) → gaps (41 ∷ r) ≡ 0
close-gaps r = gaps-none (41 ∷ r) (ap is_gap (close-front r))

nil-rest : (k : ℕ) → IsRest (41 ∷ []) nil_form k
nil-rest k = record {
  long = omega arith;
  ends = λ r. close-ends;
  rest = λ r depth h. items-close false (form false true depth) true (41 ∷ r) (plain-kind true (41 ∷ r) (close-gaps r) ∙ ap (kind_of false true (41 ∷ r)) (close-front r)) ∙ ap (Got nil_form) (close-gaps r);
}

point-front : (w : List ℕ) → front (46 ∷ 32 ∷ w) ≡ Atom 0
unfolding front opens_block opens is_blank in_atom is_delimiter
point-front w = refl

point-kind : (w : List ℕ) → kind_of false true (46 ∷ 32 ∷ w) (Atom 0) ≡ Points
unfolding leaf
point-kind w = refl

close-here : (d : Datum) (r : List ℕ) → closing false d (41 ∷ r) ≡ Got d 0
close-here d r =
    let by : List ℕ → Read = λ t. closing_by false d t (front t) in
    ap (λ n. shift n (by (drop n (41 ∷ r)))) (close-gaps r) ∙ shift-zero _ ∙ ap (closing_by false d (41 ∷ r)) (close-front r)

last-read : (x r : List ℕ) (d : Datum) (k depth : ℕ) → IsRead x d k → k ≤ depth → last false (form false true depth) (32 ∷ x ++ 41 ∷ r) ≡ Got d (length x + 1)
last-read x r d k depth xs h =
    let w = x ++ 41 ∷ r in
    let f : List ℕ → Read = form false true depth in
    let none = gaps-none w (xs.gapless (41 ∷ r) close-ends) in
    let read : f (32 ∷ w) ≡ Got d (1 + (length x - 1)) = blank-form true depth w none ∙ ap (shift 1) (xs.read (41 ∷ r) close-ends true depth h) in
    let n = 1 + (length x - 1) in
    let next : n + 1 ≡ suc (length x) = omega (arith, xs.long) in
    let end : n + 1 + 0 ≡ length x + 1 = omega (arith, xs.long) in
    ap (last_by false f (32 ∷ w)) (blank-kind false w none ∙ xs.item (41 ∷ r) close-ends false)
    ∙ ap (λ q. and_then q (λ g n. shift (n + 1) (closing false g (drop (n + 1) (32 ∷ w))))) read
    ∙ ap (λ m. shift (n + 1) (closing false d (drop m (32 ∷ w)))) next
    ∙ ap (λ t. shift (n + 1) (closing false d t)) (drop_at x (41 ∷ r) (length x) refl)
    ∙ ap (shift (n + 1)) (close-here d r) ∙ ap (Got d) end

point-rest : (x : List ℕ) (d : Datum) (k : ℕ) → IsRead x d k → IsRest (codes " . " ++ x ++ 41 ∷ []) d k
point-rest x d k xs =
    let last_place : 2 + (length x + 1) ≡ length (codes " . " ++ x ++ 41 ∷ []) - 1 = omega (arith, length-append x (41 ∷ [])) in
    record {
      long = omega arith;
      ends = λ r. blank-ends;
      rest = λ r depth h.
          let w = x ++ 41 ∷ r in
          let u = 46 ∷ 32 ∷ w in
          let f : List ℕ → Read = form false true depth in
          let one = blank-gaps u (gaps-none u (ap is_gap (point-front w))) in
          ap (λ t. items false f true 0 (32 ∷ 46 ∷ 32 ∷ t)) (append_assoc x (41 ∷ []) r)
          ∙ items-points false f true (32 ∷ u) (blank-kind true u (gaps-none u (ap is_gap (point-front w))) ∙ ap (kind_of false true u) (point-front w) ∙ point-kind w)
          ∙ ap (λ n. shift (n + 1) (last false f (drop (n + 1) (32 ∷ u)))) one
          ∙ ap (shift 2) (last-read x r d k depth xs h) ∙ ap (Got d) last_place;
    }

quote-front : (t : List ℕ) → front (39 ∷ t) ≡ Quote
unfolding front opens_block opens is_blank
quote-front [] = refl
quote-front (c ∷ t) = refl

quote-read_at : (t r : List ℕ) (f : Datum) (k : ℕ) → IsRead t f k → Ends r → (inside : Bool) (depth : ℕ) → suc k ≤ depth →
    form false inside depth (39 ∷ t ++ r) ≡ Got (quote_form f) (length (39 ∷ t) - 1)
quote-read_at t r f k w e inside zero h = absurd (omega arith)
quote-read_at t r f k w e inside (suc depth) h =
    let last : 1 + (length t - 1) ≡ length (39 ∷ t) - 1 = omega (arith, w.long) in
    form-at false inside (suc depth) (39 ∷ t ++ r) Quote (gaps-none (39 ∷ t ++ r) (ap is_gap (quote-front (t ++ r)))) (quote-front (t ++ r))
    ∙ ap (λ q. shift 1 (mapped quote_form q)) (w.read r e true depth (omega arith)) ∙ ap (Got (quote_form f)) last

quote-read : (t : List ℕ) (f : Datum) (k : ℕ) → IsRead t f k → IsRead (39 ∷ t) (quote_form f) (suc k)
quote-read t f k w = record {
  long = omega arith;
  gapless = λ r e. ap is_gap (quote-front (t ++ r));
  item = λ r e some. ap (kind_of false some (39 ∷ t ++ r)) (quote-front (t ++ r));
  read = λ r e inside depth h. quote-read_at t r f k w e inside depth h;
}

mutual
  text-read : {k : ℕ} {d : Datum} {t : List ℕ} → IsText k d t → IsRead t d k
  text-read (integer z p) = word-read _ _ _ _ (integer-word z p)
  text-read (symbol s p) = word-read _ _ _ _ (symbol-word s p)
  text-read (string_of s) = string-read s _
  text-read (quoted w) = quote-read _ _ _ (text-read w)
  text-read (list v w) = list-read _ _ _ _ _ (text-read v) (rest-read w)

  rest-read : {k : ℕ} {d : Datum} {t : List ℕ} → IsRestText k d t → IsRest t d k
  rest-read end = nil-rest _
  rest-read (last_of w) = point-rest _ _ _ (text-read w)
  rest-read (next v w) = pair-rest _ _ _ _ _ (text-read v) (rest-read w)

symbol-rest : (t : List ℕ) (k : ℕ) → IsSymbolText t → (b : Bool) → bytes_eq t (codes "NIL") ≡ b → IsRestText k (SymForm t) (cond b (41 ∷ []) (codes " . " ++ t ++ 41 ∷ []))
symbol-rest t k p true e = let same = (bytes_decides t (codes "NIL")).0 e in subst (λ (x : List ℕ). IsRestText k (SymForm x) (41 ∷ [])) (sym same) end
symbol-rest t k p false e = last_of (symbol t p)

mutual
  unfolding form_text rest_text

  -- what is printed of a form is a text of it
  pub printed-text : (d : Datum) (k : ℕ) → IsPrintable d → nesting d ≤ k → IsText k d (form_text d)
  printed-text (IntForm z) k p h = integer z p
  printed-text (SymForm t) k p h = symbol t p
  printed-text (TextForm t) k p h = string_of t
  printed-text (PairForm a d) zero p h = absurd (omega arith)
  printed-text (PairForm a d) (suc k) p h = list (printed-text a k p.0 (omega arith)) (printed-rest d k p.1 (omega arith))

  printed-rest : (d : Datum) (k : ℕ) → IsPrintable d → nesting d ≤ suc k → IsRestText k d (rest_text d)
  printed-rest (IntForm z) k p h = last_of (integer z p)
  printed-rest (SymForm t) k p h = symbol-rest t k p (bytes_eq t (codes "NIL")) refl
  printed-rest (TextForm t) k p h = last_of (string_of t)
  printed-rest (PairForm a d) k p h = next (printed-text a k p.0 (omega arith)) (printed-rest d k p.1 (omega arith))

and-false : (a : Bool) → (a && false) ≡ false
and-false true = refl
and-false false = refl

book-end : (left place : ℕ) (t : List ℕ) → t ≡ [] → book false left place 0 t ≡ ([], None)
unfolding book
book-end left place t e = ap (book false left place 0) e

whole-book : (t : List ℕ) (d : Datum) → IsRead t d MAX_NESTING → parse false t ≡ ((d, 0) ∷ [], None)
whole-book t d w =
    let n = length t - 1 in
    let same : t ++ [] ≡ t = append-nil t in
    let none : gaps t ≡ 0 = gaps-none t (ap (λ x. is_gap (front x)) (sym same) ∙ w.gapless [] tt) in
    let read : form false false MAX_NESTING t ≡ Got d n = ap (form false false MAX_NESTING) (sym same) ∙ w.read [] tt false MAX_NESTING (omega arith) in
    let some : nat_eq (length (behind t)) 0 ≡ false =
    (let long : 0 < length (behind t) = omega (arith, ap (λ k. length (drop k t)) none, w.long) in grind (arith, nat_tests)) in
    let all : n + 1 ≡ length t = omega (arith, w.long) in
    let next : next_form false (nat_eq MAX_FORMS 0) t ≡ Got d n = ap (λ c. cond c (Bad BookTooLong (gaps t)) (form false false MAX_NESTING t)) (and-false (begins_form false (behind t))) ∙ read in
    book-got false MAX_FORMS 0 t d n some next (omega (arith, w.long))
    ∙ ap (λ k. before false (d, 0 + k) (book false (MAX_FORMS - 1) (0 + (n + 1)) 0 (drop (n + 1) t))) none
    ∙ ap (before false (d, 0)) (book-end (MAX_FORMS - 1) (0 + (n + 1)) (drop (n + 1) t) (drop_all (n + 1) t (omega arith)))

-- each text of a form is read as that form
pub texts-read : TextsAreRead
texts-read d t w h =
    let short : nat_lt MAX_BOOK (length t) ≡ false = grind (arith, nat_tests) in
    ap (λ c. cond c (parse true (take MAX_BOOK t)) (parse false t)) short ∙ whole-book t d (text-read w)

-- so is what is printed of it
pub forms-again : (d : Datum) → IsPrintable d → IsReadAgain d
forms-again d p = record { read = λ h l. texts-read d (form_text d) (printed-text d MAX_NESTING p h) l }

no-text : (v : Val) → has_text (datum_of v) ≡ false
no-text (v.Int z) = refl
no-text (v.Sym t) = refl
no-text (v.Pair a d) = λ i. no-text a i || no-text d i

same-value : (v : Val) → value (datum_of v) ≡ v
same-value (v.Int z) = refl
same-value (v.Sym t) = refl
same-value (v.Pair a d) = λ i. v.Pair (same-value a i) (same-value d i)

-- the text of a value is read as a form of that value
pub values-again : (v : Val) → IsPrintable (datum_of v) → IsValueAgain v
values-again x p = record { read = forms-again (datum_of x) p; plain = no-text x; value = same-value x }

pub ruleset prints = (forms-again, values-again)

pub ruleset texts = (texts-read, printed-text)
