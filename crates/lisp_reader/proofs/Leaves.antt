-- Atoms and strings at a place of the bytes.
use Rattle.std.proofs.Common.{◌≡◌, ℕ, zero, suc, ◌+◌, ◌-◌, ◌<◌, ◌≤◌, Bool, true, false, cond, ◌&&◌, nat_eq, Option, Some, None, List, [], ◌∷◌, length, get_or, take, drop, map, refl, ap, sym, subst, ◌∙◌, arith, ◌++◌, append_assoc, length-drop}
use Rattle.std.proofs.lemmas.Bool.Decides.{nat_tests}
use Rattle.std.proofs.lemmas.Str.{IsUtf8-from_ascii}
use Rattle.std.proofs.lemmas.Str.Ascii.{IsAscii-nil, IsAscii-cons}
use Rattle.std.specs.List.{list_all}
use Rattle.std.specs.Str.{IsAscii, IsUtf8}
use Rattle.std.specs.Prelude.{codes}
use Rattle.std.specs.Char.{to_ascii_uppercase}
use Rattle.std.proofs.lemmas.List.{append-nil, drop-drop, take_rest}
use Rattle.lisp_reader.proofs.Pieces.{drop-at, drop-end}
use Rattle.lisp_data.specs.Atoms.{in_atom, is_delimiter, is_sign, is_exponent, leaf, Named}
use Rattle.lisp_data.specs.SymbolText.{NamesSymbol}
use Rattle.lisp_reader.specs.Spans as s
use Rattle.lisp_reader.specs.Spans.{Front, Nothing, Gap, EndlessGap, Open, Close, Quote, Text, EndlessText, Atom, Stray, run, front, escapes, unescaped}

and-left : (a c : Bool) → (a && c) ≡ true → a ≡ true
and-left true c e = refl
and-left false c e = e

and-right : (a c : Bool) → (a && c) ≡ true → c ≡ true
and-right true c e = e
and-right false c e = cc

atom-ascii : (b : ℕ) → in_atom b ≡ true → b < 128
unfolding in_atom
atom-ascii b h = grind (arith, nat_tests)

atoms-ascii : (r : List ℕ) → list_all in_atom r ≡ true → IsAscii r
atoms-ascii [] h = IsAscii-nil
atoms-ascii (b ∷ t) h = IsAscii-cons b t (atom-ascii b (and-left (in_atom b) (list_all in_atom t) h)) (atoms-ascii t (and-right (in_atom b) (list_all in_atom t) h))

pub atoms-text : (r : List ℕ) → list_all in_atom r ≡ true → IsUtf8 r
atoms-text r h = IsUtf8-from_ascii r (atoms-ascii r h)

pub ruleset ascii = (atoms-text)

plain-atom : (b : ℕ) (t : List ℕ) (n : ℕ) (blank line start end mark text atom : Bool) → in_atom b ≡ atom →
    cond blank (Gap 0) (cond line (Gap (s.line t)) (cond start Open (cond end Close (cond mark Quote (cond text (s.text (s.string t)) (cond atom (Atom (run t)) Stray)))))) ≡ Atom n →
    (in_atom b ≡ true) × (n ≡ run t)
plain-atom b t n true line start end mark text atom a h = cc
plain-atom b t n false true start end mark text atom a h = cc
plain-atom b t n false false true end mark text atom a h = cc
plain-atom b t n false false false true mark text atom a h = cc
plain-atom b t n false false false false true text atom a h = cc
plain-atom b t n false false false false false true atom a h = on (s.string t) h
  where
    on : (o : Option ℕ) → s.text o ≡ Atom n → (in_atom b ≡ true) × (n ≡ run t)
    on None e = cc
    on (Some k) e = cc
plain-atom b t n false false false false false false true a h = let e : n ≡ run t = cc in (a, e)
plain-atom b t n false false false false false false false a h = cc

both : (a c : Bool) → a ≡ true → c ≡ true → (a && c) ≡ true
both a c p q = λ i. p i && q i

all-cons : (b n : ℕ) (t : List ℕ) → in_atom b ≡ true → list_all in_atom (take n t) ≡ true → list_all in_atom (take (n + 1) (b ∷ t)) ≡ true
all-cons b n t e h =
    let next : n + 1 ≡ suc n = omega arith in
    ap (λ k. list_all in_atom (take k (b ∷ t))) next ∙ both (in_atom b) (list_all in_atom (take n t)) e h

run-more : (b : ℕ) (t : List ℕ) (c : Bool) → in_atom b ≡ c → list_all in_atom (take (run t) t) ≡ true → list_all in_atom (take (cond c (1 + run t) 0) (b ∷ t)) ≡ true
run-more b t true e h = let next : 1 + run t ≡ run t + 1 = omega arith in ap (λ k. list_all in_atom (take k (b ∷ t))) next ∙ all-cons b (run t) t e h
run-more b t false e h = refl

run-all : (t : List ℕ) → list_all in_atom (take (run t) t) ≡ true
run-all [] = refl
run-all (b ∷ t) = run-more b t (in_atom b) refl (run-all t)

first-atom : (b : ℕ) (t : List ℕ) (n : ℕ) (block : Bool) (o : Option ℕ) → cond block (s.comment o) (s.plain b t) ≡ Atom n → list_all in_atom (take (n + 1) (b ∷ t)) ≡ true
first-atom b t n true None h = cc
first-atom b t n true (Some k) h = cc
first-atom b t n false o h =
    let r = plain-atom b t n (s.is_blank b) (nat_eq b 59) (nat_eq b 40) (nat_eq b 41) (nat_eq b 39) (nat_eq b 34) (in_atom b) refl h in
    ap (λ k. list_all in_atom (take (k + 1) (b ∷ t))) r.1 ∙ all-cons b (run t) t r.0 (run-all t)

-- the bytes of an atom are an atom's
pub front-atom : (xs : List ℕ) (n : ℕ) → front xs ≡ Atom n → list_all in_atom (take (n + 1) xs) ≡ true
unfolding front
front-atom [] n h = cc
front-atom (b ∷ t) n h = first-atom b t n (s.opens_block (b ∷ t)) (s.block 0 (drop 1 t)) h

pub ruleset atoms = (front-atom)

known : (text s : List ℕ) → list_all in_atom text ≡ true → leaf false text ≡ Named s → NamesSymbol text s
known text s a e = record { atom = a; symbol = e }

pub names-quote : NamesSymbol (codes "QUOTE") (map to_ascii_uppercase (codes "QUOTE"))
unfolding in_atom is_delimiter is_sign is_exponent leaf
names-quote = known (codes "QUOTE") (codes "QUOTE") refl refl

pub names-nil : NamesSymbol (codes "NIL") (map to_ascii_uppercase (codes "NIL"))
unfolding in_atom is_delimiter is_sign is_exponent leaf
names-nil = known (codes "NIL") (codes "NIL") refl refl

pub ruleset names = (names-quote, names-nil)

pub escaped-step : (xs : List ℕ) (i : ℕ) → escapes (drop i xs) ≡ true → i + 1 < length xs → unescaped (drop i xs) ≡ get_or xs (i + 1) 0 ∷ unescaped (drop (i + 2) xs)
unfolding escapes unescaped
escaped-step xs i e h =
    let b = get_or xs i 0 in
    let c = get_or xs (i + 1) 0 in
    let here : drop i xs ≡ b ∷ c ∷ drop (i + 1 + 1) xs = drop-at xs i (omega arith) ∙ ap (λ t. b ∷ t) (drop-at xs (i + 1) h) in
    let far : i + 1 + 1 ≡ i + 2 = omega arith in
    let slash : nat_eq b 92 ≡ true = sym (ap escapes here) ∙ e in
    ap unescaped here ∙ ap (λ q. cond q (c ∷ unescaped (drop (i + 1 + 1) xs)) (b ∷ unescaped (c ∷ drop (i + 1 + 1) xs))) slash
    ∙ ap (λ k. c ∷ unescaped (drop k xs)) far

pub plain-first : (b : ℕ) (t : List ℕ) → escapes (b ∷ t) ≡ false → unescaped (b ∷ t) ≡ b ∷ unescaped t
unfolding escapes unescaped
plain-first b [] e = refl
plain-first b (c ∷ t) e = ap (λ q. cond q (c ∷ unescaped t) (b ∷ unescaped (c ∷ t))) e

pub plain-step : (xs : List ℕ) (i : ℕ) → i < length xs → escapes (drop i xs) ≡ false → unescaped (drop i xs) ≡ get_or xs i 0 ∷ unescaped (drop (i + 1) xs)
plain-step xs i h e =
    let here = drop-at xs i h in
    ap unescaped here ∙ plain-first (get_or xs i 0) (drop (i + 1) xs) (sym (ap escapes here) ∙ e)

pub unescaped-end : (xs : List ℕ) (i : ℕ) → length xs ≤ i → unescaped (drop i xs) ≡ []
unfolding unescaped
unescaped-end xs i h = ap unescaped (drop-end xs i h)

pub pushed : (s t : List ℕ) (b : ℕ) → (s ++ b ∷ []) ++ t ≡ s ++ b ∷ t
pushed s t b = append_assoc s (b ∷ []) t

-- the bytes between the quotes
pub between : (xs : List ℕ) (place n : ℕ) → 0 < n → unescaped (take (place + n - (place + 1)) (drop (place + 1) xs)) ≡ unescaped (take (n - 1) (drop 1 (drop place xs)))
between xs place n h =
    let long : place + n - (place + 1) ≡ n - 1 = omega arith in
    ap (λ k. unescaped (take k (drop (place + 1) xs))) long ∙ ap (λ t. unescaped (take (n - 1) t)) (sym (drop-drop 1 place xs))

pub ruleset strings = (between, escaped-step, plain-step, unescaped-end, pushed, append-nil, drop-drop, take_rest, length-drop)

pub ruleset odds = (names-nil)
