-- What stands at a place of the bytes.
use Rattle.std.proofs.Common.{◌≡◌, ℕ, zero, suc, ◌+◌, ◌-◌, ◌<◌, ◌≤◌, Bool, true, false, cond, ◌&&◌, nat_eq, Option, Some, None, List, [], ◌∷◌, length, get_or, take, drop, refl, ap, sym, ◌∙◌, arith, length-drop}
use Rattle.std.proofs.lemmas.List.{drop-drop, take_rest, take_all}
use Rattle.std.proofs.lemmas.Bool.Decides.{nat_tests}
use native.Mathlib.Numerals.{unary_clauses}
use Rattle.std.specs.List.{prefix_len}
use Rattle.lisp_reader.specs.Spans.{opens, ends, later, block, string, opens_block, Front, Nothing, Gap, EndlessGap, Open, Close, Quote, Text, EndlessText, Atom, Stray, plain, comment, front, gap_after, gaps_from, gaps, is_gap}

-- the bytes from a place on: the one there, and the rest
pub drop-at : (xs : List ℕ) (i : ℕ) → i < length xs → drop i xs ≡ get_or xs i 0 ∷ drop (i + 1) xs
drop-at [] i h = absurd (omega arith)
drop-at (x ∷ xs) zero h = refl
drop-at (x ∷ xs) (suc i) h = simp unary_clauses (simp unary_clauses at (drop-at xs i (omega arith)))

pub drop-end : (xs : List ℕ) (i : ℕ) → length xs ≤ i → drop i xs ≡ []
drop-end [] zero h = refl
drop-end [] (suc i) h = refl
drop-end (x ∷ xs) zero h = absurd (omega arith)
drop-end (x ∷ xs) (suc i) h = drop-end xs i (omega arith)

pub later-later : (m n : ℕ) (o : Option ℕ) → later m (later n o) ≡ later (m + n) o
later-later m n None = refl
later-later m n (Some k) = let e : (k + n) + m ≡ k + (m + n) = omega arith in ap Some e

pub later-zero : (o : Option ℕ) → later 0 o ≡ o
later-zero None = refl
later-zero (Some k) = let e : k + 0 ≡ k = omega arith in ap Some e

pub block-end : (inner : ℕ) (xs : List ℕ) (i : ℕ) → length xs ≤ i + 1 → block inner (drop i xs) ≡ None
unfolding block
block-end inner [] zero h = refl
block-end inner [] (suc i) h = refl
block-end inner (x ∷ []) zero h = refl
block-end inner (x ∷ y ∷ xs) zero h = absurd (omega arith)
block-end inner (x ∷ xs) (suc i) h = block-end inner xs i (omega arith)

abbrev pub block_on : ℕ → List ℕ → ℕ → Option ℕ
block_on inner xs i = later i (block inner (drop i xs))

pub block-step : (inner : ℕ) (xs : List ℕ) (i : ℕ) → i + 1 < length xs →
    block_on inner xs i ≡ cond (opens (get_or xs i 0) (get_or xs (i + 1) 0)) (block_on (inner + 1) xs (i + 2))
    (cond (ends (get_or xs i 0) (get_or xs (i + 1) 0)) (cond (nat_eq inner 0) (Some (i + 1)) (block_on (inner - 1) xs (i + 2)))
    (block_on inner xs (i + 1)))
unfolding block
block-step inner xs i h =
    let b = get_or xs i 0 in
    let c = get_or xs (i + 1) 0 in
    let next = drop-at xs (i + 1) h in
    let here : drop i xs ≡ b ∷ c ∷ drop (i + 1 + 1) xs = drop-at xs i (omega arith) ∙ ap (λ t. b ∷ t) next in
    let two : drop (i + 1 + 1) xs ≡ drop (i + 2) xs = ap (λ k. drop k xs) (omega arith) in
    let on : (d : ℕ) → later i (later 2 (block d (drop (i + 1 + 1) xs))) ≡ block_on d xs (i + 2) = λ d. later-later i 2 _ ∙ ap (λ t. later (i + 2) (block d t)) two in
    let one : later i (later 1 (block inner (c ∷ drop (i + 1 + 1) xs))) ≡ block_on inner xs (i + 1) = later-later i 1 _ ∙ ap (λ t. later (i + 1) (block inner t)) (sym next) in
    let same : Some (1 + i) ≡ Some (i + 1) = let e : 1 + i ≡ i + 1 = omega arith in ap Some e in
    ap (λ t. later i (block inner t)) here ∙ spread i (opens b c) (ends b c) (nat_eq inner 0) _ _ _ _ ∙ joined (opens b c) (ends b c) (nat_eq inner 0) (on (inner + 1)) same (on (inner - 1)) one
  where
    spread : (i : ℕ) (o e z : Bool) (p q r s : Option ℕ) → later i (cond o p (cond e (cond z q r) s)) ≡ cond o (later i p) (cond e (cond z (later i q) (later i r)) (later i s))
    spread i true e z p q r s = refl
    spread i false true true p q r s = refl
    spread i false true false p q r s = refl
    spread i false false z p q r s = refl

    joined : (o e z : Bool) {p p' q q' r r' s s' : Option ℕ} → p ≡ p' → q ≡ q' → r ≡ r' → s ≡ s' → cond o p (cond e (cond z q r) s) ≡ cond o p' (cond e (cond z q' r') s')
    joined o e z hp hq hr hs = λ j. cond o (hp j) (cond e (cond z (hq j) (hr j)) (hs j))

abbrev pub string_on : List ℕ → ℕ → Option ℕ
string_on xs i = later i (string (drop i xs))

pub string-end : (xs : List ℕ) (i : ℕ) → length xs ≤ i → string_on xs i ≡ None
unfolding string
string-end xs i h = ap (λ t. later i (string t)) (drop-end xs i h)

pub string-first : (b : ℕ) (t : List ℕ) → string (b ∷ t) ≡ cond (nat_eq b 34) (Some 0) (cond (nat_eq b 92) (later 2 (string (drop 1 t))) (later 1 (string t)))
unfolding string
string-first b [] = ap (λ o. cond (nat_eq b 34) (Some 0) o) (none (nat_eq b 92) None)
  where
    none : (e : Bool) (o : Option ℕ) → o ≡ cond e o o
    none true o = refl
    none false o = refl
string-first b (c ∷ t) = refl

pub string-step : (xs : List ℕ) (i : ℕ) → i < length xs →
    string_on xs i ≡ cond (nat_eq (get_or xs i 0) 34) (Some i) (cond (nat_eq (get_or xs i 0) 92) (string_on xs (i + 2)) (string_on xs (i + 1)))
string-step xs i h =
    let b = get_or xs i 0 in
    let t = drop (i + 1) xs in
    let far : (i + 1) + 1 ≡ i + 2 = omega arith in
    let two : later i (later 2 (string (drop 1 t))) ≡ string_on xs (i + 2) =
    later-later i 2 _ ∙ ap (λ s. later (i + 2) (string s)) (drop-drop 1 (i + 1) xs ∙ ap (λ k. drop k xs) far) in
    let one : later i (later 1 (string t)) ≡ string_on xs (i + 1) = later-later i 1 _ in
    ap (λ s. later i (string s)) (drop-at xs i h) ∙ ap (later i) (string-first b t) ∙ spread (nat_eq b 34) (nat_eq b 92) _ _
    ∙ λ j. cond (nat_eq b 34) (Some i) (cond (nat_eq b 92) (two j) (one j))
  where
    spread : (q e : Bool) (x y : Option ℕ) → later i (cond q (Some 0) (cond e x y)) ≡ cond q (Some i) (cond e (later i x) (later i y))
    spread true e x y = let z : 0 + i ≡ i = omega arith in ap Some z
    spread false true x y = refl
    spread false false x y = refl

pub string-other : (xs : List ℕ) (i : ℕ) → i < length xs → (get_or xs i 0 ≡ 34 → ⊥) → (get_or xs i 0 ≡ 92 → ⊥) → string_on xs i ≡ string_on xs (i + 1)
string-other xs i h quote escape =
    let q : nat_eq (get_or xs i 0) 34 ≡ false = grind (arith, nat_tests) in
    let e : nat_eq (get_or xs i 0) 92 ≡ false = grind (arith, nat_tests) in
    string-step xs i h ∙ λ j. cond (q j) (Some i) (cond (e j) (string_on xs (i + 2)) (string_on xs (i + 1)))

pub ruleset spans = (later-zero, block-step, block-end, string-step, string-end)

pub front-block : (xs : List ℕ) → opens_block xs ≡ true → front xs ≡ comment (block 0 (drop 2 xs))
unfolding front opens_block
front-block [] h = cc
front-block (b ∷ t) h = ap (λ c. cond c (comment (block 0 (drop 1 t))) (plain b t)) h

-- as the code splits it: the first byte, and the rest
pub front-plain : (xs : List ℕ) → 1 ≤ length xs → opens_block xs ≡ false → plain (get_or xs 0 0) (take (length xs - 1) (drop 1 xs)) ≡ front xs
unfolding front opens_block
front-plain [] h e = absurd (omega arith)
front-plain (b ∷ t) h e = ap (plain b) (take_rest (b ∷ t) 1) ∙ sym (ap (λ c. cond c (comment (block 0 (drop 1 t))) (plain b t)) e)

pub front-nothing : (xs : List ℕ) → length xs ≡ 0 → front xs ≡ Nothing
unfolding front
front-nothing [] h = refl
front-nothing (b ∷ t) h = absurd (omega arith)

pub prefix-fits : (p : ℕ → Bool) (xs : List ℕ) → prefix_len p xs ≤ length xs
prefix-fits p [] = omega arith
prefix-fits p (x ∷ xs) = elim (p x) as (λ c. cond c (1 + prefix_len p xs) 0 ≤ length (x ∷ xs)) [ true ↦ omega (arith, prefix-fits p xs) | false ↦ omega arith ]

pub ruleset comments = (take_rest, length-drop)

pub ruleset runs = (prefix-fits)

pub ruleset fronts = (front-block, front-plain, front-nothing, take_rest, length-drop)

gaps_from-skip : (skip : ℕ) (xs : List ℕ) → skip ≤ length xs → gaps_from skip xs ≡ skip + gaps (drop skip xs)
unfolding gaps_from
gaps_from-skip zero [] h = refl
gaps_from-skip zero (x ∷ xs) h = omega arith
gaps_from-skip (suc skip) [] h = absurd (omega arith)
gaps_from-skip (suc skip) (x ∷ xs) h = omega (arith, gaps_from-skip skip xs (omega arith))

-- after a gap whose last byte is the n-th
pub gaps-step : (xs : List ℕ) (i n : ℕ) → i + n < length xs → front (drop i xs) ≡ Gap n → i + gaps (drop i xs) ≡ (i + (n + 1)) + gaps (drop (i + (n + 1)) xs)
unfolding gaps_from
gaps-step xs i n h e =
    let here = drop-at xs i (omega arith) in
    let t = drop (i + 1) xs in
    let one : gaps (drop i xs) ≡ gaps_from n t + 1 = ap gaps here ∙ ap (λ f. gap_after f (λ n. gaps_from n t)) (sym (ap front here) ∙ e) in
    let room : n ≤ length t = omega (arith, length-drop (i + 1) xs) in
    let place : (i + 1) + n ≡ i + (n + 1) = omega arith in
    let far : gaps (drop n t) ≡ gaps (drop (i + (n + 1)) xs) = ap gaps (drop-drop n (i + 1) xs ∙ ap (λ k. drop k xs) place) in
    omega (arith, one, gaps_from-skip n t room, far)

gap_after-none : (f : Front) (rest : ℕ → ℕ) → is_gap f ≡ false → gap_after f rest ≡ 0
gap_after-none Nothing rest h = refl
gap_after-none (Gap n) rest h = cc
gap_after-none EndlessGap rest h = refl
gap_after-none Open rest h = refl
gap_after-none Close rest h = refl
gap_after-none Quote rest h = refl
gap_after-none (Text n) rest h = refl
gap_after-none EndlessText rest h = refl
gap_after-none (Atom n) rest h = refl
gap_after-none Stray rest h = refl

pub gaps-none : (xs : List ℕ) → is_gap (front xs) ≡ false → gaps xs ≡ 0
unfolding gaps_from
gaps-none [] h = refl
gaps-none (x ∷ xs) h = gap_after-none (front (x ∷ xs)) (λ n. gaps_from n xs) h

pub ruleset gaps_by = (gaps-step, gaps-none, take_rest, length-drop)
