-- Texts that are compared byte after byte.
use Rattle.std.proofs.Common.{◌≡◌, ◌≢◌, ℕ, ◌+◌, ◌<◌, ◌≤◌, Bool, true, false, ◌&&◌, nat_eq, bytes_eq, List, [], ◌∷◌, length, get_or, drop, refl, ap, ◌∙◌, arith}
use Rattle.std.proofs.lemmas.Bool.Decides.{nat_tests}
use Rattle.std.proofs.lemmas.List.{drop_all, drop_more}
use Rattle.std.proofs.lemmas.Slice.Eq.{bytes_eq-Decides}

pub bytes-lengths : (a b : List ℕ) → length a ≢ length b → bytes_eq a b ≡ false
bytes-lengths [] [] h = absurd (h refl)
bytes-lengths [] (y ∷ ys) h = refl
bytes-lengths (x ∷ xs) [] h = refl
bytes-lengths (x ∷ xs) (y ∷ ys) h = and_none (nat_eq x y) _ (bytes-lengths xs ys (λ e. h (omega arith)))
  where
    and_none : (b c : Bool) → c ≡ false → (b && c) ≡ false
    and_none true c e = e
    and_none false c e = refl

equal-true : (x y : ℕ) → x ≡ y → nat_eq x y ≡ true
equal-true x y e = grind (arith, nat_tests)

differ-false : (x y : ℕ) → x ≢ y → nat_eq x y ≡ false
differ-false x y e = grind (arith, nat_tests)

-- the bytes at a place, and those after it
bytes-at : (a b : List ℕ) (i : ℕ) → i < length a → length a ≡ length b →
    bytes_eq (drop i a) (drop i b) ≡ (nat_eq (get_or a i 0) (get_or b i 0) && bytes_eq (drop (i + 1) a) (drop (i + 1) b))
bytes-at a b i h n =
    ap (λ s. bytes_eq s (drop i b)) (drop_more a i 0 h)
    ∙ ap (bytes_eq (get_or a i 0 ∷ drop (i + 1) a)) (drop_more b i 0 (omega arith))

pub bytes-same : (a b : List ℕ) (i : ℕ) → i < length a → length a ≡ length b → get_or a i 0 ≡ get_or b i 0 →
    bytes_eq (drop i a) (drop i b) ≡ bytes_eq (drop (i + 1) a) (drop (i + 1) b)
bytes-same a b i h n e = bytes-at a b i h n ∙ ap (λ c. c && bytes_eq (drop (i + 1) a) (drop (i + 1) b)) (equal-true _ _ e)

pub bytes-differ : (a b : List ℕ) (i : ℕ) → i < length a → length a ≡ length b → get_or a i 0 ≢ get_or b i 0 →
    bytes_eq (drop i a) (drop i b) ≡ false
bytes-differ a b i h n d = bytes-at a b i h n ∙ ap (λ c. c && bytes_eq (drop (i + 1) a) (drop (i + 1) b)) (differ-false _ _ d)

pub bytes-end : (a b : List ℕ) (i : ℕ) → length a ≤ i → length a ≡ length b → bytes_eq (drop i a) (drop i b) ≡ true
bytes-end a b i h n = ap (λ s. bytes_eq s (drop i b)) (drop_all i a h) ∙ ap (bytes_eq []) (drop_all i b (omega arith))

pub same-text : (a b : List ℕ) → bytes_eq a b ≡ true → a ≡ b
same-text a b e = (bytes_eq-Decides a b).0 e

pub text-same : (a b : List ℕ) → a ≡ b → bytes_eq a b ≡ true
text-same a b e = (bytes_eq-Decides a b).1 e

pub ruleset same = (bytes-lengths, bytes-same, bytes-differ, bytes-end)

pub ruleset decides = (same-text, text-same)
