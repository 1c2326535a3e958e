-- Names in lists.
use Rattle.std.proofs.Common.{◌≡◌, Bool, true, false, cond, ◌||◌, List, [], ◌∷◌, ◌++◌, map, is_some, bytes_eq, Some, refl, ap, ◌∙◌}
use Rattle.lisp_data.specs.Values.{Name}
use Rattle.terms.specs.Primitives.{lookup}
use Rattle.terms.specs.Worlds.{is_in}

or_assoc : (a b c : Bool) → (a || (b || c)) ≡ ((a || b) || c)
or_assoc true b c = refl
or_assoc false b c = refl

pub is_in-append : (xs ys : List Name) (n : Name) → is_in (xs ++ ys) n ≡ (is_in xs n || is_in ys n)
is_in-append [] ys n = refl
is_in-append (x ∷ xs) ys n = ap (λ b. bytes_eq x n || b) (is_in-append xs ys n) ∙ or_assoc (bytes_eq x n) (is_in xs n) (is_in ys n)

-- a key is there where looking it up finds something
pub is_in-keys : {A : Type 0} (es : List (Name × A)) (n : Name) → is_in (map (λ e. e.0) es) n ≡ is_some (lookup es n)
is_in-keys [] n = refl
is_in-keys (e ∷ es) n = by_test (bytes_eq e.0 n) (is_in-keys es n)
  where
    by_test : (b : Bool) → is_in (map (λ e. e.0) es) n ≡ is_some (lookup es n) → (b || is_in (map (λ e. e.0) es) n) ≡ is_some (cond b (Some e.1) (lookup es n))
    by_test true ih = refl
    by_test false ih = ih

-- what a name in the first or in the second list is in both
or_first : (a b : Bool) → a ≡ true → (a || b) ≡ true
or_first true b h = refl
or_first false b h = absurd (cc)

or_second : (a b : Bool) → b ≡ true → (a || b) ≡ true
or_second true b h = refl
or_second false b h = h

pub in_first : (xs ys : List Name) (x : Name) → is_in xs x ≡ true → is_in (xs ++ ys) x ≡ true
in_first xs ys x h = is_in-append xs ys x ∙ or_first (is_in xs x) (is_in ys x) h

pub in_second : (xs ys : List Name) (x : Name) → is_in ys x ≡ true → is_in (xs ++ ys) x ≡ true
in_second xs ys x h = is_in-append xs ys x ∙ or_second (is_in xs x) (is_in ys x) h
