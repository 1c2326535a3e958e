-- The first of a list at which something is found.
use Rattle.std.proofs.Common.{◌≡◌, ℕ, ◌+◌, ◌<◌, ◌≤◌, Bool, true, false, not, if◌then◌else◌, List, [], ◌∷◌, length, get_or, drop, Option, Some, None, refl, ap, ◌∙◌}
use Rattle.std.proofs.lemmas.List.{drop_all, drop_more}
use Rattle.terms.specs.Terms.{Tm, same_tm}
use Rattle.reduction.specs.Finding.{or_else, first}
use Rattle.reduction.specs.Hyps.{without, all_but}
use Rattle.reduction.specs.Finders.{by_equation, by_other}

pub first-found : {A B : Type 0} (f : A → Option B) (xs : List A) (i : ℕ) (d : A) (r : B) → i < length xs → f (get_or xs i d) ≡ Some r → first f (drop i xs) ≡ Some r
first-found f xs i d r h e = ap (first f) (drop_more xs i d h) ∙ ap (λ o. or_else o (first f (drop (i + 1) xs))) e

pub first-none : {A B : Type 0} (f : A → Option B) (xs : List A) (i : ℕ) (d : A) → i < length xs → f (get_or xs i d) ≡ None → first f (drop i xs) ≡ first f (drop (i + 1) xs)
first-none f xs i d h e = ap (first f) (drop_more xs i d h) ∙ ap (λ o. or_else o (first f (drop (i + 1) xs))) e

pub first-end : {A B : Type 0} (f : A → Option B) (xs : List A) (i : ℕ) → length xs ≤ i → first f (drop i xs) ≡ None
first-end f xs i h = ap (first f) (drop_all i xs h)

-- the first of those that are left
pub first-left : (u : Tm) (hs : List Tm) (k : Option Tm) → first (by_equation u) (all_but hs k) ≡ first (by_other k u) hs
first-left u [] None = refl
first-left u [] (Some k) = refl
first-left u (h ∷ hs) None = ap (or_else (by_equation u h)) (first-left u hs None)
first-left u (h ∷ hs) (Some k) = by_test (same_tm k h) (first-left u hs (Some k))
  where
    by_test : (b : Bool) → first (by_equation u) (without hs k) ≡ first (by_other (Some k) u) hs →
        first (by_equation u) (if not b then h ∷ without hs k else without hs k) ≡ or_else (if b then None else by_equation u h) (first (by_other (Some k) u) hs)
    by_test true e = e
    by_test false e = ap (or_else (by_equation u h)) e

pub ruleset items = (drop_more, drop_all)

pub ruleset firsts = (first-found, first-none, first-end)

pub ruleset others = (first-left, first-found, first-none, first-end)
