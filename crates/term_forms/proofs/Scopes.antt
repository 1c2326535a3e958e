-- Scopes with more names.
use Rattle.std.proofs.Common.{◌≡◌, Bool, true, false, ◌||◌, bytes_eq, List, [], ◌∷◌, ◌++◌, take, refl, ap, ◌∙◌}
use Rattle.std.proofs.lemmas.List.{take_all, take_more}
use Rattle.lisp_data.specs.Values.{Name}
use Rattle.terms.specs.Worlds.{is_in}
use Rattle.term_forms.specs.Translation.{Scope, with_names}

both : (xs ys : List Name) (d : Bool) (x : Name) → (is_in (xs ++ ys) x || d) ≡ (is_in ys x || (is_in xs x || d))
both [] ys d x = refl
both (y ∷ xs) ys d x = by_test (bytes_eq y x) (both xs ys d x)
  where
    by_test : (b : Bool) → (is_in (xs ++ ys) x || d) ≡ (is_in ys x || (is_in xs x || d)) → ((b || is_in (xs ++ ys) x) || d) ≡ (is_in ys x || ((b || is_in xs x) || d))
    by_test true ih = right (is_in ys x)
      where
        right : (c : Bool) → true ≡ (c || true)
        right true = refl
        right false = refl
    by_test false ih = ih

-- names after others are names around them
pub with_names-append : (xs ys : List Name) (scope : Scope) → with_names (xs ++ ys) scope ≡ with_names ys (with_names xs scope)
with_names-append xs ys scope = λ i x. both xs ys (scope x) x i

pub with_more : (xs ys zs : List Name) (scope : Scope) → zs ≡ xs ++ ys → with_names zs scope ≡ with_names ys (with_names xs scope)
with_more xs ys zs scope e = ap (λ ns. with_names ns scope) e ∙ with_names-append xs ys scope

pub ruleset scopes = (take_more, take_all)
