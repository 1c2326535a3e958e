-- Recursive calls, argument by argument.
use Rattle.std.proofs.Common.{◌≡◌, ℕ, ◌+◌, ◌<◌, ◌≤◌, List, [], ◌∷◌, ◌++◌, length, get_or, map, drop, append_assoc, append-nil, refl, ap, ◌∙◌, arith}
use Rattle.std.proofs.lemmas.List.{drop_all}
use Rattle.lisp_data.specs.Values.{Name}
use Rattle.terms.specs.Terms.{Tm, tms}
use Rattle.terms.specs.Measures.{Place, next, tests_at, recursive_calls, recursive_calls_in}
use Rattle.terms.proofs.Args.{args, tms-drop}

pub map-last : {A B : Type 0} (f : A → B) (xs : List A) (x : A) → map f (xs ++ x ∷ []) ≡ map f xs ++ f x ∷ []
map-last f [] x = refl
map-last f (y ∷ xs) x = ap (λ r. f y ∷ r) (map-last f xs x)

pub calls-more : (f : Name) (p : Place) (tests : List Tm) (ts : List Tm) (i : ℕ) (d : Tm) → i < length ts →
    recursive_calls_in f p tests (tms (drop i ts)) ≡ recursive_calls f (tests_at p tests) (get_or ts i d) ++ recursive_calls_in f (next p) tests (tms (drop (i + 1) ts))
calls-more f p tests ts i d h = ap (recursive_calls_in f p tests) (tms-drop ts i d h)

pub calls-end : (f : Name) (p : Place) (tests : List Tm) (ts : List Tm) (i : ℕ) → length ts ≤ i → recursive_calls_in f p tests (tms (drop i ts)) ≡ []
calls-end f p tests ts i h = ap (λ us. recursive_calls_in f p tests (tms us)) (drop_all i ts h)

pub ruleset calls = (args, map-last, calls-more, calls-end, append_assoc, append-nil)
