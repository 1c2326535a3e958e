-- What holds of a list of arguments.
use Rattle.std.proofs.Common.{◌≡◌, ℕ, zero, suc, ◌+◌, ◌<◌, ◌≤◌, List, [], ◌∷◌, length, get_or, map, take, drop, refl, ap, sym, ◌∙◌, arith}
use native.Mathlib.Numerals.{unary_clauses}
use Rattle.std.proofs.lemmas.List.{take_all}
use Rattle.terms.specs.Terms.{Tm, More, count, tms, tm_list, depth, depths, substitute, substitute_all}
use Rattle.terms.specs.view.TermFalls.{most_le-depths}
use Rattle.terms.specs.Substitution.{Pairs, by_pairs}

-- an argument is less deep than the call
pub depth-get_or : (ts : List Tm) (i : ℕ) (d : Tm) → i < length ts → depth (get_or ts i d) < depths (tms ts)
depth-get_or [] i d h = omega arith
depth-get_or (t ∷ ts) zero d h = omega arith
depth-get_or (t ∷ ts) (suc i) d h = omega (arith, depth-get_or ts i d (omega arith))

-- the images of all arguments, one by one
pub tms-map_substitute : (s : Pairs) (ts : List Tm) → tms (map (substitute (by_pairs s)) ts) ≡ substitute_all (by_pairs s) (tms ts)
tms-map_substitute s [] = refl
tms-map_substitute s (t ∷ ts) = ap (λ r. More (substitute (by_pairs s) t) r) (tms-map_substitute s ts)

-- arguments are the same list
pub tm_list-tms : (ts : List Tm) → tm_list (tms ts) ≡ ts
tm_list-tms [] = refl
tm_list-tms (t ∷ ts) = ap (λ r. t ∷ r) (tm_list-tms ts)

pub tms_inj : (xs ys : List Tm) → tms xs ≡ tms ys → xs ≡ ys
tms_inj xs ys e = sym (tm_list-tms xs) ∙ ap tm_list e ∙ tm_list-tms ys

-- the arguments from the place i on: the one there, and the rest
pub tms-drop : (ts : List Tm) (i : ℕ) (d : Tm) → i < length ts → tms (drop i ts) ≡ More (get_or ts i d) (tms (drop (i + 1) ts))
tms-drop [] i d h = absurd (omega arith)
tms-drop (t ∷ ts) zero d h = refl
tms-drop (t ∷ ts) (suc i) d h = simp unary_clauses (simp unary_clauses at (tms-drop ts i d (omega arith)))

pub count-tms : (ts : List Tm) → count (tms ts) ≡ length ts
count-tms [] = refl
count-tms (t ∷ ts) = let e = count-tms ts in omega arith

pub ruleset args = (depth-get_or, tms-map_substitute, most_le-depths, tms_inj, tms-drop, take_all)
