-- Arguments for the formals of a function.
use Rattle.std.proofs.Common.{◌≡◌, ◌+◌, ◌<◌, ℕ, zero, suc, Bool, true, false, cond, bytes_eq, List, [], ◌∷◌, ◌++◌, length, get_or, take, Option, Some, None, refl, ap, sym, subst, arith}
use native.Mathlib.Numerals.{unary_clauses}
use Rattle.std.specs.List.{zip}
use Rattle.std.proofs.lemmas.List.{take_all}
use Rattle.lisp_data.specs.Values.{Name}
use Rattle.terms.specs.Primitives.{lookup}
use Rattle.terms.specs.Terms.{Tm, tms, by_args}
use Rattle.terms.specs.Substitution.{or_var, by_pairs}
use Rattle.terms.specs.Worlds.{IsIn, Distinct}
use Rattle.terms.proofs.Names.{name_self, name_apart}

by_pairs-zip_at : (ys : List Name) (ts : List Tm) (x : Name) → by_pairs (zip ys ts) x ≡ by_args ys (tms ts) x
by_pairs-zip_at [] ts x = refl
by_pairs-zip_at (y ∷ ys) [] x = refl
by_pairs-zip_at (y ∷ ys) (t ∷ ts) x = by_test (bytes_eq y x) (by_pairs-zip_at ys ts x)
  where
    by_test : (b : Bool) → by_pairs (zip ys ts) x ≡ by_args ys (tms ts) x → or_var x (cond b (Some t) (lookup (zip ys ts) x)) ≡ cond b t (by_args ys (tms ts) x)
    by_test true ih = refl
    by_test false ih = ih

-- the pairs of formals and arguments replace what the two lists do
pub by_pairs-zip : (ys : List Name) (ts : List Tm) → by_pairs (zip ys ts) ≡ by_args ys (tms ts)
by_pairs-zip ys ts = λ i x. by_pairs-zip_at ys ts x i

is_there : (ys : List Name) (i : ℕ) (d : Name) → i < length ys → IsIn ys (get_or ys i d)
is_there [] i d h = absurd (omega arith)
is_there (y ∷ ys) zero d h = subst (λ b. cond b (Unit {0}) (IsIn ys y)) (sym (name_self y)) tt
is_there (y ∷ ys) (suc i) d h = by_test (bytes_eq y (get_or ys i d)) (is_there ys i d (omega arith))
  where
    by_test : (b : Bool) → IsIn ys (get_or ys i d) → cond b (Unit {0}) (IsIn ys (get_or ys i d))
    by_test true ih = tt
    by_test false ih = ih

-- a formal is none of those before it
pub lookup-formal : (ys : List Name) (ts : List Tm) (i : ℕ) (d : Name) → i < length ys → Distinct ys → lookup (zip (take i ys) (take i ts)) (get_or ys i d) ≡ None
lookup-formal [] ts i d h p = absurd (omega arith)
lookup-formal (y ∷ ys) ts zero d h p = refl
lookup-formal (y ∷ ys) [] (suc i) d h p = refl
lookup-formal (y ∷ ys) (t ∷ ts) (suc i) d h p =
    let there : IsIn ys (get_or ys i d) = is_there ys i d (omega arith) in
    let apart : bytes_eq y (get_or ys i d) ≡ false = name_apart y (get_or ys i d) (λ e. p.0 (subst (IsIn ys) (sym e) there)) in
    rw apart (lookup-formal ys ts i d (omega arith) p.1)

-- one pair more
pub zip-take_more : (ys : List Name) (ts : List Tm) (i : ℕ) (c : Name) (d : Tm) → i < length ys → i < length ts → zip (take (i + 1) ys) (take (i + 1) ts) ≡ zip (take i ys) (take i ts) ++ (get_or ys i c, get_or ts i d) ∷ []
zip-take_more [] ts i c d h g = absurd (omega arith)
zip-take_more (y ∷ ys) [] i c d h g = absurd (omega arith)
zip-take_more (y ∷ ys) (t ∷ ts) zero c d h g = refl
zip-take_more (y ∷ ys) (t ∷ ts) (suc i) c d h g =
    let ih = zip-take_more ys ts i c d (omega arith) (omega arith) in
    simp unary_clauses (ap (λ r. (y, t) ∷ r) (simp unary_clauses at ih))

pub ruleset formals = (by_pairs-zip, lookup-formal, zip-take_more, take_all)
