-- A function of which no variable is told depends on none.
use Rattle.std.proofs.Common.{◌≡◌, ℕ, Bool, true, false, cond, ◌||◌, List, [], ◌∷◌, ◌++◌, map, if◌then◌else◌, bytes_eq, Option, Some, None, refl, sym, ap, ◌∙◌, subst}
use Rattle.std.specs.List.{list_any}
use Rattle.lisp_data.specs.Values.{Name}
use Rattle.terms.specs.Definitions.{find}
use Rattle.terms.specs.Dependence.{function_dependence}
use Rattle.terms.specs.Primitives.{Operation, primitive, lookup}
use Rattle.terms.specs.Sound.{Sound}
use Rattle.terms.specs.Worlds.{World, arity, arity_by, names, IsIn, Distinct}
use Rattle.terms.specs.declared.definition.Definition.{Definition}
use Rattle.terms.specs.declared.entries.Specification.{Specification}
use Rattle.terms.proofs.Names.{same_name}
use Rattle.worlds.specs.Lookups.{find_spec}
use Rattle.soft_vars.specs.Dependents.{joined, each_once, dependence_of, variables_of}

begun_stays : (x : Name) (found xs : List Name) → joined (x ∷ found) xs ≡ [] → ⊥
begun_stays x found [] e = cc
begun_stays x found (y ∷ ys) e = by_test (bytes_eq y x || list_any (bytes_eq y) found) e (λ zs. begun_stays x zs ys)
  where
    by_test : (b : Bool) → joined (if b then x ∷ found else ((x ∷ found) ++ y ∷ [])) ys ≡ [] → ((zs : List Name) → joined (x ∷ zs) ys ≡ [] → ⊥) → ⊥
    by_test true e' ih = ih found e'
    by_test false e' ih = ih (found ++ y ∷ []) e'

-- where no name is told once there is none
pub none_once : (xs : List Name) → each_once xs ≡ [] → xs ≡ []
none_once [] e = refl
none_once (x ∷ xs) e = absurd (begun_stays x [] xs e)

none_or : {A : Type 0} (o : Option A) → ((a : A) → o ≡ Some a → ⊥) → o ≡ None
none_or None h = refl
none_or (Some a) h = absurd (h a refl)

in_first : (xs ys : List Name) (f : Name) → IsIn xs f → IsIn (xs ++ ys) f
in_first [] ys f i = absurd i
in_first (x ∷ xs) ys f i = by_test (bytes_eq x f) i (in_first xs ys f)
  where
    by_test : (b : Bool) → cond b (Unit {0}) (IsIn xs f) → (IsIn xs f → IsIn (xs ++ ys) f) → cond b (Unit {0}) (IsIn (xs ++ ys) f)
    by_test true i' ih = tt
    by_test false i' ih = ih i'

in_second : (xs ys : List Name) (f : Name) → IsIn ys f → IsIn (xs ++ ys) f
in_second [] ys f i = i
in_second (x ∷ xs) ys f i = by_test (bytes_eq x f) (in_second xs ys f i)
  where
    by_test : (b : Bool) → IsIn (xs ++ ys) f → cond b (Unit {0}) (IsIn (xs ++ ys) f)
    by_test true ih = tt
    by_test false ih = ih

not_both : (xs ys : List Name) → Distinct (xs ++ ys) → (f : Name) → IsIn xs f → IsIn ys f → ⊥
not_both [] ys d f i j = i
not_both (x ∷ xs) ys d f i j = by_test (bytes_eq x f) refl i (λ i'. not_both xs ys d.1 f i' j)
  where
    by_test : (b : Bool) → bytes_eq x f ≡ b → cond b (Unit {0}) (IsIn xs f) → (IsIn xs f → ⊥) → ⊥
    by_test true e i' ih = d.0 (subst (IsIn (xs ++ ys)) (sym (same_name x f e)) (in_second xs ys f j))
    by_test false e i' ih = ih i'

behind : (xs ys : List Name) → Distinct (xs ++ ys) → Distinct ys
behind [] ys d = d
behind (x ∷ xs) ys d = behind xs ys d.1

definition_in : (ds : List Definition) (f : Name) (d : Definition) → find ds f ≡ Some d → IsIn (map (λ e. e.name) ds) f
definition_in [] f d e = absurd (cc)
definition_in (c ∷ ds) f d e = by_test (bytes_eq c.name f) e (definition_in ds f d)
  where
    by_test : (b : Bool) → cond b (Some c) (find ds f) ≡ Some d → (find ds f ≡ Some d → IsIn (map (λ e. e.name) ds) f) → cond b (Unit {0}) (IsIn (map (λ e. e.name) ds) f)
    by_test true e' ih = tt
    by_test false e' ih = ih e'

variable_in : (vs : List (Name × ℕ)) (f : Name) (k : ℕ) → lookup vs f ≡ Some k → IsIn (map (λ v. v.0) vs) f
variable_in [] f k e = absurd (cc)
variable_in (v ∷ vs) f k e = by_test (bytes_eq v.0 f) e (variable_in vs f k)
  where
    by_test : (b : Bool) → cond b (Some v.1) (lookup vs f) ≡ Some k → (lookup vs f ≡ Some k → IsIn (map (λ v. v.0) vs) f) → cond b (Unit {0}) (IsIn (map (λ v. v.0) vs) f)
    by_test true e' ih = tt
    by_test false e' ih = ih e'

specification_in : (ss : List Specification) (f : Name) (s : Specification) → find_spec ss f ≡ Some s → IsIn (map (λ z. z.name) ss) f
specification_in [] f s e = absurd (cc)
specification_in (c ∷ ss) f s e = by_test (bytes_eq c.name f) e (specification_in ss f s)
  where
    by_test : (b : Bool) → cond b (Some c) (find_spec ss f) ≡ Some s → (find_spec ss f ≡ Some s → IsIn (map (λ z. z.name) ss) f) → cond b (Unit {0}) (IsIn (map (λ z. z.name) ss) f)
    by_test true e' ih = tt
    by_test false e' ih = ih e'

-- no function has the name of a specification
module _ (W : World) (sound : Sound W) (f : Name) where
  abbrev defs : List Name
  defs = map (λ d. d.name) W.functions.defs

  abbrev vars : List Name
  vars = map (λ v. v.0) W.functions.vars

  abbrev theorems : List Name
  theorems = map (λ t. t.0) W.theorems

  abbrev rest : List Name
  rest = map (λ z. z.name) W.specifications ++ map (λ i. i.name) W.isos

  among : (s : Specification) → find_spec W.specifications f ≡ Some s → IsIn (map (λ t. t.0) W.theorems ++ (map (λ z. z.name) W.specifications ++ map (λ i. i.name) W.isos)) f
  among s e = in_second theorems rest f (in_first (map (λ z. z.name) W.specifications) (map (λ i. i.name) W.isos) f (specification_in W.specifications f s e))

  by_cases : (k : ℕ) (p : Option Operation) (q : Option Definition) (r : Option ℕ) → primitive f ≡ p → find W.functions.defs f ≡ q → lookup W.functions.vars f ≡ r → arity_by p q r ≡ Some k → (s : Specification) → find_spec W.specifications f ≡ Some s → ⊥
  by_cases k (Some p) q r e h v a s i =
      let n : primitive f ≡ None = sound.unlike_primitives f (in_second defs (vars ++ (theorems ++ rest)) f (in_second vars (theorems ++ rest) f (among s i))) in cc
  by_cases k None (Some d) r e h v a s i =
      not_both defs (vars ++ (theorems ++ rest)) sound.distinct f (definition_in W.functions.defs f d h) (in_second vars (theorems ++ rest) f (among s i))
  by_cases k None None (Some j) e h v a s i =
      not_both vars (theorems ++ rest) (behind defs (vars ++ (theorems ++ rest)) sound.distinct) f (variable_in W.functions.vars f j v) (among s i)
  by_cases k None None None e h v a s i = cc

  no_specification : (k : ℕ) → arity W.functions f ≡ Some k → find_spec W.specifications f ≡ None
  no_specification k a = none_or (find_spec W.specifications f) (by_cases k (primitive f) (find W.functions.defs f) (lookup W.functions.vars f) refl refl refl a)

  pub independent : (k : ℕ) → arity W.functions f ≡ Some k → variables_of W f ≡ [] → function_dependence W f ≡ []
  independent k a h = none_once (function_dependence W f) (ap (λ s. each_once (dependence_of W s f)) (sym (no_specification k a)) ∙ h)
