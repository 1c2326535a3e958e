-- What a sound world gives of a recursive definition.
use Rattle.std.proofs.Common.{◌≡◌, ℕ, Bool, true, false, cond, not, ◌&&◌, is_some, List, [], ◌∷◌, map, length, bytes_eq, codes, IfSome, Option, Some, None, refl, sym, ap, ◌∙◌, subst}
use Rattle.std.proofs.lemmas.Bool.{and_parts}
use Rattle.lisp_data.specs.Values.{Name}
use Rattle.terms.specs.Definitions.{find}
use Rattle.terms.specs.Formed.{HasBasics, FitsOver, IsFormed, functions, AllFormed}
use Rattle.terms.specs.Measures.{mentions, RecursiveCall, Place, Plain, Test, Then, Else, tests_at, next, first_place, recursive_calls, recursive_calls_in, owed_by, obligations, is_natural, falls, call1}
use Rattle.terms.specs.Sound.{Sound}
use Rattle.terms.specs.Terms.{Tm, Var, Quote, Call, Tms, Done, More, count, Over}
use Rattle.terms.specs.Worlds.{World, arity, IsIn, Distinct, Each}
use Rattle.terms.specs.declared.definition.Definition.{Definition}
use Rattle.terms.proofs.Below.{Any}
use Rattle.terms.proofs.Extend.{over_map, body_fits}
use Rattle.terms.proofs.Later.{has_basics}
use Rattle.terms.proofs.Lists.{each_join}
use Rattle.terms.proofs.Meaning.{arity_defined}
use Rattle.terms.proofs.Names.{same_name}
use Rattle.kernel.specs.Fitting.{takes, fits, fit_all}
use Rattle.kernel.proofs.Inversions.{fits_decides, takes_is}
use Rattle.reduction_proofs.proofs.Shortcuts.{fits_not}
use Rattle.reduction_proofs.proofs.Sure.{some_is}

-- what is known of the recursive calls of a definition, and of its measure
pub record IsRecursive (W : World) (d : Definition) (m : Tm) (cs : List RecursiveCall) : Type 0 where
  pub found : find W.functions.defs d.name ≡ Some d
  pub owed : obligations d ≡ is_natural m ∷ map (falls d.formals m) cs
  pub measure : Over (IsIn d.formals) (λ g k. Unit {0}) m
  pub calls : Each (λ c. Each (λ u. fits W.functions u ≡ true) c.tests × (fit_all W.functions c.args ≡ true) × (count c.args ≡ length d.formals)) cs

module _ (W : World) (basics : HasBasics W.functions) (f : Name) (formals : ℕ) (number : arity W.functions f ≡ Some formals) where
  abbrev Fit : Tm → Type 0
  Fit u = fits W.functions u ≡ true

  abbrev Good : RecursiveCall → Type 0
  Good c = Each Fit c.tests × (fit_all W.functions c.args ≡ true) × (count c.args ≡ formals)

  abbrev PlaceFits : Place → Type 0
  PlaceFits Plain = Unit {0}
  PlaceFits (Test c) = Fit c
  PlaceFits (Then c) = Fit c
  PlaceFits (Else c) = Fit c

  next_fits : (p : Place) → PlaceFits p → PlaceFits (next p)
  next_fits Plain h = tt
  next_fits (Test c) h = h
  next_fits (Then c) h = h
  next_fits (Else c) h = tt

  at_fits : (p : Place) → PlaceFits p → (tests : List Tm) → Each Fit tests → Each Fit (tests_at p tests)
  at_fits Plain h tests k = k
  at_fits (Test c) h tests k = k
  at_fits (Then c) h tests k = each_join Fit tests (c ∷ []) k (h, tt)
  at_fits (Else c) h tests k = each_join Fit tests (call1 (codes "NOT") c ∷ []) k (fits_not W [] basics c h, tt)

  first_fits : (g : Name) (ts : Tms) → fit_all W.functions ts ≡ true → PlaceFits (first_place f g ts)
  first_fits g Done h = tt
  first_fits g (More c ts) h = by_test (bytes_eq (codes "IF") g && not (mentions f c))
    where
      by_test : (b : Bool) → PlaceFits (cond b (Test c) Plain)
      by_test true = (and_parts (fits W.functions c) (fit_all W.functions ts) h).0
      by_test false = tt

  mutual
    calls_fit : (u : Tm) → Fit u → (tests : List Tm) → Each Fit tests → Each Good (recursive_calls f tests u)
    calls_fit (Var x) h tests k = tt
    calls_fit (Quote v) h tests k = tt
    calls_fit (Call g ts) h tests k =
        let p = and_parts (takes (arity W.functions g) (count ts)) (fit_all W.functions ts) h in
        each_join Good (cond (bytes_eq f g) (record { tests = tests; args = ts } ∷ []) []) (recursive_calls_in f (first_place f g ts) tests ts) (by_name (bytes_eq f g) refl p.0 p.1)
        (calls_in_fit ts p.1 (first_place f g ts) (first_fits g ts p.1) tests k)
      where
        by_name : (b : Bool) → bytes_eq f g ≡ b → takes (arity W.functions g) (count ts) ≡ true → fit_all W.functions ts ≡ true → Each Good (cond b (record { tests = tests; args = ts } ∷ []) [])
        by_name false e a q = tt
        by_name true e a q = ((k, q, some_is (sym (takes_is (arity W.functions g) (count ts) a) ∙ ap (arity W.functions) (sym (same_name f g e)) ∙ number)), tt)

    calls_in_fit : (ts : Tms) → fit_all W.functions ts ≡ true → (p : Place) → PlaceFits p → (tests : List Tm) → Each Fit tests → Each Good (recursive_calls_in f p tests ts)
    calls_in_fit Done h p q tests k = tt
    calls_in_fit (More u ts) h p q tests k =
        let a = and_parts (fits W.functions u) (fit_all W.functions ts) h in
        each_join Good (recursive_calls f (tests_at p tests) u) (recursive_calls_in f (next p) tests ts) (calls_fit u a.0 (tests_at p tests) (at_fits p q tests k)) (calls_in_fit ts a.1 (next p) (next_fits p q) tests k)

-- a definition that is found has this name, and is formed over those before it
record IsFound (vars : List (Name × ℕ)) (f : Name) (d : Definition) : Type 0 where
  name : d.name ≡ f
  before : List Definition
  formed : IsFormed (functions vars before) d

found_formed : (vars : List (Name × ℕ)) (ds : List Definition) → AllFormed vars ds → (f : Name) (d : Definition) → find ds f ≡ Some d → IsFound vars f d
found_formed vars [] h f d e = absurd (cc)
found_formed vars (c ∷ ds) h f d e = by_test (bytes_eq c.name f) refl e (found_formed vars ds h.1 f d)
  where
    by_test : (b : Bool) → bytes_eq c.name f ≡ b → cond b (Some c) (find ds f) ≡ Some d → (find ds f ≡ Some d → IsFound vars f d) → IsFound vars f d
    by_test true q e' ih = subst (IsFound vars f) (some_is e') (record { name = same_name c.name f q; before = ds; formed = h.0 })
    by_test false q e' ih = ih e'

measure_over : (W : World) (formals : List Name) (F : _) (o : Option Tm) (m : Tm) → IfSome o (FitsOver F formals) → o ≡ Some m → Over (IsIn formals) (λ g k. Unit {0}) m
measure_over W formals F None m i e = absurd (cc)
measure_over W formals F (Some n) m i e =
    subst (Over (IsIn formals) (λ g k. Unit {0})) (some_is e) (over_map (IsIn formals) (IsIn formals) (λ g k. arity F g ≡ Some k) (λ g k. Unit {0}) (λ x p. p) (λ g k p. tt) n i)

module _ (W : World) (sound : Sound W) (f : Name) (d : Definition) (found : find W.functions.defs f ≡ Some d) (recursive : mentions d.name d.body ≡ true) where
  is_found : IsFound W.functions.vars f d
  is_found = found_formed W.functions.vars W.functions.defs sound.formed f d found

  pub has_distinct_formals : Distinct d.formals
  has_distinct_formals = is_found.formed.formals

  -- a recursive definition has a measure
  pub has_measure : is_some d.measure ≡ true
  has_measure = is_found.formed.measured recursive

  pub is_recursive : (m : Tm) → d.measure ≡ Some m → IsRecursive W d m (recursive_calls d.name [] d.body)
  is_recursive m q =
      let here : find W.functions.defs d.name ≡ Some d = ap (find W.functions.defs) is_found.name ∙ found in
      let number : arity W.functions d.name ≡ Some (length d.formals) = arity_defined W.functions sound.formed d.name d here in
      let body : fits W.functions d.body ≡ true = (fits_decides W.functions d.body).1 (over_map (IsIn d.formals) Any (λ g k. arity W.functions g ≡ Some k) (λ g k. arity W.functions g ≡ Some k) (λ x p. tt) (λ g k p. p) d.body (body_fits W.functions sound.formed d.name d here)) in
      record {
        found = here;
        owed = ap (λ b. cond b (owed_by d d.measure) []) recursive ∙ ap (owed_by d) q;
        measure = measure_over W d.formals (functions W.functions.vars is_found.before) d.measure m is_found.formed.measure q;
        calls = calls_fit W (has_basics W sound) d.name (length d.formals) number d.body body [] tt;
      }
