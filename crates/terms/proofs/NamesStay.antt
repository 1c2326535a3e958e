-- What names are stays as a world grows, where none is given twice.
use Rattle.std.proofs.Common.{◌≡◌, ℕ, Bool, true, false, cond, List, [], ◌∷◌, ◌++◌, map, length, bytes_eq, Option, Some, None, IfSome, refl, sym, ap, ap₂, ◌∙◌, subst}
use Rattle.lisp_data.specs.Values.{Name}
use Rattle.terms.specs.Primitives.{Operation, primitive, lookup}
use Rattle.terms.specs.Terms.{Tm, Var, Quote, Call, Tms, Done, More, Over, OverAll}
use Rattle.terms.specs.declared.definition.Definition.{Definition}
use Rattle.terms.specs.declared.sequent.Sequent.{Sequent}
use Rattle.terms.specs.Definitions.{find}
use Rattle.terms.specs.Dependence.{term_dependence, terms_dependence, measure_dependence, itself, dependence}
use Rattle.terms.specs.Worlds.{World, names, arity, arity_by, IsIn, Distinct}
use Rattle.terms.specs.Formed.{functions, FitsOver, AllFormed, VarsApart}
use Rattle.terms.specs.Later.{IsGrown, IsLater, Stays}
use Rattle.terms.specs.Sound.{Sound}
use Rattle.terms.proofs.Names.{same_name}
use Rattle.terms.proofs.Extend.{over_map}
use Rattle.terms.proofs.Below.{Any}

-- a name in two lists
in_first : (xs ys : List Name) (f : Name) → IsIn xs f → IsIn (xs ++ ys) f
in_first [] ys f i = absurd i
in_first (x ∷ xs) ys f i = by_test (bytes_eq x f) (in_first xs ys f) i
  where
    by_test : (b : Bool) → (IsIn xs f → IsIn (xs ++ ys) f) → cond b (Unit {0}) (IsIn xs f) → cond b (Unit {0}) (IsIn (xs ++ ys) f)
    by_test true ih i' = tt
    by_test false ih i' = ih i'

in_second : (xs ys : List Name) (f : Name) → IsIn ys f → IsIn (xs ++ ys) f
in_second [] ys f i = i
in_second (x ∷ xs) ys f i = by_test (bytes_eq x f) (in_second xs ys f i)
  where
    by_test : (b : Bool) → IsIn (xs ++ ys) f → cond b (Unit {0}) (IsIn (xs ++ ys) f)
    by_test true ih = tt
    by_test false ih = ih

-- no name stands in both of two lists that have no name twice
second_distinct : (xs ys : List Name) → Distinct (xs ++ ys) → Distinct ys
second_distinct [] ys d = d
second_distinct (x ∷ xs) ys d = second_distinct xs ys d.1

not_both : (xs ys : List Name) → Distinct (xs ++ ys) → (f : Name) → IsIn xs f → IsIn ys f → ⊥
not_both [] ys d f i j = i
not_both (x ∷ xs) ys d f i j = by_test (bytes_eq x f) refl i (λ i'. not_both xs ys d.1 f i' j)
  where
    by_test : (b : Bool) → bytes_eq x f ≡ b → cond b (Unit {0}) (IsIn xs f) → (IsIn xs f → ⊥) → ⊥
    by_test true e i' ih = d.0 (subst (IsIn (xs ++ ys)) (sym (same_name x f e)) (in_second xs ys f j))
    by_test false e i' ih = ih i'

-- names of definitions, and of a table's entries
abbrev definition_names : List Definition → List Name
definition_names ds = map (λ d. d.name) ds

abbrev keys : {A : Type 0} → List (Name × A) → List Name
keys es = map (λ e. e.0) es

map-join : {A B : Type 0} (f : A → B) (xs ys : List A) → map f (xs ++ ys) ≡ map f xs ++ map f ys
map-join f [] ys = refl
map-join f (x ∷ xs) ys = ap (λ zs. f x ∷ zs) (map-join f xs ys)

found_among : (ds : List Definition) (f : Name) (d : Definition) → find ds f ≡ Some d → IsIn (definition_names ds) f
found_among [] f d e = absurd (cc)
found_among (c ∷ ds) f d e = by_test (bytes_eq c.name f) e (found_among ds f d)
  where
    by_test : (b : Bool) → cond b (Some c) (find ds f) ≡ Some d → (find ds f ≡ Some d → IsIn (definition_names ds) f) → cond b (Unit {0}) (IsIn (definition_names ds) f)
    by_test true e' ih = tt
    by_test false e' ih = ih e'

key_among : {A : Type 0} (es : List (Name × A)) (x : Name) (a : A) → lookup es x ≡ Some a → IsIn (keys es) x
key_among [] x a e = absurd (cc)
key_among (c ∷ es) x a e = by_test (bytes_eq c.0 x) e (key_among es x a)
  where
    by_test : (b : Bool) → cond b (Some c.1) (lookup es x) ≡ Some a → (lookup es x ≡ Some a → IsIn (keys es) x) → cond b (Unit {0}) (IsIn (keys es) x)
    by_test true e' ih = tt
    by_test false e' ih = ih e'

-- further items with other names change no look-up
find_behind : (newer ds : List Definition) (f : Name) → (IsIn (definition_names newer) f → ⊥) → find (newer ++ ds) f ≡ find ds f
find_behind [] ds f out = refl
find_behind (c ∷ newer) ds f out = by_test (bytes_eq c.name f) out (find_behind newer ds f)
  where
    by_test : (b : Bool) → (cond b (Unit {0}) (IsIn (definition_names newer) f) → ⊥) → ((IsIn (definition_names newer) f → ⊥) → find (newer ++ ds) f ≡ find ds f) → cond b (Some c) (find (newer ++ ds) f) ≡ find ds f
    by_test true out' ih = absurd (out' tt)
    by_test false out' ih = ih out'

lookup_behind : {A : Type 0} (newer es : List (Name × A)) (x : Name) → (IsIn (keys newer) x → ⊥) → lookup (newer ++ es) x ≡ lookup es x
lookup_behind [] es x out = refl
lookup_behind (c ∷ newer) es x out = by_test (bytes_eq c.0 x) out (lookup_behind newer es x)
  where
    by_test : (b : Bool) → (cond b (Unit {0}) (IsIn (keys newer) x) → ⊥) → ((IsIn (keys newer) x → ⊥) → lookup (newer ++ es) x ≡ lookup es x) → cond b (Some c.1) (lookup (newer ++ es) x) ≡ lookup es x
    by_test true out' ih = absurd (out' tt)
    by_test false out' ih = ih out'

dependence_behind : (vars : List (Name × ℕ)) (newer ds : List Definition) (f : Name) → (IsIn (definition_names newer) f → ⊥) → dependence vars (newer ++ ds) f ≡ dependence vars ds f
dependence_behind vars [] ds f out = refl
dependence_behind vars (c ∷ newer) ds f out = by_test (bytes_eq c.name f) out (dependence_behind vars newer ds f)
  where
    rest : Name → List Name
    rest g = dependence vars (newer ++ ds) g

    by_test : (b : Bool) → (cond b (Unit {0}) (IsIn (definition_names newer) f) → ⊥) → ((IsIn (definition_names newer) f → ⊥) → rest f ≡ dependence vars ds f) → cond b (term_dependence rest c.body ++ measure_dependence rest c.measure) (rest f) ≡ dependence vars ds f
    by_test true out' ih = absurd (out' tt)
    by_test false out' ih = ih out'

-- a name that is found in the list before is found in a grown list with distinct names
find_grown : (ds es : List Definition) → IsGrown ds es → Distinct (definition_names es) → (f : Name) (d : Definition) → find ds f ≡ Some d → find es f ≡ Some d
find_grown ds es g distinct f d e =
    let apart : Distinct (definition_names g.0 ++ definition_names ds) = subst Distinct (map-join (λ d. d.name) g.0 ds) (subst (λ z. Distinct (definition_names z)) g.1 distinct) in
    ap (λ z. find z f) g.1
    ∙ find_behind g.0 ds f (λ i. not_both (definition_names g.0) (definition_names ds) apart f i (found_among ds f d e))
    ∙ e

lookup_grown : {A : Type 0} (es fs : List (Name × A)) → IsGrown es fs → Distinct (keys fs) → (x : Name) (a : A) → lookup es x ≡ Some a → lookup fs x ≡ Some a
lookup_grown es fs g distinct x a e =
    let apart : Distinct (keys g.0 ++ keys es) = subst Distinct (map-join (λ e. e.0) g.0 es) (subst (λ z. Distinct (keys z)) g.1 distinct) in
    ap (λ z. lookup z x) g.1
    ∙ lookup_behind g.0 es x (λ i. not_both (keys g.0) (keys es) apart x i (key_among es x a e))
    ∙ e

one_more : (xs : List Definition) (d : Definition) (ys : List Definition) → xs ++ d ∷ ys ≡ (xs ++ d ∷ []) ++ ys
one_more [] d ys = refl
one_more (x ∷ xs) d ys = ap (λ zs. x ∷ zs) (one_more xs d ys)

-- what is not found has no name that is found
none_or : {A : Type 0} (o : Option A) → ((a : A) → o ≡ Some a → ⊥) → o ≡ None
none_or None h = refl
none_or (Some a) h = absurd (h a refl)

first_distinct : (xs ys : List Name) → Distinct (xs ++ ys) → Distinct xs
first_distinct [] ys d = tt
first_distinct (x ∷ xs) ys d = (λ i. d.0 (in_first xs ys x i), first_distinct xs ys d.1)

-- no name of the world is given twice, nor is a primitive's
pub record NamesApart (W : World) : Type 0 where
  pub distinct : Distinct (names W)
  pub unlike_primitives : (f : Name) → IsIn (names W) f → primitive f ≡ None

pub names_apart : (W : World) → Sound W → NamesApart W
names_apart W sound = record { distinct = sound.distinct; unlike_primitives = sound.unlike_primitives }

module _ (V : World) (apart : NamesApart V) where
  abbrev ds : List Name
  ds = definition_names V.functions.defs

  abbrev vs : List Name
  vs = keys V.functions.vars

  abbrev ts : List Name
  ts = keys V.theorems

  abbrev others : List Name
  others = map (λ s. s.name) V.specifications ++ map (λ i. i.name) V.isos

  distinct_definitions : Distinct (definition_names V.functions.defs)
  distinct_definitions = first_distinct ds (vs ++ (ts ++ others)) apart.distinct

  distinct_variables : Distinct (keys V.functions.vars)
  distinct_variables = first_distinct vs (ts ++ others) (second_distinct ds (vs ++ (ts ++ others)) apart.distinct)

  distinct_theorems : Distinct (keys V.theorems)
  distinct_theorems = first_distinct ts others (second_distinct vs (ts ++ others) (second_distinct ds (vs ++ (ts ++ others)) apart.distinct))

  -- a defined name is no primitive's and no variable's
  defined_primitive : (f : Name) → IsIn (definition_names V.functions.defs) f → primitive f ≡ None
  defined_primitive f i = apart.unlike_primitives f (in_first ds (vs ++ (ts ++ others)) f i)

  variable_primitive : (f : Name) → IsIn (keys V.functions.vars) f → primitive f ≡ None
  variable_primitive f i = apart.unlike_primitives f (in_second ds (vs ++ (ts ++ others)) f (in_first vs (ts ++ others) f i))

  defined_variable : (f : Name) → IsIn (definition_names V.functions.defs) f → IsIn (keys V.functions.vars) f → ⊥
  defined_variable f i j = not_both ds (vs ++ (ts ++ others)) apart.distinct f i (in_first vs (ts ++ others) f j)

  -- a function variable has the name of no primitive and no definition
  pub vars_apart : VarsApart V.functions
  vars_apart x k e =
      let j = key_among V.functions.vars x k e in
      (variable_primitive x j, none_or (find V.functions.defs x) (λ d h. defined_variable x (found_among V.functions.defs x d h) j))

  primitive_defined : (f : Name) (p : Operation) → primitive f ≡ Some p → find V.functions.defs f ≡ None
  primitive_defined f p e = none_or (find V.functions.defs f) (λ d h. let n = defined_primitive f (found_among V.functions.defs f d h) in cc)

  primitive_variable : (f : Name) (p : Operation) → primitive f ≡ Some p → lookup V.functions.vars f ≡ None
  primitive_variable f p e = none_or (lookup V.functions.vars f) (λ k h. let n = variable_primitive f (key_among V.functions.vars f k h) in cc)

module _ (W V : World) (before : NamesApart W) (apart : NamesApart V) (later : IsLater W V) where
  pub definitions_stay : (f : Name) (d : Definition) → find W.functions.defs f ≡ Some d → find V.functions.defs f ≡ Some d
  definitions_stay = find_grown W.functions.defs V.functions.defs later.definitions (distinct_definitions V apart)

  variables_stay : (x : Name) (k : ℕ) → lookup W.functions.vars x ≡ Some k → lookup V.functions.vars x ≡ Some k
  variables_stay = lookup_grown W.functions.vars V.functions.vars later.variables (distinct_variables V apart)

  theorems_stay : (n : Name) (s : Sequent) → lookup W.theorems n ≡ Some s → lookup V.theorems n ≡ Some s
  theorems_stay = lookup_grown W.theorems V.theorems later.theorems (distinct_theorems V apart)

  -- a name with an arity is the same definition in both worlds, and the same variable
  record IsSame (f : Name) : Type 0 where
    definition : find V.functions.defs f ≡ find W.functions.defs f
    variable : lookup V.functions.vars f ≡ lookup W.functions.vars f

  same : (f : Name) (k : ℕ) → arity W.functions f ≡ Some k → IsSame f
  same f k a = by_cases (primitive f) (find W.functions.defs f) (lookup W.functions.vars f) refl refl refl a
    where
      by_cases : (p : Option Operation) (q : Option Definition) (r : Option ℕ) → primitive f ≡ p → find W.functions.defs f ≡ q → lookup W.functions.vars f ≡ r → arity_by p q r ≡ Some k → IsSame f
      by_cases (Some p) q r e h v b = record {
        definition = primitive_defined V apart f p e ∙ sym (primitive_defined W before f p e);
        variable = primitive_variable V apart f p e ∙ sym (primitive_variable W before f p e);
      }
      by_cases None (Some d) (Some j) e h v b = absurd (defined_variable W before f (found_among W.functions.defs f d h) (key_among W.functions.vars f j v))
      by_cases None (Some d) None e h v b = record {
        definition = definitions_stay f d h ∙ sym h;
        variable =
            none_or (lookup V.functions.vars f)
            (λ j w. defined_variable V apart f (found_among V.functions.defs f d (definitions_stay f d h)) (key_among V.functions.vars f j w))
            ∙ sym v;
      }
      by_cases None None (Some j) e h v b = record {
        definition = (vars_apart V apart f j (variables_stay f j v)).1 ∙ sym h;
        variable = variables_stay f j v ∙ sym v;
      }
      by_cases None None None e h v b = absurd (cc)

  arities_stay : (f : Name) (k : ℕ) → arity W.functions f ≡ Some k → arity V.functions f ≡ Some k
  arities_stay f k a =
      let s = same f k a in
      ap (λ q. arity_by (primitive f) q (lookup V.functions.vars f)) s.definition ∙ ap (λ r. arity_by (primitive f) (find W.functions.defs f) r) s.variable ∙ a

  -- dependences under the variables of both
  abbrev under : List Definition → Name → List Name
  under es f = dependence V.functions.vars es f

  abbrev under_old : List Definition → Name → List Name
  under_old es f = dependence W.functions.vars es f

  mutual
    term_same : (of_name of_name' : Name → List Name) (t : Tm) → Over Any (λ f k. of_name f ≡ of_name' f) t → term_dependence of_name t ≡ term_dependence of_name' t
    term_same of_name of_name' (Var x) o = refl
    term_same of_name of_name' (Quote v) o = refl
    term_same of_name of_name' (Call f us) o = ap₂ (λ a b. a ++ b) o.0 (terms_same of_name of_name' us o.1)

    terms_same : (of_name of_name' : Name → List Name) (us : Tms) → OverAll Any (λ f k. of_name f ≡ of_name' f) us → terms_dependence of_name us ≡ terms_dependence of_name' us
    terms_same of_name of_name' Done o = refl
    terms_same of_name of_name' (More t us) o = ap₂ (λ a b. a ++ b) (term_same of_name of_name' t o.0) (terms_same of_name of_name' us o.1)

  -- a name with an arity over some of the old definitions, the oldest of them, is the same variable
  part_same : (newer es : List Definition) → W.functions.defs ≡ newer ++ es → (f : Name) (k : ℕ) → arity (functions W.functions.vars es) f ≡ Some k → lookup V.functions.vars f ≡ lookup W.functions.vars f
  part_same newer es is f k a = by_cases (primitive f) (find es f) (lookup W.functions.vars f) refl refl refl a
    where
      by_cases : (p : Option Operation) (q : Option Definition) (r : Option ℕ) → primitive f ≡ p → find es f ≡ q → lookup W.functions.vars f ≡ r → arity_by p q r ≡ Some k → lookup V.functions.vars f ≡ lookup W.functions.vars f
      by_cases (Some p) q r e h v b = primitive_variable V apart f p e ∙ sym (primitive_variable W before f p e)
      by_cases None (Some d) r e h v b =
          let h' = find_grown es W.functions.defs (newer, is) (distinct_definitions W before) f d h in
          (same f (length d.formals) (ap (λ p. arity_by p (find W.functions.defs f) (lookup W.functions.vars f)) e ∙ ap (λ q. arity_by None q (lookup W.functions.vars f)) h')).variable
      by_cases None None (Some j) e h v b = variables_stay f j v ∙ sym v
      by_cases None None None e h v b = absurd (cc)

  -- one definition, where those before it depend on the same
  abbrev SameUnder : List Definition → Type 0
  SameUnder es = (g : Name) → lookup V.functions.vars g ≡ lookup W.functions.vars g → under es g ≡ under_old es g

  dependence_step : (newer : List Definition) (d : Definition) (es : List Definition) → W.functions.defs ≡ newer ++ d ∷ es → AllFormed W.functions.vars (d ∷ es) → SameUnder es → SameUnder (d ∷ es)
  dependence_step newer d es is formed ih f h =
      ap₂ (λ a b. cond (bytes_eq d.name f) a b)
      (ap₂ (λ a b. a ++ b)
      (term_same (under es) (under_old es) d.body (over_map (IsIn d.formals) Any _ _ (λ x p. tt) (λ g k a. ih g (part_same newer (d ∷ es) is g k a)) d.body formed.0.body))
      (measure_same d.measure formed.0.measure))
      (ih f h)
    where
      measure_same : (o : Option Tm) → IfSome o (FitsOver (functions W.functions.vars es) d.formals) → measure_dependence (under es) o ≡ measure_dependence (under_old es) o
      measure_same None fit = refl
      measure_same (Some m) fit = term_same (under es) (under_old es) m (over_map (IsIn d.formals) Any _ _ (λ x p. tt) (λ g k a. ih g (part_same (newer ++ d ∷ []) es (is ∙ one_more newer d es) g k a)) m fit)

  dependence_same : (newer es : List Definition) → W.functions.defs ≡ newer ++ es → AllFormed W.functions.vars es → SameUnder es
  dependence_same newer [] is formed f h = ap (itself f) h
  dependence_same newer (d ∷ es) is formed f h = dependence_step newer d es is formed (dependence_same (newer ++ d ∷ []) es (is ∙ one_more newer d es) formed.1) f h

  -- no newer definition has a name with an arity in the old world
  not_newer : (f : Name) (k : ℕ) → arity W.functions f ≡ Some k → IsIn (definition_names later.definitions.0) f → ⊥
  not_newer f k a i = by_cases (primitive f) (find W.functions.defs f) (lookup W.functions.vars f) refl refl refl a
    where
      newer : List Definition
      newer = later.definitions.0

      all_names : definition_names V.functions.defs ≡ definition_names newer ++ definition_names W.functions.defs
      all_names = ap definition_names later.definitions.1 ∙ map-join (λ d. d.name) newer W.functions.defs

      here : IsIn (definition_names V.functions.defs) f
      here = subst (λ z. IsIn z f) (sym all_names) (in_first (definition_names newer) (definition_names W.functions.defs) f i)

      by_cases : (p : Option Operation) (q : Option Definition) (r : Option ℕ) → primitive f ≡ p → find W.functions.defs f ≡ q → lookup W.functions.vars f ≡ r → arity_by p q r ≡ Some k → ⊥
      by_cases (Some p) q r e h v b = let n = defined_primitive V apart f here in cc
      by_cases None (Some d) r e h v b = not_both (definition_names newer) (definition_names W.functions.defs) (subst Distinct all_names (distinct_definitions V apart)) f i (found_among W.functions.defs f d h)
      by_cases None None (Some j) e h v b = defined_variable V apart f here (key_among V.functions.vars f j (variables_stay f j v))
      by_cases None None None e h v b = cc

  dependences_stay : AllFormed W.functions.vars W.functions.defs → (f : Name) (k : ℕ) → arity W.functions f ≡ Some k → dependence V.functions.vars V.functions.defs f ≡ dependence W.functions.vars W.functions.defs f
  dependences_stay formed f k a =
      ap (λ z. dependence V.functions.vars z f) later.definitions.1
      ∙ dependence_behind V.functions.vars later.definitions.0 W.functions.defs f (not_newer f k a)
      ∙ dependence_same [] W.functions.defs refl formed f (same f k a).variable

  pub names_stay : AllFormed W.functions.vars W.functions.defs → Stays W V
  names_stay formed = record {
    arities = arities_stay;
    found = λ f k a. (same f k a).definition;
    variables_stay = variables_stay;
    dependences = dependences_stay formed;
    theorems_stay = theorems_stay;
  }
