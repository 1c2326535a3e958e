-- The functions of a restriction depend on no function variable, so that its theorem can serve in a chain.
use Rattle.std.proofs.Common.{◌≡◌, ℕ, suc, Bool, true, false, cond, ◌||◌, List, [], ◌∷◌, ◌++◌, map, length, if◌then◌else◌, bytes_eq, codes, Option, Some, None, IfSome, refl, sym, ap, ap₂, ◌∙◌, subst}
use Rattle.std.specs.List.{list_any}
use Rattle.lisp_data.specs.Values.{Name, Val}
use Rattle.terms.specs.BuiltIn.{if_else}
use Rattle.terms.specs.Definitions.{find}
use Rattle.terms.specs.Dependence.{term_dependence, terms_dependence, measure_dependence, itself, dependence, function_dependence}
use Rattle.terms.specs.Formed.{with_def, FitsOver, functions, AllFormed}
use Rattle.terms.specs.Links.{alone, at_variables, IsIndependent, IndependentOver, IsLinked}
use Rattle.terms.specs.Maps.{or_name, image, rename, rename_all}
use Rattle.terms.specs.Primitives.{Operation, primitive, lookup}
use Rattle.terms.specs.Sound.{Sound, add_definition, add_theorem}
use Rattle.terms.specs.Terms.{Tm, Var, Quote, Call, Tms, Done, More, tms, count, Over, OverAll}
use Rattle.terms.specs.Variables.{with_name}
use Rattle.terms.specs.Worlds.{Functions, World, arity, arity_by, names, IsIn, Distinct}
use Rattle.terms.specs.declared.definition.Definition.{Definition}
use Rattle.terms.specs.declared.entries.Link.TheVariants.{Restriction}
use Rattle.terms.specs.declared.entries.Specification.{Specification}
use Rattle.terms.proofs.Below.{Any}
use Rattle.terms.proofs.Extend.{over_map, other_name, arity_later, body_fits}
use Rattle.terms.proofs.Found.{if_some_map, found_formed}
use Rattle.terms.proofs.Later.{vars_apart}
use Rattle.terms.proofs.Meaning.{found_free}
use Rattle.terms.proofs.Models.{is_if}
use Rattle.terms.proofs.Names.{same_name, name_self}
use Rattle.worlds.specs.Lookups.{find_spec}
use Rattle.soft_vars.specs.Dependents.{joined, each_once, dependence_of, variables_in, variables_of}
use Rattle.restrict_tool.specs.Restrictions.{new_body, restricted, same_where}
use Rattle.restrict_tool.proofs.Formed.{formed, takes, own_arity, two, apart}

-- ---- lists that are empty
no_parts : (xs ys : List Name) → xs ++ ys ≡ [] → (xs ≡ []) × (ys ≡ [])
no_parts [] ys e = (refl, e)
no_parts (x ∷ xs) ys e = absurd (cc)

begun_stays : (x : Name) (found xs : List Name) → joined (x ∷ found) xs ≡ [] → ⊥
begun_stays x found [] e = cc
begun_stays x found (y ∷ ys) e = by_test (bytes_eq y x || list_any (bytes_eq y) found) e (λ zs. begun_stays x zs ys)
  where
    by_test : (b : Bool) → joined (if b then x ∷ found else ((x ∷ found) ++ y ∷ [])) ys ≡ [] → ((zs : List Name) → joined (x ∷ zs) ys ≡ [] → ⊥) → ⊥
    by_test true e' ih = ih found e'
    by_test false e' ih = ih (found ++ y ∷ []) e'

none_once : (xs : List Name) → each_once xs ≡ [] → xs ≡ []
none_once [] e = refl
none_once (x ∷ xs) e = absurd (begun_stays x [] xs e)

-- ---- terms whose calls are of functions that depend on nothing
abbrev Free : (Name → List Name) → Tm → Type 0
Free of = Over Any (λ f k. of f ≡ [])

abbrev AllFree : (Name → List Name) → Tms → Type 0
AllFree of = OverAll Any (λ f k. of f ≡ [])

module _ (of : Name → List Name) where
  mutual
    free_from : (t : Tm) → term_dependence of t ≡ [] → Free of t
    free_from (Var x) e = tt
    free_from (Quote v) e = tt
    free_from (Call f ts) e = let p = no_parts (of f) (terms_dependence of ts) e in (p.0, all_free_from ts p.1)

    all_free_from : (ts : Tms) → terms_dependence of ts ≡ [] → AllFree of ts
    all_free_from Done e = tt
    all_free_from (More t ts) e = let p = no_parts (term_dependence of t) (terms_dependence of ts) e in (free_from t p.0, all_free_from ts p.1)

  mutual
    free_to : (t : Tm) → Free of t → term_dependence of t ≡ []
    free_to (Var x) h = refl
    free_to (Quote v) h = refl
    free_to (Call f ts) h = ap₂ (λ xs ys. xs ++ ys) h.0 (all_free_to ts h.1)

    all_free_to : (ts : Tms) → AllFree of ts → terms_dependence of ts ≡ []
    all_free_to Done h = refl
    all_free_to (More t ts) h = ap₂ (λ xs ys. xs ++ ys) (free_to t h.0) (all_free_to ts h.1)

  measure_from : (o : Option Tm) → measure_dependence of o ≡ [] → IfSome o (Free of)
  measure_from None e = tt
  measure_from (Some m) e = free_from m e

  measure_to : (o : Option Tm) → IfSome o (Free of) → measure_dependence of o ≡ []
  measure_to None h = refl
  measure_to (Some m) h = free_to m h

  -- with one such function in the place of another
  module _ (f g : Name) (own : of g ≡ []) where
    image_free : (h : Name) → of h ≡ [] → of (image ((f, g) ∷ []) h) ≡ []
    image_free h e = by_test (bytes_eq f h)
      where
        by_test : (b : Bool) → of (or_name h (cond b (Some g) None)) ≡ []
        by_test true = own
        by_test false = e

    mutual
      renamed_free : (t : Tm) → Free of t → Free of (rename ((f, g) ∷ []) t)
      renamed_free (Var x) h = tt
      renamed_free (Quote v) h = tt
      renamed_free (Call k ts) h = (image_free k h.0, all_renamed_free ts h.1)

      all_renamed_free : (ts : Tms) → AllFree of ts → AllFree of (rename_all ((f, g) ∷ []) ts)
      all_renamed_free Done h = tt
      all_renamed_free (More t ts) h = (renamed_free t h.0, all_renamed_free ts h.1)

-- what holds of each variable and call by two tests
module _ (P P' R : Name → Type 0) (Q Q' S : Name → ℕ → Type 0) (p : (x : Name) → P x → P' x → R x) (q : (f : Name) (k : ℕ) → Q f k → Q' f k → S f k) where
  mutual
    over_both : (t : Tm) → Over P Q t → Over P' Q' t → Over R S t
    over_both (Var x) a b = p x a b
    over_both (Quote v) a b = tt
    over_both (Call f ts) a b = (q f (count ts) a.0 b.0, over_all_both ts a.1 b.1)

    over_all_both : (ts : Tms) → OverAll P Q ts → OverAll P' Q' ts → OverAll R S ts
    over_all_both Done a b = tt
    over_all_both (More t ts) a b = (over_both t a.0 b.0, over_all_both ts a.1 b.1)

-- ---- definitions
some_is : {A : Type 0} {x y : A} → Some x ≡ Some y → x ≡ y
some_is e = cc

-- a name that is neither a definition's nor a variable's depends on nothing
unknown_free : (vars : List (Name × ℕ)) (ds : List Definition) (f : Name) → find ds f ≡ None → lookup vars f ≡ None → dependence vars ds f ≡ []
unknown_free vars [] f e h = ap (itself f) h
unknown_free vars (d ∷ ds) f e h = by_test (bytes_eq d.name f) e (λ e'. unknown_free vars ds f e' h)
  where
    by_test : (b : Bool) → cond b (Some d) (find ds f) ≡ None → (find ds f ≡ None → dependence vars ds f ≡ []) → cond b (term_dependence (dependence vars ds) d.body ++ measure_dependence (dependence vars ds) d.measure) (dependence vars ds f) ≡ []
    by_test true e' ih = absurd (cc)
    by_test false e' ih = ih e'

none_or : {A : Type 0} (o : Option A) → ((a : A) → o ≡ Some a → ⊥) → o ≡ None
none_or None h = refl
none_or (Some a) h = absurd (h a refl)

-- what no function takes arguments for
new_free : (F : Functions) (f : Name) → arity F f ≡ None → dependence F.vars F.defs f ≡ []
new_free F f e = by_cases (primitive f) (find F.defs f) refl (lookup F.vars f) refl e
  where
    by_cases : (p : Option Operation) (o : Option Definition) → find F.defs f ≡ o → (v : Option ℕ) → lookup F.vars f ≡ v → arity_by p o v ≡ None → dependence F.vars F.defs f ≡ []
    by_cases (Some p) o i v j h = absurd (cc)
    by_cases None (Some d) i v j h = absurd (cc)
    by_cases None None i (Some k) j h = absurd (cc)
    by_cases None None i None j h = unknown_free F.vars F.defs f i j

-- where a function depends on nothing, the functions that its body and its measure call don't either
record IsFree (vars : List (Name × ℕ)) (ds : List Definition) (d : Definition) : Type 0 where
  body : Free (dependence vars ds) d.body
  measure : IfSome d.measure (Free (dependence vars ds))

some_both : {A : Type 0} (P Q R : A → Type 0) → ((x : A) → P x → Q x → R x) → (o : Option A) → IfSome o P → IfSome o Q → IfSome o R
some_both P Q R f None h k = tt
some_both P Q R f (Some x) h k = f x h k

parts_free : (vars : List (Name × ℕ)) (ds : List Definition) → AllFormed vars ds → (f : Name) (d : Definition) → find ds f ≡ Some d → dependence vars ds f ≡ [] → IsFree vars ds d
parts_free vars [] ok f d e h = absurd (cc)
parts_free vars (c ∷ ds) ok f d e h = by_test (bytes_eq c.name f) refl e h (parts_free vars ds ok.1 f d)
  where
    -- the definition itself depends on nothing
    with_own : term_dependence (dependence vars ds) c.body ++ measure_dependence (dependence vars ds) c.measure ≡ [] → (g : Name) → dependence vars ds g ≡ [] → dependence vars (c ∷ ds) g ≡ []
    with_own o g b = either (bytes_eq c.name g)
      where
        either : (t : Bool) → cond t (term_dependence (dependence vars ds) c.body ++ measure_dependence (dependence vars ds) c.measure) (dependence vars ds g) ≡ []
        either true = o
        either false = b

    -- a function of those before it is another
    with_other : (g : Name) (k : ℕ) → arity (functions vars ds) g ≡ Some k → dependence vars ds g ≡ [] → dependence vars (c ∷ ds) g ≡ []
    with_other g k a b = ap (λ t. cond t (term_dependence (dependence vars ds) c.body ++ measure_dependence (dependence vars ds) c.measure) (dependence vars ds g)) (other_name (functions vars ds) c ok.0.fresh g k a) ∙ b

    by_test : (b : Bool) → bytes_eq c.name f ≡ b → cond b (Some c) (find ds f) ≡ Some d → cond b (term_dependence (dependence vars ds) c.body ++ measure_dependence (dependence vars ds) c.measure) (dependence vars ds f) ≡ [] → (find ds f ≡ Some d → dependence vars ds f ≡ [] → IsFree vars ds d) → IsFree vars (c ∷ ds) d
    by_test true t e' h' ih =
        let same : c ≡ d = some_is e' in
        let p = no_parts (term_dependence (dependence vars ds) c.body) (measure_dependence (dependence vars ds) c.measure) h' in
        subst (IsFree vars (c ∷ ds)) same
        (record {
          body = over_map Any Any _ _ (λ x i. tt) (λ g k b. with_own h' g b) c.body (free_from (dependence vars ds) c.body p.0);
          measure = if_some_map (Free (dependence vars ds)) (Free (dependence vars (c ∷ ds))) (λ m o. over_map Any Any _ _ (λ x i. tt) (λ g k b. with_own h' g b) m o) c.measure (measure_from (dependence vars ds) c.measure p.1);
        })
    by_test false t e' h' ih =
        let r = ih e' h' in
        let there = found_formed vars ds ok.1 f d e' in
        record {
          body = over_both (IsIn d.formals) Any Any (λ g k. arity (functions vars ds) g ≡ Some k) (λ g k. dependence vars ds g ≡ []) (λ g k. dependence vars (c ∷ ds) g ≡ []) (λ x i j. tt) with_other d.body (body_fits (functions vars ds) ok.1 f d e') r.body;
          measure = some_both (Over (IsIn d.formals) (λ g k. (arity (functions vars ds) g ≡ Some k) × (bytes_eq d.name g ≡ false))) (Free (dependence vars ds)) (Free (dependence vars (c ∷ ds)))
              (λ m o b. over_both (IsIn d.formals) Any Any (λ g k. (arity (functions vars ds) g ≡ Some k) × (bytes_eq d.name g ≡ false)) (λ g k. dependence vars ds g ≡ []) (λ g k. dependence vars (c ∷ ds) g ≡ []) (λ x i j. tt) (λ g k a. with_other g k a.0) m o b) d.measure there.measure r.measure;
        }

-- ---- a name that is given to a function is no specification's
in_first : (xs ys : List Name) (f : Name) → IsIn xs f → IsIn (xs ++ ys) f
in_first [] ys f i = absurd i
in_first (x ∷ xs) ys f i = by_test (bytes_eq x f) (in_first xs ys f) i
  where
    by_test : (b : Bool) → (IsIn xs f → IsIn (xs ++ ys) f) → cond b (Unit {0}) (IsIn xs f) → cond b (Unit {0}) (IsIn (xs ++ ys) f)
    by_test true ih i' = tt
    by_test false ih i' = ih i'

in_second : (xs ys : List Name) (f : Name) → IsIn ys f → IsIn (xs ++ ys) f
in_second [] ys f i = i
in_second (x ∷ xs) ys f i = by_test (bytes_eq x f) (in_second xs ys f i)
  where
    by_test : (b : Bool) → IsIn (xs ++ ys) f → cond b (Unit {0}) (IsIn (xs ++ ys) f)
    by_test true ih = tt
    by_test false ih = ih

not_both : (xs ys : List Name) → Distinct (xs ++ ys) → (f : Name) → IsIn xs f → IsIn ys f → ⊥
not_both [] ys d f i j = i
not_both (x ∷ xs) ys d f i j = by_test (bytes_eq x f) refl i (λ i'. not_both xs ys d.1 f i' j)
  where
    by_test : (b : Bool) → bytes_eq x f ≡ b → cond b (Unit {0}) (IsIn xs f) → (IsIn xs f → ⊥) → ⊥
    by_test true e i' ih = d.0 (subst (IsIn (xs ++ ys)) (sym (same_name x f e)) (in_second xs ys f j))
    by_test false e i' ih = ih i'

definition_in : (ds : List Definition) (f : Name) (d : Definition) → find ds f ≡ Some d → IsIn (map (λ e. e.name) ds) f
definition_in [] f d e = absurd (cc)
definition_in (c ∷ ds) f d e = by_test (bytes_eq c.name f) e (definition_in ds f d)
  where
    by_test : (b : Bool) → cond b (Some c) (find ds f) ≡ Some d → (find ds f ≡ Some d → IsIn (map (λ e. e.name) ds) f) → cond b (Unit {0}) (IsIn (map (λ e. e.name) ds) f)
    by_test true e' ih = tt
    by_test false e' ih = ih e'

specification_in : (ss : List Specification) (f : Name) (s : Specification) → find_spec ss f ≡ Some s → IsIn (map (λ z. z.name) ss) f
specification_in [] f s e = absurd (cc)
specification_in (c ∷ ss) f s e = by_test (bytes_eq c.name f) e (specification_in ss f s)
  where
    by_test : (b : Bool) → cond b (Some c) (find_spec ss f) ≡ Some s → (find_spec ss f ≡ Some s → IsIn (map (λ z. z.name) ss) f) → cond b (Unit {0}) (IsIn (map (λ z. z.name) ss) f)
    by_test true e' ih = tt
    by_test false e' ih = ih e'

no_specification : (W : World) → Sound W → (f : Name) (d : Definition) → find W.functions.defs f ≡ Some d → find_spec W.specifications f ≡ None
no_specification W sound f d e =
    none_or (find_spec W.specifications f) (λ s i.
    let rest : List Name = map (λ z. z.name) W.specifications ++ map (λ z. z.name) W.isos in
    not_both (map (λ z. z.name) W.functions.defs) (map (λ v. v.0) W.functions.vars ++ (map (λ t. t.0) W.theorems ++ rest)) sound.distinct f
    (definition_in W.functions.defs f d e)
    (in_second (map (λ v. v.0) W.functions.vars) (map (λ t. t.0) W.theorems ++ rest) f
    (in_second (map (λ t. t.0) W.theorems) rest f
    (in_first (map (λ z. z.name) W.specifications) (map (λ z. z.name) W.isos) f (specification_in W.specifications f s i)))))

-- what is found to depend on nothing
pub function_free : (W : World) → Sound W → (f : Name) (d : Definition) → find W.functions.defs f ≡ Some d → variables_of W f ≡ [] → function_dependence W f ≡ []
function_free W sound f d e h = none_once (function_dependence W f) (ap (λ s. each_once (dependence_of W s f)) (sym (no_specification W sound f d e)) ∙ h)

term_free : (W : World) (t : Tm) → variables_in W (t ∷ []) ≡ [] → Free (function_dependence W) t
term_free W t h = (all_free_from (function_dependence W) (More t Done) (none_once (terms_dependence (function_dependence W) (More t Done)) h)).0

-- ---- a function at its formals
pub count_own : (xs : List Name) → count (tms (map Var xs)) ≡ length xs
count_own [] = refl
count_own (x ∷ xs) = ap suc (count_own xs)

pub own_over : (ys : List Name) (Q : Name → ℕ → Type 0) (xs : List Name) → ((x : Name) → IsIn xs x → IsIn ys x) → OverAll (IsIn ys) Q (tms (map Var xs))
own_over ys Q [] h = tt
own_over ys Q (x ∷ xs) h =
    (h x (subst (λ b. cond b (Unit {0}) (IsIn xs x)) (sym (name_self x)) tt), own_over ys Q xs (λ z i. h z (later (bytes_eq x z) z i)))
  where
    later : (b : Bool) (z : Name) → IsIn xs z → cond b (Unit {0}) (IsIn xs z)
    later true z i = tt
    later false z i = i

module _ (W : World) (sound : Sound W) (d : Definition) (found : find W.functions.defs d.name ≡ Some d) (old : variables_of W d.name ≡ []) (g : Name) (new : arity W.functions g ≡ None) (r : Tm) (fit : FitsOver W.functions d.formals r) (free : variables_in W (r ∷ []) ≡ []) (u : Val) where
  abbrev of : Name → List Name
  of = dependence W.functions.vars W.functions.defs

  abbrev made : Definition
  made = restricted d g r u

  abbrev V : World
  V = add_definition (restricted d g r u) W

  old_free : function_dependence W d.name ≡ []
  old_free = function_free W sound d.name d found old

  parts : IsFree W.functions.vars W.functions.defs d
  parts = parts_free W.functions.vars W.functions.defs sound.formed d.name d found old_free

  g_free : function_dependence W g ≡ []
  g_free = new_free W.functions g new

  if_free : function_dependence W (codes "IF") ≡ []
  if_free =
      unknown_free W.functions.vars W.functions.defs (codes "IF")
      (none_or (find W.functions.defs (codes "IF")) (λ c i. let p = found_free W.functions.vars W.functions.defs sound.formed (codes "IF") c i in let q = is_if in absurd (cc)))
      (none_or (lookup W.functions.vars (codes "IF")) (λ k i. let p = (vars_apart W sound (codes "IF") k i).0 in let q = is_if in absurd (cc)))

  r_free : Free (function_dependence W) r
  r_free = term_free W r free

  -- the new function depends on what its parts do: nothing
  made_free : term_dependence (function_dependence W) (restricted d g r u).body ++ measure_dependence (function_dependence W) d.measure ≡ []
  made_free =
      ap₂ (λ xs ys. xs ++ ys)
      (free_to (function_dependence W) (restricted d g r u).body (if_free, (r_free, (renamed_free (function_dependence W) d.name g g_free d.body parts.body, (tt, tt)))))
      (measure_to (function_dependence W) d.measure parts.measure)

  other_free : (h : Name) (k : ℕ) → arity W.functions h ≡ Some k → function_dependence W h ≡ [] → IsIndependent V h k
  other_free h k a e = (
    arity_later W.functions (restricted d g r u) new h k a,
    ap (λ b. cond b (term_dependence (function_dependence W) (restricted d g r u).body ++ measure_dependence (function_dependence W) d.measure) (function_dependence W h)) (other_name W.functions (restricted d g r u) new h k a) ∙ e,
  )

  own_free : IsIndependent V g (length d.formals)
  own_free = (
    own_arity W.functions (restricted d g r u) new,
    ap (λ b. cond b (term_dependence (function_dependence W) (restricted d g r u).body ++ measure_dependence (function_dependence W) d.measure) (function_dependence W g)) (name_self g) ∙ made_free,
  )

  at_formals : (f : Name) → IsIndependent V f (length d.formals) → IndependentOver V d.formals (at_variables f d.formals)
  at_formals f i = (subst (IsIndependent V f) (sym (count_own d.formals)) i, own_over d.formals (IsIndependent V) d.formals (λ x j. j))

  restriction_free : IndependentOver V d.formals r
  restriction_free = over_both (IsIn d.formals) Any (IsIn d.formals) (λ h k. arity W.functions h ≡ Some k) (λ h k. function_dependence W h ≡ []) (IsIndependent V) (λ x i j. i) other_free r fit r_free

  -- in the world with the function and the theorem the link says what the theorem does
  pub linked : (n : Name) → IsLinked (add_theorem n (alone (same_where d g r)) (add_definition (restricted d g r u) W)) n (Restriction d.name g d.formals r)
  linked n = record {
    stated = ap (λ b. cond b (Some (alone (same_where d g r))) (lookup W.theorems n)) (name_self n);
    distinct = (formed W sound d found).formals;
    old_term = at_formals d.name (other_free d.name (length d.formals) (takes W sound d found) old_free);
    condition_term = restriction_free;
    new_term = at_formals g own_free;
  }
