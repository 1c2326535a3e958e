-- The functions of the new function's theorems depend on no function variable, so that the second one can serve in a chain.
use Rattle.std.proofs.Common.{◌≡◌, ℕ, Bool, true, false, cond, List, [], ◌∷◌, ◌++◌, map, length, bytes_eq, codes, Option, Some, None, IfSome, refl, sym, ap, ap₂, ◌∙◌, subst}
use Rattle.lisp_data.specs.Values.{Name}
use Rattle.terms.specs.Definitions.{find}
use Rattle.terms.specs.Dependence.{term_dependence, terms_dependence, measure_dependence, itself, dependence, function_dependence}
use Rattle.terms.specs.Formed.{functions, AllFormed}
use Rattle.terms.specs.Links.{alone, at_variables, conjunction, all_mapped, IsIndependent, IndependentOver, IsFirstOrder, IsRewriting, IsLinked}
use Rattle.terms.specs.Links as link
use Rattle.terms.specs.Primitives.{Operation, primitive, lookup}
use Rattle.terms.specs.Sound.{Sound, add_definition, add_theorem}
use Rattle.terms.specs.Terms.{Tm, Var, Quote, Call, Tms, Done, More, tms, count, Over, OverAll, substitute}
use Rattle.terms.specs.Worlds.{Functions, World, Each, arity, arity_by, IsIn}
use Rattle.terms.specs.declared.definition.Definition.{Definition}
use Rattle.terms.proofs.Below.{Any}
use Rattle.terms.proofs.Extend.{over_map, other_name, arity_later, body_fits}
use Rattle.terms.proofs.Found.{if_some_map, found_formed}
use Rattle.terms.proofs.Later.{vars_apart}
use Rattle.terms.proofs.Lists.{each_to}
use Rattle.terms.proofs.Meaning.{found_free, arity_primitive}
use Rattle.terms.proofs.Models.{is_if}
use Rattle.terms.proofs.Names.{name_self}
use Rattle.terms.proofs.Totality.{over_substitute}
use Rattle.soft_vars.specs.Dependents.{variables_of}
use Rattle.soft_vars.proofs.Independent.{independent}
use Rattle.isodata_tool.specs.Carried.{Mapped, AreMapped, with_back, all_in_old, all_in_new, called_body, new_body, carried_over, new_at_forth, new_to_old, old_to_new, uses_of, link_of}
use Rattle.isodata_tool.proofs.Formed.{formed, takes, own_arity, apart, first_orders, are_formals, if_some_under}
use Rattle.isodata_tool.proofs.Kept.{count_forth, count_names, over_names, over_all_forth, over_with_back, over_in_old, over_in_new, over_conjunction, over_called}
use Rattle.isodata_tool.proofs.Placed.{named_in_old, named_forth}

-- ---- lists that are empty
no_parts : (xs ys : List Name) → xs ++ ys ≡ [] → (xs ≡ []) × (ys ≡ [])
no_parts [] ys e = (refl, e)
no_parts (x ∷ xs) ys e = absurd (cc)

-- ---- terms whose calls are of functions that depend on nothing
abbrev Free : (Name → List Name) → Tm → Type 0
Free of = Over Any (λ f k. of f ≡ [])

abbrev AllFree : (Name → List Name) → Tms → Type 0
AllFree of = OverAll Any (λ f k. of f ≡ [])

module _ (of : Name → List Name) where
  mutual
    free_from : (t : Tm) → term_dependence of t ≡ [] → Free of t
    free_from (Var x) e = tt
    free_from (Quote v) e = tt
    free_from (Call f ts) e = let p = no_parts (of f) (terms_dependence of ts) e in (p.0, all_free_from ts p.1)

    all_free_from : (ts : Tms) → terms_dependence of ts ≡ [] → AllFree of ts
    all_free_from Done e = tt
    all_free_from (More t ts) e = let p = no_parts (term_dependence of t) (terms_dependence of ts) e in (free_from t p.0, all_free_from ts p.1)

  mutual
    free_to : (t : Tm) → Free of t → term_dependence of t ≡ []
    free_to (Var x) h = refl
    free_to (Quote v) h = refl
    free_to (Call f ts) h = ap₂ (λ xs ys. xs ++ ys) h.0 (all_free_to ts h.1)

    all_free_to : (ts : Tms) → AllFree of ts → terms_dependence of ts ≡ []
    all_free_to Done h = refl
    all_free_to (More t ts) h = ap₂ (λ xs ys. xs ++ ys) (free_to t h.0) (all_free_to ts h.1)

  measure_from : (o : Option Tm) → measure_dependence of o ≡ [] → IfSome o (Free of)
  measure_from None e = tt
  measure_from (Some m) e = free_from m e

  measure_to : (o : Option Tm) → IfSome o (Free of) → measure_dependence of o ≡ []
  measure_to None h = refl
  measure_to (Some m) h = free_to m h

-- what holds of each variable and call by two tests
module _ (P P' R : Name → Type 0) (Q Q' S : Name → ℕ → Type 0) (p : (x : Name) → P x → P' x → R x) (q : (f : Name) (k : ℕ) → Q f k → Q' f k → S f k) where
  mutual
    over_both : (t : Tm) → Over P Q t → Over P' Q' t → Over R S t
    over_both (Var x) a b = p x a b
    over_both (Quote v) a b = tt
    over_both (Call f ts) a b = (q f (count ts) a.0 b.0, over_all_both ts a.1 b.1)

    over_all_both : (ts : Tms) → OverAll P Q ts → OverAll P' Q' ts → OverAll R S ts
    over_all_both Done a b = tt
    over_all_both (More t ts) a b = (over_both t a.0 b.0, over_all_both ts a.1 b.1)

-- ---- definitions
some_is : {A : Type 0} {x y : A} → Some x ≡ Some y → x ≡ y
some_is e = cc

-- a name that is neither a definition's nor a variable's depends on nothing
unknown_free : (vars : List (Name × ℕ)) (ds : List Definition) (f : Name) → find ds f ≡ None → lookup vars f ≡ None → dependence vars ds f ≡ []
unknown_free vars [] f e h = ap (itself f) h
unknown_free vars (d ∷ ds) f e h = by_test (bytes_eq d.name f) e (λ e'. unknown_free vars ds f e' h)
  where
    by_test : (b : Bool) → cond b (Some d) (find ds f) ≡ None → (find ds f ≡ None → dependence vars ds f ≡ []) → cond b (term_dependence (dependence vars ds) d.body ++ measure_dependence (dependence vars ds) d.measure) (dependence vars ds f) ≡ []
    by_test true e' ih = absurd (cc)
    by_test false e' ih = ih e'

none_or : {A : Type 0} (o : Option A) → ((a : A) → o ≡ Some a → ⊥) → o ≡ None
none_or None h = refl
none_or (Some a) h = absurd (h a refl)

-- what no function takes arguments for
new_free : (F : Functions) (f : Name) → arity F f ≡ None → dependence F.vars F.defs f ≡ []
new_free F f e = by_cases (primitive f) (find F.defs f) refl (lookup F.vars f) refl e
  where
    by_cases : (p : Option Operation) (o : Option Definition) → find F.defs f ≡ o → (v : Option ℕ) → lookup F.vars f ≡ v → arity_by p o v ≡ None → dependence F.vars F.defs f ≡ []
    by_cases (Some p) o i v j h = absurd (cc)
    by_cases None (Some d) i v j h = absurd (cc)
    by_cases None None i (Some k) j h = absurd (cc)
    by_cases None None i None j h = unknown_free F.vars F.defs f i j

-- where a function depends on nothing, the functions that its body and its measure call don't either
record IsFree (vars : List (Name × ℕ)) (ds : List Definition) (d : Definition) : Type 0 where
  body : Free (dependence vars ds) d.body
  measure : IfSome d.measure (Free (dependence vars ds))

some_both : {A : Type 0} (P Q R : A → Type 0) → ((x : A) → P x → Q x → R x) → (o : Option A) → IfSome o P → IfSome o Q → IfSome o R
some_both P Q R f None h k = tt
some_both P Q R f (Some x) h k = f x h k

parts_free : (vars : List (Name × ℕ)) (ds : List Definition) → AllFormed vars ds → (f : Name) (d : Definition) → find ds f ≡ Some d → dependence vars ds f ≡ [] → IsFree vars ds d
parts_free vars [] ok f d e h = absurd (cc)
parts_free vars (c ∷ ds) ok f d e h = by_test (bytes_eq c.name f) refl e h (parts_free vars ds ok.1 f d)
  where
    -- the definition itself depends on nothing
    with_own : term_dependence (dependence vars ds) c.body ++ measure_dependence (dependence vars ds) c.measure ≡ [] → (g : Name) → dependence vars ds g ≡ [] → dependence vars (c ∷ ds) g ≡ []
    with_own o g b = either (bytes_eq c.name g)
      where
        either : (t : Bool) → cond t (term_dependence (dependence vars ds) c.body ++ measure_dependence (dependence vars ds) c.measure) (dependence vars ds g) ≡ []
        either true = o
        either false = b

    -- a function of those before it is another
    with_other : (g : Name) (k : ℕ) → arity (functions vars ds) g ≡ Some k → dependence vars ds g ≡ [] → dependence vars (c ∷ ds) g ≡ []
    with_other g k a b = ap (λ t. cond t (term_dependence (dependence vars ds) c.body ++ measure_dependence (dependence vars ds) c.measure) (dependence vars ds g)) (other_name (functions vars ds) c ok.0.fresh g k a) ∙ b

    by_test : (b : Bool) → bytes_eq c.name f ≡ b → cond b (Some c) (find ds f) ≡ Some d → cond b (term_dependence (dependence vars ds) c.body ++ measure_dependence (dependence vars ds) c.measure) (dependence vars ds f) ≡ [] → (find ds f ≡ Some d → dependence vars ds f ≡ [] → IsFree vars ds d) → IsFree vars (c ∷ ds) d
    by_test true t e' h' ih =
        let same : c ≡ d = some_is e' in
        let p = no_parts (term_dependence (dependence vars ds) c.body) (measure_dependence (dependence vars ds) c.measure) h' in
        subst (IsFree vars (c ∷ ds)) same
        (record {
          body = over_map Any Any _ _ (λ x i. tt) (λ g k b. with_own h' g b) c.body (free_from (dependence vars ds) c.body p.0);
          measure = if_some_map (Free (dependence vars ds)) (Free (dependence vars (c ∷ ds))) (λ m o. over_map Any Any _ _ (λ x i. tt) (λ g k b. with_own h' g b) m o) c.measure (measure_from (dependence vars ds) c.measure p.1);
        })
    by_test false t e' h' ih =
        let r = ih e' h' in
        let there = found_formed vars ds ok.1 f d e' in
        record {
          body = over_both (IsIn d.formals) Any Any (λ g k. arity (functions vars ds) g ≡ Some k) (λ g k. dependence vars ds g ≡ []) (λ g k. dependence vars (c ∷ ds) g ≡ []) (λ x i j. tt) with_other d.body (body_fits (functions vars ds) ok.1 f d e') r.body;
          measure = some_both (Over (IsIn d.formals) (λ g k. (arity (functions vars ds) g ≡ Some k) × (bytes_eq d.name g ≡ false))) (Free (dependence vars ds)) (Free (dependence vars (c ∷ ds)))
              (λ m o b. over_both (IsIn d.formals) Any Any (λ g k. (arity (functions vars ds) g ≡ Some k) × (bytes_eq d.name g ≡ false)) (λ g k. dependence vars ds g ≡ []) (λ g k. dependence vars (c ∷ ds) g ≡ []) (λ x i j. tt) (λ g k a. with_other g k a.0) m o b) d.measure there.measure r.measure;
        }

module _ (W : World) (sound : Sound W) (d : Definition) (found : find W.functions.defs d.name ≡ Some d) (old : variables_of W d.name ≡ []) (g : Name) (new : arity W.functions g ≡ None) (ms : List Mapped) (mapped : AreMapped W d.formals ms) where
  abbrev IsNone : Name → ℕ → Type 0
  IsNone h k = function_dependence W h ≡ []

  abbrev V : World
  V = add_definition (carried_over d g ms) W

  old_free : function_dependence W d.name ≡ []
  old_free = independent W sound d.name (length d.formals) (takes W sound d found) old

  parts : IsFree W.functions.vars W.functions.defs d
  parts = parts_free W.functions.vars W.functions.defs sound.formed d.name d found old_free

  g_free : function_dependence W g ≡ []
  g_free = new_free W.functions g new

  if_free : function_dependence W (codes "IF") ≡ []
  if_free =
      unknown_free W.functions.vars W.functions.defs (codes "IF")
      (none_or (find W.functions.defs (codes "IF")) (λ c i. let p = found_free W.functions.vars W.functions.defs sound.formed (codes "IF") c i in let q = is_if in absurd (cc)))
      (none_or (lookup W.functions.vars (codes "IF")) (λ k i. let p = (vars_apart W sound (codes "IF") k i).0 in let q = is_if in absurd (cc)))

  isos : Each (λ e. IsFirstOrder W e.iso) ms
  isos = first_orders W sound d.formals ms mapped

  -- the test, the body and the measure of the new function
  condition_free : Free (function_dependence W) (conjunction (all_in_new ms))
  condition_free =
      over_conjunction Any IsNone if_free (all_in_new ms)
      (over_in_new Any IsNone ms
      (each_to (λ e. IsFirstOrder W e.iso) (λ e. function_dependence W e.iso.newp ≡ []) (λ e h. h.1.0.1) ms isos)
      (each_to (λ e. IsFirstOrder W e.iso) (λ e. Any e.formal) (λ e h. tt) ms isos))

  back_free : (x : Name) → Any x → Free (function_dependence W) (with_back ms x)
  back_free = over_with_back Any IsNone ms (each_to (λ e. IsFirstOrder W e.iso) (λ e. function_dependence W e.iso.back ≡ []) (λ e h. h.1.1.1.0.1) ms isos)

  body_free : Free (function_dependence W) (new_body d g ms)
  body_free =
      over_substitute Any Any IsNone (with_back ms) back_free (called_body d g ms)
      (over_called Any IsNone IsNone (λ h k e. e) d.name g (λ k e. g_free) ms
      (each_to (λ e. IsFirstOrder W e.iso) (λ e. function_dependence W e.iso.forth ≡ []) (λ e h. h.1.1.0.1) ms isos)
      d.formals d.body parts.body)

  measure_free : IfSome (carried_over d g ms).measure (Free (function_dependence W))
  measure_free =
      if_some_under (Free (function_dependence W)) (Free (function_dependence W)) (substitute (with_back ms))
      (λ t o. over_substitute Any Any IsNone (with_back ms) back_free t o) d.measure parts.measure

  -- the new function depends on what its parts do: nothing
  made_free : term_dependence (function_dependence W) (carried_over d g ms).body ++ measure_dependence (function_dependence W) (carried_over d g ms).measure ≡ []
  made_free =
      ap₂ (λ xs ys. xs ++ ys)
      (free_to (function_dependence W) (carried_over d g ms).body (if_free, (condition_free, (body_free, (tt, tt)))))
      (measure_to (function_dependence W) (carried_over d g ms).measure measure_free)

  other_free : (h : Name) (k : ℕ) → arity W.functions h ≡ Some k → function_dependence W h ≡ [] → IsIndependent V h k
  other_free h k a e = (
    arity_later W.functions (carried_over d g ms) new h k a,
    ap (λ b. cond b (term_dependence (function_dependence W) (carried_over d g ms).body ++ measure_dependence (function_dependence W) (carried_over d g ms).measure) (function_dependence W h)) (other_name W.functions (carried_over d g ms) new h k a) ∙ e,
  )

  own_free : IsIndependent V g (length d.formals)
  own_free = (
    own_arity W.functions (carried_over d g ms) new,
    ap (λ b. cond b (term_dependence (function_dependence W) (carried_over d g ms).body ++ measure_dependence (function_dependence W) (carried_over d g ms).measure) (function_dependence W g)) (name_self g) ∙ made_free,
  )

  if_independent : IsIndependent V (codes "IF") 3
  if_independent = other_free (codes "IF") 3 (arity_primitive W.functions (codes "IF") _ is_if) if_free

  -- the terms of the second theorem
  pub old_side : IndependentOver V d.formals (at_variables d.name d.formals)
  old_side = (
    subst (IsIndependent V d.name) (sym (count_names Var d.formals)) (other_free d.name (length d.formals) (takes W sound d found) old_free),
    over_names (IsIn d.formals) (IsIndependent V) Var d.formals (λ x j. j),
  )

  pub condition_side : IndependentOver V d.formals (conjunction (all_in_old ms Var))
  condition_side =
      over_conjunction (IsIn d.formals) (IsIndependent V) if_independent (all_in_old ms Var)
      (over_in_old (IsIn d.formals) (IsIndependent V) Var ms
      (each_to (λ e. IsFirstOrder W e.iso) (λ e. IsIndependent V e.iso.oldp 1) (λ e h. other_free e.iso.oldp 1 h.0.0 h.0.1) ms isos)
      (are_formals W sound d.formals ms mapped))

  pub new_side : IndependentOver V d.formals (new_at_forth d g ms)
  new_side = (
    subst (IsIndependent V g) (sym (count_forth ms d.formals (tms (map Var d.formals)) ∙ count_names Var d.formals)) own_free,
    over_all_forth (IsIn d.formals) (IsIndependent V) ms
        (each_to (λ e. IsFirstOrder W e.iso) (λ e. IsIndependent V e.iso.forth 1) (λ e h. other_free e.iso.forth 1 h.1.1.0.0 h.1.1.0.1) ms isos)
        d.formals (tms (map Var d.formals)) (over_names (IsIn d.formals) (IsIndependent V) Var d.formals (λ x j. j)),
  )

  -- in the world with the function and the theorems the link says what the second theorem does
  module _ (n1 n2 : Name) where
    abbrev last : World
    last = add_theorem n2 (alone (old_to_new d g ms)) (add_theorem n1 (alone (new_to_old d g ms)) (add_definition (carried_over d g ms) W))

    rewriting : IsRewriting (add_theorem n2 (alone (old_to_new d g ms)) (add_theorem n1 (alone (new_to_old d g ms)) (add_definition (carried_over d g ms) W))) n2 d.name d.formals (Some (conjunction (all_in_old ms Var))) (new_at_forth d g ms)
    rewriting = record {
      stated = ap (λ b. cond b (Some (alone (old_to_new d g ms))) (lookup ((n1, alone (new_to_old d g ms)) ∷ W.theorems) n2)) (name_self n2);
      distinct = (formed W sound d found).formals;
      old_term = old_side;
      condition_term = condition_side;
      new_term = new_side;
    }

    by_positions : IsRewriting (add_theorem n2 (alone (old_to_new d g ms)) (add_theorem n1 (alone (new_to_old d g ms)) (add_definition (carried_over d g ms) W))) n2 d.name d.formals (Some (conjunction (link.all_in_old (uses_of ms) d.formals))) (Call g (tms (all_mapped (uses_of ms) 0 (map Var d.formals))))
    by_positions =
        subst (λ ts. IsRewriting last n2 d.name d.formals (Some (conjunction ts)) (Call g (tms (all_mapped (uses_of ms) 0 (map Var d.formals))))) (sym (named_in_old d.formals ms mapped.placed))
        (subst (λ us. IsRewriting last n2 d.name d.formals (Some (conjunction (all_in_old ms Var))) (Call g us)) (sym (named_forth d.formals ms mapped.placed (formed W sound d found).formals)) rewriting)

    pub linked : IsLinked (add_theorem n2 (alone (old_to_new d g ms)) (add_theorem n1 (alone (new_to_old d g ms)) (add_definition (carried_over d g ms) W))) n2 (link_of d g ms)
    linked = (
      d,
      ap (λ b. cond b (Some (carried_over d g ms)) (find W.functions.defs d.name)) (apart W sound d found g new) ∙ found,
      by_positions,
    )
