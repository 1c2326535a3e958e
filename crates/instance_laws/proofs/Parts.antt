-- The map that pairs give in a sound world is part of one that is closed under calls: the table of all definitions, each
-- with its recorded instance for its own pairs, and of the pairs.
use Rattle.std.proofs.Common.{◌≡◌, ℕ, Bool, true, false, cond, ◌||◌, List, [], ◌∷◌, ◌++◌, is_some, bytes_eq, Option, Some, None, IfSome, Ok, refl, sym, ap, ap₂, ◌∙◌, subst}
use Rattle.std.proofs.lemmas.Bool.{and_parts, and_from}
use Rattle.std.specs.Option.{option_map}
use Rattle.lisp_data.specs.Values.{Name}
use Rattle.terms.specs.Primitives.{Operation, primitive, lookup}
use Rattle.terms.specs.Terms.{Tm, Var, Quote, Call, Tms, Done, More, Over, OverAll}
use Rattle.terms.specs.Definitions.{find}
use Rattle.terms.specs.Dependence.{itself, dependence}
use Rattle.terms.specs.Worlds.{Functions, World, Instance, Each, arity, arity_by, is_in}
use Rattle.terms.specs.Sound.{Sound}
use Rattle.terms.specs.declared.definition.Definition.{Definition}
use Rattle.terms.specs.declared.entries.FunPair.{FunPair}
use Rattle.terms.proofs.Names.{same_name, name_self}
use Rattle.terms.proofs.Below.{Any}
use Rattle.terms.proofs.Extend.{over_map}
use Rattle.terms.proofs.Meaning.{found_free}
use Rattle.terms.proofs.Later.{vars_apart}
use Rattle.terms.specs.Records.{same_pairs, is_instance, find_instance}
use Rattle.terms.specs.Maps.{NamePairs, HasDistinctNames, or_name, image, rename, rename_all, renamed}
use Rattle.terms.specs.Pairs.{with_pairs, name_pairs, IsFitting}
use Rattle.terms.specs.Instances.{with_instances, called, listed, own_pairs, recorded, map_from, parts, function_instance, IsRecorded}
use Rattle.soft_vars.specs.Laws.{GivesInstances}
use Rattle.soft_vars.proofs.Depends.{not_defined}
use Rattle.terms.proofs.MapKeys.{lookup-behind}
use Rattle.terms.proofs.Fitting.{then_ok, map_ok, pairs_fit}
use Rattle.soft_vars.proofs.Maps.{maps_give_instances}
use Rattle.soft_vars.proofs.Calls.{calls_are_called}
use Rattle.instance_laws.specs.Closed.{HasImage, IsClosed, KeepsArities}
use Rattle.instance_laws.specs.Laws.{MapsArePart}
use Rattle.instance_laws.proofs.Members.{has_named, Alike, alike, recorded_alike, no_pairs, has_restricted, has_looked_up, looked_up}
use Rattle.terms.proofs.Found.{found_name}
use Rattle.instance_laws.proofs.Formed.{over_both, DependsOnNoMore, callees_depend}

-- what a function becomes for its own pairs, if it has what it needs
abbrev pub instance_name : World → List FunPair → Name → Option Name
instance_name W pairs f = recorded W f (own_pairs W pairs f)

abbrev pub name_for : World → List FunPair → Option Definition → Name → Name
name_for W pairs None f = image (name_pairs pairs) f
name_for W pairs (Some d) f = or_name f (instance_name W pairs f)

-- each definition with its instance, then the pairs
abbrev pub table : (Name → Name) → List Definition → NamePairs → NamePairs
table h [] m = m
table h (d ∷ ds) m = (d.name, h d.name) ∷ table h ds m

abbrev pub becomes : World → List FunPair → Name → Name
becomes W pairs f = name_for W pairs (find W.functions.defs f) f

abbrev pub whole_map : World → List FunPair → NamePairs
whole_map W pairs = table (becomes W pairs) W.functions.defs (name_pairs pairs)

table_defined : (h : Name → Name) (m : NamePairs) (ds : List Definition) (f : Name) (d : Definition) → find ds f ≡ Some d → lookup (table h ds m) f ≡ Some (h f)
table_defined h m [] f d e = absurd (cc)
table_defined h m (c ∷ ds) f d e = by_test (bytes_eq c.name f) refl e (table_defined h m ds f d)
  where
    by_test : (b : Bool) → bytes_eq c.name f ≡ b → cond b (Some c) (find ds f) ≡ Some d → (find ds f ≡ Some d → lookup (table h ds m) f ≡ Some (h f)) → cond b (Some (h c.name)) (lookup (table h ds m) f) ≡ Some (h f)
    by_test true t e' ih = ap (λ z. Some (h z)) (same_name c.name f t)
    by_test false t e' ih = ih e'

table_other : (h : Name → Name) (m : NamePairs) (ds : List Definition) (f : Name) → find ds f ≡ None → lookup (table h ds m) f ≡ lookup m f
table_other h m [] f e = refl
table_other h m (c ∷ ds) f e = by_test (bytes_eq c.name f) e (table_other h m ds f)
  where
    by_test : (b : Bool) → cond b (Some c) (find ds f) ≡ None → (find ds f ≡ None → lookup (table h ds m) f ≡ lookup m f) → cond b (Some (h c.name)) (lookup (table h ds m) f) ≡ lookup m f
    by_test true e' ih = absurd (cc)
    by_test false e' ih = ih e'

-- a defined name has an instance
pub record IsCovered (W : World) (pairs : List FunPair) (f : Name) : Type 0 where
  pub covers : (d : Definition) → find W.functions.defs f ≡ Some d → is_some (instance_name W pairs f) ≡ true

-- terms under two maps that agree on their calls
mutual
  pub rename_same : (m m' : NamePairs) (t : Tm) → Over Any (λ g k. image m g ≡ image m' g) t → rename m t ≡ rename m' t
  rename_same m m' (Var x) o = refl
  rename_same m m' (Quote v) o = refl
  rename_same m m' (Call g ts) o = ap₂ Call o.0 (rename_all_same m m' ts o.1)

  rename_all_same : (m m' : NamePairs) (ts : Tms) → OverAll Any (λ g k. image m g ≡ image m' g) ts → rename_all m ts ≡ rename_all m' ts
  rename_all_same m m' Done o = refl
  rename_all_same m m' (More t ts) o = ap₂ More (rename_same m m' t o.0) (rename_all_same m m' ts o.1)

mutual
  rename_none : (m : NamePairs) (t : Tm) → Over Any (λ g k. image m g ≡ g) t → t ≡ rename m t
  rename_none m (Var x) o = refl
  rename_none m (Quote v) o = refl
  rename_none m (Call g ts) o = ap₂ Call (sym o.0) (rename_all_none m ts o.1)

  rename_all_none : (m : NamePairs) (ts : Tms) → OverAll Any (λ g k. image m g ≡ g) ts → ts ≡ rename_all m ts
  rename_all_none m Done o = refl
  rename_all_none m (More t ts) o = ap₂ More (rename_none m t o.0) (rename_all_none m ts o.1)

-- each pair of the map is of a variable and a function of as many arguments
pub record AreGood (W : World) (pairs : List FunPair) : Type 0 where
  pub distinct : HasDistinctNames (name_pairs pairs)
  pub fitting : Each (IsFitting W.functions) pairs

-- a pair that is looked up
pub record Fitted (F : Functions) (x g : Name) : Type 0 where
  pub number : ℕ
  pub variable : lookup F.vars x ≡ Some number
  pub function : arity F g ≡ Some number

looked_up_fits : (F : Functions) (ps : List FunPair) → Each (IsFitting F) ps → (x g : Name) → lookup (name_pairs ps) x ≡ Some g → Fitted F x g
looked_up_fits F [] h x g e = absurd (cc)
looked_up_fits F (p ∷ ps) h x g e = by_test (bytes_eq p.variable x) refl e (looked_up_fits F ps h.1 x g)
  where
    by_test : (b : Bool) → bytes_eq p.variable x ≡ b → cond b (Some p.function) (lookup (name_pairs ps) x) ≡ Some g → (lookup (name_pairs ps) x ≡ Some g → Fitted F x g) → Fitted F x g
    by_test true t e' ih =
        let same : p.function ≡ g = cc in
        record {
          number = h.0.0;
          variable = subst (λ z. lookup F.vars z ≡ Some h.0.0) (same_name p.variable x t) h.0.1;
          function = subst (λ z. arity F z ≡ Some h.0.0) same h.0.2;
        }
    by_test false t e' ih = ih e'

-- what names become, for some pairs that fit
module _ (W : World) (sound : Sound W) (pairs : List FunPair) (good : AreGood W pairs) where
  abbrev F : Functions
  F = W.functions

  abbrev vars_of : Name → List Name
  vars_of f = dependence W.functions.vars W.functions.defs f

  image_defined : (f : Name) (d : Definition) → find W.functions.defs f ≡ Some d → image (whole_map W pairs) f ≡ or_name f (instance_name W pairs f)
  image_defined f d e = ap (or_name f) (table_defined (becomes W pairs) (name_pairs pairs) F.defs f d e) ∙ ap (λ o. name_for W pairs o f) e

  image_other : (f : Name) → find W.functions.defs f ≡ None → image (whole_map W pairs) f ≡ image (name_pairs pairs) f
  image_other f e = ap (or_name f) (table_other (becomes W pairs) (name_pairs pairs) F.defs f e)

  -- a name with a pair is a variable, which depends on itself
  pair_fits : (x g : Name) → lookup (name_pairs pairs) x ≡ Some g → Fitted W.functions x g
  pair_fits = looked_up_fits F pairs good.fitting

  pair_free : (x g : Name) → lookup (name_pairs pairs) x ≡ Some g → (primitive x ≡ None) × (find W.functions.defs x ≡ None)
  pair_free x g e = let v = pair_fits x g e in vars_apart W sound x v.number v.variable

  key_vars : (x g : Name) → lookup (name_pairs pairs) x ≡ Some g → is_in (vars_of x) x ≡ true
  key_vars x g e =
      let v = pair_fits x g e in
      ap (λ l. is_in l x) (not_defined F.vars F.defs x (pair_free x g e).1 ∙ ap (itself x) v.variable) ∙ ap (λ b. b || false) (name_self x)

  -- a name without a pair and without a definition has no pairs of its own
  none_own : (f : Name) → find W.functions.defs f ≡ None → lookup (name_pairs pairs) f ≡ None → own_pairs W pairs f ≡ []
  none_own f e n = no_pairs (own_pairs W pairs f) (λ x g h. by_variable x g (lookup F.vars f) refl (and_parts (has_named pairs x g) (is_in (vars_of f) x) (sym (has_restricted pairs (vars_of f) x g) ∙ h)))
    where
      one : (a : Bool) → (a || false) ≡ true → a ≡ true
      one true h = refl
      one false h = absurd (cc)

      by_variable : (x g : Name) (o : Option ℕ) → lookup W.functions.vars f ≡ o → (has_named pairs x g ≡ true) × (is_in (vars_of f) x ≡ true) → ⊥
      by_variable x g None v h = let i : is_in [] x ≡ true = subst (λ z. is_in z x ≡ true) (not_defined F.vars F.defs f e ∙ ap (itself f) v) h.1 in absurd (cc)
      by_variable x g (Some k) v h =
          let i : is_in (f ∷ []) x ≡ true = subst (λ z. is_in z x ≡ true) (not_defined F.vars F.defs f e ∙ ap (itself f) v) h.1 in
          let same = same_name f x (one (bytes_eq f x) i) in
          let l : lookup (name_pairs pairs) f ≡ Some g = subst (λ z. lookup (name_pairs pairs) z ≡ Some g) (sym same) (looked_up pairs good.distinct x g h.0) in
          absurd (cc)

  primitives_stay : (f : Name) (p : Operation) → primitive f ≡ Some p → image (whole_map W pairs) f ≡ f
  primitives_stay f p e = by_found (find F.defs f) refl
    where
      no_pair : (o : Option Name) → lookup (name_pairs pairs) f ≡ o → image (name_pairs pairs) f ≡ f
      no_pair None l = ap (or_name f) l
      no_pair (Some g) l = let a = (pair_free f g l).0 in absurd (cc)

      by_found : (q : Option Definition) → find W.functions.defs f ≡ q → image (whole_map W pairs) f ≡ f
      by_found None h = image_other f h ∙ no_pair (lookup (name_pairs pairs) f) refl
      by_found (Some d) h = let n = found_free F.vars F.defs sound.formed f d h in absurd (cc)

  arities_stay : KeepsArities W.functions (whole_map W pairs)
  arities_stay x k e = subst (λ z. arity F z ≡ Some k) (sym (image_other x (vars_apart W sound x k e).1)) (by_pair (lookup (name_pairs pairs) x) refl)
    where
      by_pair : (o : Option Name) → lookup (name_pairs pairs) x ≡ o → arity W.functions (or_name x (lookup (name_pairs pairs) x)) ≡ Some k
      by_pair None l =
          let a = vars_apart W sound x k e in
          ap (λ o. arity F (or_name x o)) l ∙ ap (λ p. arity_by p (find F.defs x) (lookup F.vars x)) a.0 ∙ ap (λ q. arity_by None q (lookup F.vars x)) a.1 ∙ e
      by_pair (Some g) l =
          let v = pair_fits x g l in
          let n : Some v.number ≡ Some k = sym v.variable ∙ e in
          ap (λ o. arity F (or_name x o)) l ∙ v.function ∙ n

  -- the list of what has an instance
  abbrev listed_of : List Definition → List Name
  listed_of [] = []
  listed_of (d ∷ ds) = cond (is_some (instance_name W pairs d.name)) (d.name ∷ listed_of ds) (listed_of ds)

  listed_in : (ds : List Definition) (f : Name) (d : Definition) → find ds f ≡ Some d → is_some (instance_name W pairs f) ≡ true → is_in (listed_of ds) f ≡ true
  listed_in [] f d e s = absurd (cc)
  listed_in (c ∷ ds) f d e s = by_test (bytes_eq c.name f) refl e (is_some (instance_name W pairs c.name)) refl (λ h. listed_in ds f d h s)
    where
      later : (b : Bool) → is_in (listed_of ds) f ≡ true → (b || is_in (listed_of ds) f) ≡ true
      later true i = refl
      later false i = i

      by_test : (b : Bool) → bytes_eq c.name f ≡ b → cond b (Some c) (find ds f) ≡ Some d → (t : Bool) → is_some (instance_name W pairs c.name) ≡ t → (find ds f ≡ Some d → is_in (listed_of ds) f ≡ true) → is_in (cond t (c.name ∷ listed_of ds) (listed_of ds)) f ≡ true
      by_test true p e' true q ih = ap (λ b. b || is_in (listed_of ds) f) p
      by_test true p e' false q ih = let a = subst (λ z. is_some (instance_name W pairs z) ≡ false) (same_name c.name f p) q in absurd (cc)
      by_test false p e' true q ih = later (bytes_eq c.name f) (ih e')
      by_test false p e' false q ih = ih e'

  in_listed : (ds : List Definition) (f : Name) → is_in (listed_of ds) f ≡ true → is_some (instance_name W pairs f) ≡ true
  in_listed [] f i = absurd (cc)
  in_listed (c ∷ ds) f i = by_test (is_some (instance_name W pairs c.name)) refl i (in_listed ds f)
    where
      here : (b : Bool) → bytes_eq c.name f ≡ b → is_some (instance_name W pairs c.name) ≡ true → (b || is_in (listed_of ds) f) ≡ true → (is_in (listed_of ds) f ≡ true → is_some (instance_name W pairs f) ≡ true) → is_some (instance_name W pairs f) ≡ true
      here true p q i' ih = subst (λ z. is_some (instance_name W pairs z) ≡ true) (same_name c.name f p) q
      here false p q i' ih = ih i'

      by_test : (t : Bool) → is_some (instance_name W pairs c.name) ≡ t → is_in (cond t (c.name ∷ listed_of ds) (listed_of ds)) f ≡ true → (is_in (listed_of ds) f ≡ true → is_some (instance_name W pairs f) ≡ true) → is_some (instance_name W pairs f) ≡ true
      by_test true q i' ih = here (bytes_eq c.name f) refl q i' ih
      by_test false q i' ih = ih i'

  -- a function that depends on no variable of the pairs: its callees don't either
  module _ (f : Name) (none : own_pairs W pairs f ≡ []) (g : Name) (inside : DependsOnNoMore W.functions g f) where
    out : (x y : Name) → has_named pairs x y ≡ true → is_in (vars_of g) x ≡ true → ⊥
    out x y h i =
        let e : has_named (own_pairs W pairs f) x y ≡ true = has_restricted pairs (vars_of f) x y ∙ and_from (has_named pairs x y) (is_in (vars_of f) x) h (inside.each x i) in
        let n : has_named [] x y ≡ true = subst (λ l. has_named l x y ≡ true) none e in
        absurd (cc)

    callee_none : own_pairs W pairs g ≡ []
    callee_none = no_pairs (own_pairs W pairs g) (λ x y h. let p = and_parts (has_named pairs x y) (is_in (vars_of g) x) (sym (has_restricted pairs (vars_of g) x y) ∙ h) in out x y p.0 p.1)

    callee_stays : image (whole_map W pairs) g ≡ g
    callee_stays = by_found (find F.defs g) refl
      where
        by_pair : (o : Option Name) → lookup (name_pairs pairs) g ≡ o → image (name_pairs pairs) g ≡ g
        by_pair None e = ap (or_name g) e
        by_pair (Some y) e = absurd (out g y (has_looked_up pairs g y e) (key_vars g y e))

        by_found : (q : Option Definition) → find W.functions.defs g ≡ q → image (whole_map W pairs) g ≡ g
        by_found None h = image_other g h ∙ by_pair (lookup (name_pairs pairs) g) refl
        by_found (Some d) h = image_defined g d h ∙ ap (λ l. or_name g (recorded W g l)) callee_none

    callee_covered : IsCovered W pairs g
    callee_covered = record { covers = λ e h. ap (λ l. is_some (recorded W g l)) callee_none }

  -- what the map that pairs give does with the functions that it was made for
  module _ (begun : NamePairs) (fs : List Name) (m : NamePairs) (gives : GivesInstances W begun pairs fs m) (g : Name) (among : is_in fs g ≡ true) (new : lookup begun g ≡ None) where
    behind : lookup (begun ++ name_pairs pairs) g ≡ lookup (name_pairs pairs) g
    behind = lookup-behind begun (name_pairs pairs) g new

    name_inj : {x y : Name} → Some x ≡ Some y → x ≡ y
    name_inj e = cc

    made_same : image m g ≡ image (whole_map W pairs) g
    made_same = by_pair (lookup (name_pairs pairs) g) refl
      where
        by_found : lookup (name_pairs pairs) g ≡ None → (q : Option Definition) → find W.functions.defs g ≡ q → recorded W g (own_pairs W pairs g) ≡ Some (image m g) → image m g ≡ image (whole_map W pairs) g
        by_found n None h r =
            name_inj (sym r ∙ ap (recorded W g) (none_own g h n))
            ∙ sym (image_other g h ∙ ap (or_name g) n)
        by_found n (Some d) h r = sym (image_defined g d h ∙ ap (or_name g) r)

        by_pair : (o : Option Name) → lookup (name_pairs pairs) g ≡ o → image m g ≡ image (whole_map W pairs) g
        by_pair (Some y) e = ap (or_name g) (gives.given g y (behind ∙ e)) ∙ sym (image_other g (pair_free g y e).1 ∙ ap (or_name g) e)
        by_pair None e = by_found e (find F.defs g) refl (gives.instances g among (behind ∙ e))

    made_covered : IsCovered W pairs g
    made_covered = record { covers = λ d h. by_pair d h (lookup (name_pairs pairs) g) refl }
      where
        by_pair : (d : Definition) → find W.functions.defs g ≡ Some d → (o : Option Name) → lookup (name_pairs pairs) g ≡ o → is_some (instance_name W pairs g) ≡ true
        by_pair d h (Some y) e = let n = (pair_free g y e).1 in absurd (cc)
        by_pair d h None e = ap is_some (gives.instances g among (behind ∙ e))

-- a map that pairs give, with what is known of it
pub record Made (W : World) (begun : NamePairs) (pairs : List FunPair) (fs : List Name) (m : NamePairs) : Type 0 where
  pub good : HasDistinctNames begun → AreGood W pairs
  pub gives : GivesInstances W begun pairs fs m

distinct_behind : (m n : NamePairs) → HasDistinctNames (m ++ n) → HasDistinctNames n
distinct_behind [] n d = d
distinct_behind (e ∷ m) n d = distinct_behind m n d.1

pub made : (W : World) (begun : NamePairs) (pairs : List FunPair) (fs : List Name) (m : NamePairs) → map_from W begun pairs fs ≡ Ok m → Made W begun pairs fs m
made W begun pairs fs m e =
    let r = then_ok (with_pairs W begun pairs) (λ k. with_instances W pairs k fs) m e in
    let fit = pairs_fit W begun pairs r.0 r.1 in
    record {
      good = λ d. record { distinct = distinct_behind begun (name_pairs pairs) (subst HasDistinctNames fit.as_given (fit.distinct d)); fitting = fit.fitting };
      gives = maps_give_instances W begun pairs fs m e;
    }

-- what is known of a function's instance: it is the function's definition under the map with the new name, and what it calls has instances
pub record InstanceMade (W : World) (d : Definition) (pairs : List FunPair) (name : Name) (i : Definition) : Type 0 where
  pub good : AreGood W pairs
  pub is : i ≡ renamed ((d.name, name) ∷ whole_map W pairs) name d
  pub body_covered : Over Any (λ g k. bytes_eq d.name g ≡ false → IsCovered W pairs g) d.body
  pub measure_covered : IfSome d.measure (Over Any (λ g k. bytes_eq d.name g ≡ false → IsCovered W pairs g))

module _ (W : World) (sound : Sound W) (d : Definition) (pairs : List FunPair) (name : Name) where
  abbrev begun : NamePairs
  begun = (d.name, name) ∷ []

  abbrev fs : List Name
  fs = called (parts d)

  module _ (m : NamePairs) (good : AreGood W pairs) (gives : GivesInstances W ((d.name, name) ∷ []) pairs (called (parts d)) m) where
    not_begun : (g : Name) → bytes_eq d.name g ≡ false → lookup ((d.name, name) ∷ []) g ≡ None
    not_begun g e = ap (λ b. cond b (Some name) None) e

    image_same : (g : Name) → is_in (called (parts d)) g ≡ true → image m g ≡ image ((d.name, name) ∷ whole_map W pairs) g
    image_same g i = by_test (bytes_eq d.name g) refl
      where
        by_test : (b : Bool) → bytes_eq d.name g ≡ b → image m g ≡ or_name g (cond b (Some name) (lookup (whole_map W pairs) g))
        by_test true e = ap (or_name g) (gives.given g name (ap (λ b. cond b (Some name) (lookup (name_pairs pairs) g)) e))
        by_test false e = made_same W sound pairs good begun fs m gives g i (not_begun g e)

    covered_there : (g : Name) → is_in (called (parts d)) g ≡ true → bytes_eq d.name g ≡ false → IsCovered W pairs g
    covered_there g i e = made_covered W sound pairs good begun fs m gives g i (not_begun g e)

    abbrev Among : Tm → Type 0
    Among t = Over Any (λ g k. is_in (called (parts d)) g ≡ true) t

    term_same : (t : Tm) → Among t → rename m t ≡ rename ((d.name, name) ∷ whole_map W pairs) t
    term_same t o = rename_same m ((d.name, name) ∷ whole_map W pairs) t (over_map Any Any _ _ (λ x p. p) (λ g k i. image_same g i) t o)

    term_covered : (t : Tm) → Among t → Over Any (λ g k. bytes_eq d.name g ≡ false → IsCovered W pairs g) t
    term_covered t o = over_map Any Any _ _ (λ x p. p) (λ g k i. covered_there g i) t o

    measure_same : (o : Option Tm) → Each Among (listed o) → option_map (rename m) o ≡ option_map (rename ((d.name, name) ∷ whole_map W pairs)) o
    measure_same None h = refl
    measure_same (Some t) h = ap Some (term_same t h.0)

    measures_covered : (o : Option Tm) → Each Among (listed o) → IfSome o (Over Any (λ g k. bytes_eq d.name g ≡ false → IsCovered W pairs g))
    measures_covered None h = tt
    measures_covered (Some t) h = term_covered t h.0

  pub instance_made : (i : Definition) → function_instance W d pairs name ≡ Ok i → InstanceMade W d pairs name i
  instance_made i e =
      let r = map_ok (λ m. renamed m name d) (map_from W ((d.name, name) ∷ []) pairs (called (parts d))) i e in
      let mk = made W ((d.name, name) ∷ []) pairs (called (parts d)) r.0 r.1 in
      let good = mk.good (refl, tt) in
      let calls = calls_are_called (parts d) in
      record {
        good = good;
        is = sym r.2 ∙ ap₂ (λ b o. record { name = name; formals = d.formals; body = b; measure = o }) (term_same r.0 good mk.gives d.body calls.0) (measure_same r.0 good mk.gives d.measure calls.1);
        body_covered = term_covered r.0 good mk.gives d.body calls.0;
        measure_covered = measures_covered r.0 good mk.gives d.measure calls.1;
      }

-- a recorded instance that is found
pub record Found (W : World) (d : Definition) (pairs : List FunPair) (g : Name) : Type 0 where
  pub own : List FunPair
  pub like : Alike own pairs
  pub instance : Definition
  pub there : find W.functions.defs g ≡ Some instance
  pub is : InstanceMade W d own g instance

find_right : (W : World) → Sound W → (rs : List Instance) → Each (IsRecorded W) rs → (f : Name) (d : Definition) → find W.functions.defs f ≡ Some d → (pairs : List FunPair) (g : Name) → find_instance rs f pairs ≡ Some g → Found W d pairs g
find_right W sound [] h f d found pairs g e = absurd (cc)
find_right W sound (r ∷ rs) h f d found pairs g e = by_test (is_instance r f pairs) refl e (find_right W sound rs h.1 f d found pairs g)
  where
    by_test : (b : Bool) → is_instance r f pairs ≡ b → cond b (Some r.instance) (find_instance rs f pairs) ≡ Some g → (find_instance rs f pairs ≡ Some g → Found W d pairs g) → Found W d pairs g
    by_test true t e' ih =
        let p = and_parts (bytes_eq r.of f) (same_pairs r.pairs pairs) t in
        let one = h.0 in
        let to : r.instance ≡ g = cc in
        let origin : Some one.origin ≡ Some d = sym one.found ∙ ap (find W.functions.defs) (same_name r.of f p.0) ∙ found in
        let same : one.origin ≡ d = cc in
        record {
          own = r.pairs;
          like = alike r.pairs pairs p.1;
          instance = one.instance;
          there = ap (find W.functions.defs) (sym to) ∙ one.made;
          is = instance_made W sound d r.pairs g one.instance (ap₂ (λ x y. function_instance W x r.pairs y) (sym same) (sym to) ∙ one.gives);
        }
    by_test false t e' ih = ih e'

both_ways : (a b : Option Name) → ((g : Name) → a ≡ Some g → b ≡ Some g) → ((g : Name) → b ≡ Some g → a ≡ Some g) → a ≡ b
both_ways None None h k = refl
both_ways None (Some y) h k = k y refl
both_ways (Some x) b h k = sym (h x refl)

-- a callee becomes the same under the pairs of its caller's record
module _ (W : World) (sound : Sound W) (pairs : List FunPair) (good : AreGood W pairs) (f : Name) (own : List FunPair) (good_own : AreGood W own) (like : Alike own (own_pairs W pairs f)) (g : Name) (inside : DependsOnNoMore W.functions g f) where
  abbrev dep : Name → List Name
  dep h = dependence W.functions.vars W.functions.defs h

  there : (x y : Name) → has_named own x y ≡ true → has_named pairs x y ≡ true
  there x y h = (and_parts (has_named pairs x y) (is_in (dep f) x) (sym (has_restricted pairs (dep f) x y) ∙ like.there.each x y h)).0

  back : (x y : Name) → has_named pairs x y ≡ true → is_in (dep g) x ≡ true → has_named own x y ≡ true
  back x y h i = like.back.each x y (has_restricted pairs (dep f) x y ∙ and_from (has_named pairs x y) (is_in (dep f) x) h (inside.each x i))

  own_alike : Alike (own_pairs W own g) (own_pairs W pairs g)
  own_alike = record {
    there = record { each = λ x y h. let p = and_parts (has_named own x y) (is_in (dep g) x) (sym (has_restricted own (dep g) x y) ∙ h) in has_restricted pairs (dep g) x y ∙ and_from (has_named pairs x y) (is_in (dep g) x) (there x y p.0) p.1 };
    back = record { each = λ x y h. let p = and_parts (has_named pairs x y) (is_in (dep g) x) (sym (has_restricted pairs (dep g) x y) ∙ h) in has_restricted own (dep g) x y ∙ and_from (has_named own x y) (is_in (dep g) x) (back x y p.0 p.1) p.1 };
  }

  names_same : instance_name W own g ≡ instance_name W pairs g
  names_same = recorded_alike W g (own_pairs W own g) (own_pairs W pairs g) own_alike

  pair_same : lookup (name_pairs own) g ≡ lookup (name_pairs pairs) g
  pair_same =
      both_ways (lookup (name_pairs own) g) (lookup (name_pairs pairs) g)
      (λ y e. looked_up pairs good.distinct g y (there g y (has_looked_up own g y e)))
      (λ y e. looked_up own good_own.distinct g y (back g y (has_looked_up pairs g y e) (key_vars W sound pairs good g y e)))

  becomes_same : image (whole_map W own) g ≡ image (whole_map W pairs) g
  becomes_same = by_found (find W.functions.defs g) refl
    where
      by_found : (q : Option Definition) → find W.functions.defs g ≡ q → image (whole_map W own) g ≡ image (whole_map W pairs) g
      by_found None h = image_other W sound own good_own g h ∙ ap (or_name g) pair_same ∙ sym (image_other W sound pairs good g h)
      by_found (Some d) h = image_defined W sound own good_own g d h ∙ ap (or_name g) names_same ∙ sym (image_defined W sound pairs good g d h)

  covered_same : IsCovered W own g → IsCovered W pairs g
  covered_same c = record { covers = λ d h. ap is_some (sym names_same) ∙ c.covers d h }

-- each function that has what it needs has an image, and so do its callees
module _ (W : World) (sound : Sound W) (pairs : List FunPair) (good : AreGood W pairs) (f : Name) (d : Definition) (found : find W.functions.defs f ≡ Some d) (covered : is_some (instance_name W pairs f) ≡ true) where
  record IsImaged : Type 0 where
    image_there : HasImage W.functions.defs (whole_map W pairs) f d
    callees : Over Any (λ g k. IsCovered W pairs g) d.body

  depend : Over Any (λ g k. bytes_eq f g ≡ false → DependsOnNoMore W.functions g f) d.body
  depend = callees_depend W.functions sound.formed f d found

  own_covered : (g : Name) → bytes_eq f g ≡ true → IsCovered W pairs g
  own_covered g e = record { covers = λ d' h. subst (λ z. is_some (instance_name W pairs z) ≡ true) (same_name f g e) covered }

  no_need : own_pairs W pairs f ≡ [] → IsImaged
  no_need none = record {
    image_there = record {
      instance = d;
      found = ap (find W.functions.defs) stays ∙ found;
      not_primitive = ap primitive stays ∙ found_free W.functions.vars W.functions.defs sound.formed f d found;
      formals = refl;
      body = rename_none (whole_map W pairs) d.body (over_map Any Any _ _ (λ x p. p) (λ g k i. by_name g i (bytes_eq f g) refl) d.body depend);
    };
    callees = over_map Any Any _ _ (λ x p. p) (λ g k i. cover g i (bytes_eq f g) refl) d.body depend;
  }
    where
      stays : image (whole_map W pairs) f ≡ f
      stays = image_defined W sound pairs good f d found ∙ ap (λ l. or_name f (recorded W f l)) none

      by_name : (g : Name) → (bytes_eq f g ≡ false → DependsOnNoMore W.functions g f) → (b : Bool) → bytes_eq f g ≡ b → image (whole_map W pairs) g ≡ g
      by_name g i true e = subst (λ z. image (whole_map W pairs) z ≡ z) (same_name f g e) stays
      by_name g i false e = callee_stays W sound pairs good f none g (i e)

      cover : (g : Name) → (bytes_eq f g ≡ false → DependsOnNoMore W.functions g f) → (b : Bool) → bytes_eq f g ≡ b → IsCovered W pairs g
      cover g i true e = own_covered g e
      cover g i false e = callee_covered W sound pairs good f none g (i e)

  with_record : (g' : Name) → instance_name W pairs f ≡ Some g' → Found W d (own_pairs W pairs f) g' → IsImaged
  with_record g' names r = record {
    image_there = record {
      instance = r.instance;
      found = ap (find W.functions.defs) goes ∙ r.there;
      not_primitive = ap primitive goes ∙ found_free W.functions.vars W.functions.defs sound.formed g' r.instance r.there;
      formals = ap (λ (z : Definition). z.formals) r.is.is;
      body = ap (λ (z : Definition). z.body) r.is.is ∙ rename_same ((d.name, g') ∷ whole_map W r.own) (whole_map W pairs) d.body (over_map Any Any _ _ (λ x p. p) (λ g k i. by_name g i (bytes_eq d.name g) refl) d.body depend);
    };
    callees = over_map Any Any _ _ (λ x p. p) (λ g k i. cover g i.0 i.1 (bytes_eq f g) refl) d.body (over_both Any _ _ d.body depend r.is.body_covered);
  }
    where
      named : d.name ≡ f
      named = found_name W.functions.defs f d found

      goes : image (whole_map W pairs) f ≡ g'
      goes = image_defined W sound pairs good f d found ∙ ap (or_name f) names

      by_name : (g : Name) → (bytes_eq f g ≡ false → DependsOnNoMore W.functions g f) → (b : Bool) → bytes_eq d.name g ≡ b → or_name g (cond b (Some g') (lookup (whole_map W r.own) g)) ≡ image (whole_map W pairs) g
      by_name g i true e = sym (ap (image (whole_map W pairs)) (sym (same_name d.name g e) ∙ named) ∙ goes)
      by_name g i false e = becomes_same W sound pairs good f r.own r.is.good r.like g (i (subst (λ z. bytes_eq z g ≡ false) named e))

      cover : (g : Name) → (bytes_eq f g ≡ false → DependsOnNoMore W.functions g f) → (bytes_eq d.name g ≡ false → IsCovered W r.own g) → (b : Bool) → bytes_eq f g ≡ b → IsCovered W pairs g
      cover g i c true e = own_covered g e
      cover g i c false e = covered_same W sound pairs good f r.own r.is.good r.like g (i e) (c (subst (λ z. bytes_eq z g ≡ false) (sym named) e))

  imaged : IsImaged
  imaged = by_pairs (own_pairs W pairs f) refl covered
    where
      by_record : (p : FunPair) (ps : List FunPair) → own_pairs W pairs f ≡ p ∷ ps → (o : Option Name) → find_instance W.instances f (p ∷ ps) ≡ o → is_some o ≡ true → IsImaged
      by_record p ps h None q s = absurd (cc)
      by_record p ps h (Some g') q s =
          with_record g' (ap (recorded W f) h ∙ q) (find_right W sound W.instances sound.instances f d found (own_pairs W pairs f) g' (ap (find_instance W.instances f) h ∙ q))

      by_pairs : (l : List FunPair) → own_pairs W pairs f ≡ l → is_some (recorded W f l) ≡ true → IsImaged
      by_pairs [] h s = no_need h
      by_pairs (p ∷ ps) h s = by_record p ps h (find_instance W.instances f (p ∷ ps)) refl s

module _ (W : World) (sound : Sound W) (pairs : List FunPair) (good : AreGood W pairs) where
  pub whole_list : List Name
  whole_list = listed_of W sound pairs good W.functions.defs

  pub in_whole : (f : Name) (d : Definition) → find W.functions.defs f ≡ Some d → IsCovered W pairs f → is_in whole_list f ≡ true
  unfolding whole_list
  in_whole f d e c = listed_in W sound pairs good W.functions.defs f d e (c.covers d e)

  pub whole_closed : IsClosed W.functions.defs (whole_map W pairs) whole_list
  unfolding whole_list
  whole_closed = record {
    primitives = primitives_stay W sound pairs good;
    calls = λ f d i e. over_map Any Any _ _ (λ x p. p) (λ g k c d' h. listed_in W sound pairs good W.functions.defs g d' h (c.covers d' h)) d.body (imaged W sound pairs good f d e (in_listed W sound pairs good W.functions.defs f i)).callees;
    images = λ f d i e. (imaged W sound pairs good f d e (in_listed W sound pairs good W.functions.defs f i)).image_there;
  }

  pub whole_keeps : KeepsArities W.functions (whole_map W pairs)
  whole_keeps = arities_stay W sound pairs good

  -- a function without pairs of its own stays
  pub whole_stays : (f : Name) (d : Definition) → find W.functions.defs f ≡ Some d → own_pairs W pairs f ≡ [] → image (whole_map W pairs) f ≡ f
  whole_stays f d e none = image_defined W sound pairs good f d e ∙ ap (λ l. or_name f (recorded W f l)) none

  pub whole_covers : (f : Name) → own_pairs W pairs f ≡ [] → IsCovered W pairs f
  whole_covers f none = record { covers = λ d h. ap (λ l. is_some (recorded W f l)) none }

pub maps_are_part : MapsArePart
maps_are_part W sound begun distinct pairs fs m e =
    let mk = made W begun pairs fs m e in
    let good = mk.good distinct in
    record {
      whole = whole_map W pairs;
      listed = whole_list W sound pairs good;
      closed = whole_closed W sound pairs good;
      arities = whole_keeps W sound pairs good;
      inside = λ f d i n h. in_whole W sound pairs good f d h (made_covered W sound pairs good begun fs m mk.gives f i n);
      same = λ f i n. made_same W sound pairs good begun fs m mk.gives f i n;
    }
