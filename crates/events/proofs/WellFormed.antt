-- What an event defines is well formed.
use Rattle.std.proofs.Common.{◌≡◌, ℕ, Bool, true, false, cond, not, ◌&&◌, ◌||◌, List, [], ◌∷◌, length, bytes_eq, codes, nat_le, is_some, Option, Some, None, IfSome, Result, Ok, Err, if◌then◌else◌, refl, sym, ap, ◌∙◌, subst}
use Rattle.std.proofs.lemmas.Bool.{or_parts}
use Rattle.std.specs.List.{list_all}
use Rattle.lisp_data.specs.Values.{Name}
use Rattle.lisp_data.specs.Datum.{Datum}
use Rattle.lisp_data.specs.declared.detail.Detail.TheVariants as detail
use Rattle.terms.specs.Primitives.{Operation, primitive, primitives, lookup}
use Rattle.terms.specs.Terms.{Tm, Var, Quote, Call, Tms, Done, More}
use Rattle.terms.specs.Definitions.{find}
use Rattle.terms.specs.BuiltIn.{not_def, binary_append_def}
use Rattle.terms.specs.Worlds.{World, Functions, IsIn, is_in, Distinct, arity, arity_by, Fits}
use Rattle.terms.specs.Measures.{RecursiveCall, mentions, mentions_in, is_nested, is_nested_in, recursive_calls, call1}
use Rattle.measures.specs.Calls.{CallsTake}
use Rattle.measures.specs.DefaultMeasure.{changes, first_changed, count_of, default_measure}
use Rattle.measures.specs.declared.errors.MeasureError.{MeasureError}
use Rattle.measures.specs.declared.errors.MeasureError.TheVariants as measure
use Rattle.terms.specs.Formed.{with_def, IsWellFormed, FitsOver}
use Rattle.terms.specs.Sound.{Sound}
use Rattle.term_forms.specs.Translation.{Takes, and_then, map_outcome, distinct_after, translate}
use Rattle.term_forms.specs.TranslationLaws.{HasWords, TranslatedTermsFit}
use Rattle.terms.specs.declared.definition.Definition.{Definition}
use Rattle.evaluator.specs.Laws.{IsGround}
use Rattle.events.specs.ValueTriple.{ground_term}
use Rattle.terms.proofs.Extend.{over_map, arity_later}
use Rattle.terms.proofs.Later.{has_basics, has_append}
use Rattle.terms.proofs.Meaning.{arity_defined}
use Rattle.terms.proofs.Names.{same_name, name_self}
use Rattle.term_forms.specs.Names.{is_function_name}
use Rattle.worlds.specs.Names.{is_free}
use Rattle.worlds.proofs.Free.{free}
use Rattle.proof_texts.specs.Parts.{any}
use Rattle.event_forms.specs.declared.limits.TheConstants.{MAX_FORMALS}
use Rattle.events.proofs.Inversions.{then_ok, map_ok, if_ok, unless_ok}
use Rattle.lisp_data.specs.declared.code.Code.TheVariants as code
use Rattle.terms.specs.declared.entries.Specification.{Specification}
use Rattle.event_forms.specs.SecondOrder.{SpecificationParts}
use Rattle.event_forms.specs.Shapes.{FunctionParts}
use Rattle.events.specs.declared.orders.Order.{Order}
use Rattle.events.specs.declared.orders.Order.TheVariants.{Second}
use Rattle.events.specs.DefunSk2.{specification, specification_over, specification_of}
use Rattle.events.specs.Orders.{in_order}
use Rattle.events.specs.Definitions.{names_of, distinct, variables_of, formals_of, with_own, function, body_of, given_measure, by_default, or_default, measure_of, terms_of, definition_over, definition_of, new_name}

in_list : (ys : List Name) (x : Name) → is_in ys x ≡ true → IsIn ys x
in_list [] x e = cc
in_list (y ∷ ys) x e = by_test (bytes_eq y x) e (in_list ys x)
  where
    by_test : (b : Bool) → (b || is_in ys x) ≡ true → (is_in ys x ≡ true → IsIn ys x) → cond b (Unit {0}) (IsIn ys x)
    by_test true e' ih = tt
    by_test false e' ih = ih e'

out_list : (ys : List Name) (x : Name) → is_in ys x ≡ false → IsIn ys x → ⊥
out_list [] x e i = i
out_list (y ∷ ys) x e i = by_test (bytes_eq y x) e i (out_list ys x)
  where
    by_test : (b : Bool) → (b || is_in ys x) ≡ false → cond b (Unit {0}) (IsIn ys x) → (is_in ys x ≡ false → IsIn ys x → ⊥) → ⊥
    by_test true e' i' ih = cc
    by_test false e' i' ih = ih e' i'

-- names that are told apart from those before them
apart : (before xs : List Name) → distinct_after before xs ≡ Ok tt → (x : Name) → is_in before x ≡ true → IsIn xs x → ⊥
apart before [] h x seen i = i
apart before (y ∷ ys) h x seen i =
    let p = unless_ok (is_in before y) (distinct_after (y ∷ before) ys) (code.RepeatedFormal, detail.Name y) tt h in
    by_test (bytes_eq y x) refl p.0 i (apart (y ∷ before) ys p.1 x)
  where
    by_test : (b : Bool) → bytes_eq y x ≡ b → is_in before y ≡ false → cond b (Unit {0}) (IsIn ys x) → (is_in (y ∷ before) x ≡ true → IsIn ys x → ⊥) → ⊥
    by_test true q new i' ih = let same : y ≡ x = same_name y x q in absurd (cc (new, ap (is_in before) same, seen))
    by_test false q new i' ih = ih (ap (λ b. b || is_in before x) q ∙ seen) i'

all_distinct : (before xs : List Name) → distinct_after before xs ≡ Ok tt → Distinct xs
all_distinct before [] h = tt
all_distinct before (x ∷ xs) h =
    let p = unless_ok (is_in before x) (distinct_after (x ∷ before) xs) (code.RepeatedFormal, detail.Name x) tt h in
    (apart (x ∷ before) xs p.1 x (in_first x before), all_distinct (x ∷ before) xs p.1)
  where
    in_first : (x : Name) (ys : List Name) → is_in (x ∷ ys) x ≡ true
    in_first x ys = ap (λ b. b || is_in ys x) (name_self x)

formals_distinct : (forms : List Datum) (xs : List Name) → formals_of forms ≡ Ok xs → Distinct xs
formals_distinct forms xs e =
    let p = if_ok (nat_le (length forms) MAX_FORMALS) (variables_of forms) (code.BadForm, detail.Word (codes "formals")) xs e in
    let q = then_ok (names_of forms) distinct xs p.1 in
    let r = map_ok (distinct_after [] q.0) (λ _. q.0) xs q.2 in
    subst Distinct r.2 (all_distinct [] q.0 r.1)

-- the functions that words of the syntax stand for are functions of the world
pub words : (W : World) → Sound W → HasWords (arity W.functions)
unfolding primitive primitives
words W sound = record {
  has_if = refl;
  has_equal = refl;
  has_not = arity_defined W.functions sound.formed (codes "NOT") not_def (has_basics W sound).has_not;
  has_less = refl;
  has_plus = refl;
  has_times = refl;
  has_minus = refl;
  has_cons = refl;
  has_car = refl;
  has_cdr = refl;
  has_append = arity_defined W.functions sound.formed (codes "BINARY-APPEND") binary_append_def (has_append W sound);
}

-- a new function beside them
own_other : (f : Name) (n : ℕ) (takes : Takes) (g : Name) (k : ℕ) → takes f ≡ None → takes g ≡ Some k → with_own f n takes g ≡ Some k
own_other f n takes g k none h = by_test (bytes_eq f g) refl
  where
    by_test : (b : Bool) → bytes_eq f g ≡ b → (if b then Some n else takes g) ≡ Some k
    by_test true q = absurd (cc (ap takes (same_name f g q), none, h))
    by_test false q = h

own_words : (W : World) → Sound W → (f : Name) (n : ℕ) → arity W.functions f ≡ None → HasWords (with_own f n (arity W.functions))
own_words W sound f n none =
    let A = arity W.functions in
    let w = words W sound in
    record {
      has_if = own_other f n A (codes "IF") 3 none w.has_if;
      has_equal = own_other f n A (codes "EQUAL") 2 none w.has_equal;
      has_not = own_other f n A (codes "NOT") 1 none w.has_not;
      has_less = own_other f n A (codes "<") 2 none w.has_less;
      has_plus = own_other f n A (codes "BINARY-+") 2 none w.has_plus;
      has_times = own_other f n A (codes "BINARY-*") 2 none w.has_times;
      has_minus = own_other f n A (codes "UNARY--") 1 none w.has_minus;
      has_cons = own_other f n A (codes "CONS") 2 none w.has_cons;
      has_car = own_other f n A (codes "CAR") 1 none w.has_car;
      has_cdr = own_other f n A (codes "CDR") 1 none w.has_cdr;
      has_append = own_other f n A (codes "BINARY-APPEND") 2 none w.has_append;
    }

mutual
  not_nested : (f : Name) (t : Tm) → mentions f t ≡ false → is_nested f t ≡ false
  not_nested f (Var x) e = refl
  not_nested f (Quote v) e = refl
  not_nested f (Call g ts) e =
      let p = or_parts (bytes_eq f g) (mentions_in f ts) e in
      ap (λ b. (b && mentions_in f ts) || is_nested_in f ts) p.0 ∙ none_nested f ts p.1

  none_nested : (f : Name) (ts : Tms) → mentions_in f ts ≡ false → is_nested_in f ts ≡ false
  none_nested f Done e = refl
  none_nested f (More t ts) e =
      let p = or_parts (mentions f t) (mentions_in f ts) e in
      ap (λ b. b || is_nested_in f ts) (not_nested f t p.0) ∙ none_nested f ts p.1

-- the new function has its own number of arguments
own_name : (F : Functions) (d : Definition) → arity F d.name ≡ None → arity (with_def F d) d.name ≡ Some (length d.formals)
own_name F d none =
    ap (λ p. arity_by p (find (d ∷ F.defs) d.name) (lookup F.vars d.name)) (no_primitive (primitive d.name) (find F.defs d.name) (lookup F.vars d.name) none)
    ∙ ap (λ b. arity_by None (cond b (Some d) (find F.defs d.name)) (lookup F.vars d.name)) (name_self d.name)
  where
    no_primitive : (p : Option Operation) (q : Option Definition) (r : Option ℕ) → arity_by p q r ≡ None → p ≡ None
    no_primitive None q r h = refl
    no_primitive (Some p) q r h = cc

-- what may be called in the body is a function of the world with the new one
own_arity : (F : Functions) (d : Definition) → arity F d.name ≡ None → (g : Name) (k : ℕ) → with_own d.name (length d.formals) (arity F) g ≡ Some k → arity (with_def F d) g ≡ Some k
own_arity F d none g k h = by_test (bytes_eq d.name g) refl h
  where
    by_test : (b : Bool) → bytes_eq d.name g ≡ b → (if b then Some (length d.formals) else arity F g) ≡ Some k → arity (with_def F d) g ≡ Some k
    by_test true q e = ap (arity (with_def F d)) (sym (same_name d.name g q)) ∙ own_name F d none ∙ e
    by_test false q e = arity_later F d none g k e

-- the first formal that calls change is a formal
first_is_in : (formals vs : List Name) (cs : List RecursiveCall) (v : Name) → first_changed formals cs vs ≡ Some v → IsIn vs v
first_is_in formals [] cs v e = absurd (cc)
first_is_in formals (u ∷ us) cs v e = by_test (list_all (changes formals u) cs) e (first_is_in formals us cs v)
  where
    by_test : (b : Bool) → cond b (Some u) (first_changed formals cs us) ≡ Some v → (first_changed formals cs us ≡ Some v → IsIn us v) → IsIn (u ∷ us) v
    by_test true h ih = let same : u ≡ v = cc in here u v (ap (bytes_eq u) (sym same) ∙ name_self u)
      where
        here : (x y : Name) → bytes_eq x y ≡ true → IsIn (x ∷ us) y
        here x y q = by_eq (bytes_eq x y) q
          where
            by_eq : (b : Bool) → b ≡ true → cond b (Unit {0}) (IsIn us y)
            by_eq true r = tt
            by_eq false r = absurd (cc)
    by_test false h ih = later (bytes_eq u v) (ih h)
      where
        later : (b : Bool) → IsIn us v → cond b (Unit {0}) (IsIn us v)
        later true h' = tt
        later false h' = h'

-- a measure over the formals, in the functions of a world
abbrev pub FitsMeasure : Functions → List Name → Option Tm → Type 0
FitsMeasure F xs m = IfSome m (FitsOver F xs)

-- the measure by default
default_fits : (F : Functions) (f : Name) (xs : List Name) (t m : Tm) → default_measure f xs t ≡ Ok m → FitsOver F xs m
unfolding primitive primitives
default_fits F f xs t m e = by_test (is_nested f t) e
  where
    by_first : (o : Option Name) → first_changed xs (recursive_calls f [] t) xs ≡ o → count_of o ≡ Ok m → FitsOver F xs m
    by_first None is h = absurd (cc)
    by_first (Some v) is h =
        let same : call1 (codes "ACL2-COUNT") (Var v) ≡ m = cc in
        subst (FitsOver F xs) same (refl, (first_is_in xs xs (recursive_calls f [] t) v is, tt))

    by_test : (b : Bool) → cond b (Err measure.Nested) (count_of (first_changed xs (recursive_calls f [] t) xs)) ≡ Ok m → FitsOver F xs m
    by_test true h = absurd (cc)
    by_test false h = by_first (first_changed xs (recursive_calls f [] t) xs) refl h

-- what is asked of a function's measure
pub record IsMeasured (F : Functions) (f : Name) (xs : List Name) (t : Tm) (m : Option Tm) : Type 0 where
  pub fits : FitsMeasure F xs m
  pub measured : mentions f t ≡ true → is_some m ≡ true
  pub flat : is_nested f t ≡ false

measure_fits : (F : Functions) (f : Name) (xs : List Name) (t : Tm) (given m : Option Tm) → FitsMeasure F xs given → measure_of f xs t given ≡ Ok m → IsMeasured F f xs t m
measure_fits F f xs t given m fits e = by_test (mentions f t) refl e
  where
    by_outcome : (r : Result Tm MeasureError) → default_measure f xs t ≡ r → by_default f r ≡ Ok m → is_nested f t ≡ false → IsMeasured F f xs t m
    by_outcome (Ok d) is h flat =
        let same : Some d ≡ m = cc in
        subst (IsMeasured F f xs t) same (record { fits = default_fits F f xs t d is; measured = λ _. refl; flat = flat })
    by_outcome (Err measure.Nested) is h flat = absurd (cc)
    by_outcome (Err measure.NoMeasure) is h flat = absurd (cc)
    by_outcome (Err measure.Memory) is h flat = absurd (cc)

    by_given : (o : Option Tm) → FitsMeasure F xs o → or_default f xs t o ≡ Ok m → is_nested f t ≡ false → IsMeasured F f xs t m
    by_given None ok h flat = by_outcome (default_measure f xs t) refl h flat
    by_given (Some d) ok h flat = let same : Some d ≡ m = cc in subst (IsMeasured F f xs t) same (record { fits = ok; measured = λ _. refl; flat = flat })

    by_test : (b : Bool) → mentions f t ≡ b → (if not b then Ok None else if is_nested f t then Err (code.NestedRecursion, detail.Name f) else or_default f xs t given) ≡ Ok m → IsMeasured F f xs t m
    by_test false is h =
        let same : None ≡ m = cc in
        subst (IsMeasured F f xs t) same (record { fits = tt; measured = λ c. absurd (cc (is, c)); flat = not_nested f t is })
    by_test true is h =
        let p = unless_ok (is_nested f t) (or_default f xs t given) (code.NestedRecursion, detail.Name f) m h in
        by_given given fits p.1 p.0

-- a definition that a world can take
pub record IsTakeable (W : World) (f : Name) (d : Definition) : Type 0 where
  pub named : d.name ≡ f
  pub well_formed : IsWellFormed W.functions d

-- a definition whose obligations can be told
pub record CanOwe (d : Definition) : Type 0 where
  pub distinct : Distinct d.formals
  pub arity : CallsTake d.name (length d.formals) d.body
  pub flat : is_nested d.name d.body ≡ false

pub can_owe : (F : Functions) (d : Definition) → arity F d.name ≡ None → IsWellFormed F d → CanOwe d
can_owe F d none ok = record {
  distinct = ok.formals;
  arity = over_map (IsIn d.formals) (λ x. Unit {0}) (λ g k. arity (with_def F d) g ≡ Some k) (λ g k. g ≡ d.name → k ≡ length d.formals) (λ x h. tt) own_calls d.body ok.body;
  flat = ok.flat;
}
  where
    own_calls : (g : Name) (k : ℕ) → arity (with_def F d) g ≡ Some k → g ≡ d.name → k ≡ length d.formals
    own_calls g k h same = let own : Some (length d.formals) ≡ Some k = sym (own_name F d none) ∙ ap (arity (with_def F d)) (sym same) ∙ h in cc

-- a specification that a world can take
pub record IsSpecified (W : World) (n : Name) (s : Specification) : Type 0 where
  pub named : s.name ≡ n
  pub fits : FitsOver W.functions s.variables s.matrix

module _ (fit : TranslatedTermsFit) (W : World) (sound : Sound W) where
  -- a term over some variables
  fits_over : (xs : List Name) (form : Datum) (t : Tm) → translate (arity W.functions) (is_in xs) form ≡ Ok t → FitsOver W.functions xs t
  fits_over xs form t e =
      let A = arity W.functions in
      over_map (λ x. is_in xs x ≡ true) (IsIn xs) (λ g k. A g ≡ Some k) (λ g k. A g ≡ Some k) (in_list xs) (λ g k h. h) t (fit A (words W sound) (is_in xs) form t e).fits

  -- the measure that is given
  given_fits : (xs : List Name) (form : Option Datum) (given : Option Tm) → given_measure W xs form ≡ Ok given → FitsMeasure W.functions xs given
  given_fits xs None given e = let same : None ≡ given = cc in subst (FitsMeasure W.functions xs) same tt
  given_fits xs (Some form) given e =
      let A = arity W.functions in
      let m = map_ok (translate A (is_in xs) form) Some given e in
      subst (FitsMeasure W.functions xs) m.2 (fits_over xs form m.0 m.1)

  pub takeable : (order : Order) (p : FunctionParts) → is_free W p.name ≡ true → (d : Definition) → definition_of W order p ≡ Ok d → IsTakeable W p.name d
  takeable order p is d e =
      let F = W.functions in
      let f = p.name in
      let unused = (free W f is).no_function in
      let q = then_ok (formals_of p.formals) (definition_over W order p) d e in
      let xs = q.0 in
      let takes = with_own f (length xs) (arity F) in
      let b = then_ok (body_of W f xs p.body) (λ body. and_then (given_measure W xs p.measure) (λ given. and_then (in_order W order (terms_of body given)) (λ _. map_outcome (function f xs body) (measure_of f xs body given)))) d q.2 in
      let t = b.0 in
      let g = then_ok (given_measure W xs p.measure) (λ given. and_then (in_order W order (terms_of t given)) (λ _. map_outcome (function f xs t) (measure_of f xs t given))) d b.2 in
      let o = then_ok (in_order W order (terms_of t g.0)) (λ _. map_outcome (function f xs t) (measure_of f xs t g.0)) d g.2 in
      let m = map_ok (measure_of f xs t g.0) (function f xs t) d o.2 in
      let measured = measure_fits F f xs t g.0 m.0 (given_fits xs p.measure g.0 g.1) m.1 in
      let over = (fit takes (own_words W sound f (length xs) unused) (is_in xs) p.body t b.1).fits in
      subst (IsTakeable W f) m.2 (record {
        named = refl {a = f};
        well_formed = record {
          formals = formals_distinct p.formals xs q.1;
          body = over_map (λ x. is_in xs x ≡ true) (IsIn xs) (λ g k. takes g ≡ Some k) (λ g k. arity (with_def F (function f xs t m.0)) g ≡ Some k) (in_list xs) (λ g k h. own_arity F (function f xs t m.0) unused g k h) t over;
          measure = measured.fits;
          measured = measured.measured;
          flat = measured.flat;
        };
      })

  pub specified : (p : SpecificationParts) (s : Specification) → specification_of W p ≡ Ok s → IsSpecified W p.name s
  specified p s e =
      let q = then_ok (variables_of p.variables) (specification_over W p) s e in
      let xs = q.0 in
      let m = then_ok (translate (arity W.functions) (is_in xs) p.matrix) (λ matrix. map_outcome (λ _. specification p.name xs matrix) (in_order W Second (matrix ∷ []))) s q.2 in
      let o = map_ok (in_order W Second (m.0 ∷ [])) (λ _. specification p.name xs m.0) s m.2 in
      subst (IsSpecified W p.name) o.2 (record { named = refl {a = p.name}; fits = fits_over xs p.matrix m.0 m.1 })

  -- the formula of a theorem fits the world
  pub formula_fits : (form : Datum) (t : Tm) → translate (arity W.functions) any form ≡ Ok t → Fits W.functions t
  formula_fits form t e =
      over_map (λ x. any x ≡ true) (λ x. Unit {0}) _ _ (λ x p. tt) (λ g k h. h) t (fit (arity W.functions) (words W sound) any form t e).fits

  -- the term of a form without variables is ground
  pub is_ground : (form : Datum) (t : Tm) → ground_term W form ≡ Ok t → IsGround W.functions t
  is_ground form t e =
      over_map (λ x. is_in [] x ≡ true) (λ x. ⊥) _ _ (λ x p. cc) (λ g k h. h) t (fit (arity W.functions) (words W sound) (is_in []) form t e).fits

-- a name that may be given is free
pub name_is_free : (W : World) (f : Name) → new_name W f ≡ Ok tt → is_free W f ≡ true
name_is_free W f e =
    let p = if_ok (is_function_name f) (if is_free W f then Ok tt else Err (code.NameTaken, detail.Name f)) (code.BadForm, detail.Word (codes "name")) tt e in
    (if_ok (is_free W f) (Ok tt) (code.NameTaken, detail.Name f) tt p.1).0
