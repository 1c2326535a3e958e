-- Tests that a definition is well formed and that names are distinct, for lists that are written out.
use Rattle.std.proofs.Common.{◌≡◌, ℕ, Bool, true, false, cond, not, ◌&&◌, ◌||◌, List, [], ◌∷◌, is_some, is_none, nat_eq, bytes_eq, Option, Some, None, IfSome, refl, ap, subst}
use Rattle.std.proofs.lemmas.Bool.{and_parts, not-true, eqb-true}
use Rattle.lisp_data.specs.Values.{Name}
use Rattle.terms.specs.Terms.{Tm, Var, Quote, Call, Tms, Done, More, count, OverAll}
use Rattle.terms.specs.declared.definition.Definition.{Definition}
use Rattle.terms.specs.Worlds.{Functions, Each, IsIn, is_in, Distinct, arity}
use Rattle.terms.specs.Measures.{mentions, is_nested}
use Rattle.terms.specs.Formed.{with_def, functions, FitsOver, IsFormed, AllFormed}
use Rattle.terms.proofs.Names.{same_name}

abbrev pub has_arity : Option ℕ → ℕ → Bool
has_arity None k = false
has_arity (Some n) k = nat_eq n k

abbrev mutual
  pub fits_over : Functions → List Name → Tm → Bool
  fits_over W formals (Var a) = is_in formals a
  fits_over W formals (Quote v) = true
  fits_over W formals (Call f ts) = has_arity (arity W f) (count ts) && all_fit_over W formals ts

  pub all_fit_over : Functions → List Name → Tms → Bool
  all_fit_over W formals Done = true
  all_fit_over W formals (More a ts) = fits_over W formals a && all_fit_over W formals ts

abbrev pub measure_fits : Functions → List Name → Option Tm → Bool
measure_fits W formals None = true
measure_fits W formals (Some m) = fits_over W formals m

abbrev pub are_distinct : List Name → Bool
are_distinct [] = true
are_distinct (a ∷ xs) = not (is_in xs a) && are_distinct xs

-- what is well formed of a definition whose name is new, but for what a recursive one needs
abbrev pub is_formed : Functions → Definition → Bool
is_formed W d =
    is_none (arity W d.name) && (are_distinct d.formals && (fits_over (with_def W d) d.formals d.body && (measure_fits W d.formals d.measure && ((not (mentions d.name d.body) || is_some d.measure) && not (is_nested d.name d.body)))))

abbrev pub all_formed : List Definition → Bool
all_formed [] = true
all_formed (d ∷ ds) = is_formed (functions [] ds) d && all_formed ds

abbrev pub none_recursive : List Definition → Bool
none_recursive [] = true
none_recursive (d ∷ ds) = not (mentions d.name d.body) && none_recursive ds

in_list : (ys : List Name) (x : Name) → is_in ys x ≡ true → IsIn ys x
in_list [] x e = cc
in_list (y ∷ ys) x e = by_test (bytes_eq y x) e (in_list ys x)
  where
    by_test : (b : Bool) → (b || is_in ys x) ≡ true → (is_in ys x ≡ true → IsIn ys x) → cond b (Unit {0}) (IsIn ys x)
    by_test true e' ih = tt
    by_test false e' ih = ih e'

out_list : (ys : List Name) (x : Name) → is_in ys x ≡ false → IsIn ys x → ⊥
out_list [] x e i = i
out_list (y ∷ ys) x e i = by_test (bytes_eq y x) e i (out_list ys x)
  where
    by_test : (b : Bool) → (b || is_in ys x) ≡ false → cond b (Unit {0}) (IsIn ys x) → (is_in ys x ≡ false → IsIn ys x → ⊥) → ⊥
    by_test true e' i' ih = cc
    by_test false e' i' ih = ih e' i'

pub distinct : (ys : List Name) → are_distinct ys ≡ true → Distinct ys
distinct [] e = tt
distinct (y ∷ ys) e = let h = and_parts (not (is_in ys y)) (are_distinct ys) e in (out_list ys y (not-true (is_in ys y) h.0), distinct ys h.1)

-- what holds of each name holds of one that is among them
pub each_in : (P : Name → Type 0) (ys : List Name) → Each P ys → (f : Name) → IsIn ys f → P f
each_in P [] h f i = absurd i
each_in P (y ∷ ys) h f i = by_test (bytes_eq y f) refl i (each_in P ys h.1 f)
  where
    by_test : (b : Bool) → bytes_eq y f ≡ b → cond b (Unit {0}) (IsIn ys f) → (IsIn ys f → P f) → P f
    by_test true e i' ih = subst P (same_name y f e) h.0
    by_test false e i' ih = ih i'

has_arity_is : (o : Option ℕ) (k : ℕ) → has_arity o k ≡ true → o ≡ Some k
has_arity_is None k e = cc
has_arity_is (Some n) k e = ap Some (eqb-true n k e)

module _ (W : Functions) (formals : List Name) where
  mutual
    pub over_true : (t : Tm) → fits_over W formals t ≡ true → FitsOver W formals t
    over_true (Var x) e = in_list formals x e
    over_true (Quote v) e = tt
    over_true (Call f ts) e =
        let h = and_parts (has_arity (arity W f) (count ts)) (all_fit_over W formals ts) e in
        (has_arity_is (arity W f) (count ts) h.0, over_all_true ts h.1)

    pub over_all_true : (ts : Tms) → all_fit_over W formals ts ≡ true → OverAll (IsIn formals) (λ f k. arity W f ≡ Some k) ts
    over_all_true Done e = tt
    over_all_true (More t ts) e = let h = and_parts (fits_over W formals t) (all_fit_over W formals ts) e in (over_true t h.0, over_all_true ts h.1)

none_is : {A : Type 0} (o : Option A) → is_none o ≡ true → o ≡ None
none_is None e = refl
none_is (Some x) e = cc

pub formed : (W : Functions) (d : Definition) → is_formed W d ≡ true → IsFormed W d
formed W d e =
    let a = and_parts (is_none (arity W d.name)) _ e in
    let b = and_parts (are_distinct d.formals) _ a.1 in
    let c = and_parts (fits_over (with_def W d) d.formals d.body) _ b.1 in
    let m = and_parts (measure_fits W d.formals d.measure) _ c.1 in
    let r = and_parts (not (mentions d.name d.body) || is_some d.measure) _ m.1 in
    record {
      fresh = none_is (arity W d.name) a.0;
      formals = distinct d.formals b.0;
      body = over_true (with_def W d) d.formals d.body c.0;
      measure = measure_true d.measure m.0;
      measured = λ h. measured (mentions d.name d.body) (is_some d.measure) h r.0;
      flat = not-true (is_nested d.name d.body) r.1;
    }
  where
    measure_true : (o : Option Tm) → measure_fits W d.formals o ≡ true → IfSome o (FitsOver W d.formals)
    measure_true None h = tt
    measure_true (Some m) h = over_true W d.formals m h

    measured : (x y : Bool) → x ≡ true → (not x || y) ≡ true → y ≡ true
    measured true y h k = k
    measured false y h k = cc

pub formed_all : (ds : List Definition) → all_formed ds ≡ true → AllFormed [] ds
formed_all [] e = tt
formed_all (d ∷ ds) e =
    let h = and_parts (is_formed (functions [] ds) d) (all_formed ds) e in
    (formed (functions [] ds) d h.0, formed_all ds h.1)
