-- A value that is there stays, with more depth, and where actions and environments give at least as much.
use Rattle.std.proofs.Common.{◌≡◌, ℕ, zero, suc, ◌≤◌, Bool, true, false, cond, List, [], ◌∷◌, length, bytes_eq, nat_eq, codes, Option, Some, None, refl, sym, ap, ◌∙◌, subst, arith}
use Rattle.lisp_data.specs.Values.{Name, Val}
use Rattle.terms.specs.Primitives.{Operation, operate, primitive, is_nil}
use Rattle.terms.specs.Terms.{Tm, Var, Quote, Call, Tms, Done, More, count, Over, OverAll}
use Rattle.terms.specs.declared.definition.Definition.{Definition}
use Rattle.terms.specs.Definitions.{find, Interp, Empty, Entry}
use Rattle.terms.specs.Evaluation.{Env, Action, bind, then_with, all_of, branch, value, values, Runner, resolve, variable, action, below, apply, eval}

-- b has the value that a has, if a has one
abbrev pub Below : {A : Type 0} → Option A → Option A → Type 0
Below None b = Unit {0}
Below (Some x) b = b ≡ Some x

pub below_use : {A : Type 0} (a b : Option A) (x : A) → Below a b → a ≡ Some x → b ≡ Some x
below_use a b x h e = subst (λ o. Below o b) e h

pub below_from : {A : Type 0} (a b : Option A) → ((x : A) → a ≡ Some x → b ≡ Some x) → Below a b
below_from None b h = tt
below_from (Some x) b h = h x refl

pub below_self : {A : Type 0} (a : Option A) → Below a a
below_self None = tt
below_self (Some x) = refl

pub below_equal : {A : Type 0} (a b : Option A) → a ≡ b → Below a b
below_equal a b e = subst (Below a) e (below_self a)

pub below_then : {A B : Type 0} (a b : Option A) (k l : A → Option B) → Below a b → ((x : A) → a ≡ Some x → Below (k x) (l x)) → Below (then_with a k) (then_with b l)
below_then None b k l h g = tt
below_then (Some x) b k l h g = subst (λ o. Below (k x) (then_with o l)) (sym h) (g x refl)

pub below_cond : {A : Type 0} (t : Bool) (a b c d : Option A) → Below a b → Below c d → Below (cond t a c) (cond t b d)
below_cond true a b c d h g = h
below_cond false a b c d h g = g

-- pointwise
abbrev pub AllBelow : List (Option Val) → List (Option Val) → Type 0
AllBelow [] [] = Unit {0}
AllBelow [] (q ∷ qs) = ⊥
AllBelow (p ∷ ps) [] = ⊥
AllBelow (p ∷ ps) (q ∷ qs) = Below p q × AllBelow ps qs

below_all_of : (ps qs : List (Option Val)) → AllBelow ps qs → Below (all_of ps) (all_of qs)
below_all_of [] [] h = refl
below_all_of [] (q ∷ qs) h = absurd h
below_all_of (p ∷ ps) [] h = absurd h
below_all_of (p ∷ ps) (q ∷ qs) h =
    below_then p q _ _ h.0 (λ v e. below_then (all_of ps) (all_of qs) _ _ (below_all_of ps qs h.1) (λ vs e'. refl))

pub below_branch : (ps qs : List (Option Val)) → AllBelow ps qs → Below (branch ps) (branch qs)
below_branch [] qs h = tt
below_branch (a ∷ []) qs h = tt
below_branch (a ∷ b ∷ []) qs h = tt
below_branch (a ∷ b ∷ c ∷ d ∷ ps) qs h = tt
below_branch (a ∷ b ∷ c ∷ []) [] h = absurd h
below_branch (a ∷ b ∷ c ∷ []) (x ∷ []) h = absurd h.1
below_branch (a ∷ b ∷ c ∷ []) (x ∷ y ∷ []) h = absurd h.1.1
below_branch (a ∷ b ∷ c ∷ []) (x ∷ y ∷ z ∷ w ∷ qs) h = absurd h.1.1.1
below_branch (a ∷ b ∷ c ∷ []) (x ∷ y ∷ z ∷ []) h =
    below_then a x _ _ h.0 (λ v e. below_cond (is_nil v) c z b y h.1.1.0 h.1.0)

-- as many values as there were
pub all_of-length : (os : List (Option Val)) (vs : List Val) → all_of os ≡ Some vs → length vs ≡ length os
all_of-length [] [] e = refl
all_of-length [] (v ∷ vs) e = cc
all_of-length (None ∷ os) vs e = cc
all_of-length (Some v ∷ os) vs e = with_rest (λ ws. all_of-length os ws) (all_of os) refl e
  where
    with_rest : ((ws : List Val) → all_of os ≡ Some ws → length ws ≡ length os) → (r : Option (List Val)) → all_of os ≡ r → then_with r (λ ws. Some (v ∷ ws)) ≡ Some vs → length vs ≡ suc (length os)
    with_rest ih None e' h = cc
    with_rest ih (Some ws) e' h = let same : v ∷ ws ≡ vs = cc in sym (ap length same) ∙ ap suc (ih ws e')

pub values-length : (ap : Action) (ts : Tms) (env : Env) → length (values ap ts env) ≡ count ts
values-length ap Done env = refl
values-length ap (More t ts) env = let e = values-length ap ts env in cc

module _ (P : Name → Type 0) (Q : Name → ℕ → Type 0) (ap ap' : Action) (env env' : Env)
    (more : (f : Name) (vs : List Val) → Q f (length vs) → Below (ap f vs) (ap' f vs))
    (same : (x : Name) → P x → Below (env x) (env' x)) where
  mutual
    pub below_value : (t : Tm) → Over P Q t → Below (value ap t env) (value ap' t env')
    below_value (Var x) o = same x o
    below_value (Quote v) o = refl
    below_value (Call f ts) o =
        below_cond (bytes_eq (codes "IF") f) _ _ _ _
        (below_branch (values ap ts env) (values ap' ts env') (below_values ts o.1))
        (below_then (all_of (values ap ts env)) (all_of (values ap' ts env')) (ap f) (ap' f)
        (below_all_of (values ap ts env) (values ap' ts env') (below_values ts o.1))
        (λ vs e. more f vs (subst (Q f) (sym (all_of-length (values ap ts env) vs e ∙ values-length ap ts env)) o.0)))

    pub below_values : (ts : Tms) → OverAll P Q ts → AllBelow (values ap ts env) (values ap' ts env')
    below_values Done o = tt
    below_values (More t ts) o = (below_value t o.0, below_values ts o.1)

-- each term
abbrev pub Any : Name → Type 0
Any x = Unit {0}

abbrev pub AnyCall : Name → ℕ → Type 0
AnyCall f k = Unit {0}

mutual
  pub over_any : (t : Tm) → Over Any AnyCall t
  over_any (Var x) = tt
  over_any (Quote v) = tt
  over_any (Call f ts) = (tt, over_all_any ts)

  pub over_all_any : (ts : Tms) → OverAll Any AnyCall ts
  over_all_any Done = tt
  over_all_any (More t ts) = (over_any t, over_all_any ts)

below_resolve : (p : Option Operation) (d : Option Definition) (run run' : Tm → Env → Option Val) (o o' : Option Val) (vs : List Val) → ((t : Tm) (env : Env) → Below (run t env) (run' t env)) → Below o o' → Below (resolve p d run o vs) (resolve p d run' o' vs)
below_resolve (Some p) d run run' o o' vs h g = below_self (operate p vs)
below_resolve None (Some d) run run' o o' vs h g = below_cond (nat_eq (length d.formals) (length vs)) _ _ None None (h d.body (bind d.formals vs)) tt
below_resolve None None run run' o o' vs h g = g

module _ (r r' : Runner) (h : (ds : List Definition) (I : Interp) (t : Tm) (env : Env) → Below (r ds I t env) (r' ds I t env)) where
  pub below_variable : (I : Interp) (f : Name) (vs : List Val) → Below (variable r I f vs) (variable r' I f vs)
  below_variable Empty f vs = tt
  below_variable (Entry x ds g inner rest) f vs =
      below_cond (bytes_eq x f) _ _ _ _
      (below_resolve (primitive g) (find ds g) (r ds inner) (r' ds inner) _ _ vs (h ds inner) (below_variable inner g vs))
      (below_variable rest f vs)

  pub below_action : (ds : List Definition) (I : Interp) (f : Name) (vs : List Val) → Below (action r ds I f vs) (action r' ds I f vs)
  below_action ds I f vs = below_resolve (primitive f) (find ds f) (r ds I) (r' ds I) _ _ vs (h ds I) (below_variable I f vs)

-- a value at n is the value at each larger n
pub below_deeper : (n m : ℕ) → n ≤ m → (ds : List Definition) (I : Interp) (t : Tm) (env : Env) → Below (below n ds I t env) (below m ds I t env)
below_deeper zero m le ds I t env = tt
below_deeper (suc n) zero le ds I t env = absurd (omega arith)
below_deeper (suc n) (suc m) le ds I t env =
    below_value Any AnyCall (action (below n) ds I) (action (below m) ds I) env env
    (λ f vs q. below_action (below n) (below m) (below_deeper n m (omega arith)) ds I f vs)
    (λ x p. below_self (env x))
    t (over_any t)

pub apply_deeper : (n m : ℕ) → n ≤ m → (ds : List Definition) (I : Interp) (f : Name) (vs : List Val) → Below (apply n ds I f vs) (apply m ds I f vs)
apply_deeper n m le ds I f vs = below_action (below n) (below m) (below_deeper n m le) ds I f vs

pub variable_deeper : (n m : ℕ) → n ≤ m → (I : Interp) (f : Name) (vs : List Val) → Below (variable (below n) I f vs) (variable (below m) I f vs)
variable_deeper n m le I f vs = below_variable (below n) (below m) (below_deeper n m le) I f vs

pub eval_deeper : (n m : ℕ) → n ≤ m → (ds : List Definition) (I : Interp) (t : Tm) (env : Env) → Below (eval n ds I t env) (eval m ds I t env)
eval_deeper n m le ds I t env = below_deeper (suc n) (suc m) (omega arith) ds I t env
