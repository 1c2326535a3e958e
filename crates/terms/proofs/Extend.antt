-- A term that fits a world keeps its values where a definition of a fresh name is added.
use Rattle.std.proofs.Common.{◌≡◌, ℕ, zero, suc, Bool, true, false, cond, List, [], ◌∷◌, length, bytes_eq, nat_eq, Option, Some, None, refl, sym, ap, ◌∙◌, subst}
use Rattle.lisp_data.specs.Values.{Name, Val}
use Rattle.terms.specs.Primitives.{Operation, primitive, lookup}
use Rattle.terms.specs.Terms.{Tm, Var, Quote, Call, Tms, Done, More, count, Over, OverAll}
use Rattle.terms.specs.declared.definition.Definition.{Definition}
use Rattle.terms.specs.Definitions.{find, Interp}
use Rattle.terms.specs.Evaluation.{Env, bind, resolve, variable, action, below, apply, eval}
use Rattle.terms.specs.Worlds.{Functions, arity, arity_by, IsIn}
use Rattle.terms.specs.Formed.{with_def, FitsOver, functions, AllFormed}
use Rattle.terms.proofs.Names.{name_apart}
use Rattle.terms.proofs.Below.{Any, Below, below_self, below_value, below_equal}

-- what holds of variables and calls by weaker tests
module _ (P P' : Name → Type 0) (Q Q' : Name → ℕ → Type 0) (p : (x : Name) → P x → P' x) (q : (f : Name) (k : ℕ) → Q f k → Q' f k) where
  mutual
    pub over_map : (t : Tm) → Over P Q t → Over P' Q' t
    over_map (Var x) o = p x o
    over_map (Quote v) o = tt
    over_map (Call f ts) o = (q f (count ts) o.0, over_all_map ts o.1)

    pub over_all_map : (ts : Tms) → OverAll P Q ts → OverAll P' Q' ts
    over_all_map Done o = tt
    over_all_map (More t ts) o = (over_map t o.0, over_all_map ts o.1)

pub below_both : {A : Type 0} (a b : Option A) → Below a b → Below b a → a ≡ b
below_both None None h g = refl
below_both None (Some y) h g = g
below_both (Some x) b h g = sym h

-- two lists of definitions that agree on the names N, whose bodies call only such names
module _ (I : Interp) (N : Name → ℕ → Type 0) (ds ds' : List Definition)
    (same : (f : Name) (k : ℕ) → N f k → primitive f ≡ None → find ds' f ≡ find ds f)
    (closed : (f : Name) (k : ℕ) → N f k → primitive f ≡ None → (d : Definition) → find ds f ≡ Some d → Over (IsIn d.formals) N d.body) where
  resolve_same : (p : Option Operation) (d d' : Option Definition) (run run' : Tm → Env → Option Val) (o : Option Val) (vs : List Val) → (p ≡ None → d' ≡ d) → ((e : Definition) → p ≡ None → d ≡ Some e → (env : Env) → run e.body env ≡ run' e.body env) → resolve p d run o vs ≡ resolve p d' run' o vs
  resolve_same (Some p) d d' run run' o vs e h = refl
  resolve_same None (Some d) d' run run' o vs e h =
      ap (λ r. cond (nat_eq (length d.formals) (length vs)) r None) (h d refl refl (bind d.formals vs))
      ∙ ap (λ x. resolve None x run' o vs) (sym (e refl))
  resolve_same None None d' run run' o vs e h = ap (λ x. resolve None x run' o vs) (sym (e refl))

  action_by : (n : ℕ) → ((t : Tm) (env : Env) → Over Any N t → below n ds I t env ≡ below n ds' I t env) → (f : Name) (k : ℕ) → N f k → (vs : List Val) → action (below n) ds I f vs ≡ action (below n) ds' I f vs
  action_by n ih f k q vs =
      resolve_same (primitive f) (find ds f) (find ds' f) (below n ds I) (below n ds' I) (variable (below n) I f vs) vs
      (same f k q)
      (λ d e found env. ih d.body env (over_map (IsIn d.formals) Any N N (λ x p. tt) (λ g j r. r) d.body (closed f k q e d found)))

  pub below_same : (n : ℕ) (t : Tm) (env : Env) → Over Any N t → below n ds I t env ≡ below n ds' I t env
  below_same zero t env o = refl
  below_same (suc n) t env o =
      below_both _ _
      (below_value Any N (action (below n) ds I) (action (below n) ds' I) env env
      (λ f vs q. below_equal _ _ (action_by n (below_same n) f (length vs) q vs)) (λ x p. below_self (env x)) t o)
      (below_value Any N (action (below n) ds' I) (action (below n) ds I) env env
      (λ f vs q. below_equal _ _ (sym (action_by n (below_same n) f (length vs) q vs))) (λ x p. below_self (env x)) t o)

  pub apply_same : (n : ℕ) (f : Name) (k : ℕ) → N f k → (vs : List Val) → apply n ds I f vs ≡ apply n ds' I f vs
  apply_same n = action_by n (below_same n)

  pub eval_same : (n : ℕ) (t : Tm) (env : Env) → Over Any N t → eval n ds I t env ≡ eval n ds' I t env
  eval_same n = below_same (suc n)

-- what fits a world fits it with a fresh definition added
module _ (W : Functions) (d : Definition) (fresh : arity W d.name ≡ None) where
  pub other_name : (f : Name) (k : ℕ) → arity W f ≡ Some k → bytes_eq d.name f ≡ false
  other_name f k e = name_apart d.name f (λ same. let s = subst (λ g. arity W g ≡ None) same fresh in cc)

  pub find_later : (f : Name) (k : ℕ) → arity W f ≡ Some k → find (d ∷ W.defs) f ≡ find W.defs f
  find_later f k e = ap (λ b. cond b (Some d) (find W.defs f)) (other_name f k e)

  pub arity_later : (f : Name) (k : ℕ) → arity W f ≡ Some k → arity (with_def W d) f ≡ Some k
  arity_later f k e = ap (λ o. arity_by (primitive f) o (lookup W.vars f)) (find_later f k e) ∙ e

-- the body of each definition of a well-formed world fits the world
found_fits : (vars : List (Name × ℕ)) (ds : List Definition) → AllFormed vars ds → (f : Name) (d : Definition) → find ds f ≡ Some d → FitsOver (functions vars ds) d.formals d.body
found_fits vars [] h f d e = absurd (cc)
found_fits vars (c ∷ ds) h f d e = by_test (bytes_eq c.name f) e (found_fits vars ds h.1 f d)
  where
    by_test : (b : Bool) → cond b (Some c) (find ds f) ≡ Some d → (find ds f ≡ Some d → FitsOver (functions vars ds) d.formals d.body) → FitsOver (functions vars (c ∷ ds)) d.formals d.body
    by_test true e' ih = let same : c ≡ d = cc in subst (λ x. FitsOver (functions vars (c ∷ ds)) x.formals x.body) same h.0.body
    by_test false e' ih = over_map (IsIn d.formals) (IsIn d.formals) _ _ (λ x p. p) (λ g k q. arity_later (functions vars ds) c h.0.fresh g k q) d.body (ih e')

pub body_fits : (W : Functions) → AllFormed W.vars W.defs → (f : Name) (d : Definition) → find W.defs f ≡ Some d → FitsOver W d.formals d.body
body_fits W h f d e = found_fits W.vars W.defs h f d e

-- a fresh definition changes no value
module _ (W : Functions) (formed : AllFormed W.vars W.defs) (d : Definition) (fresh : arity W d.name ≡ None) (I : Interp) where
  closed_world : (f : Name) (k : ℕ) → arity W f ≡ Some k → primitive f ≡ None → (e : Definition) → find W.defs f ≡ Some e → FitsOver W e.formals e.body
  closed_world f k a p e found = body_fits W formed f e found

  pub apply_with : (n : ℕ) (f : Name) (k : ℕ) → arity W f ≡ Some k → (vs : List Val) → apply n W.defs I f vs ≡ apply n (d ∷ W.defs) I f vs
  apply_with n f k = apply_same I (λ g j. arity W g ≡ Some j) W.defs (d ∷ W.defs) (λ g j a p. find_later W d fresh g j a) closed_world n f k

  pub eval_with : (P : Name → Type 0) (n : ℕ) (t : Tm) (env : Env) → Over P (λ g j. arity W g ≡ Some j) t → eval n W.defs I t env ≡ eval n (d ∷ W.defs) I t env
  eval_with P n t env o =
      eval_same I (λ g j. arity W g ≡ Some j) W.defs (d ∷ W.defs) (λ g j a p. find_later W d fresh g j a) closed_world n t env
      (over_map P Any _ _ (λ x p. tt) (λ g j q. q) t o)
