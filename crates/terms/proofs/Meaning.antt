-- What names and terms mean in a model.
use Rattle.std.proofs.Common.{◌≡◌, ◌≢◌, ℕ, suc, Bool, true, false, cond, ◌&&◌, List, [], ◌∷◌, length, bytes_eq, codes, Option, Some, None, refl, sym, ap, ◌∙◌, subst, arith}
use Rattle.std.proofs.lemmas.Bool.{eq-eqb, and_parts}
use Rattle.std.proofs.lemmas.Bool.Decides.{Decides-int_eq}
use Rattle.lisp_data.specs.Values.{Name, Val, Int, Sym, Pair, nil, same_val}
use Rattle.terms.specs.Primitives.{Operation, One, Two, Three, operate, operands, primitive, lookup, is_nil, choose}
use Rattle.terms.specs.Terms.{Tm, Var, Quote, Call, Tms, Done, More, count, Over, OverAll, substitute, substitute_all, by_args}
use Rattle.terms.specs.declared.definition.Definition.{Definition}
use Rattle.terms.specs.Definitions.{find, Interp}
use Rattle.terms.specs.Evaluation.{bind, resolve, variable, below, apply}
use Rattle.terms.specs.Worlds.{Functions, arity, arity_by, Fits, IsIn, IsTrueAt}
use Rattle.terms.specs.Formed.{AllFormed}
use Rattle.terms.proofs.Names.{same_name, name_self}
use Rattle.terms.proofs.Below.{Any}
use Rattle.terms.proofs.Models.{reaches_one, apply_reaches, eval_reaches, Model, val, vals, reaches_val, is_if}
use Rattle.terms.proofs.Extend.{body_fits}

-- values are told apart by their test
pub same_value : (a b : Val) → same_val a b ≡ true → a ≡ b
same_value (Int a) (Int b) e = ap Int ((Decides-int_eq a b).0 e)
same_value (Sym a) (Sym b) e = ap Sym (same_name a b e)
same_value (Pair a b) (Pair c d) e =
    let h = and_parts (same_val a c) (same_val b d) e in
    let p = same_value a c h.0 in let q = same_value b d h.1 in cc
same_value (Int a) (Sym b) e = cc
same_value (Int a) (Pair b c) e = cc
same_value (Sym a) (Int b) e = cc
same_value (Sym a) (Pair b c) e = cc
same_value (Pair a b) (Int c) e = cc
same_value (Pair a b) (Sym c) e = cc

pub value_self : (a : Val) → same_val a a ≡ true
value_self (Int a) = (Decides-int_eq a a).1 refl
value_self (Sym a) = name_self a
value_self (Pair a b) = ap (λ t. t && same_val b b) (value_self a) ∙ value_self b

pub nil_is : (v : Val) → is_nil v ≡ true → v ≡ nil
nil_is v e = same_value v nil e

pub not_nil : (v : Val) → is_nil v ≡ false → v ≢ nil
not_nil v e h = let t : is_nil v ≡ true = subst (λ x. is_nil x ≡ true) (sym h) (value_self nil) in cc

pub nil_false : (v : Val) → v ≢ nil → is_nil v ≡ false
nil_false v h = by_test (is_nil v) refl
  where
    by_test : (b : Bool) → is_nil v ≡ b → b ≡ false
    by_test true e = absurd (h (nil_is v e))
    by_test false e = refl

module _ (F : Name → List Val → Val) where
  mutual
    pub val_same : (P : Name → Type 0) (Q : Name → ℕ → Type 0) (env env' : Name → Val) → ((x : Name) → P x → env x ≡ env' x) → (t : Tm) → Over P Q t → val F t env ≡ val F t env'
    val_same P Q env env' h (Var x) o = h x o
    val_same P Q env env' h (Quote v) o = refl
    val_same P Q env env' h (Call f ts) o = ap (F f) (vals_same P Q env env' h ts o.1)

    pub vals_same : (P : Name → Type 0) (Q : Name → ℕ → Type 0) (env env' : Name → Val) → ((x : Name) → P x → env x ≡ env' x) → (ts : Tms) → OverAll P Q ts → vals F ts env ≡ vals F ts env'
    vals_same P Q env env' h Done o = refl
    vals_same P Q env env' h (More t ts) o = let e = val_same P Q env env' h t o.0 in let es = vals_same P Q env env' h ts o.1 in cc

  mutual
    pub val_substitute : (s : Name → Tm) (env : Name → Val) (t : Tm) → val F (substitute s t) env ≡ val F t (λ x. val F (s x) env)
    val_substitute s env (Var x) = refl
    val_substitute s env (Quote v) = refl
    val_substitute s env (Call f ts) = ap (F f) (vals_substitute s env ts)

    pub vals_substitute : (s : Name → Tm) (env : Name → Val) (ts : Tms) → vals F (substitute_all s ts) env ≡ vals F ts (λ x. val F (s x) env)
    vals_substitute s env Done = refl
    vals_substitute s env (More t ts) = let e = val_substitute s env t in let es = vals_substitute s env ts in cc

abbrev pub or_nil : Option Val → Val
or_nil None = nil
or_nil (Some v) = v

-- formals with their values, and NIL elsewhere
abbrev pub bound : List Name → List Val → Name → Val
bound ys vs x = or_nil (bind ys vs x)

pub bind_in : (ys : List Name) (vs : List Val) (x : Name) → length vs ≡ length ys → IsIn ys x → bind ys vs x ≡ Some (bound ys vs x)
bind_in [] vs x l i = absurd i
bind_in (y ∷ ys) [] x l i = absurd (omega arith)
bind_in (y ∷ ys) (v ∷ vs) x l i = by_test (bytes_eq y x) i (bind_in ys vs x (omega arith))
  where
    by_test : (b : Bool) → cond b (Unit {0}) (IsIn ys x) → (IsIn ys x → bind ys vs x ≡ Some (bound ys vs x)) → cond b (Some v) (bind ys vs x) ≡ Some (or_nil (cond b (Some v) (bind ys vs x)))
    by_test true i' ih = refl
    by_test false i' ih = ih i'

pub args_bound : (F : Name → List Val → Val) (env : Name → Val) (ys : List Name) (ts : Tms) (x : Name) → count ts ≡ length ys → IsIn ys x → val F (by_args ys ts x) env ≡ bound ys (vals F ts env) x
args_bound F env [] ts x l i = absurd i
args_bound F env (y ∷ ys) Done x l i = absurd (omega arith)
args_bound F env (y ∷ ys) (More t ts) x l i = by_test (bytes_eq y x) i (args_bound F env ys ts x (omega arith))
  where
    by_test : (b : Bool) → cond b (Unit {0}) (IsIn ys x) → (IsIn ys x → val F (by_args ys ts x) env ≡ bound ys (vals F ts env) x) → val F (cond b t (by_args ys ts x)) env ≡ or_nil (cond b (Some (val F t env)) (bind ys (vals F ts env) x))
    by_test true i' ih = refl
    by_test false i' ih = ih i'

operate-length : (p : Operation) (vs : List Val) (v : Val) → operate p vs ≡ Some v → length vs ≡ operands p
operate-length (One f) (a ∷ []) v e = refl
operate-length (Two f) (a ∷ b ∷ []) v e = refl
operate-length (Three f) (a ∷ b ∷ c ∷ []) v e = refl
operate-length p vs v e = absurd (cc)

-- a definition that is found has no primitive's name
pub found_free : (vars : List (Name × ℕ)) (ds : List Definition) → AllFormed vars ds → (f : Name) (d : Definition) → find ds f ≡ Some d → primitive f ≡ None
found_free vars [] h f d e = absurd (cc)
found_free vars (c ∷ ds) h f d e = by_test (bytes_eq c.name f) refl e (found_free vars ds h.1 f d)
  where
    free : (p : Option Operation) (q : Option Definition) (r : Option ℕ) → arity_by p q r ≡ None → p ≡ None
    free None q r e' = refl
    free (Some p) q r e' = cc

    by_test : (b : Bool) → bytes_eq c.name f ≡ b → cond b (Some c) (find ds f) ≡ Some d → (find ds f ≡ Some d → primitive f ≡ None) → primitive f ≡ None
    by_test true t e' ih = subst (λ g. primitive g ≡ None) (same_name c.name f t) (free (primitive c.name) (find ds c.name) (lookup vars c.name) h.0.fresh)
    by_test false t e' ih = ih e'

pub arity_primitive : (W : Functions) (f : Name) (p : Operation) → primitive f ≡ Some p → arity W f ≡ Some (operands p)
arity_primitive W f p e = ap (λ o. arity_by o (find W.defs f) (lookup W.vars f)) e

pub arity_defined : (W : Functions) → AllFormed W.vars W.defs → (f : Name) (d : Definition) → find W.defs f ≡ Some d → arity W f ≡ Some (length d.formals)
arity_defined W formed f d found =
    ap (λ o. arity_by o (find W.defs f) (lookup W.vars f)) (found_free W.vars W.defs formed f d found)
    ∙ ap (λ o. arity_by None o (lookup W.vars f)) found

module _ (W : Functions) (I : Interp) (M : Model W I) where
  pub of_primitive : (f : Name) (p : Operation) (vs : List Val) (v : Val) → primitive f ≡ Some p → operate p vs ≡ Some v → M.of f vs ≡ v
  of_primitive f p vs v e h =
      let a = arity_primitive W f p e in
      let now : apply 0 W.defs I f vs ≡ Some v = ap (λ o. resolve o (find W.defs f) (below 0 W.defs I) (variable (below 0) I f vs) vs) e ∙ h in
      reaches_one (λ n. apply n W.defs I f vs) _ _ (M.reached f (operands p) a vs (operate-length p vs v h)) (apply_reaches 0 W.defs I f vs v now)

  pub of_definition : AllFormed W.vars W.defs → (f : Name) (d : Definition) (vs : List Val) → find W.defs f ≡ Some d → length vs ≡ length d.formals → M.of f vs ≡ val M.of d.body (bound d.formals vs)
  of_definition formed f d vs found l =
      let p = found_free W.vars W.defs formed f d found in
      let a = arity_defined W formed f d found in
      let r = reaches_val W I M (IsIn d.formals) (bind d.formals vs) (bound d.formals vs) (λ x i. bind_in d.formals vs x l i) d.body (body_fits W formed f d found) in
      let n = r.start in
      let run = below (suc n) W.defs I in
      let other = variable (below (suc n)) I f vs in
      let now : apply (suc n) W.defs I f vs ≡ Some (val M.of d.body (bound d.formals vs)) =
      ap (λ o. resolve o (find W.defs f) run other vs) p
      ∙ ap (λ o. resolve None o run other vs) found
      ∙ ap (λ b. cond b (run d.body (bind d.formals vs)) None) (eq-eqb (length d.formals) (length vs) (sym l))
      ∙ r.stays n (omega arith) in
      reaches_one (λ m. apply m W.defs I f vs) _ _ (M.reached f (length d.formals) a vs l) (apply_reaches (suc n) W.defs I f vs _ now)

  pub of_if : (a b c : Val) → M.of (codes "IF") (a ∷ b ∷ c ∷ []) ≡ choose a b c
  of_if a b c = of_primitive (codes "IF") (Three choose) (a ∷ b ∷ c ∷ []) (choose a b c) is_if refl

  -- truth in a model
  pub true_from : (t : Tm) → Fits W t → (env : Name → Val) → val M.of t env ≢ nil → IsTrueAt W I env t
  true_from t o env h =
      let r = reaches_val W I M Any (λ x. Some (env x)) env (λ x p. refl) t o in
      (r.start, val M.of t env, r.stays r.start (omega arith), h)

  pub true_to : (t : Tm) → Fits W t → (env : Name → Val) → IsTrueAt W I env t → val M.of t env ≢ nil
  true_to t o env h e =
      let r = reaches_val W I M Any (λ x. Some (env x)) env (λ x p. refl) t o in
      let s = eval_reaches h.0 W.defs I t (λ x. Some (env x)) h.1 h.2 in
      let same = reaches_one _ _ _ r s in
      h.3 (sym same ∙ e)
