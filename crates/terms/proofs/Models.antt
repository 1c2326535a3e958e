-- A total world under a total interpretation, as one total function: then terms have values with no depth.
use Rattle.std.proofs.Common.{◌≡◌, ℕ, ◌≤◌, max, Bool, true, false, cond, List, [], ◌∷◌, length, bytes_eq, nat_eq, codes, Option, Some, None, refl, sym, ap, ◌∙◌, subst, arith}
use Rattle.std.proofs.lemmas.Bool.{eqb-true}
use Rattle.lisp_data.specs.Values.{Name, Val, nil}
use Rattle.terms.specs.Primitives.{Three, operate, primitive, primitives, is_nil, choose}
use Rattle.terms.specs.Terms.{Tm, Var, Quote, Call, Tms, Done, More, count, Over, OverAll, substitute, substitute_all}
use Rattle.terms.specs.declared.definition.Definition.{Definition}
use Rattle.terms.specs.Definitions.{find, Interp}
use Rattle.terms.specs.Evaluation.{Env, Action, then_with, all_of, branch, call_of, value, values, Runner, resolve, variable, action, below, apply, eval}
use Rattle.terms.specs.Worlds.{Functions, arity, GivesAValue}
use Rattle.terms.proofs.Names.{same_name}
use Rattle.terms.proofs.Below.{below_use, eval_deeper, apply_deeper}

-- evaluation under a substitution is evaluation where each variable has the value of its term
mutual
  pub value_substitute : (act : Action) (s : Name → Tm) (env : Env) (t : Tm) → value act (substitute s t) env ≡ value act t (λ x. value act (s x) env)
  value_substitute act s env (Var x) = refl
  value_substitute act s env (Quote v) = refl
  value_substitute act s env (Call f ts) = ap (call_of act f) (values_substitute act s env ts)

  pub values_substitute : (act : Action) (s : Name → Tm) (env : Env) (ts : Tms) → values act (substitute_all s ts) env ≡ values act ts (λ x. value act (s x) env)
  values_substitute act s env Done = refl
  values_substitute act s env (More t ts) = let e = value_substitute act s env t in let es = values_substitute act s env ts in cc

pub eval_substitute : (n : ℕ) (ds : List Definition) (I : Interp) (s : Name → Tm) (env : Env) (t : Tm) → eval n ds I (substitute s t) env ≡ eval n ds I t (λ x. eval n ds I (s x) env)
eval_substitute n ds I s env t = value_substitute (apply n ds I) s env t

-- the value at each depth from some depth on
pub record Reaches (o : ℕ → Option Val) (v : Val) : Type 0 where
  pub start : ℕ
  pub stays : (m : ℕ) → start ≤ m → o m ≡ Some v

pub reaches_one : (o : ℕ → Option Val) (v w : Val) → Reaches o v → Reaches o w → v ≡ w
reaches_one o v w r s =
    let n = max r.start s.start in
    let a = r.stays n (omega arith) in
    let b = s.stays n (omega arith) in
    cc

pub apply_reaches : (n : ℕ) (ds : List Definition) (I : Interp) (f : Name) (vs : List Val) (v : Val) → apply n ds I f vs ≡ Some v → Reaches (λ m. apply m ds I f vs) v
apply_reaches n ds I f vs v e = record { start = n; stays = λ m le. below_use _ _ v (apply_deeper n m le ds I f vs) e }

pub eval_reaches : (n : ℕ) (ds : List Definition) (I : Interp) (t : Tm) (env : Env) (v : Val) → eval n ds I t env ≡ Some v → Reaches (λ m. eval m ds I t env) v
eval_reaches n ds I t env v e = record { start = n; stays = λ m le. below_use _ _ v (eval_deeper n m le ds I t env) e }

-- a total function that each function of the world reaches
pub record Model (W : Functions) (I : Interp) : Type 0 where
  pub of : Name → List Val → Val
  pub reached : (f : Name) (k : ℕ) → arity W f ≡ Some k → (vs : List Val) → length vs ≡ k → Reaches (λ n. apply n W.defs I f vs) (of f vs)

module _ (W : Functions) (I : Interp) (total : (f : Name) (k : ℕ) → arity W f ≡ Some k → GivesAValue (λ n. apply n W.defs I f) k) where
  by_length : (f : Name) (k : ℕ) → arity W f ≡ Some k → (vs : List Val) (b : Bool) → nat_eq (length vs) k ≡ b → Val
  by_length f k e vs true h = (total f k e vs (eqb-true (length vs) k h)).1
  by_length f k e vs false h = nil

  by_arity : (f : Name) (vs : List Val) (o : Option ℕ) → arity W f ≡ o → Val
  by_arity f vs None e = nil
  by_arity f vs (Some k) e = by_length f k e vs (nat_eq (length vs) k) refl

  by_length_reached : (f : Name) (k : ℕ) (e : arity W f ≡ Some k) (vs : List Val) → length vs ≡ k → (b : Bool) (h : nat_eq (length vs) k ≡ b) → Reaches (λ n. apply n W.defs I f vs) (by_length f k e vs b h)
  unfolding by_length
  by_length_reached f k e vs l true h = let t = total f k e vs (eqb-true (length vs) k h) in apply_reaches t.0 W.defs I f vs t.1 t.2
  by_length_reached f k e vs l false h = absurd (grind arith)

  by_arity_reached : (f : Name) (k : ℕ) (vs : List Val) → length vs ≡ k → (o : Option ℕ) (e : arity W f ≡ o) → o ≡ Some k → Reaches (λ n. apply n W.defs I f vs) (by_arity f vs o e)
  unfolding by_arity
  by_arity_reached f k vs l None e s = cc
  by_arity_reached f k vs l (Some j) e s = by_length_reached f j e vs (cc) (nat_eq (length vs) j) refl

  pub model : Model W I
  model = record {
    of = λ f vs. by_arity f vs (arity W f) refl;
    reached = λ f k e vs l. by_arity_reached f k vs l (arity W f) refl e;
  }

-- the value of a term under a total function
abbrev mutual
  pub val : (Name → List Val → Val) → Tm → (Name → Val) → Val
  val F (Var x) env = env x
  val F (Quote v) env = v
  val F (Call f ts) env = F f (vals F ts env)

  pub vals : (Name → List Val → Val) → Tms → (Name → Val) → List Val
  vals F Done env = []
  vals F (More t ts) env = val F t env ∷ vals F ts env

pub vals-length : (F : Name → List Val → Val) (ts : Tms) (env : Name → Val) → length (vals F ts env) ≡ count ts
vals-length F Done env = refl
vals-length F (More t ts) env = let e = vals-length F ts env in cc

abbrev pub somes : List Val → List (Option Val)
somes [] = []
somes (v ∷ vs) = Some v ∷ somes vs

pub all_of-somes : (vs : List Val) → all_of (somes vs) ≡ Some vs
all_of-somes [] = refl
all_of-somes (v ∷ vs) = ap (λ o. then_with o (λ ws. Some (v ∷ ws))) (all_of-somes vs)

pub is_if : primitive (codes "IF") ≡ Some (Three choose)
unfolding primitive primitives
is_if = refl

cond_some : (b : Bool) (x y : Val) → cond b (Some x) (Some y) ≡ Some (cond b x y)
cond_some true x y = refl
cond_some false x y = refl

branch-somes : (vs : List Val) (v : Val) → operate (Three choose) vs ≡ Some v → branch (somes vs) ≡ Some v
branch-somes [] v e = e
branch-somes (a ∷ []) v e = e
branch-somes (a ∷ b ∷ []) v e = e
branch-somes (a ∷ b ∷ c ∷ []) v e = cond_some (is_nil a) c b ∙ e
branch-somes (a ∷ b ∷ c ∷ d ∷ vs) v e = e

-- a call whose arguments all have values
pub call_of-somes : (r : Runner) (ds : List Definition) (I : Interp) (f : Name) (vs : List Val) (v : Val) → action r ds I f vs ≡ Some v → call_of (action r ds I) f (somes vs) ≡ Some v
call_of-somes r ds I f vs v e = by_test (bytes_eq (codes "IF") f) refl
  where
    by_test : (b : Bool) → bytes_eq (codes "IF") f ≡ b → cond b (branch (somes vs)) (then_with (all_of (somes vs)) (action r ds I f)) ≡ Some v
    by_test true h =
        let same = same_name (codes "IF") f h in
        let e' : resolve (primitive (codes "IF")) (find ds (codes "IF")) (r ds I) (variable r I (codes "IF") vs) vs ≡ Some v = subst (λ g. action r ds I g vs ≡ Some v) (sym same) e in
        branch-somes vs v (subst (λ p. resolve p (find ds (codes "IF")) (r ds I) (variable r I (codes "IF") vs) vs ≡ Some v) is_if e')
    by_test false h = ap (λ o. then_with o (action r ds I f)) (all_of-somes vs) ∙ e

-- in a model each term that fits has its value from some depth on
module _ (W : Functions) (I : Interp) (M : Model W I) (P : Name → Type 0) (env : Env) (env' : Name → Val) (has : (x : Name) → P x → env x ≡ Some (env' x)) where
  mutual
    pub reaches_val : (t : Tm) → Over P (λ f k. arity W f ≡ Some k) t → Reaches (λ n. eval n W.defs I t env) (val M.of t env')
    reaches_val (Var x) o = record { start = 0; stays = λ m le. has x o }
    reaches_val (Quote v) o = record { start = 0; stays = λ m le. refl }
    reaches_val (Call f ts) o =
        let args = reach_vals ts o.1 in
        let vs = vals M.of ts env' in
        let r = M.reached f (count ts) o.0 vs (vals-length M.of ts env') in
        record {
          start = max args.0 r.start;
          stays = λ m le.
              ap (call_of (apply m W.defs I) f) (args.1 m (omega arith))
              ∙ call_of-somes (below m) W.defs I f vs (M.of f vs) (r.stays m (omega arith));
        }

    pub reach_vals : (ts : Tms) → OverAll P (λ f k. arity W f ≡ Some k) ts → (n : ℕ) × ((m : ℕ) → n ≤ m → values (apply m W.defs I) ts env ≡ somes (vals M.of ts env'))
    reach_vals Done o = (0, λ m le. refl)
    reach_vals (More t ts) o =
        let a = reaches_val t o.0 in
        let b = reach_vals ts o.1 in
        (max a.start b.0, λ m le. let e = a.stays m (omega arith) in let es = b.1 m (omega arith) in cc)
