-- The value of a term, with a bound on the depth of calls of definitions.
use Rattle.std.specs.Prelude.{ℕ, zero, suc, cond, List, [], ◌∷◌, length, bytes_eq, nat_eq, codes, Option, Some, None}
use Rattle.lisp_data.specs.Values.{Name, Val}
use Rattle.terms.specs.Primitives.{Operation, operate, primitive, is_nil}
use Rattle.terms.specs.Terms.{Tm, Var, Quote, Call, Tms, Done, More}
use Rattle.terms.specs.declared.definition.Definition.{Definition}
use Rattle.terms.specs.Definitions.{find, Interp, Empty, Entry}

-- what the variables have
abbrev pub Env : Type 0
Env = Name → Option Val

-- what a name does with values
abbrev pub Action : Type 0
Action = Name → List Val → Option Val

-- formals with their values
abbrev pub bind : List Name → List Val → Env
bind [] vs x = None
bind (y ∷ ys) [] x = None
bind (y ∷ ys) (v ∷ vs) x = cond (bytes_eq y x) (Some v) (bind ys vs x)

abbrev pub then_with : {A B : Type 0} → Option A → (A → Option B) → Option B
then_with None k = None
then_with (Some x) k = k x

-- all the values, or none where one is none
abbrev pub all_of : List (Option Val) → Option (List Val)
all_of [] = Some []
all_of (o ∷ os) = then_with o (λ v. then_with (all_of os) (λ vs. Some (v ∷ vs)))

-- `if` looks at its test and at one branch
abbrev pub branch : List (Option Val) → Option Val
branch (a ∷ b ∷ c ∷ []) = then_with a (λ v. cond (is_nil v) c b)
branch _ = None

-- a call, from what its arguments have
abbrev pub call_of : Action → Name → List (Option Val) → Option Val
call_of ap f os = cond (bytes_eq (codes "IF") f) (branch os) (then_with (all_of os) (ap f))

-- the value of a term, and what each of its arguments has
abbrev mutual
  pub value : Action → Tm → Env → Option Val
  value ap (Var x) env = env x
  value ap (Quote v) env = Some v
  value ap (Call f ts) env = call_of ap f (values ap ts env)

  pub values : Action → Tms → Env → List (Option Val)
  values ap Done env = []
  values ap (More t ts) env = value ap t env ∷ values ap ts env

-- evaluates under definitions and an interpretation
abbrev pub Runner : Type 0
Runner = List Definition → Interp → Tm → Env → Option Val

-- a primitive, else a definition, whose body is run, else what a variable does
abbrev pub resolve : Option Operation → Option Definition → (Tm → Env → Option Val) → Option Val → List Val → Option Val
resolve (Some p) d run other vs = operate p vs
resolve None (Some d) run other vs = cond (nat_eq (length d.formals) (length vs)) (run d.body (bind d.formals vs)) None
resolve None None run other vs = other

-- what a function variable does: its entry says
abbrev pub variable : Runner → Interp → Action
variable run Empty f vs = None
variable run (Entry x ds g inner rest) f vs =
    cond (bytes_eq x f) (resolve (primitive g) (find ds g) (run ds inner) (variable run inner g vs) vs) (variable run rest f vs)

-- what a name does under definitions and an interpretation
abbrev pub action : Runner → List Definition → Interp → Action
action run ds I f vs = resolve (primitive f) (find ds f) (run ds I) (variable run I f vs) vs

-- runs bodies at a depth below n
abbrev pub below : ℕ → Runner
below zero ds I t env = None
below (suc n) ds I t env = value (action (below n) ds I) t env

-- a name on values, with a bound on the depth of calls
abbrev pub apply : ℕ → List Definition → Interp → Action
apply n = action (below n)

-- the value of a term, with a bound on the depth of calls, or none
abbrev pub eval : ℕ → Runner
eval n ds I t env = value (apply n ds I) t env
