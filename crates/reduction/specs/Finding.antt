-- Optional values that are found one after the other, and the arguments of calls.
use Rattle.std.specs.Prelude.{Bool, true, false, List, [], ◌∷◌, bytes_eq, Option, Some, None, if◌then◌else◌}
use Rattle.lisp_data.specs.Values.{Name}
use Rattle.terms.specs.Terms.{Tm, Var, Quote, Call, Tms, Done, More, same_tm}
use Rattle.terms.specs.Evaluation.{then_with}

-- the first of two that is something
abbrev pub or_else : {A : Type 0} → Option A → Option A → Option A
or_else None o = o
or_else (Some x) o = Some x

-- it, where the test is true
abbrev pub only : {A : Type 0} → Bool → Option A → Option A
only true o = o
only false o = None

abbrev pub when : {A : Type 0} → Bool → A → Option A
when true x = Some x
when false x = None

-- what the first item gives that gives something
abbrev pub first : {A B : Type 0} → (A → Option B) → List A → Option B
first f [] = None
first f (x ∷ xs) = or_else (f x) (first f xs)

abbrev pub one_arg : Tms → Option Tm
one_arg (More a Done) = Some a
one_arg _ = None

abbrev pub two_args : Tms → Option (Tm × Tm)
two_args (More a (More b Done)) = Some (a, b)
two_args _ = None

abbrev pub three_args : Tms → Option (Tm × Tm × Tm)
three_args (More a (More b (More c Done))) = Some (a, b, c)
three_args _ = None

-- the arguments of a call of f
abbrev pub args_of : Name → Tm → Option Tms
args_of f (Var x) = None
args_of f (Quote v) = None
args_of f (Call g ts) = if bytes_eq g f then Some ts else None

-- the one argument, the two, or the three, of a call of f
abbrev pub of_one : Name → Tm → Option Tm
of_one f t = then_with (args_of f t) one_arg

abbrev pub of_two : Name → Tm → Option (Tm × Tm)
of_two f t = then_with (args_of f t) two_args

abbrev pub of_three : Name → Tm → Option (Tm × Tm × Tm)
of_three f t = then_with (args_of f t) three_args

abbrev pub is_call : Tm → Bool
is_call (Var x) = false
is_call (Quote v) = false
is_call (Call f ts) = true

abbrev pub is_some_term : Option Tm → Tm → Bool
is_some_term None t = false
is_some_term (Some a) t = same_tm t a

-- h is the call of f on t
abbrev pub is_call_on : Name → Tm → Tm → Bool
is_call_on f h t = is_some_term (of_one f h) t
