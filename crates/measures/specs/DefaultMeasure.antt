-- The measure of a recursive function that gives none.
use Rattle.std.specs.Prelude.{Bool, cond, not, List, [], ◌∷◌, codes, Option, Some, None, Result, Ok, Err}
use Rattle.std.specs.List.{list_all}
use Rattle.lisp_data.specs.Values.{Name}
use Rattle.terms.specs.Terms.{Tm, Var, same_tm, by_args}
use Rattle.terms.specs.Measures.{RecursiveCall, is_nested, recursive_calls, call1}
use Rattle.measures.specs.declared.errors.MeasureError.{MeasureError}
use Rattle.measures.specs.declared.errors.MeasureError.TheVariants.{Nested, NoMeasure}

-- the call changes the formal: its argument for it is another term
abbrev pub changes : List Name → Name → RecursiveCall → Bool
changes formals v c = not (same_tm (by_args formals c.args v) (Var v))

-- the first of these formals that each of the calls changes
abbrev pub first_changed : List Name → List RecursiveCall → List Name → Option Name
first_changed formals cs [] = None
first_changed formals cs (v ∷ vs) = cond (list_all (changes formals v) cs) (Some v) (first_changed formals cs vs)

abbrev pub count_of : Option Name → Result Tm MeasureError
count_of None = Err NoMeasure
count_of (Some v) = Ok (call1 (codes "ACL2-COUNT") (Var v))

-- the count of the first formal that each recursive call changes; none where a call has the function in an argument
abbrev pub default_measure : Name → List Name → Tm → Result Tm MeasureError
default_measure f formals t =
    cond (is_nested f t) (Err Nested) (count_of (first_changed formals (recursive_calls f [] t) formals))
