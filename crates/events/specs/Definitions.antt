-- New names, and what events define.
use Rattle.std.specs.Prelude.{ℕ, not, if◌then◌else◌, nat_le, bytes_eq, codes, List, [], ◌∷◌, length, Option, Some, None, Result, Ok, Err}
use Rattle.lisp_data.specs.Values.{Name}
use Rattle.lisp_data.specs.Datum.{Datum, SymForm}
use Rattle.lisp_data.specs.declared.code.Code.TheVariants as code
use Rattle.lisp_data.specs.declared.detail.Detail.TheVariants as detail
use Rattle.terms.specs.Terms.{Tm}
use Rattle.terms.specs.Worlds.{World, arity, is_in}
use Rattle.terms.specs.Measures.{mentions, is_nested}
use Rattle.term_forms.specs.Names.{is_variable_name, is_function_name}
use Rattle.term_forms.specs.Translation.{Takes, Outcome, and_then, map_outcome, and_rest, distinct_after, translate}
use Rattle.terms.specs.declared.definition.Definition.{Definition}
use Rattle.worlds.specs.Names.{is_free}
use Rattle.measures.specs.DefaultMeasure.{default_measure}
use Rattle.measures.specs.declared.errors.MeasureError.{MeasureError}
use Rattle.measures.specs.declared.errors.MeasureError.TheVariants as measure
use Rattle.event_forms.specs.declared.limits.TheConstants.{MAX_FORMALS}
use Rattle.event_forms.specs.Refused.{not_an_event, bad_part}
use Rattle.event_forms.specs.Shapes.{FunctionParts}
use Rattle.events.specs.declared.orders.Order.{Order}
use Rattle.events.specs.Orders.{in_order}

-- the name of a new function or theorem
abbrev pub new_name : World → Name → Outcome (Unit {0})
new_name W n = if is_function_name n then (if is_free W n then Ok tt else Err (code.NameTaken, detail.Name n)) else bad_part (codes "name")

-- a variable name
abbrev pub formal_of : Datum → Outcome Name
formal_of (SymForm s) = if is_variable_name s then Ok s else bad_part (codes "formals")
formal_of _ = bad_part (codes "formals")

-- all are variable names
abbrev pub names_of : List Datum → Outcome (List Name)
names_of [] = Ok []
names_of (form ∷ forms) = and_rest (formal_of form) (names_of forms)

-- none of them stands twice
abbrev pub distinct : List Name → Outcome (List Name)
distinct xs = map_outcome (λ _. xs) (distinct_after [] xs)

-- variable names, none of them twice
abbrev pub variables_of : List Datum → Outcome (List Name)
variables_of forms = and_then (names_of forms) distinct

-- at most so many of them
abbrev pub formals_of : List Datum → Outcome (List Name)
formals_of forms = if nat_le (length forms) MAX_FORMALS then variables_of forms else bad_part (codes "formals")

-- the functions of the world, and the new function with so many arguments
abbrev pub with_own : Name → ℕ → Takes → Takes
with_own f n takes g = if bytes_eq f g then Some n else takes g

-- the body of a function over its formals
abbrev pub body_of : World → Name → List Name → Datum → Outcome Tm
body_of W f xs body = translate (with_own f (length xs) (arity W.functions)) (is_in xs) body

-- the measure that is given, over the formals and without the new function
abbrev pub given_measure : World → List Name → Option Datum → Outcome (Option Tm)
given_measure W xs None = Ok None
given_measure W xs (Some form) = map_outcome Some (translate (arity W.functions) (is_in xs) form)

-- the measure by default, or why there is none
abbrev pub by_default : Name → Result Tm MeasureError → Outcome (Option Tm)
by_default f (Ok m) = Ok (Some m)
by_default f (Err measure.Nested) = Err (code.NestedRecursion, detail.Name f)
by_default f (Err measure.NoMeasure) = Err (code.NoMeasure, detail.Name f)
by_default f (Err measure.Memory) = not_an_event

-- the given measure, or the one by default
abbrev pub or_default : Name → List Name → Tm → Option Tm → Outcome (Option Tm)
or_default f xs body (Some m) = Ok (Some m)
or_default f xs body None = by_default f (default_measure f xs body)

-- The measure of a function with this body. One that isn't recursive has none, also where one is given; no argument of a recursive call has a
-- further one.
abbrev pub measure_of : Name → List Name → Tm → Option Tm → Outcome (Option Tm)
measure_of f xs body given =
    if not (mentions f body) then Ok None
    else if is_nested f body then Err (code.NestedRecursion, detail.Name f)
    else or_default f xs body given

abbrev pub function : Name → List Name → Tm → Option Tm → Definition
function f xs body m = record { name = f; formals = xs; body = body; measure = m }

-- the body, and the measure that is given
abbrev pub terms_of : Tm → Option Tm → List Tm
terms_of body None = body ∷ []
terms_of body (Some m) = body ∷ m ∷ []

-- The definition of a function over these formals, of first or of second order. Its body comes first, then the measure that is given, then on what
-- these depend, then its recursion.
abbrev pub definition_over : World → Order → FunctionParts → List Name → Outcome Definition
definition_over W order p xs =
    and_then (body_of W p.name xs p.body) (λ body.
    and_then (given_measure W xs p.measure) (λ given.
    and_then (in_order W order (terms_of body given)) (λ _.
    map_outcome (function p.name xs body) (measure_of p.name xs body given))))

-- the definition of a function by its parts
abbrev pub definition_of : World → Order → FunctionParts → Outcome Definition
definition_of W order p = and_then (formals_of p.formals) (definition_over W order p)
