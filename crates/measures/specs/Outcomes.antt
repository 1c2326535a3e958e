-- What is answered, and why there may be no answer.
use Rattle.std.specs.Prelude.{◌≡◌, cond, List, [], Result, Ok, Err}
use Rattle.lisp_data.specs.Values.{Name}
use Rattle.terms.specs.Terms.{Tm}
use Rattle.terms.specs.declared.definition.Definition.{Definition}
use Rattle.terms.specs.declared.sequent.Sequent.{Sequent}
use Rattle.terms.specs.Measures.{RecursiveCall, is_nested, recursive_calls, obligations}
use Rattle.measures.specs.declared.errors.MeasureError.{MeasureError}
use Rattle.measures.specs.declared.errors.MeasureError.TheVariants.{Nested, NoMeasure, Memory}

-- an error is the outcome's cause, or want of memory
abbrev pub IsCause : {A : Type 0} → Result A MeasureError → MeasureError → Type 0
IsCause o Nested = o ≡ Err Nested
IsCause o NoMeasure = o ≡ Err NoMeasure
IsCause o Memory = Unit {0}

-- the answer is the outcome's: what there is, as it is seen, or the cause why there is nothing
abbrev pub Says : {A B : Type 0} → (A → B) → Result B MeasureError → Result A MeasureError → Type 0
Says seen o (Ok x) = o ≡ Ok (seen x)
Says seen o (Err e) = IsCause o e

-- the recursive calls; none are told where one has the function in an argument
abbrev pub calls_or_cause : Name → Tm → Result (List RecursiveCall) MeasureError
calls_or_cause f t = cond (is_nested f t) (Err Nested) (Ok (recursive_calls f [] t))

-- the obligations; none are told where a recursive call has the function in an argument
abbrev pub obligations_or_cause : Definition → Result (List Sequent) MeasureError
obligations_or_cause d = cond (is_nested d.name d.body) (Err Nested) (Ok (obligations d))
