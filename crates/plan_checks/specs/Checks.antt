-- What the plans of transformations check of the functions and terms that they are given.
use Rattle.std.specs.Prelude.{if◌then◌else◌, List, [], ◌∷◌, Option, Some, None, Ok, Err}
use Rattle.lisp_data.specs.Values.{Name}
use Rattle.lisp_data.specs.declared.code.Code.TheVariants as code
use Rattle.lisp_data.specs.declared.detail.Detail.TheVariants as detail
use Rattle.terms.specs.Definitions.{find}
use Rattle.terms.specs.Pairs.{is_known}
use Rattle.terms.specs.Terms.{Tm}
use Rattle.terms.specs.Worlds.{World}
use Rattle.terms.specs.declared.definition.Definition.{Definition}
use Rattle.term_forms.specs.Translation.{Outcome, and_then, map_outcome}
use Rattle.soft_vars.specs.Dependents.{variables_in, variables_of}

-- why a name is no defined function's: something else has it, or nothing
abbrev pub no_definition : {A : Type 0} → World → Name → Outcome A
no_definition W f = if is_known W f then Err (code.NotAFunction, detail.Name f) else Err (code.UnknownName, detail.Name f)

-- the definition that was found under the name, or why there is none
abbrev pub defined : World → Name → Option Definition → Outcome Definition
defined W f None = no_definition W f
defined W f (Some d) = Ok d

-- there are no function variables; the first one is named
abbrev pub no_variables : List Name → Outcome (Unit {0})
no_variables [] = Ok tt
no_variables (x ∷ xs) = Err (code.HasFunctionVariables, detail.Name x)

-- the definition of a function that depends on no function variable
abbrev pub first_order_definition : World → Name → Outcome Definition
first_order_definition W f = and_then (defined W f (find W.functions.defs f)) (λ d. map_outcome (λ _. d) (no_variables (variables_of W f)))

-- a term that depends on no function variable
abbrev pub first_order_term : World → Tm → Outcome Tm
first_order_term W t = map_outcome (λ _. t) (no_variables (variables_in W (t ∷ [])))
