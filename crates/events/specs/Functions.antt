-- The functions that events name.
use Rattle.std.specs.Prelude.{ℕ, Bool, ◌||◌, if◌then◌else◌, nat_eq, is_some, List, [], ◌∷◌, Option, Some, None, Ok, Err}
use Rattle.lisp_data.specs.Values.{Name}
use Rattle.lisp_data.specs.declared.code.Code.TheVariants as code
use Rattle.lisp_data.specs.declared.detail.Detail.TheVariants as detail
use Rattle.terms.specs.Primitives.{lookup}
use Rattle.terms.specs.Worlds.{World, arity}
use Rattle.term_forms.specs.Translation.{Outcome, and_then}
use Rattle.worlds.specs.Lookups.{find_spec, find_iso}
use Rattle.soft_vars.specs.Dependents.{variables_of}

-- a theorem, a specification or an isomorphism has the name
abbrev pub is_other : World → Name → Bool
is_other W n = is_some (lookup W.theorems n) || is_some (find_spec W.specifications n) || is_some (find_iso W.isos n)

-- why a name is no function's: something else has it, or nothing
abbrev pub no_function : {A : Type 0} → World → Name → Outcome A
no_function W n = if is_other W n then Err (code.NotAFunction, detail.Name n) else Err (code.UnknownName, detail.Name n)

-- how many arguments a function takes, or why the name is no function's
abbrev pub found_arity : World → Name → Option ℕ → Outcome ℕ
found_arity W f None = no_function W f
found_arity W f (Some k) = Ok k

abbrev pub arity_of : World → Name → Outcome ℕ
arity_of W f = found_arity W f (arity W.functions f)

-- the function takes one argument
abbrev pub takes_one : Name → ℕ → Outcome (Unit {0})
takes_one f k = if nat_eq k 1 then Ok tt else Err (code.WrongArity, detail.Name f)

-- there are no function variables; the first one is named
abbrev pub no_variables : List Name → Outcome (Unit {0})
no_variables [] = Ok tt
no_variables (x ∷ xs) = Err (code.HasFunctionVariables, detail.Name x)

-- a function of one argument that depends on no function variable
abbrev pub unary : World → Name → Outcome (Unit {0})
unary W f = and_then (arity_of W f) (λ k. and_then (takes_one f k) (λ _. no_variables (variables_of W f)))
