-- Refusals of pairs: a code, and the name that is at fault.
use Rattle.std.specs.Prelude.{Result, Ok, Err}
use Rattle.lisp_data.specs.Values.{Name}
use Rattle.lisp_data.specs.declared.code.Code.{Code}
use Rattle.lisp_data.specs.declared.code.Code.TheVariants.{UnknownName, WrongArity, RepeatedFormal, NotAFunction, NoInstance}
use Rattle.lisp_data.specs.declared.detail.Detail.{Detail}
use Rattle.lisp_data.specs.declared.detail.Detail.TheVariants as detail

-- something, or a refusal's code and detail
abbrev pub Outcome : Type 0 → Type 0
Outcome A = Result A (Code × Detail)

abbrev pub and_then : {A B : Type 0} → Outcome A → (A → Outcome B) → Outcome B
and_then (Ok x) f = f x
and_then (Err e) f = Err e

abbrev pub map_outcome : {A B : Type 0} → (A → B) → Outcome A → Outcome B
map_outcome f (Ok x) = Ok (f x)
map_outcome f (Err e) = Err e

-- nothing of this name is there
abbrev pub unknown_name : {A : Type 0} → Name → Outcome A
unknown_name n = Err (UnknownName, detail.Name n)

-- the name is that of something else
abbrev pub wrong_kind : {A : Type 0} → Name → Outcome A
wrong_kind n = Err (NotAFunction, detail.Name n)

-- the function takes another number of arguments than its variable
abbrev pub wrong_arity : {A : Type 0} → Name → Outcome A
wrong_arity n = Err (WrongArity, detail.Name n)

-- the variable stands in an earlier pair
abbrev pub repeated : {A : Type 0} → Name → Outcome A
repeated n = Err (RepeatedFormal, detail.Name n)

-- no instance of the function is recorded
abbrev pub no_instance : {A : Type 0} → Name → Outcome A
no_instance n = Err (NoInstance, detail.Name n)
