-- Refusals of hints: a code, and what is wrong.
use Rattle.std.specs.Prelude.{◌≡◌, codes, Option, Some, None, Result, Ok, Err}
use Rattle.lisp_data.specs.Values.{Name}
use Rattle.lisp_data.specs.declared.code.Code.{Code}
use Rattle.lisp_data.specs.declared.code.Code.TheVariants.{BadForm, UnknownName, WrongArity, NotAFunction}
use Rattle.lisp_data.specs.declared.detail.Detail.{Detail}
use Rattle.lisp_data.specs.declared.detail.Detail.TheVariants as detail
use Rattle.term_forms.specs.Translation.{Outcome}
use Rattle.term_forms.specs.declared.translation.TermError.{TermError}
use Rattle.term_forms.specs.declared.translation.TermError.TheVariants as term
use Rattle.soft_vars.specs.declared.errors.SoftError.{SoftError}
use Rattle.soft_vars.specs.declared.errors.SoftError.TheVariants as soft
use Rattle.hints.specs.declared.errors.HintError.{HintError}
use Rattle.hints.specs.declared.errors.HintError.TheVariants.{Refused, Memory}

-- a step of another shape
abbrev pub bad_hint : {A : Type 0} → Outcome A
bad_hint = Err (BadForm, detail.Name (codes ":HOW"))

-- nothing of this name is there
abbrev pub unknown_name : {A : Type 0} → Name → Outcome A
unknown_name n = Err (UnknownName, detail.Name n)

-- the name is of another kind
abbrev pub wrong_kind : {A : Type 0} → Name → Outcome A
wrong_kind n = Err (NotAFunction, detail.Name n)

-- the function takes another number of arguments
abbrev pub wrong_arity : {A : Type 0} → Name → Outcome A
wrong_arity f = Err (WrongArity, detail.Name f)

-- something, or the refusal of another shape
abbrev pub or_bad : {A : Type 0} → Option A → Outcome A
or_bad (Some x) = Ok x
or_bad None = bad_hint

-- an error is the outcome's refusal, or being out of memory
abbrev pub IsRefusal : {A : Type 0} → Outcome A → HintError → Type 0
IsRefusal o (Refused code detail) = o ≡ Err (code, detail)
IsRefusal o Memory = Unit {0}

-- the answer is the outcome's: what is read, as it is seen, or its refusal
abbrev pub Says : {A B : Type 0} → (A → B) → Outcome B → Result A HintError → Type 0
Says seen o (Ok x) = o ≡ Ok (seen x)
Says seen o (Err e) = IsRefusal o e

-- what an error says, where it isn't being out of memory
abbrev pub IsError : Code → Detail → HintError → Type 0
IsError code detail (Refused c d) = (c ≡ code) × (d ≡ detail)
IsError code detail Memory = Unit {0}

-- a term's refusal as a hint's
abbrev pub IsFrom : TermError → HintError → Type 0
IsFrom (term.Refused code detail) e = e ≡ Refused code detail
IsFrom term.Memory e = e ≡ Memory

-- a refusal of pairs as a hint's
abbrev pub IsFromPairs : SoftError → HintError → Type 0
IsFromPairs (soft.Refused code detail) e = e ≡ Refused code detail
IsFromPairs soft.Memory e = e ≡ Memory
