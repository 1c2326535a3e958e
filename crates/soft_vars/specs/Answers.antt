-- What is answered, and why there may be no answer.
use Rattle.std.specs.Prelude.{◌≡◌, Result, Ok, Err}
use Rattle.lisp_data.specs.declared.code.Code.{Code}
use Rattle.lisp_data.specs.declared.detail.Detail.{Detail}
use Rattle.terms.specs.Refusals.{Outcome}
use Rattle.soft_vars.specs.declared.errors.SoftError.{SoftError}
use Rattle.soft_vars.specs.declared.errors.SoftError.TheVariants.{Refused, Memory}

-- an error is the outcome's refusal, or out of memory
abbrev pub IsRefusal : {A : Type 0} → Outcome A → SoftError → Type 0
IsRefusal o (Refused code detail) = o ≡ Err (code, detail)
IsRefusal o Memory = Unit {0}

-- the answer is the outcome's: what there is, as it is seen, or its refusal
abbrev pub Says : {A B : Type 0} → (A → B) → Outcome B → Result A SoftError → Type 0
Says seen o (Ok x) = o ≡ Ok (seen x)
Says seen o (Err e) = IsRefusal o e

-- what an error says, where it isn't out of memory
abbrev pub IsError : Code → Detail → SoftError → Type 0
IsError code detail (Refused c d) = (c ≡ code) × (d ≡ detail)
IsError code detail Memory = Unit {0}
