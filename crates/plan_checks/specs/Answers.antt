-- What is answered, and why there may be no answer.
use Rattle.std.specs.Prelude.{◌≡◌, Result, Ok, Err}
use Rattle.lisp_data.specs.declared.code.Code.{Code}
use Rattle.lisp_data.specs.declared.detail.Detail.{Detail}
use Rattle.term_forms.specs.Translation.{Outcome}
use Rattle.term_forms.specs.declared.translation.TermError.{TermError}
use Rattle.term_forms.specs.declared.translation.TermError.TheVariants as term
use Rattle.soft_vars.specs.declared.errors.SoftError.{SoftError}
use Rattle.soft_vars.specs.declared.errors.SoftError.TheVariants as soft
use Rattle.plan_checks.specs.declared.errors.PlanError.{PlanError}
use Rattle.plan_checks.specs.declared.errors.PlanError.TheVariants.{Refused, Memory}

-- an error is the outcome's refusal, or out of memory
abbrev pub IsRefusal : {A : Type 0} → Outcome A → PlanError → Type 0
IsRefusal o (Refused code detail) = o ≡ Err (code, detail)
IsRefusal o Memory = Unit {0}

-- the answer is the outcome's: what there is, as it is seen, or its refusal
abbrev pub Says : {A B : Type 0} → (A → B) → Outcome B → Result A PlanError → Type 0
Says seen o (Ok x) = o ≡ Ok (seen x)
Says seen o (Err e) = IsRefusal o e

-- what an error says, where it isn't out of memory
abbrev pub IsError : Code → Detail → PlanError → Type 0
IsError code detail (Refused c d) = (c ≡ code) × (d ≡ detail)
IsError code detail Memory = Unit {0}

-- an error of a term, or of function variables, as one of a plan
abbrev pub IsFromTerm : TermError → PlanError → Type 0
IsFromTerm (term.Refused code detail) e = e ≡ Refused code detail
IsFromTerm term.Memory e = e ≡ Memory

abbrev pub IsFromSoft : SoftError → PlanError → Type 0
IsFromSoft (soft.Refused code detail) e = e ≡ Refused code detail
IsFromSoft soft.Memory e = e ≡ Memory
