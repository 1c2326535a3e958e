-- Refusals of texts: a code, and what is wrong.
use Rattle.std.specs.Prelude.{◌≡◌, codes, Option, Some, None, Result, Ok, Err}
use Rattle.lisp_data.specs.Values.{Name}
use Rattle.lisp_data.specs.declared.code.Code.{Code}
use Rattle.lisp_data.specs.declared.code.Code.TheVariants.{BadForm, UnknownName}
use Rattle.lisp_data.specs.declared.detail.Detail.{Detail}
use Rattle.lisp_data.specs.declared.detail.Detail.TheVariants as detail
use Rattle.term_forms.specs.Translation.{Outcome}
use Rattle.proof_texts.specs.declared.errors.ProofError.{ProofError}
use Rattle.proof_texts.specs.declared.errors.ProofError.TheVariants.{Refused, Memory}

-- the text has another shape than a proof's
abbrev pub bad_proof : {A : Type 0} → Outcome A
bad_proof = Err (BadForm, detail.Name (codes ":PROOF"))

-- nothing of this name is there
abbrev pub unknown_name : {A : Type 0} → Name → Outcome A
unknown_name name = Err (UnknownName, detail.Name name)

-- something, or the refusal of another shape
abbrev pub or_bad : {A : Type 0} → Option A → Outcome A
or_bad (Some x) = Ok x
or_bad None = bad_proof

-- an error is the outcome's refusal, or out of memory
abbrev pub IsRefusal : {A : Type 0} → Outcome A → ProofError → Type 0
IsRefusal o (Refused code detail) = o ≡ Err (code, detail)
IsRefusal o Memory = Unit {0}

-- the answer is the outcome's: what is read, as it is seen, or its refusal
abbrev pub Says : {A B : Type 0} → (A → B) → Outcome B → Result A ProofError → Type 0
Says seen o (Ok x) = o ≡ Ok (seen x)
Says seen o (Err e) = IsRefusal o e

-- what an error says, where it isn't out of memory
abbrev pub IsError : Code → Detail → ProofError → Type 0
IsError code detail (Refused c d) = (c ≡ code) × (d ≡ detail)
IsError code detail Memory = Unit {0}
