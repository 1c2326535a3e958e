-- What a translation's code is seen as.
use Rattle.std.specs.Prelude.{◌≡◌, Bool, true, Result, Ok, Err}
use Rattle.lisp_data.specs.Values.{Name}
use Rattle.terms.specs.Worlds.{is_in}
use Rattle.term_forms.specs.Translation.{Outcome}
use Rattle.term_forms.specs.declared.scope.Scope.{Scope}
use Rattle.term_forms.specs.declared.scope.Scope.TheVariants.{Any, Only}
use Rattle.term_forms.specs.declared.translation.TermError.{TermError}
use Rattle.term_forms.specs.declared.translation.TermError.TheVariants.{Refused, Memory}

-- which variables a scope allows
abbrev pub allowed : Scope → Name → Bool
allowed Any x = true
allowed (Only names) x = is_in names.now x

-- the answer is the outcome's term, or its refusal
abbrev pub SaysOutcome : {A : Type 0} → Outcome A → Result A TermError → Type 0
SaysOutcome o (Ok x) = o ≡ Ok x
SaysOutcome o (Err (Refused code detail)) = o ≡ Err (code, detail)
SaysOutcome o (Err Memory) = Unit {0}
