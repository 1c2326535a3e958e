-- A term's refusal as a proof's.
use Rattle.std.specs.Prelude.{◌≡◌}
use Rattle.term_forms.specs.declared.translation.TermError.{TermError}
use Rattle.term_forms.specs.declared.translation.TermError.TheVariants as term
use Rattle.proof_texts.specs.declared.errors.ProofError.{ProofError}
use Rattle.proof_texts.specs.declared.errors.ProofError.TheVariants.{Refused, Memory}

abbrev pub IsFrom : TermError → ProofError → Type 0
IsFrom (term.Refused code detail) e = e ≡ Refused code detail
IsFrom term.Memory e = e ≡ Memory
