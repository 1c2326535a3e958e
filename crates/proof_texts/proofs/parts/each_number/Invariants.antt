use Rattle.std.proofs.Common.{◌≡◌}
use Rattle.term_forms.specs.Outcomes.{after}
use Rattle.proof_texts.specs.Parts.{number_of}
use Rattle.proof_texts.proofs.PartLemmas.{each_from}
use Rattle.proof_texts.proofs.parts.each_number.Given as goal

abbrev pub invariant-loop-form : goal.invariant-loop-form
invariant-loop-form l = after l.path (each_from (number_of) l.forms l.form-index) ≡ each_from (number_of) l.forms 0
