use Rattle.std.proofs.Common.{◌≡◌}
use Rattle.term_forms.specs.Outcomes.{after}
use Rattle.proof_texts.specs.Parts.{term_of}
use Rattle.proof_texts.proofs.PartLemmas.{each_from}
use Rattle.proof_texts.proofs.parts.each_term.Given as goal

abbrev pub invariant-loop-form : goal.invariant-loop-form
invariant-loop-form l = after l.terms (each_from (term_of l.world) l.forms l.form-index) ≡ each_from (term_of l.world) l.forms 0
