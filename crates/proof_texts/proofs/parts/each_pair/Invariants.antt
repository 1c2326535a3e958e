use Rattle.std.proofs.Common.{◌≡◌}
use Rattle.term_forms.specs.Outcomes.{after}
use Rattle.proof_texts.specs.Parts.{function_pair}
use Rattle.proof_texts.proofs.PartLemmas.{each_from}
use Rattle.proof_texts.proofs.parts.each_pair.Given as goal

abbrev pub invariant-loop-form : goal.invariant-loop-form
invariant-loop-form l = after l.pairs (each_from (function_pair l.world) l.forms l.form-index) ≡ each_from (function_pair l.world) l.forms 0
