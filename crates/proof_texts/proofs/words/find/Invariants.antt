use Rattle.std.proofs.Common.{◌≡◌, drop}
use Rattle.proof_texts.specs.Words as spec
use Rattle.proof_texts.proofs.words.find.Given as goal

abbrev pub invariant-loop-word : goal.invariant-loop-word
invariant-loop-word l = spec.find (drop l.word-index l.words) l.text ≡ spec.find l.words l.text
