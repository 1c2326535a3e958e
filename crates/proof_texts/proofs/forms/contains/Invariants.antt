use Rattle.std.proofs.Common.{◌≡◌, drop}
use Rattle.terms.specs.Worlds.{is_in}
use Rattle.proof_texts.proofs.forms.contains.Given as goal

abbrev pub invariant-loop-other : goal.invariant-loop-other
invariant-loop-other l = is_in (drop l.other-index l.other-items) l.name ≡ is_in l.names l.name
