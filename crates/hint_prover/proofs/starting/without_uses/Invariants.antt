use Rattle.std.proofs.Common.{◌≡◌, drop}
use Rattle.reduction_proofs.specs.Start.{without_uses}
use Rattle.hint_prover.proofs.starting.without_uses.Given as goal

abbrev pub invariant-loop-it : goal.invariant-loop-it
invariant-loop-it l = without_uses (drop l.it-index l.uses) l.all ≡ without_uses l.uses l.fn.p
