use Rattle.std.proofs.Common.{◌≡◌, ◌++◌, take}
use Rattle.events.proofs.proving.with_further.Given as goal

abbrev pub invariant-loop-proof : goal.invariant-loop-proof
invariant-loop-proof l = l.proofs ≡ l.fn.proofs ++ take l.proof-index l.further
