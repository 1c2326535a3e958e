use Rattle.std.proofs.Common.{◌≡◌, [], drop}
use Rattle.isodata_tool.specs.Isomorphic.{mapped_formals}
use Rattle.isodata_tool.proofs.maps.mapped_formals.Given as goal

abbrev pub invariant-loop-pair : goal.invariant-loop-pair
invariant-loop-pair l = mapped_formals l.world l.formals [] l.pairs ≡ mapped_formals l.world l.formals l.maps (drop l.pair-index l.pairs)
