use Rattle.std.proofs.Common.{◌≡◌, ◌≤◌, length, take}
use Rattle.isodata_tool.specs.Proofs.{cut_each}
use Rattle.isodata_tool.proofs.trees.cut_each.Given as goal

abbrev pub decreases-loop-i : goal.decreases-loop-i
decreases-loop-i l = l.i

abbrev pub invariant-loop-i : goal.invariant-loop-i
invariant-loop-i l = (l.i ≤ length l.proofs) × (cut_each (take l.i l.proofs) l.on ≡ cut_each l.proofs l.fn.on)
