use Rattle.std.proofs.Common.{◌≡◌, ◌+◌, ◌*◌, map, take}
use Rattle.terms.specs.Substitution.{by_pairs}
use Rattle.terms.specs.Terms.{depth, depths, tms, substitute}
use Rattle.isodata_tool.specs.Proofs.{there_and_back, undone_in}
use Rattle.isodata_tool.proofs.trees.+undone.Given as goal

abbrev pub decreases-undone : goal.decreases-undone
decreases-undone l = 2 * depth l.term.now + 1

abbrev pub decreases-call_undone : goal.decreases-call_undone
decreases-call_undone l = 2 * depths (tms l.args.now)

abbrev pub invariant-call_undone-loop-arg : goal.invariant-call_undone-loop-arg
invariant-call_undone-loop-arg l =
    (l.terms ≡ map (substitute (there_and_back l.maps (by_pairs l.images))) (take l.arg-index l.arg-items))
    × (l.proofs ≡ map (undone_in l.maps (by_pairs l.images)) (take l.arg-index l.arg-items))
