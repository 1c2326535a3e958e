use Rattle.std.proofs.Common.{◌≡◌, ◌+◌, ◌*◌, drop}
use Rattle.std.specs.Option.{option_map}
use Rattle.terms.specs.Terms.{depth, depths, tms}
use Rattle.reduction.specs.Hyps.{left}
use Rattle.reduction.specs.Finds.{finds}
use Rattle.reduction.specs.Seek.{seek_in, shifted}
use Rattle.reduction.proofs.seek.+seek.Given as goal

abbrev pub decreases-seek_up : goal.decreases-seek_up
decreases-seek_up l = 2 * depth l.term.now + 1

abbrev pub decreases-seek_up_in : goal.decreases-seek_up_in
decreases-seek_up_in l = 2 * depths (tms l.args.now)

abbrev pub invariant-seek_up_in-loop-i : goal.invariant-seek_up_in-loop-i
invariant-seek_up_in-loop-i l =
    let c = finds l.setting.world.now l.setting.how.now l.kind (left l.others) in
    option_map (shifted l.i) (seek_in c (tms (drop l.i l.args))) ≡ seek_in c (tms l.args)
