use Rattle.std.proofs.Common.{◌≡◌, drop}
use Rattle.reduction.specs.Hyps.{left}
use Rattle.reduction.specs.Rules.{all_proved}
use Rattle.reduction.proofs.rules.all_proved.Given as goal

abbrev pub invariant-loop-need : goal.invariant-loop-need
invariant-loop-need l =
    all_proved (left l.others) l.s (drop l.need-index l.needs) ≡ all_proved (left l.others) l.s l.needs
