use Rattle.std.proofs.Common.{◌≡◌, List, length}
use Rattle.kernel.specs.Conclusion.{Conclusion}
use Rattle.events.specs.Laws.{ConditionsFit}
use Rattle.events.specs.view.Halts.{FitWays, AreProvedAfter}
use Rattle.events.specs.Verdicts.{all_proved}
use Rattle.events.proofs.proving.prove_all.Given as goal

abbrev pub invariant-loop-rest : goal.invariant-loop-rest
invariant-loop-rest l = record {
  same : all_proved l.world l.rest l.others ≡ all_proved l.world l.conditions l.ways;
  whole : (new : List Conclusion) → AreProvedAfter l.world l.rest l.others l.before new → AreProvedAfter l.world l.conditions l.ways l.fn.before new;
  fits : ConditionsFit l.world l.rest;
  suited : FitWays l.world l.rest l.others;
}

abbrev pub decreases-loop-rest : goal.decreases-loop-rest
decreases-loop-rest l = length l.rest
