-- `in-package`, which makes nothing and may stand again.
use Rattle.std.specs.Prelude.{[], codes, None, Ok, false}
use Rattle.plans.specs.Plans.{no_plan}
use Rattle.events.specs.Frames.{Frame, Never, no_clauses}

abbrev pub in_package : Frame
in_package = record {
  title = codes "in-package ACL2";
  shows = false;
  prints = None;
  names = [];
  repeats = Never;
  clauses = no_clauses;
  plan = λ W. Ok no_plan;
}
