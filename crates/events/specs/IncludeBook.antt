-- `include-book`, which makes nothing and may stand again.
use Rattle.std.specs.Prelude.{ℕ, List, [], ◌++◌, codes, None, Ok, false}
use Rattle.plans.specs.Plans.{no_plan}
use Rattle.events.specs.Frames.{Frame, Never, no_clauses}

abbrev pub include_book : List ℕ → Frame
include_book book = record {
  title = codes "include-book " ++ book;
  shows = false;
  prints = None;
  names = [];
  repeats = Never;
  clauses = no_clauses;
  plan = λ W. Ok no_plan;
}
