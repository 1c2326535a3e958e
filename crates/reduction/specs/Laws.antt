-- Laws of the reduction.
use Rattle.std.specs.Prelude.{◌≡◌, ℕ, Bool, List, Option, Some, None, IsSome}
use Rattle.terms.specs.Terms.{Tm}
use Rattle.terms.specs.Paths.{part_at, put_part}
use Rattle.terms.specs.Worlds.{World}
use Rattle.reduction.specs.declared.found.Found.{Found}
use Rattle.reduction.specs.declared.found.At.{At}
use Rattle.reduction.specs.declared.kinds.How.{How}
use Rattle.reduction.specs.declared.moves.Subgoal.{Subgoal}
use Rattle.reduction.specs.declared.run.Task.{Task}
use Rattle.reduction.specs.declared.run.Outcome.TheVariants.{Stuck}
use Rattle.reduction.specs.Reduction.{next, reduce}
use Rattle.reduction.specs.Seek.{seek}

-- no kind of step applies at a leaf that is answered
abbrev pub LeavesStuck : Type 0
LeavesStuck =
    (W : World) (how : How) (n : ℕ) (ts : List Task) (leaf : Subgoal) → reduce W how n ts ≡ Stuck leaf →
    next W how leaf ≡ None

-- what is found stands at its path, where another part can be put
abbrev pub FoundStands : Type 0
FoundStands =
    (c : Bool → Tm → Option Found) (whole : Bool) (t u : Tm) (r : At) → seek c whole t ≡ Some r →
    (part_at r.path t ≡ Some r.part) × IsSome (put_part r.path u t)
