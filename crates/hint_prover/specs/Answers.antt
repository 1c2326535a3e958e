-- What the prover answers: how the reduction of a condition by hints ends.
use Rattle.std.specs.Prelude.{◌≡◌, ℕ, Option, Some, None, Result, Ok, Err}
use Rattle.terms.specs.Worlds.{World}
use Rattle.terms.specs.declared.sequent.Sequent.{Sequent}
use Rattle.kernel.specs.Conclusion.{Conclusion}
use Rattle.reduction.specs.declared.moves.Subgoal.{Subgoal}
use Rattle.reduction.specs.declared.run.Outcome.{Outcome}
use Rattle.reduction.specs.declared.run.Outcome.TheVariants.{Closed, Stuck, TooLong}
use Rattle.reduction.specs.Moves.{subgoal}
use Rattle.hints.specs.declared.hint.Hints.{Hints}
use Rattle.hints.specs.Start.{reduced}
use Rattle.hint_prover.specs.declared.errors.ProveError.{ProveError}
use Rattle.hint_prover.specs.declared.errors.ProveError.TheVariants.{NotProved, StepLimit, Memory}

-- how many steps a reduction may make; shut, since a reduction by a known number of steps would be computed
unfoldable pub step_limit : ℕ
step_limit = 10000

abbrev pub subgoal_of : Sequent → Subgoal
subgoal_of c = subgoal c.hyps c.goal

-- the reduction of a condition by hints
abbrev pub reduction_of : World → Sequent → Hints → Outcome
reduction_of W c h = reduced W h step_limit (subgoal_of c)

-- a leaf, with the universals of the condition
abbrev pub leaf_of : Sequent → Subgoal → Sequent
leaf_of c s = record { universals = c.universals; hyps = s.hyps; goal = s.goal }

-- the answer is how the reduction ends, or being out of memory
abbrev pub Answers : Sequent → Outcome → Result Conclusion ProveError → Type 0
Answers c (Closed ms) (Ok it) = Unit {0}
Answers c (Stuck s) (Err (NotProved r)) = r ≡ leaf_of c s
Answers c TooLong (Err StepLimit) = Unit {0}
Answers c o (Err Memory) = Unit {0}
Answers c _ _ = ⊥

-- a fact of the stuck leaf
abbrev pub IfNotProved : Result Conclusion ProveError → (Sequent → Type 0) → Type 0
IfNotProved (Err (NotProved r)) P = P r
IfNotProved _ P = Unit {0}
