-- Laws of the way back.
use Rattle.std.specs.Prelude.{◌≡◌, ℕ, List, [], map, Ok}
use Rattle.lisp_data.specs.Datum.{Datum}
use Rattle.terms.specs.Sound.{Sound}
use Rattle.terms.specs.Terms.{Tm}
use Rattle.terms.specs.Worlds.{World, Each, Fits, FitsSequent}
use Rattle.terms.specs.declared.sequent.Sequent.{Sequent}
use Rattle.reduction.specs.declared.kinds.How.{How}
use Rattle.reduction.specs.declared.run.Made.{Made}
use Rattle.reduction.specs.declared.run.Outcome.TheVariants.{Closed}
use Rattle.reduction.specs.declared.run.Task.{Task}
use Rattle.reduction.specs.Moves.{subgoal}
use Rattle.reduction.specs.Reduction.{reduce}
use Rattle.hints.specs.declared.hint.Hints.{Hints}
use Rattle.hints.specs.Start.{reduced}
use Rattle.hints.specs.Steps.{hints_from}
use Rattle.reduction_proofs.specs.Proving.{AllProved, ProvesCondition, FitsSubgoal, IsRule, FitsHints}
use Rattle.reduction_proofs.specs.Start.{proof_of}
use Rattle.reduction_proofs.specs.WayBack.{proofs}

-- hints that are read fit
abbrev pub HintsFit : Type 0
HintsFit = (W : World) → Sound W → (us : List Tm) (ds : List Datum) (h : Hints) → hints_from W us ds ≡ Ok h → FitsHints W us h

-- where all subgoals close, the way back has a proof of each
abbrev pub StepsProve : Type 0
StepsProve =
    (W : World) → Sound W → (us : List Tm) (how : How) → Each (IsRule W us) how.rules →
    Each (Fits W.functions) how.cases → (n : ℕ) (ts : List Task) → Each (λ t. FitsSubgoal W t.subgoal) ts →
    (ms : List Made) → reduce W how n ts ≡ Closed ms → AllProved W us (map (λ t. t.subgoal) ts) (proofs W ms [])

-- where the reduction of a well-formed condition closes, the way back proves the condition
abbrev pub ReductionsProve : Type 0
ReductionsProve =
    (W : World) → Sound W → (c : Sequent) → FitsSequent W.functions c → (h : Hints) → FitsHints W c.universals h →
    (n : ℕ) (ms : List Made) → reduced W h n (subgoal c.hyps c.goal) ≡ Closed ms →
    ProvesCondition W c (proof_of W h (subgoal c.hyps c.goal) ms)
