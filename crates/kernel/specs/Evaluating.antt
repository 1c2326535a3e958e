-- The rule that computes the value of a term.
use Rattle.std.specs.Prelude.{◌&&◌, Bool, true, false, if◌then◌else◌, Option, Some, None}
use Rattle.std.specs.Option.{option_map}
use Rattle.lisp_data.specs.Values.{Val}
use Rattle.lisp_data.specs.declared.code.Code.{Code}
use Rattle.lisp_data.specs.declared.code.Code.TheVariants.{ProofWrong, HasFunctionVariables, EvalTooManyCalls, EvalTooWide, EvalTooLarge}
use Rattle.terms.specs.Terms.{Tm, Var, Quote, Call, Tms, Done, More}
use Rattle.terms.specs.Worlds.{Functions}
use Rattle.terms.specs.declared.sequent.Sequent.{Sequent}
use Rattle.evaluator.specs.Counted.{Outcome, Gives, Stops, Refusal, IsVariable, ManyCalls, Wide, Large, Stuck, evaluated}
use Rattle.kernel.specs.Fitting.{fits}
use Rattle.kernel.specs.Sequents.{equation, of_goal}

-- the term has no variables
abbrev mutual
  pub is_ground : Tm → Bool
  is_ground (Var x) = false
  is_ground (Quote v) = true
  is_ground (Call f ts) = all_ground ts

  pub all_ground : Tms → Bool
  all_ground Done = true
  all_ground (More t ts) = is_ground t && all_ground ts

-- the term can be evaluated: it has no variables and is well formed
abbrev pub can_evaluate : Functions → Tm → Bool
can_evaluate W a = fits W a && is_ground a

-- the value, where evaluation gives one
abbrev pub value_of : Outcome → Option Val
value_of (Gives v c) = Some v
value_of (Stops r) = None

-- evaluate: `(equal a 'v)`, where v is the value that evaluation within the limits gives
abbrev pub computed : Functions → Tm → Option Sequent
computed W a =
    if can_evaluate W a then option_map (λ v. of_goal (equation a (Quote v))) (value_of (evaluated W.defs a)) else None

-- the code of a limit of evaluation, or of a call of a function variable
abbrev pub code_of_refusal : Refusal → Code
code_of_refusal (IsVariable f) = HasFunctionVariables
code_of_refusal ManyCalls = EvalTooManyCalls
code_of_refusal Wide = EvalTooWide
code_of_refusal Large = EvalTooLarge
code_of_refusal Stuck = ProofWrong

abbrev pub code_of_outcome : Outcome → Code
code_of_outcome (Gives v c) = ProofWrong
code_of_outcome (Stops r) = code_of_refusal r

-- the code of an evaluation that concludes nothing: why a term that can be evaluated has no value
abbrev pub evaluation_code : Functions → Tm → Code
evaluation_code W a = if can_evaluate W a then code_of_outcome (evaluated W.defs a) else ProofWrong
