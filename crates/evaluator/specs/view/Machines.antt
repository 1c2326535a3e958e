-- What the machine's states stand for.
use Rattle.std.specs.Prelude.{◌≡◌, ◌≤◌, ◌<◌, ◌+◌, ◌*◌, ℕ, max, cond, List, [], ◌∷◌, ◌++◌, map, take, drop, length, sum_by, Option, Some, None, Result, Ok, Err}
use Rattle.lisp_data.specs.Values.{Name, Val}
use Rattle.lisp_data.specs.ValueView.{val_of}
use Rattle.lisp_data.specs.declared.value.Value.{Value}
use Rattle.terms.specs.Primitives.{primitive, is_nil}
use Rattle.terms.specs.Terms.{Tm, Var, Quote, Call, Tms, Done, More, tms}
use Rattle.terms.specs.declared.definition.Definition.{Definition}
use Rattle.terms.specs.Evaluation.{Env, bind}
use Rattle.evaluator.specs.Counted.{Refusal, IsVariable, ManyCalls, Wide, Large, Stuck, Outcome, Gives, Stops, Step, then_step, gathered, Act, counted, steps, calls, body_run}
use Rattle.evaluator.specs.declared.errors.Halt.{Halt}
use Rattle.evaluator.specs.declared.errors.Halt.TheVariants.{HasFunctionVariables, TooManyCalls, TooWide, TooLarge, NotWellFormed, Memory}
use Rattle.evaluator.specs.declared.machine.Scope.{Scope}
use Rattle.evaluator.specs.declared.machine.Frame.{Frame}
use Rattle.evaluator.specs.declared.machine.Frame.TheVariants.{Arguments, Branches}
use Rattle.evaluator.specs.declared.machine.Control.{Control}
use Rattle.evaluator.specs.declared.machine.Control.TheVariants.{Evaluate, Give}
use Rattle.evaluator.specs.declared.machine.Turn.{Turn}
use Rattle.evaluator.specs.declared.machine.Turn.TheVariants.{Next, Over}
use Rattle.evaluator.specs.declared.machine.Machine.{Machine}

-- ---- what waits for a value, and what comes of the whole

pub data Waiting : Type 0 where
  -- a call, with the values of its first arguments and the rest of them
  Rest : Name → List Val → Tms → Env → Waiting
  -- an `if`'s branches
  Either : Tm → Tm → Env → Waiting

abbrev pub continue : Act → Waiting → Val → Step
continue act (Rest f vs ts env) v = gathered (act f) (vs ++ v ∷ []) (steps act ts env)
continue act (Either b d env) v = cond (is_nil v) (counted act d env) (counted act b env)

-- the outcome of the whole from that of a part; the last one waits for it
abbrev pub resumed : Act → List Waiting → Outcome → Outcome
resumed act [] o = o
resumed act (w ∷ ws) o = then_step (resumed act ws o) (continue act w)

-- ---- the machine's data as these

-- what the variables have
abbrev pub env_of : Scope → List Val → Env
env_of s vs = bind s.formals.now (drop s.start vs)

abbrev pub height : Frame → ℕ
height (Arguments name rest start h scope) = h
height (Branches b d h scope) = h

-- what it keeps lies from here on
abbrev pub base : Frame → ℕ
base (Arguments name rest start h scope) = start
base (Branches b d h scope) = h

abbrev pub waiting : List Val → Frame → Waiting
waiting vs (Arguments name rest start h scope) = Rest name.now (drop start (take h vs)) (tms rest.now) (env_of scope (take h vs))
waiting vs (Branches b d h scope) = Either b.now d.now (env_of scope (take h vs))

-- the variables' values lie below a place
abbrev pub Lies : Scope → ℕ → Type 0
Lies s n = s.start + length s.formals.now ≤ n

abbrev pub Inside : Frame → Type 0
Inside (Arguments name rest start h scope) = (start ≤ h) × Lies scope h
Inside (Branches b d h scope) = Lies scope h

-- The frames below a frame use no value from its base on, and the last none from a place on.
abbrev pub Stacked : ℕ → List Frame → ℕ → Type 0
Stacked low [] n = low ≤ n
Stacked low (f ∷ fs) n = (low ≤ base f) × Inside f × Stacked (height f) fs n

-- the height of the last frame, or a place where there is none
abbrev pub top : ℕ → List Frame → ℕ
top low [] = low
top low (f ∷ fs) = top (height f) fs

abbrev pub vals : Machine → List Val
vals m = map val_of m.values.items

abbrev pub IsNoPrimitive : Name → Type 0
IsNoPrimitive f = primitive f ≡ None

abbrev pub act_of : List Definition → Act
act_of ds = calls ds (body_run ds)

abbrev pub LiesIn : Control → ℕ → Type 0
LiesIn (Evaluate t s) n = Lies s n
LiesIn (Give v) n = Unit {0}

abbrev pub now : List Definition → Control → List Val → Step
now ds (Evaluate t s) vs c = counted (act_of ds) t.now (env_of s vs) c
now ds (Give v) vs c = Gives (val_of v) c

-- the outcome of the whole from that of a part, as the machine stands
abbrev pub whole : List Definition → Machine → Outcome → Outcome
whole ds m o = resumed (act_of ds) (map (waiting (vals m)) m.frames.items) o

-- the machine stands in order, and the outcome of the whole is o
pub record Stands (ds : List Definition) (m : Machine) (k : Control) (o : Outcome) : Type 0 where
  pub stacked : Stacked 0 m.frames.items (length m.values.items)
  pub lies : LiesIn k (length m.values.items)
  pub same : whole ds m (now ds k (vals m) m.calls) ≡ o

-- The values from start on lie from low on; what the frames use is as it was.
pub record IsLowered (m : Machine) (start : ℕ) (n : Machine) (low : ℕ) : Type 0 where
  pub frames : n.frames.items ≡ m.frames.items
  pub calls : n.calls ≡ m.calls
  pub callees : n.callees ≡ m.callees
  pub below : take low (vals n) ≡ take low (vals m)
  pub moved : drop low (vals n) ≡ drop start (vals m)
  pub within : low ≤ length n.values.items
  pub stacked : Stacked 0 n.frames.items low

-- ---- what is left to do

abbrev mutual
  pub weight : Tm → ℕ
  weight (Var x) = 1
  weight (Quote v) = 1
  weight (Call f ts) = 1 + weights ts

  pub weights : Tms → ℕ
  weights Done = 0
  weights (More t ts) = weight t + 1 + weights ts

-- the heaviest body
abbrev pub heaviest : List Definition → ℕ
heaviest [] = 0
heaviest (d ∷ ds) = max (weight d.body) (heaviest ds)

abbrev pub load : Frame → ℕ
load (Arguments name rest start h scope) = 1 + weights (tms rest.now)
load (Branches b d h scope) = 1 + weight b.now + weight d.now

abbrev pub weight_of : Control → ℕ
weight_of (Evaluate t s) = weight t.now
weight_of (Give v) = 0

-- what the calls that are left may come to, what waits, and so much now
abbrev pub effort : List Definition → Machine → ℕ → ℕ
effort ds m n = m.calls * (1 + heaviest ds) + (sum_by load m.frames.items + n)

-- the same, with less left to do than so much
pub record Leads (ds : List Definition) (m : Machine) (k : Control) (o : Outcome) (most : ℕ) : Type 0 where
  pub stands : Stands ds m k o
  pub less : effort ds m (weight_of k) < most

abbrev pub refusal : Halt → Option Refusal
refusal (HasFunctionVariables f) = Some (IsVariable f)
refusal TooManyCalls = Some ManyCalls
refusal TooWide = Some Wide
refusal TooLarge = Some Large
refusal NotWellFormed = Some Stuck
refusal Memory = None

abbrev pub StopsWith : Outcome → Option Refusal → Type 0
StopsWith o None = Unit {0}
StopsWith o (Some r) = o ≡ Stops r

-- The machine goes on to the same outcome, or the outcome is the refusal.
abbrev pub Goes : List Definition → Outcome → ℕ → Machine → Result Control Halt → Type 0
Goes ds o most m (Ok k) = Leads ds m k o most
Goes ds o most m (Err e) = StopsWith o (refusal e)

-- the same, or it is at the end
abbrev pub Turns : List Definition → Outcome → ℕ → Machine → Result Turn Halt → Type 0
Turns ds o most m (Ok (Next k)) = Leads ds m k o most
Turns ds o most m (Ok (Over v)) = (c : ℕ) × (o ≡ Gives (val_of v) c)
Turns ds o most m (Err e) = StopsWith o (refusal e)

-- what is answered is the outcome, unless memory ran out
abbrev pub Ends : Outcome → Result Value Halt → Type 0
Ends o (Ok v) = (c : ℕ) × (o ≡ Gives (val_of v) c)
Ends o (Err e) = StopsWith o (refusal e)

-- the same of a variable's value, and of a primitive's result
abbrev pub FoundOr : Option Refusal → Option Val → Type 0
FoundOr (Some Stuck) o = o ≡ None
FoundOr None o = Unit {0}
FoundOr _ o = ⊥

abbrev pub SaysFound : Option Val → Result Value Halt → Type 0
SaysFound o (Ok v) = o ≡ Some (val_of v)
SaysFound o (Err e) = FoundOr (refusal e) o

abbrev pub RefusedAs : Result Val Refusal → Option Refusal → Type 0
RefusedAs x None = Unit {0}
RefusedAs x (Some r) = x ≡ Err r

abbrev pub SaysResult : Result Val Refusal → Result Value Halt → Type 0
SaysResult x (Ok v) = x ≡ Ok (val_of v)
SaysResult x (Err e) = RefusedAs x (refusal e)
