-- What becomes of an event: the checks in their order, whatever its kind.
use Rattle.std.specs.Prelude.{ℕ, Bool, true, false, ◌&&◌, ◌||◌, if◌then◌else◌, bytes_eq, codes, List, [], ◌∷◌, ◌++◌, Option, Some, None, Ok, Err}
use Rattle.lisp_data.specs.Values.{Name, Val}
use Rattle.lisp_data.specs.Datum.{Datum}
use Rattle.lisp_data.specs.declared.detail.Detail.TheVariants as detail
use Rattle.lisp_data.specs.declared.code.Code.{Code}
use Rattle.lisp_data.specs.declared.code.Code.TheVariants as code
use Rattle.terms.specs.Terms.{Tm}
use Rattle.terms.specs.Worlds.{World, is_in}
use Rattle.terms.specs.Sound.{add_event}
use Rattle.term_forms.specs.Translation.{Outcome, and_then, map_outcome}
use Rattle.terms.specs.declared.sequent.Sequent.{Sequent}
use Rattle.proof_objects.specs.ProofTrees.{ProofTree, steps}
use Rattle.proof_objects.specs.declared.rule.Rule.{Rule}
use Rattle.kernel.specs.Concludes.{BadNode, concludes, first_bad}
use Rattle.kernel.specs.declared.errors.RuleName.TheVariants.{Rule as OfRule, Claim}
use Rattle.event_forms.specs.Shapes.{Event, event_of}
use Rattle.event_forms.specs.Refused.{not_an_event}
use Rattle.proof_texts.specs.ProofTexts.{proof_of}
use Rattle.reduction.specs.declared.run.Outcome.{Outcome as Reduced}
use Rattle.reduction.specs.declared.run.Outcome.TheVariants.{Closed, Stuck, TooLong}
use Rattle.hints.specs.Steps.{hints_from}
use Rattle.hint_prover.specs.Answers.{reduction_of, leaf_of}
use Rattle.plans.specs.declared.plan.Condition.{Condition}
use Rattle.plans.specs.declared.plan.Plan.{Plan}
use Rattle.plans.specs.Entries.{add_entries}
use Rattle.plans.specs.Proving.{proves}
use Rattle.events.specs.declared.clauses.Way.{Way}
use Rattle.events.specs.declared.clauses.Way.TheVariants.{ByProof, ByHints}
use Rattle.events.specs.declared.refusal.Refusal.{Refusal}
use Rattle.events.specs.declared.refusal.Refusal.TheVariants.{Coded, ProofWrong, AtNode, NotProved}
use Rattle.events.specs.Definitions.{new_name}
use Rattle.events.specs.Frames.{Judged, coded, goes_on, Clauses, Frame}
use Rattle.events.specs.Kinds.{frame_of}
use Rattle.events.specs.Redundancy.{is_redundant}

-- accepted, with the world that it makes, accepted before, a value that is printed, or refused
pub data Verdict : Type 0 where
  Accepted : (world : World) → Verdict
  Redundant : Verdict
  Printed : (value : Val) → Verdict
  Refused : (why : Refusal) → Verdict

-- A new name, after those that the event gave before it. It is opened only where it is needed, since its tests would stand in each goal.
unfoldable pub name_after : World → List Name → Name → Outcome (Unit {0})
name_after W given n = if is_in given n then Err (code.NameTaken, detail.Name n) else new_name W n

-- the new names of an event, in order
abbrev pub new_names : World → List Name → List Name → Outcome (Unit {0})
new_names W given [] = Ok tt
new_names W given (n ∷ ns) = and_then (name_after W given n) (λ _. new_names W (given ++ n ∷ []) ns)

abbrev pub is_condition : List Condition → Name → Bool
is_condition [] n = false
is_condition (c ∷ cs) n = bytes_eq c.name n || is_condition cs n

abbrev pub are_conditions : List Condition → List (Name × Datum) → Bool
are_conditions cs [] = true
are_conditions cs (p ∷ ps) = is_condition cs p.0 && are_conditions cs ps

-- hints can be for all conditions
abbrev pub is_served : List Condition → Name → Bool
is_served cs n = bytes_eq n (codes ":ALL") || is_condition cs n

abbrev pub are_served : List Condition → List (Name × List Datum) → Bool
are_served cs [] = true
are_served cs (h ∷ hs) = is_served cs h.0 && are_served cs hs

-- each clause is of a condition
abbrev pub of_conditions : List Condition → Clauses → Outcome (Unit {0})
of_conditions cs clauses =
    if are_conditions cs clauses.proofs && are_served cs clauses.hows then Ok tt else Err (code.ShapeMismatch, detail.Word (codes "conditions"))

-- what stands under a condition's name
abbrev pub clause_of : {A : Type 0} → List (Name × A) → Name → Option A
clause_of [] n = None
clause_of (p ∷ ps) n = if bytes_eq n p.0 then Some p.1 else clause_of ps n

-- the steps of a condition's hints: those of its own clause, else those for all conditions, else none
abbrev pub own_steps : Option (List Datum) → List Datum → List Datum
own_steps (Some steps) others = steps
own_steps None others = others

abbrev pub steps_for : List (Name × List Datum) → Name → List Datum
steps_for hows n = own_steps (clause_of hows n) (own_steps (clause_of hows (codes ":ALL")) [])

-- How a condition with these universals is proved: by the proof of a text, where it has one, else by its hints. It is opened only where it is
-- needed, since the reading of a proof would stand in each goal.
unfoldable pub way_by : World → List Tm → Option Datum → List Datum → Outcome Way
way_by W us (Some text) steps = map_outcome ByProof (proof_of W text)
way_by W us None steps = map_outcome ByHints (hints_from W us steps)

abbrev pub way_of : World → Clauses → Condition → Outcome Way
way_of W clauses c = way_by W c.sequent.universals (clause_of clauses.proofs c.name) (steps_for clauses.hows c.name)

-- the ways of conditions, in order
abbrev pub ways : World → Clauses → List Condition → Outcome (List Way)
ways W clauses [] = Ok []
ways W clauses (c ∷ cs) =
    and_then (way_of W clauses c) (λ w. map_outcome (λ ws. w ∷ ws) (ways W clauses cs))

-- why a condition's proof is refused at a node: the proof is wrong, or the node's rule computes and met a limit
abbrev pub refused_at : Name → ℕ → Rule → Code → Refusal
refused_at condition node rule code.ProofWrong = ProofWrong condition node (OfRule rule)
refused_at condition node rule limit = AtNode limit condition node

-- the first bad node; there is one in each proof that concludes nothing (the kernel's law `bad_where_nothing`), so the first case never comes
abbrev pub bad_node : Name → Option BadNode → Refusal
bad_node condition None = Coded code.NotAnEvent detail.Absent
bad_node condition (Some bad) = refused_at condition bad.node bad.rule bad.code

-- what a proof concludes has to prove the condition
abbrev pub by_conclusion : World → Condition → ProofTree → Option Sequent → Judged (Unit {0})
by_conclusion W c p None = Err (bad_node c.name (first_bad W 0 p))
by_conclusion W c p (Some s) = if proves s c.sequent then Ok tt else Err (ProofWrong c.name (steps p) Claim)

-- the reduction of a condition has to close
abbrev pub by_reduction : Condition → Reduced → Judged (Unit {0})
by_reduction c (Closed made) = Ok tt
by_reduction c (Stuck leaf) = Err (NotProved c.name (leaf_of c.sequent leaf))
by_reduction c TooLong = Err (Coded code.StepLimit (detail.Name c.name))

abbrev pub by_way : World → Condition → Way → Judged (Unit {0})
by_way W c (ByHints h) = by_reduction c (reduction_of W c.sequent h)
by_way W c (ByProof p) = by_conclusion W c p (concludes W p)

-- the conditions in order, each in its way; one without a way never comes
abbrev pub all_proved : World → List Condition → List Way → Judged (Unit {0})
all_proved W [] ws = Ok tt
all_proved W (c ∷ cs) [] = coded not_an_event
all_proved W (c ∷ cs) (w ∷ ws) = goes_on (by_way W c w) (λ _. all_proved W cs ws)

-- the plan of an event whose conditions are proved: its clauses come first, then the texts of all proofs, then the proofs
abbrev pub proved : World → Clauses → Plan → Judged Plan
proved W clauses p =
    goes_on (coded (of_conditions p.conditions clauses)) (λ _.
    goes_on (coded (ways W clauses p.conditions)) (λ ws.
    goes_on (all_proved W p.conditions ws) (λ _. Ok p)))

-- the plan of an event that passes all checks: its new names come first, then the event's own checks, then its conditions
abbrev pub checked : World → Frame → Judged Plan
checked W e = goes_on (coded (new_names W [] e.names)) (λ _. goes_on (e.plan W) (proved W e.clauses))

-- the world that an accepted event makes, and which keeps it
abbrev pub made : World → Datum → Plan → World
made W form p = add_event form (add_entries p.entries W)

abbrev pub printed : Judged Val → Verdict
printed (Ok v) = Printed v
printed (Err why) = Refused why

-- an event that prints has its value for its end; another one makes what it plans
abbrev pub ended_by : World → Datum → Option (World → Judged Val) → Plan → Verdict
ended_by W form None p = Accepted (made W form p)
ended_by W form (Some value) p = printed (value W)

abbrev pub ended : World → Datum → Option (World → Judged Val) → Judged Plan → Verdict
ended W form prints (Ok p) = ended_by W form prints p
ended W form prints (Err why) = Refused why

-- nothing more of an event is looked at where it was accepted before
abbrev pub verdict_of : World → Datum → Frame → Verdict
verdict_of W form e = if is_redundant W form e.repeats then Redundant else ended W form e.prints (checked W e)

abbrev pub by_shape : World → Datum → Outcome Event → Verdict
by_shape W form (Ok event) = verdict_of W form (frame_of event)
by_shape W form (Err e) = Refused (Coded e.0 e.1)

-- the shape of an event comes first
abbrev pub verdict : World → Datum → Verdict
verdict W form = by_shape W form (event_of form)
