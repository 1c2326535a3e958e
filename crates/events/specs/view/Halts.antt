-- What the calls that handle an event answer.
use Rattle.std.specs.Prelude.{◌≡◌, ℕ, Bool, true, if◌then◌else◌, bytes_eq, codes, List, [], ◌∷◌, ◌++◌, map, Option, Some, None, IfSome, Result, Ok, Err}
use Rattle.lisp_data.specs.FormView.{form_of, IsProper, AllProper}
use Rattle.lisp_data.specs.Datum.{Datum}
use Rattle.lisp_data.specs.Values.{Name, Val}
use Rattle.lisp_data.specs.declared.code.Code.{Code}
use Rattle.lisp_data.specs.declared.code.Code.TheVariants as code
use Rattle.lisp_data.specs.declared.detail.Detail.{Detail}
use Rattle.lisp_data.specs.declared.detail.Detail.TheVariants as detail
use Rattle.terms.specs.Terms.{Tm}
use Rattle.terms.specs.Worlds.{World}
use Rattle.term_forms.specs.Translation.{Outcome, map_outcome}
use Rattle.term_forms.specs.declared.translation.TermError.{TermError}
use Rattle.term_forms.specs.declared.translation.TermError.TheVariants as term
use Rattle.evaluator.specs.declared.errors.EvalError.{EvalError}
use Rattle.evaluator.specs.declared.errors.EvalError.TheVariants as eval
use Rattle.kernel.specs.Conclusion.{Conclusion}
use Rattle.kernel.specs.declared.errors.RuleName.{RuleName}
use Rattle.terms.specs.declared.sequent.Sequent.{Sequent}
use Rattle.hints.specs.declared.errors.HintError.{HintError}
use Rattle.hints.specs.declared.errors.HintError.TheVariants as hint
use Rattle.event_forms.specs.Clauses.{clauses_in, hints_in}
use Rattle.event_forms.specs.ShapeView.{if_given}
use Rattle.event_forms.specs.Shapes.{Event}
use Rattle.event_forms.specs.declared.errors.EventError.{EventError}
use Rattle.event_forms.specs.declared.errors.EventError.TheVariants as event
use Rattle.proof_texts.specs.declared.errors.ProofError.{ProofError}
use Rattle.proof_texts.specs.declared.errors.ProofError.TheVariants as proof
use Rattle.soft_vars.specs.declared.errors.SoftError.{SoftError}
use Rattle.soft_vars.specs.declared.errors.SoftError.TheVariants as soft
use Rattle.plan_checks.specs.declared.errors.PlanError.{PlanError}
use Rattle.plan_checks.specs.declared.errors.PlanError.TheVariants as planned
use Rattle.reduction_proofs.specs.Proving.{FitsHints}
use Rattle.plans.specs.declared.plan.Condition.{Condition}
use Rattle.plans.specs.declared.plan.Plan.{Plan}
use Rattle.plans.specs.Entries.{AdmitsAll, add_entries}
use Rattle.plans.specs.Proving.{proves, sequents, ProvesAll, AreProofs}
use Rattle.events.specs.declared.refusal.Refusal.TheVariants.{Coded, ProofWrong, AtNode, NotProved}
use Rattle.events.specs.declared.halt.Halt.{Halt}
use Rattle.events.specs.declared.halt.Halt.TheVariants.{Refused, Memory}
use Rattle.events.specs.declared.clauses.Clauses.{Clauses}
use Rattle.events.specs.declared.clauses.Clauses.TheVariants.{NoClauses, Goal, Each}
use Rattle.events.specs.declared.clauses.Way.{Way}
use Rattle.events.specs.declared.clauses.Way.TheVariants.{ByProof, ByHints}
use Rattle.events.specs.declared.handle.Made.{Made}
use Rattle.events.specs.declared.redundancy.Statement.{Statement}
use Rattle.events.specs.declared.redundancy.Repeats.{Repeats}
use Rattle.events.specs.declared.redundancy.Repeats.TheVariants.{Never, AsForm, AsTheorem}
use Rattle.events.specs.declared.steps.StepAnswer.{StepAnswer}
use Rattle.events.specs.declared.steps.StepAnswer.TheVariants as answer
use Rattle.events.specs.Frames as frames
use Rattle.events.specs.Frames.{Judged, Frame}
use Rattle.events.specs.Kinds.{frame_of}
use Rattle.events.specs.Verdicts as verdict
use Rattle.events.specs.Defthm.{goal_clauses}
use Rattle.events.specs.Verdicts.{is_condition, is_served, by_way, all_proved, checked, verdict_of}
use Rattle.events.specs.Lines.{event_text, value_line}
use Rattle.events.specs.Shown.{frame_lines}
use Rattle.events.specs.declared.handle.EventProofs.{EventProofs}

-- the refusal has this code and this detail, or it is want of memory
abbrev pub IsCoded : Code → Detail → Halt → Type 0
IsCoded code detail (Refused why) = why ≡ Coded code detail
IsCoded code detail Memory = Unit {0}

-- a condition's proof is wrong, or it is want of memory
abbrev pub IsWrong : Name → ℕ → RuleName → Halt → Type 0
IsWrong condition node rule (Refused why) = why ≡ ProofWrong condition node rule
IsWrong condition node rule Memory = Unit {0}

-- a condition isn't proved by its hints, or it is want of memory
abbrev pub IsStuck : Name → Sequent → Halt → Type 0
IsStuck condition leaf (Refused why) = why ≡ NotProved condition leaf
IsStuck condition leaf Memory = Unit {0}

-- a rule of a condition's proof can't go on, or it is want of memory
abbrev pub IsStopped : Name → ℕ → Code → Halt → Type 0
IsStopped condition node code (Refused why) = why ≡ AtNode code condition node
IsStopped condition node code Memory = Unit {0}

-- an error is the outcome's refusal, or want of memory
abbrev pub IsRefusal : {A : Type 0} → Outcome A → Halt → Type 0
IsRefusal o (Refused (Coded code detail)) = o ≡ Err (code, detail)
IsRefusal o (Refused _) = ⊥
IsRefusal o Memory = Unit {0}

-- the answer is the outcome's: what is read, as it is seen, or its refusal
abbrev pub Reads : {A B : Type 0} → (A → B) → Outcome B → Result A Halt → Type 0
Reads seen o (Ok x) = o ≡ Ok (seen x)
Reads seen o (Err e) = IsRefusal o e

-- the answer is what was judged, as it is seen, or its refusal
abbrev pub Says : {A B : Type 0} → (A → B) → Judged B → Result A Halt → Type 0
Says seen o (Ok x) = o ≡ Ok (seen x)
Says seen o (Err (Refused why)) = o ≡ Err why
Says seen o (Err Memory) = Unit {0}

-- an error of a form, a proof's text or a term, as what ends the handling of its event
abbrev pub IsFromEvent : EventError → Halt → Type 0
IsFromEvent (event.Refused code detail) e = e ≡ Refused (Coded code detail)
IsFromEvent event.Memory e = e ≡ Memory

abbrev pub IsFromProof : ProofError → Halt → Type 0
IsFromProof (proof.Refused code detail) e = e ≡ Refused (Coded code detail)
IsFromProof proof.Memory e = e ≡ Memory

abbrev pub IsFromHint : HintError → Halt → Type 0
IsFromHint (hint.Refused code detail) e = e ≡ Refused (Coded code detail)
IsFromHint hint.Memory e = e ≡ Memory

abbrev pub IsFromTerm : TermError → Halt → Type 0
IsFromTerm (term.Refused code detail) e = e ≡ Refused (Coded code detail)
IsFromTerm term.Memory e = e ≡ Memory

abbrev pub IsFromSoft : SoftError → Halt → Type 0
IsFromSoft (soft.Refused code detail) e = e ≡ Refused (Coded code detail)
IsFromSoft soft.Memory e = e ≡ Memory

abbrev pub IsFromPlan : PlanError → Halt → Type 0
IsFromPlan (planned.Refused code detail) e = e ≡ Refused (Coded code detail)
IsFromPlan planned.Memory e = e ≡ Memory

abbrev pub IsFromEvaluation : EvalError → Halt → Type 0
IsFromEvaluation (eval.HasFunctionVariables f) e = e ≡ Refused (Coded code.HasFunctionVariables (detail.Name f))
IsFromEvaluation eval.TooManyCalls e = e ≡ Refused (Coded code.EvalTooManyCalls detail.Absent)
IsFromEvaluation eval.TooWide e = e ≡ Refused (Coded code.EvalTooWide detail.Absent)
IsFromEvaluation eval.TooLarge e = e ≡ Refused (Coded code.EvalTooLarge detail.Absent)
IsFromEvaluation eval.Memory e = e ≡ Memory

-- what the code's clauses are seen as
abbrev pub clauses_seen : Clauses → frames.Clauses
clauses_seen NoClauses = frames.no_clauses
clauses_seen (Goal proof how) = goal_clauses (if_given proof (λ p. form_of p.now)) (if_given how (λ steps. map form_of steps.now))
clauses_seen (Each proofs hows) = record { proofs = clauses_in (map form_of proofs.now); hows = hints_in (map form_of hows.now) }

abbrev pub AreProper : Clauses → Type 0
AreProper NoClauses = Unit {0}
AreProper (Goal proof how) = IfSome proof (λ p. IsProper p.now) × IfSome how (λ steps. AllProper steps.now)
AreProper (Each proofs hows) = AllProper proofs.now × AllProper hows.now

-- what is a clause is of a condition
abbrev pub of_condition : List Condition → Option (Name × Datum) → Bool
of_condition cs None = true
of_condition cs (Some c) = is_condition cs c.0

-- what is a clause of hints serves a condition
abbrev pub serves_condition : List Condition → Option (Name × List Datum) → Bool
serves_condition cs None = true
serves_condition cs (Some c) = is_served cs c.0

-- what a clause has for the condition n
abbrev pub part_under : {A : Type 0} → Option (Name × A) → Name → Option A
part_under None n = None
part_under (Some c) n = if bytes_eq n c.0 then Some c.1 else None

-- the way is one for a condition with these universals
abbrev pub FitsWay : World → List Tm → Way → Type 0
FitsWay W us (ByProof p) = Unit {0}
FitsWay W us (ByHints h) = FitsHints W us h

abbrev pub FitWays : World → List Condition → List Way → Type 0
FitWays W [] ws = Unit {0}
FitWays W (c ∷ cs) [] = Unit {0}
FitWays W (c ∷ cs) (w ∷ ws) = FitsWay W c.sequent.universals w × FitWays W cs ws

abbrev pub statement_seen : Statement → frames.Statement
statement_seen s = record { formula = form_of s.formula.now; assumed = map form_of s.assumed.now }

-- what the code's word on redundancy is seen as
abbrev pub repeats_seen : Repeats → frames.Repeats
repeats_seen Never = frames.Never
repeats_seen AsForm = frames.AsForm
repeats_seen (AsTheorem name statement) = frames.AsTheorem name.now (statement_seen statement)

pub record IsProperStatement (s : Statement) : Type 0 where
  pub formula : IsProper s.formula.now
  pub assumed : AllProper s.assumed.now

abbrev pub HasProperStatement : Repeats → Type 0
HasProperStatement Never = Unit {0}
HasProperStatement AsForm = Unit {0}
HasProperStatement (AsTheorem name statement) = IsProperStatement statement

-- more, behind what there is
abbrev pub joined : {A : Type 0} → List A → Outcome (List A) → Outcome (List A)
joined xs o = map_outcome (λ ys. xs ++ ys) o

-- what an accepted event makes by its plan, in which it isn't kept yet
pub record IsMade (W : World) (p : Plan) (made : Made) : Type 0 where
  pub plan : made.plan ≡ p
  pub world : made.world ≡ add_entries p.entries W
  pub proved : AreProofs W p made.proofs.before made.proofs.after

-- the answer is the plan that was judged: what it makes, or its refusal
abbrev pub Judges : World → Judged Plan → Result Made Halt → Type 0
Judges W o (Ok made) = (p : Plan) × (o ≡ Ok p) × IsMade W p made
Judges W o (Err (Refused why)) = o ≡ Err why
Judges W o (Err Memory) = Unit {0}

-- the condition is proved in the world
pub record IsProvedOne (W : World) (c : Condition) (w : Way) (it : Conclusion) : Type 0 where
  pub world : it.world ≡ W
  pub proves : proves it.sequent c.sequent ≡ true
  pub accepted : by_way W c w ≡ Ok tt

abbrev pub ProvesOne : World → Condition → Way → Result Conclusion Halt → Type 0
ProvesOne W c w (Ok it) = IsProvedOne W c w it
ProvesOne W c w (Err (Refused why)) = by_way W c w ≡ Err why
ProvesOne W c w (Err Memory) = Unit {0}

-- the conditions are proved, with these proofs behind those that there were
pub record AreProvedAfter (W : World) (cs : List Condition) (ws : List Way) (old new : List Conclusion) : Type 0 where
  pub further : List Conclusion
  pub joined : new ≡ old ++ further
  pub accepted : all_proved W cs ws ≡ Ok tt
  pub proofs : ProvesAll W (sequents cs) further

abbrev pub ProvesAfter : World → List Condition → List Way → List Conclusion → Result (List Conclusion) Halt → Type 0
ProvesAfter W cs ws old (Ok new) = AreProvedAfter W cs ws old new
ProvesAfter W cs ws old (Err (Refused why)) = all_proved W cs ws ≡ Err why
ProvesAfter W cs ws old (Err Memory) = Unit {0}

-- the conditions of a plan are proved, by these proofs, and the world can take its entries
pub record AreProvedOf (W : World) (clauses : frames.Clauses) (p : Plan) (proofs : List Conclusion) : Type 0 where
  pub passed : verdict.proved W clauses p ≡ Ok p
  pub admitted : AdmitsAll W p.entries
  pub own : ProvesAll W (sequents p.conditions) proofs

-- the answer to the conditions of a plan: their proofs, or their refusal
abbrev pub ProvesPlan : World → frames.Clauses → Plan → Result (List Conclusion) Halt → Type 0
ProvesPlan W clauses p (Ok proofs) = AreProvedOf W clauses p proofs
ProvesPlan W clauses p (Err (Refused why)) = verdict.proved W clauses p ≡ Err why
ProvesPlan W clauses p (Err Memory) = Unit {0}

-- an accepted event makes this world, and has this line, those that show what it makes, and these proofs
pub record IsTaken (W : World) (form : Datum) (e : Frame) (show : Bool) (next : World) (lines : List (List ℕ)) (proofs : EventProofs) : Type 0 where
  pub plan : Plan
  pub is_plan : checked W e ≡ Ok plan
  pub verdict_is : verdict_of W form e ≡ verdict.Accepted next
  pub lines_are : lines ≡ event_text (codes "ok ") e ∷ frame_lines show W e
  pub proved : AreProofs W plan proofs.before proofs.after

-- an event prints this value, and has this line
pub record IsShown (W : World) (form : Datum) (e : Frame) (lines : List (List ℕ)) : Type 0 where
  pub value : Val
  pub verdict_is : verdict_of W form e ≡ verdict.Printed value
  pub lines_are : lines ≡ value_line value ∷ []

-- the answer to an event is its verdict's, with its lines; a refusal has none yet
abbrev pub Handles : World → Datum → Frame → Bool → Result StepAnswer Halt → Type 0
Handles W form e show (Ok (answer.Accepted next lines proofs)) = IsTaken W form e show next lines proofs
Handles W form e show (Ok (answer.Redundant lines)) = (verdict_of W form e ≡ verdict.Redundant) × (lines ≡ event_text (codes "redundant ") e ∷ [])
Handles W form e show (Ok (answer.Printed lines)) = IsShown W form e lines
Handles W form e show (Ok (answer.Refused code lines)) = ⊥
Handles W form e show (Err (Refused why)) = verdict_of W form e ≡ verdict.Refused why
Handles W form e show (Err Memory) = Unit {0}

-- the same of the form of an event; a form of another shape is refused
abbrev pub Answers : World → Datum → Outcome Event → Bool → Result StepAnswer Halt → Type 0
Answers W form (Ok event) show r = Handles W form (frame_of event) show r
Answers W form (Err e) show (Ok a) = ⊥
Answers W form (Err e) show (Err h) = IsRefusal {A = Event} (Err e) h
