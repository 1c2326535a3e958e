-- What a check that is under way stands for.
use Rattle.std.specs.Prelude.{◌≡◌, ◌≢◌, ◌<◌, ◌+◌, ◌*◌, ℕ, List, [], ◌∷◌, ◌++◌, sum_by, Option, Some, None, Result, Ok, Err}
use Rattle.lisp_data.specs.declared.code.Code.{Code}
use Rattle.lisp_data.specs.declared.code.Code.TheVariants.{ProofWrong as WrongProof}
use Rattle.terms.specs.Evaluation.{then_with}
use Rattle.terms.specs.Worlds.{World}
use Rattle.terms.specs.declared.sequent.Sequent.{Sequent}
use Rattle.proof_objects.specs.ProofTrees.{ProofTree, By, Trees, NoMore, Also, trees, steps, steps_in, step_of, subproofs_of}
use Rattle.proof_objects.specs.declared.step.Step.{Step}
use Rattle.kernel.specs.Conclude.{conclude}
use Rattle.kernel.specs.Concludes.{BadNode, bad_at, all_concluded}
use Rattle.kernel.specs.Conclusion.{Conclusion, IsProvedBy, sequents_of}
use Rattle.kernel.specs.declared.errors.RuleName.TheVariants.{Rule, Claim}
use Rattle.kernel.specs.declared.errors.CheckError.{CheckError}
use Rattle.kernel.specs.declared.errors.CheckError.TheVariants.{ProofWrong, Limit as LimitAt, Memory as NoMemory}
use Rattle.kernel.specs.declared.checker.Frame.{Frame}
use Rattle.kernel.specs.declared.checker.Control.{Control}
use Rattle.kernel.specs.declared.checker.Control.TheVariants.{Check, Give}
use Rattle.kernel.specs.declared.checker.Turn.{Turn}
use Rattle.kernel.specs.declared.checker.Turn.TheVariants.{Next, Over}
use Rattle.kernel.specs.declared.checker.Checker.{Checker}

-- what the check of a proof comes to: its sequent, with how many nodes stand up to its end, or the first bad node
pub data Outcome : Type 0 where
  Concludes : Sequent → ℕ → Outcome
  Fails : BadNode → Outcome

abbrev pub then_check : Outcome → (Sequent → ℕ → Outcome) → Outcome
then_check (Concludes s n) k = k s n
then_check (Fails bad) k = Fails bad

abbrev pub or_bad : Option Sequent → BadNode → Outcome
or_bad None bad = Fails bad
or_bad (Some s) bad = Concludes s bad.node

-- a step after these sequents and so many nodes
abbrev pub at_step : World → Step → List Sequent → ℕ → Outcome
at_step W s ss n = or_bad (conclude W s ss) (bad_at W (n + 1) s (Some ss))

-- a proof after so many nodes; and a step whose first subproofs conclude these sequents, and these are left
abbrev mutual
  pub checked : World → ProofTree → ℕ → Outcome
  checked W (By s ps) n = gathered W s [] ps n

  pub gathered : World → Step → List Sequent → Trees → ℕ → Outcome
  gathered W s done NoMore n = at_step W s done n
  gathered W s done (Also p ps) n = then_check (checked W p n) (λ t m. gathered W s (done ++ t ∷ []) ps m)

-- what is concluded of all, where the premises so far are these
unfoldable pub rest_of : World → List Conclusion → List ProofTree → Option (List Sequent)
rest_of W done ps = then_with (all_concluded W (trees ps)) (λ ss. Some (sequents_of done ++ ss))

-- ---- the checker's data as these

-- the outcome of a frame's proof from what the subproof that it waits for concludes
abbrev pub continue : World → Frame → Sequent → ℕ → Outcome
continue W f t n = gathered W (step_of f.proof.now) (sequents_of f.premises ++ t ∷ []) (trees f.rest.now) n

-- the outcome of the whole from that of a part; the last frame waits for it
abbrev pub resumed : World → List Frame → Outcome → Outcome
resumed W [] o = o
resumed W (f ∷ fs) o = then_check (resumed W fs o) (continue W f)

-- the whole proof
abbrev pub root_of : List Frame → ProofTree → ProofTree
root_of [] p = p
root_of (f ∷ fs) p = f.proof.now

-- its premises are what its first subproofs conclude
abbrev pub Fits : World → Frame → Type 0
Fits W f = rest_of W f.premises (f.next.now ∷ f.rest.now) ≡ all_concluded W (subproofs_of f.proof.now)

-- each frame waits for the next one's proof, and the last one for this
abbrev pub Linked : World → List Frame → ProofTree → Type 0
Linked W [] p = Unit {0}
Linked W (f ∷ fs) p = Fits W f × (root_of fs p ≡ f.next.now) × Linked W fs p

abbrev pub subject : Control → ProofTree
subject (Check p) = p.now
subject (Give c) = c.proof

abbrev pub IsGiven : World → Control → Type 0
IsGiven W (Check p) = Unit {0}
IsGiven W (Give c) = IsProvedBy c W c.proof

abbrev pub now : World → Control → ℕ → Outcome
now W (Check p) n = checked W p.now n
now W (Give c) n = Concludes c.sequent n

-- ---- what is left to do

abbrev pub weight : Control → ℕ
weight (Check p) = 2 * steps p.now
weight (Give c) = 1

abbrev pub load : Frame → ℕ
load f = 2 * steps_in (trees f.rest.now) + 1

abbrev pub effort : List Frame → ℕ → ℕ
effort fs n = sum_by load fs + n

-- The checker stands in order, on its way through this proof, whose outcome is o.
pub record Stands (W : World) (m : Checker) (k : Control) (root : ProofTree) (o : Outcome) : Type 0 where
  pub linked : Linked W m.frames.items (subject k)
  pub given : IsGiven W k
  pub root_is : root_of m.frames.items (subject k) ≡ root
  pub same : resumed W m.frames.items (now W k m.nodes) ≡ o

-- the same, with less left to do than so much
pub record Leads (W : World) (m : Checker) (k : Control) (root : ProofTree) (o : Outcome) (most : ℕ) : Type 0 where
  pub stands : Stands W m k root o
  pub less : effort m.frames.items (weight k) < most

abbrev pub IsLimitOf : Outcome → ℕ → Code → Type 0
IsLimitOf (Concludes s n) node code = ⊥
IsLimitOf (Fails bad) node code = (bad.node ≡ node) × (bad.code ≡ code) × (code ≢ WrongProof)

-- the error is that of the outcome, unless memory ran out
abbrev pub Refuses : Outcome → CheckError → Type 0
Refuses o (ProofWrong node (Rule rule)) = o ≡ Fails (record { node = node; rule = rule; code = WrongProof })
Refuses o (ProofWrong node Claim) = ⊥
Refuses o (LimitAt node code) = IsLimitOf o node code
Refuses o NoMemory = Unit {0}

abbrev pub SaysOutcome : Outcome → Result (Conclusion × ℕ) CheckError → Type 0
SaysOutcome o (Ok it) = o ≡ Concludes it.0.sequent it.1
SaysOutcome o (Err e) = Refuses o e

-- The check goes on to the same outcome, or that is the error.
abbrev pub Goes : World → ProofTree → Outcome → ℕ → Checker → Result Control CheckError → Type 0
Goes W root o most m (Ok k) = Leads W m k root o most
Goes W root o most m (Err e) = Refuses o e

-- the whole proof's conclusion, with the number of its nodes
pub record IsEnd (W : World) (m : Checker) (c : Conclusion) (root : ProofTree) (o : Outcome) : Type 0 where
  pub proved : IsProvedBy c W root
  pub same : o ≡ Concludes c.sequent m.nodes

-- the same, or it is at the end
abbrev pub Turns : World → ProofTree → Outcome → ℕ → Checker → Result Turn CheckError → Type 0
Turns W root o most m (Ok (Next k)) = Leads W m k root o most
Turns W root o most m (Ok (Over c)) = IsEnd W m c root o
Turns W root o most m (Err e) = Refuses o e
