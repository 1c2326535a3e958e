-- Where a check that is under way goes on.
use Rattle.std.proofs.Common.{◌≡◌, ◌≢◌, ◌<◌, ◌≤◌, ◌+◌, ◌*◌, ℕ, List, [], ◌∷◌, ◌++◌, length, Some, None, Result, Ok, Err, refl, sym, ap, ◌∙◌, subst, arith}
use Rattle.std.specs.Prelude.{sum_by, IfOk, IsErrOf}
use Rattle.std.proofs.lemmas.List.{map-append}
use Rattle.std.proofs.lemmas.List.Sums.{sum_by-append}
use Rattle.terms.specs.Evaluation.{then_with}
use Rattle.terms.specs.Worlds.{World}
use Rattle.terms.specs.declared.sequent.Sequent.{Sequent}
use Rattle.lisp_data.specs.declared.code.Code.TheVariants.{ProofWrong as WrongProof}
use Rattle.proof_objects.specs.ProofTrees.{ProofTree, By, trees, steps, steps_in, step_of, subproofs_of}
use Rattle.proof_objects.specs.view.ProofView.{tree_of}
use Rattle.proof_objects.specs.declared.proof.ProofNode.{ProofNode}
use Rattle.proof_objects.specs.StepRules.{rule_of}
use Rattle.proof_objects.specs.declared.rule.Rule.{Rule as Kind}
use Rattle.kernel.specs.Conclude.{conclude, code_of}
use Rattle.kernel.specs.Concludes.{BadNode, bad_at, concludes, all_concluded}
use Rattle.kernel.specs.Conclusion.{Conclusion, IsProvedBy, sequents_of}
use Rattle.kernel.specs.declared.errors.RuleName.TheVariants.{Rule, Claim}
use Rattle.kernel.specs.Answers.{IfProofWrong, IfLimitAt, IfLimit}
use Rattle.kernel.specs.declared.errors.RuleError.{RuleError}
use Rattle.kernel.specs.declared.errors.RuleError.TheVariants.{Refused, Limit}
use Rattle.kernel.specs.declared.errors.CheckError.{CheckError}
use Rattle.kernel.specs.declared.errors.CheckError.TheVariants.{ProofWrong, Limit as LimitAt, Memory as NoMemory}
use Rattle.kernel.specs.declared.checker.Frame.{Frame}
use Rattle.kernel.specs.declared.checker.Control.{Control}
use Rattle.kernel.specs.declared.checker.Control.TheVariants.{Give}
use Rattle.kernel.specs.declared.checker.Checker.{Checker}
use Rattle.kernel.specs.view.Checking.{Outcome, Concludes, Fails, then_check, or_bad, at_step, checked, gathered, continue, resumed, root_of, Fits, Linked, subject, IsGiven, now, weight, load, effort, Leads, IsLimitOf, Refuses, SaysOutcome, Goes, rest_of}
use Rattle.kernel.proofs.Premises.{rest-start, rest-next}

-- ---- one frame more

resumed-last : (W : World) (fs : List Frame) (f : Frame) (o : Outcome) → resumed W (fs ++ f ∷ []) o ≡ resumed W fs (then_check o (continue W f))
resumed-last W [] f o = refl
resumed-last W (g ∷ fs) f o = ap (λ x. then_check x (continue W g)) (resumed-last W fs f o)

root-last : (fs : List Frame) (f : Frame) (p : ProofTree) → root_of (fs ++ f ∷ []) p ≡ root_of fs f.proof.now
root-last [] f p = refl
root-last (g ∷ fs) f p = refl

linked-last : (W : World) (fs : List Frame) (f : Frame) (p : ProofTree) → Linked W fs f.proof.now → Fits W f → p ≡ f.next.now → Linked W (fs ++ f ∷ []) p
linked-last W [] f p h fits e = (fits, e, tt)
linked-last W (g ∷ fs) f p h fits e = (h.0, root-last fs f p ∙ h.1, linked-last W fs f p h.2 fits e)

pub linked-pop : (W : World) (fs : List Frame) (f : Frame) (p : ProofTree) → Linked W (fs ++ f ∷ []) p → Fits W f × (p ≡ f.next.now) × Linked W fs f.proof.now
linked-pop W [] f p h = (h.0, h.1, tt)
linked-pop W (g ∷ fs) f p h = let r = linked-pop W fs f p h.2 in (r.0, r.1, (h.0, sym (root-last fs f p) ∙ h.1, r.2))

-- ---- a refusal is that of the whole

resumed-fails : (W : World) (fs : List Frame) (bad : BadNode) → resumed W fs (Fails bad) ≡ Fails bad
resumed-fails W [] bad = refl
resumed-fails W (f ∷ fs) bad = ap (λ o. then_check o (continue W f)) (resumed-fails W fs bad)

pub refuses-on : (W : World) (fs : List Frame) (o : Outcome) (e : CheckError) → Refuses o e → Refuses (resumed W fs o) e
refuses-on W fs o (ProofWrong node (Rule rule)) h = ap (resumed W fs) h ∙ resumed-fails W fs _
refuses-on W fs o (ProofWrong node Claim) h = absurd h
refuses-on W fs (Concludes s n) (LimitAt node code) h = absurd h
refuses-on W fs (Fails bad) (LimitAt node code) h = subst (λ o. IsLimitOf o node code) (sym (resumed-fails W fs bad)) h
refuses-on W fs o NoMemory h = tt

-- ---- where it goes on

module _ (W : World) (m n : Checker) where
  -- the next subproof, with one frame more
  pub leads-down : (f : Frame) → n.frames.items ≡ m.frames.items ++ f ∷ [] → n.nodes ≡ m.nodes → Linked W m.frames.items f.proof.now → Fits W f → (k : Control) → subject k ≡ f.next.now → IsGiven W k → now W k m.nodes ≡ checked W f.next.now m.nodes → (most : ℕ) → weight k + load f < most
      → Leads W n k (root_of m.frames.items f.proof.now) (resumed W m.frames.items (then_check (checked W f.next.now m.nodes) (continue W f))) (effort m.frames.items most)
  leads-down f e same linked fits k at given told most lt = record {
    stands = record {
      linked = subst (λ fs. Linked W fs (subject k)) (sym e) (linked-last W m.frames.items f (subject k) linked fits at);
      given = given;
      root_is = ap (λ fs. root_of fs (subject k)) e ∙ root-last m.frames.items f (subject k);
      same = (λ i. resumed W (e i) (now W k (same i))) ∙ resumed-last W m.frames.items f (now W k m.nodes) ∙ ap (λ o. resumed W m.frames.items (then_check o (continue W f))) told;
    };
    less = omega (arith, lt, ap (sum_by load) e, sum_by-append load m.frames.items (f ∷ []));
  }

  -- a proof that is checked
  pub leads-up : (c : Conclusion) (p : ProofTree) → n.frames.items ≡ m.frames.items → Linked W m.frames.items p → IsProvedBy c W p → (k : Control) → k ≡ Give c → (o : Outcome) → o ≡ Concludes c.sequent n.nodes
      → Leads W n k (root_of m.frames.items p) (resumed W m.frames.items o) (effort m.frames.items 2)
  leads-up c p e linked proved k is o told = record {
    stands = record {
      linked = subst (λ (k : Control). Linked W n.frames.items (subject k)) (sym is) (subst (λ fs. Linked W fs c.proof) (sym e) (subst (Linked W m.frames.items) (sym proved.proof_is) linked));
      given = subst (IsGiven W) (sym is) (subst (IsProvedBy c W) (sym proved.proof_is) proved);
      root_is = ap (λ (k : Control). root_of n.frames.items (subject k)) is ∙ (λ i. root_of (e i) (proved.proof_is i));
      same = ap (λ (k : Control). resumed W n.frames.items (now W k n.nodes)) is ∙ (λ i. resumed W (e i) (sym told i));
    };
    less = omega (arith, ap weight is, ap (sum_by load) e);
  }

-- what the last step of a proof concludes
pub concludes-by : (W : World) (p : ProofTree) (ss : List Sequent) → all_concluded W (subproofs_of p) ≡ Some ss → concludes W p ≡ conclude W (step_of p) ss
concludes-by W (By s ps) ss e = ap (λ o. then_with o (conclude W s)) e

pub goes_as : (W : World) (root root' : ProofTree) (o o' : Outcome) (most most' : ℕ) (m : Checker) (r : Result Control CheckError) → root ≡ root' → o ≡ o' → most ≤ most' → Goes W root o most m r → Goes W root' o' most' m r
goes_as W root root' o o' most most' m (Ok k) e f le h =
    let s = subst (λ x. Leads W m k x o' most) e (subst (λ x. Leads W m k root x most) f h) in
    record { stands = s.stands; less = omega (arith, s.less, le) }
goes_as W root root' o o' most most' m (Err x) e f le h = subst (λ y. Refuses y x) f h

-- ---- the last step of a proof

module _ (W : World) (p : ProofTree) (ss : List Sequent) (n : ℕ) (all : all_concluded W (subproofs_of p) ≡ Some ss) where
  step_concludes : (s : Sequent) (m : ℕ) → concludes W p ≡ Some s → m ≡ n + 1 → at_step W (step_of p) ss n ≡ Concludes s m
  step_concludes s m e number =
      ap (λ c. or_bad c (bad_at W (n + 1) (step_of p) (Some ss))) (sym (concludes-by W p ss all) ∙ e) ∙ ap (Concludes s) (sym number)

  step_fails : concludes W p ≡ None → at_step W (step_of p) ss n ≡ Fails (bad_at W (n + 1) (step_of p) (Some ss))
  step_fails e = ap (λ c. or_bad c (bad_at W (n + 1) (step_of p) (Some ss))) (sym (concludes-by W p ss all) ∙ e)

  step_wrong : (node : ℕ) (name rule : Kind) → concludes W p ≡ None → code_of W (step_of p) ss ≡ WrongProof → node ≡ n + 1 → name ≡ rule → rule ≡ rule_of (step_of p) → at_step W (step_of p) ss n ≡ Fails (record { node = node; rule = name; code = WrongProof })
  step_wrong node name rule e code number same is = step_fails e ∙ (λ i. Fails (record { node = sym number i; rule = sym (same ∙ is) i; code = code i }))

  -- the answer is what the outcome is
  pub step_says : (ruled : Result Conclusion RuleError) (rule : Kind) (r : Result (Conclusion × ℕ) CheckError)
      → IfOk ruled (λ it. IsProvedBy it W p)
      → (IsErrOf ruled Refused → (concludes W p ≡ None) × (code_of W (step_of p) ss ≡ WrongProof))
      → IfLimit ruled (λ code. (concludes W p ≡ None) × (code_of W (step_of p) ss ≡ code) × (code ≢ WrongProof))
      → rule ≡ rule_of (step_of p)
      → IfOk r (λ it. (ruled ≡ Ok it.0) × (it.1 ≡ n + 1))
      → IfProofWrong r (λ node name. (ruled ≡ Err Refused) × (node ≡ n + 1) × (name ≡ Rule rule))
      → IfLimitAt r (λ node code. (ruled ≡ Err (Limit code)) × (node ≡ n + 1))
      → SaysOutcome (at_step W (step_of p) ss n) r
  step_says ruled rule (Ok it) ok refused limit is counted wrong limits =
      let proved = subst (λ (r : Result Conclusion RuleError). IfOk r (λ it. IsProvedBy it W p)) counted.0 ok in
      step_concludes it.0.sequent it.1 proved.concludes counted.1
  step_says ruled rule (Err (ProofWrong node (Rule name))) ok refused limit is counted wrong limits =
      let h = refused (cc wrong.0) in
      let same : name ≡ rule = cc wrong.2 in
      step_wrong node name rule h.0 h.1 wrong.1 same is
  step_says ruled rule (Err (ProofWrong node Claim)) ok refused limit is counted wrong limits = absurd (cc wrong.2)
  step_says ruled rule (Err (LimitAt node code)) ok refused limit is counted wrong limits =
      let h = subst (λ (r : Result Conclusion RuleError). IfLimit r (λ code. (concludes W p ≡ None) × (code_of W (step_of p) ss ≡ code) × (code ≢ WrongProof))) limits.0 limit in
      subst (λ o. IsLimitOf o node code) (sym (step_fails h.0)) (sym limits.1, h.1, h.2)
  step_says ruled rule (Err NoMemory) ok refused limit is counted wrong limits = tt

  pub step_proved : (ruled : Result Conclusion RuleError) (r : Result (Conclusion × ℕ) CheckError) → IfOk ruled (λ it. IsProvedBy it W p) → IfOk r (λ it. (ruled ≡ Ok it.0) × (it.1 ≡ n + 1)) → IfOk r (λ it. IsProvedBy it.0 W p)
  step_proved ruled (Ok it) ok counted = subst (λ (r : Result Conclusion RuleError). IfOk r (λ it. IsProvedBy it W p)) counted.0 ok
  step_proved ruled (Err e) ok counted = tt

pub none_left : (ps : List ProofTree) → length ps < 1 → ps ≡ []
none_left [] h = refl
none_left (p ∷ ps) h = absurd (omega arith)

-- ---- turns

-- a proof is begun
pub begun : (W : World) (m n : Checker) (node : ProofNode) (p : ProofTree) (done : List Conclusion) (r : Result Control CheckError) → tree_of node ≡ p → done ≡ []
    → Goes W (root_of m.frames.items p) (resumed W m.frames.items (gathered W (step_of p) (sequents_of done) (trees node.subproofs) m.nodes)) (effort m.frames.items (2 * steps_in (trees node.subproofs) + 2)) n r
    → Goes W (root_of m.frames.items p) (resumed W m.frames.items (checked W p m.nodes)) (effort m.frames.items (2 * steps p)) n r
begun W m n node p done r e none h =
    goes_as W (root_of m.frames.items p) (root_of m.frames.items p) _ _ _ _ n r refl
    (ap (λ cs. resumed W m.frames.items (gathered W (step_of p) (sequents_of cs) (trees node.subproofs) m.nodes)) none
    ∙ subst (λ q. resumed W m.frames.items (gathered W (step_of q) [] (trees node.subproofs) m.nodes) ≡ resumed W m.frames.items (checked W q m.nodes)) e refl)
    (omega (arith, ap steps e)) h

pub left_all : (W : World) (node : ProofNode) (p : ProofTree) (done : List Conclusion) → tree_of node ≡ p → done ≡ [] → rest_of W done node.subproofs ≡ all_concluded W (subproofs_of p)
left_all W node p done e none = ap (λ cs. rest_of W cs node.subproofs) none ∙ rest-start W node.subproofs ∙ ap (λ q. all_concluded W (subproofs_of q)) e

-- the last frame goes on
pub woken : (W : World) (m n : Checker) (fs : List Frame) (f : Frame) (c : Conclusion) (r : Result Control CheckError) → m.frames.items ≡ fs ++ f ∷ []
    → Goes W (root_of fs f.proof.now) (resumed W fs (continue W f c.sequent m.nodes)) (effort fs (load f + 1)) n r
    → Goes W (root_of m.frames.items c.proof) (resumed W m.frames.items (Concludes c.sequent m.nodes)) (effort m.frames.items 1) n r
woken W m n fs f c r e h =
    goes_as W (root_of fs f.proof.now) (root_of m.frames.items c.proof) (resumed W fs (continue W f c.sequent m.nodes)) (resumed W m.frames.items (Concludes c.sequent m.nodes)) (effort fs (load f + 1)) (effort m.frames.items 1) n r
    (sym (root-last fs f c.proof) ∙ ap (λ gs. root_of gs c.proof) (sym e))
    (sym (resumed-last W fs f (Concludes c.sequent m.nodes)) ∙ ap (λ gs. resumed W gs (Concludes c.sequent m.nodes)) (sym e))
    (omega (arith, ap (sum_by load) e, sum_by-append load fs (f ∷ []))) h

-- a premise more
pub premise_more : (W : World) (root : ProofTree) (fs : List Frame) (f : Frame) (c : Conclusion) (done : List Conclusion) (nodes : ℕ) (most : ℕ) (n : Checker) (r : Result Control CheckError) → done ≡ f.premises ++ c ∷ []
    → Goes W root (resumed W fs (gathered W (step_of f.proof.now) (sequents_of done) (trees f.rest.now) nodes)) most n r
    → Goes W root (resumed W fs (continue W f c.sequent nodes)) most n r
premise_more W root fs f c done nodes most n r e h =
    subst (λ ss. Goes W root (resumed W fs (gathered W (step_of f.proof.now) ss (trees f.rest.now) nodes)) most n r) (ap sequents_of e ∙ map-append (λ c. c.sequent) f.premises (c ∷ [])) h

pub premise_fits : (W : World) (f : Frame) (c : Conclusion) (done : List Conclusion) → done ≡ f.premises ++ c ∷ [] → Fits W f → IsProvedBy c W f.next.now → rest_of W done f.rest.now ≡ all_concluded W (subproofs_of f.proof.now)
premise_fits W f c done e fits proved = ap (λ cs. rest_of W cs f.rest.now) e ∙ sym (rest-next W f.premises c f.next.now f.rest.now proved.concludes) ∙ fits

-- the next subproof
pub proceeds : (W : World) (m n : Checker) (f : Frame) (rest : List ProofTree) (k : Control) → rest ≡ f.next.now ∷ f.rest.now → n.frames.items ≡ m.frames.items ++ f ∷ [] → n.nodes ≡ m.nodes
    → Linked W m.frames.items f.proof.now → rest_of W f.premises rest ≡ all_concluded W (subproofs_of f.proof.now)
    → subject k ≡ f.next.now → IsGiven W k → now W k m.nodes ≡ checked W f.next.now m.nodes → weight k ≡ 2 * steps f.next.now
    → Leads W n k (root_of m.frames.items f.proof.now) (resumed W m.frames.items (gathered W (step_of f.proof.now) (sequents_of f.premises) (trees rest) m.nodes)) (effort m.frames.items (2 * steps_in (trees rest) + 2))
proceeds W m n f rest k is e same linked left at given told w =
    subst (λ ps. Leads W n k (root_of m.frames.items f.proof.now) (resumed W m.frames.items (gathered W (step_of f.proof.now) (sequents_of f.premises) (trees ps) m.nodes)) (effort m.frames.items (2 * steps_in (trees ps) + 2))) (sym is)
    (leads-down W m n f e same linked (ap (rest_of W f.premises) (sym is) ∙ left) k at given told (2 * steps_in (trees (f.next.now ∷ f.rest.now)) + 2) (omega (arith, w)))
