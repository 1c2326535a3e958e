-- Where the reduction closes, the proofs of its steps conclude.
use Rattle.std.proofs.Common.{◌≡◌, ℕ, zero, suc, Bool, true, false, cond, List, [], ◌∷◌, ◌++◌, map, slice_get, codes, Option, Some, None, refl, sym, ap, subst}
use Rattle.terms.specs.Formed.{HasBasics}
use Rattle.terms.specs.Joins.{with_term, join}
use Rattle.terms.specs.Sound.{Sound}
use Rattle.terms.specs.Terms.{same_tm, Tm, Var}
use Rattle.terms.specs.Worlds.{World, Each}
use Rattle.terms.specs.declared.sequent.Sequent.{Sequent}
use Rattle.terms.proofs.Later.{has_basics}
use Rattle.terms.proofs.Lists.{each_to, each_join, join_to}
use Rattle.kernel.specs.Concludes.{concludes}
use Rattle.kernel.specs.Fitting.{fits}
use Rattle.kernel.specs.Sequents.{equation, negation}
use Rattle.kernel.proofs.Inversions.{fits_decides}
use Rattle.kernel.proofs.Joins.{without_to, map_to}
use Rattle.kernel.proofs.Soundness.{conclusions_fit}
use Rattle.reduction.specs.declared.kinds.How.{How}
use Rattle.reduction.specs.declared.moves.Move.{Move}
use Rattle.reduction.specs.declared.moves.Move.TheVariants.{Ends, Drops, Strips, Alters, Turns, Assumes, Denies, Puts, Splits}
use Rattle.reduction.specs.declared.moves.Subgoal.{Subgoal}
use Rattle.reduction.specs.declared.run.Made.{Made}
use Rattle.reduction.specs.declared.run.Outcome.{Outcome}
use Rattle.reduction.specs.declared.run.Outcome.TheVariants.{Closed, Stuck, TooLong}
use Rattle.reduction.specs.declared.run.Task.{Task}
use Rattle.reduction.specs.Hyps.{quoted_nil, without}
use Rattle.reduction.specs.Moves.{swap, put, subgoal, after}
use Rattle.reduction.specs.Reduction.{next, pick, step, cases_after, tasks, made, at_limit, go_on, reduce}
use Rattle.reduction_proofs.specs.Derived.{back, from_nil, twice_not, equate}
use Rattle.reduction_proofs.specs.Laws.{StepsProve}
use Rattle.reduction_proofs.specs.Proving.{Within, Proves, AllProved, FitsSubgoal, IsRule}
use Rattle.reduction_proofs.specs.Reasons.{equated, rewritten}
use Rattle.reduction_proofs.specs.Trees.{Proof, Hyp, Cases, Cut, ImpliesIn}
use Rattle.reduction_proofs.specs.WayBack.{altered, before, proofs}
use Rattle.reduction_proofs.proofs.Members.{Fit, each_fit, within_first, with_term_to, each_self, each_more, each_left, each_right}
use Rattle.reduction_proofs.proofs.Deduction.{wider, by_hyp, by_cut, by_case, by_implies_in}
use Rattle.reduction_proofs.proofs.Shortcuts.{fits_not, fits_second, by_back, by_from_nil}
use Rattle.reduction_proofs.proofs.Sure.{Sure, sure_some}
use Rattle.reduction_proofs.proofs.Equations.{by_equate, by_put_hyps}
use Rattle.reduction_proofs.proofs.Finders.{fit_one, fit_two}
use Rattle.reduction_proofs.proofs.Moves.{Ok, Fine, next_fine}

-- each with the other, where both are known of the members
each_both : (P Q : Tm → Type 0) (ts : List Tm) → Each P ts → Each Q ts → Each (λ t. P t × Q t) ts
each_both P Q [] p q = tt
each_both P Q (t ∷ ts) p q = ((p.0, q.0), each_both P Q ts p.1 q.1)

closed_is : {ms ns : List Made} → Closed ms ≡ Closed ns → ms ≡ ns
closed_is e = cc

made_is : (m : Move) (s : Subgoal) (r : Outcome) (ms : List Made) → made m s r ≡ Closed ms → (ns : List Made) × (r ≡ Closed ns) × (record { step = m; subgoal = s } ∷ ns ≡ ms)
made_is m s (Closed ns) ms e = (ns, refl, closed_is e)
made_is m s (Stuck leaf) ms e = absurd (cc)
made_is m s TooLong ms e = absurd (cc)

limit_not : (t : Task) (o : Option Move) (ms : List Made) → at_limit t o ≡ Closed ms → ⊥
limit_not t None ms e = cc
limit_not t (Some m) ms e = cc

abbrev subgoals_of : List Task → List Subgoal
subgoals_of = map (λ t. t.subgoal)

subgoals_are : (n : ℕ) (ss : List Subgoal) (ts : List Task) → subgoals_of (tasks n ss ++ ts) ≡ ss ++ subgoals_of ts
subgoals_are n [] ts = refl
subgoals_are n (s ∷ ss) ts = ap (λ rs. s ∷ rs) (subgoals_are n ss ts)

module _ (W : World) (us : List Tm) (sound : Sound W) (basics : HasBasics W.functions) (fitting : (P : Proof) (s : Sequent) → concludes W P ≡ Some s → fits W.functions s.goal ≡ true) where
  pub proves_fit : (hs : List Tm) (g : Tm) (P : Proof) → Proves W us hs g P → Fit W g
  proves_fit hs g P p = fitting P _ p.concluded

  module _ (s : Subgoal) (ok : Ok W s) where
    swapped : (P : Tm → Type 0) (h h' : Tm) → P h' → Each P s.hyps → Each P (join [] (map (swap h h') s.hyps))
    swapped P h h' p e = join_to P [] (map (swap h h') s.hyps) tt (map_to P (swap h h') s.hyps (each_to P (λ k. P (swap h h' k)) (λ k q. by_test k q (same_tm h k)) s.hyps e))
      where
        by_test : (k : Tm) → P k → (b : Bool) → P (cond b h' k)
        by_test k q true = p
        by_test k q false = q

    with_one : (a g : Tm) → Fit W a → Fit W g → Ok W (subgoal (with_term s.hyps a) g)
    with_one a g f h = record { hyps = with_term_to (Fit W) s.hyps a ok.hyps f; goal = h }

    after_ok : (m : Move) → Fine W us s m → Each (Ok W) (after m s)
    after_ok (Ends e) f = tt
    after_ok (Drops h) f = (record { hyps = without_to (Fit W) s.hyps h ok.hyps; goal = ok.goal }, tt)
    after_ok (Strips h a) f = (record { hyps = swapped (Fit W) h a (proves_fit s.hyps a (twice_not a) f) ok.hyps; goal = ok.goal }, tt)
    after_ok (Alters h k r) f = (record { hyps = swapped (Fit W) h k (proves_fit s.hyps k (altered W h r) f) ok.hyps; goal = ok.goal }, tt)
    after_ok (Turns g r) f = (record { hyps = ok.hyps; goal = fits_second W s.goal g (proves_fit s.hyps (equation s.goal g) (rewritten W s.goal r) f) }, tt)
    after_ok (Assumes a b) f = let h = fit_two W.functions (codes "IMPLIES") a b (subst (Fit W) f ok.goal) in (with_one a b h.0 h.1, tt)
    after_ok (Denies a) f = (with_one a quoted_nil (fit_one W.functions (codes "NOT") a (subst (Fit W) f ok.goal)) refl, tt)
    after_ok (Puts h x a) f =
        let E : Proof = equated h (Var x) a in
        let fit : (k : Tm) → Fit W k → Fit W (put x a k) = λ k q. fits_second W k (put x a k) (proves_fit s.hyps (equation k (put x a k)) (equate x E k) (by_equate W us s.hyps x a E f k q)) in (
          record {
            hyps = join_to (Fit W) [] (map (put x a) (without s.hyps h)) tt (map_to (Fit W) (put x a) (without s.hyps h) (each_to (Fit W) (λ k. Fit W (put x a k)) fit (without s.hyps h) (without_to (Fit W) s.hyps h ok.hyps)));
            goal = fit s.goal ok.goal;
          },
          tt,
        )
    after_ok (Splits c) f = (with_one c s.goal f ok.goal, (with_one (negation c) s.goal (fits_not W us basics c f) ok.goal, tt))

    -- what is added is among the hypotheses with it
    added : (a g : Tm) (P : Proof) → Proves W us (with_term s.hyps a) g P → Proves W us (a ∷ s.hyps) g P
    added a g P p = wider W us (with_term s.hyps a) (a ∷ s.hyps) g P (with_term_to (Within (a ∷ s.hyps)) s.hyps a (each_more a s.hyps s.hyps (each_self s.hyps)) (within_first a s.hyps)) p

    -- a hypothesis that becomes another, which is proved
    swapped_proves : (k k' : Tm) (K P : Proof) → Proves W us s.hyps k' K → Proves W us (join [] (map (swap k k') s.hyps)) s.goal P → Proves W us s.hyps s.goal (Cut K P)
    swapped_proves k k' K P f p =
        let big : List Tm = k' ∷ s.hyps in
        by_cut W us s.hyps k' s.goal K P f
        (wider W us (join [] (map (swap k k') s.hyps)) big s.goal P (swapped (Within big) k k' (within_first k' s.hyps) (each_more k' s.hyps s.hyps (each_self s.hyps))) p)

    -- the proof before a step
    before_proves : (m : Move) → Fine W us s m → (ss : List Subgoal) (ps : List Proof) → AllProved W us (after m s ++ ss) ps → AllProved W us (s ∷ ss) (before W m s ps)
    before_proves (Ends e) f ss ps h = (f, h)
    before_proves (Drops k) f ss [] h = h
    before_proves (Drops k) f ss (P ∷ ps) h = (wider W us (without s.hyps k) s.hyps s.goal P (without_to (Within s.hyps) s.hyps k (each_self s.hyps)) h.0, h.1)
    before_proves (Strips k a) f ss [] h = h
    before_proves (Strips k a) f ss (P ∷ ps) h = (swapped_proves k a (twice_not a) P f h.0, h.1)
    before_proves (Alters k k' r) f ss [] h = h
    before_proves (Alters k k' r) f ss (P ∷ ps) h = (swapped_proves k k' (altered W k r) P f h.0, h.1)
    before_proves (Turns g r) f ss [] h = h
    before_proves (Turns g r) f ss (P ∷ ps) h = (by_back W us basics s.hyps s.goal g (rewritten W s.goal r) P ok.goal f h.0, h.1)
    before_proves (Assumes a b) f ss [] h = h
    before_proves (Assumes a b) f ss (P ∷ ps) h =
        let fa = (fit_two W.functions (codes "IMPLIES") a b (subst (Fit W) f ok.goal)).0 in
        (subst (λ g. Proves W us s.hyps g (ImpliesIn a P)) (sym f) (by_implies_in W us s.hyps a b P fa (added a b P h.0)), h.1)
    before_proves (Denies a) f ss [] h = h
    before_proves (Denies a) f ss (P ∷ ps) h =
        let n : Tm = negation a in
        let fn : Fit W n = subst (Fit W) f ok.goal in
        let fa : Fit W a = fit_one W.functions (codes "NOT") a fn in
        let D : Proof = Cases a (from_nil P n) (Hyp n) in (
          subst (λ g. Proves W us s.hyps g D) (sym f)
              (by_case W us s.hyps a n (from_nil P n) (Hyp n) fa (by_from_nil W us basics (a ∷ s.hyps) n P fn (added a quoted_nil P h.0)) (by_hyp W us (n ∷ s.hyps) n fn (within_first n s.hyps))),
          h.1,
        )
    before_proves (Puts k x a) f ss [] h = h
    before_proves (Puts k x a) f ss (P ∷ ps) h =
        let E : Proof = equated k (Var x) a in
        let hs : List Tm = s.hyps in
        let ks : List Tm = without s.hyps k in
        let big : List Tm = map (put x a) ks ++ hs in
        let g' : Tm = put x a s.goal in (
          by_put_hyps W us basics hs x a E f ks s.goal (back (equate x E s.goal) s.goal P)
              (each_both (Fit W) (Within hs) ks (without_to (Fit W) s.hyps k ok.hyps) (without_to (Within hs) s.hyps k (each_self hs)))
              (by_back W us basics big s.goal g' (equate x E s.goal) P ok.goal
              (wider W us hs big (equation s.goal g') (equate x E s.goal) (each_right (map (put x a) ks) hs) (by_equate W us hs x a E f s.goal ok.goal))
              (wider W us (join [] (map (put x a) ks)) big g' P (join_to (Within big) [] (map (put x a) ks) tt (each_left (map (put x a) ks) hs)) h.0)),
          h.1,
        )
    before_proves (Splits c) f ss [] h = h
    before_proves (Splits c) f ss (P ∷ []) h = h.1
    before_proves (Splits c) f ss (P ∷ Q ∷ ps) h = (by_case W us s.hyps c s.goal P Q f (added c s.goal P h.0) (added (negation c) s.goal Q h.1.0), h.1.1)

  slice_fit : (P : Tm → Type 0) (cs : List Tm) (n : ℕ) → Each P cs → Sure P (slice_get cs n)
  slice_fit P [] n h = record { so = λ c e. absurd (cc) }
  slice_fit P (c ∷ cs) zero h = sure_some P c h.0
  slice_fit P (c ∷ cs) (suc n) h = slice_fit P cs n h.1

  abbrev TaskOk : Task → Type 0
  TaskOk t = Ok W t.subgoal

  tasks_ok : (n : ℕ) (ss : List Subgoal) → Each (Ok W) ss → Each TaskOk (tasks n ss)
  tasks_ok n [] h = tt
  tasks_ok n (s ∷ ss) h = (h.0, tasks_ok n ss h.1)

  module _ (how : How) (rules : Each (IsRule W us) how.rules) (cases : Each (Fit W) how.cases) where
    step_fine : (t : Task) → TaskOk t → Sure (Fine W us t.subgoal) (step W how t)
    step_fine t ok = by_case_term (slice_get how.cases t.cases) (slice_fit (Fit W) how.cases t.cases cases)
      where
        by_case_term : (o : Option Tm) → Sure (Fit W) o → Sure (Fine W us t.subgoal) (pick o (next W how t.subgoal))
        by_case_term None h = next_fine W us sound basics fitting t.subgoal ok how rules
        by_case_term (Some c) h = sure_some (Fine W us t.subgoal) (Splits c) (h.so c refl)

    pub reduce_proves : (n : ℕ) (ts : List Task) → Each TaskOk ts → (ms : List Made) → reduce W how n ts ≡ Closed ms → AllProved W us (subgoals_of ts) (proofs W ms [])
    reduce_proves zero [] ok ms e = subst (λ ns. AllProved W us [] (proofs W ns [])) (closed_is e) tt
    reduce_proves zero (t ∷ ts) ok ms e = absurd (limit_not t (step W how t) ms e)
    reduce_proves (suc n) [] ok ms e = subst (λ ns. AllProved W us [] (proofs W ns [])) (closed_is e) tt
    reduce_proves (suc n) (t ∷ ts) ok ms e = by_move (step W how t) (step_fine t ok.0).so e (reduce_proves n)
      where
        by_move : (o : Option Move) → ((m : Move) → o ≡ Some m → Fine W us t.subgoal m) → go_on how t ts (reduce W how n) o ≡ Closed ms →
            ((rs : List Task) → Each TaskOk rs → (ns : List Made) → reduce W how n rs ≡ Closed ns → AllProved W us (subgoals_of rs) (proofs W ns [])) → AllProved W us (subgoals_of (t ∷ ts)) (proofs W ms [])
        by_move None fine e' ih = absurd (cc)
        by_move (Some m) fine e' ih =
            let new : List Task = tasks (cases_after how t) (after m t.subgoal) ++ ts in
            let r = made_is m t.subgoal (reduce W how n new) ms e' in
            let f = fine m refl in
            let fit : Each TaskOk new = each_join TaskOk (tasks (cases_after how t) (after m t.subgoal)) ts (tasks_ok (cases_after how t) (after m t.subgoal) (after_ok t.subgoal ok.0 m f)) ok.1 in
            let h : AllProved W us (after m t.subgoal ++ subgoals_of ts) (proofs W r.0 []) = subst (λ ss. AllProved W us ss (proofs W r.0 [])) (subgoals_are (cases_after how t) (after m t.subgoal) ts) (ih new fit r.0 r.1) in
            subst (λ ns. AllProved W us (t.subgoal ∷ subgoals_of ts) (proofs W ns [])) r.2 (before_proves t.subgoal ok.0 m f (subgoals_of ts) (proofs W r.0 []) h)

-- what a proof concludes is well formed
pub goal_fits : (W : World) → Sound W → (P : Proof) (s : Sequent) → concludes W P ≡ Some s → fits W.functions s.goal ≡ true
goal_fits W sound P s e = (fits_decides W.functions s.goal).1 (conclusions_fit W sound P s e).goal

pub subgoal_ok : (W : World) (s : Subgoal) → FitsSubgoal W s → Ok W s
subgoal_ok W s f = record { hyps = each_fit W s.hyps f.hyps; goal = (fits_decides W.functions s.goal).1 f.goal }

pub steps_prove : StepsProve
steps_prove W sound us how rules cases n ts f ms e =
    reduce_proves W us sound (has_basics W sound) (goal_fits W sound) how rules (each_fit W how.cases cases) n ts
    (each_to (λ (t : Task). FitsSubgoal W t.subgoal) (λ (t : Task). Ok W t.subgoal) (λ t h. subgoal_ok W t.subgoal h) ts f) ms e
