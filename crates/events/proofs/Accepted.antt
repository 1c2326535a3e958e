-- A lawful event that is accepted in a sound world makes a sound world.
use Rattle.std.proofs.Common.{◌≡◌, Bool, true, false, if◌then◌else◌, List, [], ◌∷◌, Option, Some, None, Ok, Err, refl, ap, sym, ◌∙◌, subst}
use Rattle.lisp_data.specs.Values.{Val}
use Rattle.lisp_data.specs.Datum.{Datum}
use Rattle.terms.specs.Terms.{Tm}
use Rattle.terms.specs.Worlds.{World, Each, FitsSequent, Holds}
use Rattle.terms.specs.Sound.{Sound}
use Rattle.term_forms.specs.Translation.{map_outcome}
use Rattle.terms.specs.declared.sequent.Sequent.{Sequent}
use Rattle.terms.proofs.MoreEntries.{with_event}
use Rattle.proof_objects.specs.ProofTrees.{steps}
use Rattle.proof_texts.specs.ProofTexts.{proof_of}
use Rattle.reduction.specs.declared.run.Outcome.{Outcome}
use Rattle.reduction.specs.declared.run.Outcome.TheVariants.{Closed, Stuck, TooLong}
use Rattle.hints.specs.Steps.{hints_from}
use Rattle.reduction_proofs.specs.Laws.{HintsFit, ReductionsProve}
use Rattle.reduction_proofs.specs.Start as back
use Rattle.hint_prover.specs.Answers.{step_limit, subgoal_of, reduction_of}
use Rattle.kernel.specs.Concludes.{concludes}
use Rattle.kernel.specs.declared.errors.RuleName.TheVariants.{Claim}
use Rattle.events.specs.declared.refusal.Refusal.TheVariants.{ProofWrong}
use Rattle.plans.specs.declared.plan.Condition.{Condition}
use Rattle.plans.specs.declared.plan.Plan.{Plan}
use Rattle.events.specs.declared.clauses.Way.{Way}
use Rattle.events.specs.declared.clauses.Way.TheVariants.{ByProof, ByHints}
use Rattle.plans.specs.Entries.{add_entries}
use Rattle.plans.specs.Plans.{IsProvable, ConditionsProvable}
use Rattle.events.specs.Redundancy.{is_redundant}
use Rattle.events.specs.Frames.{Judged, coded, goes_on, Clauses, Frame}
use Rattle.events.specs.Verdicts.{Accepted, Redundant, new_names, of_conditions, way_by, clause_of, steps_for, way_of, ways, by_conclusion, by_reduction, by_way, all_proved, proved, checked, made, printed, ended}
use Rattle.events.specs.Laws.{ConditionsFit, IsLawful, AcceptedIsSound}
use Rattle.events.specs.view.Halts.{FitsWay, FitWays}
use Rattle.events.proofs.Inversions.{then_ok, map_ok, goes_ok, coded_ok}
use Rattle.plans.specs.Proving.{proves}
use Rattle.plans.proofs.EntriesSound.{entries_keep_sound}
use Rattle.plans.proofs.ProvedHold.{proved_conditions_hold}

-- conditions with proofs hold
pub provable_hold : (W : World) → Sound W → (cs : List Condition) → Each (λ c. IsProvable W c.sequent) cs → Each (λ c. Holds W.functions c.sequent) cs
provable_hold W sound [] h = tt
provable_hold W sound (c ∷ cs) h =
    let p = h.0 in
    (proved_conditions_hold W sound c.sequent p.sequent p.proof p.concluded p.proved, provable_hold W sound cs h.1)

module _ (read : HintsFit) (reduce : ReductionsProve) (W : World) (sound : Sound W) where
  -- a condition that passes has a proof: its own, or the one that its reduction gives
  condition_provable : (c : Condition) (w : Way) → FitsSequent W.functions c.sequent → FitsWay W c.sequent.universals w → by_way W c w ≡ Ok (tt {0}) → IsProvable W c.sequent
  condition_provable c (ByHints h) fits way e = by_end (reduction_of W c.sequent h) refl e
    where
      by_end : (o : Outcome) → reduction_of W c.sequent h ≡ o → by_reduction c o ≡ Ok (tt {0}) → IsProvable W c.sequent
      by_end (Closed ms) is e' =
          let p = reduce W sound c.sequent fits h way step_limit ms is in
          record { proof = back.proof_of W h (subgoal_of c.sequent) ms; sequent = p.sequent; concluded = p.concluded; proved = p.proved }
      by_end (Stuck leaf) is e' = absurd (cc)
      by_end TooLong is e' = absurd (cc)
  condition_provable c (ByProof p) fits way e = by_end (concludes W p) refl e
    where
      by_test : (s : Sequent) (b : Bool) → proves s c.sequent ≡ b → concludes W p ≡ Some s → (if b then Ok (tt {0}) else Err (ProofWrong c.name (steps p) Claim)) ≡ Ok (tt {0}) → IsProvable W c.sequent
      by_test s true q is e' = record { proof = p; sequent = s; concluded = is; proved = q }
      by_test s false q is e' = absurd (cc)

      by_end : (o : Option Sequent) → concludes W p ≡ o → by_conclusion W c p o ≡ Ok (tt {0}) → IsProvable W c.sequent
      by_end None is e' = absurd (cc)
      by_end (Some s) is e' = by_test s (proves s c.sequent) refl is e'

  -- what is read of hints fits
  way_fits : (us : List Tm) (text : Option Datum) (steps : List Datum) (w : Way) → way_by W us text steps ≡ Ok w → FitsWay W us w
  unfolding way_by
  way_fits us (Some text) steps w e = let m = map_ok (proof_of W text) ByProof w e in subst (FitsWay W us) m.2 tt
  way_fits us None steps w e =
      let m = map_ok (hints_from W us steps) ByHints w e in subst (FitsWay W us) m.2 (read W sound us steps m.0 m.1)

  pub ways_fit : (clauses : Clauses) (cs : List Condition) (ws : List Way) → ways W clauses cs ≡ Ok ws → FitWays W cs ws
  ways_fit clauses [] ws e = tt
  ways_fit clauses (c ∷ cs) ws e =
      let p = then_ok (way_of W clauses c) (λ w. map_outcome (λ ws. w ∷ ws) (ways W clauses cs)) ws e in
      let q = map_ok (ways W clauses cs) (λ ws. p.0 ∷ ws) ws p.2 in
      subst (FitWays W (c ∷ cs)) q.2
      (way_fits c.sequent.universals (clause_of clauses.proofs c.name) (steps_for clauses.hows c.name) p.0 p.1, ways_fit clauses cs q.0 q.1)

  pub conditions_provable : (clauses : Clauses) (cs : List Condition) (ws : List Way) → ConditionsFit W cs → ways W clauses cs ≡ Ok ws → all_proved W cs ws ≡ Ok (tt {0}) → Each (λ c. IsProvable W c.sequent) cs
  conditions_provable clauses [] ws fits e h = tt
  conditions_provable clauses (c ∷ cs) ws fits e h =
      let p = then_ok (way_of W clauses c) (λ w. map_outcome (λ ws. w ∷ ws) (ways W clauses cs)) ws e in
      let q = map_ok (ways W clauses cs) (λ ws. p.0 ∷ ws) ws p.2 in
      let g = goes_ok (by_way W c p.0) (λ _. all_proved W cs q.0) tt (subst (λ ws. all_proved W (c ∷ cs) ws ≡ Ok (tt {0})) (sym q.2) h) in
      let way = way_fits c.sequent.universals (clause_of clauses.proofs c.name) (steps_for clauses.hows c.name) p.0 p.1 in
      (condition_provable c p.0 fits.0 way g.1, conditions_provable clauses cs q.0 fits.1 q.1 g.2)

  -- the plan of an event whose conditions are proved
  proved_plan : (clauses : Clauses) (p q : Plan) → ConditionsFit W p.conditions → proved W clauses p ≡ Ok q → (p ≡ q) × ConditionsProvable W p
  proved_plan clauses p q fits e =
      let a = goes_ok (coded (of_conditions p.conditions clauses)) (λ _. goes_on (coded (ways W clauses p.conditions)) (λ ws. goes_on (all_proved W p.conditions ws) (λ _. Ok p))) q e in
      let b = goes_ok (coded (ways W clauses p.conditions)) (λ ws. goes_on (all_proved W p.conditions ws) (λ _. Ok p)) q a.2 in
      let d = goes_ok (all_proved W p.conditions b.0) (λ _. Ok p) q b.2 in
      let same : p ≡ q = cc in
      (same, conditions_provable clauses p.conditions b.0 fits (coded_ok (ways W clauses p.conditions) b.0 b.1) d.1)

  pub record IsPlanned (e : Frame) (p : Plan) : Type 0 where
    pub names : new_names W [] e.names ≡ Ok (tt {0})
    pub plan : e.plan W ≡ Ok p
    pub provable : ConditionsProvable W p

  pub checked_plan : (e : Frame) → IsLawful e → (p : Plan) → checked W e ≡ Ok p → IsPlanned e p
  checked_plan e lawful p h =
      let a = goes_ok (coded (new_names W [] e.names)) (λ _. goes_on (e.plan W) (proved W e.clauses)) p h in
      let b = goes_ok (e.plan W) (proved W e.clauses) p a.2 in
      let names = coded_ok (new_names W [] e.names) tt a.1 in
      let d = proved_plan e.clauses b.0 p (lawful W sound names b.0 b.1).fits b.2 in
      record {
        names = names;
        plan = b.1 ∙ ap Ok d.0;
        provable = subst (ConditionsProvable W) d.0 d.1;
      }

  -- what prints makes no world
  never_made : (o : Judged Val) (next : World) → printed o ≡ Accepted next → ⊥
  never_made (Ok v) next h = cc
  never_made (Err why) next h = cc

  by_end : (form : Datum) (e : Frame) → IsLawful e → (next : World) (prints : Option (World → Judged Val)) (o : Judged Plan) → checked W e ≡ o → ended W form prints o ≡ Accepted next → Sound next
  by_end form e lawful next prints (Err why) is h = absurd (cc)
  by_end form e lawful next (Some value) (Ok p) is h = absurd (never_made (value W) next h)
  by_end form e lawful next None (Ok p) is h =
      let same : made W form p ≡ next = cc in
      let c = checked_plan e lawful p is in
      let l = lawful W sound c.names p c.plan in
      let taken = l.lawful.takes (provable_hold W sound p.conditions c.provable) (l.lawful.before c.provable) (l.lawful.after c.provable) in
      subst Sound same (with_event (add_entries p.entries W) (entries_keep_sound W sound p.entries taken) form)

pub accepted_is_sound : HintsFit → ReductionsProve → AcceptedIsSound
accepted_is_sound read reduce W sound form e lawful next h = by_redundant (is_redundant W form e.repeats) h
  where
    by_redundant : (b : Bool) → (if b then Redundant else ended W form e.prints (checked W e)) ≡ Accepted next → Sound next
    by_redundant true h' = absurd (cc)
    by_redundant false h' = by_end read reduce W sound form e lawful next e.prints (checked W e) refl h'
