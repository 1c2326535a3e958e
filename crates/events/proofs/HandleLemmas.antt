-- What the handling of an event rests on.
use Rattle.std.proofs.Common.{◌≡◌, List, [], ◌∷◌, ◌++◌, Ok, refl, ap, sym, ◌∙◌, subst}
use Rattle.lisp_data.specs.Values.{Name}
use Rattle.terms.specs.Worlds.{World}
use Rattle.terms.specs.Sound.{Sound}
use Rattle.terms.specs.declared.sequent.Sequent.{Sequent}
use Rattle.term_forms.specs.Translation.{Outcome}
use Rattle.kernel.specs.Conclusion.{Conclusion}
use Rattle.reduction_proofs.specs.Laws.{HintsFit, ReductionsProve}
use Rattle.plans.specs.declared.plan.Condition.{Condition}
use Rattle.plans.specs.declared.plan.Entry.{Entry}
use Rattle.plans.specs.declared.plan.Plan.{Plan}
use Rattle.plans.specs.declared.claims.Claims.{Claims}
use Rattle.events.specs.declared.clauses.Way.{Way}
use Rattle.events.specs.declared.handle.EventProofs.{EventProofs}
use Rattle.plans.specs.Entries.{AdmitsAll, add_entries, add_functions}
use Rattle.plans.specs.Proving.{ProvesAll, AreClaimed, owed_before, sequents}
use Rattle.events.specs.Frames.{Judged, Clauses, Frame, coded, goes_on}
use Rattle.events.specs.Laws.{ConditionsFit, IsLawful, IsSuited}
use Rattle.events.specs.view.Halts.{FitWays, IsMade, AreProvedAfter, joined}
use Rattle.plans.specs.Plans.{IsLawfulPlan}
use Rattle.events.specs.Verdicts.{new_names, of_conditions, ways, all_proved, proved}
use Rattle.events.proofs.Inversions.{map_ok}
use Rattle.events.proofs.Accepted.{ways_fit, provable_hold, conditions_provable}

-- the plan of a lawful event whose names are new
pub suited_plan : (W : World) → Sound W → (e : Frame) → IsLawful e → (given names : List Name) → given ≡ [] → names ≡ e.names → new_names W given names ≡ Ok (tt {0}) → (p : Plan) → e.plan W ≡ Ok p → IsSuited W p
suited_plan W sound e lawful given names given_is names_is new p is =
    let first : new_names W [] names ≡ Ok (tt {0}) = subst (λ (ns : List Name). new_names W ns names ≡ Ok (tt {0})) given_is new in
    lawful W sound (subst (λ (ns : List Name). new_names W [] ns ≡ Ok (tt {0})) names_is first) p is

-- a world can take the entries of a lawful plan whose conditions are proved
admits : HintsFit → ReductionsProve → (W : World) → Sound W → (p : Plan) → IsLawfulPlan W p → ConditionsFit W p.conditions → (clauses : Clauses) (ws : List Way) → joined [] (ways W clauses p.conditions) ≡ Ok ws → all_proved W p.conditions ws ≡ Ok (tt {0}) → AdmitsAll W p.entries
admits read reduce W sound p lawful fits clauses ws e h =
    let o = ways W clauses p.conditions in
    let m = map_ok o (λ ys. [] ++ ys) ws e in
    let provable = conditions_provable read reduce W sound clauses p.conditions m.0 fits m.1 (subst (λ ws. all_proved W p.conditions ws ≡ Ok (tt {0})) (sym m.2) h) in
    lawful.takes (provable_hold W sound p.conditions provable) (lawful.before provable) (lawful.after provable)

pub admitted : HintsFit → ReductionsProve → (W : World) → Sound W → (p : Plan) → IsLawfulPlan W p → ConditionsFit W p.conditions → (clauses : Clauses) (cs : List Condition) (old ws us : List Way) → cs ≡ p.conditions → old ≡ [] → joined old (ways W clauses cs) ≡ Ok ws → us ≡ ws → all_proved W cs us ≡ Ok (tt {0}) → AdmitsAll W p.entries
admitted read reduce W sound p lawful fits clauses cs old ws us cs_is old_is e us_is h =
    admits read reduce W sound p lawful fits clauses ws (subst (λ (o : List Way). joined o (ways W clauses p.conditions) ≡ Ok ws) old_is (subst (λ (ks : List Condition). joined old (ways W clauses ks) ≡ Ok ws) cs_is e))
    (subst (λ (vs : List Way). all_proved W p.conditions vs ≡ Ok (tt {0})) us_is (subst (λ (ks : List Condition). all_proved W ks us ≡ Ok (tt {0})) cs_is h))

-- the ways of conditions are what was read for them
pub suited : HintsFit → ReductionsProve → (W : World) → Sound W → (clauses : Clauses) (cs : List Condition) (old ws us : List Way) → old ≡ [] → joined old (ways W clauses cs) ≡ Ok ws → us ≡ ws → FitWays W cs us
suited read reduce W sound clauses cs old ws us old_is e us_is =
    let m = map_ok (ways W clauses cs) (λ ys. [] ++ ys) ws (subst (λ (o : List Way). joined o (ways W clauses cs) ≡ Ok ws) old_is e) in
    subst (FitWays W cs) (m.2 ∙ sym us_is) (ways_fit read reduce W sound clauses cs m.0 m.1)

-- a plan whose conditions are proved passes its checks
pub carried : (W : World) (p : Plan) (clauses : Clauses) (cs : List Condition) (old ws us : List Way) → cs ≡ p.conditions → of_conditions cs clauses ≡ Ok (tt {0}) → old ≡ [] → joined old (ways W clauses cs) ≡ Ok ws → us ≡ ws → all_proved W cs us ≡ Ok (tt {0}) → proved W clauses p ≡ Ok p
carried W p clauses cs old ws us cs_is named old_is e us_is h =
    let named' : of_conditions p.conditions clauses ≡ Ok (tt {0}) = subst (λ (ks : List Condition). of_conditions ks clauses ≡ Ok (tt {0})) cs_is named in
    let e' : joined [] (ways W clauses p.conditions) ≡ Ok ws =
    subst (λ (o : List Way). joined o (ways W clauses p.conditions) ≡ Ok ws) old_is (subst (λ (ks : List Condition). joined old (ways W clauses ks) ≡ Ok ws) cs_is e) in
    let h' : all_proved W p.conditions ws ≡ Ok (tt {0}) =
    subst (λ (vs : List Way). all_proved W p.conditions vs ≡ Ok (tt {0})) us_is (subst (λ (ks : List Condition). all_proved W ks us ≡ Ok (tt {0})) cs_is h) in
    let m = map_ok (ways W clauses p.conditions) (λ ys. [] ++ ys) ws e' in
    ap (λ (o : Outcome (Unit {0})). goes_on (coded o) (λ _. goes_on (coded (ways W clauses p.conditions)) (λ vs. goes_on (all_proved W p.conditions vs) (λ _. Ok p)))) named'
    ∙ ap (λ (o : Outcome (List Way)). goes_on (coded o) (λ vs. goes_on (all_proved W p.conditions vs) (λ _. Ok p))) (m.1 ∙ ap Ok m.2)
    ∙ ap (λ (o : Judged (Unit {0})). goes_on o (λ _. Ok p)) h'

-- the proofs of conditions alone are those of the plan's
pub own_proofs : (W : World) (p : Plan) (cs : List Condition) (us : List Way) (start before : List Conclusion) → cs ≡ p.conditions → start ≡ [] → AreProvedAfter W cs us start before → ProvesAll W (sequents p.conditions) before
own_proofs W p cs us start before cs_is start_is it =
    let before_is : it.further ≡ before = sym (it.joined ∙ ap (λ xs. xs ++ it.further) start_is) in
    subst (λ (ps : List Conclusion). ProvesAll W (sequents p.conditions) ps) before_is (subst (λ (ks : List Condition). ProvesAll W (sequents ks) it.further) cs_is it.proofs)

-- the world and the entries as the code has them
pub can_install : (W V : World) (p : Plan) (es : List Entry) → AdmitsAll W p.entries → V ≡ W → es ≡ p.entries → AdmitsAll V es
can_install W V p es admitted V_is es_is =
    subst (λ (X : World). AdmitsAll X es) (sym V_is) (subst (λ (xs : List Entry). AdmitsAll W xs) (sym es_is) admitted)

-- proofs of some sequents, and then of others
proves_both : (W : World) (ss ts : List Sequent) (ps qs : List Conclusion) → ProvesAll W ss ps → ProvesAll W ts qs → ProvesAll W (ss ++ ts) (ps ++ qs)
proves_both W [] ts [] qs a b = b
proves_both W [] ts (p ∷ ps) qs a b = absurd a
proves_both W (s ∷ ss) ts [] qs a b = absurd a
proves_both W (s ∷ ss) ts (p ∷ ps) qs a b = (a.0, proves_both W ss ts ps qs a.1 b)

-- what a plan makes, with the proofs of its conditions and of its claims
pub made_by : (W V next : World) (p : Plan) (conditions : List Conclusion) (claims : Claims) (proofs : EventProofs) (es : List Entry) → ProvesAll W (sequents p.conditions) conditions → AreClaimed W p claims → proofs.before ≡ conditions ++ claims.before → proofs.after ≡ claims.after → V ≡ W → es ≡ p.entries → next ≡ add_entries es V → IsMade W p (record { plan = p; world = next; proofs = proofs })
made_by W V next p conditions claims proofs es own claimed before_is after_is V_is es_is next_is =
    let U = add_functions p.entries W in
    record {
      plan = refl;
      world = next_is ∙ ap (λ xs. add_entries xs V) es_is ∙ ap (add_entries p.entries) V_is;
      proved = record {
        before = subst (λ (ps : List Conclusion). ProvesAll W (owed_before p) ps) (sym before_is) (proves_both W (sequents p.conditions) p.before conditions claims.before own claimed.0);
        after = subst (λ (ps : List Conclusion). ProvesAll U p.after ps) (sym after_is) claimed.1;
      };
    }
