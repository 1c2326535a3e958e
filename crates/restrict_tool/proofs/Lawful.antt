-- A restriction does what it claims: the new function's obligations and the theorem hold, and the world can take what is planned.
use Rattle.std.proofs.Common.{◌≡◌, ◌+◌, ℕ, zero, suc, Bool, true, false, cond, not, ◌&&◌, ◌||◌, List, [], ◌∷◌, map, length, slice_get, bytes_eq, codes, Some, None, Ok, refl, sym, ap, ◌∙◌, subst}
use Rattle.lisp_data.specs.Values.{Name, Val}
use Rattle.terms.specs.BuiltIn.{implies_def}
use Rattle.terms.specs.Definitions.{find}
use Rattle.terms.specs.Formed.{with_def, FitsOver, IsFormed, ObligationsHold}
use Rattle.terms.specs.Later.{IsLater}
use Rattle.terms.specs.Links.{alone, at_variables}
use Rattle.terms.specs.Measures.{RecursiveCall, recursive_calls, obligations}
use Rattle.terms.specs.Sound.{Sound, add_definition}
use Rattle.terms.specs.Terms.{Tm, Call, Tms, count, OverAll, by_args}
use Rattle.terms.specs.Worlds.{World, Functions, Each, Fits, FitsSequent, Holds, arity, names, is_in, IsIn}
use Rattle.terms.specs.declared.definition.Definition.{Definition}
use Rattle.terms.specs.declared.sequent.Sequent.{Sequent}
use Rattle.terms.proofs.Below.{Any}
use Rattle.terms.proofs.Extend.{over_map, over_all_map, arity_later}
use Rattle.terms.proofs.Later.{has_basics}
use Rattle.terms.proofs.LaterSteps.{later_self, later_definition}
use Rattle.terms.proofs.Lists.{each_to, each_of_map, join_to}
use Rattle.terms.proofs.Meaning.{arity_defined}
use Rattle.terms.proofs.Names.{name_self}
use Rattle.terms.proofs.Totality.{over_substitute, over_by_args}
use Rattle.terms.proofs.WorldsGrow.{worlds_grow}
use Rattle.worlds.specs.Names.{reserved, is_free}
use Rattle.worlds.proofs.Free.{IsFree, free}
use Rattle.kernel.specs.Conclusion.{Conclusion}
use Rattle.kernel.specs.Concludes.{concludes}
use Rattle.kernel.proofs.Inversions.{fits_decides, fit_all_true}
use Rattle.kernel.proofs.Later.{proofs_stay}
use Rattle.plans.specs.Entries.{AdmitsAll, IsNewDefinition, IsNewTheorem}
use Rattle.plans.specs.Plans.{IsProvable, ConditionsProvable, ConditionsHold, HoldBefore, HoldAfter, IsLawfulPlan}
use Rattle.plans.specs.Proving.{ProvesAll}
use Rattle.plans.specs.declared.plan.Plan.{Plan}
use Rattle.plans.proofs.ProvedHold.{proved_conditions_hold}
use Rattle.plan_checks.specs.Numbered.{numbered_from}
use Rattle.proof_builders.specs.Congruence.{congruence, proof_among, IsConcluded}
use Rattle.proof_builders.specs.Schemes.{induct_on_calls}
use Rattle.proof_builders.proofs.Conditions.{by_congruence}
use Rattle.proof_builders.proofs.Schemes.{induct_on_calls_proves}
use Rattle.reduction_proofs.specs.Proving.{Proves, ProvesCondition}
use Rattle.reduction_proofs.specs.Trees.{Proof, Owed}
use Rattle.reduction_proofs.proofs.Deduction.{condition_proved}
use Rattle.reduction_proofs.proofs.Members.{Fit}
use Rattle.restrict_tool.specs.Laws.{HasBoth, IsRestriction, RestrictionsAreLawful}
use Rattle.restrict_tool.specs.Proofs.{hypotheses, agreement, agreements, by_hypothesis, same_bodies, unfolded}
use Rattle.restrict_tool.specs.Restrictions.{Request, AreNew, new_body, restricted, same_where, at_call, stays_restricted, conditions_of, entries_of, planned}
use Rattle.restrict_tool.proofs.Agreement.{IsCall, is_call, calls_agree}
use Rattle.restrict_tool.proofs.Alike.{bodies_are_alike}
use Rattle.restrict_tool.proofs.Formed.{takes, formed, old_fits, apart, two, restriction_fits_later, new_fits, new_formed, own_arity, words}
use Rattle.restrict_tool.proofs.Independent.{count_own, own_over, linked}
use Rattle.restrict_tool.proofs.Owed.{restriction_owes}
use Rattle.restrict_tool.proofs.Planned.{planned_is}
use Rattle.restrict_tool.proofs.Unfolding.{unfolding_proves}

-- ---- lists
-- what holds of the item at each place holds of each
by_places : {A : Type 0} (P : A → Type 0) (xs : List A) → ((k : ℕ) (x : A) → slice_get xs k ≡ Some x → P x) → Each P xs
by_places P [] h = tt
by_places P (x ∷ xs) h = (h 0 x refl, by_places P xs (λ k z e. h (suc k) z e))

each_mapped : {A B : Type 0} (P : B → Type 0) (f : A → B) (xs : List A) → Each (λ x. P (f x)) xs → Each P (map f xs)
each_mapped P f [] h = tt
each_mapped P f (x ∷ xs) h = (h.0, each_mapped P f xs h.1)

-- conditions that are counted are the sequents
of_numbered : (P : Sequent → Type 0) (word : List ℕ) (k : ℕ) (ss : List Sequent) → Each (λ c. P c.sequent) (numbered_from word k ss) → Each P ss
of_numbered P word k [] h = tt
of_numbered P word k (s ∷ ss) h = (h.0, of_numbered P word (k + 1) ss h.1)

to_numbered : (P : Sequent → Type 0) (word : List ℕ) (k : ℕ) (ss : List Sequent) → Each P ss → Each (λ c. P c.sequent) (numbered_from word k ss)
to_numbered P word k [] h = tt
to_numbered P word k (s ∷ ss) h = (h.0, to_numbered P word (k + 1) ss h.1)

-- ---- in a world with both functions
module _ (V : World) (sound : Sound V) (d : Definition) (g : Name) (r : Tm) (u : Val) (both : HasBoth V d g r u) where
  -- a proof that a call's arguments meet the restriction
  abbrev IsMet : RecursiveCall → Type 0
  IsMet c = (P : Proof) × ProvesCondition V (stays_restricted d r c) P

  abbrev Agrees : RecursiveCall → Type 0
  Agrees c = (P : Proof) → ProvesCondition V (stays_restricted d r c) P → ProvesCondition V (agreement d g r c) (by_hypothesis d g r c P)

  -- proofs of sequents, in order
  record AreProved (ss : List Sequent) : Type 0 where
    conclusions : List Conclusion
    proved : ProvesAll V ss conclusions
    concluded : Each (IsConcluded V) conclusions

  all_agree : (cs : List RecursiveCall) → Each Agrees cs → Each IsMet cs → AreProved (map (agreement d g r) cs)
  all_agree [] a m = record { conclusions = []; proved = tt; concluded = tt }
  all_agree (c ∷ cs) a m =
      let one = a.0 m.0.0 m.0.1 in
      let rest = all_agree cs a.1 m.1 in
      record {
        conclusions = record { world = V; proof = by_hypothesis d g r c m.0.0; sequent = one.sequent } ∷ rest.conclusions;
        proved = ((refl, one.proved), rest.proved);
        concluded = (one.concluded, rest.concluded);
      }

  -- the theorem, from a proof at each call
  theorem_holds : Fits V.functions d.body → Fits V.functions (new_body d g) → Each IsMet (recursive_calls d.name [] d.body) → Holds V.functions (alone (same_where d g r))
  theorem_holds fit_old fit_new met =
      let calls : List RecursiveCall = recursive_calls d.name [] d.body in
      let agree : AreProved (agreements d g r) = all_agree calls (by_places Agrees calls (λ k c e. calls_agree V sound d g r u both k c e)) met in
      let alike = bodies_are_alike V d g r both.two (formed V sound d both.old).flat in
      let C : Proof = congruence d.name (proof_among agree.conclusions [] (hypotheses d g r)) [] d.body (new_body d g) in
      let same : ProvesCondition V (same_bodies d g r) C = by_congruence V sound (same_bodies d g r) d.name d.body (new_body d g) refl fit_old fit_new alike.0 agree.conclusions agree.concluded (alike.1 agree.conclusions agree.proved) [] refl C refl in
      let B : Proof = unfolded d g r u C in
      let whole : Proves V [] [] (same_where d g r) (induct_on_calls d B) = induct_on_calls_proves V sound [] d both.old (same_where d g r) B (unfolding_proves V sound d g r u both C same) in
      let p = condition_proved V (alone (same_where d g r)) (induct_on_calls d B) whole in
      proved_conditions_hold V sound (alone (same_where d g r)) p.sequent (induct_on_calls d B) p.concluded p.proved

module _ (W : World) (sound : Sound W) (q : Request) (new : AreNew W q) (d : Definition) (found : find W.functions.defs d.name ≡ Some d) (r : Tm) (fit : FitsOver W.functions d.formals r) where
  abbrev g : Name
  g = q.function

  abbrev made : Definition
  made = restricted d q.function r q.undefined

  abbrev V : World
  V = add_definition (restricted d q.function r q.undefined) W

  abbrev F : Functions
  F = with_def W.functions (restricted d q.function r q.undefined)

  g_free : IsFree W q.function
  g_free = free W q.function new.function

  unknown : arity W.functions q.function ≡ None
  unknown = g_free.no_function

  -- what the new function owes holds
  owes : ObligationsHold W.functions (restricted d q.function r q.undefined)
  owes =
      by_places (Holds W.functions) (obligations (restricted d q.function r q.undefined))
      (λ k s e.
      let p = restriction_owes W sound d found q.function unknown r fit q.undefined k s e in
      proved_conditions_hold W sound s p.sequent (Owed d.name k) p.concluded p.proved)

  well_formed : IsFormed W.functions (restricted d q.function r q.undefined)
  well_formed =
      let ok = new_formed W sound d found q.function unknown r fit q.undefined in
      record {
        fresh = unknown;
        formals = ok.formals;
        body = ok.body;
        measure = ok.measure;
        measured = ok.measured;
        flat = ok.flat;
      }

  sound_after : Sound (add_definition (restricted d q.function r q.undefined) W)
  sound_after = worlds_grow.definition W sound (restricted d q.function r q.undefined) well_formed g_free.new owes

  later : IsLater W (add_definition (restricted d q.function r q.undefined) W)
  later = later_definition W W (later_self W) (restricted d q.function r q.undefined)

  both : HasBoth (add_definition (restricted d q.function r q.undefined) W) d q.function r q.undefined
  both = record {
    old = ap (λ b. cond b (Some (restricted d q.function r q.undefined)) (find W.functions.defs d.name)) (apart W sound d found q.function unknown) ∙ found;
    new = ap (λ b. cond b (Some (restricted d q.function r q.undefined)) (find W.functions.defs q.function)) (name_self q.function);
    two = two W sound d found q.function unknown;
    restriction = restriction_fits_later W sound d found q.function unknown r fit q.undefined;
  }

  any_fits : (t : Tm) → FitsOver F d.formals t → Fits F t
  any_fits t o = over_map (IsIn d.formals) Any (λ h k. arity F h ≡ Some k) (λ h k. arity F h ≡ Some k) (λ x i. tt) (λ h k a. a) t o

  -- what is proved in the world before is proved in the world with the function
  met_later : (c : RecursiveCall) → IsProvable W (stays_restricted d r c) → IsMet V sound_after d q.function r q.undefined both c
  met_later c p = (
    p.proof,
    record {
      sequent = p.sequent;
      concluded = proofs_stay W (add_definition (restricted d q.function r q.undefined) W) sound sound_after later p.proof p.sequent p.concluded;
      proved = p.proved;
    },
  )

  theorem_after : Each (λ c. IsProvable W c.sequent) (conditions_of d r) → Holds F (alone (same_where d q.function r))
  theorem_after provable =
      let calls : List RecursiveCall = recursive_calls d.name [] d.body in
      let of_calls : Each (λ c. IsProvable W (stays_restricted d r c)) calls =
      each_of_map (IsProvable W) (stays_restricted d r) calls (of_numbered (IsProvable W) (codes ":RESTRICTION-OF-CALL-") 1 (map (stays_restricted d r) calls) provable) in
      theorem_holds V sound_after d q.function r q.undefined both
      (any_fits d.body (over_map (IsIn d.formals) (IsIn d.formals) (λ h k. arity W.functions h ≡ Some k) (λ h k. arity F h ≡ Some k) (λ x i. i) (arity_later W.functions (restricted d q.function r q.undefined) unknown) d.body (old_fits W sound d found)))
      (any_fits (new_body d q.function) (new_fits W sound d found q.function unknown r fit q.undefined))
      (each_to (λ c. IsProvable W (stays_restricted d r c)) (IsMet V sound_after d q.function r q.undefined both) met_later calls of_calls)

  -- a function at its formals
  at_formals : (f : Name) → arity F f ≡ Some (length d.formals) → Fits F (at_variables f d.formals)
  at_formals f a = any_fits (at_variables f d.formals) (a ∙ ap Some (sym (count_own d.formals)), own_over d.formals (λ h k. arity F h ≡ Some k) d.formals (λ x i. i))

  theorem_fits : FitsSequent F (alone (same_where d q.function r))
  theorem_fits = record {
    universals = tt;
    hyps = tt;
    goal = (
      arity_defined F sound_after.formed (codes "IMPLIES") implies_def (has_basics V sound_after).has_implies,
      (
        any_fits r both.restriction,
        (
          (
            (words V sound_after).has_equal,
            (
              at_formals d.name (arity_later W.functions (restricted d q.function r q.undefined) unknown d.name (length d.formals) (takes W sound d found)),
              (at_formals q.function (own_arity W.functions (restricted d q.function r q.undefined) unknown), tt),
            ),
          ),
          tt,
        ),
      ),
    );
  }

  -- the theorem's name is free beside the new function
  theorem_free : is_free V q.theorem ≡ true
  theorem_free = ap (λ b. not (is_in reserved q.theorem) && not (b || is_in (names W) q.theorem)) new.two ∙ new.theorem

  -- the conditions are well formed
  condition_fits : (c : RecursiveCall) → IsCall W d c → FitsSequent W.functions (stays_restricted d r c)
  condition_fits c is =
      let tests : Each (Fits W.functions) c.tests = each_to (Fit W) (Fits W.functions) (λ t. (fits_decides W.functions t).0) c.tests is.tests in
      let args : OverAll Any (λ h k. arity W.functions h ≡ Some k) c.args = fit_all_true W.functions c.args is.args in
      record {
        universals = tt;
        hyps = join_to (Fits W.functions) [] (r ∷ c.tests) tt (over_map (IsIn d.formals) Any (λ h k. arity W.functions h ≡ Some k) (λ h k. arity W.functions h ≡ Some k) (λ x i. tt) (λ h k a. a) r fit, tests);
        goal = over_substitute (IsIn d.formals) Any (λ h k. arity W.functions h ≡ Some k) (by_args d.formals c.args) (λ x i. over_by_args Any (λ h k. arity W.functions h ≡ Some k) d.formals c.args x is.number args i) r fit;
      }

  conditions_fit : Each (λ c. FitsSequent W.functions c.sequent) (conditions_of d r)
  conditions_fit =
      let calls : List RecursiveCall = recursive_calls d.name [] d.body in
      to_numbered (FitsSequent W.functions) (codes ":RESTRICTION-OF-CALL-") 1 (map (stays_restricted d r) calls)
      (each_mapped (FitsSequent W.functions) (stays_restricted d r) calls
      (by_places (λ c. FitsSequent W.functions (stays_restricted d r c)) calls (λ k c e. condition_fits c (is_call W sound d found k c e))))

pub restrictions_are_lawful : RestrictionsAreLawful
restrictions_are_lawful W sound q new p e =
    let is = planned_is W sound q p e in
    let d : Definition = is.definition in
    let r : Tm = is.restriction in
    let unknown : arity W.functions q.function ≡ None = (free W q.function new.function).no_function in
    let made : Definition = restricted d q.function r q.undefined in
    subst (IsRestriction W) is.plan
    (record {
      lawful = record {
        before = λ provable. owes W sound q new d is.found r is.fits;
        after = λ provable. (theorem_after W sound q new d is.found r is.fits provable, tt);
        takes = λ conditions held after. (
          record {
            free = new.function;
            well_formed = new_formed W sound d is.found q.function unknown r is.fits q.undefined;
            owed = held;
          },
          (
            (
              theorem_free W sound q new d is.found r is.fits,
              record {
                no_hyps = refl;
                fits = theorem_fits W sound q new d is.found r is.fits;
                holds = after.0;
              },
            ),
            (linked W sound d is.found is.first_order q.function unknown r is.fits is.independent q.undefined q.theorem, tt),
          ),
        );
      };
      fits = conditions_fit W sound q new d is.found r is.fits;
    })
