-- A transfer is lawful.
use Rattle.std.proofs.Common.{◌≡◌, ℕ, zero, suc, ◌+◌, true, false, cond, not, ◌&&◌, ◌||◌, List, [], ◌∷◌, ◌++◌, length, map, slice_get, bytes_eq, codes, Some, None, refl, sym, ap, ◌∙◌, subst}
use Rattle.lisp_data.specs.Values.{Name}
use Rattle.terms.specs.BuiltIn.{implies_def}
use Rattle.terms.specs.Definitions.{find}
use Rattle.terms.specs.Formed.{with_def, FitsOver, IsFormed, ObligationsHold}
use Rattle.terms.specs.Later.{IsLater}
use Rattle.terms.specs.Links.{alone, at_variables, conjunction, IsIndependent, IndependentOver}
use Rattle.terms.specs.Measures.{RecursiveCall, recursive_calls, obligations}
use Rattle.terms.specs.Primitives.{primitive, primitives}
use Rattle.terms.specs.Sound.{Sound, add_definition, add_theorem}
use Rattle.terms.specs.Terms.{Tm, Var, OverAll, by_args}
use Rattle.terms.specs.Worlds.{World, Functions, Each, Fits, FitsSequent, Holds, arity, names, is_in, IsIn}
use Rattle.terms.specs.declared.definition.Definition.{Definition}
use Rattle.terms.specs.declared.sequent.Sequent.{Sequent}
use Rattle.terms.proofs.Below.{Any}
use Rattle.terms.proofs.Extend.{over_map, arity_later}
use Rattle.terms.proofs.Later.{has_basics}
use Rattle.terms.proofs.LaterSteps.{later_self, later_definition}
use Rattle.terms.proofs.Lists.{each_to, each_join, each_of_map, join_to}
use Rattle.terms.proofs.Meaning.{arity_defined, arity_primitive}
use Rattle.terms.proofs.Models.{is_if}
use Rattle.terms.proofs.Names.{name_self}
use Rattle.terms.proofs.Totality.{over_by_args}
use Rattle.terms.proofs.WorldsGrow.{worlds_grow}
use Rattle.worlds.specs.Names.{reserved, is_free}
use Rattle.worlds.proofs.Free.{IsFree, free}
use Rattle.kernel.specs.Conclusion.{Conclusion}
use Rattle.kernel.specs.Sequents.{equation, implication}
use Rattle.kernel.proofs.Inversions.{fits_decides, fit_all_true}
use Rattle.kernel.proofs.Later.{proofs_stay}
use Rattle.plans.specs.Plans.{IsProvable}
use Rattle.plans.specs.Proving.{ProvesAll}
use Rattle.plans.proofs.ProvedHold.{proved_conditions_hold}
use Rattle.plan_checks.specs.Numbered.{numbered_from}
use Rattle.proof_builders.specs.Congruence.{congruence, proof_among, IsConcluded}
use Rattle.proof_builders.specs.Schemes.{induct_on_calls}
use Rattle.proof_builders.proofs.Conditions.{by_congruence}
use Rattle.proof_builders.proofs.Schemes.{induct_on_calls_proves}
use Rattle.reduction_proofs.specs.Proving.{Proves, ProvesCondition}
use Rattle.reduction_proofs.specs.Trees.{Proof}
use Rattle.reduction_proofs.proofs.Deduction.{condition_proved}
use Rattle.reduction_proofs.proofs.Members.{Fit}
use Rattle.soft_vars.specs.Dependents.{variables_of}
use Rattle.isodata_tool.specs.Carried.{Mapped, AreMapped, with_back, all_in_old, all_in_new, called_body, carried_over, old_at_back, new_at_forth, new_to_old, old_to_new, stays_old}
use Rattle.isodata_tool.specs.Isomorphic.{Request, AreNew, conditions_of}
use Rattle.isodata_tool.specs.Laws.{HasBoth, Agrees, IsOwed, IsTransfer, TransfersAreLawful}
use Rattle.isodata_tool.specs.Proofs.{hypotheses, agreement, agreements, by_hypothesis, same_bodies, unfolded, turned_round, natural_there, falls_there}
use Rattle.isodata_tool.proofs.Agreement.{calls_agree}
use Rattle.isodata_tool.proofs.Alike.{bodies_are_alike}
use Rattle.isodata_tool.proofs.Calling.{at_place, IsCall, is_call}
use Rattle.isodata_tool.proofs.Formed.{takes, old_fits, apart, condition_fits, called_fits, fits_later, back_fits, new_formed, own_arity, take_oldp, are_formals}
use Rattle.isodata_tool.proofs.Independent.{old_side, condition_side, new_side, linked}
use Rattle.isodata_tool.proofs.Kept.{count_names, over_names, over_conjunction, over_in_old}
use Rattle.isodata_tool.proofs.Owed.{isomorphic_owes}
use Rattle.isodata_tool.proofs.Planned.{planned_is}
use Rattle.isodata_tool.proofs.Turning.{turning_proves}
use Rattle.isodata_tool.proofs.Unfolding.{unfolding_proves}

-- ---- lists
-- what holds of the item at each place holds of each
by_places : {A : Type 0} (P : A → Type 0) (xs : List A) → ((k : ℕ) (x : A) → slice_get xs k ≡ Some x → P x) → Each P xs
by_places P [] h = tt
by_places P (x ∷ xs) h = (h 0 x refl, by_places P xs (λ k z e. h (suc k) z e))

each_mapped : {A B : Type 0} (P : B → Type 0) (f : A → B) (xs : List A) → Each (λ x. P (f x)) xs → Each P (map f xs)
each_mapped P f [] h = tt
each_mapped P f (x ∷ xs) h = (h.0, each_mapped P f xs h.1)

-- conditions that are counted are the sequents
of_numbered : (P : Sequent → Type 0) (word : List ℕ) (k : ℕ) (ss : List Sequent) → Each (λ c. P c.sequent) (numbered_from word k ss) → Each P ss
of_numbered P word k [] h = tt
of_numbered P word k (s ∷ ss) h = (h.0, of_numbered P word (k + 1) ss h.1)

to_numbered : (P : Sequent → Type 0) (word : List ℕ) (k : ℕ) (ss : List Sequent) → Each P ss → Each (λ c. P c.sequent) (numbered_from word k ss)
to_numbered P word k [] h = tt
to_numbered P word k (s ∷ ss) h = (h.0, to_numbered P word (k + 1) ss h.1)

takes_equal : (F : Functions) → arity F (codes "EQUAL") ≡ Some 2
unfolding primitive primitives
takes_equal F = refl

-- a name among further names that isn't the one that stands between
not_between : (xs ys zs : List Name) (m n : Name) → bytes_eq m n ≡ false → is_in (xs ++ (ys ++ (m ∷ zs))) n ≡ is_in (xs ++ (ys ++ zs)) n
not_between [] [] zs m n e = ap (λ b. b || is_in zs n) e
not_between [] (y ∷ ys) zs m n e = ap (λ b. bytes_eq y n || b) (not_between [] ys zs m n e)
not_between (x ∷ xs) ys zs m n e = ap (λ b. bytes_eq x n || b) (not_between xs ys zs m n e)

-- ---- in a world with both functions
module _ (V : World) (sound : Sound V) (d : Definition) (g : Name) (ms : List Mapped) (both : HasBoth V d g ms) where
  -- a proof that a call's arguments are in the old representation
  abbrev IsMet : RecursiveCall → Type 0
  IsMet c = (P : Proof) × ProvesCondition V (stays_old d ms c) P

  -- proofs of sequents, in order
  record AreProved (ss : List Sequent) : Type 0 where
    conclusions : List Conclusion
    proved : ProvesAll V ss conclusions
    concluded : Each (IsConcluded V) conclusions

  all_agree : (cs : List RecursiveCall) → Each (Agrees V d g ms) cs → Each IsMet cs → AreProved (map (agreement d g ms) cs)
  all_agree [] a m = record { conclusions = []; proved = tt; concluded = tt }
  all_agree (c ∷ cs) a m =
      let one = a.0 m.0.0 m.0.1 in
      let rest = all_agree cs a.1 m.1 in
      record {
        conclusions = record { world = V; proof = by_hypothesis d g ms c m.0.0; sequent = one.sequent } ∷ rest.conclusions;
        proved = ((refl, one.proved), rest.proved);
        concluded = (one.concluded, rest.concluded);
      }

  -- the theorems, from a proof at each call
  record TheoremsHold : Type 0 where
    first : Holds V.functions (alone (new_to_old d g ms))
    second : Holds V.functions (alone (old_to_new d g ms))

  theorems_hold : Fits V.functions d.body → Fits V.functions (called_body d g ms) → Each IsMet (recursive_calls d.name [] d.body) → TheoremsHold
  theorems_hold fit_old fit_new met =
      let calls : List RecursiveCall = recursive_calls d.name [] d.body in
      let agree : AreProved (agreements d g ms) = all_agree calls (by_places (Agrees V d g ms) calls (λ k c e. calls_agree V sound d g ms both k c e)) met in
      let alike = bodies_are_alike V d g ms in
      let C : Proof = congruence d.name (proof_among agree.conclusions [] (hypotheses d g ms)) [] d.body (called_body d g ms) in
      let same : ProvesCondition V (same_bodies d g ms) C = by_congruence V sound (same_bodies d g ms) d.name d.body (called_body d g ms) refl fit_old fit_new alike.0 agree.conclusions agree.concluded (alike.1 agree.conclusions agree.proved) [] refl C refl in
      let B : Proof = unfolded d g ms C in
      let N : Proof = induct_on_calls d B in
      let whole : Proves V [] [] (old_to_new d g ms) N = induct_on_calls_proves V sound [] d both.old (old_to_new d g ms) B (unfolding_proves V sound d g ms both C same) in
      let p : ProvesCondition V (alone (old_to_new d g ms)) N = condition_proved V (alone (old_to_new d g ms)) N whole in
      let q : ProvesCondition V (alone (new_to_old d g ms)) (turned_round d g ms N) = turning_proves V sound d g ms both N p in
      record {
        first = proved_conditions_hold V sound (alone (new_to_old d g ms)) q.sequent (turned_round d g ms N) q.concluded q.proved;
        second = proved_conditions_hold V sound (alone (old_to_new d g ms)) p.sequent N p.concluded p.proved;
      }

-- conditions of the calls
calls_provable : (W : World) (d : Definition) (ms : List Mapped) → Each (λ c. IsProvable W c.sequent) (conditions_of d ms) → Each (λ c. IsProvable W (stays_old d ms c)) (recursive_calls d.name [] d.body)
calls_provable W d ms provable =
    let calls : List RecursiveCall = recursive_calls d.name [] d.body in
    each_of_map (IsProvable W) (stays_old d ms) calls (of_numbered (IsProvable W) (codes ":OLDP-OF-CALL-") 1 (map (stays_old d ms) calls) provable)

module _ (W : World) (sound : Sound W) (q : Request) (new : AreNew W q) (d : Definition) (found : find W.functions.defs d.name ≡ Some d) (ms : List Mapped) (mapped : AreMapped W d.formals ms) where
  abbrev V : World
  V = add_definition (carried_over d q.function ms) W

  abbrev F : Functions
  F = with_def W.functions (carried_over d q.function ms)

  g_free : IsFree W q.function
  g_free = free W q.function new.function

  unknown : arity W.functions q.function ≡ None
  unknown = g_free.no_function

  -- what the new function owes holds, where the conditions are proved
  owed_holds : Each (λ c. IsProvable W (stays_old d ms c)) (recursive_calls d.name [] d.body) → (k : ℕ) (s : Sequent) → IsOwed W d ms k s → Holds W.functions s
  owed_holds provable zero s p = proved_conditions_hold W sound s p.sequent (natural_there d ms) p.concluded p.proved
  owed_holds provable (suc k) s f =
      let met = at_place (λ c. IsProvable W (stays_old d ms c)) (recursive_calls d.name [] d.body) k f.call provable f.called in
      let p = f.falls met.proof (record { sequent = met.sequent; concluded = met.concluded; proved = met.proved }) in
      proved_conditions_hold W sound s p.sequent (falls_there d f.measure ms (suc k) f.call met.proof) p.concluded p.proved

  owes : Each (λ c. IsProvable W c.sequent) (conditions_of d ms) → ObligationsHold W.functions (carried_over d q.function ms)
  owes provable =
      by_places (Holds W.functions) (obligations (carried_over d q.function ms))
      (λ k s e. owed_holds (calls_provable W d ms provable) k s (isomorphic_owes W sound d found q.function unknown ms mapped k s e))

  well_formed : IsFormed W.functions (carried_over d q.function ms)
  well_formed =
      let ok = new_formed W sound d found q.function unknown ms mapped in
      record {
        fresh = unknown;
        formals = ok.formals;
        body = ok.body;
        measure = ok.measure;
        measured = ok.measured;
        flat = ok.flat;
      }

  sound_after : ObligationsHold W.functions (carried_over d q.function ms) → Sound (add_definition (carried_over d q.function ms) W)
  sound_after owed = worlds_grow.definition W sound (carried_over d q.function ms) well_formed g_free.new owed

  later : IsLater W (add_definition (carried_over d q.function ms) W)
  later = later_definition W W (later_self W) (carried_over d q.function ms)

  both : HasBoth (add_definition (carried_over d q.function ms) W) d q.function ms
  both = record {
    old = ap (λ b. cond b (Some (carried_over d q.function ms)) (find W.functions.defs d.name)) (apart W sound d found q.function unknown) ∙ found;
    new = ap (λ b. cond b (Some (carried_over d q.function ms)) (find W.functions.defs q.function)) (name_self q.function);
    mapped = record { placed = mapped.placed; own = mapped.own; known = mapped.known };
  }

  any_fits : (t : Tm) → FitsOver F d.formals t → Fits F t
  any_fits t o = over_map (IsIn d.formals) Any (λ h k. arity F h ≡ Some k) (λ h k. arity F h ≡ Some k) (λ x i. tt) (λ h k a. a) t o

  -- what is proved in the world before is proved in the world with the function
  met_later : (after : Sound V) (c : RecursiveCall) → IsProvable W (stays_old d ms c) → IsMet V after d q.function ms both c
  met_later after c p = (
    p.proof,
    record {
      sequent = p.sequent;
      concluded = proofs_stay W (add_definition (carried_over d q.function ms) W) sound after later p.proof p.sequent p.concluded;
      proved = p.proved;
    },
  )

  module _ (provable : Each (λ c. IsProvable W c.sequent) (conditions_of d ms)) where
    after : Sound (add_definition (carried_over d q.function ms) W)
    after = sound_after (owes provable)

    theorems_after : TheoremsHold V after d q.function ms both
    theorems_after =
        theorems_hold V after d q.function ms both
        (any_fits d.body (fits_later W sound d found q.function unknown ms mapped d.body (old_fits W sound d found)))
        (any_fits (called_body d q.function ms) (called_fits W sound d found q.function unknown ms mapped))
        (each_to (λ c. IsProvable W (stays_old d ms c)) (IsMet V after d q.function ms both) (met_later after) (recursive_calls d.name [] d.body) (calls_provable W d ms provable))

  -- ---- the theorems are well formed
  implication_fits : (c a b : Tm) → Fits F c → Fits F a → Fits F b → FitsSequent F (alone (implication c (equation a b)))
  implication_fits c a b fit_c fit_a fit_b = record {
    universals = tt;
    hyps = tt;
    goal = (
      arity_later W.functions (carried_over d q.function ms) unknown (codes "IMPLIES") 2 (arity_defined W.functions sound.formed (codes "IMPLIES") implies_def (has_basics W sound).has_implies),
      (fit_c, ((takes_equal F, (fit_a, (fit_b, tt))), tt)),
    );
  }

  new_fits_there : Fits F (at_variables q.function d.formals)
  new_fits_there =
      any_fits (at_variables q.function d.formals)
      (own_arity W.functions (carried_over d q.function ms) unknown ∙ ap Some (sym (count_names Var d.formals)), over_names (IsIn d.formals) (λ h k. arity F h ≡ Some k) Var d.formals (λ x i. i))

  old_fits_back : Fits F (old_at_back d ms)
  old_fits_back =
      any_fits (old_at_back d ms) (
        arity_later W.functions (carried_over d q.function ms) unknown d.name (length d.formals) (takes W sound d found) ∙ ap Some (sym (count_names (with_back ms) d.formals)),
        over_names (IsIn d.formals) (λ h k. arity F h ≡ Some k) (with_back ms) d.formals
            (λ x i. fits_later W sound d found q.function unknown ms mapped (with_back ms x) (back_fits W sound d found q.function unknown ms mapped x i)),
      )

  first_fits : FitsSequent F (alone (new_to_old d q.function ms))
  first_fits =
      implication_fits (conjunction (all_in_new ms)) (at_variables q.function d.formals) (old_at_back d ms)
      (any_fits (conjunction (all_in_new ms)) (fits_later W sound d found q.function unknown ms mapped (conjunction (all_in_new ms)) (condition_fits W sound d found q.function unknown ms mapped)))
      new_fits_there old_fits_back

  -- what depends on no function variable fits
  independent_fits : (t : Tm) → IndependentOver V d.formals t → Fits F t
  independent_fits t o = over_map (IsIn d.formals) Any (IsIndependent V) (λ h k. arity F h ≡ Some k) (λ x i. tt) (λ h k a. a.0) t o

  second_fits : variables_of W d.name ≡ [] → FitsSequent F (alone (old_to_new d q.function ms))
  second_fits old =
      implication_fits (conjunction (all_in_old ms Var)) (at_variables d.name d.formals) (new_at_forth d q.function ms)
      (independent_fits (conjunction (all_in_old ms Var)) (condition_side W sound d found old q.function unknown ms mapped))
      (independent_fits (at_variables d.name d.formals) (old_side W sound d found old q.function unknown ms mapped))
      (independent_fits (new_at_forth d q.function ms) (new_side W sound d found old q.function unknown ms mapped))

  -- their names are free, each where it comes
  first_free : is_free V q.new_to_old ≡ true
  first_free = ap (λ b. not (is_in reserved q.new_to_old) && not (b || is_in (names W) q.new_to_old)) new.first_apart ∙ new.new_to_old

  second_free : is_free (add_theorem q.new_to_old (alone (new_to_old d q.function ms)) (add_definition (carried_over d q.function ms) W)) q.old_to_new ≡ true
  second_free =
      let ds : List Name = map (λ e. e.name) W.functions.defs in
      let vs : List Name = map (λ v. v.0) W.functions.vars in
      let rest : List Name = map (λ t. t.0) W.theorems ++ (map (λ z. z.name) W.specifications ++ map (λ i. i.name) W.isos) in
      ap (λ b. not (is_in reserved q.old_to_new) && not (b || is_in (ds ++ (vs ++ (q.new_to_old ∷ rest))) q.old_to_new)) new.second_apart
      ∙ ap (λ b. not (is_in reserved q.old_to_new) && not b) (not_between ds vs rest q.new_to_old q.old_to_new new.theorems_apart)
      ∙ new.old_to_new

  -- ---- the conditions are well formed
  condition_formed : (c : RecursiveCall) → IsCall W d c → FitsSequent W.functions (stays_old d ms c)
  condition_formed c is =
      let takes_if = arity_primitive W.functions (codes "IF") _ is_if in
      let oldps = take_oldp W sound d.formals ms mapped in
      let formals = are_formals W sound d.formals ms mapped in
      let tests : Each (Fits W.functions) c.tests = each_to (Fit W) (Fits W.functions) (λ t. (fits_decides W.functions t).0) c.tests is.tests in
      let args : OverAll Any (λ h k. arity W.functions h ≡ Some k) c.args = fit_all_true W.functions c.args is.args in
      let here : Each (Fits W.functions) (all_in_old ms Var) = over_in_old Any (λ h k. arity W.functions h ≡ Some k) Var ms oldps (each_to (λ e. IsIn d.formals e.formal) (λ e. Any e.formal) (λ e i. tt) ms formals) in
      record {
        universals = tt;
        hyps = join_to (Fits W.functions) [] (all_in_old ms Var ++ c.tests) tt (each_join (Fits W.functions) (all_in_old ms Var) c.tests here tests);
        goal = over_conjunction Any (λ h k. arity W.functions h ≡ Some k) takes_if (all_in_old ms (by_args d.formals c.args))
            (over_in_old Any (λ h k. arity W.functions h ≡ Some k) (by_args d.formals c.args) ms oldps
            (each_to (λ e. IsIn d.formals e.formal) (λ e. Fits W.functions (by_args d.formals c.args e.formal)) (λ e i. over_by_args Any (λ h k. arity W.functions h ≡ Some k) d.formals c.args e.formal is.number args i) ms formals));
      }

  conditions_fit : Each (λ c. FitsSequent W.functions c.sequent) (conditions_of d ms)
  conditions_fit =
      let calls : List RecursiveCall = recursive_calls d.name [] d.body in
      to_numbered (FitsSequent W.functions) (codes ":OLDP-OF-CALL-") 1 (map (stays_old d ms) calls)
      (each_mapped (FitsSequent W.functions) (stays_old d ms) calls
      (by_places (λ c. FitsSequent W.functions (stays_old d ms c)) calls (λ k c e. condition_formed c (is_call W sound d found k c e))))

pub transfers_are_lawful : TransfersAreLawful
transfers_are_lawful W sound q new p e =
    let is = planned_is W sound q p e in
    let d : Definition = is.definition in
    let ms : List Mapped = is.maps in
    let unknown : arity W.functions q.function ≡ None = (free W q.function new.function).no_function in
    subst (IsTransfer W) is.plan
    (record {
      lawful = record {
        before = λ provable. owes W sound q new d is.found ms is.mapped provable;
        after = λ provable.
            let there = theorems_after W sound q new d is.found ms is.mapped provable in
            (there.first, (there.second, tt));
        takes = λ conditions held after. (
          record {
            free = new.function;
            well_formed = new_formed W sound d is.found q.function unknown ms is.mapped;
            owed = held;
          },
          (
            (
              first_free W sound q new d is.found ms is.mapped,
              record {
                no_hyps = refl;
                fits = first_fits W sound q new d is.found ms is.mapped;
                holds = after.0;
              },
            ),
            (
              (
                second_free W sound q new d is.found ms is.mapped,
                record {
                  no_hyps = refl;
                  fits = second_fits W sound q new d is.found ms is.mapped is.first_order;
                  holds = after.1.0;
                },
              ),
              (linked W sound d is.found is.first_order q.function unknown ms is.mapped q.new_to_old q.old_to_new, tt),
            ),
          ),
        );
      };
      fits = conditions_fit W sound q new d is.found ms is.mapped;
    })
