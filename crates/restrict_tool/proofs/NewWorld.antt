-- The world with the new function of a plan, and what is proved for it.
use Rattle.std.proofs.Common.{◌≡◌, ℕ, zero, suc, List, [], ◌∷◌, cond, map, slice_get, codes, bytes_eq, Some, None, refl, sym, ap, ◌∙◌, subst}
use Rattle.lisp_data.specs.Values.{Name, Val}
use Rattle.terms.specs.Definitions.{find}
use Rattle.terms.specs.Formed.{with_def, FitsOver}
use Rattle.terms.specs.Later.{IsLater}
use Rattle.terms.specs.Links.{alone}
use Rattle.terms.specs.Measures.{recursive_calls, obligations}
use Rattle.terms.specs.Sound.{Sound, add_definition}
use Rattle.terms.specs.Terms.{Tm}
use Rattle.terms.specs.Worlds.{World, Each, Holds, arity}
use Rattle.terms.specs.declared.definition.Definition.{Definition}
use Rattle.terms.specs.declared.sequent.Sequent.{Sequent}
use Rattle.terms.proofs.LaterSteps.{later_self, later_definition}
use Rattle.terms.proofs.Names.{name_self}
use Rattle.worlds.proofs.Free.{free}
use Rattle.kernel.specs.Conclusion.{Conclusion}
use Rattle.plans.specs.declared.plan.Entry.{Entry}
use Rattle.plans.specs.declared.plan.Plan.{Plan}
use Rattle.plans.specs.Entries.{IsNewDefinition, AdmitsFunctions, add_functions}
use Rattle.plans.specs.Laws.{ProvedConditionsHold}
use Rattle.plans.specs.Proving.{ProvesAll, sequents}
use Rattle.reduction_proofs.specs.Proving.{ProvesCondition}
use Rattle.reduction_proofs.specs.Trees.{Owed}
use Rattle.restrict_tool.specs.Laws.{HasBoth, RestrictionOwes}
use Rattle.restrict_tool.specs.Parts.{AreParts}
use Rattle.restrict_tool.specs.Restrictions.{Request, AreNew, restricted, same_where, stays_restricted, planned}
use Rattle.tool_parts.specs.Counted.{IsCounted}
use Rattle.restrict_tool.proofs.Formed.{old_counted, apart, two, restriction_fits_later, new_formed}
use Rattle.tool_parts.proofs.Proving.{sequents-numbered}

-- what holds at each place holds of each item
each_at : {A : Type 0} (P : A → Type 0) (xs : List A) → ((k : ℕ) (x : A) → slice_get xs k ≡ Some x → P x) → Each P xs
each_at P [] h = tt
each_at P (x ∷ xs) h = (h 0 x refl, each_at P xs (λ k y e. h (suc k) y e))

module _ (W : World) (sound : Sound W) (q : Request) (new : AreNew W q) (d : Definition) (r : Tm) (p : Plan) (are : AreParts W q d r p) where
  fresh : arity W.functions q.function ≡ None
  fresh = (free W q.function new.function).no_function

  pub counted : IsCounted d
  counted = old_counted W sound d are.found

  -- what the new function owes is proved by what the old one does
  pub owed_before : RestrictionOwes → (ss : List Sequent) → ss ≡ p.before → (k : ℕ) (s : Sequent) → slice_get ss k ≡ Some s → ProvesCondition W s (Owed d.name k)
  owed_before law ss is k s e =
      law W sound d are.found q.function fresh r are.restriction q.undefined k s (ap (λ ts. slice_get ts k) (ap (λ (x : Plan). x.before) (sym are.plan) ∙ sym is) ∙ e)

  owed_hold : RestrictionOwes → ProvedConditionsHold → Each (Holds W.functions) (obligations (restricted d q.function r q.undefined))
  owed_hold law hold =
      each_at (Holds W.functions) (obligations (restricted d q.function r q.undefined))
      (λ k s e.
      let c : ProvesCondition W s (Owed d.name k) = law W sound d are.found q.function fresh r are.restriction q.undefined k s e in
      hold W sound s c.sequent (Owed d.name k) c.concluded c.proved)

  new_definition : RestrictionOwes → ProvedConditionsHold → IsNewDefinition W (restricted d q.function r q.undefined)
  new_definition law hold = record {
    free = new.function;
    well_formed = new_formed W sound d are.found q.function fresh r are.restriction q.undefined;
    owed = owed_hold law hold;
  }

  -- the world can take the new function
  pub admits : RestrictionOwes → ProvedConditionsHold → (es : List Entry) → es ≡ p.entries → AdmitsFunctions W es
  admits law hold es is =
      subst (AdmitsFunctions W) (sym (is ∙ ap (λ (x : Plan). x.entries) are.plan)) (new_definition law hold, (tt, (tt, tt)))

  abbrev V : World
  V = add_definition (restricted d q.function r q.undefined) W

  next_is : (next : World) (es : List Entry) → es ≡ p.entries → next ≡ add_functions es W → next ≡ V
  next_is next es es_is is = is ∙ ap (λ xs. add_functions xs W) (es_is ∙ ap (λ (x : Plan). x.entries) are.plan)

  both_there : HasBoth V d q.function r q.undefined
  both_there = record {
    old = ap (λ b. cond b (Some (restricted d q.function r q.undefined)) (find W.functions.defs d.name)) (apart W sound d are.found q.function fresh) ∙ are.found;
    new = ap (λ b. cond b (Some (restricted d q.function r q.undefined)) (find W.functions.defs q.function)) (name_self q.function);
    two = two W sound d are.found q.function fresh;
    restriction = restriction_fits_later W sound d are.found q.function fresh r are.restriction q.undefined;
  }

  -- both functions are in the world with it
  pub both : (next : World) (es : List Entry) → es ≡ p.entries → next ≡ add_functions es W → (g : Name) → g ≡ q.function → (u : Val) → u ≡ q.undefined → HasBoth next d g r u
  both next es es_is is g g_is u u_is =
      subst (λ X. HasBoth X d g r u) (sym (next_is next es es_is is))
      (subst (λ h. HasBoth V d h r u) (sym g_is) (subst (HasBoth V d q.function r) (sym u_is) both_there))

  pub later : (next : World) (es : List Entry) → es ≡ p.entries → next ≡ add_functions es W → (here : World) → here ≡ W → IsLater here next
  later next es es_is is here here_is =
      subst (λ X. IsLater X next) (sym here_is) (subst (IsLater W) (sym (next_is next es es_is is)) (later_definition W W (later_self W) (restricted d q.function r q.undefined)))

  -- the proofs of the conditions, in the order of the recursive calls
  pub conditions_met : (ps : List Conclusion) → ProvesAll W (sequents p.conditions) ps → (here : World) → here ≡ W → ProvesAll here (map (stays_restricted d r) (recursive_calls d.name [] d.body)) ps
  conditions_met ps h here here_is =
      subst (λ X. ProvesAll X (map (stays_restricted d r) (recursive_calls d.name [] d.body)) ps) (sym here_is)
      (subst (λ ss. ProvesAll W ss ps)
      (ap (λ (x : Plan). sequents x.conditions) are.plan ∙ sequents-numbered (codes ":RESTRICTION-OF-CALL-") 1 (map (stays_restricted d r) (recursive_calls d.name [] d.body))) h)

  pub claimed_after : (next : World) (es : List Entry) → es ≡ p.entries → next ≡ add_functions es W → (ps : List Conclusion) → ProvesAll next (alone (same_where d q.function r) ∷ []) ps → ProvesAll (add_functions p.entries W) p.after ps
  claimed_after next es es_is is ps h =
      subst (λ X. ProvesAll X p.after ps) (is ∙ ap (λ xs. add_functions xs W) es_is)
      (subst (λ ss. ProvesAll next ss ps) (sym (ap (λ (x : Plan). x.after) are.plan)) h)
