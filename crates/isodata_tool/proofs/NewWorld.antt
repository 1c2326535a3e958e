-- The world with the new function of a plan, and what is proved for it.
use Rattle.std.proofs.Common.{◌≡◌, ℕ, List, [], ◌∷◌, cond, map, slice_get, codes, Some, None, sym, ap, ◌∙◌, subst}
use Rattle.lisp_data.specs.Values.{Name}
use Rattle.terms.specs.Definitions.{find}
use Rattle.terms.specs.Later.{IsLater}
use Rattle.terms.specs.Links.{alone}
use Rattle.terms.specs.Measures.{recursive_calls, obligations}
use Rattle.terms.specs.Sound.{Sound, add_definition}
use Rattle.terms.specs.Worlds.{World, Each, Holds, arity}
use Rattle.terms.specs.declared.definition.Definition.{Definition}
use Rattle.terms.specs.declared.sequent.Sequent.{Sequent}
use Rattle.terms.proofs.LaterSteps.{later_self, later_definition}
use Rattle.terms.proofs.Names.{name_self}
use Rattle.worlds.proofs.Free.{free}
use Rattle.kernel.specs.Conclusion.{Conclusion}
use Rattle.plans.specs.declared.plan.Entry.{Entry}
use Rattle.plans.specs.declared.plan.Plan.{Plan}
use Rattle.plans.specs.Entries.{IsNewDefinition, AdmitsFunctions, add_functions}
use Rattle.plans.specs.Proving.{ProvesAll, sequents}
use Rattle.isodata_tool.specs.Carried.{Mapped, carried_over, new_to_old, old_to_new, stays_old}
use Rattle.isodata_tool.specs.Isomorphic.{Request, AreNew}
use Rattle.isodata_tool.specs.Laws.{HasBoth, IsomorphicOwes, IsOwed}
use Rattle.isodata_tool.specs.Parts.{AreParts}
use Rattle.tool_parts.specs.Counted.{IsCounted}
use Rattle.isodata_tool.proofs.Formed.{old_counted, apart, new_formed}
use Rattle.tool_parts.proofs.Proving.{sequents-numbered}

module _ (W : World) (sound : Sound W) (q : Request) (new : AreNew W q) (d : Definition) (ms : List Mapped) (p : Plan) (are : AreParts W q d ms p) where
  fresh : arity W.functions q.function ≡ None
  fresh = (free W q.function new.function).no_function

  pub counted : IsCounted d
  counted = old_counted W sound d are.found

  -- what the new function owes is proved by what the old one does and by the conditions
  pub owed_before : IsomorphicOwes → (ss : List Sequent) → ss ≡ p.before → (k : ℕ) (s : Sequent) → slice_get ss k ≡ Some s → IsOwed W d ms k s
  owed_before law ss is k s e =
      law W sound d are.found q.function fresh ms are.mapped k s (ap (λ ts. slice_get ts k) (ap (λ (x : Plan). x.before) (sym are.plan) ∙ sym is) ∙ e)

  new_definition : Each (Holds W.functions) (obligations (carried_over d q.function ms)) → IsNewDefinition W (carried_over d q.function ms)
  new_definition hold = record {
    free = new.function;
    well_formed = new_formed W sound d are.found q.function fresh ms are.mapped;
    owed = hold;
  }

  -- the world can take the new function, where what it owes holds
  pub admits : (ss : List Sequent) → ss ≡ p.before → Each (Holds W.functions) ss → (es : List Entry) → es ≡ p.entries → AdmitsFunctions W es
  admits ss before hold es is =
      let owed : Each (Holds W.functions) (obligations (carried_over d q.function ms)) = subst (Each (Holds W.functions)) (before ∙ ap (λ (x : Plan). x.before) are.plan) hold in
      subst (AdmitsFunctions W) (sym (is ∙ ap (λ (x : Plan). x.entries) are.plan)) (new_definition owed, (tt, (tt, (tt, tt))))

  abbrev V : World
  V = add_definition (carried_over d q.function ms) W

  next_is : (next : World) (es : List Entry) → es ≡ p.entries → next ≡ add_functions es W → next ≡ V
  next_is next es es_is is = is ∙ ap (λ xs. add_functions xs W) (es_is ∙ ap (λ (x : Plan). x.entries) are.plan)

  both_there : HasBoth V d q.function ms
  both_there = record {
    old = ap (λ b. cond b (Some (carried_over d q.function ms)) (find W.functions.defs d.name)) (apart W sound d are.found q.function fresh) ∙ are.found;
    new = ap (λ b. cond b (Some (carried_over d q.function ms)) (find W.functions.defs q.function)) (name_self q.function);
    mapped = record { placed = are.mapped.placed; own = are.mapped.own; known = are.mapped.known };
  }

  -- both functions are in the world with it
  pub both : (next : World) (es : List Entry) → es ≡ p.entries → next ≡ add_functions es W → (g : Name) → g ≡ q.function → HasBoth next d g ms
  both next es es_is is g g_is =
      subst (λ X. HasBoth X d g ms) (sym (next_is next es es_is is)) (subst (λ h. HasBoth V d h ms) (sym g_is) both_there)

  pub later : (next : World) (es : List Entry) → es ≡ p.entries → next ≡ add_functions es W → (here : World) → here ≡ W → IsLater here next
  later next es es_is is here here_is =
      subst (λ X. IsLater X next) (sym here_is) (subst (IsLater W) (sym (next_is next es es_is is)) (later_definition W W (later_self W) (carried_over d q.function ms)))

  -- the proofs of the conditions, in the order of the recursive calls
  pub conditions_met : (ps : List Conclusion) → ProvesAll W (sequents p.conditions) ps → (here : World) → here ≡ W → ProvesAll here (map (stays_old d ms) (recursive_calls d.name [] d.body)) ps
  conditions_met ps h here here_is =
      subst (λ X. ProvesAll X (map (stays_old d ms) (recursive_calls d.name [] d.body)) ps) (sym here_is)
      (subst (λ ss. ProvesAll W ss ps)
      (ap (λ (x : Plan). sequents x.conditions) are.plan ∙ sequents-numbered (codes ":OLDP-OF-CALL-") 1 (map (stays_old d ms) (recursive_calls d.name [] d.body))) h)

  -- the proofs of the two theorems are what the plan claims with the new function
  pub claimed_after : (next : World) (es : List Entry) → es ≡ p.entries → next ≡ add_functions es W → (ps : List Conclusion) →
      ProvesAll next (alone (new_to_old d q.function ms) ∷ alone (old_to_new d q.function ms) ∷ []) ps → ProvesAll (add_functions p.entries W) p.after ps
  claimed_after next es es_is is ps h =
      subst (λ X. ProvesAll X p.after ps) (is ∙ ap (λ xs. add_functions xs W) es_is)
      (subst (λ ss. ProvesAll next ss ps) (sym (ap (λ (x : Plan). x.after) are.plan)) h)
