-- What is known where there is a plan.
use Rattle.std.proofs.Common.{◌≡◌, List, [], ◌∷◌, Option, Some, None, Ok, Err, if◌then◌else◌, Bool, true, false, refl, sym, ap, ◌∙◌, subst}
use Rattle.lisp_data.specs.Values.{Name}
use Rattle.lisp_data.specs.declared.code.Code.{Code}
use Rattle.lisp_data.specs.declared.detail.Detail.{Detail}
use Rattle.terms.specs.Definitions.{find}
use Rattle.terms.specs.Formed.{FitsOver}
use Rattle.terms.specs.Pairs.{is_known}
use Rattle.terms.specs.Sound.{Sound}
use Rattle.terms.specs.Terms.{Tm}
use Rattle.terms.specs.Worlds.{World, arity, is_in}
use Rattle.terms.specs.declared.definition.Definition.{Definition}
use Rattle.terms.proofs.Found.{found_name}
use Rattle.worlds.proofs.Free.{free}
use Rattle.term_forms.specs.Translation.{Outcome, and_then, map_outcome, translate}
use Rattle.soft_vars.specs.Dependents.{variables_in, variables_of}
use Rattle.plans.specs.declared.plan.Plan.{Plan}
use Rattle.plan_checks.specs.Checks.{defined, no_variables, first_order_definition, first_order_term}
use Rattle.restrict_tool.specs.Restrictions.{Request, AreNew, restricted, restriction_of, planned, plan_of}
use Rattle.tool_parts.specs.Counted.{IsCounted}
use Rattle.restrict_tool.proofs.Formed.{old_counted, new_counted, translated_fits}

-- where the second of two steps succeeds, the first does
then_ok : {A B : Type 0} (o : Outcome A) (k : A → Outcome B) (y : B) → and_then o k ≡ Ok y → (x : A) × (o ≡ Ok x) × (k x ≡ Ok y)
then_ok (Ok x) k y e = (x, refl, e)
then_ok (Err r) k y e = absurd (cc)

map_ok : {A B : Type 0} (f : A → B) (o : Outcome A) (y : B) → map_outcome f o ≡ Ok y → (x : A) × (o ≡ Ok x) × (f x ≡ y)
map_ok f (Ok x) y e = (x, refl, cc)
map_ok f (Err r) y e = absurd (cc)

-- one refusal or another is no answer
refused : {A : Type 0} (b : Bool) (x y : Code × Detail) (z : A) → ◌≡◌ {A = Outcome A} (if b then Err x else Err y) (Ok z) → ⊥
refused true x y z e = cc
refused false x y z e = cc

module _ (W : World) where
  none_there : (xs : List Name) (u : Unit {0}) → no_variables xs ≡ Ok u → xs ≡ []
  none_there [] u e = refl
  none_there (x ∷ xs) u e = absurd (cc)

  -- a definition is found, if at all, in the world
  is_found : (f : Name) (o : Option Definition) (d : Definition) → defined W f o ≡ Ok d → o ≡ Some d
  is_found f None d e = absurd (refused (is_known W f) _ _ d e)
  is_found f (Some c) d e = ap Some (let same : c ≡ d = cc in same)

  -- the old function
  record IsOld (f : Name) (d : Definition) : Type 0 where
    found : find W.functions.defs f ≡ Some d
    first_order : variables_of W f ≡ []

  old_is : (f : Name) (d : Definition) → first_order_definition W f ≡ Ok d → IsOld f d
  old_is f d e =
      let p = then_ok (defined W f (find W.functions.defs f)) (λ c. map_outcome (λ _. c) (no_variables (variables_of W f))) d e in
      let q = map_ok (λ _. p.0) (no_variables (variables_of W f)) d p.2 in
      record {
        found = subst (λ c. find W.functions.defs f ≡ Some c) q.2 (is_found f (find W.functions.defs f) p.0 p.1);
        first_order = none_there (variables_of W f) q.0 q.1;
      }

  -- the restriction
  record IsRead (q : Request) (d : Definition) (r : Tm) : Type 0 where
    translated : translate (arity W.functions) (is_in d.formals) q.restriction ≡ Ok r
    first_order : variables_in W (r ∷ []) ≡ []

  restriction_is : (q : Request) (d : Definition) (r : Tm) → restriction_of W q d ≡ Ok r → IsRead q d r
  restriction_is q d r e =
      let p = then_ok (translate (arity W.functions) (is_in d.formals) q.restriction) (first_order_term W) r e in
      let s = map_ok (λ _. p.0) (no_variables (variables_in W (p.0 ∷ []))) r p.2 in
      record {
        translated = subst (λ t. translate (arity W.functions) (is_in d.formals) q.restriction ≡ Ok t) s.2 p.1;
        first_order = subst (λ t. variables_in W (t ∷ []) ≡ []) s.2 (none_there (variables_in W (p.0 ∷ [])) s.0 s.1);
      }

-- what is planned: the old function and the restriction depend on no function variable, and the restriction is a term over the formals
pub record IsPlanned (W : World) (q : Request) (p : Plan) : Type 0 where
  pub definition : Definition
  pub restriction : Tm
  pub named : find W.functions.defs q.old ≡ Some definition
  pub found : find W.functions.defs definition.name ≡ Some definition
  pub first_order : variables_of W definition.name ≡ []
  pub fits : FitsOver W.functions definition.formals restriction
  pub independent : variables_in W (restriction ∷ []) ≡ []
  pub plan : planned q definition restriction ≡ p

module _ (W : World) (sound : Sound W) where
  -- a definition is found under its own name
  own_name : (f : Name) (d : Definition) → find W.functions.defs f ≡ Some d → find W.functions.defs d.name ≡ Some d
  own_name f d e = ap (find W.functions.defs) (found_name W.functions.defs f d e) ∙ e

  pub planned_is : (q : Request) (p : Plan) → plan_of W q ≡ Ok p → IsPlanned W q p
  planned_is q p e =
      let s = then_ok (first_order_definition W q.old) (λ d. map_outcome (planned q d) (restriction_of W q d)) p e in
      let t = map_ok (planned q s.0) (restriction_of W q s.0) p s.2 in
      let old = old_is W q.old s.0 s.1 in
      let read = restriction_is W q s.0 t.0 t.1 in
      record {
        definition = s.0;
        restriction = t.0;
        named = old.found;
        found = own_name q.old s.0 old.found;
        first_order = ap (variables_of W) (found_name W.functions.defs q.old s.0 old.found) ∙ old.first_order;
        fits = translated_fits W sound s.0.formals q.restriction t.0 read.translated;
        independent = read.first_order;
        plan = t.2;
      }

  -- what the code needs to know of the old and of the new function
  pub counted_old : (f : Name) (d : Definition) → find W.functions.defs f ≡ Some d → IsCounted d
  counted_old f d e = old_counted W sound d (own_name f d e)

  pub counted_new : (q : Request) → AreNew W q → (d : Definition) → find W.functions.defs q.old ≡ Some d → (r : Tm) → restriction_of W q d ≡ Ok r → IsCounted (restricted d q.function r q.undefined)
  counted_new q new d e r read =
      new_counted W sound d (own_name q.old d e) q.function (free W q.function new.function).no_function r
      (translated_fits W sound d.formals q.restriction r (restriction_is W q d r read).translated) q.undefined
