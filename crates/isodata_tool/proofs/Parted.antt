-- The parts of a plan are those of which it was made.
use Rattle.std.proofs.Common.{◌≡◌, List, [], Some, Ok, Err, refl, sym, ap, ◌∙◌, subst}
use Rattle.terms.specs.Definitions.{find}
use Rattle.terms.specs.Sound.{Sound}
use Rattle.terms.specs.Worlds.{World}
use Rattle.terms.specs.declared.definition.Definition.{Definition}
use Rattle.term_forms.specs.Translation.{Outcome, and_then, map_outcome}
use Rattle.soft_vars.specs.Dependents.{variables_of}
use Rattle.plans.specs.declared.plan.Plan.{Plan}
use Rattle.plan_checks.specs.Checks.{defined, no_variables}
use Rattle.isodata_tool.specs.Carried.{Mapped}
use Rattle.isodata_tool.specs.Isomorphic.{Request, mapped_formals, planned, plan_of}
use Rattle.isodata_tool.specs.Parts.{AreParts}
use Rattle.isodata_tool.proofs.Planned.{own_name, all_mapped, distinct_keys}

ok_same : {A : Type 0} (x y : A) → ◌≡◌ {A = Outcome A} (Ok x) (Ok y) → x ≡ y
ok_same x y e = cc

-- what comes after a check that gives what it got
checked_then : {A B C : Type 0} (x : A) (o : Outcome B) (k : A → Outcome C) (z : C) → and_then (map_outcome (λ _. x) o) k ≡ Ok z → k x ≡ Ok z
checked_then x (Ok u) k z e = e
checked_then x (Err r) k z e = absurd (cc)

mapped_ok : {A B : Type 0} (f : A → B) (o : Outcome A) (y : B) → map_outcome f o ≡ Ok y → (x : A) × (o ≡ Ok x) × (f x ≡ y)
mapped_ok f (Ok x) y e = (x, refl, ok_same (f x) y e)
mapped_ok f (Err r) y e = absurd (cc)

module _ (W : World) (sound : Sound W) (q : Request) (p : Plan) (made : plan_of W q ≡ Ok p) (d : Definition) (found : find W.functions.defs q.old ≡ Some d) where
  -- the old function is known, and depends on no function variable
  from_old : map_outcome (planned q d) (mapped_formals W d.formals [] q.maps) ≡ Ok p
  from_old =
      let k : Definition → Outcome Plan = λ e. map_outcome (planned q e) (mapped_formals W e.formals [] q.maps) in
      checked_then d (no_variables (variables_of W q.old)) k p
      (subst (λ o. and_then (and_then (defined W q.old o) (λ e. map_outcome (λ _. e) (no_variables (variables_of W q.old)))) k ≡ Ok p) found made)

  -- the mapped formals are read without a refusal, and the plan is made of them
  pub has_maps : (ms : List Mapped) × (mapped_formals W d.formals [] q.maps ≡ Ok ms) × (planned q d ms ≡ p)
  has_maps = mapped_ok (planned q d) (mapped_formals W d.formals [] q.maps) p from_old

  pub are_parts : (ms : List Mapped) → mapped_formals W d.formals [] q.maps ≡ Ok ms → AreParts W q d ms p
  are_parts ms read =
      let same : has_maps.0 ≡ ms = ok_same has_maps.0 ms (sym has_maps.1 ∙ read) in
      record {
        found = own_name W sound q.old d found;
        mapped = all_mapped W d.formals q.maps ms read;
        keys = distinct_keys W d.formals q.maps ms read;
        plan = sym has_maps.2 ∙ ap (planned q d) same;
      }
