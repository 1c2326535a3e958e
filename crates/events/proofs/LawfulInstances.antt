-- Instances are lawful.
use Rattle.std.proofs.Common.{◌≡◌, ℕ, true, List, [], ◌∷◌, map, Option, Some, None, Ok, Err, refl, sym, ap, subst}
use Rattle.lisp_data.specs.Values.{Name}
use Rattle.lisp_data.specs.declared.code.Code.TheVariants as code
use Rattle.lisp_data.specs.declared.detail.Detail.TheVariants as detail
use Rattle.terms.specs.Definitions.{find}
use Rattle.terms.specs.Formed.{FitsOver}
use Rattle.terms.specs.Instances.{map_from, instance_map, function_instance, called, parts, sequent_terms, renamed_sequent}
use Rattle.terms.specs.Joins.{without_repeats}
use Rattle.terms.specs.Maps.{NamePairs, rename, rename_all, renamed}
use Rattle.terms.specs.Pairs.{is_known}
use Rattle.terms.specs.Primitives.{lookup}
use Rattle.terms.specs.Refusals.{map_outcome as mapped}
use Rattle.terms.specs.Sound.{Sound}
use Rattle.terms.specs.Terms.{Tm, Var, Quote, Call, Tms, Done, More, Over, OverAll}
use Rattle.terms.specs.Worlds.{World, IsIn, FitsSequent, arity}
use Rattle.terms.specs.declared.definition.Definition.{Definition}
use Rattle.terms.specs.declared.entries.FunPair.{FunPair}
use Rattle.terms.specs.declared.entries.Specification.{Specification}
use Rattle.terms.specs.declared.sequent.Sequent.{Sequent}
use Rattle.terms.proofs.Extend.{over_map}
use Rattle.term_forms.specs.Translation.{Outcome, and_then, map_outcome}
use Rattle.worlds.specs.Lookups.{find_spec}
use Rattle.worlds.specs.Names.{is_free}
use Rattle.worlds.proofs.Free.{free}
use Rattle.worlds.proofs.Growth.{found, found_spec}
use Rattle.instance_laws.specs.Laws.{InstancesHold, InstancesOwe, WorldsGrowByInstances}
use Rattle.plans.specs.declared.plan.Entry.{Entry}
use Rattle.plans.specs.Entries.{IsNewTheorem, AdmitsAll}
use Rattle.event_forms.specs.Instances.{InstanceParts, pairs_of}
use Rattle.events.specs.DefthmInst.{stated_by, stated, instance_by, theorem_instance, theorem_plan, defthm_inst}
use Rattle.events.specs.DefunInst.{Origin, OfFunction, OfSpecification, origin_by, origin, own_pairs, function_entries, specification_entries, entries_of, instance_plan, instance_of, defun_inst}
use Rattle.events.specs.Laws.{IsSuited, IsLawful}
use Rattle.events.proofs.InstanceLemmas.{found-self}
use Rattle.events.proofs.Inversions.{then_ok, map_ok, coded_ok}
use Rattle.events.proofs.Lawful.{one_name, direct}
use Rattle.events.proofs.LawfulIsomorphisms.{refused}

-- the variables of a renamed term are those of the term
module _ (P : Name → Type 0) (Q R : Name → ℕ → Type 0) (m : NamePairs) where
  mutual
    over_renamed : (t : Tm) → Over P Q t → Over (λ x. Unit {0}) R (rename m t) → Over P R (rename m t)
    over_renamed (Var x) o p = o
    over_renamed (Quote v) o p = tt
    over_renamed (Call f ts) o p = (p.0, all_over_renamed ts o.1 p.1)

    all_over_renamed : (ts : Tms) → OverAll P Q ts → OverAll (λ x. Unit {0}) R (rename_all m ts) → OverAll P R (rename_all m ts)
    all_over_renamed Done o p = tt
    all_over_renamed (More t ts) o p = (over_renamed t o.0 p.0, all_over_renamed ts o.1 p.1)

-- what is stated is found
stated_is : (t : Name) (o : Option Sequent) (s : Sequent) → stated_by t o ≡ Ok s → o ≡ Some s
stated_is t None s e = absurd (cc)
stated_is t (Some z) s e = let same : z ≡ s = cc in ap Some same

-- an instance has the new name
name_is : (d : Definition) (n : Name) (o : Outcome NamePairs) (i : Definition) → mapped (λ m. renamed m n d) o ≡ Ok i → i.name ≡ n
name_is d n (Err e) i h = absurd (cc)
name_is d n (Ok m) i h = let same : renamed m n d ≡ i = cc in sym (ap (λ (z : Definition). z.name) same)

pub lawful_defthm_inst : InstancesHold → (p : InstanceParts) → IsLawful (defthm_inst p)
lawful_defthm_inst hold p W sound names plan e =
    let m = map_ok (theorem_instance W p) (theorem_plan p.name) plan (coded_ok (map_outcome (theorem_plan p.name) (theorem_instance W p)) plan e) in
    let s = then_ok (stated W p.of) (λ s. and_then (pairs_of p.pairs) (λ pairs. instance_by W pairs s)) m.0 m.1 in
    let q = then_ok (pairs_of p.pairs) (λ pairs. instance_by W pairs s.0) m.0 s.2 in
    let r = map_ok (instance_map W (sequent_terms s.0) q.0) (λ m. renamed_sequent m s.0) m.0 q.2 in
    let t = found W sound p.of s.0 (stated_is p.of (lookup W.theorems p.of) s.0 s.1) in
    let i = hold W sound s.0 t.fits q.0 r.0 r.1 in
    let new : IsNewTheorem W (renamed_sequent r.0 s.0) =
    record { no_hyps = ap (λ hs. without_repeats (map (rename r.0) hs)) t.no_hyps; fits = i.fits; holds = i.holds t.holds } in
    subst (IsSuited W) m.2
    (direct W (theorem_plan p.name m.0) tt tt tt (λ _. ((one_name W p.name names, subst (IsNewTheorem W) r.2 new), tt)))

-- what an instance is made of is in the world
abbrev IsOrigin : World → Origin → Type 0
IsOrigin W (OfFunction d) = find W.functions.defs d.name ≡ Some d
IsOrigin W (OfSpecification s) = FitsOver W.functions s.variables s.matrix

module _ (W : World) (sound : Sound W) where
  origin_is : (g : Name) (o : Origin) → origin W g ≡ Ok o → IsOrigin W o
  origin_is g o e = by_found (find W.functions.defs g) refl (find_spec W.specifications g) refl e
    where
      by_found : (d : Option Definition) → find W.functions.defs g ≡ d → (s : Option Specification) → find_spec W.specifications g ≡ s →
          origin_by W g d s ≡ Ok o → IsOrigin W o
      by_found (Some d) is s is' e' =
          let same : OfFunction d ≡ o = cc in
          subst (IsOrigin W) same (found-self W.functions.defs g d is)
      by_found None is (Some s) is' e' = let same : OfSpecification s ≡ o = cc in subst (IsOrigin W) same (found_spec W sound g s is')
      by_found None is None is' e' = absurd (refused (is_known W g) (code.NotAFunction, detail.Name g) (code.UnknownName, detail.Name g) o e')

  module _ (n : Name) (new : is_free W n ≡ true) (own : List FunPair) where
    -- a function's instance can be added, and recorded then
    function_admitted : InstancesOwe → WorldsGrowByInstances → (d : Definition) → find W.functions.defs d.name ≡ Some d → (i : Definition) →
        function_instance W d own n ≡ Ok i → AdmitsAll W (function_entries d.name own i)
    function_admitted owe grow d is i e =
        let f = free W n new in
        let named = name_is d n (map_from W ((d.name, n) ∷ []) own (called (parts d))) i e in
        let a = owe W sound d is own n f.no_function i e in
        let b = grow W sound d is own n f.no_function f.new i e in (
          record {
            free = subst (λ x. is_free W x ≡ true) (sym named) new;
            well_formed = record { formals = a.formed.formals; body = a.formed.body; measure = a.formed.measure; measured = a.formed.measured; flat = a.formed.flat };
            owed = a.owes;
          },
          (b.recorded, tt),
        )

    -- the matrix of a specification's instance is over the same variables
    matrix_fits : InstancesHold → (s : Specification) → FitsOver W.functions s.variables s.matrix → (m : NamePairs) →
        instance_map W (s.matrix ∷ []) own ≡ Ok m → FitsOver W.functions s.variables (rename m s.matrix)
    matrix_fits hold s ok m e =
        let F = W.functions in
        let q : Sequent = record { universals = []; hyps = []; goal = s.matrix } in
        let fits : FitsSequent F q = record { universals = tt; hyps = tt; goal = over_map (IsIn s.variables) (λ x. Unit {0}) _ _ (λ x i. tt) (λ g k a. a) s.matrix ok } in
        over_renamed (IsIn s.variables) (λ f k. arity F f ≡ Some k) (λ f k. arity F f ≡ Some k) m s.matrix ok (hold W sound q fits own m e).fits.goal

    admitted : InstancesOwe → InstancesHold → WorldsGrowByInstances → (o : Origin) → IsOrigin W o → (es : List Entry) →
        entries_of W n own o ≡ Ok es → AdmitsAll W es
    admitted owe hold grow (OfFunction d) is es e =
        let r = map_ok (function_instance W d own n) (function_entries d.name own) es e in
        subst (AdmitsAll W) r.2 (function_admitted owe grow d is r.0 r.1)
    admitted owe hold grow (OfSpecification s) is es e =
        let r = map_ok (instance_map W (s.matrix ∷ []) own) (specification_entries n s) es e in
        subst (AdmitsAll W) r.2 ((new, matrix_fits hold s is r.0 r.1), tt)

pub lawful_defun_inst : InstancesOwe → InstancesHold → WorldsGrowByInstances → (p : InstanceParts) → IsLawful (defun_inst p)
lawful_defun_inst owe hold grow p W sound names plan e =
    let m = map_ok (instance_of W p) instance_plan plan (coded_ok (map_outcome instance_plan (instance_of W p)) plan e) in
    let o = then_ok (origin W p.of) (λ o. and_then (own_pairs W p) (λ own. entries_of W p.name own o)) m.0 m.1 in
    let own = then_ok (own_pairs W p) (λ own. entries_of W p.name own o.0) m.0 o.2 in
    let takes = admitted W sound p.name (one_name W p.name names) own.0 owe hold grow o.0 (origin_is W sound p.of o.0 o.1) m.0 own.2 in
    subst (IsSuited W) m.2 (direct W (instance_plan m.0) tt tt tt (λ _. takes))
