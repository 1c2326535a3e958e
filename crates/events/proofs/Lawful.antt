-- Each event is lawful.
use Rattle.std.proofs.Common.{◌≡◌, ℕ, ◌+◌, true, List, [], ◌∷◌, None, Ok, refl, sym, subst}
use Rattle.lisp_data.specs.Values.{Name}
use Rattle.terms.specs.Worlds.{World, Each, FitsSequent, Holds, arity}
use Rattle.terms.specs.Sound.{Sound}
use Rattle.terms.specs.Measures.{obligations}
use Rattle.terms.specs.Formed.{IsWellFormed}
use Rattle.term_forms.specs.Translation.{map_outcome, translate}
use Rattle.term_forms.specs.TranslationLaws.{TranslatedTermsFit}
use Rattle.terms.specs.declared.definition.Definition.{Definition}
use Rattle.terms.specs.declared.sequent.Sequent.{Sequent}
use Rattle.worlds.specs.Names.{is_free}
use Rattle.proof_texts.specs.Parts.{any}
use Rattle.plans.specs.declared.plan.Plan.{Plan}
use Rattle.plans.specs.Entries.{AdmitsAll}
use Rattle.plans.specs.Plans.{no_plan, ConditionsHold, HoldBefore, HoldAfter}
use Rattle.event_forms.specs.SecondOrder.{VariableParts, SpecificationParts}
use Rattle.event_forms.specs.Shapes.{FunctionParts, TheoremParts}
use Rattle.terms.proofs.Growth.{obligations_fit}
use Rattle.terms.proofs.Later.{has_basics}
use Rattle.worlds.proofs.Free.{free}
use Rattle.events.specs.declared.orders.Order.{Order}
use Rattle.events.specs.Definitions.{new_name, definition_of}
use Rattle.events.specs.Frames.{Frame}
use Rattle.events.specs.Defun.{defun, decreases, measure_conditions, function_plan}
use Rattle.events.specs.Defthm.{defthm, claim, theorem_plan, universals_of, plan_of}
use Rattle.events.specs.DefunSk2.{defun_sk2, specification_of, specification_plan}
use Rattle.events.specs.Defunvar.{defunvar, variable_plan}
use Rattle.events.specs.Verdicts.{name_after, new_names}
use Rattle.events.specs.Laws.{ConditionsFit, IsSuited, IsLawful}
use Rattle.events.proofs.Inversions.{then_ok, map_ok, coded_ok}
use Rattle.events.proofs.WellFormed.{CanOwe, can_owe, takeable, specified, formula_fits, name_is_free}
use Rattle.events.proofs.Assumptions.{universals_fit}

-- the one new name of an event is free
pub one_name : (W : World) (n : Name) → new_names W [] (n ∷ []) ≡ Ok (tt {0}) → is_free W n ≡ true
unfolding name_after
one_name W n e = name_is_free W n (then_ok (new_name W n) (λ _. Ok (tt {0})) tt e).1

each_decrease : (P : Sequent → Type 0) (k : ℕ) (ss : List Sequent) → Each (λ c. P c.sequent) (decreases k ss) → Each P ss
each_decrease P k [] h = tt
each_decrease P k (s ∷ ss) h = (h.0, each_decrease P (k + 1) ss h.1)

named_decreases : (P : Sequent → Type 0) (k : ℕ) (ss : List Sequent) → Each P ss → Each (λ c. P c.sequent) (decreases k ss)
named_decreases P k [] h = tt
named_decreases P k (s ∷ ss) h = (h.0, named_decreases P (k + 1) ss h.1)

named_owed : (P : Sequent → Type 0) (ss : List Sequent) → Each P ss → Each (λ c. P c.sequent) (measure_conditions ss)
named_owed P [] h = tt
named_owed P (s ∷ ss) h = (h.0, named_decreases P 1 ss h.1)

-- what a well-formed definition owes is well formed
owed_fit : (W : World) → Sound W → (d : Definition) → is_free W d.name ≡ true → IsWellFormed W.functions d → Each (FitsSequent W.functions) (obligations d)
owed_fit W sound d new ok =
    obligations_fit W.functions sound.formed (has_basics W sound) d
    (record { fresh = (free W d.name new).no_function; formals = ok.formals; body = ok.body; measure = ok.measure; measured = ok.measured; flat = ok.flat })

each_owed : (P : Sequent → Type 0) (ss : List Sequent) → Each (λ c. P c.sequent) (measure_conditions ss) → Each P ss
each_owed P [] h = tt
each_owed P (s ∷ ss) h = (h.0, each_decrease P 1 ss h.1)

-- a plan without claims is lawful where the world can take its entries once its conditions hold
pub direct : (W : World) (p : Plan) → HoldBefore W p → HoldAfter W p → ConditionsFit W p.conditions → (ConditionsHold W p → AdmitsAll W p.entries) → IsSuited W p
direct W p b a fits f = record { lawful = record { before = λ _. b; after = λ _. a; takes = λ h _ _. f h }; fits = fits }

-- an event that makes nothing
pub lawful_nothing : (e : Frame) → ((W : World) → e.plan W ≡ Ok no_plan) → IsLawful e
lawful_nothing e nothing W sound names p is =
    let same : no_plan ≡ p = cc (nothing W) in
    subst (IsSuited W) same (direct W no_plan tt tt tt (λ _. tt))

pub lawful_defunvar : (v : VariableParts) → IsLawful (defunvar v)
lawful_defunvar v W sound names p e =
    let same : variable_plan v.name v.arity ≡ p = cc in
    subst (IsSuited W) same (direct W (variable_plan v.name v.arity) tt tt tt (λ _. (one_name W v.name names, tt)))

-- a definition that is well formed, also where it is recursive
lawful_definition : (W : World) (d : Definition) → is_free W d.name ≡ true → IsWellFormed W.functions d → Each (FitsSequent W.functions) (obligations d) → IsSuited W (function_plan d)
lawful_definition W d free ok fits =
    direct W (function_plan d) tt tt (named_owed (FitsSequent W.functions) (obligations d) fits) (λ hold. (record { free = free; well_formed = ok; owed = each_owed (Holds W.functions) (obligations d) hold }, tt))

module _ (fit : TranslatedTermsFit) where
  pub lawful_defun : (order : Order) (f : FunctionParts) → IsLawful (defun order f)
  lawful_defun order f W sound names p e =
      let free = one_name W f.name names in
      let m = map_ok (definition_of W order f) function_plan p (coded_ok (map_outcome function_plan (definition_of W order f)) p e) in
      let t = takeable fit W sound order f free m.0 m.1 in
      let new = subst (λ n. is_free W n ≡ true) (sym t.named) free in
      subst (IsSuited W) m.2 (lawful_definition W m.0 new t.well_formed (owed_fit W sound m.0 new t.well_formed))

  pub lawful_defun_sk2 : (s : SpecificationParts) → IsLawful (defun_sk2 s)
  lawful_defun_sk2 s W sound names p e =
      let free = one_name W s.name names in
      let m = map_ok (specification_of W s) specification_plan p (coded_ok (map_outcome specification_plan (specification_of W s)) p e) in
      let t = specified fit W sound s m.0 m.1 in
      subst (IsSuited W) m.2 (direct W (specification_plan m.0) tt tt tt (λ _. ((subst (λ n. is_free W n ≡ true) (sym t.named) free, t.fits), tt)))

  -- the obligations of a function with a new name can be told
  pub owes : (W : World) → Sound W → (order : Order) (f : FunctionParts) → new_names W [] (f.name ∷ []) ≡ Ok (tt {0}) → (d : Definition) → definition_of W order f ≡ Ok d → CanOwe d
  owes W sound order f names d e =
      let is = one_name W f.name names in
      let t = takeable fit W sound order f is d e in
      can_owe W.functions d (subst (λ n. arity W.functions n ≡ None) (sym t.named) (free W f.name is).no_function) t.well_formed

  pub lawful_defthm : (t : TheoremParts) → IsLawful (defthm t)
  lawful_defthm t W sound names p e =
      let o = translate (arity W.functions) any t.formula in
      let u = then_ok (universals_of W t.assumed) (λ us. map_outcome (theorem_plan t.name us) o) p (coded_ok (plan_of W t) p e) in
      let m = map_ok o (theorem_plan t.name u.0) p u.2 in
      let fits : FitsSequent W.functions (claim u.0 m.0) =
      record { universals = universals_fit W sound t.assumed u.0 u.1; hyps = tt; goal = formula_fits fit W sound t.formula m.0 m.1 } in
      subst (IsSuited W) m.2 (direct W (theorem_plan t.name u.0 m.0) tt tt (fits, tt) (λ hold. (
        (one_name W t.name names, record { no_hyps = refl; fits = fits; holds = hold.0 }),
        tt,
      )))
