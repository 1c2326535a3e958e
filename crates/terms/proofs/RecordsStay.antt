-- A recorded instance stays one as a world grows.
use Rattle.std.proofs.Common.{◌≡◌, ℕ, Bool, true, false, cond, not, ◌||◌, List, [], ◌∷◌, ◌++◌, map, is_some, nat_eq, bytes_eq, Option, Some, None, IfSome, Ok, if◌then◌else◌, refl, sym, ap, ◌∙◌, subst, arith}
use Rattle.std.proofs.lemmas.Bool.Decides.{nat_tests}
use Rattle.std.specs.List.{list_any}
use Rattle.lisp_data.specs.Values.{Name}
use Rattle.terms.specs.Primitives.{Operation, primitive, lookup}
use Rattle.terms.specs.Terms.{Tm, Var, Quote, Call, Tms, Done, More, tms, Over, OverAll}
use Rattle.terms.specs.Variables.{with_name}
use Rattle.terms.specs.Definitions.{find}
use Rattle.terms.specs.Worlds.{Functions, World, Instance, Each, names, arity, arity_by, is_in, IsIn}
use Rattle.terms.specs.Formed.{AllFormed, VarsApart}
use Rattle.terms.specs.Later.{IsContinued, IsLater, Stays}
use Rattle.terms.specs.declared.definition.Definition.{Definition}
use Rattle.terms.specs.declared.entries.FunPair.{FunPair}
use Rattle.terms.specs.Records.{is_instance, find_instance}
use Rattle.terms.specs.Maps.{NamePairs, renamed}
use Rattle.terms.specs.Refusals.{Outcome, and_then, map_outcome, unknown_name, wrong_kind, wrong_arity, repeated}
use Rattle.terms.specs.Pairs.{is_known, same_arity, fitting_pair, with_pair, with_pairs, IsFitting}
use Rattle.terms.specs.Instances.{with_calls, with_calls_in, called, listed, parts, restricted, own_pairs, with_recorded, by_own_pairs, with_instance, with_instances, map_from, function_instance, IsRecorded}
use Rattle.terms.proofs.Below.{Any}
use Rattle.terms.proofs.Extend.{over_map, body_fits}
use Rattle.terms.proofs.Meaning.{arity_defined}
use Rattle.terms.proofs.Lists.{each_join, each_to}
use Rattle.terms.proofs.Members.{is_in-keys, in_first, in_second}
use Rattle.terms.proofs.Fitting.{then_ok, map_ok, pairs_fit}
use Rattle.terms.proofs.Found.{if_some_map, found_formed, found_name}
use Rattle.terms.proofs.NamesStay.{NamesApart, vars_apart, names_stay}

nat_self : (k : ℕ) → nat_eq k k ≡ true
nat_self k = grind (arith, nat_tests)

-- what has an arity is known
found_in : (ds : List Definition) (f : Name) (d : Definition) → find ds f ≡ Some d → is_in (map (λ d. d.name) ds) f ≡ true
found_in [] f d e = absurd (cc)
found_in (c ∷ ds) f d e = by_test (bytes_eq c.name f) e (found_in ds f d)
  where
    by_test : (b : Bool) → cond b (Some c) (find ds f) ≡ Some d → (find ds f ≡ Some d → is_in (map (λ d. d.name) ds) f ≡ true) → (b || is_in (map (λ d. d.name) ds) f) ≡ true
    by_test true e' ih = refl
    by_test false e' ih = ih e'

known_by : (W : World) (f : Name) (k : ℕ) → arity W.functions f ≡ Some k → is_known W f ≡ true
known_by W f k a = by_cases (primitive f) (find F.defs f) (lookup F.vars f) refl refl refl a
  where
    F : Functions
    F = W.functions

    rest : List Name
    rest = map (λ t. t.0) W.theorems ++ (map (λ s. s.name) W.specifications ++ map (λ i. i.name) W.isos)

    by_cases : (p : Option Operation) (q : Option Definition) (r : Option ℕ) → primitive f ≡ p → find W.functions.defs f ≡ q → lookup W.functions.vars f ≡ r → arity_by p q r ≡ Some k → is_known W f ≡ true
    by_cases (Some p) q r e h v b = ap (λ o. is_some o || is_in (names W) f) e
    by_cases None (Some d) r e h v b = ap (λ o. is_some o || is_in (names W) f) e ∙ in_first (map (λ d. d.name) W.functions.defs) (map (λ v. v.0) W.functions.vars ++ rest) f (found_in W.functions.defs f d h)
    by_cases None None (Some j) e h v b =
        ap (λ o. is_some o || is_in (names W) f) e
        ∙ in_second (map (λ d. d.name) W.functions.defs) (map (λ v. v.0) W.functions.vars ++ rest) f
        (in_first (map (λ v. v.0) W.functions.vars) rest f (is_in-keys W.functions.vars f ∙ ap is_some v))
    by_cases None None None e h v b = absurd (cc)

var_arity : (F : Functions) → VarsApart F → (x : Name) (k : ℕ) → lookup F.vars x ≡ Some k → arity F x ≡ Some k
var_arity F apart x k e =
    let a = apart x k e in
    ap (λ p. arity_by p (find F.defs x) (lookup F.vars x)) a.0 ∙ ap (λ q. arity_by None q (lookup F.vars x)) a.1 ∙ e

-- a pair that fits is accepted
all_right : (v g : Name) (a b : Bool) (wanted taken : Option ℕ) (k : ℕ) → a ≡ true → b ≡ true → wanted ≡ Some k → taken ≡ Some k →
    ◌≡◌ {A = Outcome (Unit {0})} (if not a then unknown_name v else if not b then unknown_name g else if not (is_some wanted) then wrong_kind v else if not (is_some taken) then wrong_kind g else if not (same_arity wanted taken) then wrong_arity g else Ok tt) (Ok tt)
all_right v g a b wanted taken k ea eb ew et =
    ap (λ z. if not z then unknown_name v else if not b then unknown_name g else if not (is_some wanted) then wrong_kind v else if not (is_some taken) then wrong_kind g else if not (same_arity wanted taken) then wrong_arity g else Ok tt) ea
    ∙ ap (λ z. if not z then unknown_name g else if not (is_some wanted) then wrong_kind v else if not (is_some taken) then wrong_kind g else if not (same_arity wanted taken) then wrong_arity g else Ok tt) eb
    ∙ ap (λ z. if not (is_some z) then wrong_kind v else if not (is_some taken) then wrong_kind g else if not (same_arity z taken) then wrong_arity g else Ok tt) ew
    ∙ ap (λ z. if not (is_some z) then wrong_kind g else if not (same_arity (Some k) z) then wrong_arity g else Ok tt) et
    ∙ ap (λ z. if not z then wrong_arity g else Ok tt) (nat_self k)

fitting_ok : (W : World) → VarsApart W.functions → (p : FunPair) → IsFitting W.functions p → fitting_pair W p ≡ Ok tt
fitting_ok W apart p h =
    all_right p.variable p.function (is_known W p.variable) (is_known W p.function) (lookup W.functions.vars p.variable) (arity W.functions p.function) h.0
    (known_by W p.variable h.0 (var_arity W.functions apart p.variable h.0 h.1)) (known_by W p.function h.0 h.2) h.1 h.2

-- a name of the world's functions
pub record HasArity (F : Functions) (f : Name) : Type 0 where
  pub number : ℕ
  pub is : arity F f ≡ Some number

-- what holds of each call of a term holds of each name that it calls
module _ (P : Name → Type 0) where
  with_name_each : (x : Name) (found : List Name) → Each P found → P x → Each P (with_name x found)
  with_name_each x found h p = by_test (list_any (bytes_eq x) found)
    where
      by_test : (b : Bool) → Each P (if b then found else (found ++ x ∷ []))
      by_test true = h
      by_test false = each_join P found (x ∷ []) h (p, tt)

  mutual
    calls_each : (t : Tm) → Over Any (λ g k. P g) t → (found : List Name) → Each P found → Each P (with_calls t found)
    calls_each (Var x) o found h = h
    calls_each (Quote v) o found h = h
    calls_each (Call g ts) o found h = all_calls_each ts o.1 (with_name g found) (with_name_each g found h o.0)

    pub all_calls_each : (ts : Tms) → OverAll Any (λ g k. P g) ts → (found : List Name) → Each P found → Each P (with_calls_in ts found)
    all_calls_each Done o found h = h
    all_calls_each (More t ts) o found h = all_calls_each ts o.1 (with_calls t found) (calls_each t o.0 found h)

  listed_each : (o : Option Tm) → IfSome o (Over Any (λ g k. P g)) → (found : List Name) → Each P found → Each P (with_calls_in (tms (listed o)) found)
  listed_each None k found h = h
  listed_each (Some t) k found h = calls_each t k found h

-- the names that a definition of the world calls
pub parts_each : (W : World) → AllFormed W.functions.vars W.functions.defs → (d : Definition) → find W.functions.defs d.name ≡ Some d → Each (HasArity W.functions) (called (parts d))
parts_each W formed d found =
    let F = W.functions in
    let known = found_formed F.vars F.defs formed d.name d found in
    listed_each (HasArity F) d.measure
    (if_some_map (Over (IsIn d.formals) (λ g k. (arity F g ≡ Some k) × (bytes_eq d.name g ≡ false))) (Over Any (λ g k. HasArity F g)) (λ t o. over_map (IsIn d.formals) Any (λ g k. (arity F g ≡ Some k) × (bytes_eq d.name g ≡ false)) (λ g k. HasArity F g) (λ x p. tt) (λ g k a. record { number = k; is = a.0 }) t o) d.measure known.measure)
    (with_calls d.body [])
    (calls_each (HasArity F) d.body (over_map (IsIn d.formals) Any (λ g k. arity F g ≡ Some k) (λ g k. HasArity F g) (λ x p. tt) (λ g k a. record { number = k; is = a }) d.body (body_fits F formed d.name d found)) [] tt)

-- the earliest record stays the earliest
find_more : (is newer : List Instance) (f : Name) (pairs : List FunPair) (g : Name) → find_instance is f pairs ≡ Some g → find_instance (is ++ newer) f pairs ≡ Some g
find_more [] newer f pairs g e = absurd (cc)
find_more (i ∷ is) newer f pairs g e = by_test (is_instance i f pairs) e (find_more is newer f pairs g)
  where
    by_test : (b : Bool) → cond b (Some i.instance) (find_instance is f pairs) ≡ Some g → (find_instance is f pairs ≡ Some g → find_instance (is ++ newer) f pairs ≡ Some g) → cond b (Some i.instance) (find_instance (is ++ newer) f pairs) ≡ Some g
    by_test true e' ih = e'
    by_test false e' ih = ih e'

-- in a later world the same pairs give the same map
module _ (W V : World) (apart : VarsApart W.functions) (apart_later : VarsApart V.functions) (stay : Stays W V) (more : IsContinued W.instances V.instances) where
  fits_later : (p : FunPair) → IsFitting W.functions p → IsFitting V.functions p
  fits_later p h = (h.0, stay.variables_stay p.variable h.0 h.1, stay.arities p.function h.0 h.2)

  pair_later : (m : NamePairs) (p : FunPair) → IsFitting W.functions p → with_pair V m p ≡ with_pair W m p
  pair_later m p h =
      ap (λ o. and_then o (λ fits. if is_some (lookup m p.variable) then repeated p.variable else Ok (m ++ (p.variable, p.function) ∷ [])))
      (fitting_ok V apart_later p (fits_later p h) ∙ sym (fitting_ok W apart p h))

  pairs_later : (m : NamePairs) (ps : List FunPair) → Each (IsFitting W.functions) ps → with_pairs V m ps ≡ with_pairs W m ps
  pairs_later m [] h = refl
  pairs_later m (p ∷ ps) h =
      ap (λ o. and_then o (λ n. with_pairs V n ps)) (pair_later m p h.0)
      ∙ ap (λ f. and_then (with_pair W m p) f) (λ i n. pairs_later n ps h.1 i)

  module _ (pairs : List FunPair) where
    own_later : (f : Name) → HasArity W.functions f → own_pairs V pairs f ≡ own_pairs W pairs f
    own_later f h = ap (restricted pairs) (stay.dependences f h.number h.is)

    recorded_later : (m n : NamePairs) (f : Name) (own : List FunPair) → by_own_pairs W m f own ≡ Ok n → by_own_pairs V m f own ≡ Ok n
    recorded_later m n f [] e = e
    recorded_later m n f (p ∷ ps) e = by_found (find_instance W.instances f (p ∷ ps)) refl e
      where
        by_found : (o : Option Name) → find_instance W.instances f (p ∷ ps) ≡ o → with_recorded m f o ≡ Ok n → with_recorded m f (find_instance V.instances f (p ∷ ps)) ≡ Ok n
        by_found None h e' = absurd (cc)
        by_found (Some g) h e' = ap (with_recorded m f) (ap (λ is. find_instance is f (p ∷ ps)) more.1 ∙ find_more W.instances more.0 f (p ∷ ps) g h) ∙ e'

    instance_later : (m n : NamePairs) (f : Name) → HasArity W.functions f → with_instance W pairs m f ≡ Ok n → with_instance V pairs m f ≡ Ok n
    instance_later m n f h e = by_test (is_some (lookup m f)) e
      where
        by_test : (b : Bool) → (if b then Ok m else by_own_pairs W m f (own_pairs W pairs f)) ≡ Ok n → (if b then Ok m else by_own_pairs V m f (own_pairs V pairs f)) ≡ Ok n
        by_test true e' = e'
        by_test false e' = ap (by_own_pairs V m f) (own_later f h) ∙ recorded_later m n f (own_pairs W pairs f) e'

    instances_later : (m n : NamePairs) (fs : List Name) → Each (HasArity W.functions) fs → with_instances W pairs m fs ≡ Ok n → with_instances V pairs m fs ≡ Ok n
    instances_later m n [] h e = e
    instances_later m n (f ∷ fs) h e =
        let r = then_ok (with_instance W pairs m f) (λ k. with_instances W pairs k fs) n e in
        ap (λ o. and_then o (λ k. with_instances V pairs k fs)) (instance_later m r.0 f h.0 r.1) ∙ instances_later r.0 n fs h.1 r.2

    pub map_later : (begun m : NamePairs) (fs : List Name) → Each (HasArity W.functions) fs → map_from W begun pairs fs ≡ Ok m → map_from V begun pairs fs ≡ Ok m
    map_later begun m fs h e =
        let r = then_ok (with_pairs W begun pairs) (λ k. with_instances W pairs k fs) m e in
        let fit = pairs_fit W begun pairs r.0 r.1 in
        ap (λ o. and_then o (λ k. with_instances V pairs k fs)) (pairs_later begun pairs fit.fitting ∙ r.1) ∙ instances_later r.0 m fs h r.2

  module _ (formed : AllFormed W.functions.vars W.functions.defs) where
    pub function_later : (d : Definition) → find W.functions.defs d.name ≡ Some d → (pairs : List FunPair) (name : Name) (i : Definition) → function_instance W d pairs name ≡ Ok i → function_instance V d pairs name ≡ Ok i
    function_later d found pairs name i e =
        let r = map_ok (λ m. renamed m name d) (map_from W ((d.name, name) ∷ []) pairs (called (parts d))) i e in
        ap (map_outcome (λ m. renamed m name d)) (map_later pairs ((d.name, name) ∷ []) r.0 (called (parts d)) (parts_each W formed d found) r.1) ∙ ap Ok r.2

    pub definition_later : (f : Name) (d : Definition) → find W.functions.defs f ≡ Some d → find V.functions.defs f ≡ Some d
    definition_later f d e = stay.found f _ (arity_defined W.functions formed f d e) ∙ e

    record_later : (r : Instance) → IsRecorded W r → IsRecorded V r
    record_later r is =
        let there = subst (λ f. find W.functions.defs f ≡ Some is.origin) (sym (found_name W.functions.defs r.of is.origin is.found)) is.found in
        record {
          origin = is.origin;
          found = definition_later r.of is.origin is.found;
          instance = is.instance;
          made = definition_later r.instance is.instance is.made;
          gives = function_later is.origin there r.pairs r.instance is.instance is.gives;
        }

-- in a later world, where no name is given twice in either
module _ (W V : World) (before : NamesApart W) (formed : AllFormed W.functions.vars W.functions.defs) (apart : NamesApart V) (later : IsLater W V) where
  pub record_stays : (r : Instance) → IsRecorded W r → IsRecorded V r
  record_stays = record_later W V (vars_apart W before) (vars_apart V apart) (names_stay W V before apart later formed) later.instances formed

  pub records_stay : Each (IsRecorded W) W.instances → Each (IsRecorded V) W.instances
  records_stay = each_to (IsRecorded W) (IsRecorded V) record_stays W.instances
