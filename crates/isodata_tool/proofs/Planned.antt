-- What is known where there is a plan.
use Rattle.std.proofs.Common.{◌≡◌, ℕ, List, [], ◌∷◌, ◌++◌, is_some, bytes_eq, cond, Option, Some, None, Ok, Err, if◌then◌else◌, Bool, true, false, refl, sym, ap, ◌∙◌, subst}
use Rattle.std.proofs.lemmas.List.{map-append}
use Rattle.lisp_data.specs.Values.{Name}
use Rattle.lisp_data.specs.declared.code.Code.{Code}
use Rattle.lisp_data.specs.declared.detail.Detail.{Detail}
use Rattle.terms.specs.Definitions.{find}
use Rattle.terms.specs.Measures.{call1}
use Rattle.terms.specs.Pairs.{is_known}
use Rattle.terms.specs.Primitives.{lookup}
use Rattle.terms.specs.Sound.{Sound}
use Rattle.terms.specs.Substitution.{HasDistinctKeys}
use Rattle.terms.specs.Terms.{Var}
use Rattle.terms.specs.Worlds.{World}
use Rattle.terms.specs.declared.definition.Definition.{Definition}
use Rattle.terms.specs.declared.entries.Iso.{Iso}
use Rattle.terms.proofs.Found.{found_name}
use Rattle.terms.proofs.Keys.{HasDistinctKeys-push}
use Rattle.terms.proofs.Lists.{each_join, each_to}
use Rattle.terms.proofs.Names.{same_name, name_self}
use Rattle.worlds.specs.Lookups.{find_iso}
use Rattle.worlds.proofs.Free.{free}
use Rattle.term_forms.specs.Translation.{Outcome, and_then, map_outcome}
use Rattle.soft_vars.specs.Dependents.{variables_of}
use Rattle.plans.specs.declared.plan.Plan.{Plan}
use Rattle.plan_checks.specs.Checks.{defined, no_variables, first_order_definition}
use Rattle.isodata_tool.specs.Carried.{Mapped, AreMapped, position_of, find_map, carried_over}
use Rattle.isodata_tool.specs.Isomorphic.{Request, AreNew, placed, known_iso, mapped_formal, mapped_formals, planned, plan_of}
use Rattle.isodata_tool.specs.Proofs.{backs}
use Rattle.tool_parts.specs.Counted.{IsCounted}
use Rattle.isodata_tool.proofs.Formed.{old_counted, new_counted}

-- where the second of two steps succeeds, the first does
then_ok : {A B : Type 0} (o : Outcome A) (k : A → Outcome B) (y : B) → and_then o k ≡ Ok y → (x : A) × (o ≡ Ok x) × (k x ≡ Ok y)
then_ok (Ok x) k y e = (x, refl, e)
then_ok (Err r) k y e = absurd (cc)

map_ok : {A B : Type 0} (f : A → B) (o : Outcome A) (y : B) → map_outcome f o ≡ Ok y → (x : A) × (o ≡ Ok x) × (f x ≡ y)
map_ok f (Ok x) y e = (x, refl, cc)
map_ok f (Err r) y e = absurd (cc)

-- one refusal or another is no answer
refused : {A : Type 0} (b : Bool) (x y : Code × Detail) (z : A) → ◌≡◌ {A = Outcome A} (if b then Err x else Err y) (Ok z) → ⊥
refused true x y z e = cc
refused false x y z e = cc

-- ---- mapped formals
-- what was mapped first is found first
found_first : (es fs : List Mapped) (y : Name) (a : Mapped) → find_map es y ≡ Some a → find_map (es ++ fs) y ≡ Some a
found_first [] fs y a e = absurd (cc)
found_first (b ∷ es) fs y a e = by_test (bytes_eq b.formal y) e (found_first es fs y a)
  where
    by_test : (t : Bool) → cond t (Some b) (find_map es y) ≡ Some a → (find_map es y ≡ Some a → find_map (es ++ fs) y ≡ Some a) → cond t (Some b) (find_map (es ++ fs) y) ≡ Some a
    by_test true e' ih = e'
    by_test false e' ih = ih e'

found_behind : (es fs : List Mapped) (y : Name) → find_map es y ≡ None → find_map (es ++ fs) y ≡ find_map fs y
found_behind [] fs y e = refl
found_behind (b ∷ es) fs y e = by_test (bytes_eq b.formal y) e (found_behind es fs y)
  where
    by_test : (t : Bool) → cond t (Some b) (find_map es y) ≡ None → (find_map es y ≡ None → find_map (es ++ fs) y ≡ find_map fs y) → cond t (Some b) (find_map (es ++ fs) y) ≡ find_map fs y
    by_test true e' ih = absurd (cc)
    by_test false e' ih = ih e'

-- the name of an isomorphism that is found
iso_name : (is : List Iso) (n : Name) (i : Iso) → find_iso is n ≡ Some i → i.name ≡ n
iso_name [] n i e = absurd (cc)
iso_name (j ∷ is) n i e = by_test (bytes_eq j.name n) refl e (iso_name is n i)
  where
    by_test : (b : Bool) → bytes_eq j.name n ≡ b → cond b (Some j) (find_iso is n) ≡ Some i → (find_iso is n ≡ Some i → i.name ≡ n) → i.name ≡ n
    by_test true t e' ih = let same : j ≡ i = cc in ap (λ (z : Iso). z.name) (sym same) ∙ same_name j.name n t
    by_test false t e' ih = ih e'

-- one more formal beside those that are mapped
record IsNext (W : World) (xs : List Name) (es : List Mapped) (e : Mapped) : Type 0 where
  there : position_of xs e.formal ≡ Some e.position
  other : find_map es e.formal ≡ None
  of_world : find_iso W.isos e.iso.name ≡ Some e.iso

is_other : (o : Option Mapped) (c : Code × Detail) (k j : ℕ) → ◌≡◌ {A = Outcome ℕ} (if is_some o then Err c else Ok k) (Ok j) → (o ≡ None) × (k ≡ j)
is_other None c k j e = (refl, cc)
is_other (Some a) c k j e = absurd (cc)

is_placed : (es : List Mapped) (x : Name) (o : Option ℕ) (k : ℕ) → placed es x o ≡ Ok k → (o ≡ Some k) × (find_map es x ≡ None)
is_placed es x None k e = absurd (cc)
is_placed es x (Some j) k e = let p = is_other (find_map es x) _ j k e in (ap Some p.1, p.0)

is_known_iso : (n : Name) (o : Option Iso) (i : Iso) → known_iso n o ≡ Ok i → o ≡ Some i
is_known_iso n None i e = absurd (cc)
is_known_iso n (Some j) i e = let same : j ≡ i = cc in ap Some same

module _ (W : World) (xs : List Name) where
  is_next : (es : List Mapped) (p : Name × Name) (e : Mapped) → mapped_formal W xs es p ≡ Ok e → IsNext W xs es e
  is_next es p e h =
      let a = then_ok (placed es p.0 (position_of xs p.0)) (λ k. map_outcome (λ i. record { formal = p.0; position = k; iso = i }) (known_iso p.1 (find_iso W.isos p.1))) e h in
      let b = map_ok (λ i. record { formal = p.0; position = a.0; iso = i }) (known_iso p.1 (find_iso W.isos p.1)) e a.2 in
      let at = is_placed es p.0 (position_of xs p.0) a.0 a.1 in
      let known = is_known_iso p.1 (find_iso W.isos p.1) b.0 b.1 in
      subst (IsNext W xs es) b.2
      (record {
        there = at.0;
        other = at.1;
        of_world = ap (find_iso W.isos) (iso_name W.isos p.1 b.0 known) ∙ known;
      })

  one_more : (es : List Mapped) (e : Mapped) → AreMapped W xs es → IsNext W xs es e → AreMapped W xs (es ++ e ∷ [])
  one_more es e h n = record {
    placed = each_join (λ a. position_of xs a.formal ≡ Some a.position) es (e ∷ []) h.placed (n.there, tt);
    own = each_join (λ a. find_map (es ++ e ∷ []) a.formal ≡ Some a) es (e ∷ [])
        (each_to (λ a. find_map es a.formal ≡ Some a) (λ a. find_map (es ++ e ∷ []) a.formal ≡ Some a) (λ a k. found_first es (e ∷ []) a.formal a k) es h.own)
        (found_behind es (e ∷ []) e.formal n.other ∙ ap (λ b. cond b (Some e) None) (name_self e.formal), tt);
    known = each_join (λ a. find_iso W.isos a.iso.name ≡ Some a.iso) es (e ∷ []) h.known (n.of_world, tt);
  }

  are_mapped : (es : List Mapped) (ps : List (Name × Name)) (ms : List Mapped) → AreMapped W xs es → mapped_formals W xs es ps ≡ Ok ms → AreMapped W xs ms
  are_mapped es [] ms h e = let same : es ≡ ms = cc in subst (AreMapped W xs) same h
  are_mapped es (p ∷ ps) ms h e =
      let a = then_ok (mapped_formal W xs es p) (λ e. mapped_formals W xs (es ++ e ∷ []) ps) ms e in
      are_mapped (es ++ a.0 ∷ []) ps ms (one_more es a.0 h (is_next es p a.0 a.1)) a.2

  pub all_mapped : (ps : List (Name × Name)) (ms : List Mapped) → mapped_formals W xs [] ps ≡ Ok ms → AreMapped W xs ms
  all_mapped ps ms e = are_mapped [] ps ms (record { placed = tt; own = tt; known = tt }) e

  -- a formal that isn't mapped has no key
  no_key : (es : List Mapped) (x : Name) → find_map es x ≡ None → lookup (backs es) x ≡ None
  no_key [] x e = refl
  no_key (a ∷ es) x e = by_test (bytes_eq a.formal x) e (no_key es x)
    where
      by_test : (b : Bool) → cond b (Some a) (find_map es x) ≡ None → (find_map es x ≡ None → lookup (backs es) x ≡ None) → cond b (Some (call1 a.iso.back (Var a.formal))) (lookup (backs es) x) ≡ None
      by_test true e' ih = absurd (cc)
      by_test false e' ih = ih e'

  one_more_key : (es : List Mapped) (e : Mapped) → HasDistinctKeys (backs es) → find_map es e.formal ≡ None → HasDistinctKeys (backs (es ++ e ∷ []))
  one_more_key es e keys other =
      subst HasDistinctKeys (sym (map-append (λ a. (a.formal, call1 a.iso.back (Var a.formal))) es (e ∷ [])))
      (HasDistinctKeys-push (backs es) e.formal (call1 e.iso.back (Var e.formal)) keys (no_key es e.formal other))

  keys_from : (es : List Mapped) (ps : List (Name × Name)) (ms : List Mapped) → HasDistinctKeys (backs es) → mapped_formals W xs es ps ≡ Ok ms → HasDistinctKeys (backs ms)
  keys_from es [] ms h e = let same : es ≡ ms = cc in subst (λ ns. HasDistinctKeys (backs ns)) same h
  keys_from es (p ∷ ps) ms h e =
      let a = then_ok (mapped_formal W xs es p) (λ e. mapped_formals W xs (es ++ e ∷ []) ps) ms e in
      keys_from (es ++ a.0 ∷ []) ps ms (one_more_key es a.0 h (is_next es p a.0 a.1).other) a.2

  -- no formal is mapped twice
  pub distinct_keys : (ps : List (Name × Name)) (ms : List Mapped) → mapped_formals W xs [] ps ≡ Ok ms → HasDistinctKeys (backs ms)
  distinct_keys ps ms e = keys_from [] ps ms tt e

-- ---- the plan
module _ (W : World) where
  none_there : (xs : List Name) (u : Unit {0}) → no_variables xs ≡ Ok u → xs ≡ []
  none_there [] u e = refl
  none_there (x ∷ xs) u e = absurd (cc)

  -- a definition is found, if at all, in the world
  is_found : (f : Name) (o : Option Definition) (d : Definition) → defined W f o ≡ Ok d → o ≡ Some d
  is_found f None d e = absurd (refused (is_known W f) _ _ d e)
  is_found f (Some c) d e = ap Some (let same : c ≡ d = cc in same)

  -- the old function
  record IsOld (f : Name) (d : Definition) : Type 0 where
    found : find W.functions.defs f ≡ Some d
    first_order : variables_of W f ≡ []

  old_is : (f : Name) (d : Definition) → first_order_definition W f ≡ Ok d → IsOld f d
  old_is f d e =
      let p = then_ok (defined W f (find W.functions.defs f)) (λ c. map_outcome (λ _. c) (no_variables (variables_of W f))) d e in
      let q = map_ok (λ _. p.0) (no_variables (variables_of W f)) d p.2 in
      record {
        found = subst (λ c. find W.functions.defs f ≡ Some c) q.2 (is_found f (find W.functions.defs f) p.0 p.1);
        first_order = none_there (variables_of W f) q.0 q.1;
      }

-- what is planned: the old function depends on no function variable, and each pair gives a mapped formal
pub record IsPlanned (W : World) (q : Request) (p : Plan) : Type 0 where
  pub definition : Definition
  pub maps : List Mapped
  pub named : find W.functions.defs q.old ≡ Some definition
  pub found : find W.functions.defs definition.name ≡ Some definition
  pub first_order : variables_of W definition.name ≡ []
  pub mapped : AreMapped W definition.formals maps
  pub plan : planned q definition maps ≡ p

module _ (W : World) (sound : Sound W) where
  -- a definition is found under its own name
  pub own_name : (f : Name) (d : Definition) → find W.functions.defs f ≡ Some d → find W.functions.defs d.name ≡ Some d
  own_name f d e = ap (find W.functions.defs) (found_name W.functions.defs f d e) ∙ e

  pub planned_is : (q : Request) (p : Plan) → plan_of W q ≡ Ok p → IsPlanned W q p
  planned_is q p e =
      let s = then_ok (first_order_definition W q.old) (λ d. map_outcome (planned q d) (mapped_formals W d.formals [] q.maps)) p e in
      let t = map_ok (planned q s.0) (mapped_formals W s.0.formals [] q.maps) p s.2 in
      let old = old_is W q.old s.0 s.1 in
      record {
        definition = s.0;
        maps = t.0;
        named = old.found;
        found = own_name q.old s.0 old.found;
        first_order = ap (variables_of W) (found_name W.functions.defs q.old s.0 old.found) ∙ old.first_order;
        mapped = all_mapped W s.0.formals q.maps t.0 t.1;
        plan = t.2;
      }

  -- what the code needs to know of the old and of the new function
  pub counted_old : (f : Name) (d : Definition) → find W.functions.defs f ≡ Some d → IsCounted d
  counted_old f d e = old_counted W sound d (own_name f d e)

  pub counted_new : (q : Request) → AreNew W q → (d : Definition) → find W.functions.defs q.old ≡ Some d → (ms : List Mapped) → mapped_formals W d.formals [] q.maps ≡ Ok ms → IsCounted (carried_over d q.function ms)
  counted_new q new d e ms read =
      new_counted W sound d (own_name q.old d e) q.function (free W q.function new.function).no_function ms
      (all_mapped W d.formals q.maps ms read)
