-- A sound world stays sound with what is neither a definition nor a theorem.
use Rattle.std.proofs.Common.{◌≡◌, ℕ, Bool, true, false, cond, List, [], ◌∷◌, ◌++◌, length, map, bytes_eq, Option, Some, None, IfSome, refl, sym, ap, ◌∙◌, subst}
use Rattle.lisp_data.specs.Values.{Name, Val}
use Rattle.lisp_data.specs.Datum.{Datum}
use Rattle.terms.specs.Primitives.{Operation, primitive, lookup}
use Rattle.terms.specs.Terms.{Tm}
use Rattle.terms.specs.declared.definition.Definition.{Definition}
use Rattle.terms.specs.declared.sequent.Sequent.{Sequent}
use Rattle.terms.specs.declared.entries.Specification.{Specification}
use Rattle.terms.specs.declared.entries.Iso.{Iso}
use Rattle.terms.specs.declared.entries.FunPair.{FunPair}
use Rattle.terms.specs.declared.entries.Link.{Link}
use Rattle.terms.specs.Definitions.{find, Interp}
use Rattle.terms.specs.Evaluation.{resolve, variable, below, apply}
use Rattle.terms.specs.Worlds.{names, Functions, World, FitsSequent, arity, arity_by, Fits, IsIn, TotalFor, Total, Holds}
use Rattle.terms.specs.Measures.{obligations}
use Rattle.terms.specs.Formed.{with_var, FitsOver, functions, AllFormed}
use Rattle.terms.specs.Later.{IsLater}
use Rattle.terms.specs.Instances.{IsRecorded}
use Rattle.terms.specs.Links.{IsFirstOrder, IsLinked}
use Rattle.terms.specs.Sound.{Sound, initial_world, AllHold, iso_conditions, add_variable, add_specification, add_iso, instance_of, add_instance, add_link, add_event}
use Rattle.terms.proofs.Names.{same_name, name_self, name_apart}
use Rattle.terms.proofs.Below.{Any}
use Rattle.terms.proofs.Extend.{over_map}
use Rattle.terms.proofs.Totality.{each_to}
use Rattle.terms.proofs.LaterSteps.{later_self, later_variable, later_specification, later_iso, later_instance, later_link, later_event}
use Rattle.terms.proofs.Lists.{each_join}
use Rattle.terms.proofs.NamesStay.{NamesApart, names_apart}
use Rattle.terms.proofs.RecordsStay.{record_stays, records_stay}
use Rattle.terms.proofs.LinksStay.{iso_stays, isos_stay, link_stays, links_stay}
use Rattle.terms.proofs.Growth.{Inserted, inserted_here, inserted_after, free_primitive, apart_with}

no_function : (p : Option Operation) (q : Option Definition) (r : Option ℕ) → arity_by p q r ≡ None → (p ≡ None) × (q ≡ None) × (r ≡ None)
no_function None None r e = (refl, refl, e)
no_function None (Some d) r e = absurd (cc)
no_function (Some p) q r e = absurd (cc)

-- arities stay as they are
module _ (vars : List (Name × ℕ)) (x : Name) (k : ℕ) (free : primitive x ≡ None) (no_var : lookup vars x ≡ None) where
  arity_with_var : (ds : List Definition) → find ds x ≡ None → (f : Name) (j : ℕ) → arity (functions vars ds) f ≡ Some j → arity (functions ((x, k) ∷ vars) ds) f ≡ Some j
  arity_with_var ds no_def f j a =
      let none : arity (functions vars ds) x ≡ None =
      ap (λ p. arity_by p (find ds x) (lookup vars x)) free ∙ ap (λ q. arity_by None q (lookup vars x)) no_def ∙ no_var in
      let apart = name_apart x f (λ same. let n = subst (λ g. arity (functions vars ds) g ≡ None) same none in cc) in
      ap (λ b. arity_by (primitive f) (find ds f) (cond b (Some k) (lookup vars f))) apart ∙ a

  find_none : (d : Definition) (ds : List Definition) → find (d ∷ ds) x ≡ None → (bytes_eq d.name x ≡ false) × (find ds x ≡ None)
  find_none d ds e = by_test (bytes_eq d.name x) e
    where
      by_test : (b : Bool) → cond b (Some d) (find ds x) ≡ None → (b ≡ false) × (find ds x ≡ None)
      by_test true e' = absurd (cc)
      by_test false e' = (refl, e')

  formed_with_var : (ds : List Definition) → find ds x ≡ None → AllFormed vars ds → AllFormed ((x, k) ∷ vars) ds
  formed_with_var [] n h = tt
  formed_with_var (d ∷ ds) n h =
      let m = find_none d ds n in
      let apart = name_apart x d.name (λ same. let t : bytes_eq d.name x ≡ true = subst (λ g. bytes_eq d.name g ≡ true) (sym same) (name_self d.name) in let f = m.0 in cc) in (
        record {
          fresh = ap (λ b. arity_by (primitive d.name) (find ds d.name) (cond b (Some k) (lookup vars d.name))) apart ∙ h.0.fresh;
          formals = h.0.formals;
          body = over_map (IsIn d.formals) (IsIn d.formals) _ _ (λ y p. p) (arity_with_var (d ∷ ds) n) d.body h.0.body;
          measure = measure_with d.measure h.0.measure (arity_with_var ds m.1);
          measured = h.0.measured;
          flat = h.0.flat;
        },
        formed_with_var ds m.1 h.1,
      )
    where
      measure_with : (o : Option Tm) → IfSome o (FitsOver (functions vars ds) d.formals) → ((f : Name) (j : ℕ) → arity (functions vars ds) f ≡ Some j → arity (functions ((x, k) ∷ vars) ds) f ≡ Some j) → IfSome o (FitsOver (functions ((x, k) ∷ vars) ds) d.formals)
      measure_with None h' more = tt
      measure_with (Some m) h' more = over_map (IsIn d.formals) (IsIn d.formals) _ _ (λ y p. p) more m h'

module _ (F : Functions) (x : Name) (k : ℕ) (fresh : arity F x ≡ None) where
  apart : (primitive x ≡ None) × (find F.defs x ≡ None) × (lookup F.vars x ≡ None)
  apart = no_function (primitive x) (find F.defs x) (lookup F.vars x) fresh

  arity_later : (f : Name) (j : ℕ) → arity F f ≡ Some j → arity (with_var F x k) f ≡ Some j
  arity_later = arity_with_var F.vars x k apart.0 apart.2 F.defs apart.1

  total_before : (I : Interp) → TotalFor (with_var F x k) I → TotalFor F I
  total_before I tot y j e = tot y j (by_test (bytes_eq x y) refl)
    where
      by_test : (b : Bool) → bytes_eq x y ≡ b → cond b (Some k) (lookup F.vars y) ≡ Some j
      by_test true t = let n = subst (λ z. lookup F.vars z ≡ None) (same_name x y t) apart.2 in absurd (cc)
      by_test false t = e

  fits_later : (t : Tm) → Fits F t → Fits (with_var F x k) t
  fits_later t o = over_map Any Any _ _ (λ y p. p) arity_later t o

  sequent_later : (s : Sequent) → FitsSequent F s → FitsSequent (with_var F x k) s
  sequent_later s f = record {
    universals = each_to (Fits F) _ fits_later s.universals f.universals;
    hyps = each_to (Fits F) _ fits_later s.hyps f.hyps;
    goal = fits_later s.goal f.goal;
  }

  holds_later : (s : Sequent) → Holds F s → Holds (with_var F x k) s
  holds_later s h I tot us env hs = h I (total_before I tot) us env hs

  all_later : (ss : List Sequent) → AllHold F ss → AllHold (with_var F x k) ss
  all_later ss h = each_to (λ s. FitsSequent F s × Holds F s) _ (λ s k. (sequent_later s k.0, holds_later s k.1)) ss h

  -- the variable has the value that the interpretation gives it
  total_later : Total F → Total (with_var F x k)
  total_later total I tot f j a vs len = by_test (bytes_eq x f) refl
    where
      by_test : (b : Bool) → bytes_eq x f ≡ b → (n : ℕ) × (v : Val) × (apply n F.defs I f vs ≡ Some v)
      by_test true t =
          let same = same_name x f t in
          let found : lookup ((x, k) ∷ F.vars) x ≡ Some k = ap (λ b. cond b (Some k) (lookup F.vars x)) (name_self x) in
          let here : arity (with_var F x k) x ≡ Some k =
          ap (λ p. arity_by p (find F.defs x) (lookup ((x, k) ∷ F.vars) x)) apart.0
          ∙ ap (λ q. arity_by None q (lookup ((x, k) ∷ F.vars) x)) apart.1
          ∙ found in
          let a' = subst (λ g. arity (with_var F x k) g ≡ Some j) (sym same) a in
          let len' : length vs ≡ k = cc in
          let r = tot x k found vs len' in
          let is : apply r.0 F.defs I x vs ≡ variable (below r.0) I x vs =
          ap (λ p. resolve p (find F.defs x) (below r.0 F.defs I) (variable (below r.0) I x vs) vs) apart.0
          ∙ ap (λ q. resolve None q (below r.0 F.defs I) (variable (below r.0) I x vs) vs) apart.1 in
          subst (λ g. (n : ℕ) × (v : Val) × (apply n F.defs I g vs ≡ Some v)) same (r.0, r.1, is ∙ r.2)
      by_test false t =
          total I (total_before I tot) f j (ap (λ b. arity_by (primitive f) (find F.defs f) (cond b (Some k) (lookup F.vars f))) (sym t) ∙ a) vs len

pub with_variable : (W : World) → Sound W → (x : Name) (k : ℕ) → arity W.functions x ≡ None → (IsIn (names W) x → ⊥) → Sound (add_variable x k W)
with_variable W sound x k fresh new =
    let F = W.functions in
    let free = free_primitive F x fresh in
    let a = no_function (primitive x) (find F.defs x) (lookup F.vars x) fresh in
    let more : Inserted x (names W) (names (add_variable x k W)) = inserted_after x (map (λ d. d.name) F.defs) _ _ (inserted_here x _) in
    let apart = apart_with W (add_variable x k W) sound x more free new in
    record {
      distinct = apart.distinct;
      unlike_primitives = apart.unlike_primitives;
      formed = formed_with_var F.vars x k a.0 a.2 F.defs a.1 sound.formed;
      total = total_later F x k fresh sound.total;
      later = later_variable initial_world W sound.later x k;
      obligations = each_to (λ d. AllHold F (obligations d)) (λ d. AllHold (with_var F x k) (obligations d)) (λ d h. all_later F x k fresh (obligations d) h) F.defs sound.obligations;
      theorems = each_to _ (λ e. (e.1.hyps ≡ []) × FitsSequent (with_var F x k) e.1 × Holds (with_var F x k) e.1) (λ e h. (h.0, sequent_later F x k fresh e.1 h.1, holds_later F x k fresh e.1 h.2)) W.theorems sound.theorems;
      specifications = each_to (λ s. FitsOver F s.variables s.matrix) (λ s. FitsOver (with_var F x k) s.variables s.matrix) (λ s h. over_map (IsIn s.variables) (IsIn s.variables) _ _ (λ y p. p) (arity_later F x k fresh) s.matrix h) W.specifications sound.specifications;
      isos = each_to (λ i. AllHold F (iso_conditions i)) (λ i. AllHold (with_var F x k) (iso_conditions i)) (λ i h. all_later F x k fresh (iso_conditions i) h) W.isos sound.isos;
      instances = records_stay W (add_variable x k W) (names_apart W sound) sound.formed apart (later_variable W W (later_self W) x k) sound.instances;
      first_order_isos = isos_stay W (add_variable x k W) (names_apart W sound) sound.formed apart (later_variable W W (later_self W) x k) sound.first_order_isos;
      links = links_stay W (add_variable x k W) (names_apart W sound) sound.formed apart (later_variable W W (later_self W) x k) sound.links;
    }

pub with_specification : (W : World) → Sound W → (s : Specification) → primitive s.name ≡ None → (IsIn (names W) s.name → ⊥) → FitsOver W.functions s.variables s.matrix → Sound (add_specification s W)
with_specification W sound s free new fits =
    let rest = map (λ s. s.name) W.specifications ++ map (λ i. i.name) W.isos in
    let more : Inserted s.name (names W) (names (add_specification s W)) =
    inserted_after s.name (map (λ d. d.name) W.functions.defs) _ _ (inserted_after s.name (map (λ v. v.0) W.functions.vars) _ _ (inserted_after s.name (map (λ t. t.0) W.theorems) _ _ (inserted_here s.name rest))) in
    let apart = apart_with W (add_specification s W) sound s.name more free new in
    record {
      distinct = apart.distinct;
      unlike_primitives = apart.unlike_primitives;
      formed = sound.formed;
      total = sound.total;
      later = later_specification initial_world W sound.later s;
      obligations = sound.obligations;
      theorems = sound.theorems;
      specifications = (fits, sound.specifications);
      isos = sound.isos;
      instances = records_stay W (add_specification s W) (names_apart W sound) sound.formed apart (later_specification W W (later_self W) s) sound.instances;
      first_order_isos = isos_stay W (add_specification s W) (names_apart W sound) sound.formed apart (later_specification W W (later_self W) s) sound.first_order_isos;
      links = links_stay W (add_specification s W) (names_apart W sound) sound.formed apart (later_specification W W (later_self W) s) sound.links;
    }

pub with_event : (W : World) → Sound W → (e : Datum) → Sound (add_event e W)
with_event W sound e = record {
  distinct = sound.distinct;
  unlike_primitives = sound.unlike_primitives;
  formed = sound.formed;
  total = sound.total;
  later = later_event initial_world W sound.later e;
  obligations = sound.obligations;
  theorems = sound.theorems;
  specifications = sound.specifications;
  isos = sound.isos;
  instances = records_stay W (add_event e W) (names_apart W sound) sound.formed (record { distinct = sound.distinct; unlike_primitives = sound.unlike_primitives }) (later_event W W (later_self W) e) sound.instances;
  first_order_isos = isos_stay W (add_event e W) (names_apart W sound) sound.formed (record { distinct = sound.distinct; unlike_primitives = sound.unlike_primitives }) (later_event W W (later_self W) e) sound.first_order_isos;
  links = links_stay W (add_event e W) (names_apart W sound) sound.formed (record { distinct = sound.distinct; unlike_primitives = sound.unlike_primitives }) (later_event W W (later_self W) e) sound.links;
}

pub with_iso : (W : World) → Sound W → (i : Iso) → primitive i.name ≡ None → (IsIn (names W) i.name → ⊥) → AllHold W.functions (iso_conditions i) → IsFirstOrder W i → Sound (add_iso i W)
with_iso W sound i free new hold first =
    let more : Inserted i.name (names W) (names (add_iso i W)) =
    inserted_after i.name (map (λ d. d.name) W.functions.defs) _ _ (inserted_after i.name (map (λ v. v.0) W.functions.vars) _ _ (inserted_after i.name (map (λ t. t.0) W.theorems) _ _ (inserted_after i.name (map (λ s. s.name) W.specifications) _ _ (inserted_here i.name (map (λ i. i.name) W.isos))))) in
    let apart = apart_with W (add_iso i W) sound i.name more free new in
    record {
      distinct = apart.distinct;
      unlike_primitives = apart.unlike_primitives;
      formed = sound.formed;
      total = sound.total;
      later = later_iso initial_world W sound.later i;
      obligations = sound.obligations;
      theorems = sound.theorems;
      specifications = sound.specifications;
      isos = (hold, sound.isos);
      instances = records_stay W (add_iso i W) (names_apart W sound) sound.formed apart (later_iso W W (later_self W) i) sound.instances;
      first_order_isos = (iso_stays W (add_iso i W) (names_apart W sound) sound.formed apart (later_iso W W (later_self W) i) i first, isos_stay W (add_iso i W) (names_apart W sound) sound.formed apart (later_iso W W (later_self W) i) sound.first_order_isos);
      links = links_stay W (add_iso i W) (names_apart W sound) sound.formed apart (later_iso W W (later_self W) i) sound.links;
    }

pub with_instance : (W : World) → Sound W → (of : Name) (pairs : List FunPair) (instance : Name) → IsRecorded W (instance_of of pairs instance) → Sound (add_instance of pairs instance W)
with_instance W sound of pairs instance recorded =
    let one = instance_of of pairs instance in
    let V = add_instance of pairs instance W in
    record {
      distinct = sound.distinct;
      unlike_primitives = sound.unlike_primitives;
      formed = sound.formed;
      total = sound.total;
      later = later_instance initial_world W sound.later one;
      obligations = sound.obligations;
      theorems = sound.theorems;
      specifications = sound.specifications;
      isos = sound.isos;
      instances = each_join (IsRecorded V) W.instances (one ∷ []) (records_stay W V (names_apart W sound) sound.formed apart later sound.instances) (record_stays W V (names_apart W sound) sound.formed apart later one recorded, tt);
      first_order_isos = isos_stay W V (names_apart W sound) sound.formed apart later sound.first_order_isos;
      links = links_stay W V (names_apart W sound) sound.formed apart later sound.links;
    }
  where
    apart : NamesApart (add_instance of pairs instance W)
    apart = record { distinct = sound.distinct; unlike_primitives = sound.unlike_primitives }

    later : IsLater W (add_instance of pairs instance W)
    later = later_instance W W (later_self W) (instance_of of pairs instance)

pub with_link : (W : World) → Sound W → (n : Name) (l : Link) → IsLinked W n l → Sound (add_link n l W)
with_link W sound n l linked = record {
  distinct = sound.distinct;
  unlike_primitives = sound.unlike_primitives;
  formed = sound.formed;
  total = sound.total;
  later = later_link initial_world W sound.later n l;
  obligations = sound.obligations;
  theorems = sound.theorems;
  specifications = sound.specifications;
  isos = sound.isos;
  instances = records_stay W (add_link n l W) (names_apart W sound) sound.formed (record { distinct = sound.distinct; unlike_primitives = sound.unlike_primitives }) (later_link W W (later_self W) n l) sound.instances;
  first_order_isos = isos_stay W (add_link n l W) (names_apart W sound) sound.formed (record { distinct = sound.distinct; unlike_primitives = sound.unlike_primitives }) (later_link W W (later_self W) n l) sound.first_order_isos;
  links = (link_stays W (add_link n l W) (names_apart W sound) sound.formed (record { distinct = sound.distinct; unlike_primitives = sound.unlike_primitives }) (later_link W W (later_self W) n l) n l linked, links_stay W (add_link n l W) (names_apart W sound) sound.formed (record { distinct = sound.distinct; unlike_primitives = sound.unlike_primitives }) (later_link W W (later_self W) n l) sound.links);
}
