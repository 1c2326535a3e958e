-- A sound world stays sound as it grows.
use Rattle.std.proofs.Common.{inl, inr, ◌⊎◌, ◌≡◌, ℕ, Bool, true, false, cond, not, ◌&&◌, List, [], ◌∷◌, ◌++◌, length, map, bytes_eq, codes, Option, Some, None, IfSome, refl, sym, ap, ◌∙◌, subst}
use Rattle.std.proofs.lemmas.Bool.{or_parts, and_parts, not-true}
use Rattle.lisp_data.specs.Values.{Name, Val}
use Rattle.terms.specs.Primitives.{Operation, primitive, lookup}
use Rattle.terms.specs.Terms.{Tm, Call, Tms, Done, More, count, OverAll, substitute, by_args}
use Rattle.terms.specs.declared.definition.Definition.{Definition}
use Rattle.terms.specs.Definitions.{find, Interp}
use Rattle.terms.specs.Worlds.{names, Distinct, Functions, World, FitsSequent, arity, arity_by, Fits, IsIn, Each, IsTrueAt, Holds}
use Rattle.terms.specs.declared.sequent.Sequent.{Sequent}
use Rattle.terms.specs.Measures.{mentions, mentions_in, is_nested, is_nested_in, call1, RecursiveCall, Place, Plain, Test, Then, Else, tests_at, next, first_place, recursive_calls, recursive_calls_in, falls, owed_by, obligations}
use Rattle.terms.specs.BuiltIn.{not_def, natp_def}
use Rattle.terms.specs.Formed.{with_def, FitsOver, IsFormed, AllFormed, HasBasics, ObligationsHold}
use Rattle.terms.specs.Sound.{Sound, initial_world, AllHold, iso_conditions, add_definition, add_theorem}
use Rattle.terms.specs.Laws.{StaysTotalFlat}
use Rattle.terms.proofs.Names.{same_name, name_self}
use Rattle.terms.proofs.Below.{Any}
use Rattle.terms.proofs.Extend.{over_map, eval_with, arity_later}
use Rattle.terms.proofs.Meaning.{arity_primitive, arity_defined}
use Rattle.terms.proofs.Basics.{is_less}
use Rattle.terms.proofs.Lists.{join_to}
use Rattle.terms.proofs.LaterSteps.{later_self, later_definition, later_theorem}
use Rattle.terms.proofs.NamesStay.{NamesApart, names_apart}
use Rattle.terms.proofs.RecordsStay.{records_stay}
use Rattle.terms.proofs.LinksStay.{isos_stay, links_stay}
use Rattle.terms.proofs.Totality.{EachTm, by_terms, each_join, each_to, lacks_fits, lacks_all_fits, over_substitute, over_by_args, stays_total}

-- the obligations of a definition that can be added fit the world
module _ (W : Functions) (formed : AllFormed W.vars W.defs) (basics : HasBasics W) (d : Definition) (ok : IsFormed W d) where
  own_arity : (k : ℕ) → arity (with_def W d) d.name ≡ Some k → k ≡ length d.formals
  own_arity k a = by_primitive (primitive d.name) refl
    where
      by_primitive : (p : Option Operation) → primitive d.name ≡ p → k ≡ length d.formals
      by_primitive (Some p) e = let n = ok.fresh in let s = arity_primitive W d.name p e in absurd (cc)
      by_primitive None e =
          let s : arity (with_def W d) d.name ≡ Some (length d.formals) =
          ap (λ q. arity_by q (cond (bytes_eq d.name d.name) (Some d) (find W.defs d.name)) (lookup W.vars d.name)) e
          ∙ ap (λ b. arity_by None (cond b (Some d) (find W.defs d.name)) (lookup W.vars d.name)) (name_self d.name) in
          cc

  record CallFits (c : RecursiveCall) : Type 0 where
    tests : Each (Fits W) c.tests
    args : OverAll (IsIn d.formals) (λ g k. arity W g ≡ Some k) c.args
    number : count c.args ≡ length d.formals

  abbrev CallsFit : Tm → Type 0
  CallsFit t = FitsOver (with_def W d) d.formals t → is_nested d.name t ≡ false → (tests : List Tm) → Each (Fits W) tests → Each CallFits (recursive_calls d.name tests t)

  abbrev PlaceFits : Place → Type 0
  PlaceFits Plain = Unit {0}
  PlaceFits (Test c) = Fits W c
  PlaceFits (Then c) = Fits W c
  PlaceFits (Else c) = Fits W c

  next_fits : (p : Place) → PlaceFits p → PlaceFits (next p)
  next_fits Plain h = tt
  next_fits (Test c) h = h
  next_fits (Then c) h = h
  next_fits (Else c) h = tt

  at_fits : (p : Place) → PlaceFits p → (tests : List Tm) → Each (Fits W) tests → Each (Fits W) (tests_at p tests)
  at_fits Plain h tests f = f
  at_fits (Test c) h tests f = f
  at_fits (Then c) h tests f = each_join (Fits W) tests (c ∷ []) f (h, tt)
  at_fits (Else c) h tests f = each_join (Fits W) tests (call1 (codes "NOT") c ∷ []) f ((arity_defined W formed (codes "NOT") not_def basics.has_not, (h, tt)), tt)

  calls_in_fit : (ts : Tms) → EachTm CallsFit ts → OverAll (IsIn d.formals) (λ g k. arity (with_def W d) g ≡ Some k) ts → is_nested_in d.name ts ≡ false → (p : Place) → PlaceFits p → (tests : List Tm) → Each (Fits W) tests → Each CallFits (recursive_calls_in d.name p tests ts)
  calls_in_fit Done f o e p h tests g = tt
  calls_in_fit (More t ts) f o e p h tests g =
      let e' = or_parts (is_nested d.name t) (is_nested_in d.name ts) e in
      each_join CallFits (recursive_calls d.name (tests_at p tests) t) (recursive_calls_in d.name (next p) tests ts)
      (f.0 o.0 e'.0 (tests_at p tests) (at_fits p h tests g))
      (calls_in_fit ts f.1 o.1 e'.1 (next p) (next_fits p h) tests g)

  any_fits : (t : Tm) → FitsOver W d.formals t → Fits W t
  any_fits t o = over_map (IsIn d.formals) Any _ _ (λ x p. tt) (λ g k q. q) t o

  first_fits : (g : Name) (ts : Tms) → OverAll (IsIn d.formals) (λ g k. arity (with_def W d) g ≡ Some k) ts → PlaceFits (first_place d.name g ts)
  first_fits g Done o = tt
  first_fits g (More c ts) o = by_test (bytes_eq (codes "IF") g && not (mentions d.name c)) refl
    where
      by_test : (b : Bool) → (bytes_eq (codes "IF") g && not (mentions d.name c)) ≡ b → PlaceFits (cond b (Test c) Plain)
      by_test false e = tt
      by_test true e =
          let lacks = not-true (mentions d.name c) (and_parts (bytes_eq (codes "IF") g) (not (mentions d.name c)) e).1 in
          any_fits c (lacks_fits W d (IsIn d.formals) c lacks o.0)

  call_fits : (g : Name) (ts : Tms) → EachTm CallsFit ts → CallsFit (Call g ts)
  call_fits g ts f o e tests h =
      each_join CallFits _ (recursive_calls_in d.name (first_place d.name g ts) tests ts) (by_name (bytes_eq d.name g) refl)
      (calls_in_fit ts f o.1 e'.1 (first_place d.name g ts) (first_fits g ts o.1) tests h)
    where
      e' : ((bytes_eq d.name g && mentions_in d.name ts) ≡ false) × (is_nested_in d.name ts ≡ false)
      e' = or_parts (bytes_eq d.name g && mentions_in d.name ts) (is_nested_in d.name ts) e

      by_name : (b : Bool) → bytes_eq d.name g ≡ b → Each CallFits (cond b (record { tests = tests; args = ts } ∷ []) [])
      by_name false t = tt
      by_name true t =
          let flat : mentions_in d.name ts ≡ false = ap (λ x. x && mentions_in d.name ts) (sym t) ∙ e'.0 in
          let a = subst (λ x. arity (with_def W d) x ≡ Some (count ts)) (sym (same_name d.name g t)) o.0 in
          (record { tests = h; args = lacks_all_fits W d (IsIn d.formals) ts flat o.1; number = own_arity (count ts) a }, tt)

  calls_fit : Each CallFits (recursive_calls d.name [] d.body)
  calls_fit = by_terms CallsFit (λ x o e tests h. tt) (λ v o e tests h. tt) call_fits d.body ok.body ok.flat [] tt

  falls_fits : (m : Tm) → FitsOver W d.formals m → (c : RecursiveCall) → CallFits c → FitsSequent W (falls d.formals m c)
  falls_fits m o c f = record {
    universals = tt;
    hyps = join_to (Fits W) [] c.tests tt f.tests;
    goal = (
      arity_primitive W (codes "<") _ is_less,
      (
        any_fits (substitute (by_args d.formals c.args) m) (over_substitute (IsIn d.formals) (IsIn d.formals) _ (by_args d.formals c.args) (λ x i. over_by_args (IsIn d.formals) _ d.formals c.args x f.number f.args i) m o),
        (any_fits m o, tt),
      ),
    );
  }

  each_mapped : {A B : Type 0} (P : B → Type 0) (f : A → B) (xs : List A) → Each (λ x. P (f x)) xs → Each P (map f xs)
  each_mapped P f [] h = tt
  each_mapped P f (x ∷ xs) h = (h.0, each_mapped P f xs h.1)

  pub obligations_fit : Each (FitsSequent W) (obligations d)
  obligations_fit = by_test (mentions d.name d.body)
    where
      owed_fit : (o : Option Tm) → IfSome o (FitsOver W d.formals) → Each (FitsSequent W) (owed_by d o)
      owed_fit None f = tt
      owed_fit (Some m) f = (
        record { universals = tt; hyps = tt; goal = (arity_defined W formed (codes "NATP") natp_def basics.has_natp, (any_fits m f, tt)) },
        each_mapped (FitsSequent W) (falls d.formals m) (recursive_calls d.name [] d.body) (each_to CallFits _ (falls_fits m f) (recursive_calls d.name [] d.body) calls_fit),
      )

      by_test : (b : Bool) → Each (FitsSequent W) (cond b (owed_by d d.measure) [])
      by_test true = owed_fit d.measure ok.measure
      by_test false = tt

each_zip : {A : Type 0} (P Q R : A → Type 0) → ((x : A) → P x → Q x → R x) → (xs : List A) → Each P xs → Each Q xs → Each R xs
each_zip P Q R f [] h g = tt
each_zip P Q R f (x ∷ xs) h g = (f x h.0 g.0, each_zip P Q R f xs h.1 g.1)

-- with a definition
module _ (W : Functions) (formed : AllFormed W.vars W.defs) (d : Definition) (fresh : arity W d.name ≡ None) where
  true_later : (I : Interp) (env : Name → Val) (t : Tm) → Fits W t → IsTrueAt W I env t → IsTrueAt (with_def W d) I env t
  true_later I env t o h = (h.0, h.1, sym (eval_with W formed d fresh I Any h.0 t (λ x. Some (env x)) o) ∙ h.2, h.3)

  true_before : (I : Interp) (env : Name → Val) (t : Tm) → Fits W t → IsTrueAt (with_def W d) I env t → IsTrueAt W I env t
  true_before I env t o h = (h.0, h.1, eval_with W formed d fresh I Any h.0 t (λ x. Some (env x)) o ∙ h.2, h.3)

  pub fits_later : (t : Tm) → Fits W t → Fits (with_def W d) t
  fits_later t o = over_map Any Any _ _ (λ x p. p) (arity_later W d fresh) t o

  pub sequent_later : (s : Sequent) → FitsSequent W s → FitsSequent (with_def W d) s
  sequent_later s f = record {
    universals = each_to (Fits W) _ fits_later s.universals f.universals;
    hyps = each_to (Fits W) _ fits_later s.hyps f.hyps;
    goal = fits_later s.goal f.goal;
  }

  pub holds_later : (s : Sequent) → FitsSequent W s → Holds W s → Holds (with_def W d) s
  holds_later s f h I tot us env hs =
      true_later I env s.goal f.goal
      (h I tot
      (each_zip (λ u. (env' : Name → Val) → IsTrueAt (with_def W d) I env' u) (Fits W) (λ u. (env' : Name → Val) → IsTrueAt W I env' u) (λ u a o env'. true_before I env' u o (a env')) s.universals us f.universals)
      env
      (each_zip (IsTrueAt (with_def W d) I env) (Fits W) (IsTrueAt W I env) (λ u a o. true_before I env u o a) s.hyps hs f.hyps))

  all_later : (ss : List Sequent) → AllHold W ss → AllHold (with_def W d) ss
  all_later ss h = each_to (λ s. FitsSequent W s × Holds W s) _ (λ s k. (sequent_later s k.0, holds_later s k.0 k.1)) ss h

-- what a definition that isn't recursive owes: nothing
owes_nothing : (P : Sequent → Type 0) (d : Definition) → mentions d.name d.body ≡ false → Each P (obligations d)
owes_nothing P d e = subst (λ b. Each P (cond b (owed_by d d.measure) [])) (sym e) tt

pub flat_stays_total : StaysTotalFlat
flat_stays_total W formed total d ok flat = stays_total W formed total d ok (λ e. absurd (cc)) (owes_nothing (Holds W) d flat)

-- a name that no function has is no primitive's
pub free_primitive : (F : Functions) (f : Name) → arity F f ≡ None → primitive f ≡ None
free_primitive F f e = by_cases (primitive f) (find F.defs f) (lookup F.vars f) e
  where
    by_cases : (p : Option Operation) (q : Option Definition) (r : Option ℕ) → arity_by p q r ≡ None → p ≡ None
    by_cases None q r h = refl
    by_cases (Some p) q r h = cc

-- with a definition whose obligations hold
pub with_definition : (W : World) → Sound W → HasBasics W.functions → (d : Definition) → IsFormed W.functions d → (IsIn (names W) d.name → ⊥) → ObligationsHold W.functions d → Sound (add_definition d W)
with_definition W sound basics d ok new owed =
    let F = W.functions in
    record {
      distinct = apart.distinct;
      unlike_primitives = apart.unlike_primitives;
      formed = (ok, sound.formed);
      total = stays_total F sound.formed sound.total d ok (λ _. basics) owed;
      later = later_definition initial_world W sound.later d;
      obligations = (
        each_zip (FitsSequent F) (Holds F) (λ s. FitsSequent (with_def F d) s × Holds (with_def F d) s) (λ s f h. (sequent_later F sound.formed d ok.fresh s f, holds_later F sound.formed d ok.fresh s f h)) (obligations d) (obligations_fit F sound.formed basics d ok) owed,
        each_to (λ e. AllHold F (obligations e)) (λ e. AllHold (with_def F d) (obligations e)) (λ e h. all_later F sound.formed d ok.fresh (obligations e) h) F.defs sound.obligations,
      );
      theorems = each_to _ (λ e. (e.1.hyps ≡ []) × FitsSequent (with_def F d) e.1 × Holds (with_def F d) e.1) (λ e h. (h.0, sequent_later F sound.formed d ok.fresh e.1 h.1, holds_later F sound.formed d ok.fresh e.1 h.1 h.2)) W.theorems sound.theorems;
      specifications = each_to (λ s. FitsOver F s.variables s.matrix) (λ s. FitsOver (with_def F d) s.variables s.matrix) (λ s h. over_map (IsIn s.variables) (IsIn s.variables) _ _ (λ x p. p) (arity_later F d ok.fresh) s.matrix h) W.specifications sound.specifications;
      isos = each_to (λ i. AllHold F (iso_conditions i)) (λ i. AllHold (with_def F d) (iso_conditions i)) (λ i h. all_later F sound.formed d ok.fresh (iso_conditions i) h) W.isos sound.isos;
      instances = records_stay W (add_definition d W) (names_apart W sound) sound.formed apart (later_definition W W (later_self W) d) sound.instances;
      first_order_isos = isos_stay W (add_definition d W) (names_apart W sound) sound.formed apart (later_definition W W (later_self W) d) sound.first_order_isos;
      links = links_stay W (add_definition d W) (names_apart W sound) sound.formed apart (later_definition W W (later_self W) d) sound.links;
    }
  where
    by_test : (f : Name) (b : Bool) → bytes_eq d.name f ≡ b → cond b (Unit {0}) (IsIn (names W) f) → primitive f ≡ None
    by_test f true t i = subst (λ g. primitive g ≡ None) (same_name d.name f t) (free_primitive W.functions d.name ok.fresh)
    by_test f false t i = sound.unlike_primitives f i

    apart : NamesApart (add_definition d W)
    apart = record { distinct = (new, sound.distinct); unlike_primitives = λ f i. by_test f (bytes_eq d.name f) refl i }

-- one name more, somewhere in the list
pub record Inserted (n : Name) (zs ws : List Name) : Type 0 where
  pub among : (f : Name) → IsIn ws f → (bytes_eq n f ≡ true) ⊎ IsIn zs f
  pub distinct : Distinct zs → (IsIn zs n → ⊥) → Distinct ws

pub inserted_here : (n : Name) (zs : List Name) → Inserted n zs (n ∷ zs)
inserted_here n zs = record { among = λ f i. by_test f (bytes_eq n f) refl i; distinct = λ d h. (h, d) }
  where
    by_test : (f : Name) (b : Bool) → bytes_eq n f ≡ b → cond b (Unit {0}) (IsIn zs f) → (bytes_eq n f ≡ true) ⊎ IsIn zs f
    by_test f true e i = inl e
    by_test f false e i = inr i

inserted_behind : (n x : Name) (zs ws : List Name) → Inserted n zs ws → Inserted n (x ∷ zs) (x ∷ ws)
inserted_behind n x zs ws h = record {
  among = λ f i. by_test f (bytes_eq x f) i;
  distinct = λ d apart. (
    λ i. elim (h.among x i) [
      | inl e ↦ apart (let t : bytes_eq x n ≡ true = subst (λ y. bytes_eq y n ≡ true) (same_name n x e) (name_self n) in subst (λ b. cond b (Unit {0}) (IsIn zs n)) (sym t) tt)
      | inr j ↦ d.0 j
    ],
    h.distinct d.1 (λ i. apart (by_either (bytes_eq x n) i)),
  );
}
  where
    by_test : (f : Name) (b : Bool) → cond b (Unit {0}) (IsIn ws f) → (bytes_eq n f ≡ true) ⊎ cond b (Unit {0}) (IsIn zs f)
    by_test f true i = inr tt
    by_test f false i = h.among f i

    by_either : (b : Bool) → IsIn zs n → cond b (Unit {0}) (IsIn zs n)
    by_either true i = tt
    by_either false i = i

pub inserted_after : (n : Name) (xs zs ws : List Name) → Inserted n zs ws → Inserted n (xs ++ zs) (xs ++ ws)
inserted_after n [] zs ws h = h
inserted_after n (x ∷ xs) zs ws h = inserted_behind n x (xs ++ zs) (xs ++ ws) (inserted_after n xs zs ws h)

-- the names of a world with one name more, no primitive's
pub apart_with : (W V : World) → Sound W → (n : Name) → Inserted n (names W) (names V) → primitive n ≡ None → (IsIn (names W) n → ⊥) → NamesApart V
apart_with W V sound n more free new = record {
  distinct = more.distinct sound.distinct new;
  unlike_primitives = λ f i. elim (more.among f i) [
    | inl e ↦ subst (λ g. primitive g ≡ None) (same_name n f e) free
    | inr j ↦ sound.unlike_primitives f j
  ];
}

pub with_theorem : (W : World) → Sound W → (n : Name) (s : Sequent) → primitive n ≡ None → (IsIn (names W) n → ⊥) → s.hyps ≡ [] → FitsSequent W.functions s → Holds W.functions s → Sound (add_theorem n s W)
with_theorem W sound n s free new none fit h =
    let rest = map (λ t. t.0) W.theorems ++ (map (λ s. s.name) W.specifications ++ map (λ i. i.name) W.isos) in
    let more : Inserted n (names W) (names (add_theorem n s W)) =
    inserted_after n (map (λ d. d.name) W.functions.defs) _ _ (inserted_after n (map (λ v. v.0) W.functions.vars) _ _ (inserted_here n rest)) in
    let apart = apart_with W (add_theorem n s W) sound n more free new in
    record {
      distinct = apart.distinct;
      unlike_primitives = apart.unlike_primitives;
      formed = sound.formed;
      total = sound.total;
      later = later_theorem initial_world W sound.later n s;
      obligations = sound.obligations;
      theorems = ((none, fit, h), sound.theorems);
      specifications = sound.specifications;
      isos = sound.isos;
      instances = records_stay W (add_theorem n s W) (names_apart W sound) sound.formed apart (later_theorem W W (later_self W) n s) sound.instances;
      first_order_isos = isos_stay W (add_theorem n s W) (names_apart W sound) sound.formed apart (later_theorem W W (later_self W) n s) sound.first_order_isos;
      links = links_stay W (add_theorem n s W) (names_apart W sound) sound.formed apart (later_theorem W W (later_self W) n s) sound.links;
    }
