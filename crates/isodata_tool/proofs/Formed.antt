-- The old function and the new function are well formed.
use Rattle.std.proofs.Common.{◌≡◌, ℕ, true, false, cond, ◌&&◌, ◌||◌, List, length, is_some, bytes_eq, codes, Option, Some, None, IfSome, option_map, refl, sym, ap, ap₂, ◌∙◌}
use Rattle.lisp_data.specs.Values.{Name}
use Rattle.terms.specs.Definitions.{find}
use Rattle.terms.specs.Formed.{with_def, FitsOver, IsWellFormed}
use Rattle.terms.specs.Links.{conjunction, IsFirstOrder}
use Rattle.terms.specs.Measures.{mentions, is_nested}
use Rattle.terms.specs.Primitives.{lookup}
use Rattle.terms.specs.Sound.{Sound}
use Rattle.terms.specs.Terms.{Tm, Over, substitute}
use Rattle.terms.specs.Worlds.{Functions, World, Each, arity, arity_by, IsIn}
use Rattle.terms.specs.declared.definition.Definition.{Definition}
use Rattle.terms.proofs.Extend.{over_map, arity_later, body_fits}
use Rattle.terms.proofs.Found.{IsFoundFormed, found_formed}
use Rattle.terms.proofs.Growth.{free_primitive}
use Rattle.terms.proofs.Lists.{each_to}
use Rattle.terms.proofs.Meaning.{arity_defined, arity_primitive}
use Rattle.terms.proofs.Models.{is_if}
use Rattle.terms.proofs.Names.{name_self, name_apart}
use Rattle.terms.proofs.Totality.{over_substitute}
use Rattle.worlds.specs.Lookups.{find_iso}
use Rattle.worlds.proofs.Growth.{found_first_order}
use Rattle.measures.specs.Calls.{CallsTake}
use Rattle.isodata_tool.specs.Carried.{Mapped, AreMapped, position_of, with_back, all_in_new, called_body, new_body, carried_over}
use Rattle.tool_parts.specs.Counted.{IsCounted}
use Rattle.isodata_tool.proofs.Kept.{over_with_back, over_in_new, over_conjunction, over_called}
use Rattle.isodata_tool.proofs.Mentioned.{unknown, lacks, or_none, no_nest, lacks_back, mentions_under, nested_under, mentions_called, nested_called}
use Rattle.isodata_tool.proofs.Placed.{placed_in}

some_is : {A : Type 0} {x y : A} → Some x ≡ Some y → x ≡ y
some_is e = cc

-- calls of a function of the world have as many arguments as it takes
calls_take : (F : Functions) (f : Name) (n : ℕ) → arity F f ≡ Some n → (ys : List Name) (t : Tm) → FitsOver F ys t → CallsTake f n t
calls_take F f n a ys t o =
    over_map (IsIn ys) (λ x. Unit {0}) (λ g k. arity F g ≡ Some k) (λ g k. g ≡ f → k ≡ n) (λ x i. tt)
    (λ g k b same. some_is (sym b ∙ ap (arity F) same ∙ a)) t o

-- a new function takes as many arguments as it has formals
pub own_arity : (F : Functions) (d : Definition) → arity F d.name ≡ None → arity (with_def F d) d.name ≡ Some (length d.formals)
own_arity F d new =
    ap (λ p. arity_by p (cond (bytes_eq d.name d.name) (Some d) (find F.defs d.name)) (lookup F.vars d.name)) (free_primitive F d.name new)
    ∙ ap (λ b. arity_by None (cond b (Some d) (find F.defs d.name)) (lookup F.vars d.name)) (name_self d.name)

-- a well-formed function with a new name
counted_definition : (F : Functions) (d : Definition) → arity F d.name ≡ None → IsWellFormed F d → IsCounted d
counted_definition F d new ok = record {
  distinct = ok.formals;
  arity = calls_take (with_def F d) d.name (length d.formals) (own_arity F d new) d.formals d.body ok.body;
  flat = ok.flat;
}

pub if_some_under : (P Q : Tm → Type 0) (s : Tm → Tm) → ((t : Tm) → P t → Q (s t)) → (o : Option Tm) → IfSome o P → IfSome (option_map s o) Q
if_some_under P Q s f None h = tt
if_some_under P Q s f (Some t) h = f t h

some_under : (s : Tm → Tm) (o : Option Tm) → is_some o ≡ true → is_some (option_map s o) ≡ true
some_under s None e = e
some_under s (Some t) e = refl

module _ (W : World) (sound : Sound W) (d : Definition) (found : find W.functions.defs d.name ≡ Some d) where
  pub formed : IsFoundFormed W.functions d
  formed = found_formed W.functions.vars W.functions.defs sound.formed d.name d found

  pub takes : arity W.functions d.name ≡ Some (length d.formals)
  takes = arity_defined W.functions sound.formed d.name d found

  pub old_fits : FitsOver W.functions d.formals d.body
  old_fits = body_fits W.functions sound.formed d.name d found

  pub old_counted : IsCounted d
  old_counted = record {
    distinct = formed.formals;
    arity = calls_take W.functions d.name (length d.formals) takes d.formals d.body old_fits;
    flat = formed.flat;
  }

  module _ (g : Name) (new : arity W.functions g ≡ None) where
    -- the new name is another, and none that is called
    pub apart : bytes_eq g d.name ≡ false
    apart = unknown W.functions g new d.name (length d.formals) takes

    pub two : bytes_eq d.name g ≡ false
    two = name_apart d.name g (λ e. let n : arity W.functions d.name ≡ None = ap (arity W.functions) e ∙ new in absurd (cc (n, takes)))

    pub not_if : bytes_eq g (codes "IF") ≡ false
    not_if = unknown W.functions g new (codes "IF") 3 (arity_primitive W.functions (codes "IF") _ is_if)

    pub lacks_body : mentions g d.body ≡ false
    lacks_body = lacks W.functions g new (IsIn d.formals) d.body old_fits

-- the isomorphisms of mapped formals
module _ (W : World) (sound : Sound W) (xs : List Name) (ms : List Mapped) (mapped : AreMapped W xs ms) where
  pub first_orders : Each (λ e. IsFirstOrder W e.iso) ms
  first_orders = each_to (λ e. find_iso W.isos e.iso.name ≡ Some e.iso) (λ e. IsFirstOrder W e.iso) (λ e k. found_first_order W sound e.iso.name e.iso k) ms mapped.known

  pub take_oldp : Each (λ e. arity W.functions e.iso.oldp ≡ Some 1) ms
  take_oldp = each_to (λ e. IsFirstOrder W e.iso) (λ e. arity W.functions e.iso.oldp ≡ Some 1) (λ e h. h.0.0) ms first_orders

  pub take_newp : Each (λ e. arity W.functions e.iso.newp ≡ Some 1) ms
  take_newp = each_to (λ e. IsFirstOrder W e.iso) (λ e. arity W.functions e.iso.newp ≡ Some 1) (λ e h. h.1.0.0) ms first_orders

  pub take_forth : Each (λ e. arity W.functions e.iso.forth ≡ Some 1) ms
  take_forth = each_to (λ e. IsFirstOrder W e.iso) (λ e. arity W.functions e.iso.forth ≡ Some 1) (λ e h. h.1.1.0.0) ms first_orders

  pub take_back : Each (λ e. arity W.functions e.iso.back ≡ Some 1) ms
  take_back = each_to (λ e. IsFirstOrder W e.iso) (λ e. arity W.functions e.iso.back ≡ Some 1) (λ e h. h.1.1.1.0.0) ms first_orders

  -- the mapped formals are among the formals
  pub are_formals : Each (λ e. IsIn xs e.formal) ms
  are_formals = each_to (λ e. position_of xs e.formal ≡ Some e.position) (λ e. IsIn xs e.formal) (λ e p. placed_in xs e.formal e.position p) ms mapped.placed

module _ (W : World) (sound : Sound W) (d : Definition) (found : find W.functions.defs d.name ≡ Some d) (g : Name) (new : arity W.functions g ≡ None) (ms : List Mapped) (mapped : AreMapped W d.formals ms) where
  abbrev F : Functions
  F = with_def W.functions (carried_over d g ms)

  -- they are others than the new function
  pub backs_apart : Each (λ e. bytes_eq g e.iso.back ≡ false) ms
  backs_apart = each_to (λ e. arity W.functions e.iso.back ≡ Some 1) (λ e. bytes_eq g e.iso.back ≡ false) (λ e a. unknown W.functions g new e.iso.back 1 a) ms (take_back W sound d.formals ms mapped)

  pub forths_apart : Each (λ e. bytes_eq g e.iso.forth ≡ false) ms
  forths_apart = each_to (λ e. arity W.functions e.iso.forth ≡ Some 1) (λ e. bytes_eq g e.iso.forth ≡ false) (λ e a. unknown W.functions g new e.iso.forth 1 a) ms (take_forth W sound d.formals ms mapped)

  -- the test of the new function
  pub condition_fits : FitsOver W.functions d.formals (conjunction (all_in_new ms))
  condition_fits =
      over_conjunction (IsIn d.formals) (λ h k. arity W.functions h ≡ Some k) (arity_primitive W.functions (codes "IF") _ is_if) (all_in_new ms)
      (over_in_new (IsIn d.formals) (λ h k. arity W.functions h ≡ Some k) ms (take_newp W sound d.formals ms mapped) (are_formals W sound d.formals ms mapped))

  pub lacks_condition : mentions g (conjunction (all_in_new ms)) ≡ false
  lacks_condition = lacks W.functions g new (IsIn d.formals) (conjunction (all_in_new ms)) condition_fits

  -- its body
  body_mentions : mentions g (new_body d g ms) ≡ mentions d.name d.body
  body_mentions =
      mentions_under g (with_back ms) (lacks_back g ms backs_apart) (called_body d g ms)
      ∙ mentions_called g ms forths_apart d.name d.formals d.body (lacks_body W sound d found g new)

  body_flat : is_nested g (new_body d g ms) ≡ false
  body_flat =
      nested_under g (with_back ms) (lacks_back g ms backs_apart) (called_body d g ms)
      ∙ nested_called g ms forths_apart d.name d.formals d.body (lacks_body W sound d found g new)

  -- the new function is recursive where the old one is
  pub new_mentions : mentions g (carried_over d g ms).body ≡ mentions d.name d.body
  new_mentions =
      ap₂ (λ a b. a || (b || (mentions g (new_body d g ms) || false))) (not_if W sound d found g new) lacks_condition
      ∙ or_none (mentions g (new_body d g ms))
      ∙ body_mentions

  pub new_flat : is_nested g (carried_over d g ms).body ≡ false
  new_flat =
      ap (λ b. (b && (mentions g (conjunction (all_in_new ms)) || (mentions g (new_body d g ms) || false))) || (is_nested g (conjunction (all_in_new ms)) || (is_nested g (new_body d g ms) || false))) (not_if W sound d found g new)
      ∙ ap (λ b. b || (is_nested g (new_body d g ms) || false)) (no_nest g (conjunction (all_in_new ms)) lacks_condition)
      ∙ or_none (is_nested g (new_body d g ms))
      ∙ body_flat

  later : (h : Name) (k : ℕ) → arity W.functions h ≡ Some k → arity F h ≡ Some k
  later = arity_later W.functions (carried_over d g ms) new

  pub fits_later : (t : Tm) → FitsOver W.functions d.formals t → FitsOver F d.formals t
  fits_later t o = over_map (IsIn d.formals) (IsIn d.formals) (λ h k. arity W.functions h ≡ Some k) (λ h k. arity F h ≡ Some k) (λ x i. i) later t o

  pub back_fits : (x : Name) → IsIn d.formals x → FitsOver W.functions d.formals (with_back ms x)
  back_fits = over_with_back (IsIn d.formals) (λ h k. arity W.functions h ≡ Some k) ms (take_back W sound d.formals ms mapped)

  -- the old body with calls of the new function, in the world with it, and the new body
  pub called_fits : FitsOver F d.formals (called_body d g ms)
  called_fits =
      over_called (IsIn d.formals) (λ h k. arity W.functions h ≡ Some k) (λ h k. arity F h ≡ Some k) later d.name g
      (λ k a. own_arity W.functions (carried_over d g ms) new ∙ sym (takes W sound d found) ∙ a) ms
      (each_to (λ e. arity W.functions e.iso.forth ≡ Some 1) (λ e. arity F e.iso.forth ≡ Some 1) (λ e a. later e.iso.forth 1 a) ms (take_forth W sound d.formals ms mapped))
      d.formals d.body (old_fits W sound d found)

  pub new_fits : FitsOver F d.formals (new_body d g ms)
  new_fits =
      over_substitute (IsIn d.formals) (IsIn d.formals) (λ h k. arity F h ≡ Some k) (with_back ms)
      (λ x i. fits_later (with_back ms x) (back_fits x i)) (called_body d g ms) called_fits

  -- the old measure on the old representation
  measure_fits : IfSome (carried_over d g ms).measure (FitsOver W.functions d.formals)
  measure_fits =
      if_some_under (Over (IsIn d.formals) (λ h k. (arity W.functions h ≡ Some k) × (bytes_eq d.name h ≡ false))) (FitsOver W.functions d.formals) (substitute (with_back ms))
      (λ t o.
      over_substitute (IsIn d.formals) (IsIn d.formals) (λ h k. arity W.functions h ≡ Some k) (with_back ms) back_fits t
      (over_map (IsIn d.formals) (IsIn d.formals) (λ h k. (arity W.functions h ≡ Some k) × (bytes_eq d.name h ≡ false)) (λ h k. arity W.functions h ≡ Some k) (λ x i. i) (λ h k a. a.0) t o))
      d.measure (formed W sound d found).measure

  pub new_formed : IsWellFormed W.functions (carried_over d g ms)
  new_formed = record {
    formals = (formed W sound d found).formals;
    body = (arity_primitive F (codes "IF") _ is_if, (fits_later (conjunction (all_in_new ms)) condition_fits, (new_fits, (tt, tt))));
    measure = measure_fits;
    measured = λ e. some_under (substitute (with_back ms)) d.measure ((formed W sound d found).measured (sym new_mentions ∙ e));
    flat = new_flat;
  }

  pub new_counted : IsCounted (carried_over d g ms)
  new_counted = counted_definition W.functions (carried_over d g ms) new new_formed
