-- The old function, the restriction and the new function are well formed.
use Rattle.std.proofs.Common.{◌≡◌, ℕ, Bool, true, false, cond, ◌&&◌, ◌||◌, List, [], ◌∷◌, length, is_some, bytes_eq, codes, Some, None, IfSome, Ok, refl, sym, ap, ap₂, ◌∙◌, subst}
use Rattle.lisp_data.specs.Values.{Name, Val}
use Rattle.terms.specs.BuiltIn.{not_def, binary_append_def}
use Rattle.terms.specs.Definitions.{find}
use Rattle.terms.specs.Formed.{with_def, FitsOver, IsWellFormed}
use Rattle.terms.specs.Measures.{mentions, is_nested}
use Rattle.terms.specs.Primitives.{primitive, primitives, lookup}
use Rattle.terms.specs.Sound.{Sound}
use Rattle.terms.specs.Terms.{Tm, Quote, More, Done, Over}
use Rattle.terms.specs.Worlds.{Functions, World, arity, arity_by, is_in, IsIn}
use Rattle.terms.specs.declared.definition.Definition.{Definition}
use Rattle.terms.proofs.Extend.{over_map, arity_later, body_fits}
use Rattle.terms.proofs.Found.{IsFoundFormed, if_some_map, found_formed, found_name}
use Rattle.terms.proofs.Growth.{free_primitive}
use Rattle.terms.proofs.Later.{has_basics, has_append}
use Rattle.terms.proofs.Meaning.{arity_defined, arity_primitive}
use Rattle.terms.proofs.Models.{is_if}
use Rattle.terms.proofs.Names.{name_self, name_apart}
use Rattle.worlds.proofs.Free.{free}
use Rattle.measures.specs.Calls.{CallsTake}
use Rattle.term_forms.specs.Translation.{Outcome, and_then, map_outcome, translate}
use Rattle.term_forms.specs.TranslationLaws.{HasWords}
use Rattle.term_forms.proofs.TranslatedTerms.{translated_terms_fit}
use Rattle.restrict_tool.specs.Restrictions.{Request, AreNew, new_body, restricted, restriction_of}
use Rattle.restrict_tool.specs.Restrictions as spec
use Rattle.tool_parts.specs.Counted.{IsCounted}
use Rattle.restrict_tool.proofs.Renamed.{unknown, lacks, no_nest, mentions_renamed, nested_renamed, fits_renamed}

some_is : {A : Type 0} {x y : A} → Some x ≡ Some y → x ≡ y
some_is e = cc

-- calls of a function of the world have as many arguments as it takes
calls_take : (F : Functions) (f : Name) (n : ℕ) → arity F f ≡ Some n → (ys : List Name) (t : Tm) → FitsOver F ys t → CallsTake f n t
calls_take F f n a ys t o =
    over_map (IsIn ys) (λ x. Unit {0}) (λ g k. arity F g ≡ Some k) (λ g k. g ≡ f → k ≡ n) (λ x i. tt)
    (λ g k b same. some_is (sym b ∙ ap (arity F) same ∙ a)) t o

-- a new function takes as many arguments as it has formals
pub own_arity : (F : Functions) (d : Definition) → arity F d.name ≡ None → arity (with_def F d) d.name ≡ Some (length d.formals)
own_arity F d new =
    ap (λ p. arity_by p (cond (bytes_eq d.name d.name) (Some d) (find F.defs d.name)) (lookup F.vars d.name)) (free_primitive F d.name new)
    ∙ ap (λ b. arity_by None (cond b (Some d) (find F.defs d.name)) (lookup F.vars d.name)) (name_self d.name)

-- a well-formed function with a new name
counted_definition : (F : Functions) (d : Definition) → arity F d.name ≡ None → IsWellFormed F d → IsCounted d
counted_definition F d new ok = record {
  distinct = ok.formals;
  arity = calls_take (with_def F d) d.name (length d.formals) (own_arity F d new) d.formals d.body ok.body;
  flat = ok.flat;
}

or_none : (b : Bool) → (b || false) ≡ b
or_none true = refl
or_none false = refl

module _ (W : World) (sound : Sound W) (d : Definition) (found : find W.functions.defs d.name ≡ Some d) where
  pub formed : IsFoundFormed W.functions d
  formed = found_formed W.functions.vars W.functions.defs sound.formed d.name d found

  pub takes : arity W.functions d.name ≡ Some (length d.formals)
  takes = arity_defined W.functions sound.formed d.name d found

  pub old_fits : FitsOver W.functions d.formals d.body
  old_fits = body_fits W.functions sound.formed d.name d found

  pub old_counted : IsCounted d
  old_counted = record {
    distinct = formed.formals;
    arity = calls_take W.functions d.name (length d.formals) takes d.formals d.body old_fits;
    flat = formed.flat;
  }

  module _ (g : Name) (new : arity W.functions g ≡ None) where
    -- the new name is another, and none that is called
    pub apart : bytes_eq g d.name ≡ false
    apart = unknown W.functions g new d.name (length d.formals) takes

    pub two : bytes_eq d.name g ≡ false
    two = name_apart d.name g (λ e. let n : arity W.functions d.name ≡ None = ap (arity W.functions) e ∙ new in absurd (cc (n, takes)))

    pub not_if : bytes_eq g (codes "IF") ≡ false
    not_if = unknown W.functions g new (codes "IF") 3 (arity_primitive W.functions (codes "IF") _ is_if)

    pub lacks_body : mentions g d.body ≡ false
    lacks_body = lacks W.functions g new (IsIn d.formals) d.body old_fits

    module _ (r : Tm) (fit : FitsOver W.functions d.formals r) (u : Val) where
      pub lacks_restriction : mentions g r ≡ false
      lacks_restriction = lacks W.functions g new (IsIn d.formals) r fit

      -- the new function is recursive where the old one is
      pub new_mentions : mentions g (restricted d g r u).body ≡ mentions d.name d.body
      new_mentions =
          ap₂ (λ a b. a || (b || (mentions g (new_body d g) || false))) not_if lacks_restriction
          ∙ or_none (mentions g (new_body d g))
          ∙ mentions_renamed d.name g d.body lacks_body

      pub new_flat : is_nested g (restricted d g r u).body ≡ false
      new_flat =
          ap (λ b. (b && (mentions g r || (mentions g (new_body d g) || false))) || (is_nested g r || (is_nested g (new_body d g) || false))) not_if
          ∙ ap (λ b. b || (is_nested g (new_body d g) || false)) (no_nest g r lacks_restriction)
          ∙ or_none (is_nested g (new_body d g))
          ∙ nested_renamed d.name g d.body lacks_body
          ∙ formed.flat

      later : (h : Name) (k : ℕ) → arity W.functions h ≡ Some k → arity (with_def W.functions (restricted d g r u)) h ≡ Some k
      later = arity_later W.functions (restricted d g r u) new

      pub restriction_fits_later : FitsOver (with_def W.functions (restricted d g r u)) d.formals r
      restriction_fits_later = over_map (IsIn d.formals) (IsIn d.formals) _ _ (λ x i. i) later r fit

      -- the body with calls of the new function, in the world with it
      pub new_fits : FitsOver (with_def W.functions (restricted d g r u)) d.formals (new_body d g)
      new_fits =
          fits_renamed d.name g W.functions (with_def W.functions (restricted d g r u)) later
          (λ k a. own_arity W.functions (restricted d g r u) new ∙ sym takes ∙ a) d.formals d.body old_fits

      pub new_formed : IsWellFormed W.functions (restricted d g r u)
      new_formed = record {
        formals = formed.formals;
        body = (arity_primitive (with_def W.functions (restricted d g r u)) (codes "IF") _ is_if, (restriction_fits_later, (new_fits, (tt, tt))));
        measure = if_some_map (Over (IsIn d.formals) (λ h k. (arity W.functions h ≡ Some k) × (bytes_eq d.name h ≡ false))) (FitsOver W.functions d.formals) (λ t o. over_map (IsIn d.formals) (IsIn d.formals) _ _ (λ x i. i) (λ h k a. a.0) t o) d.measure formed.measure;
        measured = λ e. formed.measured (sym new_mentions ∙ e);
        flat = new_flat;
      }

      pub new_counted : IsCounted (restricted d g r u)
      new_counted = counted_definition W.functions (restricted d g r u) new new_formed

-- the functions that words of the syntax stand for are functions of the world
pub words : (W : World) → Sound W → HasWords (arity W.functions)
unfolding primitive primitives
words W sound = record {
  has_if = refl;
  has_equal = refl;
  has_not = arity_defined W.functions sound.formed (codes "NOT") not_def (has_basics W sound).has_not;
  has_less = refl;
  has_plus = refl;
  has_times = refl;
  has_minus = refl;
  has_cons = refl;
  has_car = refl;
  has_cdr = refl;
  has_append = arity_defined W.functions sound.formed (codes "BINARY-APPEND") binary_append_def (has_append W sound);
}

in_list : (xs : List Name) (x : Name) → is_in xs x ≡ true → IsIn xs x
in_list [] x e = absurd (cc)
in_list (y ∷ ys) x e = by_test (bytes_eq y x) e (in_list ys x)
  where
    by_test : (b : Bool) → (b || is_in ys x) ≡ true → (is_in ys x ≡ true → IsIn ys x) → cond b (Unit {0}) (IsIn ys x)
    by_test true e' ih = tt
    by_test false e' ih = ih e'

-- what is translated over formals is a term over them
pub translated_fits : (W : World) → Sound W → (ys : List Name) (form : _) (t : Tm) → translate (arity W.functions) (is_in ys) form ≡ Ok t → FitsOver W.functions ys t
translated_fits W sound ys form t e =
    over_map (λ x. is_in ys x ≡ true) (IsIn ys) (λ f k. arity W.functions f ≡ Some k) (λ f k. arity W.functions f ≡ Some k) (in_list ys) (λ f k a. a) t
    (translated_terms_fit (arity W.functions) (words W sound) (is_in ys) form t e).fits
