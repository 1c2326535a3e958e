-- What a link says stays so as a world grows.
use Rattle.std.proofs.Common.{◌≡◌, ℕ, List, [], ◌∷◌, Option, Some, None, IfSome, ◌∙◌}
use Rattle.lisp_data.specs.Values.{Name}
use Rattle.terms.specs.Primitives.{lookup}
use Rattle.terms.specs.Terms.{Tm}
use Rattle.terms.specs.Definitions.{find}
use Rattle.terms.specs.Worlds.{World, Each, IsIn}
use Rattle.terms.specs.Formed.{AllFormed}
use Rattle.terms.specs.Later.{IsLater, Stays}
use Rattle.terms.specs.Links.{at_variables, IsIndependent, IsFirstOrder, IndependentOver, IsRewriting, RewritesDefined, IsLinked}
use Rattle.terms.specs.declared.definition.Definition.{Definition}
use Rattle.terms.specs.declared.entries.Iso.{Iso}
use Rattle.terms.specs.declared.entries.Link.{Link}
use Rattle.terms.specs.declared.entries.Link.TheVariants.{Schema, Solution, Restriction, Isomorphism, TailRecursion}
use Rattle.terms.proofs.Extend.{over_map}
use Rattle.terms.proofs.Meaning.{arity_defined}
use Rattle.terms.proofs.Lists.{each_to}
use Rattle.terms.proofs.NamesStay.{NamesApart, names_stay}

module _ (W V : World) (formed : AllFormed W.functions.vars W.functions.defs) (stay : Stays W V) where
  independent_later : (f : Name) (k : ℕ) → IsIndependent W f k → IsIndependent V f k
  independent_later f k a = (stay.arities f k a.0, stay.dependences f k a.0 ∙ a.1)

  first_order_later : (i : Iso) → IsFirstOrder W i → IsFirstOrder V i
  first_order_later i h = each_to (λ f. IsIndependent W f 1) (λ f. IsIndependent V f 1) (λ f a. independent_later f 1 a) (i.oldp ∷ i.newp ∷ i.forth ∷ i.back ∷ []) h

  over_later : (xs : List Name) (t : Tm) → IndependentOver W xs t → IndependentOver V xs t
  over_later xs t o = over_map (IsIn xs) (IsIn xs) (IsIndependent W) (IsIndependent V) (λ y p. p) independent_later t o

  condition_later : (xs : List Name) (c : Option Tm) → IfSome c (IndependentOver W xs) → IfSome c (IndependentOver V xs)
  condition_later xs None h = tt
  condition_later xs (Some c) h = over_later xs c h

  rewriting_later : (n old : Name) (xs : List Name) (c : Option Tm) (new : Tm) → IsRewriting W n old xs c new → IsRewriting V n old xs c new
  rewriting_later n old xs c new h = record {
    stated = stay.theorems_stay n _ h.stated;
    distinct = h.distinct;
    old_term = over_later xs (at_variables old xs) h.old_term;
    condition_term = condition_later xs c h.condition_term;
    new_term = over_later xs new h.new_term;
  }

  defined_later : (n old : Name) (c : List Name → Option Tm) (new : List Name → Tm) → RewritesDefined W n old c new → RewritesDefined V n old c new
  defined_later n old c new h =
      let d : Definition = h.0 in
      (d, stay.found old _ (arity_defined W.functions formed old d h.1) ∙ h.1, rewriting_later n old d.formals (c d.formals) (new d.formals) h.2)

  linked_later : (n : Name) (l : Link) → IsLinked W n l → IsLinked V n l
  linked_later n (Schema _ _ _ _ _) h = tt
  linked_later n (Solution _ _ _) h = tt
  linked_later n (Restriction old new formals condition) h = rewriting_later n old formals _ _ h
  linked_later n (Isomorphism old new maps) h = defined_later n old _ _ h
  linked_later n (TailRecursion old wrapper) h = defined_later n old _ _ h

-- in a later world, where no name is given twice in either
module _ (W V : World) (before : NamesApart W) (formed : AllFormed W.functions.vars W.functions.defs) (apart : NamesApart V) (later : IsLater W V) where
  pub link_stays : (n : Name) (l : Link) → IsLinked W n l → IsLinked V n l
  link_stays = linked_later W V formed (names_stay W V before apart later formed)

  pub links_stay : Each (λ e. IsLinked W e.0 e.1) W.links → Each (λ e. IsLinked V e.0 e.1) W.links
  links_stay = each_to (λ e. IsLinked W e.0 e.1) (λ e. IsLinked V e.0 e.1) (λ e h. link_stays e.0 e.1 h) W.links

  pub iso_stays : (i : Iso) → IsFirstOrder W i → IsFirstOrder V i
  iso_stays = first_order_later W V formed (names_stay W V before apart later formed)

  pub isos_stay : Each (IsFirstOrder W) W.isos → Each (IsFirstOrder V) W.isos
  isos_stay = each_to (IsFirstOrder W) (IsFirstOrder V) iso_stays W.isos
