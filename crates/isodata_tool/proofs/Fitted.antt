-- Terms with the functions of isomorphisms are well formed.
use Rattle.std.proofs.Common.{◌≡◌, List, [], ◌∷◌, length, map, Option, Some, None, refl, sym, ap, ◌∙◌, subst}
use Rattle.lisp_data.specs.Values.{Name}
use Rattle.terms.specs.Definitions.{find}
use Rattle.terms.specs.Measures.{call1}
use Rattle.terms.specs.Sound.{Sound}
use Rattle.terms.specs.Terms.{Tm, Var, Quote, Call, Tms, Done, More, count, tms, OverAll, substitute, substitute_all}
use Rattle.terms.specs.Worlds.{World, Functions, arity, Fits, Each}
use Rattle.terms.specs.declared.definition.Definition.{Definition}
use Rattle.terms.specs.declared.entries.Iso.{Iso}
use Rattle.terms.proofs.Meaning.{arity_defined}
use Rattle.terms.proofs.Totality.{substitute-count}
use Rattle.worlds.specs.Lookups.{find_iso}
use Rattle.kernel.proofs.Inversions.{fits_decides}
use Rattle.reduction_proofs.proofs.Members.{Fit}
use Rattle.isodata_tool.specs.Carried.{Mapped, find_map, forth_by, all_forth}
use Rattle.isodata_tool.specs.Proofs.{round_trip}
use Rattle.isodata_tool.proofs.Isos.{takes_old, takes_new, takes_forth, takes_back}
use Rattle.isodata_tool.proofs.Substituted.{found_among}

abbrev pub FitAll : Functions → Tms → Type 0
FitAll F = OverAll (λ x. Unit {0}) (λ f k. arity F f ≡ Some k)

-- what fits under a substitution fits without it
module _ (W : World) (s : Name → Tm) where
  mutual
    pub fits_without : (t : Tm) → Fits W.functions (substitute s t) → Fits W.functions t
    fits_without (Var x) f = tt
    fits_without (Quote v) f = tt
    fits_without (Call h ts) f = (subst (λ k. arity W.functions h ≡ Some k) (substitute-count s ts) f.0, fit_all_without ts f.1)

    fit_all_without : (ts : Tms) → FitAll W.functions (substitute_all s ts) → FitAll W.functions ts
    fit_all_without Done f = tt
    fit_all_without (More t ts) f = (fits_without t f.0, fit_all_without ts f.1)

-- variables fit
pub variables_fit : (W : World) (xs : List Name) → FitAll W.functions (tms (map Var xs))
variables_fit W [] = tt
variables_fit W (x ∷ xs) = (tt, variables_fit W xs)

-- a call with an argument for each formal is well formed
pub call_fits : (W : World) → Sound W → (f : Name) (e : Definition) → find W.functions.defs f ≡ Some e → (ts : Tms) → FitAll W.functions ts → count ts ≡ length e.formals → Fit W (Call f ts)
call_fits W sound f e q ts h n = (fits_decides W.functions (Call f ts)).1 (arity_defined W.functions sound.formed f e q ∙ ap Some (sym n), h)

module _ (W : World) (sound : Sound W) (ms : List Mapped) (known : Each (λ (e : Mapped). find_iso W.isos e.iso.name ≡ Some e.iso) ms) where
  -- the isomorphism of a mapped formal is the world's
  pub known_at : (y : Name) (e : Mapped) → find_map ms y ≡ Some e → find_iso W.isos e.iso.name ≡ Some e.iso
  known_at y e f = found_among (λ (k : Mapped). find_iso W.isos k.iso.name ≡ Some k.iso) ms y e known f

  -- `(oldp t)`, `(newp t)`, `(forth t)` and `(back t)` are
  pub old_fits : (i : Iso) → find_iso W.isos i.name ≡ Some i → (t : Tm) → Fits W.functions t → Fits W.functions (call1 i.oldp t)
  old_fits i k t f = (takes_old W sound i k, (f, tt))

  pub new_fits : (i : Iso) → find_iso W.isos i.name ≡ Some i → (t : Tm) → Fits W.functions t → Fits W.functions (call1 i.newp t)
  new_fits i k t f = (takes_new W sound i k, (f, tt))

  pub forth_fits : (i : Iso) → find_iso W.isos i.name ≡ Some i → (t : Tm) → Fits W.functions t → Fits W.functions (call1 i.forth t)
  forth_fits i k t f = (takes_forth W sound i k, (f, tt))

  pub back_fits : (i : Iso) → find_iso W.isos i.name ≡ Some i → (t : Tm) → Fits W.functions t → Fits W.functions (call1 i.back t)
  back_fits i k t f = (takes_back W sound i k, (f, tt))

  -- round trips are
  pub round_fits : (y : Name) (t : Tm) → Fits W.functions t → Fits W.functions (round_trip (find_map ms y) t)
  round_fits y t f = by_map (find_map ms y) refl
    where
      by_map : (o : Option Mapped) → find_map ms y ≡ o → Fits W.functions (round_trip o t)
      by_map None q = f
      by_map (Some e) q = back_fits e.iso (known_at y e q) (call1 e.iso.forth t) (forth_fits e.iso (known_at y e q) t f)

  -- arguments on the new representation are
  pub all_forth_fit : (xs : List Name) (ts : Tms) → FitAll W.functions ts → FitAll W.functions (all_forth ms xs ts)
  all_forth_fit [] ts f = f
  all_forth_fit (x ∷ xs) Done f = tt
  all_forth_fit (x ∷ xs) (More t ts) f = (by_map (find_map ms x) refl, all_forth_fit xs ts f.1)
    where
      by_map : (o : Option Mapped) → find_map ms x ≡ o → Fits W.functions (forth_by o t)
      by_map None q = f.0
      by_map (Some e) q = forth_fits e.iso (known_at x e q) t f.0
