-- A term with round trips for its variables equals the term without.
use Rattle.std.proofs.Common.{◌≡◌, List, Option, Some, None, refl, subst}
use Rattle.lisp_data.specs.Values.{Name}
use Rattle.terms.specs.Measures.{call1}
use Rattle.terms.specs.Sound.{Sound}
use Rattle.terms.specs.Terms.{Tm, Var, Quote, Call, Tms, Done, More, substitute, substitute_all}
use Rattle.terms.specs.Worlds.{World, arity, Fits, Each}
use Rattle.terms.proofs.Lists.{each_of_map}
use Rattle.terms.proofs.Totality.{over_substitute}
use Rattle.kernel.specs.Sequents.{equation}
use Rattle.kernel.proofs.Inversions.{fits_decides}
use Rattle.reduction_proofs.specs.Proving.{Within, Proves}
use Rattle.reduction_proofs.specs.Trees.{Refl}
use Rattle.reduction_proofs.proofs.Deduction.{by_refl}
use Rattle.reduction_proofs.proofs.Members.{Fit}
use Rattle.isodata_tool.specs.Carried.{Mapped, AreMapped, find_map, all_in_old}
use Rattle.isodata_tool.specs.Proofs.{round_trip, there_and_back, undone, undone_in, all_undone_in}
use Rattle.isodata_tool.proofs.Fitted.{FitAll, known_at, round_fits}
use Rattle.isodata_tool.proofs.Isos.{undone_proves}
use Rattle.isodata_tool.proofs.Replaced.{EachEqual, by_each_replaced}
use Rattle.isodata_tool.proofs.Substituted.{found_formal, found_among}

module _ (W : World) (sound : Sound W) (xs : List Name) (ms : List Mapped) (are : AreMapped W xs ms) (us hs : List Tm) (s : Name → Tm) (fit : (y : Name) → Fit W (s y)) (olds : Each (Within hs) (all_in_old ms s)) where
  -- a round trip ends where it began
  at_variable : (y : Name) (o : Option Mapped) → find_map ms y ≡ o → Proves W us hs (equation (round_trip o (s y)) (s y)) (undone o (s y))
  at_variable y None q = by_refl W us hs (s y) (fit y)
  at_variable y (Some e) q =
      undone_proves W sound e.iso (known_at W sound ms are.known y e q) us hs (s y) (fit y)
      (subst (λ z. Within hs (call1 e.iso.oldp (s z))) (found_formal ms y e q)
      (found_among (λ (k : Mapped). Within hs (call1 k.iso.oldp (s k.formal))) ms y e (each_of_map (Within hs) (λ (k : Mapped). call1 k.iso.oldp (s k.formal)) ms olds) q))

  trips_fit : (y : Name) → Unit {0} → Fits W.functions (there_and_back ms s y)
  trips_fit y u = round_fits W sound ms are.known y (s y) ((fits_decides W.functions (s y)).0 (fit y))

  mutual
    in_term : (t : Tm) → Fits W.functions t → Proves W us hs (equation (substitute (there_and_back ms s) t) (substitute s t)) (undone_in ms s t)
    in_term (Var x) f = at_variable x (find_map ms x) refl
    in_term (Quote v) f = by_refl W us hs (Quote v) refl
    in_term (Call h ts) f =
        let a : Tm = Call h (substitute_all (there_and_back ms s) ts) in
        by_each_replaced W us hs a h (substitute_all (there_and_back ms s) ts) (substitute_all s ts) (all_undone_in ms s ts) (Refl a) (in_all ts f.1)
        (by_refl W us hs a ((fits_decides W.functions a).1 (over_substitute (λ x. Unit {0}) (λ x. Unit {0}) (λ g k. arity W.functions g ≡ Some k) (there_and_back ms s) trips_fit (Call h ts) f)))

    in_all : (ts : Tms) → FitAll W.functions ts → EachEqual W us hs (substitute_all (there_and_back ms s) ts) (substitute_all s ts) (all_undone_in ms s ts)
    in_all Done f = tt
    in_all (More t ts) f = (in_term t f.0, in_all ts f.1)

pub undone_in_proves : (W : World) → Sound W → (xs : List Name) (ms : List Mapped) → AreMapped W xs ms → (us hs : List Tm) (s : Name → Tm) → ((y : Name) → Fit W (s y)) → Each (Within hs) (all_in_old ms s) → (t : Tm) → Fits W.functions t →
    Proves W us hs (equation (substitute (there_and_back ms s) t) (substitute s t)) (undone_in ms s t)
undone_in_proves W sound xs ms are us hs s fit olds t f = in_term W sound xs ms are us hs s fit olds t f
