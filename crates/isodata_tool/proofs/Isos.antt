-- What the conditions of an isomorphism prove of a term, and proofs that are cut one after the other.
use Rattle.std.proofs.Common.{◌≡◌, ℕ, true, List, [], ◌∷◌, ◌++◌, map, codes, Some, refl}
use Rattle.lisp_data.specs.Values.{Name}
use Rattle.terms.specs.Joins.{join}
use Rattle.terms.specs.Links.{IsFirstOrder}
use Rattle.terms.specs.Measures.{call1}
use Rattle.terms.specs.Sound.{Sound, iso_conditions, over_x}
use Rattle.terms.specs.Substitution.{Pairs, by_pairs}
use Rattle.terms.specs.Terms.{Tm, substitute}
use Rattle.terms.specs.Worlds.{World, Each, arity}
use Rattle.terms.specs.declared.entries.Iso.{Iso}
use Rattle.terms.proofs.Lists.{each_of_map, each_to, each_join, join_to}
use Rattle.worlds.specs.Lookups.{find_iso}
use Rattle.worlds.proofs.Growth.{found_first_order}
use Rattle.kernel.specs.Facts.{item}
use Rattle.kernel.specs.Fitting.{pairs_fit}
use Rattle.kernel.specs.Sequents.{equation}
use Rattle.kernel.proofs.Joins.{map_to}
use Rattle.reduction_proofs.specs.Proving.{Within, Proves}
use Rattle.reduction_proofs.specs.Trees.{Proof, Substitute}
use Rattle.reduction_proofs.proofs.Deduction.{wider, by_cut}
use Rattle.reduction_proofs.proofs.Members.{Fit, has_in, within_first, each_self, each_more, each_left, each_right}
use Rattle.isodata_tool.specs.Proofs.{by_iso, cut_each}

module _ (W : World) (sound : Sound W) (i : Iso) (known : find_iso W.isos i.name ≡ Some i) where
  first_order : IsFirstOrder W i
  first_order = found_first_order W sound i.name i known

  -- each function of an isomorphism takes one argument
  pub takes_old : arity W.functions i.oldp ≡ Some 1
  takes_old = first_order.0.0

  pub takes_new : arity W.functions i.newp ≡ Some 1
  takes_new = first_order.1.0.0

  pub takes_forth : arity W.functions i.forth ≡ Some 1
  takes_forth = first_order.1.1.0.0

  pub takes_back : arity W.functions i.back ≡ Some 1
  takes_back = first_order.1.1.1.0.0

  -- a condition of the isomorphism, with a term for its variable
  by_condition : (us hs : List Tm) (k : ℕ) (hyp : Name) (goal t : Tm) → item (iso_conditions i) k ≡ Some (over_x hyp goal) → Fit W t → Within hs (call1 hyp t) →
      Proves W us hs (substitute (by_pairs ((codes "X", t) ∷ [])) goal) (by_iso i.name k t)
  by_condition us hs k hyp goal t is f w = record {
    universals = [];
    hyps = call1 hyp t ∷ [];
    concluded = rw known (rw is (rw f refl));
    universals_in = tt;
    hyps_in = (w, tt);
  }

  pub image_proves : (us hs : List Tm) (t : Tm) → Fit W t → Within hs (call1 i.oldp t) → Proves W us hs (call1 i.newp (call1 i.forth t)) (by_iso i.name 1 t)
  image_proves us hs t f w = by_condition us hs 1 i.oldp _ t refl f w

  pub image_back_proves : (us hs : List Tm) (t : Tm) → Fit W t → Within hs (call1 i.newp t) → Proves W us hs (call1 i.oldp (call1 i.back t)) (by_iso i.name 2 t)
  image_back_proves us hs t f w = by_condition us hs 2 i.newp _ t refl f w

  pub undone_proves : (us hs : List Tm) (t : Tm) → Fit W t → Within hs (call1 i.oldp t) → Proves W us hs (equation (call1 i.back (call1 i.forth t)) t) (by_iso i.name 3 t)
  undone_proves us hs t f w = by_condition us hs 3 i.oldp _ t refl f w

  pub redone_proves : (us hs : List Tm) (t : Tm) → Fit W t → Within hs (call1 i.newp t) → Proves W us hs (equation (call1 i.forth (call1 i.back t)) t) (by_iso i.name 4 t)
  redone_proves us hs t f w = by_condition us hs 4 i.newp _ t refl f w

-- the proofs prove the terms in order, as many
abbrev pub EachProves : World → List Tm → List Tm → List Tm → List Proof → Type 0
EachProves W us hs [] [] = Unit {0}
EachProves W us hs [] (P ∷ ps) = ⊥
EachProves W us hs (t ∷ ts) [] = ⊥
EachProves W us hs (t ∷ ts) (P ∷ ps) = Proves W us hs t P × EachProves W us hs ts ps

module _ (W : World) (us : List Tm) where
  -- more hypotheses
  pub each_wider : (hs hs' ts : List Tm) (ps : List Proof) → Each (Within hs') hs → EachProves W us hs ts ps → EachProves W us hs' ts ps
  each_wider hs hs' [] [] sub h = tt
  each_wider hs hs' [] (P ∷ ps) sub h = absurd h
  each_wider hs hs' (t ∷ ts) [] sub h = absurd h
  each_wider hs hs' (t ∷ ts) (P ∷ ps) sub h = (wider W us hs hs' t P sub h.0, each_wider hs hs' ts ps sub h.1)

  -- a hypothesis moves in front of the others
  moved : (t : Tm) (hs ts : List Tm) → Each (Within (t ∷ (hs ++ ts))) (hs ++ (t ∷ ts))
  moved t hs ts =
      each_join (Within (t ∷ (hs ++ ts))) hs (t ∷ ts) (each_more t (hs ++ ts) hs (each_left hs ts))
      (within_first t (hs ++ ts), each_more t (hs ++ ts) ts (each_right hs ts))

  -- hypotheses that are proved are cut
  pub cut_each_proves : (hs ts : List Tm) (ps : List Proof) (g : Tm) (Q : Proof) → EachProves W us hs ts ps → Proves W us (hs ++ ts) g Q → Proves W us hs g (cut_each ps Q)
  cut_each_proves hs [] [] g Q h q = wider W us (hs ++ []) hs g Q (each_join (Within hs) hs [] (each_self hs) tt) q
  cut_each_proves hs [] (P ∷ ps) g Q h q = absurd h
  cut_each_proves hs (t ∷ ts) [] g Q h q = absurd h
  cut_each_proves hs (t ∷ ts) (P ∷ ps) g Q h q =
      by_cut W us hs t g P (cut_each ps Q) h.0
      (cut_each_proves (t ∷ hs) ts ps g Q (each_wider hs (t ∷ hs) ts ps (each_more t hs hs (each_self hs)) h.1)
      (wider W us (hs ++ (t ∷ ts)) (t ∷ (hs ++ ts)) g Q (moved t hs ts) q))

pub by_cut_each : (W : World) (us hs ts : List Tm) (ps : List Proof) (g : Tm) (Q : Proof) → EachProves W us hs ts ps → Proves W us (hs ++ ts) g Q → Proves W us hs g (cut_each ps Q)
by_cut_each W us hs ts ps g Q h q = cut_each_proves W us hs ts ps g Q h q

-- what lies within a list does so after a mapping of both
pub within_map : (f : Tm → Tm) (hs : List Tm) (t : Tm) → Within hs t → Within (map f hs) (f t)
within_map f hs t w = has_in (λ h. Within (map f hs) (f h)) hs t w (each_of_map (Within (map f hs)) f hs (each_self (map f hs)))

-- terms for the variables, in the hypotheses and in the goal
pub by_substitute : (W : World) (hs : List Tm) (g : Tm) (s : Pairs) (P : Proof) → Proves W [] hs g P → pairs_fit W.functions s ≡ true → Proves W [] (map (substitute (by_pairs s)) hs) (substitute (by_pairs s) g) (Substitute P s)
by_substitute W hs g s P p f =
    let put : Tm → Tm = substitute (by_pairs s) in
    record {
      universals = p.universals;
      hyps = join [] (map (substitute (by_pairs s)) p.hyps);
      concluded = rw p.concluded (rw f refl);
      universals_in = p.universals_in;
      hyps_in = join_to (Within (map put hs)) [] (map put p.hyps) tt
          (map_to (Within (map put hs)) put p.hyps (each_to (Within hs) (λ h. Within (map put hs) (put h)) (within_map put hs) p.hyps p.hyps_in));
    }
