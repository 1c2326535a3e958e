-- The derived rules prove what they say.
use Rattle.std.proofs.Common.{◌≡◌, List, [], ◌∷◌, ◌++◌, Some, refl}
use Rattle.terms.specs.BuiltIn.{yes, no}
use Rattle.terms.specs.Formed.{HasBasics}
use Rattle.terms.specs.Sound.{Sound}
use Rattle.terms.specs.Terms.{Tm}
use Rattle.terms.specs.Worlds.{World, Fits, Each}
use Rattle.terms.proofs.Later.{has_basics}
use Rattle.terms.proofs.Lists.{each_join}
use Rattle.kernel.specs.Axioms.{axiom_at, on_truth}
use Rattle.kernel.specs.Sequents.{equation, conditional}
use Rattle.kernel.proofs.Inversions.{fits_decides}
use Rattle.kernel.proofs.Soundness.{conclusions_fit}
use Rattle.hints.specs.Start.{conjunction, conjunction_from}
use Rattle.reduction_proofs.specs.Derived.{turned, first_part, second_part}
use Rattle.reduction_proofs.specs.Proving.{Within, Proves}
use Rattle.reduction_proofs.specs.Start.{cut_conjunction}
use Rattle.reduction_proofs.specs.Trees.{Proof, Hyp, IfTrue, Cut}
use Rattle.reduction_proofs.proofs.Deduction.{wider, by_hyp, by_replace, by_cut, by_if_true, by_an_axiom}
use Rattle.reduction_proofs.proofs.Induction.{fits_both, by_first, by_second, by_cut_parts}
use Rattle.reduction_proofs.proofs.Members.{Fit, each_fit, within_first, each_self, each_more, each_left, each_right}
use Rattle.reduction_proofs.proofs.Shortcuts.{by_turned, by_forth, by_back, by_from_nil}
use Rattle.proof_builders.specs.Derived.{chained, both, first_of_both, second_of_both, gathered, gathered_from, scattered}
use Rattle.proof_builders.specs.Laws.{SymmetryProves, TransitivityProves, EqualOutProves, ExFalsoProves, AndInProves, AndOutProves, AndInAllProves, CutAllProves}

t_is_true : axiom_at 1 ≡ Some yes
unfolding axiom_at on_truth
t_is_true = refl

pub by_chained : (W : World) (us hs : List Tm) (a b c : Tm) (P Q : Proof) → Proves W us hs (equation a b) P → Proves W us hs (equation b c) Q → Proves W us hs (equation a c) (chained P Q)
by_chained W us hs a b c P Q p q = by_replace W us hs b c (equation a b) (equation a c) Q P (2 ∷ []) refl refl q p

module _ (W : World) (sound : Sound W) (us : List Tm) where
  basics : HasBasics W.functions
  basics = has_basics W sound

  -- what is proved is well formed
  pub goal_fits : (hs : List Tm) (g : Tm) (P : Proof) → Proves W us hs g P → Fits W.functions g
  goal_fits hs g P p = (conclusions_fit W sound P _ p.concluded).goal

  is_fit : (t : Tm) → Fits W.functions t → Fit W t
  is_fit t f = (fits_decides W.functions t).1 f

  by_symmetry : (hs : List Tm) (a b : Tm) (P : Proof) → Proves W us hs (equation a b) P → Proves W us hs (equation b a) (turned P a)
  by_symmetry hs a b P p = by_turned W us basics hs a b P (is_fit a (goal_fits hs (equation a b) P p).1.0) p

  pub by_both : (hs : List Tm) (a b : Tm) (P Q : Proof) → Proves W us hs a P → Proves W us hs b Q → Proves W us hs (conditional a b no) (both a b P Q)
  by_both hs a b P Q p q =
      let fa : Fit W a = is_fit a (goal_fits hs a P p) in
      let fb : Fit W b = is_fit b (goal_fits hs b Q q) in
      by_back W us basics hs (conditional a b no) b (IfTrue P b no) Q (fits_both W us basics a b fa fb)
      (by_if_true W us hs a b no P fb refl p) q

  module _ (hs : List Tm) (a b : Tm) (P : Proof) (p : Proves W us hs (conditional a b no) P) where
    first_fit : Fit W a
    first_fit = is_fit a (goal_fits hs (conditional a b no) P p).1.0

    second_fit : Fit W b
    second_fit = is_fit b (goal_fits hs (conditional a b no) P p).1.1.0

    by_the_first : Proves W us (conditional a b no ∷ hs) a (first_part a b)
    by_the_first = by_first W us basics (conditional a b no ∷ hs) a b first_fit second_fit (within_first (conditional a b no) hs)

    pub by_first_of_both : Proves W us hs a (first_of_both a b P)
    by_first_of_both = by_cut W us hs (conditional a b no) a P (first_part a b) p by_the_first

    pub by_second_of_both : Proves W us hs b (second_of_both a b P)
    by_second_of_both =
        by_cut W us hs (conditional a b no) b P (Cut (first_part a b) (second_part a b)) p
        (by_cut W us (conditional a b no ∷ hs) a b (first_part a b) (second_part a b) by_the_first
        (by_second W us basics (conditional a b no ∷ hs) a b first_fit second_fit (within_first (conditional a b no) hs)))

  by_gathered_from : (hs : List Tm) (t : Tm) (ts : List Tm) → Fit W t → Each (Fit W) ts → Within hs t → Each (Within hs) ts → Proves W us hs (conjunction_from t ts) (gathered_from t ts)
  by_gathered_from hs t [] f fs w ws = by_hyp W us hs t f w
  by_gathered_from hs t (u ∷ ts) f fs w ws =
      by_both hs t (conjunction_from u ts) (Hyp t) (gathered_from u ts) (by_hyp W us hs t f w) (by_gathered_from hs u ts fs.0 fs.1 ws.0 ws.1)

  pub by_gathered : (hs ts : List Tm) → Each (Fit W) ts → Each (Within hs) ts → Proves W us hs (conjunction ts) (gathered ts)
  by_gathered hs [] fs ws = by_an_axiom W us hs 1 [] yes t_is_true refl
  by_gathered hs (t ∷ ts) fs ws = by_gathered_from hs t ts fs.0 fs.1 ws.0 ws.1

  -- the terms of a conjunction that is well formed are
  terms_fit : (t : Tm) (ts : List Tm) → Fits W.functions (conjunction_from t ts) → Fit W t × Each (Fit W) ts
  terms_fit t [] f = (is_fit t f, tt)
  terms_fit t (u ∷ ts) f = (is_fit t f.1.0, terms_fit u ts f.1.1.0)

  -- the hypotheses and the terms lie within the terms, the conjunction and the hypotheses
  among : (c t : Tm) (hs ts : List Tm) → Each (Within (t ∷ (ts ++ (c ∷ hs)))) (hs ++ (t ∷ ts))
  among c t hs ts =
      let rest : List Tm = ts ++ (c ∷ hs) in
      each_join (Within (t ∷ rest)) hs (t ∷ ts) (each_more t rest hs (each_right ts (c ∷ hs)).1) (within_first t rest, each_more t rest ts (each_left ts (c ∷ hs)))

  pub by_scattered : (hs ts : List Tm) (g : Tm) (P Q : Proof) → Proves W us hs (conjunction ts) P → Proves W us (hs ++ ts) g Q → Proves W us hs g (scattered ts P Q)
  by_scattered hs [] g P Q p q =
      by_cut W us hs yes g P Q p (wider W us (hs ++ []) (yes ∷ hs) g Q (each_join (Within (yes ∷ hs)) hs [] (each_more yes hs hs (each_self hs)) tt) q)
  by_scattered hs (t ∷ ts) g P Q p q =
      let c : Tm = conjunction_from t ts in
      let f = terms_fit t ts (goal_fits hs c P p) in
      by_cut W us hs c g P (cut_conjunction (t ∷ ts) Q) p
      (by_cut_parts W us basics (c ∷ hs) t ts g Q f.0 f.1 (within_first c hs) (wider W us (hs ++ (t ∷ ts)) (t ∷ (ts ++ (c ∷ hs))) g Q (among c t hs ts) q))

pub symmetry_proves : SymmetryProves
symmetry_proves W sound us hs P a b p = by_symmetry W sound us hs a b P p

pub transitivity_proves : TransitivityProves
transitivity_proves W us hs P Q a b c p q = by_chained W us hs a b c P Q p q

pub equal_out_proves : EqualOutProves
equal_out_proves W sound us hs P Q a b p q = by_forth W us (has_basics W sound) hs a b P Q p q

pub ex_falso_proves : ExFalsoProves
ex_falso_proves W sound us hs P g f p = by_from_nil W us (has_basics W sound) hs g P ((fits_decides W.functions g).1 f) p

pub and_in_proves : AndInProves
and_in_proves W sound us hs P Q a b p q = by_both W sound us hs a b P Q p q

pub and_out_proves : AndOutProves
and_out_proves W sound us hs P a b p = (by_first_of_both W sound us hs a b P p, by_second_of_both W sound us hs a b P p)

pub and_in_all_proves : AndInAllProves
and_in_all_proves W sound ts f = by_gathered W sound [] ts ts (each_fit W ts f) (each_self ts)

pub cut_all_proves : CutAllProves
cut_all_proves W sound us hs ts P Q g p q = by_scattered W sound us hs ts g P Q p q
