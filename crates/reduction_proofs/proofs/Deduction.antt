-- The rules, as they serve under hypotheses.
use Rattle.std.proofs.Common.{◌≡◌, ◌&&◌, ℕ, true, List, [], ◌∷◌, map, Some, None, if◌then◌else◌, refl, ap, ◌∙◌, subst}
use Rattle.std.specs.Option.{option_map}
use Rattle.std.proofs.lemmas.Bool.{and_parts}
use Rattle.lisp_data.specs.Values.{Name, Val}
use Rattle.terms.specs.Terms.{Tm, Quote, Call, Tms, same_tm, substitute, by_args}
use Rattle.terms.specs.Definitions.{find}
use Rattle.terms.specs.Joins.{join}
use Rattle.terms.specs.Paths.{part_at, put_part}
use Rattle.terms.specs.Substitution.{Pairs, by_pairs}
use Rattle.terms.specs.Worlds.{World, Each}
use Rattle.terms.specs.declared.definition.Definition.{Definition}
use Rattle.terms.specs.declared.sequent.Sequent.{Sequent}
use Rattle.terms.proofs.Lists.{join_to}
use Rattle.terms.proofs.Same.{same_term, term_self}
use Rattle.evaluator.specs.Counted.{evaluated}
use Rattle.kernel.specs.Axioms.{axiom_at}
use Rattle.kernel.specs.Concludes.{concludes}
use Rattle.kernel.specs.Equations.{body_at, called}
use Rattle.kernel.specs.Evaluating.{is_ground, value_of}
use Rattle.kernel.specs.Fitting.{fits, pairs_fit}
use Rattle.kernel.specs.Ring.{are_same}
use Rattle.kernel.specs.Sequents.{equation, negation, implication, conditional, of_goal}
use Rattle.kernel.proofs.Joins.{map_to}
use Rattle.plans.specs.Proving.{are_among, proves}
use Rattle.reduction.specs.Hyps.{without}
use Rattle.reduction_proofs.specs.Proving.{Within, Proves, ProvesCondition}
use Rattle.reduction_proofs.specs.Trees.{Proof, Hyp, Refl, Replace, Unfold, Eval, Substitute, IfTrue, IfFalse, Cases, Cut, Contradict, Axiom, Ring, ImpliesIn, ImpliesOut}
use Rattle.reduction_proofs.proofs.Members.{each_within, without_within, are_among_within, within_among}

nothing_within : (hs : List Tm) (P : Tm → Type 0) → Each (Within []) hs → Each P hs
nothing_within [] P e = tt
nothing_within (h ∷ hs) P e = absurd (cc)

module _ (W : World) (us : List Tm) where
  -- more hypotheses
  pub wider : (hs hs' : List Tm) (g : Tm) (P : Proof) → Each (Within hs') hs → Proves W us hs g P → Proves W us hs' g P
  wider hs hs' g P sub p = record {
    universals = p.universals;
    hyps = p.hyps;
    concluded = p.concluded;
    universals_in = p.universals_in;
    hyps_in = each_within hs hs' p.hyps sub p.hyps_in;
  }

  pub by_hyp : (hs : List Tm) (p : Tm) → fits W.functions p ≡ true → Within hs p → Proves W us hs p (Hyp p)
  by_hyp hs p f h = record { universals = []; hyps = p ∷ []; concluded = rw f refl; universals_in = tt; hyps_in = (h, tt) }

  pub by_refl : (hs : List Tm) (a : Tm) → fits W.functions a ≡ true → Proves W us hs (equation a a) (Refl a)
  by_refl hs a f = record { universals = []; hyps = []; concluded = rw f refl; universals_in = tt; hyps_in = tt }

  pub by_replace : (hs : List Tm) (a b g g' : Tm) (P Q : Proof) (path : List ℕ) → part_at path g ≡ Some a → put_part path b g ≡ Some g' → Proves W us hs (equation a b) P → Proves W us hs g Q → Proves W us hs g' (Replace P Q path)
  by_replace hs a b g g' P Q path e is p q = record {
    universals = join p.universals q.universals;
    hyps = join p.hyps q.hyps;
    concluded = rw p.concluded (rw q.concluded (rw e (rw (term_self a) (rw is refl))));
    universals_in = join_to (Within us) p.universals q.universals p.universals_in q.universals_in;
    hyps_in = join_to (Within hs) p.hyps q.hyps p.hyps_in q.hyps_in;
  }

  pub by_cut : (hs : List Tm) (p g : Tm) (P Q : Proof) → Proves W us hs p P → Proves W us (p ∷ hs) g Q → Proves W us hs g (Cut P Q)
  by_cut hs h g P Q p q = record {
    universals = join p.universals q.universals;
    hyps = join p.hyps (without q.hyps h);
    concluded = rw p.concluded (rw q.concluded refl);
    universals_in = join_to (Within us) p.universals q.universals p.universals_in q.universals_in;
    hyps_in = join_to (Within hs) p.hyps (without q.hyps h) p.hyps_in (without_within hs h q.hyps q.hyps_in);
  }

  pub by_case : (hs : List Tm) (c g : Tm) (P Q : Proof) → fits W.functions c ≡ true → Proves W us (c ∷ hs) g P → Proves W us (negation c ∷ hs) g Q → Proves W us hs g (Cases c P Q)
  by_case hs c g P Q f p q = record {
    universals = join p.universals q.universals;
    hyps = join (without p.hyps c) (without q.hyps (negation c));
    concluded = rw p.concluded (rw q.concluded (rw f (rw (term_self g) refl)));
    universals_in = join_to (Within us) p.universals q.universals p.universals_in q.universals_in;
    hyps_in = join_to (Within hs) (without p.hyps c) (without q.hyps (negation c)) (without_within hs c p.hyps p.hyps_in) (without_within hs (negation c) q.hyps q.hyps_in);
  }

  pub by_contradiction : (hs : List Tm) (p g : Tm) (P Q : Proof) → fits W.functions g ≡ true → Proves W us hs p P → Proves W us hs (negation p) Q → Proves W us hs g (Contradict P Q g)
  by_contradiction hs h g P Q f p q = record {
    universals = join p.universals q.universals;
    hyps = join p.hyps q.hyps;
    concluded = rw p.concluded (rw q.concluded (rw (term_self h) (rw f refl)));
    universals_in = join_to (Within us) p.universals q.universals p.universals_in q.universals_in;
    hyps_in = join_to (Within hs) p.hyps q.hyps p.hyps_in q.hyps_in;
  }

  pub by_implies_in : (hs : List Tm) (a g : Tm) (P : Proof) → fits W.functions a ≡ true → Proves W us (a ∷ hs) g P → Proves W us hs (implication a g) (ImpliesIn a P)
  by_implies_in hs a g P f p = record {
    universals = p.universals;
    hyps = without p.hyps a;
    concluded = rw p.concluded (rw f refl);
    universals_in = p.universals_in;
    hyps_in = without_within hs a p.hyps p.hyps_in;
  }

  pub by_implies_out : (hs : List Tm) (a g : Tm) (P Q : Proof) → Proves W us hs (implication a g) P → Proves W us hs a Q → Proves W us hs g (ImpliesOut P Q)
  by_implies_out hs a g P Q p q = record {
    universals = join p.universals q.universals;
    hyps = join p.hyps q.hyps;
    concluded = rw p.concluded (rw q.concluded (rw (term_self a) refl));
    universals_in = join_to (Within us) p.universals q.universals p.universals_in q.universals_in;
    hyps_in = join_to (Within hs) p.hyps q.hyps p.hyps_in q.hyps_in;
  }

  pub by_if_true : (hs : List Tm) (a b c : Tm) (P : Proof) → fits W.functions b ≡ true → fits W.functions c ≡ true → Proves W us hs a P → Proves W us hs (equation (conditional a b c) b) (IfTrue P b c)
  by_if_true hs a b c P f g p = record {
    universals = p.universals;
    hyps = p.hyps;
    concluded = rw p.concluded (rw f (rw g refl));
    universals_in = p.universals_in;
    hyps_in = p.hyps_in;
  }

  pub by_if_false : (hs : List Tm) (a b c : Tm) (P : Proof) → fits W.functions b ≡ true → fits W.functions c ≡ true → Proves W us hs (negation a) P → Proves W us hs (equation (conditional a b c) c) (IfFalse P b c)
  by_if_false hs a b c P f g p = record {
    universals = p.universals;
    hyps = p.hyps;
    concluded = rw p.concluded (rw f (rw g refl));
    universals_in = p.universals_in;
    hyps_in = p.hyps_in;
  }

  pub by_unfold : (hs : List Tm) (f : Name) (ts : Tms) (d : Definition) → find W.functions.defs f ≡ Some d → fits W.functions (Call f ts) ≡ true → Proves W us hs (equation (Call f ts) (substitute (by_args d.formals ts) d.body)) (Unfold (Call f ts))
  by_unfold hs f ts d e ok = record {
    universals = [];
    hyps = [];
    concluded = ap (λ b. if b then option_map (λ (c : Definition × Tms). of_goal (equation (Call f ts) (body_at c.0 c.1))) (called W.functions (Call f ts)) else None) ok ∙ ap (λ o. option_map (λ (c : Definition × Tms). of_goal (equation (Call f ts) (body_at c.0 c.1))) (option_map (λ (d' : Definition). (d', ts)) o)) e;
    universals_in = tt;
    hyps_in = tt;
  }

  pub by_eval : (hs : List Tm) (a : Tm) (v : Val) → value_of (evaluated W.functions.defs a) ≡ Some v → fits W.functions a ≡ true → is_ground a ≡ true → Proves W us hs (equation a (Quote v)) (Eval a)
  by_eval hs a v e f g = record { universals = []; hyps = []; concluded = rw f (rw g (rw e refl)); universals_in = tt; hyps_in = tt }

  pub by_an_axiom : (hs : List Tm) (k : ℕ) (s : Pairs) (a : Tm) → axiom_at k ≡ Some a → pairs_fit W.functions s ≡ true → Proves W us hs (substitute (by_pairs s) a) (Axiom k s)
  by_an_axiom hs k s a e f = record { universals = []; hyps = []; concluded = rw f (rw e refl); universals_in = tt; hyps_in = tt }

  pub by_ring : (hs : List Tm) (a b : Tm) → fits W.functions a ≡ true → fits W.functions b ≡ true → are_same a b ≡ Some (of_goal (equation a b)) → Proves W us hs (equation a b) (Ring a b)
  by_ring hs a b f g e = record { universals = []; hyps = []; concluded = rw f (rw g e); universals_in = tt; hyps_in = tt }

  -- an instance of what is proved from nothing
  pub by_instance : (hs : List Tm) (g : Tm) (s : Pairs) (P : Proof) → Proves W us [] g P → pairs_fit W.functions s ≡ true → Proves W us hs (substitute (by_pairs s) g) (Substitute P s)
  by_instance hs g s P p f = record {
    universals = p.universals;
    hyps = join [] (map (substitute (by_pairs s)) p.hyps);
    concluded = rw p.concluded (rw f refl);
    universals_in = p.universals_in;
    hyps_in = join_to (Within hs) [] (map (substitute (by_pairs s)) p.hyps) tt (map_to (Within hs) (substitute (by_pairs s)) p.hyps (nothing_within p.hyps (λ h. Within hs (substitute (by_pairs s) h)) p.hyps_in));
  }

-- what is proved of a condition's goal, under its universals and hypotheses, proves the condition
pub condition_proved : (W : World) (c : Sequent) (P : Proof) → Proves W c.universals c.hyps c.goal P → ProvesCondition W c P
condition_proved W c P p = record {
  sequent = record { universals = p.universals; hyps = p.hyps; goal = c.goal };
  concluded = p.concluded;
  proved = rw (are_among_within c.universals p.universals p.universals_in) (rw (are_among_within c.hyps p.hyps p.hyps_in) (rw (term_self c.goal) refl));
}

-- and the other way round
pub proved_condition : (W : World) (s c : Sequent) (P : Proof) → concludes W P ≡ Some s → proves s c ≡ true → Proves W c.universals c.hyps c.goal P
proved_condition W s c P e p =
    let h = and_parts (are_among s.universals c.universals && are_among s.hyps c.hyps) (same_tm s.goal c.goal) p in
    let q = and_parts (are_among s.universals c.universals) (are_among s.hyps c.hyps) h.0 in
    subst (λ g. Proves W c.universals c.hyps g P) (same_term s.goal c.goal h.1)
    (record {
      universals = s.universals;
      hyps = s.hyps;
      concluded = e;
      universals_in = within_among c.universals s.universals q.0;
      hyps_in = within_among c.hyps s.hyps q.1;
    })
