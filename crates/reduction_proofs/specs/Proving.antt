-- What it is that a proof proves a goal under hypotheses, or a condition; and hints as they are read.
use Rattle.std.specs.Prelude.{◌≡◌, true, length, List, [], ◌∷◌, Option, Some, None}
use Rattle.lisp_data.specs.Values.{Name}
use Rattle.terms.specs.Definitions.{find}
use Rattle.terms.specs.Measures.{mentions}
use Rattle.terms.specs.Substitution.{by_pairs}
use Rattle.terms.specs.Terms.{Tm, substitute}
use Rattle.terms.specs.Worlds.{World, Each, Distinct, Fits}
use Rattle.terms.specs.declared.definition.Definition.{Definition}
use Rattle.terms.specs.declared.entries.FunPair.{FunPair}
use Rattle.terms.specs.declared.sequent.Sequent.{Sequent}
use Rattle.kernel.specs.Concludes.{concludes}
use Rattle.plans.specs.Proving.{proves}
use Rattle.reduction.specs.declared.found.Source.{Source}
use Rattle.reduction.specs.declared.found.Source.TheVariants as source
use Rattle.reduction.specs.declared.moves.Subgoal.{Subgoal}
use Rattle.reduction.specs.declared.rules.Rule.{Rule}
use Rattle.reduction.specs.Hyps.{has}
use Rattle.hints.specs.declared.hint.Fact.{Fact}
use Rattle.hints.specs.declared.hint.Fact.TheVariants.{Axiom, Theorem, Instance, Assumed}
use Rattle.hints.specs.declared.hint.Hints.{Hints}
use Rattle.hints.specs.declared.hint.Scheme.{Scheme}
use Rattle.hints.specs.declared.hint.Use.{Use}
use Rattle.hints.specs.Facts.{says, all_in, rule_from}
use Rattle.reduction_proofs.specs.Trees as tree
use Rattle.reduction_proofs.specs.Trees.{Proof}

abbrev pub Within : List Tm → Tm → Type 0
Within hs t = has hs t ≡ true

-- the proof concludes the goal, from some of the universals and some of the hypotheses
pub record Proves (W : World) (us hs : List Tm) (g : Tm) (P : Proof) : Type 0 where
  pub universals : List Tm
  pub hyps : List Tm
  pub concluded : concludes W P ≡ Some (record { universals = universals; hyps = hyps; goal = g })
  pub universals_in : Each (Within us) universals
  pub hyps_in : Each (Within hs) hyps

-- each subgoal has its proof
abbrev pub AllProved : World → List Tm → List Subgoal → List Proof → Type 0
AllProved W us [] [] = Unit {0}
AllProved W us (s ∷ ss) (P ∷ ps) = Proves W us s.hyps s.goal P × AllProved W us ss ps
AllProved W us [] (P ∷ ps) = ⊥
AllProved W us (s ∷ ss) [] = ⊥

-- the proof concludes a sequent that proves the condition
pub record ProvesCondition (W : World) (c : Sequent) (P : Proof) : Type 0 where
  pub sequent : Sequent
  pub concluded : concludes W P ≡ Some sequent
  pub proved : proves sequent c ≡ true

pub record FitsSubgoal (W : World) (s : Subgoal) : Type 0 where
  pub hyps : Each (Fits W.functions) s.hyps
  pub goal : Fits W.functions s.goal

-- the rule is its source's
abbrev pub IsRule : World → List Tm → Rule → Type 0
IsRule W us r = rule_from W us r.source ≡ Some r

-- what an axiom or a theorem says, under universals of the condition
pub record IsSaid (W : World) (us : List Tm) (k : Source) (t : Tm) : Type 0 where
  pub sequent : Sequent
  pub told : says W k ≡ Some sequent
  pub universals_in : all_in us sequent.universals ≡ true
  pub goal : sequent.goal ≡ t

-- what a function instance of a theorem says, under universals of the condition
pub record IsInstance (W : World) (us : List Tm) (n : Name) (pairs : List FunPair) (t : Tm) : Type 0 where
  pub sequent : Sequent
  pub told : concludes W (tree.Instance n pairs) ≡ Some sequent
  pub universals_in : all_in us sequent.universals ≡ true
  pub goal : sequent.goal ≡ t

-- the formula of a fact
abbrev pub IsFact : World → List Tm → Fact → Tm → Type 0
IsFact W us (Axiom k) t = IsSaid W us (source.Axiom k) t
IsFact W us (Theorem n) t = IsSaid W us (source.Theorem n) t
IsFact W us (Instance n pairs) t = IsInstance W us n pairs t
IsFact W us (Assumed u) t = (u ≡ t) × Within us u × Fits W.functions u

-- the hypothesis of a use is the fact's formula under well-formed terms
pub record IsUse (W : World) (us : List Tm) (u : Use) : Type 0 where
  pub formula : Tm
  pub fact : IsFact W us u.fact formula
  pub pairs : Each (λ e. Fits W.functions e.1) u.s
  pub hyp : u.hyp ≡ substitute (by_pairs u.s) formula

-- the definition is recursive, and has as many formals as there are variables
pub record IsOver (xs : List Name) (d : Definition) : Type 0 where
  pub recursive : mentions d.name d.body ≡ true
  pub lengths : length xs ≡ length d.formals

-- the variables are distinct, and as many as the formals of a recursive definition
abbrev pub IsScheme : World → Option Scheme → Type 0
IsScheme W None = Unit {0}
IsScheme W (Some i) =
    Distinct i.over × ((d : Definition) → find W.functions.defs i.function ≡ Some d → IsOver i.over d)

-- hints that can be read for a condition with these universals
pub record FitsHints (W : World) (us : List Tm) (h : Hints) : Type 0 where
  pub induct : IsScheme W h.induct
  pub uses : Each (IsUse W us) h.uses
  pub rules : Each (IsRule W us) h.how.rules
  pub cases : Each (Fits W.functions) h.how.cases
