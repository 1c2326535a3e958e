-- The laws of derived rules, of the congruence of bodies and of induction on calls.
use Rattle.std.specs.Prelude.{◌≡◌, ◌↔◌, true, List, [], ◌++◌, Some}
use Rattle.lisp_data.specs.Values.{Name}
use Rattle.terms.specs.BuiltIn.{no}
use Rattle.terms.specs.Definitions.{find}
use Rattle.terms.specs.Sound.{Sound}
use Rattle.terms.specs.Terms.{Tm}
use Rattle.terms.specs.Worlds.{World, Fits, Each}
use Rattle.terms.specs.declared.definition.Definition.{Definition}
use Rattle.terms.specs.declared.sequent.Sequent.{Sequent}
use Rattle.kernel.specs.Conclusion.{Conclusion}
use Rattle.kernel.specs.Sequents.{equation, conditional}
use Rattle.hints.specs.Start.{conjunction}
use Rattle.reduction_proofs.specs.Derived.{turned, forth, from_nil}
use Rattle.reduction_proofs.specs.Proving.{Proves, ProvesCondition}
use Rattle.reduction_proofs.specs.Trees.{Proof}
use Rattle.proof_builders.specs.Derived.{chained, both, first_of_both, second_of_both, gathered, scattered}
use Rattle.proof_builders.specs.Congruence.{Alike, Difference, differences, Finder, IsFound, congruence, proof_among, IsConcluded, is_proved_among}
use Rattle.proof_builders.specs.Schemes.{scheme, induct_on_calls}

-- the sides of an equation are swapped
abbrev pub SymmetryProves : Type 0
SymmetryProves =
    (W : World) → Sound W → (us hs : List Tm) (P : Proof) (a b : Tm) →
    Proves W us hs (equation a b) P → Proves W us hs (equation b a) (turned P a)

abbrev pub TransitivityProves : Type 0
TransitivityProves =
    (W : World) (us hs : List Tm) (P Q : Proof) (a b c : Tm) →
    Proves W us hs (equation a b) P → Proves W us hs (equation b c) Q → Proves W us hs (equation a c) (chained P Q)

-- what equals a proved goal is proved
abbrev pub EqualOutProves : Type 0
EqualOutProves =
    (W : World) → Sound W → (us hs : List Tm) (P Q : Proof) (a b : Tm) →
    Proves W us hs (equation a b) P → Proves W us hs a Q → Proves W us hs b (forth P Q)

-- any well-formed goal
abbrev pub ExFalsoProves : Type 0
ExFalsoProves =
    (W : World) → Sound W → (us hs : List Tm) (P : Proof) (g : Tm) → Fits W.functions g →
    Proves W us hs no P → Proves W us hs g (from_nil P g)

abbrev pub AndInProves : Type 0
AndInProves =
    (W : World) → Sound W → (us hs : List Tm) (P Q : Proof) (a b : Tm) →
    Proves W us hs a P → Proves W us hs b Q → Proves W us hs (conditional a b no) (both a b P Q)

abbrev pub AndOutProves : Type 0
AndOutProves =
    (W : World) → Sound W → (us hs : List Tm) (P : Proof) (a b : Tm) → Proves W us hs (conditional a b no) P →
    Proves W us hs a (first_of_both a b P) × Proves W us hs b (second_of_both a b P)

-- from the terms of the list alone
abbrev pub AndInAllProves : Type 0
AndInAllProves =
    (W : World) → Sound W → (ts : List Tm) → Each (Fits W.functions) ts → Proves W [] ts (conjunction ts) (gathered ts)

-- the terms of the list are no hypotheses any more
abbrev pub CutAllProves : Type 0
CutAllProves =
    (W : World) → Sound W → (us hs ts : List Tm) (P Q : Proof) (g : Tm) →
    Proves W us hs (conjunction ts) P → Proves W us (hs ++ ts) g Q → Proves W us hs g (scattered ts P Q)

-- terms that are alike but for calls of f are equal under hypotheses, where for each difference a proof is found
abbrev pub BodyCongruenceProves : Type 0
BodyCongruenceProves =
    (W : World) → Sound W → (us hs : List Tm) (f : Name) (found : Finder) (t u : Tm) →
    Fits W.functions t → Fits W.functions u → Alike f t u → Each (IsFound W us hs found) (differences f [] t u) →
    Proves W us hs (equation t u) (congruence f found [] t u)

-- a difference that one of the proved sequents proves has its proof among them
abbrev pub AmongProves : Type 0
AmongProves =
    (W : World) (us hs : List Tm) (cs : List Conclusion) → Each (IsConcluded W) cs → (d : Difference) →
    is_proved_among cs us hs d ≡ true → IsFound W us hs (proof_among cs us hs) d

-- what is proved from the scheme's hypotheses is proved without them, also where the function isn't recursive
abbrev pub InductOnCallsProves : Type 0
InductOnCallsProves =
    (W : World) → Sound W → (us : List Tm) (d : Definition) → find W.functions.defs d.name ≡ Some d → (g : Tm) (B : Proof) →
    Proves W us (scheme d g) g B → Proves W us [] g (induct_on_calls d B)

-- a proof proves a condition where it proves its goal, under its universals and hypotheses, and only there
abbrev pub ConditionsProved : Type 0
ConditionsProved =
    (W : World) (c : Sequent) (P : Proof) → Proves W c.universals c.hyps c.goal P ↔ ProvesCondition W c P
