-- The start of a reduction: the proof of a condition from that of the subgoal at which the steps begin.
use Rattle.std.specs.Prelude.{ℕ, suc, List, [], ◌∷◌, map, Option, Some, None}
use Rattle.lisp_data.specs.Values.{Name}
use Rattle.terms.specs.Definitions.{find}
use Rattle.terms.specs.Measures.{RecursiveCall, recursive_calls}
use Rattle.terms.specs.Substitution.{Pairs, by_pairs}
use Rattle.terms.specs.Terms.{Tm, tm_list, substitute}
use Rattle.terms.specs.Worlds.{World}
use Rattle.terms.specs.declared.definition.Definition.{Definition}
use Rattle.proof_objects.specs.declared.step.InductionCase.{InductionCase}
use Rattle.kernel.specs.Conclusion.{alone}
use Rattle.reduction.specs.declared.found.Source.TheVariants as source
use Rattle.reduction.specs.declared.moves.Subgoal.{Subgoal}
use Rattle.reduction.specs.declared.run.Made.{Made}
use Rattle.hints.specs.declared.hint.Fact.{Fact}
use Rattle.hints.specs.declared.hint.Fact.TheVariants.{Axiom, Theorem, Instance, Assumed}
use Rattle.hints.specs.declared.hint.Hints.{Hints}
use Rattle.hints.specs.declared.hint.Scheme.{Scheme}
use Rattle.hints.specs.declared.hint.Use.{Use}
use Rattle.hints.specs.Facts.{citing}
use Rattle.hints.specs.Start.{conjunction, conjunction_from, bind, images, as_variables}
use Rattle.reduction_proofs.specs.Trees as tree
use Rattle.reduction_proofs.specs.Trees.{Proof, Hyp, Substitute, Cut, ImpliesOut, Universal, Owed, Induct}
use Rattle.reduction_proofs.specs.Derived.{first_part, second_part}
use Rattle.reduction_proofs.specs.WayBack.{proofs}

-- a fact under a substitution
abbrev pub fact_under : Pairs → Fact → Proof
fact_under s (Axiom k) = Substitute (alone (citing (source.Axiom k))) s
fact_under s (Theorem n) = Substitute (alone (citing (source.Theorem n))) s
fact_under s (Instance n pairs) = Substitute (tree.Instance n pairs) s
fact_under s (Assumed u) = Universal u s

-- of P, which has the hypotheses of `:use`
abbrev pub without_uses : List Use → Proof → Proof
without_uses [] P = P
without_uses (u ∷ us) P = without_uses us (Cut (fact_under u.s u.fact) P)

-- of P, which has the terms as hypotheses, the same from their conjunction; each part is taken once
abbrev pub cut_parts : Tm → List Tm → Proof → Proof
cut_parts a [] P = P
cut_parts a (b ∷ bs) P =
    Cut (first_part a (conjunction_from b bs)) (Cut (second_part a (conjunction_from b bs)) (cut_parts b bs P))

abbrev pub cut_conjunction : List Tm → Proof → Proof
cut_conjunction [] P = P
cut_conjunction (a ∷ as') P = cut_parts a as' P

-- the case of a recursive call, whose tests are one; r reads the formals as the variables
abbrev pub case_of : Pairs → List Name → RecursiveCall → InductionCase
case_of r xs c = record { test = conjunction (images r c.tests); subst = bind [] xs (images r (tm_list c.args)) }

-- that the measure falls in each case, by what the function's measure owes, from the obligation k on
abbrev pub falls_by : Name → Pairs → ℕ → List RecursiveCall → List Proof
falls_by f r k [] = []
falls_by f r k (c ∷ cs) = cut_conjunction (images r c.tests) (Substitute (Owed f k) r) ∷ falls_by f r (suc k) cs

-- of P, the hypotheses before a goal; these are hypotheses again
abbrev pub unfolded : List Tm → Proof → Proof
unfolded [] P = P
unfolded (h ∷ hs) P = unfolded hs (ImpliesOut P (Hyp h))

-- the induction on the calls of a definition with this measure
abbrev pub by_calls : Name → Tm → Pairs → List Name → List RecursiveCall → Proof → Proof
by_calls f m r xs cs P =
    Induct (substitute (by_pairs r) m) (map (case_of r xs) cs) (Substitute (Owed f 0) r) P (falls_by f r 1 cs)

-- where there is no measure, which is never so, the proof stands for none
abbrev pub by_measure : List Name → Subgoal → Definition → Option Tm → Proof → Proof
by_measure xs s d None P = P
by_measure xs s d (Some m) P =
    unfolded s.hyps (by_calls d.name m (as_variables d xs) xs (recursive_calls d.name [] d.body) P)

abbrev pub by_definition : List Name → Subgoal → Option Definition → Proof → Proof
by_definition xs s None P = P
by_definition xs s (Some d) P = by_measure xs s d d.measure P

-- of the proof of the subgoal after an induction, that of the one before it
abbrev pub before_induction : World → Option Scheme → Subgoal → Proof → Proof
before_induction W None s P = P
before_induction W (Some i) s P = by_definition i.over s (find W.functions.defs i.function) P

-- the first of the proofs; there is always one
abbrev pub first_or : Proof → List Proof → Proof
first_or P [] = P
first_or P (Q ∷ qs) = Q

-- the proof of a condition whose reduction closes by these steps
abbrev pub proof_of : World → Hints → Subgoal → List Made → Proof
proof_of W h s ms = before_induction W h.induct s (without_uses h.uses (first_or (Hyp s.goal) (proofs W ms [])))
