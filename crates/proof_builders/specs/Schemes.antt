-- Induction on the calls of a function.
use Rattle.std.specs.Prelude.{cond, List, [], map, Option, Some, None}
use Rattle.lisp_data.specs.Values.{Name}
use Rattle.terms.specs.Measures.{mentions, RecursiveCall, recursive_calls}
use Rattle.terms.specs.Terms.{Tm, substitute, by_args}
use Rattle.terms.specs.declared.definition.Definition.{Definition}
use Rattle.terms.specs.declared.sequent.Sequent.{Sequent}
use Rattle.hints.specs.Start.{implication, conjunction, as_variables}
use Rattle.reduction_proofs.specs.Start.{by_calls}
use Rattle.reduction_proofs.specs.Trees.{Proof}

-- the goal at the arguments of a call, where its tests are true
abbrev pub hypothesis : List Name → Tm → RecursiveCall → Tm
hypothesis formals g c = implication (conjunction c.tests) (substitute (by_args formals c.args) g)

-- a hypothesis for each recursive call
abbrev pub scheme : Definition → Tm → List Tm
scheme d g = map (hypothesis d.formals g) (recursive_calls d.name [] d.body)

-- the condition with the scheme's hypotheses
abbrev pub with_scheme : Definition → Sequent → Sequent
with_scheme d c = record { universals = c.universals; hyps = scheme d c.goal; goal = c.goal }

-- where there is no measure, which is never so, the proof stands for none
abbrev pub by_measure : Definition → Option Tm → Proof → Proof
by_measure d None B = B
by_measure d (Some m) B =
    by_calls d.name m (as_variables d d.formals) d.formals (recursive_calls d.name [] d.body) B

-- of a proof that has the scheme's hypotheses, one without them
abbrev pub induct_on_calls : Definition → Proof → Proof
induct_on_calls d B = cond (mentions d.name d.body) (by_measure d d.measure B) B
