-- The proof of a restriction's theorem, from proofs of its conditions.
use Rattle.std.specs.Prelude.{List, [], ◌∷◌, ◌++◌, map}
use Rattle.lisp_data.specs.Values.{Name, Val}
use Rattle.terms.specs.Links.{at_variables}
use Rattle.terms.specs.Measures.{RecursiveCall, recursive_calls}
use Rattle.terms.specs.Terms.{Tm, Quote, Call}
use Rattle.terms.specs.declared.definition.Definition.{Definition}
use Rattle.terms.specs.declared.sequent.Sequent.{Sequent}
use Rattle.kernel.specs.Sequents.{equation, conditional}
use Rattle.proof_builders.specs.Derived.{chained, gathered}
use Rattle.proof_builders.specs.Schemes.{hypothesis, scheme}
use Rattle.reduction_proofs.specs.Derived.{turned}
use Rattle.reduction_proofs.specs.Trees.{Proof, Hyp, Unfold, IfTrue, ImpliesIn, ImpliesOut}
use Rattle.restrict_tool.specs.Restrictions.{new_body, same_where}

-- what the proof has for hypotheses: the theorem at each recursive call, and the restriction
abbrev pub hypotheses : Definition → Name → Tm → List Tm
hypotheses d g r = scheme d (same_where d g r) ++ r ∷ []

-- at a recursive call the two functions are the same, where its tests are true
abbrev pub agreement : Definition → Name → Tm → RecursiveCall → Sequent
agreement d g r c =
    record { universals = []; hyps = hypotheses d g r ++ c.tests; goal = equation (Call d.name c.args) (Call g c.args) }

abbrev pub agreements : Definition → Name → Tm → List Sequent
agreements d g r = map (agreement d g r) (recursive_calls d.name [] d.body)

-- of a proof that the call's arguments meet the restriction, one of the agreement: the theorem is a hypothesis there
abbrev pub by_hypothesis : Definition → Name → Tm → RecursiveCall → Proof → Proof
by_hypothesis d g r c P =
    ImpliesOut (ImpliesOut (Hyp (hypothesis d.formals (same_where d g r) c)) (gathered c.tests)) P

-- the bodies are the same, where the hypotheses are true
abbrev pub same_bodies : Definition → Name → Tm → Sequent
same_bodies d g r = record { universals = []; hyps = hypotheses d g r; goal = equation d.body (new_body d g) }

-- the new function at the formals is the body with its calls, where the restriction is met
abbrev pub new_unfolded : Definition → Name → Tm → Val → Proof
new_unfolded d g r u =
    chained (Unfold (at_variables g d.formals)) (IfTrue (Hyp r) (new_body d g) (Quote u))

-- of a proof that the bodies are the same, one that the functions are, where the restriction is met
abbrev pub unfolded : Definition → Name → Tm → Val → Proof → Proof
unfolded d g r u C =
    ImpliesIn r
    (chained (Unfold (at_variables d.name d.formals))
    (chained C (turned (new_unfolded d g r u) (at_variables g d.formals))))
