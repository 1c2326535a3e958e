-- The way back: a proof for each step of a reduction, from the proofs of the subgoals that it left.
use Rattle.std.specs.Prelude.{List, [], ◌∷◌, codes, Option, Some, None, if◌then◌else◌}
use Rattle.lisp_data.specs.Values.{Name}
use Rattle.terms.specs.Terms.{Tm, Var}
use Rattle.terms.specs.Worlds.{World}
use Rattle.kernel.specs.Sequents.{negation}
use Rattle.reduction.specs.declared.found.At.{At}
use Rattle.reduction.specs.declared.moves.Closing.{Closing}
use Rattle.reduction.specs.declared.moves.Closing.TheVariants.{ByQuote, ByHyp, BySame, ByNil, ByBoth}
use Rattle.reduction.specs.declared.moves.Move.{Move}
use Rattle.reduction.specs.declared.moves.Move.TheVariants.{Ends, Drops, Strips, Alters, Turns, Assumes, Denies, Puts, Splits}
use Rattle.reduction.specs.declared.moves.Subgoal.{Subgoal}
use Rattle.reduction.specs.declared.run.Made.{Made}
use Rattle.reduction.specs.Finding.{of_two}
use Rattle.reduction.specs.Hyps.{quoted_nil, without}
use Rattle.reduction.specs.Moves.{occurs}
use Rattle.reduction_proofs.specs.Trees.{Proof, Hyp, Refl, Cases, Cut, Contradict, ImpliesIn}
use Rattle.reduction_proofs.specs.Derived.{forth, back, from_nil, by_quote, twice_not, equate}
use Rattle.reduction_proofs.specs.Reasons.{equated, rewritten}

-- the first side of `(equal a a)`
abbrev pub by_same : Tm → Option (Tm × Tm) → Proof
by_same g None = Hyp g
by_same g (Some e) = Refl e.0

-- why a subgoal holds
abbrev pub closed_by : Closing → Tm → Proof
closed_by ByQuote g = by_quote g
closed_by ByHyp g = Hyp g
closed_by BySame g = by_same g (of_two (codes "EQUAL") g)
closed_by ByNil g = from_nil (Hyp quoted_nil) g
closed_by (ByBoth p) g = Contradict (Hyp p) (Hyp (negation p)) g

-- what a hypothesis becomes by what is found in it
abbrev pub altered : World → Tm → At → Proof
altered W h r = forth (rewritten W h r) (Hyp h)

-- of P, which has hypotheses with a for x: each in which x stands is proved from the one with x, by E, which says
-- `(equal x a)`
abbrev pub put_hyps : Name → Proof → List Tm → Proof → Proof
put_hyps x E [] P = P
put_hyps x E (h ∷ hs) P = put_hyps x E hs (if occurs x h then Cut (forth (equate x E h) (Hyp h)) P else P)

abbrev pub put_back : Name → Proof → List Tm → Tm → Proof → Proof
put_back x E hs g P = put_hyps x E hs (back (equate x E g) g P)

-- The proof before a step, from those of the subgoals after it, which stand first. Where one is missing, which is
-- never so, there is none.
abbrev pub before : World → Move → Subgoal → List Proof → List Proof
before W (Ends e) s ps = closed_by e s.goal ∷ ps
before W (Drops h) s ps = ps
before W (Strips h a) s (P ∷ ps) = Cut (twice_not a) P ∷ ps
before W (Alters h k r) s (P ∷ ps) = Cut (altered W h r) P ∷ ps
before W (Turns g r) s (P ∷ ps) = back (rewritten W s.goal r) s.goal P ∷ ps
before W (Assumes a b) s (P ∷ ps) = ImpliesIn a P ∷ ps
before W (Denies a) s (P ∷ ps) = Cases a (from_nil P (negation a)) (Hyp (negation a)) ∷ ps
before W (Puts h x a) s (P ∷ ps) = put_back x (equated h (Var x) a) (without s.hyps h) s.goal P ∷ ps
before W (Splits c) s (P ∷ Q ∷ ps) = Cases c P Q ∷ ps
before W _ s ps = []

-- back over the steps, from the last to the first
abbrev pub proofs : World → List Made → List Proof → List Proof
proofs W [] ps = ps
proofs W (m ∷ ms) ps = before W m.step m.subgoal (proofs W ms ps)
