-- What each step concludes from the sequents of its subproofs.
use Rattle.std.specs.Prelude.{List, [], ◌∷◌, Option, Some, None}
use Rattle.lisp_data.specs.declared.code.Code.{Code}
use Rattle.lisp_data.specs.declared.code.Code.TheVariants.{ProofWrong}
use Rattle.terms.specs.Worlds.{World}
use Rattle.terms.specs.declared.sequent.Sequent.{Sequent}
use Rattle.proof_objects.specs.declared.step.Step.{Step}
use Rattle.proof_objects.specs.declared.step.Step.TheVariants.{Hyp, Refl, Replace, Unfold, Eval, Substitute, IfTrue, IfFalse, Cases, Cut, Weaken, Contradict, Axiom, Ring, ImpliesIn, ImpliesOut, Universal, Discharge, Theorem, Instance, Induct}
use Rattle.kernel.specs.Equations.{reflexive, replaced, unfolded, if_true, if_false}
use Rattle.kernel.specs.Logic.{hypothesis, substituted, by_cases, cut, weakened, contradicted, implied, detached, instantiated, discharged}
use Rattle.kernel.specs.Induction.{induced}
use Rattle.kernel.specs.Axioms.{axiom_instance}
use Rattle.kernel.specs.Facts.{fact_of, fact_instance}
use Rattle.kernel.specs.Ring.{ringed, ring_code}
use Rattle.kernel.specs.Evaluating.{computed, evaluation_code}

-- how many subproofs a rule takes
abbrev pub from_none : Option Sequent → List Sequent → Option Sequent
from_none o [] = o
from_none o (p ∷ ps) = None

abbrev pub from_one : (Sequent → Option Sequent) → List Sequent → Option Sequent
from_one k [] = None
from_one k (p ∷ []) = k p
from_one k (p ∷ q ∷ ps) = None

abbrev pub from_two : (Sequent → Sequent → Option Sequent) → List Sequent → Option Sequent
from_two k [] = None
from_two k (p ∷ []) = None
from_two k (p ∷ q ∷ []) = k p q
from_two k (p ∷ q ∷ r ∷ ps) = None

abbrev pub from_more : (Sequent → Sequent → List Sequent → Option Sequent) → List Sequent → Option Sequent
from_more k [] = None
from_more k (p ∷ []) = None
from_more k (p ∷ q ∷ ps) = k p q ps

-- the sequent that a step concludes from what its subproofs do, or nothing
abbrev pub conclude : World → Step → List Sequent → Option Sequent
conclude W (Hyp p) = from_none (hypothesis W.functions p)
conclude W (Refl a) = from_none (reflexive W.functions a)
conclude W (Replace path) = from_two (replaced path)
conclude W (Unfold t) = from_none (unfolded W.functions t)
conclude W (Eval a) = from_none (computed W.functions a)
conclude W (Substitute s) = from_one (substituted W.functions s)
conclude W (IfTrue b c) = from_one (if_true W.functions b c)
conclude W (IfFalse b c) = from_one (if_false W.functions b c)
conclude W (Cases c) = from_two (by_cases W.functions c)
conclude W Cut = from_two cut
conclude W (Weaken hs us) = from_one (weakened W.functions hs us)
conclude W (Contradict g) = from_two (contradicted W.functions g)
conclude W (Axiom k s) = from_none (axiom_instance W.functions k s)
conclude W (Ring a b) = from_none (ringed W.functions a b)
conclude W (ImpliesIn p) = from_one (implied W.functions p)
conclude W ImpliesOut = from_two detached
conclude W (Universal u s) = from_none (instantiated W.functions u s)
conclude W Discharge = from_two discharged
conclude W (Theorem fact) = from_none (fact_of W fact)
conclude W (Instance fact pairs) = from_none (fact_instance W pairs fact)
conclude W (Induct m cases) = from_more (induced W.functions m cases)

-- the code of a step without subproofs that concludes nothing: that of a limit, where its rule computes and meets one
abbrev pub code_alone : World → Step → Code
code_alone W (Ring a b) = ring_code a b
code_alone W (Eval a) = evaluation_code W.functions a
code_alone W _ = ProofWrong

-- the code of a step that concludes nothing from these sequents
abbrev pub code_of : World → Step → List Sequent → Code
code_of W s [] = code_alone W s
code_of W s (p ∷ ps) = ProofWrong

-- the same where the subproofs may conclude nothing themselves
abbrev pub code_from : World → Step → Option (List Sequent) → Code
code_from W s None = ProofWrong
code_from W s (Some ps) = code_of W s ps
