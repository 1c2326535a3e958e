-- The rules of proofs: their numbers and words.
use Rattle.std.specs.Prelude.{ℕ, List, codes}
use Rattle.proof_objects.specs.declared.rule.Rule.{Rule}
use Rattle.proof_objects.specs.declared.rule.Rule.TheVariants.{Hyp, Refl, Replace, Unfold, Eval, Substitute, IfTrue, IfFalse, Cases, Cut, Weaken, Contradict, Axiom, Ring, ImpliesIn, ImpliesOut, Universal, Discharge, Theorem, Instance, Induct}

-- from 1 to 21
abbrev pub number : Rule → ℕ
number Hyp = 1
number Refl = 2
number Replace = 3
number Unfold = 4
number Eval = 5
number Substitute = 6
number IfTrue = 7
number IfFalse = 8
number Cases = 9
number Cut = 10
number Weaken = 11
number Contradict = 12
number Axiom = 13
number Ring = 14
number ImpliesIn = 15
number ImpliesOut = 16
number Universal = 17
number Discharge = 18
number Theorem = 19
number Instance = 20
number Induct = 21

-- how a refusal names the rule
abbrev pub word : Rule → List ℕ
word Hyp = codes ":HYP"
word Refl = codes ":REFL"
word Replace = codes ":REPLACE"
word Unfold = codes ":UNFOLD"
word Eval = codes ":EVAL"
word Substitute = codes ":SUBST"
word IfTrue = codes ":IF-TRUE"
word IfFalse = codes ":IF-FALSE"
word Cases = codes ":CASES"
word Cut = codes ":CUT"
word Weaken = codes ":WEAKEN"
word Contradict = codes ":CONTRA"
word Axiom = codes ":AXIOM"
word Ring = codes ":RING"
word ImpliesIn = codes ":IMPLIES-IN"
word ImpliesOut = codes ":IMPLIES-OUT"
word Universal = codes ":UNIVERSAL"
word Discharge = codes ":DISCHARGE"
word Theorem = codes ":THEOREM"
word Instance = codes ":INSTANCE"
word Induct = codes ":INDUCT"
