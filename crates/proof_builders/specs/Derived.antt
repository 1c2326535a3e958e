-- The derived rules: proofs put together of those of one or two goals.
use Rattle.std.specs.Prelude.{◌≡◌, List, [], ◌∷◌}
use Rattle.terms.specs.BuiltIn.{no}
use Rattle.terms.specs.Terms.{Tm, Call, More}
use Rattle.kernel.specs.Sequents.{equation, conditional}
use Rattle.hints.specs.Start.{conjunction_from}
use Rattle.reduction_proofs.specs.Derived.{back, first_part, second_part}
use Rattle.reduction_proofs.specs.Start.{cut_conjunction}
use Rattle.reduction_proofs.specs.Trees.{Proof, Hyp, Replace, IfTrue, Cut, Axiom}

-- the first and the second argument of a call, such as the sides of an equation; another term is its own sides
abbrev pub left : Tm → Tm
left (Call f (More a ts)) = a
left t = t

abbrev pub right : Tm → Tm
right (Call f (More a (More b ts))) = b
right t = t

-- the term is `(equal a b)`, where a and b are its sides
abbrev pub IsEquation : Tm → Type 0
IsEquation t = t ≡ equation (left t) (right t)

-- of `(equal a b)` and `(equal b c)`, `(equal a c)`
abbrev pub chained : Proof → Proof → Proof
chained P Q = Replace Q P (2 ∷ [])

-- of a and b, `(if a b 'nil)`
abbrev pub both : Tm → Tm → Proof → Proof → Proof
both a b P Q = back (IfTrue P b no) (conditional a b no) Q

-- of `(if a b 'nil)`, a
abbrev pub first_of_both : Tm → Tm → Proof → Proof
first_of_both a b P = Cut P (first_part a b)

-- of `(if a b 'nil)`, b
abbrev pub second_of_both : Tm → Tm → Proof → Proof
second_of_both a b P = Cut P (Cut (first_part a b) (second_part a b))

-- the conjunction of terms that are hypotheses
abbrev pub gathered_from : Tm → List Tm → Proof
gathered_from t [] = Hyp t
gathered_from t (u ∷ us) = both t (conjunction_from u us) (Hyp t) (gathered_from u us)

abbrev pub gathered : List Tm → Proof
gathered [] = Axiom 1 []
gathered (t ∷ ts) = gathered_from t ts

-- of the conjunction of terms, and of a proof that has them as hypotheses, the same without them
abbrev pub scattered : List Tm → Proof → Proof → Proof
scattered ts P Q = Cut P (cut_conjunction ts Q)
