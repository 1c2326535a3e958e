-- The rule of induction on a measure.
use Rattle.std.specs.Prelude.{◌&&◌, Bool, true, false, List, [], ◌∷◌, codes, Option, Some, None, if◌then◌else◌}
use Rattle.std.specs.List.{list_all, list_any}
use Rattle.terms.specs.Measures.{call1, call2}
use Rattle.terms.specs.Substitution.{by_pairs}
use Rattle.terms.specs.Terms.{Tm, same_tm, substitute}
use Rattle.terms.specs.Worlds.{Functions}
use Rattle.terms.specs.declared.sequent.Sequent.{Sequent}
use Rattle.proof_objects.specs.declared.step.InductionCase.{InductionCase}
use Rattle.kernel.specs.Fitting.{fits, pairs_fit}
use Rattle.kernel.specs.Logic.{is_empty}
use Rattle.kernel.specs.Sequents.{implication, join}

-- p says `(natp m)`, from no hypothesis
abbrev pub says_natural : Tm → Sequent → Bool
says_natural m p = is_empty p.hyps && same_tm (call1 (codes "NATP") m) p.goal

-- the induction hypothesis of a case: its test implies the goal under its substitution
abbrev pub assumption : Tm → InductionCase → Tm
assumption g c = implication c.test (substitute (by_pairs c.subst) g)

-- each of the hypotheses is the induction hypothesis of a case
abbrev pub all_assumed : Tm → List InductionCase → List Tm → Bool
all_assumed g cs = list_all (λ h. list_any (λ c. same_tm (assumption g c) h) cs)

-- `(< m' m)`, where m' is m under the substitution of the case
abbrev pub smaller : Tm → InductionCase → Tm
smaller m c = call2 (codes "<") (substitute (by_pairs c.subst) m) m

-- q says that m falls in the case, from no hypothesis but the test; what the case is given is well formed
abbrev pub falls_in : Functions → Tm → InductionCase → Sequent → Bool
falls_in W m c q = fits W c.test && pairs_fit W c.subst && list_all (same_tm c.test) q.hyps && same_tm (smaller m c) q.goal

-- there is one such sequent for each case, in order
abbrev pub all_fall : Functions → Tm → List InductionCase → List Sequent → Bool
all_fall W m [] [] = true
all_fall W m [] (q ∷ qs) = false
all_fall W m (c ∷ cs) [] = false
all_fall W m (c ∷ cs) (q ∷ qs) = falls_in W m c q && all_fall W m cs qs

-- the universals, and those of further sequents, from left to right
abbrev pub with_universals : List Tm → List Sequent → List Tm
with_universals us [] = us
with_universals us (q ∷ qs) = with_universals (join us q.universals) qs

-- induction: m is a natural number, b has its goal from induction hypotheses alone, and in each case m falls
abbrev pub induced : Functions → Tm → List InductionCase → Sequent → Sequent → List Sequent → Option Sequent
induced W m cs p b qs =
    if says_natural m p && all_assumed b.goal cs b.hyps && all_fall W m cs qs
    then Some (record { universals = with_universals (join p.universals b.universals) qs; hyps = []; goal = b.goal })
    else None
