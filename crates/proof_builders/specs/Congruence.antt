-- Two terms that are the same but for calls of one function are equal where those calls are.
use Rattle.std.specs.Prelude.{◌≡◌, ℕ, suc, Bool, cond, List, [], ◌∷◌, ◌++◌, bytes_eq, Some, if◌then◌else◌}
use Rattle.std.specs.List.{list_any}
use Rattle.lisp_data.specs.Values.{Name}
use Rattle.terms.specs.BuiltIn.{no}
use Rattle.terms.specs.Measures.{Place, Plain, Test, Then, Else, tests_at, next, first_place}
use Rattle.terms.specs.Terms.{Tm, Var, Quote, Call, Tms, Done, More, same_tm}
use Rattle.terms.specs.Worlds.{World}
use Rattle.terms.specs.declared.sequent.Sequent.{Sequent}
use Rattle.kernel.specs.Concludes.{concludes}
use Rattle.kernel.specs.Conclusion.{Conclusion}
use Rattle.kernel.specs.Sequents.{equation, negation, conditional}
use Rattle.plans.specs.Proving.{proves}
use Rattle.reduction_proofs.specs.Derived.{turned}
use Rattle.reduction_proofs.specs.Proving.{Proves}
use Rattle.reduction_proofs.specs.Trees.{Proof, Hyp, Refl, Replace, IfTrue, IfFalse, Cases}
use Rattle.proof_builders.specs.Derived.{chained}

abbrev pub args_in : Tm → Tms
args_in (Var x) = Done
args_in (Quote v) = Done
args_in (Call g ts) = ts

-- the first argument, and the others; where there is none, 'nil stands for it
abbrev pub first : Tms → Tm
first Done = no
first (More t ts) = t

abbrev pub others : Tms → Tms
others Done = Done
others (More t ts) = ts

-- the second term is the first but for what stands at the first one's calls of f
abbrev mutual
  pub Alike : Name → Tm → Tm → Type 0
  Alike f (Var x) u = Var x ≡ u
  Alike f (Quote v) u = Quote v ≡ u
  Alike f (Call g ts) u = cond (bytes_eq f g) (Unit {0}) ((Call g (args_in u) ≡ u) × AlikeAll f ts (args_in u))

  pub AlikeAll : Name → Tms → Tms → Type 0
  AlikeAll f Done us = Done ≡ us
  AlikeAll f (More t ts) us = (More (first us) (others us) ≡ us) × Alike f t (first us) × AlikeAll f ts (others us)

-- a call and what stands in its place, with the tests on the way to it
pub record Difference : Type 0 where
  pub tests : List Tm
  pub old : Tm
  pub new : Tm

abbrev pub differing : List Tm → Tm → Tm → List Difference
differing tests a b = cond (same_tm a b) [] (record { tests = tests; old = a; new = b } ∷ [])

-- the calls of f in the first term in whose place another term stands in the second, in the order of the text
abbrev mutual
  pub differences : Name → List Tm → Tm → Tm → List Difference
  differences f tests (Var x) u = []
  differences f tests (Quote v) u = []
  differences f tests (Call g ts) u =
      cond (bytes_eq f g) (differing tests (Call g ts) u) (differences_in f (first_place f g ts) tests ts (args_in u))

  pub differences_in : Name → Place → List Tm → Tms → Tms → List Difference
  differences_in f p tests Done us = []
  differences_in f p tests (More t ts) us =
      differences f (tests_at p tests) t (first us) ++ differences_in f (next p) tests ts (others us)

-- a proof for each difference
abbrev pub Finder : Type 0
Finder = Difference → Proof

-- it is a proof of the difference's equation, under the hypotheses and the difference's tests
abbrev pub IsFound : World → List Tm → List Tm → Finder → Difference → Type 0
IsFound W us hs found d = Proves W us (hs ++ d.tests) (equation d.old d.new) (found d)

abbrev pub of_call : Finder → List Tm → Tm → Tm → Proof
of_call found tests a b = cond (same_tm a b) (Refl a) (found (record { tests = tests; old = a; new = b }))

-- one argument after the other, from the argument n on
abbrev pub each_replaced : ℕ → List Proof → Proof → Proof
each_replaced n [] R = R
each_replaced n (P ∷ ps) R = each_replaced (suc n) ps (Replace P R (2 ∷ n ∷ []))

-- of an equation for the branches that a true test chooses, and of one for those that a false test does, one for the whole `if`s
abbrev pub where_true : Tm → Tm → Tm → Tm → Tm → Tm → Proof → Proof
where_true c a b a' b' new P = chained (IfTrue (Hyp c) a b) (chained P (turned (IfTrue (Hyp c) a' b') new))

abbrev pub where_false : Tm → Tm → Tm → Tm → Tm → Tm → Proof → Proof
where_false c a b a' b' new Q =
    chained (IfFalse (Hyp (negation c)) a b) (chained Q (turned (IfFalse (Hyp (negation c)) a' b') new))

-- of equations for the branches, each under the test or its negation, one for the `if`s with this test
abbrev pub by_test : Tm → Tm → Tm → Tm → Tm → Proof → Proof → Proof
by_test c a b a' b' P Q =
    Cases c (where_true c a b a' b' (conditional c a' b') P) (where_false c a b a' b' (conditional c a' b') Q)

abbrev pub by_branches : Tm → Tms → Tms → List Proof → Proof
by_branches c ts us (P ∷ Q ∷ R ∷ ps) =
    by_test c (first (others ts)) (first (others (others ts))) (first (others us)) (first (others (others us))) Q R
by_branches c ts us _ = Refl c

-- of an equation for each argument ts of the call a, one for the call
abbrev pub of_args : Place → Tm → Tms → Tms → List Proof → Proof
of_args Plain a ts us ps = each_replaced 1 ps (Refl a)
of_args (Test c) a ts us ps = by_branches c ts us ps
of_args (Then c) a ts us ps = Refl c
of_args (Else c) a ts us ps = Refl c

abbrev mutual
  pub congruence : Name → Finder → List Tm → Tm → Tm → Proof
  congruence f found tests (Var x) u = Refl (Var x)
  congruence f found tests (Quote v) u = Refl (Quote v)
  congruence f found tests (Call g ts) u =
      cond (bytes_eq f g) (of_call found tests (Call g ts) u)
      (of_args (first_place f g ts) (Call g ts) ts (args_in u) (congruences f found (first_place f g ts) tests ts (args_in u)))

  pub congruences : Name → Finder → Place → List Tm → Tms → Tms → List Proof
  congruences f found p tests Done us = []
  congruences f found p tests (More t ts) us =
      congruence f found (tests_at p tests) t (first us) ∷ congruences f found (next p) tests ts (others us)

-- what has to be proved of a difference
abbrev pub condition : List Tm → List Tm → Difference → Sequent
condition us hs d = record { universals = us; hyps = hs ++ d.tests; goal = equation d.old d.new }

-- the proof of the first sequent that proves this; where none does the goal as a hypothesis stands for one
abbrev pub proof_from : List Conclusion → Sequent → Proof
proof_from [] s = Hyp s.goal
proof_from (c ∷ cs) s = if proves c.sequent s then c.proof else proof_from cs s

abbrev pub proof_among : List Conclusion → List Tm → List Tm → Finder
proof_among cs us hs d = proof_from cs (condition us hs d)

-- it is concluded by its proof
abbrev pub IsConcluded : World → Conclusion → Type 0
IsConcluded W c = concludes W c.proof ≡ Some c.sequent

-- one of them proves it
abbrev pub is_proved_among : List Conclusion → List Tm → List Tm → Difference → Bool
is_proved_among cs us hs d = list_any (λ c. proves c.sequent (condition us hs d)) cs
