-- What is kept of the steps of lists of proofs.
use Rattle.std.proofs.Common.{◌≡◌, ◌+◌, ◌*◌, ◌/◌, ◌%◌, ◌^◌, ◌<◌, ◌≤◌, ◌==◌, ◌||◌, ℕ, Bool, true, false, max, List, [], ◌∷◌, ◌++◌, length, get_or, take, refl, sym, ap, ◌∙◌, subst, arith}
use Rattle.std.specs.Int.{bit_at, w32}
use Rattle.std.specs.Prelude.{bit_or, bit_and}
use Rattle.std.proofs.lemmas.Bool.{eqb-true, eqb-false, ne_eqb}
use Rattle.std.proofs.lemmas.List.{take_more, take_all}
use Rattle.std.proofs.lemmas.Nat.Bits.{bit_at_or, bit_at_set_same, bit_at_set_other, shr_and_one}
use Rattle.proof_objects.specs.RuleNames.{number}
use Rattle.proof_objects.specs.StepRules.{rule_of, cites_measure}
use Rattle.proof_objects.specs.declared.rule.Rule.{Rule}
use Rattle.proof_objects.specs.declared.rule.Rule.TheVariants.{Hyp, Refl, Replace, Unfold, Eval, Substitute, IfTrue, IfFalse, Cases, Cut, Weaken, Contradict, Axiom, Ring, ImpliesIn, ImpliesOut, Universal, Discharge, Theorem, Instance, Induct}
use Rattle.proof_objects.specs.declared.step.Step.{Step}
use Rattle.proof_objects.specs.declared.summary.Summary.{Summary}
use Rattle.proof_objects.specs.ProofTrees.{ProofTree, By, Trees, NoMore, Also, trees, steps, steps_in, any_step, any_step_in, has_rule}
use Rattle.proof_objects.specs.view.Summaries.{fitted, bit, Sums, SumsIn, IsBoth}

pub number_small : (r : Rule) → number r < 32
number_small Hyp = omega arith
number_small Refl = omega arith
number_small Replace = omega arith
number_small Unfold = omega arith
number_small Eval = omega arith
number_small Substitute = omega arith
number_small IfTrue = omega arith
number_small IfFalse = omega arith
number_small Cases = omega arith
number_small Cut = omega arith
number_small Weaken = omega arith
number_small Contradict = omega arith
number_small Axiom = omega arith
number_small Ring = omega arith
number_small ImpliesIn = omega arith
number_small ImpliesOut = omega arith
number_small Universal = omega arith
number_small Discharge = omega arith
number_small Theorem = omega arith
number_small Instance = omega arith
number_small Induct = omega arith

or_false : (b : Bool) → (b || false) ≡ b
or_false true = refl
or_false false = refl

or_later : (a b c : Bool) → ((a || b) || c) ≡ (a || (b || c))
or_later true b c = refl
or_later false b c = refl

bit_or_is : (a b : Bool) → max (bit a) (bit b) ≡ bit (a || b)
bit_or_is true true = refl
bit_or_is true false = refl
bit_or_is false true = refl
bit_or_is false false = refl

pub steps-append : (xs ys : List ProofTree) → steps_in (trees (xs ++ ys)) ≡ steps_in (trees xs) + steps_in (trees ys)
steps-append [] ys = omega arith
steps-append (x ∷ xs) ys = omega (arith, steps-append xs ys)

any-append : (is : Step → Bool) (xs ys : List ProofTree) → any_step_in is (trees (xs ++ ys)) ≡ (any_step_in is (trees xs) || any_step_in is (trees ys))
any-append is [] ys = refl
any-append is (x ∷ xs) ys = ap (λ b. any_step is x || b) (any-append is xs ys) ∙ sym (or_later (any_step is x) (any_step_in is (trees xs)) (any_step_in is (trees ys)))

any-more : (is : Step → Bool) (ps : List ProofTree) (i : ℕ) (d : ProofTree) → i < length ps → any_step_in is (trees (take (i + 1) ps)) ≡ (any_step_in is (trees (take i ps)) || any_step is (get_or ps i d))
any-more is ps i d h =
    ap (λ xs. any_step_in is (trees xs)) (take_more ps i d h) ∙ any-append is (take i ps) (get_or ps i d ∷ [])
    ∙ ap (λ b. any_step_in is (trees (take i ps)) || b) (or_false (any_step is (get_or ps i d)))

steps-more : (ps : List ProofTree) (i : ℕ) (d : ProofTree) → i < length ps → steps_in (trees (take (i + 1) ps)) ≡ steps_in (trees (take i ps)) + steps (get_or ps i d)
steps-more ps i d h = omega (arith, ap (λ xs. steps_in (trees xs)) (take_more ps i d h), steps-append (take i ps) (get_or ps i d ∷ []))

-- the first proofs, and one more
pub sums-next : (ps : List ProofTree) (i : ℕ) (d : ProofTree) → i < length ps → (a b c : Summary) → SumsIn a (trees (take i ps)) → Sums b (get_or ps i d) → IsBoth a b c → SumsIn c (trees (take (i + 1) ps))
sums-next ps i d h a b c sa sb both = record {
  count = omega (arith, both.count, sa.count, sb.count, steps-more ps i d h);
  rules = λ n.
      ap (λ r. bit_at r n) both.rules ∙ bit_at_or a.rules b.rules n
      ∙ (λ j. max (sa.rules n j) (sb.rules n j))
      ∙ bit_or_is (any_step_in (λ s. number (rule_of s) == n) (trees (take i ps))) (has_rule n (get_or ps i d))
      ∙ ap bit (sym (any-more (λ s. number (rule_of s) == n) ps i d h));
  owed = both.owed ∙ (λ j. sa.owed j || sb.owed j) ∙ sym (any-more cites_measure ps i d h);
}

pub sums-start : (a : Summary) (ps : List ProofTree) → SumsIn a NoMore → SumsIn a (trees (take 0 ps))
sums-start a ps h = h

pub sums-end : (a : Summary) (ps : List ProofTree) (i : ℕ) → length ps ≤ i → SumsIn a (trees (take i ps)) → SumsIn a (trees ps)
sums-end a ps i h s = subst (λ xs. SumsIn a (trees xs)) (take_all i ps h) s

or_swap : (a b : Bool) → (a || b) ≡ (b || a)
or_swap true true = refl
or_swap true false = refl
or_swap false true = refl
or_swap false false = refl

ruled : (k n : ℕ) → k < 32 → (r : ℕ) (b : Bool) → bit_at r n ≡ bit b → bit_at (bit_or r (1 * 2 ^ k % 2 ^ 32)) n ≡ bit ((k == n) || b)
ruled k n lt r b e = by_test (k == n) refl
  where
    by_test : (t : Bool) → (k == n) ≡ t → bit_at (bit_or r (1 * 2 ^ k % 2 ^ 32)) n ≡ bit (t || b)
    by_test true is = subst (λ m. bit_at (bit_or r (1 * 2 ^ k % 2 ^ 32)) m ≡ 1) (eqb-true k n is) (bit_at_set_same w32 r k lt)
    by_test false is = bit_at_set_other w32 r k lt n (λ same. eqb-false k n is (sym same)) ∙ e

-- a step and those of its subproofs
pub sums-step : (a c : Summary) (s : Step) (ps : Trees) → c.count ≡ fitted (a.count + 1) → c.rules ≡ bit_or a.rules (1 * 2 ^ number (rule_of s) % 2 ^ 32) → c.owed ≡ (a.owed || cites_measure s) → SumsIn a ps → Sums c (By s ps)
sums-step a c s ps e r o h = record {
  count = omega (arith, e, h.count);
  rules = λ n. ap (λ k. bit_at k n) r ∙ ruled (number (rule_of s)) n (number_small (rule_of s)) a.rules _ (h.rules n);
  owed = o ∙ ap (λ b. b || cites_measure s) h.owed ∙ or_swap (any_step_in cites_measure ps) (cites_measure s);
}

pub or_then : (a b : Bool) → a ≡ true → a ≡ (a || b)
or_then true b e = refl
or_then false b e = absurd (cc)

pub or_else : (a b c : Bool) → a ≡ false → c ≡ b → c ≡ (a || b)
or_else true b c e same = absurd (cc)
or_else false b c e same = same

is_one : (b : Bool) → (bit b == 1) ≡ b
is_one true = refl
is_one false = refl

-- the bit of a rule's number
pub bit_found : (s : Summary) (p : ProofTree) (n : ℕ) → Sums s p → (bit_and (s.rules / 2 ^ n) 1 == 1) ≡ has_rule n p
bit_found s p n h = ap (λ k. k == 1) (shr_and_one s.rules n ∙ h.rules n) ∙ is_one (has_rule n p)

mutual
  pub none_from : (n : ℕ) → 32 ≤ n → (p : ProofTree) → has_rule n p ≡ false
  none_from n le (By s ps) = λ i. ne_eqb (number (rule_of s)) n (λ same. absurd (omega (arith, number_small (rule_of s), same))) i || none_in n le ps i

  none_in : (n : ℕ) → 32 ≤ n → (ps : Trees) → any_step_in (λ s. number (rule_of s) == n) ps ≡ false
  none_in n le NoMore = refl
  none_in n le (Also p ps) = λ i. none_from n le p i || none_in n le ps i

pub ruleset summaries = (sums-start, sums-next, sums-end)
