-- What a proof keeps of its steps.
use Rattle.std.specs.Prelude.{◌≡◌, ℕ, ◌+◌, ◌-◌, ◌^◌, ◌==◌, ◌||◌, min, Bool, true, false, bit_or}
use Rattle.std.specs.Int.{bit_at}
use Rattle.proof_objects.specs.RuleNames.{number}
use Rattle.proof_objects.specs.StepRules.{rule_of, cites_measure}
use Rattle.proof_objects.specs.ProofTrees.{ProofTree, Trees, steps, steps_in, any_step_in, has_rule, has_measure}
use Rattle.proof_objects.specs.declared.summary.Summary.{Summary}

-- a number, or the largest one of 32 bits
abbrev pub fitted : ℕ → ℕ
fitted n = min n (2 ^ 32 - 1)

abbrev pub bit : Bool → ℕ
bit true = 1
bit false = 0

-- it is what is kept of this proof
pub record Sums (s : Summary) (p : ProofTree) : Type 0 where
  pub count : s.count ≡ fitted (steps p)
  pub rules : (n : ℕ) → bit_at s.rules n ≡ bit (has_rule n p)
  pub owed : s.owed ≡ has_measure p

-- the same of a list of proofs
pub record SumsIn (s : Summary) (ps : Trees) : Type 0 where
  pub count : s.count ≡ fitted (steps_in ps)
  pub rules : (n : ℕ) → bit_at s.rules n ≡ bit (any_step_in (λ s. number (rule_of s) == n) ps)
  pub owed : s.owed ≡ any_step_in cites_measure ps

-- it is what two come to together
pub record IsBoth (a b both : Summary) : Type 0 where
  pub count : both.count ≡ fitted (a.count + b.count)
  pub rules : both.rules ≡ bit_or a.rules b.rules
  pub owed : both.owed ≡ (a.owed || b.owed)
