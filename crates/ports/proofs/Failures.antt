-- The count of failures from call to call.
use Rattle.std.proofs.Common.{◌≡◌, ℕ, ◌+◌, ◌-◌, ◌^◌, ◌≤◌, ◌<◌, Bool, true, List, refl, ◌∙◌, ap, arith, add-one, if◌then◌else◌, nat_lt, ◌&&◌, inl, inr, nat_eq}
use Rattle.std.proofs.lemmas.Bool.Decides.{nat_tests}
use Rattle.std.proofs.lemmas.Bool.{cases_lt}
use Rattle.ports.specs.Calls.{fails, failing_among, made_after}
use Rattle.std.specs.List.{list_any}
use Rattle.ports.specs.Causes.{Rose}

pub failing_among-more : (failing : List ℕ) (made : ℕ) → failing_among failing (made + 1) ≡ failing_among failing made + (if fails failing (made + 1) then 1 else 0)
unfolding failing_among
failing_among-more failing made = rw add-one refl

-- no failure is taken back by one more call
pub failing_among-grow : (failing : List ℕ) (made : ℕ) → failing_among failing made ≤ failing_among failing (made + 1)
failing_among-grow failing made = rw failing_among-more (omega arith)

pub failing_among-later : (failing : List ℕ) (made : ℕ) → made < 2 ^ 64 → failing_among failing made ≤ failing_among failing (made_after made)
failing_among-later failing made h =
    elim (cases_lt made (2 ^ 64 - 1)) [
      | inl k ↦ let e : made_after made ≡ made + 1 = omega arith in rw e (failing_among-grow failing made)
      | inr k ↦ let e : made_after made ≡ made = omega arith in rw e (omega arith)
    ]

below : (n : ℕ) (b : Bool) → (nat_lt n (2 ^ 64) && b) ≡ true → n < 2 ^ 64
below n b h = grind (arith, nat_tests)

-- a call fails, and the count rises
pub failing_among-rose : (failing : List ℕ) (made : ℕ) → fails failing (made + 1) ≡ true → Rose (failing_among failing made) (failing_among failing (made_after made))
failing_among-rose failing made h =
    let k : made + 1 < 2 ^ 64 = below (made + 1) _ h in
    let e : made_after made ≡ made + 1 = omega arith in
    let m : failing_among failing (made + 1) ≡ failing_among failing made + 1 = failing_among-more failing made ∙ ap (λ b. failing_among failing made + (if b then 1 else 0)) h in
    rw e (omega arith)

pub failing_among-rise : (failing : List ℕ) (made : ℕ) → made + 1 < 2 ^ 64 → list_any (λ listed. nat_eq listed (made + 1)) failing ≡ true → Rose (failing_among failing made) (failing_among failing (made + 1))
failing_among-rise failing made k h =
    let t : nat_lt (made + 1) (2 ^ 64) ≡ true = grind (arith, nat_tests) in
    let m : failing_among failing (made + 1) ≡ failing_among failing made + 1 = failing_among-more failing made ∙ ap (λ b. failing_among failing made + (if b then 1 else 0)) (ap (λ b. b && list_any (λ listed. nat_eq listed (made + 1)) failing) t ∙ h) in
    omega arith

pub ruleset failure_steps = (failing_among-later, failing_among-rose)
