-- Arguments by their numbers.
use Rattle.std.proofs.Common.{◌≡◌, ℕ, zero, suc, ◌-◌, ◌<◌, List, [], ◌∷◌, length, slice_set, refl, ap, arith}
use Rattle.std.specs.List.{slice_get}
use Rattle.terms.specs.Terms.{Tm, More, tms}
use Rattle.terms.specs.Paths.{argument, with_arg}

argument_suc : (ts : List Tm) (i : ℕ) → argument (suc i) (tms ts) ≡ slice_get ts i
argument_suc [] i = refl
argument_suc (t ∷ ts) zero = refl
argument_suc (t ∷ ts) (suc i) = argument_suc ts i

-- the argument of a number is the item at the place below
pub argument-tms : (ts : List Tm) (k : ℕ) → 0 < k → argument k (tms ts) ≡ slice_get ts (k - 1)
argument-tms ts zero h = absurd (omega arith)
argument-tms ts (suc k) h = let e : suc k - 1 ≡ k = omega arith in rw e (argument_suc ts k)

with_suc : (ts : List Tm) (i : ℕ) (u : Tm) → with_arg (suc i) u (tms ts) ≡ tms (slice_set ts i u)
with_suc [] i u = refl
with_suc (t ∷ ts) zero u = refl
with_suc (t ∷ ts) (suc i) u = ap (λ r. More t r) (with_suc ts i u)

pub with_arg-tms : (ts : List Tm) (k : ℕ) (u : Tm) → 0 < k → with_arg k u (tms ts) ≡ tms (slice_set ts (k - 1) u)
with_arg-tms ts zero u h = absurd (omega arith)
with_arg-tms ts (suc k) u h = let e : suc k - 1 ≡ k = omega arith in rw e (with_suc ts k u)

with_past : (ts : List Tm) (k : ℕ) (u : Tm) → length ts < suc k → with_arg (suc k) u (tms ts) ≡ tms ts
with_past [] k u h = refl
with_past (t ∷ ts) zero u h = absurd (omega arith)
with_past (t ∷ ts) (suc k) u h = ap (λ r. More t r) (with_past ts k u (omega arith))

pub with_arg_past : (ts : List Tm) (k : ℕ) (u : Tm) → length ts < k → with_arg k u (tms ts) ≡ tms ts
with_arg_past ts zero u h = refl
with_arg_past ts (suc k) u h = with_past ts k u h

pub ruleset places = (argument-tms, with_arg-tms, with_arg_past)
