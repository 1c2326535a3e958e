-- The limits of a translated term.
use Rattle.std.proofs.Common.{◌≡◌, ◌<◌, ◌≤◌, Bool, true, false, Ok, ◌&&◌, nat_le, if◌then◌else◌, refl, ap, ◌∙◌, arith}
use Rattle.std.proofs.lemmas.Bool.Decides.{nat_tests}
use Rattle.terms.specs.Terms.{Tm, nodes}
use Rattle.term_forms.specs.Translation.{levels, limited, too_large}
use Rattle.term_forms.specs.declared.limits.TheConstants.{MAX_LEVELS, MAX_NODES}

pub limited-within : (t : Tm) → nodes t ≤ MAX_NODES → levels t ≤ MAX_LEVELS → limited t ≡ Ok t
limited-within t n h = by_tests (nat_le (nodes t) MAX_NODES) (nat_le (levels t) MAX_LEVELS) (grind (arith, nat_tests)) (grind (arith, nat_tests))
  where
    by_tests : (a b : Bool) → a ≡ true → b ≡ true → (if a && b then Ok t else too_large) ≡ Ok t
    by_tests a b p q = ap (λ a. if a && b then Ok t else too_large) p ∙ ap (λ b. if b then Ok t else too_large) q

pub limited-nodes : (t : Tm) → MAX_NODES < nodes t → limited t ≡ too_large
limited-nodes t n = ap (λ a. if a && nat_le (levels t) MAX_LEVELS then Ok t else too_large) few
  where
    few : nat_le (nodes t) MAX_NODES ≡ false
    few = grind (arith, nat_tests)

pub limited-levels : (t : Tm) → MAX_LEVELS < levels t → limited t ≡ too_large
limited-levels t n = by_tests (nat_le (nodes t) MAX_NODES) (nat_le (levels t) MAX_LEVELS) (grind (arith, nat_tests))
  where
    by_tests : (a b : Bool) → b ≡ false → (if a && b then Ok t else too_large) ≡ too_large
    by_tests true b q = ap (λ b. if b then Ok t else too_large) q
    by_tests false b q = refl

pub ruleset limits = (limited-within, limited-nodes, limited-levels)
