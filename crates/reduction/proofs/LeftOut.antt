-- Hypotheses that may be left out.
use Rattle.std.proofs.Common.{◌≡◌, Bool, true, false, if◌then◌else◌, Option, Some, None, refl}
use Rattle.terms.specs.Terms.{Tm}
use Rattle.reduction.specs.Hyps.{is_left_out}
use Rattle.reduction.specs.Finders.{by_equation, by_other}

-- one of which nothing comes gives nothing, left out or not
pub other-none : (k : Option Tm) (t h : Tm) → by_equation t h ≡ None → by_other k t h ≡ None
other-none k t h e = by_test (is_left_out k h)
  where
    by_test : (b : Bool) → (if b then None else by_equation t h) ≡ None
    by_test true = refl
    by_test false = e

pub ruleset left_out = (other-none)
