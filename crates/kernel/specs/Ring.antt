-- The rule on polynomials.
use Rattle.std.specs.Prelude.{◌&&◌, not, is_some, if◌then◌else◌, Option, Some, None}
use Rattle.lisp_data.specs.declared.code.Code.{Code}
use Rattle.lisp_data.specs.declared.code.Code.TheVariants.{ProofWrong, RingTooWide, RingTooLarge}
use Rattle.terms.specs.Terms.{Tm}
use Rattle.terms.specs.Worlds.{Functions}
use Rattle.terms.specs.declared.sequent.Sequent.{Sequent}
use Rattle.ring_laws.specs.declared.errors.RingError.{RingError}
use Rattle.ring_laws.specs.declared.errors.RingError.TheVariants.{TooWide, TooLarge}
use Rattle.ring_laws.specs.Expressions.{is_arithmetic}
use Rattle.ring_laws.specs.Limits.{excess_of}
use Rattle.ring_laws.specs.Polynomials.{same_polynomial}
use Rattle.kernel.specs.Fitting.{fits}
use Rattle.kernel.specs.Sequents.{equation, of_goal}

-- two arithmetic terms that are the same polynomial, within the limits
abbrev pub are_same : Tm → Tm → Option Sequent
are_same a b =
    if is_arithmetic a && is_arithmetic b && not (is_some (excess_of a b)) && same_polynomial a b
    then Some (of_goal (equation a b))
    else None

-- ring: `(equal a b)`, where a and b are the same polynomial
abbrev pub ringed : Functions → Tm → Tm → Option Sequent
ringed W a b = if fits W a && fits W b then are_same a b else None

abbrev pub code_of_excess : Option RingError → Code
code_of_excess (Some TooWide) = RingTooWide
code_of_excess (Some TooLarge) = RingTooLarge
code_of_excess _ = ProofWrong

-- the code of a comparison that concludes nothing: the limit that two arithmetic terms pass
abbrev pub ring_code : Tm → Tm → Code
ring_code a b = if is_arithmetic a && is_arithmetic b then code_of_excess (excess_of a b) else ProofWrong
