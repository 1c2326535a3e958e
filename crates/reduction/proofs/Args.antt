-- Calls of known functions.
use Rattle.std.proofs.Common.{◌≡◌, ◌≢◌, List, [], ◌∷◌, length, None, refl}
use Rattle.std.proofs.lemmas.List.{drop_all}
use Rattle.terms.specs.Terms.{Tm, tms}
use Rattle.terms.proofs.Args.{args as terms_args, count-tms}
use Rattle.reduction.specs.Finding.{one_arg, two_args, three_args}

pub ruleset args = (terms_args, drop_all)

pub ruleset counts = (count-tms)

pub one_arg-other : (ts : List Tm) → length ts ≢ 1 → one_arg (tms ts) ≡ None
one_arg-other [] h = refl
one_arg-other (a ∷ []) h = absurd (h refl)
one_arg-other (a ∷ b ∷ ts) h = refl

pub two_args-other : (ts : List Tm) → length ts ≢ 2 → two_args (tms ts) ≡ None
two_args-other [] h = refl
two_args-other (a ∷ []) h = refl
two_args-other (a ∷ b ∷ []) h = absurd (h refl)
two_args-other (a ∷ b ∷ c ∷ ts) h = refl

pub three_args-other : (ts : List Tm) → length ts ≢ 3 → three_args (tms ts) ≡ None
three_args-other [] h = refl
three_args-other (a ∷ []) h = refl
three_args-other (a ∷ b ∷ []) h = refl
three_args-other (a ∷ b ∷ c ∷ []) h = absurd (h refl)
three_args-other (a ∷ b ∷ c ∷ d ∷ ts) h = refl

pub ruleset shapes = (one_arg-other, two_args-other, three_args-other)
