-- What calls of other numbers of arguments are read as.
use Rattle.std.proofs.Common.{◌≡◌, ◌≢◌, List, [], ◌∷◌, length, refl}
use Rattle.lisp_data.specs.Values.{Name}
use Rattle.terms.specs.Terms.{Tm, tms}
use Rattle.ring_laws.specs.Expressions.{Atom, of_call, expressions}

pub of_call-other : (f : Name) (t : Tm) (ts : List Tm) → length ts ≢ 1 → length ts ≢ 2 → of_call f t (expressions (tms ts)) ≡ Atom t
of_call-other f t [] h g = refl
of_call-other f t (a ∷ []) h g = absurd (h refl)
of_call-other f t (a ∷ b ∷ []) h g = absurd (g refl)
of_call-other f t (a ∷ b ∷ c ∷ ts) h g = refl

pub ruleset parts = (of_call-other)
