-- Recursive calls as the code has them.
use Rattle.std.specs.Prelude.{◌≡◌, ◌+◌, ℕ, cond, bytes_eq}
use Rattle.lisp_data.specs.Values.{Name}
use Rattle.terms.specs.Terms.{Tm, Var, Quote, Call, Tms, Done, More, tms, Over}
use Rattle.terms.specs.Measures.{RecursiveCall, Place, Plain, Test, Then, Else}
use Rattle.measures.specs.declared.calls.RecursiveCall.{RecursiveCall as CallInCode}
use Rattle.measures.specs.declared.calls.Position.{Position}
use Rattle.measures.specs.declared.calls.Position.TheVariants as position

abbrev pub call_of : CallInCode → RecursiveCall
call_of c = record { tests = c.tests; args = tms c.args }

abbrev pub place_of : Position → Place
place_of position.Plain = Plain
place_of (position.Test c) = Test c.now
place_of (position.Then c) = Then c.now
place_of (position.Else c) = Else c.now

-- each call of f has so many arguments
abbrev pub CallsTake : Name → ℕ → Tm → Type 0
CallsTake f n = Over (λ x. Unit {0}) (λ g k. g ≡ f → k ≡ n)

-- how many calls of f stand in the term
abbrev mutual
  pub calls_of : Name → Tm → ℕ
  calls_of f (Var x) = 0
  calls_of f (Quote v) = 0
  calls_of f (Call g ts) = cond (bytes_eq f g) 1 0 + calls_in f ts

  pub calls_in : Name → Tms → ℕ
  calls_in f Done = 0
  calls_in f (More t ts) = calls_of f t + calls_in f ts
