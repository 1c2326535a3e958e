-- Parts of a term, by paths of argument numbers from 1.
use Rattle.std.specs.Prelude.{ℕ, zero, suc, List, [], ◌∷◌, Option, Some, None}
use Rattle.std.specs.Option.{option_map}
use Rattle.terms.specs.Terms.{Tm, Var, Quote, Call, Tms, Done, More}

-- the argument of a number
abbrev pub argument : ℕ → Tms → Option Tm
argument zero ts = None
argument (suc n) Done = None
argument (suc zero) (More t ts) = Some t
argument (suc (suc n)) (More t ts) = argument (suc n) ts

abbrev pub argument_of : ℕ → Tm → Option Tm
argument_of k (Var x) = None
argument_of k (Quote v) = None
argument_of k (Call f ts) = argument k ts

-- the arguments with another at a number
abbrev pub with_arg : ℕ → Tm → Tms → Tms
with_arg zero u ts = ts
with_arg (suc n) u Done = Done
with_arg (suc zero) u (More t ts) = More u ts
with_arg (suc (suc n)) u (More t ts) = More t (with_arg (suc n) u ts)

abbrev pub with_argument : ℕ → Tm → Tm → Tm
with_argument k u (Var x) = Var x
with_argument k u (Quote v) = Quote v
with_argument k u (Call f ts) = Call f (with_arg k u ts)

abbrev pub then_at : (Tm → Option Tm) → Option Tm → Option Tm
then_at g None = None
then_at g (Some t) = g t

-- the part at a path
abbrev pub part_at : List ℕ → Tm → Option Tm
part_at [] t = Some t
part_at (k ∷ ks) t = then_at (part_at ks) (argument_of k t)

-- the term with u at a path
abbrev pub put_part : List ℕ → Tm → Tm → Option Tm
put_part [] u t = Some u
put_part (k ∷ ks) u t = then_at (λ a. option_map (λ new. with_argument k new t) (put_part ks u a)) (argument_of k t)
