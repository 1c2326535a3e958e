-- What a value is seen as.
use Rattle.std.specs.Prelude.{◌≡◌, ℕ, max, Result, Ok, Err}
use Rattle.lisp_data.specs.Values.{Val, path, pairs, IsSmall}
use Rattle.lisp_data.specs.Values as data_of
use Rattle.lisp_data.specs.declared.value.ValueError.{ValueError}
use Rattle.lisp_data.specs.declared.value.ValueError.TheVariants.{TooLarge, NotAValue, Memory}
use Rattle.lisp_data.specs.declared.value.Value.{Value}
use Rattle.lisp_data.specs.declared.value.Value.TheVariants.{Int, Sym, Pair}
use Rattle.lisp_data.specs.declared.value.PairNode.TheInside.{Inside}

-- the value without its pointers
abbrev pub val_of : Value → Val
val_of (Int z) = data_of.Int z
val_of (Sym s) = data_of.Sym s
val_of (Pair p) = data_of.Pair p.value.0 p.value.1

-- how deep the parts of a pair are
abbrev pub depth : Val → Val → ℕ
depth a d = max (path a) (path d)

-- the two numbers that a pair keeps are its own, and keep the limits
pub record IsCounted (a : Inside) : Type 0 where
  pub path_is : a.path ≡ path (data_of.Pair (val_of a.car) (val_of a.cdr))
  pub pairs_is : a.pairs ≡ pairs (data_of.Pair (val_of a.car) (val_of a.cdr))
  pub small : IsSmall (data_of.Pair (val_of a.car) (val_of a.cdr))

-- what making a pair answers
abbrev pub SaysPair : Val → Val → Result Value ValueError → Type 0
SaysPair a d (Ok v) = (val_of v ≡ data_of.Pair a d) × IsSmall (data_of.Pair a d)
SaysPair a d (Err TooLarge) = IsSmall (data_of.Pair a d) → ⊥
SaysPair a d (Err NotAValue) = ⊥
SaysPair a d (Err Memory) = IsSmall (data_of.Pair a d)
