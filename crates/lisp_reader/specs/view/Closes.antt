-- Where lists close.
use Rattle.std.specs.Prelude.{ℕ, zero, suc, ◌+◌, ◌-◌, Bool, true, List, drop}
use Rattle.lisp_data.specs.Datum.{Datum, chain}
use Rattle.lisp_reader.specs.Grammar.{Read, Got, Bad, shift, mapped, closing, last, form}
use Rattle.lisp_reader.specs.declared.limits.TheConstants.{MAX_NESTING}

module _ (more : Bool) where
  -- after a form that was read as the last of a list: the place where the list closes
  abbrev pub close : List ℕ → Read → Read
  close bytes (Got f n) = shift (n + 1) (closing more f (drop (n + 1) bytes))
  close bytes (Bad c n) = Bad c n

  -- the same of so many lists, each the last form of the next
  abbrev pub closed : List ℕ → ℕ → Read → Read
  closed bytes zero r = r
  closed bytes (suc j) r = closed bytes j (close bytes r)

  -- what is read after the point of a list with these items, in so many lists and quotes, of which so many are joined to it
  abbrev pub tail_at : List ℕ → ℕ → ℕ → List Datum → ℕ → Read
  tail_at bytes joined depth items place = closed bytes joined (mapped (chain items) (shift place (last more (form more true (MAX_NESTING - depth)) (drop place bytes))))
