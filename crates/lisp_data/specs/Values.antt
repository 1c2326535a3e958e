-- Values as plain data.
use Rattle.std.specs.Prelude.{◌≡◌, ◌+◌, ◌≤◌, ℕ, zero, suc, ℤ, pos, negsuc, max, Bool, false, ◌&&◌, bytes_eq, codes, List, [], ◌∷◌, Option, Some, None, refl}
use Rattle.std.specs.Ordering.{int_eq}
use Rattle.std.proofs.Common.{sym, ap, ◌∙◌}
use base.Stored.{Gv, gnil, gnum, gcons, num, Coded}
use Rattle.lisp_data.specs.view.Codes.{code_nats, nats_of, nats_of-code}
use Rattle.lisp_data.specs.declared.limits.TheConstants.{MAX_PATH, MAX_PAIRS}

-- the text of a symbol, as a list of bytes
abbrev pub Name : Type 0
Name = List ℕ

-- an integer of any size, a symbol, or a pair of values
pub data Val : Type 0 where
  Int : ℤ → Val
  Sym : Name → Val
  Pair : Val → Val → Val

abbrev pub nil : Val
nil = Sym (codes "NIL")

abbrev pub same_val : Val → Val → Bool
same_val (Int a) (Int b) = int_eq a b
same_val (Sym a) (Sym b) = bytes_eq a b
same_val (Pair a b) (Pair c d) = same_val a c && same_val b d
same_val _ _ = false

-- the longest way from the value down to an atom
abbrev pub path : Val → ℕ
path (Int z) = 0
path (Sym s) = 0
path (Pair a d) = max (path a) (path d) + 1

-- how many pairs it has
abbrev pub pairs : Val → ℕ
pairs (Int z) = 0
pairs (Sym s) = 0
pairs (Pair a d) = pairs a + pairs d + 1

abbrev pub car_of : Val → Option Val
car_of (Pair a d) = Some a
car_of (Int z) = None
car_of (Sym s) = None

abbrev pub cdr_of : Val → Option Val
cdr_of (Pair a d) = Some d
cdr_of (Int z) = None
cdr_of (Sym s) = None

-- it keeps the limits of a value
pub record IsSmall (v : Val) : Type 0 where
  pub path_fits : path v ≤ MAX_PATH
  pub pairs_fit : pairs v ≤ MAX_PAIRS

-- the code by which a proof tells values apart
abbrev pub code_val : Val → Gv
code_val (Int (pos n)) = gcons (gnum 0) (gnum n)
code_val (Int (negsuc n)) = gcons (gnum 1) (gnum n)
code_val (Sym s) = gcons (gnum 2) (code_nats s)
code_val (Pair a d) = gcons (gnum 3) (gcons (code_val a) (code_val d))

abbrev pub val_at : ℕ → Gv → Val → Val → Val
val_at zero g a d = Int (pos (num g))
val_at (suc zero) g a d = Int (negsuc (num g))
val_at (suc (suc zero)) g a d = Sym (nats_of g)
val_at (suc (suc (suc n))) g a d = Pair a d

abbrev pub val_from : Gv → Val
val_from gnil = Sym []
val_from (gnum n) = Sym []
val_from (gcons t gnil) = val_at (num t) gnil (Sym []) (Sym [])
val_from (gcons t (gnum n)) = val_at (num t) (gnum n) (Sym []) (Sym [])
val_from (gcons t (gcons a d)) = val_at (num t) (gcons a d) (val_from a) (val_from d)

pub val_from-code : (v : Val) → val_from (code_val v) ≡ v
val_from-code (Int (pos n)) = refl
val_from-code (Int (negsuc n)) = refl
val_from-code (Sym []) = refl
val_from-code (Sym (n ∷ ns)) = ap Sym (nats_of-code (n ∷ ns))
val_from-code (Pair a d) = λ i. Pair (val_from-code a i) (val_from-code d i)

abbrev pub val_code : Coded Val
val_code = record { code = code_val; inj = λ x y p. sym (val_from-code x) ∙ ap val_from p ∙ val_from-code y }
