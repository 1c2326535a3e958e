-- The primitives, as one table of what each does with values.
use Rattle.std.specs.Prelude.{ℕ, ◌+◌, Bool, true, false, cond, List, [], ◌∷◌, ℤ, pos, ◌+ℤ◌, ◌*ℤ◌, neg_ℤ, nat_abs, int_lt, bytes_eq, codes, Option, Some, None}
use Rattle.lisp_data.specs.Values.{Name, Val, Int, Sym, Pair, nil, same_val}

-- T or NIL
abbrev pub truth : Bool → Val
truth true = Sym (codes "T")
truth false = nil

abbrev pub is_nil : Val → Bool
is_nil v = same_val v nil

abbrev pub is_int : Val → Bool
is_int (Int a) = true
is_int _ = false

abbrev pub is_sym : Val → Bool
is_sym (Sym s) = true
is_sym _ = false

abbrev pub is_pair : Val → Bool
is_pair (Pair a b) = true
is_pair _ = false

abbrev pub car : Val → Val
car (Pair a b) = a
car _ = nil

abbrev pub cdr : Val → Val
cdr (Pair a b) = b
cdr _ = nil

-- what is no integer counts as 0
abbrev pub number : Val → ℤ
number (Int a) = a
number _ = pos 0

-- the sizes of its integers, and one for each pair
abbrev pub size : Val → ℕ
size (Int a) = nat_abs a
size (Sym s) = 0
size (Pair a b) = 1 + size a + size b

-- the third where the first is NIL, and else the second
abbrev pub choose : Val → Val → Val → Val
choose a b c = cond (is_nil a) c b

-- what a primitive does, by its number of arguments
pub data Operation : Type 0 where
  One : (Val → Val) → Operation
  Two : (Val → Val → Val) → Operation
  Three : (Val → Val → Val → Val) → Operation

abbrev pub operands : Operation → ℕ
operands (One f) = 1
operands (Two f) = 2
operands (Three f) = 3

abbrev pub operate : Operation → List Val → Option Val
operate (One f) (a ∷ []) = Some (f a)
operate (Two f) (a ∷ b ∷ []) = Some (f a b)
operate (Three f) (a ∷ b ∷ c ∷ []) = Some (f a b c)
operate _ _ = None

-- the first entry of a name
abbrev pub lookup : {A : Type 0} → List (Name × A) → Name → Option A
lookup [] x = None
lookup (e ∷ es) x = cond (bytes_eq e.0 x) (Some e.1) (lookup es x)

-- shut, since each goal would hold all of it
unfoldable pub primitives : List (Name × Operation)
primitives =
    (codes "IF", Three choose)
    ∷ (codes "EQUAL", Two (λ a b. truth (same_val a b)))
    ∷ (codes "CONS", Two Pair)
    ∷ (codes "BINARY-+", Two (λ a b. Int (number a +ℤ number b)))
    ∷ (codes "BINARY-*", Two (λ a b. Int (number a *ℤ number b)))
    ∷ (codes "<", Two (λ a b. truth (int_lt (number a) (number b))))
    ∷ (codes "CONSP", One (λ a. truth (is_pair a)))
    ∷ (codes "CAR", One car)
    ∷ (codes "CDR", One cdr)
    ∷ (codes "INTEGERP", One (λ a. truth (is_int a)))
    ∷ (codes "SYMBOLP", One (λ a. truth (is_sym a)))
    ∷ (codes "UNARY--", One (λ a. Int (neg_ℤ (number a))))
    ∷ (codes "ACL2-COUNT", One (λ a. Int (pos (size a))))
    ∷ []

unfoldable pub primitive : Name → Option Operation
primitive f = lookup primitives f
