-- Words of the syntax of terms that stand for other terms.
use Rattle.std.specs.Prelude.{ℕ, zero, suc, ℤ, pos, negsuc, ◌^◌, Bool, true, nat_eq, bytes_eq, if◌then◌else◌, codes, List, [], ◌∷◌, Option, Some, None}
use Rattle.lisp_data.specs.Values.{Name, Int, Sym, nil}
use Rattle.lisp_data.specs.Datum.{Datum, IntForm, SymForm, TextForm, PairForm}
use Rattle.terms.specs.Terms.{Tm, Quote}
use Rattle.terms.specs.Measures.{call1, call2, call3}

abbrev pub number : ℤ → Tm
number z = Quote (Int z)

abbrev pub true_term : Tm
true_term = Quote (Sym (codes "T"))

abbrev pub nil_term : Tm
nil_term = Quote nil

abbrev pub if_of : Tm → Tm → Tm → Tm
if_of a b c = call3 (codes "IF") a b c

abbrev pub plus : Tm → Tm → Tm
plus a b = call2 (codes "BINARY-+") a b

abbrev pub minus : Tm → Tm
minus a = call1 (codes "UNARY--") a

abbrev pub less : Tm → Tm → Tm
less a b = call2 (codes "<") a b

abbrev pub not_of : Tm → Tm
not_of a = call1 (codes "NOT") a

-- `'t`, a, or `(if a (and b ..) 'nil)`
abbrev pub conjunction : List Tm → Tm
conjunction [] = true_term
conjunction (a ∷ []) = a
conjunction (a ∷ b ∷ ts) = if_of a (conjunction (b ∷ ts)) nil_term

-- `'nil`, a, or `(if a a (or b ..))`
abbrev pub disjunction : List Tm → Tm
disjunction [] = nil_term
disjunction (a ∷ []) = a
disjunction (a ∷ b ∷ ts) = if_of a a (disjunction (b ∷ ts))

-- `'nil`, or `(cons a (list b ..))`
abbrev pub list_of : List Tm → Tm
list_of [] = nil_term
list_of (a ∷ ts) = call2 (codes "CONS") a (list_of ts)

-- `'0`, `(binary-+ '0 a)`, `(binary-+ a b)`, or `(binary-+ a (+ b c ..))`
abbrev pub sum : List Tm → Tm
sum [] = number (pos 0)
sum (a ∷ []) = plus (number (pos 0)) a
sum (a ∷ b ∷ []) = plus a b
sum (a ∷ b ∷ c ∷ ts) = plus a (sum (b ∷ c ∷ ts))

-- `'1`, `(binary-* '1 a)`, `(binary-* a b)`, or `(binary-* a (* b c ..))`
abbrev pub product : List Tm → Tm
product [] = number (pos 1)
product (a ∷ []) = call2 (codes "BINARY-*") (number (pos 1)) a
product (a ∷ b ∷ []) = call2 (codes "BINARY-*") a b
product (a ∷ b ∷ c ∷ ts) = call2 (codes "BINARY-*") a (product (b ∷ c ∷ ts))

-- `'nil`, a, or `(binary-append a (append b ..))`
abbrev pub appended : List Tm → Tm
appended [] = nil_term
appended (a ∷ []) = a
appended (a ∷ b ∷ ts) = call2 (codes "BINARY-APPEND") a (appended (b ∷ ts))

-- the negated integer of a literal other than the least integer of 128 bits
abbrev pub negated : Datum → Option ℤ
negated (IntForm (pos zero)) = Some (pos 0)
negated (IntForm (pos (suc n))) = Some (negsuc n)
negated (IntForm (negsuc n)) = if nat_eq (suc n) (2 ^ 127) then None else Some (pos (suc n))
negated (SymForm s) = None
negated (TextForm s) = None
negated (PairForm a d) = None

-- `(binary-+ '-k a)` for a literal k, and `(binary-+ a (unary-- b))` otherwise
abbrev pub less_by : Tm → Tm → Option ℤ → Tm
less_by a b (Some k) = plus (number k) a
less_by a b None = plus a (minus b)

-- The terms of words of so many parts. The parts are counted before a term is made of them, so that the last clause of each of the next three,
-- which makes `'nil` of too few, never comes to be.

-- `(- a)`, and `(- a b)`, where the second part is a literal or another form
abbrev pub difference : Datum → List Tm → Tm
difference (PairForm a (PairForm b d)) (t ∷ u ∷ ts) = less_by t u (negated b)
difference d (t ∷ ts) = minus t
difference d [] = nil_term

-- a word of one part
abbrev pub of_one : (Tm → Tm) → List Tm → Tm
of_one f (a ∷ ts) = f a
of_one f [] = nil_term

-- a word of two parts
abbrev pub of_two : (Tm → Tm → Tm) → List Tm → Tm
of_two f (a ∷ b ∷ ts) = f a b
of_two f _ = nil_term

-- how many parts a word has
pub data Parts : Type 0 where
  AnyNumber : Parts
  One : Parts
  OneOrTwo : Parts
  Two : Parts

abbrev pub is_number : Parts → ℕ → Bool
is_number AnyNumber n = true
is_number One n = nat_eq n 1
is_number OneOrTwo n = if nat_eq n 1 then true else nat_eq n 2
is_number Two n = nat_eq n 2

-- how many parts it has, and its term, from the parts as terms; `-` looks at their forms too
pub record Macro : Type 0 where
  pub parts : Parts
  pub term : Datum → List Tm → Tm

abbrev pub any_number : (List Tm → Tm) → Option Macro
any_number f = Some (record { parts = AnyNumber; term = λ d. f })

abbrev pub one : (Tm → Tm) → Option Macro
one f = Some (record { parts = One; term = λ d. of_one f })

abbrev pub two : (Tm → Tm → Tm) → Option Macro
two f = Some (record { parts = Two; term = λ d. of_two f })

abbrev pub car : Tm → Tm
car a = call1 (codes "CAR") a

abbrev pub cdr : Tm → Tm
cdr a = call1 (codes "CDR") a

-- the words that stand for other terms, but for those that bind, quote or choose
unfoldable pub macro : Name → Option Macro
macro f =
    if bytes_eq f (codes "AND") then any_number conjunction
    else if bytes_eq f (codes "OR") then any_number disjunction
    else if bytes_eq f (codes "LIST") then any_number list_of
    else if bytes_eq f (codes "+") then any_number sum
    else if bytes_eq f (codes "*") then any_number product
    else if bytes_eq f (codes "APPEND") then any_number appended
    else if bytes_eq f (codes "-") then Some (record { parts = OneOrTwo; term = difference })
    else if bytes_eq f (codes "1+") then one (plus (number (pos 1)))
    else if bytes_eq f (codes "1-") then one (plus (number (negsuc 0)))
    else if bytes_eq f (codes ">") then two (λ a b. less b a)
    else if bytes_eq f (codes "<=") then two (λ a b. not_of (less b a))
    else if bytes_eq f (codes ">=") then two (λ a b. not_of (less a b))
    else if bytes_eq f (codes "=") then two (call2 (codes "EQUAL"))
    else if bytes_eq f (codes "EQ") then two (call2 (codes "EQUAL"))
    else if bytes_eq f (codes "EQL") then two (call2 (codes "EQUAL"))
    else if bytes_eq f (codes "FIRST") then one car
    else if bytes_eq f (codes "REST") then one cdr
    else if bytes_eq f (codes "CAAR") then one (λ a. car (car a))
    else if bytes_eq f (codes "CADR") then one (λ a. car (cdr a))
    else if bytes_eq f (codes "CDAR") then one (λ a. cdr (car a))
    else if bytes_eq f (codes "CDDR") then one (λ a. cdr (cdr a))
    else None
