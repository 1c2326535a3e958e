-- The axioms: terms that are true whatever values their variables have.
use Rattle.std.specs.Prelude.{ℕ, pos, codes, Option, Some, None, option_map, ◌==◌, nat_le, if◌then◌else◌}
use Rattle.terms.specs.BuiltIn.{x, y, yes, no, quoted}
use Rattle.terms.specs.Measures.{call1, call2}
use Rattle.terms.specs.Substitution.{Pairs, by_pairs}
use Rattle.terms.specs.Terms.{Tm, Var, substitute}
use Rattle.terms.specs.Worlds.{Functions}
use Rattle.terms.specs.declared.sequent.Sequent.{Sequent}
use Rattle.kernel.specs.Fitting.{pairs_fit}
use Rattle.kernel.specs.Sequents.{equation, negation, implication, conditional, of_goal}

abbrev pub z : Tm
z = Var (codes "Z")

abbrev pub number : ℕ → Tm
number k = quoted (pos k)

abbrev pub cons : Tm → Tm → Tm
cons a b = call2 (codes "CONS") a b

abbrev pub car : Tm → Tm
car a = call1 (codes "CAR") a

abbrev pub cdr : Tm → Tm
cdr a = call1 (codes "CDR") a

abbrev pub consp : Tm → Tm
consp a = call1 (codes "CONSP") a

abbrev pub integerp : Tm → Tm
integerp a = call1 (codes "INTEGERP") a

abbrev pub symbolp : Tm → Tm
symbolp a = call1 (codes "SYMBOLP") a

abbrev pub natp : Tm → Tm
natp a = call1 (codes "NATP") a

abbrev pub less : Tm → Tm → Tm
less a b = call2 (codes "<") a b

abbrev pub plus : Tm → Tm → Tm
plus a b = call2 (codes "BINARY-+") a b

abbrev pub times : Tm → Tm → Tm
times a b = call2 (codes "BINARY-*") a b

abbrev pub minus : Tm → Tm
minus a = call1 (codes "UNARY--") a

abbrev pub count : Tm → Tm
count a = call1 (codes "ACL2-COUNT") a

-- what the predicate says is T where it is true
abbrev pub gives_t : Tm → Tm
gives_t a = implication a (equation a yes)

-- 1 to 7: T is true, NIL alone is false, and predicates give T or NIL; these words are shut, since each goal would hold all of them
unfoldable pub on_truth : ℕ → Tm
on_truth k =
    if k == 1 then yes
    else if k == 2 then implication (negation x) (equation x no)
    else if k == 3 then gives_t (equation x y)
    else if k == 4 then gives_t (consp x)
    else if k == 5 then gives_t (integerp x)
    else if k == 6 then gives_t (symbolp x)
    else gives_t (less x y)

-- 8 to 16: pairs and their parts, and that no value is of two kinds
unfoldable pub on_pairs : ℕ → Tm
on_pairs k =
    if k == 8 then equation (car (cons x y)) x
    else if k == 9 then equation (cdr (cons x y)) y
    else if k == 10 then equation (consp (cons x y)) yes
    else if k == 11 then implication (consp x) (equation (cons (car x) (cdr x)) x)
    else if k == 12 then implication (negation (consp x)) (equation (car x) no)
    else if k == 13 then implication (negation (consp x)) (equation (cdr x) no)
    else if k == 14 then implication (consp x) (negation (integerp x))
    else if k == 15 then implication (consp x) (negation (symbolp x))
    else implication (integerp x) (negation (symbolp x))

-- 17 to 23: arithmetic gives integers, and takes as 0 what is none
unfoldable pub on_integers : ℕ → Tm
on_integers k =
    if k == 17 then equation (integerp (plus x y)) yes
    else if k == 18 then equation (integerp (times x y)) yes
    else if k == 19 then equation (integerp (minus x)) yes
    else if k == 20 then implication (negation (integerp x)) (equation (plus x y) (plus (number 0) y))
    else if k == 21 then implication (negation (integerp x)) (equation (times x y) (number 0))
    else if k == 22 then implication (negation (integerp x)) (equation (minus x) (number 0))
    else implication (integerp x) (equation (plus (number 0) x) x)

-- numbers are the same where none is less than the other
abbrev pub same_numbers : Tm
same_numbers =
    implication (negation (less x y))
    (implication (negation (less y x)) (equation (plus (number 0) x) (plus (number 0) y)))

abbrev pub positive_products : Tm
positive_products =
    implication (less (number 0) x) (implication (less (number 0) y) (less (number 0) (times x y)))

-- 24 to 31: the order of numbers, with sums and products
unfoldable pub on_order : ℕ → Tm
on_order k =
    if k == 24 then negation (less x x)
    else if k == 25 then implication (less x y) (implication (less y z) (less x z))
    else if k == 26 then same_numbers
    else if k == 27 then equation (less (plus x z) (plus y z)) (less x y)
    else if k == 28 then implication (less x y) (negation (less y (plus (number 1) x)))
    else if k == 29 then positive_products
    else if k == 30 then equation (less (plus (number 0) x) y) (less x y)
    else equation (less x (plus (number 0) y)) (less x y)

-- 32 to 35: the count of a pair, of an integer and of a symbol is a natural number
unfoldable pub on_counts : ℕ → Tm
on_counts k =
    if k == 32
    then implication (consp x) (equation (count x) (plus (number 1) (plus (count (car x)) (count (cdr x)))))
    else if k == 33 then natp (count x)
    else if k == 34 then implication (integerp x) (equation (count x) (conditional (less x (number 0)) (minus x) x))
    else implication (symbolp x) (equation (count x) (number 0))

-- the axiom with this number, from 1 to 35
unfoldable pub axiom_at : ℕ → Option Tm
axiom_at k =
    if k == 0 then None
    else if nat_le k 7 then Some (on_truth k)
    else if nat_le k 16 then Some (on_pairs k)
    else if nat_le k 23 then Some (on_integers k)
    else if nat_le k 31 then Some (on_order k)
    else if nat_le k 35 then Some (on_counts k)
    else None

-- axiom: the axiom with this number, under a substitution by well-formed terms
abbrev pub axiom_instance : Functions → ℕ → Pairs → Option Sequent
axiom_instance W k s =
    if pairs_fit W s then option_map (λ a. of_goal (substitute (by_pairs s) a)) (axiom_at k) else None
