-- The theorems that each book begins with, the oldest first.
use Rattle.std.specs.Prelude.{negsuc, List, [], ◌∷◌, codes}
use Rattle.lisp_data.specs.Values.{Name}
use Rattle.terms.specs.Terms.{Tm}
use Rattle.terms.specs.Measures.{call1, call2}
use Rattle.terms.specs.BuiltIn.{n, x, yes, quoted}
use Rattle.terms.specs.declared.sequent.Sequent.{Sequent}

-- the formula, with no universals and no hypotheses
abbrev pub fact : Tm → Sequent
fact formula = record { universals = []; hyps = []; goal = formula }

-- (binary-+ '-1 n)
abbrev pub n_minus_1 : Tm
n_minus_1 = call2 (codes "BINARY-+") (quoted (negsuc 0)) n

-- (implies (not (zp n)) formula)
abbrev pub where_n_is_positive : Tm → Tm
where_n_is_positive formula = call2 (codes "IMPLIES") (call1 (codes "NOT") (call1 (codes "ZP") n)) formula

-- (equal formula 't)
abbrev pub is_t : Tm → Tm
is_t formula = call2 (codes "EQUAL") formula yes

-- (< (f a) (f b))
abbrev pub less_by : Name → Tm → Tm → Tm
less_by f a b = call2 (codes "<") (call1 f a) (call1 f b)

-- (equal (equal x x) 't)
abbrev pub equal_same : Sequent
equal_same = fact (is_t (call2 (codes "EQUAL") x x))

-- (implies (consp x) (< (acl2-count (car x)) (acl2-count x)))
abbrev pub count_car : Sequent
count_car = fact (call2 (codes "IMPLIES") (call1 (codes "CONSP") x) (less_by (codes "ACL2-COUNT") (call1 (codes "CAR") x) x))

-- (implies (consp x) (< (acl2-count (cdr x)) (acl2-count x)))
abbrev pub count_cdr : Sequent
count_cdr = fact (call2 (codes "IMPLIES") (call1 (codes "CONSP") x) (less_by (codes "ACL2-COUNT") (call1 (codes "CDR") x) x))

-- (equal (natp (acl2-count x)) 't)
abbrev pub natp_count : Sequent
natp_count = fact (is_t (call1 (codes "NATP") (call1 (codes "ACL2-COUNT") x)))

-- (equal (natp (nfix n)) 't)
abbrev pub natp_nfix : Sequent
natp_nfix = fact (is_t (call1 (codes "NATP") (call1 (codes "NFIX") n)))

-- (implies (not (zp n)) (equal (natp (binary-+ '-1 n)) 't))
abbrev pub natp_minus_1 : Sequent
natp_minus_1 = fact (where_n_is_positive (is_t (call1 (codes "NATP") n_minus_1)))

-- (implies (not (zp n)) (< (nfix (binary-+ '-1 n)) (nfix n)))
abbrev pub nfix_minus_1 : Sequent
nfix_minus_1 = fact (where_n_is_positive (less_by (codes "NFIX") n_minus_1 n))

-- (implies (not (zp n)) (< (acl2-count (binary-+ '-1 n)) (acl2-count n)))
abbrev pub count_minus_1 : Sequent
count_minus_1 = fact (where_n_is_positive (less_by (codes "ACL2-COUNT") n_minus_1 n))

-- all of them with their names, the newest first; shut, since each goal would hold all of them
unfoldable pub initial_theorems : List (Name × Sequent)
initial_theorems =
    (codes "ACL2-COUNT-MINUS-1", count_minus_1)
    ∷ (codes "NFIX-MINUS-1", nfix_minus_1)
    ∷ (codes "NATP-MINUS-1", natp_minus_1)
    ∷ (codes "NATP-NFIX", natp_nfix)
    ∷ (codes "NATP-ACL2-COUNT", natp_count)
    ∷ (codes "ACL2-COUNT-CDR", count_cdr)
    ∷ (codes "ACL2-COUNT-CAR", count_car)
    ∷ (codes "EQUAL-SAME", equal_same)
    ∷ []
