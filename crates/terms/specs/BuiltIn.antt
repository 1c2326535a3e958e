-- The functions that each book begins with, the oldest first.
use Rattle.std.specs.Prelude.{ℤ, pos, List, [], ◌∷◌, ◌++◌, codes, Some, None}
use Rattle.lisp_data.specs.Values.{Name, Int, Sym, nil}
use Rattle.terms.specs.Terms.{Tm, Var, Quote}
use Rattle.terms.specs.Measures.{call1, call2, call3}
use Rattle.terms.specs.declared.definition.Definition.{Definition}

-- the variables
abbrev pub n : Tm
n = Var (codes "N")

abbrev pub p : Tm
p = Var (codes "P")

abbrev pub q : Tm
q = Var (codes "Q")

abbrev pub x : Tm
x = Var (codes "X")

abbrev pub y : Tm
y = Var (codes "Y")

-- 't and 'nil
abbrev pub yes : Tm
yes = Quote (Sym (codes "T"))

abbrev pub no : Tm
no = Quote nil

-- a quoted integer
abbrev pub quoted : ℤ → Tm
quoted k = Quote (Int k)

-- (if c a b)
abbrev pub if_else : Tm → Tm → Tm → Tm
if_else c a b = call3 (codes "IF") c a b

-- a function that isn't recursive
abbrev pub plain : Name → List Name → Tm → Definition
plain f formals body = record { name = f; formals = formals; body = body; measure = None }

-- a recursive function with the measure (acl2-count x)
abbrev pub by_count : Name → List Name → Tm → Definition
by_count f formals body =
    record { name = f; formals = formals; body = body; measure = Some (call1 (codes "ACL2-COUNT") x) }

-- (if p 'nil 't)
abbrev pub not_def : Definition
not_def = plain (codes "NOT") (codes "P" ∷ []) (if_else p no yes)

-- (if p (if q 't 'nil) 't)
abbrev pub implies_def : Definition
implies_def = plain (codes "IMPLIES") (codes "P" ∷ codes "Q" ∷ []) (if_else p (if_else q yes no) yes)

-- (if p (if q 't 'nil) (if q 'nil 't))
abbrev pub iff_def : Definition
iff_def = plain (codes "IFF") (codes "P" ∷ codes "Q" ∷ []) (if_else p (if_else q yes no) (if_else q no yes))

-- (not (consp x))
abbrev pub atom_def : Definition
atom_def = plain (codes "ATOM") (codes "X" ∷ []) (call1 (codes "NOT") (call1 (codes "CONSP") x))

-- (atom x)
abbrev pub endp_def : Definition
endp_def = plain (codes "ENDP") (codes "X" ∷ []) (call1 (codes "ATOM") x)

-- (equal x 'nil)
abbrev pub null_def : Definition
null_def = plain (codes "NULL") (codes "X" ∷ []) (call2 (codes "EQUAL") x no)

-- (if (equal x 't) 't (equal x 'nil))
abbrev pub booleanp_def : Definition
booleanp_def =
    plain (codes "BOOLEANP") (codes "X" ∷ []) (if_else (call2 (codes "EQUAL") x yes) yes (call2 (codes "EQUAL") x no))

-- (integerp x)
abbrev pub acl2_numberp_def : Definition
acl2_numberp_def = plain (codes "ACL2-NUMBERP") (codes "X" ∷ []) (call1 (codes "INTEGERP") x)

-- (if (integerp n) (not (< '0 n)) 't)
abbrev pub zp_def : Definition
zp_def =
    plain (codes "ZP") (codes "N" ∷ [])
    (if_else (call1 (codes "INTEGERP") n) (call1 (codes "NOT") (call2 (codes "<") (quoted (pos 0)) n)) yes)

-- (if (integerp x) (not (< x '0)) 'nil)
abbrev pub natp_def : Definition
natp_def =
    plain (codes "NATP") (codes "X" ∷ [])
    (if_else (call1 (codes "INTEGERP") x) (call1 (codes "NOT") (call2 (codes "<") x (quoted (pos 0)))) no)

-- (if (integerp x) (< '0 x) 'nil)
abbrev pub posp_def : Definition
posp_def =
    plain (codes "POSP") (codes "X" ∷ [])
    (if_else (call1 (codes "INTEGERP") x) (call2 (codes "<") (quoted (pos 0)) x) no)

-- (if (natp x) x '0)
abbrev pub nfix_def : Definition
nfix_def = plain (codes "NFIX") (codes "X" ∷ []) (if_else (call1 (codes "NATP") x) x (quoted (pos 0)))

-- (if (integerp x) x '0)
abbrev pub ifix_def : Definition
ifix_def = plain (codes "IFIX") (codes "X" ∷ []) (if_else (call1 (codes "INTEGERP") x) x (quoted (pos 0)))

-- (if (acl2-numberp x) x '0)
abbrev pub fix_def : Definition
fix_def = plain (codes "FIX") (codes "X" ∷ []) (if_else (call1 (codes "ACL2-NUMBERP") x) x (quoted (pos 0)))

-- (if (consp x) (binary-+ '1 (len (cdr x))) '0)
abbrev pub len_def : Definition
len_def =
    by_count (codes "LEN") (codes "X" ∷ [])
    (if_else (call1 (codes "CONSP") x)
    (call2 (codes "BINARY-+") (quoted (pos 1)) (call1 (codes "LEN") (call1 (codes "CDR") x))) (quoted (pos 0)))

-- (if (consp x) (true-listp (cdr x)) (equal x 'nil))
abbrev pub true_listp_def : Definition
true_listp_def =
    by_count (codes "TRUE-LISTP") (codes "X" ∷ [])
    (if_else (call1 (codes "CONSP") x) (call1 (codes "TRUE-LISTP") (call1 (codes "CDR") x)) (call2 (codes "EQUAL") x no))

-- (if (consp x) (cons (car x) (binary-append (cdr x) y)) y)
abbrev pub binary_append_def : Definition
binary_append_def =
    by_count (codes "BINARY-APPEND") (codes "X" ∷ codes "Y" ∷ [])
    (if_else (call1 (codes "CONSP") x)
    (call2 (codes "CONS") (call1 (codes "CAR") x) (call2 (codes "BINARY-APPEND") (call1 (codes "CDR") x) y)) y)

-- on truth values and kinds of values, the newest first; this list and the next are shut, since each goal would hold them
unfoldable pub truth_definitions : List Definition
truth_definitions = booleanp_def ∷ null_def ∷ endp_def ∷ atom_def ∷ iff_def ∷ implies_def ∷ not_def ∷ []

-- on numbers, the newest first
unfoldable pub number_definitions : List Definition
number_definitions = fix_def ∷ ifix_def ∷ nfix_def ∷ posp_def ∷ natp_def ∷ zp_def ∷ acl2_numberp_def ∷ []

-- on lists, the newest first
unfoldable pub list_definitions : List Definition
list_definitions = binary_append_def ∷ true_listp_def ∷ len_def ∷ []

-- all of them, the newest first
unfoldable pub initial_definitions : List Definition
initial_definitions = list_definitions ++ (number_definitions ++ truth_definitions)
