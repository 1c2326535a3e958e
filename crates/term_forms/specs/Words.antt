-- What the words of the syntax of terms stand for.
use Rattle.std.specs.Prelude.{codes, List, [], ◌∷◌}
use Rattle.lisp_data.specs.Values.{Name}
use Rattle.terms.specs.Terms.{Tm}
use Rattle.terms.specs.Measures.{call1, call2}
use Rattle.term_forms.specs.Macros as spec
use Rattle.term_forms.specs.Macros.{AnyNumber, OneOrTwo, conjunction, disjunction, list_of, sum, product, appended, difference, of_one, of_two, plus, number, less, not_of, if_of, nil_term}
use Rattle.term_forms.specs.declared.macros.Known.{Known}
use Rattle.term_forms.specs.declared.macros.Known.TheVariants.{T, Nil, If, Cons, Plus, Times, Minus, Less, Not, Equal, Car, Cdr, Append}
use Rattle.term_forms.specs.declared.macros.Fold.{Fold}
use Rattle.term_forms.specs.declared.macros.Fold.TheVariants as fold
use Rattle.term_forms.specs.declared.macros.Unary.{Unary}
use Rattle.term_forms.specs.declared.macros.Unary.TheVariants.{Add, Part, PartOf}
use Rattle.term_forms.specs.declared.macros.Binary.{Binary}
use Rattle.term_forms.specs.declared.macros.Binary.TheVariants as binary
use Rattle.term_forms.specs.declared.macros.Macro.{Macro}
use Rattle.term_forms.specs.declared.macros.Macro.TheVariants as kind

-- the symbol
abbrev pub text_of : Known → Name
text_of T = codes "T"
text_of Nil = codes "NIL"
text_of If = codes "IF"
text_of Cons = codes "CONS"
text_of Plus = codes "BINARY-+"
text_of Times = codes "BINARY-*"
text_of Minus = codes "UNARY--"
text_of Less = codes "<"
text_of Not = codes "NOT"
text_of Equal = codes "EQUAL"
text_of Car = codes "CAR"
text_of Cdr = codes "CDR"
text_of Append = codes "BINARY-APPEND"

-- the term of any number of parts
abbrev pub of_parts : Fold → List Tm → Tm
of_parts fold.And = conjunction
of_parts fold.Or = disjunction
of_parts fold.List = list_of
of_parts fold.Sum = sum
of_parts fold.Product = product
of_parts fold.Append = appended

-- a part before the term of the rest
abbrev pub joined : Fold → Tm → Tm → Tm
joined fold.And a r = if_of a r nil_term
joined fold.Or a r = if_of a a r
joined fold.List a r = call2 (codes "CONS") a r
joined fold.Sum a r = plus a r
joined fold.Product a r = call2 (codes "BINARY-*") a r
joined fold.Append a r = call2 (codes "BINARY-APPEND") a r

-- items, from the last one on, before a term
abbrev pub folded : {A : Type 0} → (A → Tm → Tm) → List A → Tm → Tm
folded f [] r = r
folded f (x ∷ xs) r = f x (folded f xs r)

-- the term of one part
abbrev pub of_part : Unary → Tm → Tm
of_part (Add k) a = plus (number k) a
of_part (Part f) a = call1 (text_of f) a
of_part (PartOf f g) a = call1 (text_of f) (call1 (text_of g) a)

-- the term of two parts
abbrev pub of_pair : Binary → Tm → Tm → Tm
of_pair binary.Greater a b = less b a
of_pair binary.AtMost a b = not_of (less b a)
of_pair binary.AtLeast a b = not_of (less a b)
of_pair binary.Equal a b = call2 (codes "EQUAL") a b

-- how many parts, and the term
abbrev pub meaning : Macro → spec.Macro
meaning (kind.Any m) = record { parts = AnyNumber; term = λ d. of_parts m }
meaning kind.Minus = record { parts = OneOrTwo; term = difference }
meaning (kind.One m) = record { parts = spec.One; term = λ d. of_one (of_part m) }
meaning (kind.Two m) = record { parts = spec.Two; term = λ d. of_two (of_pair m) }
