-- The recursive calls of a definition with the tests on the way to each, and what its measure owes.
--
-- A test rules what stands under it through every `if` on the way down from the body's top, also below calls of
-- other functions. Each place at which the function is called is a call of its own, in the order of the text.
use Rattle.std.specs.Prelude.{Bool, false, cond, not, ◌&&◌, ◌||◌, List, [], ◌∷◌, ◌++◌, map, bytes_eq, codes, Option, Some, None}
use Rattle.lisp_data.specs.Values.{Name}
use Rattle.terms.specs.Terms.{Tm, Var, Quote, Call, Tms, Done, More, substitute, by_args}
use Rattle.terms.specs.Joins.{without_repeats}
use Rattle.terms.specs.declared.definition.Definition.{Definition}
use Rattle.terms.specs.declared.sequent.Sequent.{Sequent}

-- the term calls f
abbrev mutual
  pub mentions : Name → Tm → Bool
  mentions f (Var x) = false
  mentions f (Quote v) = false
  mentions f (Call g ts) = bytes_eq f g || mentions_in f ts

  pub mentions_in : Name → Tms → Bool
  mentions_in f Done = false
  mentions_in f (More t ts) = mentions f t || mentions_in f ts

-- a call of f has f in an argument
abbrev mutual
  pub is_nested : Name → Tm → Bool
  is_nested f (Var x) = false
  is_nested f (Quote v) = false
  is_nested f (Call g ts) = (bytes_eq f g && mentions_in f ts) || is_nested_in f ts

  pub is_nested_in : Name → Tms → Bool
  is_nested_in f Done = false
  is_nested_in f (More t ts) = is_nested f t || is_nested_in f ts

abbrev pub call1 : Name → Tm → Tm
call1 f a = Call f (More a Done)

abbrev pub call2 : Name → Tm → Tm → Tm
call2 f a b = Call f (More a (More b Done))

abbrev pub call3 : Name → Tm → Tm → Tm → Tm
call3 f a b c = Call f (More a (More b (More c Done)))

-- a call, and the tests on the way to it, also those that are met twice
pub record RecursiveCall : Type 0 where
  pub tests : List Tm
  pub args : Tms

-- where an argument stands: under no test of its call, or as an `if`'s test or branch
pub data Place : Type 0 where
  Plain : Place
  Test : Tm → Place
  Then : Tm → Place
  Else : Tm → Place

abbrev pub tests_at : Place → List Tm → List Tm
tests_at Plain tests = tests
tests_at (Test c) tests = tests
tests_at (Then c) tests = tests ++ c ∷ []
tests_at (Else c) tests = tests ++ call1 (codes "NOT") c ∷ []

abbrev pub next : Place → Place
next Plain = Plain
next (Test c) = Then c
next (Then c) = Else c
next (Else c) = Plain

-- where the first argument stands: a test that contains f rules nothing
abbrev pub first_place : Name → Name → Tms → Place
first_place f g Done = Plain
first_place f g (More c ts) = cond (bytes_eq (codes "IF") g && not (mentions f c)) (Test c) Plain

-- the calls of f, each with the tests on the way to it, in the order of the text
abbrev mutual
  pub recursive_calls : Name → List Tm → Tm → List RecursiveCall
  recursive_calls f tests (Var x) = []
  recursive_calls f tests (Quote v) = []
  recursive_calls f tests (Call g ts) =
      cond (bytes_eq f g) (record { tests = tests; args = ts } ∷ []) [] ++ recursive_calls_in f (first_place f g ts) tests ts

  pub recursive_calls_in : Name → Place → List Tm → Tms → List RecursiveCall
  recursive_calls_in f p tests Done = []
  recursive_calls_in f p tests (More t ts) = recursive_calls f (tests_at p tests) t ++ recursive_calls_in f (next p) tests ts

abbrev pub is_natural : Tm → Sequent
is_natural m = record { universals = []; hyps = []; goal = call1 (codes "NATP") m }

-- m is less where the formals are the call's arguments and the tests are true; a test that is met twice is one hypothesis
abbrev pub falls : List Name → Tm → RecursiveCall → Sequent
falls formals m c =
    record { universals = []; hyps = without_repeats c.tests; goal = call2 (codes "<") (substitute (by_args formals c.args) m) m }

-- a recursive definition without a measure is not well formed, so that its clause, which owes nothing, is never met
abbrev pub owed_by : Definition → Option Tm → List Sequent
owed_by d None = []
owed_by d (Some m) = is_natural m ∷ map (falls d.formals m) (recursive_calls d.name [] d.body)

-- what a definition owes: nothing where it is not recursive
abbrev pub obligations : Definition → List Sequent
obligations d = cond (mentions d.name d.body) (owed_by d d.measure) []
