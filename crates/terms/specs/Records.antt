-- The instances that a world records, found by a function and pairs.
use Rattle.std.specs.Prelude.{Bool, true, false, cond, ◌&&◌, ◌||◌, List, [], ◌∷◌, bytes_eq, Option, Some, None}
use Rattle.lisp_data.specs.Values.{Name}
use Rattle.terms.specs.Worlds.{Instance}
use Rattle.terms.specs.declared.entries.FunPair.{FunPair}

-- the same function for the same variable
abbrev pub same_pair : FunPair → FunPair → Bool
same_pair p q = bytes_eq p.variable q.variable && bytes_eq p.function q.function

-- the pair is among them
abbrev pub has_pair : List FunPair → FunPair → Bool
has_pair [] p = false
has_pair (q ∷ qs) p = same_pair q p || has_pair qs p

-- each pair of the first list is among the second's
abbrev pub has_pairs : List FunPair → List FunPair → Bool
has_pairs [] qs = true
has_pairs (p ∷ ps) qs = has_pair qs p && has_pairs ps qs

-- two lists hold the same pairs
abbrev pub same_pairs : List FunPair → List FunPair → Bool
same_pairs ps qs = has_pairs ps qs && has_pairs qs ps

-- it is the function's instance for these pairs
abbrev pub is_instance : Instance → Name → List FunPair → Bool
is_instance i of pairs = bytes_eq i.of of && same_pairs i.pairs pairs

-- the earliest instance of the function for these pairs
abbrev pub find_instance : List Instance → Name → List FunPair → Option Name
find_instance [] of pairs = None
find_instance (i ∷ is) of pairs = cond (is_instance i of pairs) (Some i.instance) (find_instance is of pairs)
