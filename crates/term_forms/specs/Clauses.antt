-- The clauses of `cond`, up to the first whose test is T.
use Rattle.std.specs.Prelude.{ℕ, suc, List, [], ◌∷◌, if◌then◌else◌}
use Rattle.terms.specs.Terms.{Tm}
use Rattle.term_forms.specs.Macros.{if_of, nil_term}
use Rattle.term_forms.specs.Translation.{Clause}

-- how many clauses stand before the first whose test is T
abbrev pub open_clauses : List Clause → ℕ
open_clauses [] = 0
open_clauses (c ∷ cs) = if c.is_last then 0 else suc (open_clauses cs)

-- a clause before the term of the rest
abbrev pub choice : Clause → Tm → Tm
choice c r = if_of c.test c.answer r

-- the answer of the first, or NIL
abbrev pub behind_open : List Clause → Tm
behind_open [] = nil_term
behind_open (c ∷ cs) = c.answer
