-- Lists of terms without repeats.
use Rattle.std.specs.Prelude.{List, [], ◌∷◌, ◌++◌, if◌then◌else◌}
use Rattle.std.specs.List.{list_any}
use Rattle.terms.specs.Terms.{Tm, same_tm}

-- the term at the end, where it is new
abbrev pub with_term : List Tm → Tm → List Tm
with_term us t = if list_any (same_tm t) us then us else us ++ t ∷ []

-- the first list, and what is new of the second
abbrev pub join : List Tm → List Tm → List Tm
join us [] = us
join us (t ∷ ts) = join (with_term us t) ts

-- each term once, at its first place
abbrev pub without_repeats : List Tm → List Tm
without_repeats ts = join [] ts
