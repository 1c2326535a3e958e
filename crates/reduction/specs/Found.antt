-- What is found at a part of a term.
use Rattle.terms.specs.Terms.{Tm}
use Rattle.reduction.specs.declared.found.Found.{Found}
use Rattle.reduction.specs.declared.found.Reason.{Reason}

-- the part becomes this term, for this reason
abbrev pub becomes : Tm → Reason → Found
becomes t r = record { term = t; reason = r }
