use Rattle.std.proofs.Common.{◌≡◌, [], length, map}
use Rattle.lisp_data.specs.FormView.{form_of, AllProper}
use Rattle.terms.specs.Joins.{join}
use Rattle.term_forms.specs.Translation.{map_outcome}
use Rattle.events.specs.Defthm.{matrices}
use Rattle.events.proofs.kinds.defthm.universals_of.Given as goal

abbrev pub invariant-loop-rest : goal.invariant-loop-rest
invariant-loop-rest l = record {
  proper : AllProper l.rest;
  same : map_outcome (join l.universals) (matrices l.world (map form_of l.rest)) ≡ map_outcome (join []) (matrices l.world (map form_of l.assumed));
}

abbrev pub decreases-loop-rest : goal.decreases-loop-rest
decreases-loop-rest l = length l.rest
