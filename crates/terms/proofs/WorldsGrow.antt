-- Sound worlds grow.
use Rattle.terms.specs.Laws.{WorldsGrow}
use Rattle.terms.proofs.Growth.{with_definition, with_theorem}
use Rattle.terms.proofs.MoreEntries.{with_variable, with_specification, with_iso, with_instance, with_link, with_event}
use Rattle.terms.proofs.Initial.{initial_sound}
use Rattle.terms.proofs.Later.{has_basics}

pub worlds_grow : WorldsGrow
worlds_grow = record {
  begins = initial_sound;
  definition = λ W sound. with_definition W sound (has_basics W sound);
  variable = with_variable;
  theorem = with_theorem;
  specification = with_specification;
  iso = with_iso;
  instance = with_instance;
  link = with_link;
  event = with_event;
}
