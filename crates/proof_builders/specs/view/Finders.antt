-- The proofs of differences as the code has them.
use Rattle.lisp_data.specs.Values.{Name}
use Rattle.proof_builders.specs.Congruence.{Finder, proof_among}
use Rattle.proof_builders.specs.declared.congruence.Calls.{Calls}

abbrev pub name_of : Calls → Name
name_of c = c.name.now

abbrev pub finder_of : Calls → Finder
finder_of c = proof_among c.proved.now c.under.now.universals c.under.now.hyps
