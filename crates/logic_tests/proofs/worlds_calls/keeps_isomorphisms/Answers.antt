use Rattle.logic_tests.proofs.worlds_calls.keeps_isomorphisms.Goals as goal

pub with_iso-requires-clause-hold : goal.with_iso-requires-clause-hold
with_iso-requires-clause-hold g c = c.in_ok-negation.ensures.hold c.in_ok-begin.begin.functions

pub with_iso-requires-2-clause-hold : goal.with_iso-requires-2-clause-hold
with_iso-requires-2-clause-hold g c = c.in_ok-negation-2.ensures.hold c.in_ok-world.world.functions
