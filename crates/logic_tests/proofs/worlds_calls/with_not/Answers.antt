use Rattle.std.proofs.Common.{◌≡◌, List, [], codes, Some, refl, ◌∙◌}
use Rattle.lisp_data.specs.Values.{Name}
use Rattle.terms.specs.Definitions.{find}
use Rattle.terms.specs.BuiltIn.{not_def}
use Rattle.terms.specs.Worlds.{World}
use Rattle.terms.specs.Instances.{IsRecorded}
use Rattle.terms.specs.Sound.{instance_of}
use Rattle.terms.specs.declared.entries.FunPair.{FunPair}
use Rattle.terms.proofs.Later.{has_basics}
use Rattle.logic_tests.proofs.worlds_calls.with_not.Goals as goal

by_names : (W : World) (of : Name) (pairs : List FunPair) (instance : Name) → of ≡ codes "NOT" → pairs ≡ [] → instance ≡ codes "NOT" → find W.functions.defs (codes "NOT") ≡ Some not_def → IsRecorded W (instance_of of pairs instance)
by_names W of pairs instance e p f h = rw e (rw p (rw f (record { origin = not_def; found = h; instance = not_def; made = h; gives = refl })))

pub with_instance-requires : goal.with_instance-requires
with_instance-requires c =
    by_names c.args.world.now c.in_ok-of.of c.new-2.result c.in_ok-instance.instance c.in_ok-of.ensures.upper c.new-2.ensures (c.in_ok-instance.ensures ∙ c.in_ok-of.ensures.upper)
    (has_basics c.args.world.now c.soundness.ensures).has_not
