use Rattle.std.proofs.Common.{refl}
use Rattle.terms.specs.Worlds.{arity}
use Rattle.term_forms.specs.Translation.{translate}
use Rattle.proof_texts.specs.Parts.{any}
use Rattle.event_forms.specs.ShapeView.{theorem_seen}
use Rattle.events.specs.Defthm.{universals_of, theorem_plan}
use Rattle.events.proofs.Direct.{then_direct, none_claimed}
use Rattle.events.proofs.kinds.defthm.DefthmKind.finish.Goals as goal

pub returns : goal.returns
returns c = none_claimed c.args._world.now _ (let t = theorem_seen c.args.self.now.theorem in then_direct (theorem_plan t.name) (λ _ _. record { before = refl; after = refl }) (universals_of c.args._world.now t.assumed) (λ _. translate (arity c.args._world.now.functions) any t.formula)) c.args._plan.now c.requires.plan c.new.result c.new.ensures
