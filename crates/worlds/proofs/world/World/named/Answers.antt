use Rattle.std.proofs.Common.{◌∙◌, sym}
use Rattle.terms.specs.Primitives.{primitive, operands}
use Rattle.worlds.proofs.Meanings.{exactly, exactly_primitive, none-map}
use Rattle.worlds.proofs.world.World.named.Goals as goal

pub returns-in-Some : goal.returns-in-Some
returns-in-Some c =
    exactly_primitive c.args.self.now c.soundness.ensures c.args.name.now c.in-Some.arity (sym c.operands.ensures ∙ c.in-Some.is)

pub returns-in-None : goal.returns-in-None
returns-in-None c =
    exactly c.args.self.now c.soundness.ensures c.args.name.now
    (none-map operands (primitive c.args.name.now) (sym c.operands.ensures ∙ c.in-None.is)) c.given.result c.given.ensures
