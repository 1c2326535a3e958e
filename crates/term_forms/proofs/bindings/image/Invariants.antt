use Rattle.std.proofs.Common.{◌≡◌, drop}
use Rattle.terms.specs.Primitives.{lookup}
use Rattle.term_forms.proofs.bindings.image.Given as goal

abbrev pub invariant-loop-pair : goal.invariant-loop-pair
invariant-loop-pair l = lookup l.images l.name ≡ lookup (drop l.pair-index l.images) l.name
