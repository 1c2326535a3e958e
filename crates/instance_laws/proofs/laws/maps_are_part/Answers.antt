use Rattle.instance_laws.proofs.Parts.{maps_are_part}
use Rattle.instance_laws.proofs.laws.maps_are_part.Goals as goal

pub returns : goal.returns
returns c = maps_are_part
