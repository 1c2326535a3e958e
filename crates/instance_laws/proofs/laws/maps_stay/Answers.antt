use Rattle.instance_laws.proofs.LaterMaps.{maps_stay}
use Rattle.instance_laws.proofs.laws.maps_stay.Goals as goal

pub returns : goal.returns
returns c = maps_stay
