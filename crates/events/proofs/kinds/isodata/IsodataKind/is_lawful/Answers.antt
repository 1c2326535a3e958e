use Rattle.event_forms.specs.ShapeView.{isodata_seen}
use Rattle.events.proofs.LawfulIsodata.{lawful_isodata}
use Rattle.events.proofs.kinds.isodata.IsodataKind.is_lawful.Goals as goal

pub returns : goal.returns
returns c = lawful_isodata c.transfers_are_lawful.ensures (isodata_seen c.args.self.now.representation)
