use Rattle.ports.proofs.Streams.{IsCut-piece}
use Rattle.ports.proofs.source.read_all.Goals as goal

pub returns-then-room-count-clause-cut : goal.returns-then-room-count-clause-cut
returns-then-room-count-clause-cut g c =
    rw (c.in_ok-extend.ensures.ok, c.len.ensures)
    (IsCut-piece _ (g.S.Source.left c.loop-count.src) (g.S.Source.left c.pull.new.self) c.loop-count.all c.pull.new.buf c.args.limit c.in-Ok.count
    c.loop-count.invariant.within c.loop-count.invariant.taken c.in-Ok.ensures.bytes.0 c.in-Ok.ensures.bound.0 (rw (← c.len.ensures) c.if-room-count.true))
