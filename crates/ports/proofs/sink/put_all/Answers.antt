use Rattle.std.proofs.Common.{ℕ, arith, length-drop}
use Rattle.std.proofs.lemmas.List.{length-take}
use Rattle.ports.proofs.Streams.{Grows-piece}
use Rattle.ports.proofs.sink.put_all.Goals as goal

pub loop-at-preserved : goal.loop-at-preserved
loop-at-preserved g c =
    record {
      within = omega (arith, length-take {A = ℕ}, length-drop {A = ℕ}, c.in_ok-at.ensures.bound);
      later = omega (arith, c.loop-at.invariant.later, c.put.ensures.cause.later);
      grown = Grows-piece _ (g.K.Sink.held c.loop-at.sink) _ _ _ _ c.loop-at.invariant.grown c.in_ok-at.ensures.bytes;
    }
