use Rattle.std.proofs.Common.{arith}
use Rattle.measures.specs.Calls.{place_of}
use Rattle.proof_builders.specs.view.Finders.{finder_of, name_of}
use Rattle.proof_builders.proofs.Differences.{alike-length, congruences-next, one-more}
use Rattle.proof_builders.proofs.congruence.+congruence.Goals as goal

pub congruences-loop-i-preserved : goal.congruences-loop-i-preserved
congruences-loop-i-preserved t c =
    let f = name_of c.args.calls.now in
    let F = finder_of c.args.calls.now in
    let ts = c.args.olds.now in
    let us = c.args.news.now in
    let i = c.loop-i.i in
    let same = alike-length f ts us c.requires in
    record {
      done = congruences-next f F (place_of c.loop-i.position) (place_of c.next-position.result) c.args.tests.now c.in_ok-inner.inner ts us i
          c.index-olds-i.result c.index-news-i.result c.loop-i.proofs c.push.new.self _ c.in_ok-proof.proof
          c.loop-i-test.true (omega (arith, same, c.loop-i-test.true)) c.index-olds-i.is c.index-news-i.is
          c.in_ok-inner.ensures c.in_ok-proof.ensures c.in_ok-push.ensures.ok c.next-position.ensures c.loop-i.invariant.done;
      count = one-more c.loop-i.proofs c.push.new.self c.in_ok-proof.proof i c.in_ok-push.ensures.ok c.loop-i.invariant.count;
    }
