use Rattle.terms.specs.Substitution.{by_pairs}
use Rattle.terms.specs.Terms.{substitute}
use Rattle.isodata_tool.specs.Proofs.{there_and_back, undone_in}
use Rattle.isodata_tool.proofs.Mapping.{mapped-next}
use Rattle.isodata_tool.proofs.trees.+undone.Goals as goal

pub call_undone-loop-arg-preserved : goal.call_undone-loop-arg-preserved
call_undone-loop-arg-preserved t c =
    let s = by_pairs c.args.images.now in
    let items = c.as_slice-arg-items.result.now in
    let i = c.loop-arg.arg-index in
    let arg = c.arg-item.result in (
      mapped-next (substitute (there_and_back c.args.maps.now s)) items i arg c.loop-arg.terms c.push.new.self c.in_ok-term.term c.loop-arg-test.true c.arg-item.is
          c.loop-arg.invariant.0 c.in_ok-term.ensures.term c.in_ok-push.ensures.ok,
      mapped-next (undone_in c.args.maps.now s) items i arg c.loop-arg.proofs c.push-in-loop-arg.new.self c.in_ok-term.proof c.loop-arg-test.true c.arg-item.is
          c.loop-arg.invariant.1 c.in_ok-term.ensures.proof c.in_ok-push-2.ensures.ok,
    )
