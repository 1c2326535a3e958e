use Rattle.std.proofs.Common.{sym, subst}
use Rattle.terms.specs.Substitution.{HasDistinctKeys}
use Rattle.tool_parts.specs.Counted.{IsCounted}
use Rattle.isodata_tool.specs.Carried.{carried_over}
use Rattle.isodata_tool.specs.Proofs.{backs}
use Rattle.isodata_tool.specs.view.Requests.{request_seen}
use Rattle.isodata_tool.proofs.Planned.{counted_old, counted_new, distinct_keys}
use Rattle.isodata_tool.proofs.planning.plan.Goals as goal

pub planned-requires-clause-old : goal.planned-requires-clause-old
planned-requires-clause-old c =
    counted_old c.args.world.now c.soundness.ensures (request_seen c.args.request.now).old c.in_ok-definition.definition.now c.in_ok-definition.ensures.found

pub planned-requires-clause-new : goal.planned-requires-clause-new
planned-requires-clause-new c =
    let d = c.in_ok-definition.definition.now in
    let q = request_seen c.args.request.now in
    subst (λ ms. IsCounted (carried_over d q.function ms)) (sym c.as_slice.ensures)
    (counted_new c.args.world.now c.soundness.ensures q c.requires d c.in_ok-definition.ensures.found c.in_ok-maps.maps c.in_ok-maps.ensures)

pub planned-requires-clause-keys : goal.planned-requires-clause-keys
planned-requires-clause-keys c =
    let q = request_seen c.args.request.now in
    subst (λ ms. HasDistinctKeys (backs ms)) (sym c.as_slice.ensures)
    (distinct_keys c.args.world.now c.in_ok-definition.definition.now.formals q.maps c.in_ok-maps.maps c.in_ok-maps.ensures)
