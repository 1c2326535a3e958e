use Rattle.std.proofs.Common.{◌≡◌, Some, rules, ap, sym, ◌∙◌}
use Rattle.std.specs.Option.{option_map}
use Rattle.terms.specs.Terms.{tms}
use Rattle.terms.specs.TermView.{tm_of}
use Rattle.reduction.specs.Hyps.{left}
use Rattle.reduction.specs.Finds.{finds}
use Rattle.reduction.specs.Seek.{seek_in, turned, placed}
use Rattle.reduction.proofs.Seeking.{seek-args}
use Rattle.reduction.proofs.seek.+seek.Goals as goal

pub seek_up-returns-in-Some : goal.seek_up-returns-in-Some
seek_up-returns-in-Some t c =
    let f = finds c.args.setting.now.world.now c.args.setting.now.how.now c.args.kind (left c.args.others.now) in
    let found : option_map placed (seek_in f (tms c.in-Call.args)) ≡ Some (turned c.in-Some.at) = search rules in
    sym (seek-args f c.args.whole c.args.term.now c.in-Call.field-0 (tms c.in-Call.args) (turned c.in-Some.at) (ap tm_of (sym c.in-Call.is) ∙ c.node.ensures) found)
