use Rattle.std.proofs.Common.{◌-◌, length, ap, sym, ◌∙◌}
use Rattle.std.specs.Prelude.{slice_get}
use Rattle.evaluator.proofs.Steps.{top_last}
use Rattle.evaluator.proofs.machine.Machine.floor.Goals as goal

pub returns-in-Some : goal.returns-in-Some
returns-in-Some c =
    let found = rw c.in-Some.is at c.last.ensures.value in
    c.height.ensures ∙ sym (top_last 0 c.args.self.now.frames.items c.in-Some.frame.now (found ∙ ap (λ fs. slice_get fs (length fs - 1)) c.deref.ensures.value))
