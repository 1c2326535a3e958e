use Rattle.std.proofs.Common.{ap, ◌∙◌}
use Rattle.lisp_data.specs.FormView.{form_of}
use Rattle.lisp_data.specs.RefusalCodes.{number}
use Rattle.events.proofs.StepLemmas.{stepped, refused_step}
use Rattle.events.proofs.steps.step.Goals as goal

pub returns-in-Ok : goal.returns-in-Ok
returns-in-Ok c = stepped c.args.world.now (form_of c.args.located.now.form) c.args.located.now.place c.args.index c.args.show c.in-Ok.answer c.in-Ok.ensures

pub returns-in_ok-lines-in-Refused : goal.returns-in_ok-lines-in-Refused
returns-in_ok-lines-in-Refused c =
    refused_step c.args.world.now (form_of c.args.located.now.form) c.args.located.now.place c.args.index c.args.show c.in-Refused.why c.number.result c.in_ok-lines-in-Refused.lines
    (rw c.in-Refused.is at c.in-Err.ensures) (c.number.ensures ∙ ap number c.code.ensures) c.in_ok-lines-in-Refused.ensures
