use Rattle.std.proofs.Common.{subst, List, IfSome}
use Rattle.lisp_data.specs.view.FormView.{AllProper, IsProper}
use Rattle.lisp_data.specs.declared.form.Form.{Form}
use Rattle.lisp_data.proofs.Proper.{found-proper}
use Rattle.lisp_data.proofs.form.Forms.get.Goals as goal

pub returns-clause-proper : goal.returns-clause-proper
returns-clause-proper c =
    let found = c.get.ensures.lookup in
    subst (λ (xs : List Form). IfSome c.get.result (λ f. AllProper xs → IsProper f.now)) c.deref.ensures.value
    (found-proper c.deref.result.now c.args.place c.get.result found.0 found.1)
