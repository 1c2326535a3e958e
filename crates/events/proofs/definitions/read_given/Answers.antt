use Rattle.std.proofs.Common.{Option, Some, ap}
use Rattle.lisp_data.specs.FormView.{form_of}
use Rattle.terms.specs.Terms.{Tm}
use Rattle.terms.specs.Worlds.{arity, is_in}
use Rattle.term_forms.specs.Translation.{Outcome, map_outcome, translate}
use Rattle.events.specs.view.Halts.{IsFromTerm}
use Rattle.events.proofs.StepLemmas.{by_error, mapped_refusal}
use Rattle.events.proofs.definitions.read_given.Goals as goal

pub returns-in_err-measure : goal.returns-in_err-measure
returns-in_err-measure c =
    let o : Outcome Tm = translate (arity c.args.world.now.functions) (is_in c.args.formals.now) (form_of c.args.measure.now) in
    let given : Tm → Option Tm = λ m. Some m in
    by_error (λ m. m) (map_outcome given o) c.from_residual.result (IsFromTerm c.in_err-measure.field-0.0)
    c.from_residual.ensures (λ h is. mapped_refusal given o c.in_err-measure.field-0.0 h c.in_err-measure.ensures is)

pub returns : goal.returns
returns c = let given : Tm → Option Tm = λ m. Some m in ap (map_outcome given) c.in_ok-measure.ensures
