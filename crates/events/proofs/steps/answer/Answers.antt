use Rattle.std.proofs.Common.{◌≡◌, Ok, sym, subst}
use Rattle.lisp_data.specs.FormView.{form_of}
use Rattle.term_forms.specs.Translation.{Outcome}
use Rattle.event_forms.specs.ShapeView.{specification_seen, instance_seen}
use Rattle.event_forms.specs.Shapes.{Event, DefunSk2, DefunInst, DefthmInst, ValueTriple, event_of}
use Rattle.events.specs.view.Halts.{Answers}
use Rattle.events.proofs.steps.answer.Goals as goal

pub returns-in-DefunSk2 : goal.returns-in-DefunSk2
returns-in-DefunSk2 c =
    let form = form_of c.args.form.now in
    let is : event_of form ≡ Ok (DefunSk2 (specification_seen c.in-DefunSk2.specification)) =
    rw c.in-DefunSk2.is at c.in_ok-read_event.ensures.event in
    subst (λ (o : Outcome Event). Answers c.args.world.now form o c.args.show c.handle-in-DefunSk2.result) (sym is) c.handle-in-DefunSk2.ensures

pub returns-in-DefunInst : goal.returns-in-DefunInst
returns-in-DefunInst c =
    let form = form_of c.args.form.now in
    let is : event_of form ≡ Ok (DefunInst (instance_seen c.in-DefunInst.instance)) = rw c.in-DefunInst.is at c.in_ok-read_event.ensures.event in
    subst (λ (o : Outcome Event). Answers c.args.world.now form o c.args.show c.handle-in-DefunInst.result) (sym is) c.handle-in-DefunInst.ensures

pub returns-in-DefthmInst : goal.returns-in-DefthmInst
returns-in-DefthmInst c =
    let form = form_of c.args.form.now in
    let is : event_of form ≡ Ok (DefthmInst (instance_seen c.in-DefthmInst.instance)) = rw c.in-DefthmInst.is at c.in_ok-read_event.ensures.event in
    subst (λ (o : Outcome Event). Answers c.args.world.now form o c.args.show c.handle-in-DefthmInst.result) (sym is) c.handle-in-DefthmInst.ensures

pub returns-in-ValueTriple : goal.returns-in-ValueTriple
returns-in-ValueTriple c =
    let form = form_of c.args.form.now in
    let is : event_of form ≡ Ok (ValueTriple (form_of c.in-ValueTriple.part.now)) = rw c.in-ValueTriple.is at c.in_ok-read_event.ensures.event in
    subst (λ (o : Outcome Event). Answers c.args.world.now form o c.args.show c.print.result) (sym is) (c.print.ensures form c.args.show)
