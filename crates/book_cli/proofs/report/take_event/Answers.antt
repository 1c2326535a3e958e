use Rattle.std.proofs.Common.{ℕ, ◌∙◌, sym, subst}
use Rattle.ports.specs.Streams.{Grows, GrowsByFront}
use Rattle.ports.proofs.Streams.{Grows-trans}
use Rattle.lisp_data.specs.Datum.{Datum}
use Rattle.lisp_data.specs.FormView.{form_of}
use Rattle.book_cli.specs.Report.{all_lines, event_lines, last_line}
use Rattle.book_cli.proofs.ReportLemmas.{on_err, turn_goes, turn_stops}
use Rattle.book_cli.proofs.RunLemmas.{front_second}
use Rattle.book_cli.proofs.report.take_event.Goals as goal

pub returns-then-goes_on-clause-written : goal.returns-then-goes_on-clause-written
returns-then-goes_on-clause-written g c =
    let e : Datum × ℕ = (form_of c.args.located.form, c.args.located.place) in
    subst (Grows (g.K.Sink.held c.args.out.now) (g.K.Sink.held c.handle.new.out))
    (sym (turn_goes c.args.flags c.args.progress.now c.handle.new.progress e c.in_ok-accepted.accepted c.in_ok-accepted.ensures.next (sym c.goes_on.ensures ∙ c.if-goes_on.true)))
    c.in_ok-accepted.ensures.written

pub returns-in_err-write_last-clause-cut : goal.returns-in_err-write_last-clause-cut
returns-in_err-write_last-clause-cut g c =
    let e : Datum × ℕ = (form_of c.args.located.form, c.args.located.place) in
    on_err c.from_residual-in_err-write_last.result
    (subst (GrowsByFront (g.K.Sink.held c.args.out.now) (g.K.Sink.held c.write_last.new.out))
    (sym (turn_stops c.args.flags c.args.progress.now c.handle.new.progress e c.in_ok-accepted.accepted c.in_ok-accepted.ensures.next (sym c.goes_on.ensures ∙ c.if-goes_on.false)))
    (front_second _ (g.K.Sink.held c.handle.new.out) _ (all_lines (event_lines c.args.flags c.args.progress.now e)) (last_line c.handle.new.progress) c.in_ok-accepted.ensures.written c.in_err-write_last.ensures.cut))

pub returns-clause-written : goal.returns-clause-written
returns-clause-written g c =
    let e : Datum × ℕ = (form_of c.args.located.form, c.args.located.place) in
    subst (Grows (g.K.Sink.held c.args.out.now) (g.K.Sink.held c.write_last.new.out))
    (sym (turn_stops c.args.flags c.args.progress.now c.handle.new.progress e c.in_ok-accepted.accepted c.in_ok-accepted.ensures.next (sym c.goes_on.ensures ∙ c.if-goes_on.false)))
    (Grows-trans _ (g.K.Sink.held c.handle.new.out) _ (all_lines (event_lines c.args.flags c.args.progress.now e)) (last_line c.handle.new.progress) c.in_ok-accepted.ensures.written c.in_ok-write_last.ensures.written)
