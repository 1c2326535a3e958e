use Rattle.std.proofs.Common.{◌+◌}
use Rattle.lisp_data.specs.declared.detail.Detail.TheVariants.{Absent}
use Rattle.events.specs.declared.refusal.Refusal.TheVariants.{Coded}
use Rattle.events.specs.Lines.{refused_line}
use Rattle.book_cli.specs.Report.{last_line}
use Rattle.book_cli.proofs.ReportLemmas.{on_err}
use Rattle.book_cli.proofs.RunLemmas.{front_first, front_second}
use Rattle.book_cli.proofs.report.write_fault.Goals as goal

pub returns-in_err-write_refusal-clause-cut : goal.returns-in_err-write_refusal-clause-cut
returns-in_err-write_refusal-clause-cut g c =
    on_err c.from_residual.result
    (front_first _ _ (refused_line (c.args.progress.now.handled + 1) (Coded c.args.code Absent) c.args.place) (last_line c.args.progress.now) c.in_err-write_refusal.ensures.cut)

pub returns-in_err-write_last-clause-cut : goal.returns-in_err-write_last-clause-cut
returns-in_err-write_last-clause-cut g c =
    on_err c.from_residual-in_err-write_last.result
    (front_second _ (g.K.Sink.held c.write_refusal.new.out) _ (refused_line (c.args.progress.now.handled + 1) (Coded c.args.code Absent) c.args.place) (last_line c.args.progress.now) c.in_ok-write_refusal.ensures.written c.in_err-write_last.ensures.cut)
