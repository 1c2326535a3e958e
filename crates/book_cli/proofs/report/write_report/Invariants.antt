use Rattle.std.proofs.Common.{◌≡◌, ◌+◌, ◌≤◌, ◌&&◌, length}
use Rattle.book_cli.specs.view.Begun.{IsBegun}
use Rattle.book_cli.specs.Report.{report_from, report_of, world_from, world_made, accepts, accepts_all}
use Rattle.book_cli.proofs.report.write_report.Given as goal
use Rattle.lisp_reader.specs.declared.limits.TheConstants.{MAX_FORMS}

abbrev pub invariant-events : goal.invariant-events
invariant-events g l =
    record {
      begun : IsBegun (g.K.Sink.held l.fn.out) (g.K.Sink.held l.out) (report_from l.flags l.progress l.reader.0 l.reader.1) (report_of l.flags l.fn.reader);
      accepted : (l.all && accepts l.progress l.reader.0 l.reader.1) ≡ accepts_all l.fn.reader;
      final : world_from l.flags l.progress l.reader.0 ≡ world_made l.flags l.fn.reader;
      later : g.K.Sink.faults l.fn.out ≤ g.K.Sink.faults l.out;
      few : l.progress.handled + length l.reader.0 ≤ MAX_FORMS;
      counted : l.progress.counted ≤ l.progress.handled;
    }

abbrev pub decreases-events : goal.decreases-events
decreases-events g l = length l.reader.0
