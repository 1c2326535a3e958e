use Rattle.std.proofs.Common.{◌≡◌, true, false, sym, subst}
use Rattle.ports.specs.Streams.{GrowsByFront}
use Rattle.lisp_reader.specs.Grammar.{book_of, parse}
use Rattle.book_cli.specs.Report.{Read, report_of, report}
use Rattle.book_cli.proofs.RunLemmas.{accepted_run, refused_run, whole_book, front_book, front_refused, if_some}
use Rattle.book_cli.proofs.program.check_book.Goals as goal

pub returns-in-Ok-clause-cut : goal.returns-in-Ok-clause-cut
returns-in-Ok-clause-cut g c h =
    let before = g.K.Sink.held c.args.out.now in
    let after = g.K.Sink.held c.report_bytes.new.out in
    if_some (g.B.Source.left c.args.book.now) (λ bytes. book_of bytes ≡ parse false c.in-Ok.bytes) (λ bytes. GrowsByFront before after (report c.args.flags bytes))
    (whole_book (g.B.Source.left c.args.book.now) (g.B.Source.left c.read_all.new.src) c.in-Ok.bytes c.in-Ok.ensures.whole)
    (λ bytes e. subst (λ (r : Read). GrowsByFront before after (report_of c.args.flags r)) (sym e) (rw c.as_slice.ensures at (c.report_bytes.ensures.cut h)))

pub returns-in-TooLong-clause-accepted : goal.returns-in-TooLong-clause-accepted
returns-in-TooLong-clause-accepted g c h =
    absurd (front_refused c.in-TooLong.front (rw c.as_slice-in-TooLong.ensures at (c.report_bytes-in-TooLong.ensures.accepted h).accepts))

pub returns-in-TooLong-clause-cut : goal.returns-in-TooLong-clause-cut
returns-in-TooLong-clause-cut g c h =
    let before = g.K.Sink.held c.args.out.now in
    let after = g.K.Sink.held c.report_bytes-in-TooLong.new.out in
    if_some (g.B.Source.left c.args.book.now) (λ bytes. book_of bytes ≡ parse true c.in-TooLong.front) (λ bytes. GrowsByFront before after (report c.args.flags bytes))
    (front_book (g.B.Source.left c.args.book.now) c.in-TooLong.front (rw c.in-TooLong.is at c.in-Err.ensures).cut)
    (λ bytes e. subst (λ (r : Read). GrowsByFront before after (report_of c.args.flags r)) (sym e) (rw c.as_slice-in-TooLong.ensures at (c.report_bytes-in-TooLong.ensures.cut h)))

pub returns-in-Ok-clause-accepted : goal.returns-in-Ok-clause-accepted
returns-in-Ok-clause-accepted g c h =
    accepted_run c.printed_values_are_true.ensures c.args.flags _ _ (g.K.Sink.held c.args.out.now) (g.K.Sink.held c.report_bytes.new.out) c.in-Ok.bytes c.in-Ok.ensures.whole
    (rw c.as_slice.ensures at (c.report_bytes.ensures.accepted h))

pub returns-in-Ok-clause-refused : goal.returns-in-Ok-clause-refused
returns-in-Ok-clause-refused g c h =
    refused_run c.printed_values_are_true.ensures c.args.flags (g.B.Source.left c.args.book.now) (g.K.Sink.held c.args.out.now) (g.K.Sink.held c.report_bytes.new.out) (parse false c.in-Ok.bytes)
    (whole_book (g.B.Source.left c.args.book.now) (g.B.Source.left c.read_all.new.src) c.in-Ok.bytes c.in-Ok.ensures.whole)
    (rw c.as_slice.ensures at (c.report_bytes.ensures.refused h))

pub returns-in-TooLong-clause-refused : goal.returns-in-TooLong-clause-refused
returns-in-TooLong-clause-refused g c h =
    refused_run c.printed_values_are_true.ensures c.args.flags (g.B.Source.left c.args.book.now) (g.K.Sink.held c.args.out.now) (g.K.Sink.held c.report_bytes-in-TooLong.new.out) (parse true c.in-TooLong.front)
    (front_book (g.B.Source.left c.args.book.now) c.in-TooLong.front (rw c.in-TooLong.is at c.in-Err.ensures).cut)
    (rw c.as_slice-in-TooLong.ensures at (c.report_bytes-in-TooLong.ensures.refused h))
