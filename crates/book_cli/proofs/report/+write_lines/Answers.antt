use Rattle.std.proofs.Common.{ℕ, ◌≡◌, ◌++◌, ◌∙◌, sym, ap, subst, ◌-◌, length, take, drop, get_or, List}
use Rattle.ports.specs.Streams.{GrowsByFront}
use Rattle.book_cli.specs.Report.{all_lines}
use Rattle.book_cli.proofs.ReportLemmas.{on_err, lines_split}
use Rattle.book_cli.proofs.RunLemmas.{front_second}
use Rattle.book_cli.proofs.report.+write_lines.Goals as goal

pub returns-in_err-write_lines-in-len1-up-clause-cut : goal.returns-in_err-write_lines-in-len1-up-clause-cut
returns-in_err-write_lines-in-len1-up-clause-cut g n c =
    let first : get_or c.args.lines.now 0 c.line-item.result ≡ c.as_slice.result.now = sym c.line-item.is ∙ sym c.as_slice.ensures in
    let rest : List ℕ = all_lines (take (length c.args.lines.now - 1) (drop 1 c.args.lines.now)) in
    on_err c.from_residual-in_err-write_lines-in-len1-up.result
    (subst (GrowsByFront (g.K.Sink.held c.args.out.now) (g.K.Sink.held c.write_lines.new.out))
    (sym (lines_split c.args.lines.now c.line-item.result c.in-len1-up.len_at_least ∙ ap (λ line. line ++ rest) first))
    (front_second _ (g.K.Sink.held c.put_all.new.sink) _ c.as_slice.result.now rest c.in_ok-put_all-in-len1-up.ensures.ok c.in_err-write_lines-in-len1-up.ensures.cut))
