use Rattle.std.proofs.Common.{codes}
use Rattle.std.proofs.lemmas.Result.{on_ok_weaker}
use Rattle.term_forms.specs.Printing.{term_text}
use Rattle.events.proofs.ShownLemmas.{three_parts}
use Rattle.events.proofs.shown.write_declared.Goals as goal

pub returns : goal.returns
returns c =
    on_ok_weaker c.extend-2.result
    (λ e. three_parts c.args.out.now c.extend.new.self c.print_term.new.out c.extend-2.new.self (codes "(DECLARE (XARGS :MEASURE ") (term_text c.args.measure.now) (codes ")) ")
    c.in_ok-extend.ensures.ok c.in_ok-print_term.ensures.ok e)
    c.extend-2.ensures.ok
