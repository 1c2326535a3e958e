use Rattle.std.proofs.Common.{arith}
use Rattle.std.proofs.lemmas.Result.{on_ok_weaker}
use Rattle.term_forms.proofs.Prints.{printable-past}
use Rattle.term_forms.proofs.print.+terms.Goals as goal

pub write_arguments-returns-clause-printable : goal.write_arguments-returns-clause-printable
write_arguments-returns-clause-printable t c =
    on_ok_weaker c.push-2.result
    (λ e. c.loop-term.invariant.printable (printable-past c.args.terms.now c.loop-term.term-index (omega (arith, c.loop-term-test.false))))
    c.push-2.ensures.ok
