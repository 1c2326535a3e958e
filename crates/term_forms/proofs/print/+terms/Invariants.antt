use Rattle.std.proofs.Common.{◌≡◌, ◌+◌, ◌*◌, ◌++◌, drop}
use Rattle.lisp_reader.specs.Printed.{IsPrintable}
use Rattle.lisp_reader.specs.Writes.{Extends}
use Rattle.term_forms.specs.Printing.{arguments_text, form_of_arguments}
use Rattle.terms.specs.Terms.{depth, depths, tms}
use Rattle.term_forms.proofs.print.+terms.Given as goal

abbrev pub decreases-write_term : goal.decreases-write_term
decreases-write_term l = 2 * depth l.term.now + 1

abbrev pub decreases-write_arguments : goal.decreases-write_arguments
decreases-write_arguments l = 2 * depths (tms l.terms.now)

abbrev pub invariant-write_arguments-loop-term : goal.invariant-write_arguments-loop-term
invariant-write_arguments-loop-term l = record {
  written : l.out ++ arguments_text (tms (drop l.term-index l.terms)) ≡ l.fn.out ++ arguments_text (tms l.terms);
  printable : IsPrintable (form_of_arguments (tms (drop l.term-index l.terms))) → IsPrintable (form_of_arguments (tms l.terms));
  kept : Extends l.fn.out l.out;
}
