use Rattle.std.proofs.Common.{◌≡◌, ◌++◌, map, take}
use Rattle.lisp_data.specs.FormView.{form_of}
use Rattle.lisp_reader.specs.Printed.{items_text, ArePrintable}
use Rattle.lisp_reader.proofs.print.+forms.Given as goal

abbrev pub invariant-write_items-loop-i : goal.invariant-write_items-loop-i
invariant-write_items-loop-i l = record {
  written : l.out ≡ l.fn.out ++ items_text (map form_of (take l.i l.items));
  printable : ArePrintable (map form_of (take l.i l.items));
}
