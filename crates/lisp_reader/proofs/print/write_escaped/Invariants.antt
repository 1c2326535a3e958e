use Rattle.std.proofs.Common.{◌≡◌, ◌++◌, drop}
use Rattle.lisp_reader.specs.Printed.{escaped}
use Rattle.lisp_reader.specs.Writes.{Extends}
use Rattle.lisp_reader.proofs.print.write_escaped.Given as goal

abbrev pub invariant-loop-b : goal.invariant-loop-b
invariant-loop-b l = record {
  written : l.out ++ escaped (drop l.b-index l.text) ≡ l.fn.out ++ escaped l.text;
  kept : Extends l.fn.out l.out;
}
