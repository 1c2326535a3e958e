use Rattle.std.proofs.Common.{◌≡◌, bytes_eq, length, drop}
use Rattle.lisp_data.proofs.symbol.are_same.Given as goal

abbrev pub invariant-loop-i : goal.invariant-loop-i
invariant-loop-i l = record {
  lengths : length l.left ≡ length l.right;
  rest : bytes_eq (drop l.i l.left) (drop l.i l.right) ≡ bytes_eq l.left l.right;
}
