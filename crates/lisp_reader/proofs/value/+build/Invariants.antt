use Rattle.std.proofs.Common.{◌≡◌, ◌≤◌, length, drop, map}
use Rattle.lisp_data.specs.Values.{IsSmall}
use Rattle.lisp_data.specs.ValueView.{val_of}
use Rattle.lisp_data.specs.FormView.{form_of}
use Rattle.lisp_reader.specs.view.Building.{value_before}
use Rattle.lisp_reader.proofs.value.+build.Given as goal

abbrev pub invariant-build_before-items : goal.invariant-build_before-items
invariant-build_before-items l = record {
  built : val_of l.value ≡ value_before (map form_of (drop l.i l.items)) (val_of l.fn.end);
  small : IsSmall (val_of l.value);
  inside : l.i ≤ length l.items;
}

abbrev pub decreases-build_before-items : goal.decreases-build_before-items
decreases-build_before-items l = l.i
