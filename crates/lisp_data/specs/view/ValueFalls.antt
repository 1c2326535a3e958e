-- The parts of a pair are smaller than the pair.
use Rattle.std.specs.Prelude.{◌≤◌, max}
use Rattle.std.proofs.Common.{arith}
use Rattle.lisp_data.specs.Values.{path}
use Rattle.lisp_data.specs.view.ValueView.{val_of, depth}
use Rattle.lisp_data.specs.declared.value.Value.{Value}
use Rattle.lisp_data.specs.declared.value.Value.TheVariants.{Int, Sym, Pair}
use Rattle.lisp_data.specs.declared.value.PairNode.TheInside.{Inside}
use Rattle.lisp_data.specs.declared.value.PairNode.TheDeep.{deep-Value}

deep-Value_le : (v : Value) → deep-Value v ≤ path (val_of v)
deep-Value_le (Int z) = omega arith
deep-Value_le (Sym s) = omega arith
deep-Value_le (Pair p) = omega arith

pub parts_below : (a : Inside) → max (deep-Value a.car) (max (deep-Value a.cdr) 0) ≤ depth (val_of a.car) (val_of a.cdr)
parts_below a = omega (arith, deep-Value_le a.car, deep-Value_le a.cdr)
