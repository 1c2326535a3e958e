use Rattle.std.proofs.Common.{◌≡◌, ◌+◌, ◌-◌, ◌^◌, ◌≤◌, min, max, take, drop}
use Rattle.terms.specs.Terms.{tms, nodes_in}
use Rattle.term_forms.specs.Translation.{levels_in}
use Rattle.term_forms.proofs.counted.Counted.call.Given as goal

abbrev pub invariant-loop-part : goal.invariant-loop-part
invariant-loop-part l = record {
  args : l.args ≡ take l.part-index l.parts;
  nodes : min (l.nodes + nodes_in (tms (drop l.part-index l.parts))) (2 ^ 64 - 1) ≡ min (nodes_in (tms l.parts) + 1) (2 ^ 64 - 1);
  levels : max l.levels (levels_in (tms (drop l.part-index l.parts))) ≡ levels_in (tms l.parts);
  fits : l.nodes ≤ 2 ^ 64 - 1;
}
