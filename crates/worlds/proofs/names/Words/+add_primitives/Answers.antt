use Rattle.std.proofs.Common.{arith}
use Rattle.lisp_data.specs.SymbolText.{is_symbol_text}
use Rattle.worlds.proofs.Reserved.{all_parts}
use Rattle.worlds.proofs.names.Words.+add_primitives.Goals as goal

pub add_primitives-requires : goal.add_primitives-requires
add_primitives-requires t c = (
  omega (arith, c.in-Some.ensures.cases.1),
  (all_parts (λ e. is_symbol_text e.0.now) c.args.table.now c.in-Some.first.now c.in-Some.rest.now c.in-Some.ensures.cases.0 c.requires).1,
)

pub named-requires : goal.named-requires
named-requires t c =
    (all_parts (λ e. is_symbol_text e.0.now) c.args.table.now c.in-Some.first.now c.in-Some.rest.now c.in-Some.ensures.cases.0 c.requires).0
