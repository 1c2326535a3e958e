use Rattle.std.proofs.Common.{arith}
use Rattle.lisp_data.specs.SymbolText.{is_symbol_text}
use Rattle.worlds.proofs.Reserved.{all_parts}
use Rattle.worlds.proofs.names.Words.+add_given.Goals as goal

pub add_given-requires : goal.add_given-requires
add_given-requires t c = (
  omega (arith, c.in-Some.ensures.cases.1),
  (all_parts (λ w. is_symbol_text w.now) c.args.names.now c.in-Some.first.now c.in-Some.rest.now c.in-Some.ensures.cases.0 c.requires).1,
)

pub named-requires : goal.named-requires
named-requires t c =
    (all_parts (λ w. is_symbol_text w.now) c.args.names.now c.in-Some.first.now c.in-Some.rest.now c.in-Some.ensures.cases.0 c.requires).0
