use Rattle.std.proofs.Common.{refl}
use Rattle.lisp_data.specs.SymbolText.{is_symbol_text}
use Rattle.lisp_data.specs.Atoms.{in_atom, is_delimiter, leaf, is_sign}
use Rattle.events.proofs.kinds.defthm.goal.Goals as goal

pub named-requires : goal.named-requires
unfolding is_symbol_text in_atom is_delimiter leaf is_sign
named-requires c = refl
