use Rattle.std.proofs.Common.{◌≡◌, true, sym, subst, ◌∙◌}
use Rattle.lisp_data.specs.SymbolText.{is_symbol_text}
use Rattle.events.proofs.ConditionNames.{decreases_is_symbol}
use Rattle.events.proofs.owed.decrease.Goals as goal

pub named-requires : goal.named-requires
named-requires c = subst (λ t. is_symbol_text t ≡ true) (sym (c.deref.ensures ∙ c.in_ok-name.ensures.ok)) (decreases_is_symbol c.args.call c.ranges.call.fits)
