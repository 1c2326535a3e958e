use Rattle.std.proofs.Common.{◌≡◌, true, sym, subst, ◌∙◌}
use Rattle.lisp_data.specs.SymbolText.{is_symbol_text}
use Rattle.plan_checks.proofs.NumberedNames.{number_is_symbol}
use Rattle.plan_checks.proofs.conditions.condition.Goals as goal

pub named-requires : goal.named-requires
named-requires c = subst (λ t. is_symbol_text t ≡ true) (sym (c.deref.ensures ∙ c.in_ok-name.ensures.ok)) (number_is_symbol c.args.word.now c.args.number c.requires c.ranges.number.fits)
