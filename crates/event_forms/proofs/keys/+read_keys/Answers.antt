use Rattle.std.proofs.Common.{sym, subst}
use Rattle.event_forms.specs.Refused.{Says}
use Rattle.event_forms.proofs.KeyLemmas.{keys-step}
use Rattle.event_forms.proofs.keys.+read_keys.Goals as goal

pub returns-in_ok-seen-in-len2-up : goal.returns-in_ok-seen-in-len2-up
returns-in_ok-seen-in-len2-up t c =
    let same = keys-step c.args.kind c.args.seen c.in_ok-seen-in-len2-up.seen c.args.parts.now c.key-item-2.result c.value-item.result c.in-len2-up.len_at_least c.key-item-2.is c.value-item.is c.in_ok-seen-in-len2-up.ensures in
    subst (λ o. Says (λ keys. keys) o c.read_keys.result) (sym same) c.read_keys.ensures
