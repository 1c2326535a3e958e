use Rattle.std.proofs.Common.{arith, ap, sym, ◌∙◌}
use Rattle.term_forms.specs.declared.bindings.Binding.{Binding}
use Rattle.term_forms.proofs.Bound.{zip-grown}
use Rattle.term_forms.proofs.bindings.images.Goals as goal

pub loop-i-preserved : goal.loop-i-preserved
loop-i-preserved c =
    zip-grown c.args.bindings.now c.args.terms.now c.loop-i.i c.index-bindings-i.result c.index-terms-i.result c.in_ok-share-2.field-0 c.in_ok-share.field-0 c.loop-i.images c.push.new.self
    (omega arith) (omega arith) c.index-bindings-i.is c.index-terms-i.is (c.in_ok-share.ensures ∙ ap (λ (b : Binding). b.name) (sym c.index-bindings-i.is)) c.in_ok-share-2.ensures c.loop-i.invariant c.in_ok-push.ensures.ok
