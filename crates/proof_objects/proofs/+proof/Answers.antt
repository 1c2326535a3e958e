use Rattle.std.proofs.Common.{rules, sym, ap, ◌∙◌, subst, arith}
use Rattle.proof_objects.specs.view.ProofView.{tree_of}
use Rattle.proof_objects.specs.view.ProofFalls.{node_below}
use Rattle.proof_objects.specs.view.Kept.{IsKept}
use Rattle.proof_objects.specs.declared.proof.Shared.{Shared}
use Rattle.proof_objects.proofs.Subproofs.{gone_less, gone_within, node_within, moved_less, moved_within, rest_within}
use Rattle.proof_objects.proofs.+proof.Goals as goal

pub proof::Proof::drop-loop-next-smaller-in_default-into_inner :
    goal.proof::Proof::drop-loop-next-smaller-in_default-into_inner
proof::Proof::drop-loop-next-smaller-in_default-into_inner t c =
    gone_less c.loop-next.left.items c.pop.new.self.items c.in-Some-pop.next c.in-Some-pop.ensures.items

pub proof::Proof::drop-loop-next-preserved-in_default-into_inner :
    goal.proof::Proof::drop-loop-next-preserved-in_default-into_inner
proof::Proof::drop-loop-next-preserved-in_default-into_inner t c =
    gone_within c.loop-next.left.items c.pop.new.self.items c.in-Some-pop.next c.in-Some-pop.ensures.items _ c.loop-next.invariant

pub proof::Proof::drop-drop-owners-requires : goal.proof::Proof::drop-drop-owners-requires
proof::Proof::drop-drop-owners-requires t c κs =
    let s = c.in-Some-into_inner.shared in
    let same = c.in-Some-into_inner.ensures in
    let less = rest_within c.loop-next.left.items c.pop.new.self.items c.in-Some-pop.next c.in-Some-pop.ensures.items s
    (subst IsKept (sym same) c.self-in-Some-pop.invariant) (ap (λ (s : Shared). tree_of s.node.value) same ∙ c.self-in-Some-pop.view_is) _ _ c.append-moved.ensures.other_items _ c.loop-next.invariant in
    (((omega (arith, c.decreases, less), tt), tt), search rules)

pub proof::Proof::drop-drop-shared-requires-in-Some-pop :
    goal.proof::Proof::drop-drop-shared-requires-in-Some-pop
proof::Proof::drop-drop-shared-requires-in-Some-pop t c κs =
    let s = c.in-Some-into_inner.shared in
    let same = c.in-Some-into_inner.ensures in
    let less = node_within c.loop-next.left.items c.pop.new.self.items c.in-Some-pop.next c.in-Some-pop.ensures.items s
    (subst IsKept (sym same) c.self-in-Some-pop.invariant) (ap (λ (s : Shared). tree_of s.node.value) same ∙ c.self-in-Some-pop.view_is) _ c.loop-next.invariant in
    (((omega (arith, c.decreases, less, node_below s.node.value), tt), tt), search rules)

pub proof::Proof::drop-loop-next-smaller : goal.proof::Proof::drop-loop-next-smaller
proof::Proof::drop-loop-next-smaller t c =
    let s = c.in-Some-into_inner.shared in
    let same = c.in-Some-into_inner.ensures in
    moved_less c.loop-next.left.items c.pop.new.self.items c.in-Some-pop.next c.in-Some-pop.ensures.items s
    (subst IsKept (sym same) c.self-in-Some-pop.invariant) (ap (λ (s : Shared). tree_of s.node.value) same ∙ c.self-in-Some-pop.view_is) _ _ c.append-moved.ensures.items

pub proof::Proof::drop-loop-next-preserved : goal.proof::Proof::drop-loop-next-preserved
proof::Proof::drop-loop-next-preserved t c =
    let s = c.in-Some-into_inner.shared in
    let same = c.in-Some-into_inner.ensures in
    moved_within c.loop-next.left.items c.pop.new.self.items c.in-Some-pop.next c.in-Some-pop.ensures.items s
    (subst IsKept (sym same) c.self-in-Some-pop.invariant) (ap (λ (s : Shared). tree_of s.node.value) same ∙ c.self-in-Some-pop.view_is) _ _ c.append-moved.ensures.items _ c.loop-next.invariant
