use Rattle.std.proofs.Common.{◌≡◌, ◌+◌, ◌≤◌, not, pos, length}
use Rattle.std.specs.List.{filter}
use Rattle.std.specs.Ordering.{int_eq}
use Rattle.std.specs.BTreeMap.{values, btree_map_len}
use Rattle.ring_laws.proofs.polynomial.Polynomial.count.Given as goal

abbrev pub invariant-loop-factor : goal.invariant-loop-factor
invariant-loop-factor l =
    (l.count + length (filter (λ z. not (int_eq z (pos 0))) l.factor-iterator) ≡ length (filter (λ z. not (int_eq z (pos 0))) (values l.self.terms)))
    × (l.count + length l.factor-iterator ≤ btree_map_len l.self.terms)
