use Rattle.std.proofs.Common.{ℤ, ℕ, List, ◌++◌, Result, Ok, Err, IfOk}
use Rattle.lists.specs.declared.memory.Memory.{Memory}
use Rattle.ring_laws.specs.declared.polynomial.Polynomial.{Polynomial}
use Rattle.ring_laws.specs.view.Held.{held, SameSum}
use Rattle.ring_laws.proofs.Maps.{sum_turned}
use Rattle.ring_laws.proofs.polynomial.Polynomial.plus.Goals as goal

turned : (r : Result Polynomial Memory) (fs gs : List (List ℕ × ℤ)) → IfOk r (λ p. SameSum (held p.terms.entries) (fs ++ gs)) → IfOk r (λ p. SameSum (held p.terms.entries) (gs ++ fs))
turned (Ok p) fs gs h = sum_turned (held p.terms.entries) fs gs h
turned (Err e) fs gs h = tt

pub returns-then-len : goal.returns-then-len
returns-then-len c = turned c.with.result (held c.args.other.terms.entries) (held c.args.self.terms.entries) c.with.ensures
