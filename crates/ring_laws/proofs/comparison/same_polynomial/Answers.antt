use Rattle.std.proofs.Common.{◌≡◌, ◌↔◌, [], IsTrue, Ok, subst, sym, ◌∙◌, arith}
use Rattle.ring_laws.specs.Expressions.{expression}
use Rattle.ring_laws.specs.Polynomials.{SamePolynomial}
use Rattle.ring_laws.specs.view.Held.{with_atoms}
use Rattle.ring_laws.specs.view.Expansions.{SaysExpansion}
use Rattle.ring_laws.proofs.Soundness.{same_decides}
use Rattle.ring_laws.proofs.Expansions.{compared_terms}
use Rattle.ring_laws.proofs.comparison.same_polynomial.Goals as goal

pub returns-clause-value : goal.returns-clause-value
returns-clause-value c =
    let a = c.args.a.now in
    let b = c.args.b.now in
    let atoms = with_atoms (expression b) (with_atoms (expression a) []) in
    let all : c.collect-2.new.found.keys ≡ atoms = grind arith in
    c.same.ensures ∙ compared_terms c.in_ok-p.p c.in_ok-q.q [] a b
    (subst (λ t. SaysExpansion (Ok c.in_ok-p.p) t (expression a)) all c.in_ok-p.ensures)
    (subst (λ t. SaysExpansion (Ok c.in_ok-q.q) t (expression b)) all c.in_ok-q.ensures)

pub returns-clause-same : goal.returns-clause-same
returns-clause-same c =
    subst (λ t. IsTrue t ↔ SamePolynomial c.args.a.now c.args.b.now) (sym (returns-clause-value c)) (same_decides c.args.a.now c.args.b.now)
