use Rattle.std.proofs.Common.{◌≡◌, ◌&&◌, nat_le, true, false, ap, sym, ◌∙◌, arith}
use Rattle.std.proofs.lemmas.Bool.{le-leb, lt-leb}
use Rattle.kernel.proofs.AxiomTruths.{is_numbered}
use Rattle.kernel.proofs.axioms.is_axiom.Goals as goal

pub returns-then-number-ge1 : goal.returns-then-number-ge1
returns-then-number-ge1 c =
    let n = c.args.number in
    let h : nat_le 1 n ≡ true = le-leb 1 n (omega (arith, c.if-number-ge1.true)) in
    ap (λ b. b && nat_le n 35) (sym h) ∙ is_numbered n

pub returns-else-number-ge1 : goal.returns-else-number-ge1
returns-else-number-ge1 c =
    let n = c.args.number in
    let h : nat_le 1 n ≡ false = lt-leb 1 n (omega (arith, c.if-number-ge1.false)) in
    h ∙ ap (λ b. b && nat_le n 35) (sym h) ∙ is_numbered n
