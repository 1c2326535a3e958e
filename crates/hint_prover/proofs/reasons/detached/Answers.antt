use Rattle.std.proofs.Common.{arith}
use Rattle.hints.proofs.Parts.{remains-more}
use Rattle.hint_prover.proofs.RuleParts.{detached-more}
use Rattle.hint_prover.proofs.reasons.detached.Goals as goal

pub rest-preserved : goal.rest-preserved
rest-preserved c =
    let proof = detached-more c.args.s.now c.rest.rest.now c.in-Some.a.now c.in-Some.b.now c.rest.all in
    let remains = remains-more c.rest.rest.now c.in-Some.a.now c.in-Some.b.now in
    grind (arith, proof, remains)
