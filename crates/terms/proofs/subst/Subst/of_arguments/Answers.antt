use Rattle.std.proofs.Common.{◌≡◌, ap, ◌∙◌, arith}
use Rattle.std.specs.List.{zip}
use Rattle.terms.specs.Substitution.{by_pairs}
use Rattle.terms.proofs.Formals.{by_pairs-zip, formals}
use Rattle.terms.proofs.subst.Subst.of_arguments.Goals as goal

pub returns-clause-replaces : goal.returns-clause-replaces
returns-clause-replaces c =
    let all : c.loop-i.s ≡ zip c.args.formals.now c.args.args.now = grind (arith, formals) in
    ap by_pairs all ∙ by_pairs-zip c.args.formals.now c.args.args.now
