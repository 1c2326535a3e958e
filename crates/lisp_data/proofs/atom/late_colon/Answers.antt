use Rattle.std.proofs.Common.{◌∙◌, ap, nat_eq, take, drop}
use Rattle.std.proofs.lemmas.List.{take_rest}
use Rattle.std.specs.List.{position}
use Rattle.lisp_data.proofs.AtomSteps.{front-cut}
use Rattle.lisp_data.proofs.atom.late_colon.Goals as goal

pub returns-clause-place : goal.returns-clause-place
returns-clause-place c =
    let r = c.args.atom.now in
    c.colon.ensures.place ∙ ap (position (λ b. nat_eq b 58)) (take_rest (take c.min-len.result r) 1)
    ∙ ap (λ n. position (λ b. nat_eq b 58) (drop 1 (take n r))) c.min-len.ensures ∙ ap (λ t. position (λ b. nat_eq b 58) (drop 1 t)) (front-cut r)
