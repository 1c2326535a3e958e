use Rattle.std.proofs.Common.{drop, ◌∷◌, refl, ap, sym, ◌∙◌, arith}
use Rattle.std.proofs.lemmas.List.{drop_more, take_rest}
use Rattle.kernel.specs.view.Checking.{rest_of}
use Rattle.kernel.proofs.Premises.{rest-end}
use Rattle.kernel.proofs.Stacks.{none_left, proceeds}
use Rattle.kernel.proofs.checker.Checker.proceed.Goals as goal

pub finish-requires-clause-all : goal.finish-requires-clause-all
finish-requires-clause-all c =
    let W = c.args.world.now in
    sym c.requires.left ∙ ap (rest_of W c.args.premises) (none_left c.args.rest.now (omega (arith, c.in_default.len_below))) ∙ rest-end W c.args.premises

pub returns-clause-goes : goal.returns-clause-goes
returns-clause-goes c =
    proceeds c.args.world.now c.args.self.now _ _ c.args.rest.now _
    (drop_more c.args.rest.now 0 c.next-item.result (omega (arith, c.in-len1-up.len_at_least)) ∙ ap (λ t. t ∷ drop 1 c.args.rest.now) (sym c.next-item.is) ∙ ap (λ l. c.next-item.result ∷ l) (sym (take_rest c.args.rest.now 1)))
    c.in_ok-push.ensures.items refl c.requires.linked c.requires.left refl tt refl refl
