use Rattle.std.proofs.Common.{codes, ℕ, List, ◌++◌, ap, ◌∙◌}
use Rattle.std.proofs.lemmas.Result.{on_ok_weaker}
use Rattle.events.proofs.ShownLemmas.{two_parts}
use Rattle.events.proofs.kinds.defun_inst.DefunInstKind.write_title.Goals as goal

pub returns : goal.returns
returns c =
    let name_is = c.as_bytes.ensures.value ∙ c.text.ensures.text in
    on_ok_weaker c.extend-2.result
    (λ e. two_parts c.args.out.now c.extend.new.self c.extend-2.new.self (codes "defun-inst ") c.args.self.now.instance.name.now c.in_ok-extend.ensures.ok
    (e ∙ ap (λ (l : List ℕ). c.extend.new.self ++ l) name_is))
    c.extend-2.ensures.ok
