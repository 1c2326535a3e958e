use Rattle.std.proofs.Common.{rules, ◌≡◌, ◌+◌, ◌&&◌, true, false, drop, sym, ap, ◌∙◌}
use Rattle.kernel.specs.Conclusion.{sequents_of}
use Rattle.kernel.specs.InductCases.{cases_of, falls_of}
use Rattle.kernel.specs.Induction.{all_fall}
use Rattle.kernel.proofs.Cases.{fall-next}
use Rattle.kernel.proofs.induction.all_fall.Goals as goal

pub returns-then-not-is_smaller : goal.returns-then-not-is_smaller
returns-then-not-is_smaller c =
    let cs = c.args.cases.now in
    let i = c.loop-case.case-index in
    let no : c.is_smaller.result ≡ false = search rules in
    sym (fall-next c.args.world.now.functions c.args.measure.now cs i c.case-item.result c.loop-case-test.true c.case-item.is c.is_smaller.result c.is_smaller.ensures
    ∙ ap (λ b. b && all_fall c.args.world.now.functions c.args.measure.now (cases_of (drop (i + 1) cs)) (sequents_of (falls_of (drop (i + 1) cs)))) no)
    ∙ c.loop-case.invariant

pub loop-case-preserved : goal.loop-case-preserved
loop-case-preserved c =
    let cs = c.args.cases.now in
    let i = c.loop-case.case-index in
    let yes : c.is_smaller.result ≡ true = search rules in
    sym (fall-next c.args.world.now.functions c.args.measure.now cs i c.case-item.result c.loop-case-test.true c.case-item.is c.is_smaller.result c.is_smaller.ensures
    ∙ ap (λ b. b && all_fall c.args.world.now.functions c.args.measure.now (cases_of (drop (i + 1) cs)) (sequents_of (falls_of (drop (i + 1) cs)))) yes)
    ∙ c.loop-case.invariant
