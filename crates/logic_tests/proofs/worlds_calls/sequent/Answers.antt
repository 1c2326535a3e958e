use Rattle.std.proofs.Common.{◌≡◌, pos, refl, sym, subst}
use Rattle.lisp_data.specs.Values.{Int}
use Rattle.terms.specs.Terms.{Quote}
use Rattle.terms.specs.Worlds.{Functions, IsTrueAt, Holds}
use Rattle.terms.specs.declared.sequent.Sequent.{Sequent}
use Rattle.logic_tests.proofs.worlds_calls.sequent.Goals as goal

two_holds : (W : Functions) (s : Sequent) → s.goal ≡ Quote (Int (pos 2)) → Holds W s
two_holds W s e I tot us env hs = subst (IsTrueAt W I env) (sym e) (0, Int (pos 2), refl, λ h. cc)

pub returns-clause-holds : goal.returns-clause-holds
returns-clause-holds c = λ W. two_holds W _ c.in_ok-goal.ensures
