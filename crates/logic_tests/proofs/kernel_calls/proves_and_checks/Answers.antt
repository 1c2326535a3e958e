use Rattle.std.proofs.Common.{◌≡◌, [], ◌∷◌, None, codes, refl, sym, subst}
use Rattle.terms.specs.Primitives.{primitive, primitives}
use Rattle.terms.specs.Terms.{Var}
use Rattle.terms.specs.Worlds.{World}
use Rattle.terms.specs.Measures.{call2}
use Rattle.terms.specs.Formed.{IsWellFormed}
use Rattle.terms.specs.Sound.{initial_world}
use Rattle.terms.specs.declared.definition.Definition.{Definition}
use Rattle.logic_tests.proofs.kernel_calls.proves_and_checks.Goals as goal

abbrev dup : Definition
dup = record { name = codes "DUP"; formals = codes "X" ∷ []; body = call2 (codes "CONS") (Var (codes "X")) (Var (codes "X")); measure = None }

dup_is_formed : IsWellFormed initial_world.functions dup
unfolding primitive primitives
dup_is_formed = record { formals = (λ h. h, tt); body = (refl, (tt, (tt, tt))); measure = tt; measured = λ h. cc; flat = refl }

same_definition : (d : Definition) → d.name ≡ dup.name → d.formals ≡ dup.formals → d.body ≡ dup.body → d.measure ≡ dup.measure → d ≡ dup
same_definition d n f b m = λ i. record { name = n i; formals = f i; body = b i; measure = m i }

pub with_function-requires-clause-well_formed : goal.with_function-requires-clause-well_formed
with_function-requires-clause-well_formed g c =
    let e = c.in_ok-dup.ensures in
    let same = same_definition c.in_ok-dup.field-0 e.name e.formals e.body e.measure in
    let formed = subst (λ (d : Definition). IsWellFormed initial_world.functions d) (sym same) dup_is_formed in
    subst (λ (W : World). IsWellFormed W.functions c.in_ok-dup.field-0) (sym c.in_ok-begin.ensures) formed
