use Rattle.std.proofs.Common.{[], List, length, map, subst, sym}
use Rattle.std.specs.Prelude.{All, ◌≡◌}
use Rattle.terms.specs.Worlds.{Each}
use Rattle.terms.specs.Measures.{RecursiveCall}
use Rattle.measures.specs.view.Calls.{call_of}
use Rattle.measures.specs.declared.calls.RecursiveCall.{RecursiveCall as CallInCode}
use Rattle.measures.proofs.Lengths.{Takes, calls_take, lengths, told_calls}
use Rattle.measures.proofs.owed.obligations.Goals as goal

pub owed-requires-clause-lengths : goal.owed-requires-clause-lengths
owed-requires-clause-lengths c =
    let d = c.args.def.now in
    let n = length d.formals in
    let told = told_calls d.name d.body (map call_of c.in-Ok.calls) c.in-Ok.ensures in
    subst (λ (cs : List CallInCode). All (λ (k : CallInCode). n ≡ length k.args) cs) (sym c.as_slice.ensures)
    (lengths n c.in-Ok.calls (subst (λ (cs : List RecursiveCall). Each (Takes n) cs) told (calls_take d.name n [] d.body c.requires.arity)))
