-- The recursive calls of a definition, as many arguments each.
use Rattle.std.proofs.Common.{◌≡◌, ℕ, List, [], length, map, sym, subst}
use Rattle.std.specs.Prelude.{All}
use Rattle.terms.specs.Measures.{RecursiveCall, recursive_calls}
use Rattle.terms.specs.Worlds.{Each}
use Rattle.terms.specs.declared.definition.Definition.{Definition}
use Rattle.measures.specs.Calls.{call_of, CallsTake}
use Rattle.measures.specs.declared.calls.RecursiveCall.{RecursiveCall as CallInCode}
use Rattle.measures.proofs.Lengths.{Takes, calls_take, lengths}

-- each call has as many arguments as the function has formals
pub calls-count : (d : Definition) (cs : List CallInCode) → CallsTake d.name (length d.formals) d.body → map call_of cs ≡ recursive_calls d.name [] d.body → All (λ (c : CallInCode). length d.formals ≡ length c.args) cs
calls-count d cs take is =
    let n : ℕ = length d.formals in
    lengths n cs (subst (λ (ks : List RecursiveCall). Each (Takes n) ks) (sym is) (calls_take d.name n [] d.body take))

pub ruleset calling = (calls-count)
