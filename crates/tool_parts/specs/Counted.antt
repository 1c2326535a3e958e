-- What is needed of a function whose recursive calls are looked for.
use Rattle.std.specs.Prelude.{◌≡◌, false, length}
use Rattle.measures.specs.Calls.{CallsTake}
use Rattle.terms.specs.Measures.{is_nested}
use Rattle.terms.specs.Worlds.{Distinct}
use Rattle.terms.specs.declared.definition.Definition.{Definition}

-- its formals are distinct, its recursive calls have as many arguments, and none of these has a further one
pub record IsCounted (d : Definition) : Type 0 where
  pub distinct : Distinct d.formals
  pub arity : CallsTake d.name (length d.formals) d.body
  pub flat : is_nested d.name d.body ≡ false
