-- What may depend on function variables, and what has to.
use Rattle.std.specs.Prelude.{codes, List, [], ◌∷◌, Ok, Err}
use Rattle.lisp_data.specs.Values.{Name}
use Rattle.lisp_data.specs.declared.code.Code.TheVariants as code
use Rattle.lisp_data.specs.declared.detail.Detail.TheVariants as detail
use Rattle.terms.specs.Terms.{Tm}
use Rattle.terms.specs.Worlds.{World}
use Rattle.term_forms.specs.Translation.{Outcome}
use Rattle.soft_vars.specs.Dependents.{variables_in}
use Rattle.events.specs.declared.orders.Order.{Order}
use Rattle.events.specs.declared.orders.Order.TheVariants.{First, Second}

-- what is of first order depends on no function variable, and what is of second order on one at least
abbrev pub of_order : Order → List Name → Outcome (Unit {0})
of_order First [] = Ok tt
of_order First (x ∷ xs) = Err (code.HasFunctionVariables, detail.Name x)
of_order Second [] = Err (code.ShapeMismatch, detail.Word (codes "function-variable"))
of_order Second (x ∷ xs) = Ok tt

-- terms of this order, by the function variables on which they depend, directly or through definitions
abbrev pub in_order : World → Order → List Tm → Outcome (Unit {0})
in_order W order ts = of_order order (variables_in W ts)
