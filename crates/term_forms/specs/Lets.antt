-- What `let` and `let*` are translated to.
use Rattle.std.specs.Prelude.{List, map}
use Rattle.lisp_data.specs.Datum.{Datum, nil_form, chain}
use Rattle.terms.specs.Terms.{Tm}
use Rattle.term_forms.specs.Translation.{Takes, Scope, Outcome, and_then, limited, let_of, bound_names, bound_terms, in_turn, translate}
use Rattle.term_forms.specs.Bindings.{binding_form}
use Rattle.term_forms.specs.declared.bindings.Binding.{Binding}

-- the term of `(let bindings body)`
abbrev pub let_outcome : Takes → Scope → Datum → Datum → Outcome Tm
let_outcome takes scope bindings body =
    and_then (let_of scope (bound_names bindings) (bound_terms takes scope bindings) (λ inner. translate takes inner body)) limited

-- the term of `(let* bindings body)`
abbrev pub in_turn_outcome : Takes → Scope → Datum → Datum → Outcome Tm
in_turn_outcome takes scope bindings body =
    and_then (and_then (bound_names bindings) (λ names. in_turn takes scope bindings (λ inner. translate takes inner body))) limited

-- a body after these bindings
abbrev pub after_bindings : Takes → Scope → List Binding → Datum → Outcome Tm
after_bindings takes scope bindings body = in_turn takes scope (chain (map binding_form bindings) nil_form) (λ inner. translate takes inner body)
