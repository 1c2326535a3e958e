-- The variables that a form binds.
use Rattle.std.specs.Prelude.{◌≡◌, List, [], ◌∷◌, map, Result, Ok, Err, if◌then◌else◌}
use Rattle.lisp_data.specs.Values.{Name}
use Rattle.lisp_data.specs.Datum.{Datum, SymForm, PairForm, nil_form, chain}
use Rattle.lisp_data.specs.FormView.{form_of, IsProper}
use Rattle.terms.specs.Terms.{Tm, substitute}
use Rattle.terms.specs.Substitution.{by_pairs}
use Rattle.term_forms.specs.Names.{is_variable_name}
use Rattle.term_forms.specs.Translation.{Scope, Outcome, bad_form, bound_name, bound_names, with_names}
use Rattle.term_forms.specs.view.TranslationView.{allowed, SaysOutcome}
use Rattle.term_forms.specs.declared.bindings.Binding.{Binding}
use Rattle.term_forms.specs.declared.bindings.Variables.{Variables}
use Rattle.term_forms.specs.declared.translation.TermError.{TermError}

-- which variables may stand
abbrev pub stands : Variables → Scope
stands v = with_names v.bound (allowed v.outer.now)

-- the variables of bindings
abbrev pub names_of : List Binding → List Name
names_of [] = []
names_of (b ∷ bs) = b.name ∷ names_of bs

-- the form `(x a)`
abbrev pub binding_form : Binding → Datum
binding_form b = PairForm (SymForm b.name) (PairForm (form_of b.form.now) nil_form)

-- the variable that a form is
abbrev pub variable_of : Datum → Outcome Name
variable_of (SymForm x) = if is_variable_name x then Ok x else bad_form
variable_of _ = bad_form

-- the form of each binding's term is proper
abbrev pub AreAllProper : List Binding → Type 0
AreAllProper [] = Unit {0}
AreAllProper (b ∷ bs) = IsProper b.form.now × AreAllProper bs

-- the answer is the binding that the form is, or the refusal of its shape
abbrev pub SaysBinding : Datum → Result Binding TermError → Type 0
SaysBinding d (Ok b) = (bound_name d ≡ Ok b.name) × (d ≡ binding_form b)
SaysBinding d (Err e) = SaysOutcome {A = Name} (bound_name d) (Err e)

-- the same for a list of bindings
abbrev pub SaysBindings : Datum → Result (List Binding) TermError → Type 0
SaysBindings d (Ok bs) = (bound_names d ≡ Ok (names_of bs)) × (d ≡ chain (map binding_form bs) nil_form)
SaysBindings d (Err e) = SaysOutcome {A = List Name} (bound_names d) (Err e)

-- the variable of a pair is replaced by its term
abbrev pub replaced_by : Name × Tm → Tm → Tm
replaced_by p t = substitute (by_pairs (p ∷ [])) t
