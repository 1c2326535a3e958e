-- Clauses: the text of a proof, or the steps of hints, each under the name of the condition that it serves.
use Rattle.std.specs.Prelude.{List, [], ◌∷◌, ◌++◌, if◌then◌else◌, Option, Some, None, option_map}
use Rattle.lisp_data.specs.Values.{Name}
use Rattle.lisp_data.specs.Datum.{Datum}
use Rattle.terms.specs.Evaluation.{then_with}
use Rattle.terms.specs.Worlds.{is_in}
use Rattle.proof_texts.specs.Items.{items_of, symbol_of}
use Rattle.event_forms.specs.declared.clauses.ClauseKind.{ClauseKind}
use Rattle.event_forms.specs.declared.clauses.ClauseKind.TheVariants.{Proof, Hints}

-- `(condition proof)`
abbrev pub clause_by : Option (List Datum) → Option (Name × Datum)
clause_by (Some (c ∷ p ∷ [])) = option_map (λ n. (n, p)) (symbol_of c)
clause_by _ = None

abbrev pub clause_of : Datum → Option (Name × Datum)
clause_of form = clause_by (items_of form)

-- `(condition step ..)`
abbrev pub hint_by : Option (List Datum) → Option (Name × List Datum)
hint_by (Some (c ∷ steps)) = option_map (λ n. (n, steps)) (symbol_of c)
hint_by _ = None

abbrev pub hint_of : Datum → Option (Name × List Datum)
hint_of form = hint_by (items_of form)

abbrev pub with_clause : {A : Type 0} → Option (Name × A) → List (Name × A) → List (Name × A)
with_clause None cs = cs
with_clause (Some c) cs = c ∷ cs

-- the clauses of proofs among forms, in order
abbrev pub clauses_in : List Datum → List (Name × Datum)
clauses_in [] = []
clauses_in (form ∷ forms) = with_clause (clause_of form) (clauses_in forms)

-- the clauses of hints among forms, in order
abbrev pub hints_in : List Datum → List (Name × List Datum)
hints_in [] = []
hints_in (form ∷ forms) = with_clause (hint_of form) (hints_in forms)

-- the items of a list, where it is given
abbrev pub listed : Option (List Datum) → List Datum
listed None = []
listed (Some forms) = forms

abbrev pub given_items : Option Datum → List Datum
given_items None = []
given_items (Some form) = listed (items_of form)

-- the condition of a clause
abbrev pub condition_of : ClauseKind → Datum → Option Name
condition_of Proof form = option_map (λ c. c.0) (clause_of form)
condition_of Hints form = option_map (λ c. c.0) (hint_of form)

-- a condition behind those that were named before; nothing where it was named before
abbrev pub further : List Name → Option Name → Option (List Name)
further named None = None
further named (Some n) = if is_in named n then None else Some (named ++ n ∷ [])

-- the conditions of clauses, each named once
abbrev pub all_named : ClauseKind → List Name → List Datum → Option (List Name)
all_named kind named [] = Some named
all_named kind named (form ∷ forms) = then_with (further named (condition_of kind form)) (λ named. all_named kind named forms)

-- those of a list of clauses
abbrev pub named_with : ClauseKind → List Name → Option (List Datum) → Option (List Name)
named_with kind named None = None
named_with kind named (Some forms) = all_named kind named forms
