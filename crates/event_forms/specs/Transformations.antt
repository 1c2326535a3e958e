-- The shapes of transformations.
use Rattle.std.specs.Prelude.{codes, List, [], ◌∷◌, Option, Some, None}
use Rattle.lisp_data.specs.Values.{Name, Val, Sym, nil}
use Rattle.lisp_data.specs.Datum.{Datum}
use Rattle.terms.specs.Evaluation.{then_with}
use Rattle.term_forms.specs.Translation.{Outcome, and_then, map_outcome}
use Rattle.proof_texts.specs.Items.{symbol_of}
use Rattle.event_forms.specs.Refused.{bad_part, bad_key, or_refused}
use Rattle.event_forms.specs.Keys.{no_keys, keys, value_of}
use Rattle.event_forms.specs.Clauses.{clauses_in, hints_in, given_items}
use Rattle.event_forms.specs.Constants.{constant_of}
use Rattle.event_forms.specs.Isomorphisms.{next_name}
use Rattle.event_forms.specs.declared.keys.Keyed.TheVariants.{Restriction}

-- the name that is a key's value; a key that has to be given may be missing
abbrev pub required : Name → List Datum → Outcome Name
required key parts = or_refused (bad_key key) (then_with (value_of key parts) symbol_of)

-- A restriction's parts: the old function, the restriction, the value outside of it, the names of the new function and of the theorem, and the
-- proofs and the hints of its conditions by their names.
pub record RestrictParts : Type 0 where
  pub old : Name
  pub restriction : Datum
  pub undefined : Val
  pub function : Name
  pub theorem : Name
  pub proofs : List (Name × Datum)
  pub hows : List (Name × List Datum)

-- the value of a form, where it has one; keys have no others
abbrev pub or_nil : Option Val → Val
or_nil None = nil
or_nil (Some v) = v

-- the value that is given outside of a restriction, or the keyword :UNDEFINED
abbrev pub undefined_by : Option Datum → Val
undefined_by None = Sym (codes ":UNDEFINED")
undefined_by (Some form) = or_nil (constant_of form)

abbrev pub restrict_parts : Name → Datum → List Datum → Name → Name → RestrictParts
restrict_parts f r parts g n = record {
  old = f;
  restriction = r;
  undefined = undefined_by (value_of (codes ":UNDEFINED") parts);
  function = g;
  theorem = n;
  proofs = clauses_in (given_items (value_of (codes ":PROOF") parts));
  hows = hints_in (given_items (value_of (codes ":HOW") parts));
}

-- its names by their keys
abbrev pub restrict_named : Name → Datum → List Datum → Outcome RestrictParts
restrict_named f r parts =
    and_then (required (codes ":NEW-NAME") parts) (λ g.
    map_outcome (restrict_parts f r parts g) (required (codes ":THM-NAME") parts))

-- `r key value ..`
abbrev pub restrict_after : Name → List Datum → Outcome RestrictParts
restrict_after f [] = bad_part (codes "arguments")
restrict_after f (r ∷ parts) = and_then (keys Restriction no_keys parts) (λ seen. restrict_named f r parts)

-- `f r key value ..`
abbrev pub restrict_of : List Datum → Outcome RestrictParts
restrict_of parts = and_then (next_name parts) (λ f. restrict_after f.0 f.1)
