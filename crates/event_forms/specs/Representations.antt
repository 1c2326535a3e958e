-- The shape of `isodata`: a function on another representation of some of its arguments.
use Rattle.std.specs.Prelude.{codes, List, [], ◌∷◌, Option, Some, None, Ok}
use Rattle.lisp_data.specs.Values.{Name}
use Rattle.lisp_data.specs.Datum.{Datum}
use Rattle.term_forms.specs.Translation.{Outcome, and_then, and_rest, map_outcome}
use Rattle.proof_texts.specs.Items.{items_of, symbol_of}
use Rattle.event_forms.specs.Refused.{bad_part}
use Rattle.event_forms.specs.Keys.{no_keys, keys, value_of}
use Rattle.event_forms.specs.Clauses.{clauses_in, hints_in, given_items}
use Rattle.event_forms.specs.Isomorphisms.{next_name}
use Rattle.event_forms.specs.Transformations.{required}
use Rattle.event_forms.specs.declared.keys.Keyed.TheVariants.{Isodata}

-- Its parts: the old function, its pairs of a formal and an isomorphism, the names of the new function and of the two theorems, and the proofs
-- and the hints of its conditions by their names.
pub record IsodataParts : Type 0 where
  pub old : Name
  pub maps : List Datum
  pub function : Name
  pub new_to_old : Name
  pub old_to_new : Name
  pub proofs : List (Name × Datum)
  pub hows : List (Name × List Datum)

abbrev pub both_names : Option Name → Option Name → Outcome (Name × Name)
both_names (Some x) (Some i) = Ok (x, i)
both_names (Some x) None = bad_part (codes "pairs")
both_names None i = bad_part (codes "pairs")

-- `(x iso)`
abbrev pub map_by : Option (List Datum) → Outcome (Name × Name)
map_by (Some (x ∷ i ∷ [])) = both_names (symbol_of x) (symbol_of i)
map_by _ = bad_part (codes "pairs")

-- `(x iso) ..`
abbrev pub maps_of : List Datum → Outcome (List (Name × Name))
maps_of [] = Ok []
maps_of (form ∷ forms) = and_rest (map_by (items_of form)) (maps_of forms)

-- there is a pair at least
abbrev pub some_maps : Option (List Datum) → Outcome (List Datum)
some_maps None = bad_part (codes "pairs")
some_maps (Some []) = bad_part (codes "pairs")
some_maps (Some (form ∷ forms)) = map_outcome (λ maps. form ∷ forms) (maps_of (form ∷ forms))

abbrev pub isodata_parts : Name → List Datum → List Datum → Name → Name × Name → IsodataParts
isodata_parts f maps parts g theorems = record {
  old = f;
  maps = maps;
  function = g;
  new_to_old = theorems.0;
  old_to_new = theorems.1;
  proofs = clauses_in (given_items (value_of (codes ":PROOF") parts));
  hows = hints_in (given_items (value_of (codes ":HOW") parts));
}

-- the names that are two keys' values
abbrev pub two_required : Name → Name → List Datum → Outcome (Name × Name)
two_required first second parts = and_then (required first parts) (λ n. map_outcome (λ m. (n, m)) (required second parts))

-- the names of the two theorems by their keys; it is shut, since each goal would hold its letters
unfoldable pub theorems_named : List Datum → Outcome (Name × Name)
theorems_named parts = two_required (codes ":NEW-TO-OLD-NAME") (codes ":OLD-TO-NEW-NAME") parts

-- all names by their keys
abbrev pub isodata_named : Name → List Datum → List Datum → Outcome IsodataParts
isodata_named f maps parts =
    and_then (required (codes ":NEW-NAME") parts) (λ g.
    map_outcome (isodata_parts f maps parts g) (theorems_named parts))

-- `((x iso) ..) key value ..`
abbrev pub isodata_after : Name → List Datum → Outcome IsodataParts
isodata_after f [] = bad_part (codes "arguments")
isodata_after f (form ∷ parts) =
    and_then (some_maps (items_of form)) (λ maps.
    and_then (keys Isodata no_keys parts) (λ seen. isodata_named f maps parts))

-- `f ((x iso) ..) key value ..`
abbrev pub isodata_of : List Datum → Outcome IsodataParts
isodata_of parts = and_then (next_name parts) (λ f. isodata_after f.0 f.1)
