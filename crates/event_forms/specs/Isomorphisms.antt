-- The shape of an isomorphism.
use Rattle.std.specs.Prelude.{codes, List, [], ◌∷◌}
use Rattle.lisp_data.specs.Values.{Name}
use Rattle.lisp_data.specs.Datum.{Datum}
use Rattle.term_forms.specs.Translation.{Outcome, and_then, map_outcome}
use Rattle.proof_texts.specs.Items.{symbol_of}
use Rattle.event_forms.specs.Refused.{bad_part, or_refused}
use Rattle.event_forms.specs.Keys.{no_keys, keys, value_of}
use Rattle.event_forms.specs.Clauses.{clauses_in, hints_in, given_items}
use Rattle.event_forms.specs.declared.keys.Keyed.TheVariants.{Isomorphism}

-- An isomorphism's parts: its name, its two predicates and its two functions, and the proofs and the hints of its conditions by their names.
pub record IsoParts : Type 0 where
  pub name : Name
  pub oldp : Name
  pub newp : Name
  pub forth : Name
  pub back : Name
  pub proofs : List (Name × Datum)
  pub hows : List (Name × List Datum)

-- the name that stands first, and the parts behind it
abbrev pub next_name : List Datum → Outcome (Name × List Datum)
next_name [] = bad_part (codes "arguments")
next_name (n ∷ parts) = map_outcome (λ n. (n, parts)) (or_refused (bad_part (codes "name")) (symbol_of n))

-- an isomorphism by its five names and its keys
abbrev pub iso_parts : Name → Name → Name → Name → Name → List Datum → IsoParts
iso_parts n oldp newp forth back parts = record {
  name = n;
  oldp = oldp;
  newp = newp;
  forth = forth;
  back = back;
  proofs = clauses_in (given_items (value_of (codes ":PROOF") parts));
  hows = hints_in (given_items (value_of (codes ":HOW") parts));
}

-- `n oldp newp forth back key value ..`
abbrev pub iso_of : List Datum → Outcome IsoParts
iso_of parts =
    and_then (next_name parts) (λ n.
    and_then (next_name n.1) (λ oldp.
    and_then (next_name oldp.1) (λ newp.
    and_then (next_name newp.1) (λ forth.
    and_then (next_name forth.1) (λ back.
    map_outcome (λ seen. iso_parts n.0 oldp.0 newp.0 forth.0 back.0 back.1) (keys Isomorphism no_keys back.1))))))
