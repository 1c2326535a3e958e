-- The shapes of instances of functions, specifications and theorems.
use Rattle.std.specs.Prelude.{ℕ, codes, List, [], ◌∷◌, Option, Some, None, Ok}
use Rattle.lisp_data.specs.Values.{Name}
use Rattle.lisp_data.specs.Datum.{Datum}
use Rattle.terms.specs.declared.entries.FunPair.{FunPair}
use Rattle.term_forms.specs.Translation.{Outcome, and_then, and_rest, map_outcome}
use Rattle.proof_texts.specs.Items.{items_of}
use Rattle.proof_texts.specs.Parts.{two_symbols}
use Rattle.event_forms.specs.Keys.{no_keys, keys}
use Rattle.event_forms.specs.Places.{name_of}
use Rattle.event_forms.specs.Refused.{bad_part}
use Rattle.event_forms.specs.declared.keys.Keyed.{Keyed}

-- An instance's parts: its name, what it is an instance of, and its pairs of a function variable and a function.
pub record InstanceParts : Type 0 where
  pub name : Name
  pub of : Name
  pub pairs : List Datum

abbrev pub pair_by : Option (Name × Name) → Outcome FunPair
pair_by None = bad_part (codes "pairs")
pair_by (Some p) = Ok (record { variable = p.0; function = p.1 })

-- `(?v . h) ..`
abbrev pub pairs_of : List Datum → Outcome (List FunPair)
pairs_of [] = Ok []
pairs_of (form ∷ forms) = and_rest (pair_by (two_symbols form)) (pairs_of forms)

abbrev pub instance : Name → List Datum → Name → InstanceParts
instance n pairs g = record { name = n; of = g; pairs = pairs }

-- `(g (?v . h) ..)`
abbrev pub origin_of : Name → Option (List Datum) → Outcome InstanceParts
origin_of n None = bad_part (codes "pairs")
origin_of n (Some []) = bad_part (codes "name")
origin_of n (Some (g ∷ forms)) = and_then (name_of g) (λ g. map_outcome (λ pairs. instance n forms g) (pairs_of forms))

-- from the origin on
abbrev pub origin_after : Keyed → Name → List Datum → Outcome InstanceParts
origin_after kind n [] = bad_part (codes "arguments")
origin_after kind n (form ∷ parts) = and_then (origin_of n (items_of form)) (λ it. map_outcome (λ seen. it) (keys kind no_keys parts))

-- `(defun-inst f (g (?v . h) ..))` and `(defthm-inst n (t (?v . h) ..))`, each with its keys
abbrev pub instance_parts : Keyed → List Datum → Outcome InstanceParts
instance_parts kind [] = bad_part (codes "arguments")
instance_parts kind (n ∷ parts) = and_then (name_of n) (λ n. origin_after kind n parts)
