-- Keys with their values. A key is a keyword, and its value stands behind it.
use Rattle.std.specs.Prelude.{ℕ, Bool, not, if◌then◌else◌, bytes_eq, codes, List, [], ◌∷◌, ◌++◌, Option, Some, None, Ok}
use Rattle.std.specs.List.{list_all}
use Rattle.lisp_data.specs.Values.{Name}
use Rattle.lisp_data.specs.Datum.{Datum}
use Rattle.term_forms.specs.Names.{begins_with}
use Rattle.terms.specs.Worlds.{is_in}
use Rattle.term_forms.specs.Translation.{Outcome, and_then}
use Rattle.proof_texts.specs.Items.{items_of, is_word, symbol_of}
use Rattle.event_forms.specs.Clauses.{further, named_with}
use Rattle.event_forms.specs.Constants.{is_constant}
use Rattle.event_forms.specs.Places.{is_symbol}
use Rattle.event_forms.specs.Refused.{bad_part, bad_key, unknown_key}
use Rattle.event_forms.specs.declared.clauses.ClauseKind.TheVariants.{Proof, Hints}
use Rattle.event_forms.specs.declared.keys.Keyed.{Keyed}
use Rattle.event_forms.specs.declared.keys.Keyed.TheVariants.{Function, Theorem, Isomorphism, Restriction, Isodata, FunctionInstance, TheoremInstance, Book}
use Rattle.event_forms.specs.declared.keys.SeenKeys.{SeenKeys}

-- the keys that an event or a declaration takes
unfoldable pub known_keys : Keyed → List Name
known_keys Function = codes ":GUARD" ∷ codes ":VERIFY-GUARDS" ∷ codes ":GUARD-HINTS" ∷ codes ":MEASURE" ∷ codes ":HOW" ∷ codes ":PROOF" ∷ []
known_keys Theorem = codes ":RULE-CLASSES" ∷ codes ":ASSUMING" ∷ codes ":HOW" ∷ codes ":PROOF" ∷ []
known_keys Isomorphism = codes ":HOW" ∷ codes ":PROOF" ∷ []
known_keys Restriction = codes ":NEW-NAME" ∷ codes ":THM-NAME" ∷ codes ":UNDEFINED" ∷ codes ":HOW" ∷ codes ":PROOF" ∷ []
known_keys Isodata = codes ":NEW-NAME" ∷ codes ":NEW-TO-OLD-NAME" ∷ codes ":OLD-TO-NEW-NAME" ∷ codes ":HOW" ∷ codes ":PROOF" ∷ []
known_keys FunctionInstance = codes ":VERIFY-GUARDS" ∷ []
known_keys TheoremInstance = codes ":RULE-CLASSES" ∷ []
known_keys Book = codes ":DIR" ∷ []

-- the part that is wrong where no keyword stands in a key's place
abbrev pub part_word : Keyed → List ℕ
part_word Function = codes "declare"
part_word Theorem = codes "arguments"
part_word Isomorphism = codes "arguments"
part_word Restriction = codes "arguments"
part_word Isodata = codes "arguments"
part_word FunctionInstance = codes "arguments"
part_word TheoremInstance = codes "arguments"
part_word Book = codes "arguments"

-- The conditions that the value of a key names, behind those that were named before; nothing where it has another shape or names one again. The
-- proofs and hints of a function and of an isomorphism are clauses, each of a condition. A theorem has one condition, which its proof names and
-- so do its hints, a list of steps; what it assumes is a list of names. A transformation's new names are names, and the value outside of a
-- restriction is one. An instance has no condition. The directory of a book is the system's, and
-- another key may have any value.
abbrev pub with_goal : List Name → Option (List Datum) → Option (List Name)
with_goal named None = None
with_goal named (Some steps) = further named (Some (codes ":GOAL"))

abbrev pub if_names : List Name → Option (List Datum) → Option (List Name)
if_names named None = None
if_names named (Some forms) = if list_all is_symbol forms then Some named else None

abbrev pub in_clauses : List Name → Name → Datum → Option (List Name)
in_clauses named k v =
    if bytes_eq k (codes ":PROOF") then named_with Proof named (items_of v)
    else if bytes_eq k (codes ":HOW") then named_with Hints named (items_of v)
    else Some named

abbrev pub in_theorem : List Name → Name → Datum → Option (List Name)
in_theorem named k v =
    if bytes_eq k (codes ":PROOF") then further named (Some (codes ":GOAL"))
    else if bytes_eq k (codes ":HOW") then with_goal named (items_of v)
    else if bytes_eq k (codes ":ASSUMING") then if_names named (items_of v)
    else Some named

-- the keys whose values are names
unfoldable pub name_keys : List Name
name_keys = codes ":NEW-NAME" ∷ codes ":THM-NAME" ∷ codes ":NEW-TO-OLD-NAME" ∷ codes ":OLD-TO-NEW-NAME" ∷ []

abbrev pub in_transformation : List Name → Name → Datum → Option (List Name)
in_transformation named k v =
    if is_in name_keys k then (if is_symbol v then Some named else None)
    else if bytes_eq k (codes ":UNDEFINED") then (if is_constant v then Some named else None)
    else in_clauses named k v

abbrev pub named_by : Keyed → List Name → Name → Datum → Option (List Name)
named_by Function named k v = in_clauses named k v
named_by Theorem named k v = in_theorem named k v
named_by Isomorphism named k v = in_clauses named k v
named_by Restriction named k v = in_transformation named k v
named_by Isodata named k v = in_transformation named k v
named_by FunctionInstance named k v = Some named
named_by TheoremInstance named k v = Some named
named_by Book named k v = if is_word (codes ":SYSTEM") v then Some named else None

-- a keyword begins with a colon
abbrev pub is_keyword : Name → Bool
is_keyword s = begins_with 58 s

-- a further key is a keyword, it is known, and wasn't given yet
abbrev pub further_key : Keyed → List Name → Name → Outcome Name
further_key kind seen k =
    if not (is_keyword k) then bad_part (part_word kind)
    else if not (is_in (known_keys kind) k) then unknown_key k
    else if is_in seen k then bad_key k
    else Ok k

abbrev pub key_of : Keyed → List Name → Option Name → Outcome Name
key_of kind seen None = bad_part (part_word kind)
key_of kind seen (Some k) = further_key kind seen k

-- before the first key
abbrev pub no_keys : SeenKeys
no_keys = record { keys = []; named = [] }

abbrev pub with_named : List Name → Name → Option (List Name) → Outcome SeenKeys
with_named seen key None = bad_key key
with_named seen key (Some named) = Ok (record { keys = seen ++ key ∷ []; named = named })

-- a further key with its value, after the keys that were seen
abbrev pub with_key : Keyed → SeenKeys → Datum → Datum → Outcome SeenKeys
with_key kind seen k v = and_then (key_of kind seen.keys (symbol_of k)) (λ key. with_named seen.keys key (named_by kind seen.named key v))

-- the keys after those that were seen, each with a value
abbrev pub keys : Keyed → SeenKeys → List Datum → Outcome SeenKeys
keys kind seen [] = Ok seen
keys kind seen (k ∷ []) = and_then (key_of kind seen.keys (symbol_of k)) bad_key
keys kind seen (k ∷ v ∷ parts) = and_then (with_key kind seen k v) (λ seen. keys kind seen parts)

-- the value of a key
abbrev pub value_of : List ℕ → List Datum → Option Datum
value_of key [] = None
value_of key (k ∷ []) = None
value_of key (k ∷ v ∷ parts) = if is_word key k then Some v else value_of key parts
