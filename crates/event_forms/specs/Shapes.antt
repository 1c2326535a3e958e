-- The shapes of events.
use Rattle.std.specs.Prelude.{ℕ, if◌then◌else◌, bytes_eq, codes, List, [], ◌∷◌, Option, Some, None, Ok}
use Rattle.lisp_data.specs.Values.{Name}
use Rattle.lisp_data.specs.Datum.{Datum}
use Rattle.terms.specs.Evaluation.{then_with}
use Rattle.terms.specs.Worlds.{is_in}
use Rattle.term_forms.specs.Translation.{Outcome, and_then, map_outcome}
use Rattle.proof_texts.specs.Items.{items_of, is_word}
use Rattle.event_forms.specs.Refused.{not_an_event, bad_part, unknown_book}
use Rattle.event_forms.specs.Places.{name_of, formals_of, string_of}
use Rattle.event_forms.specs.Keys.{no_keys, keys, value_of}
use Rattle.event_forms.specs.Clauses.{clauses_in, hints_in, given_items}
use Rattle.event_forms.specs.Declarations.{body_of, declared_value}
use Rattle.event_forms.specs.Instances.{InstanceParts, instance_parts}
use Rattle.event_forms.specs.Isomorphisms.{IsoParts, iso_of}
use Rattle.event_forms.specs.Representations.{IsodataParts, isodata_of}
use Rattle.event_forms.specs.Transformations.{RestrictParts, restrict_of}
use Rattle.event_forms.specs.SecondOrder.{VariableParts, SpecificationParts, variable_parts, specification_parts}
use Rattle.event_forms.specs.declared.keys.Keyed.TheVariants.{Theorem, FunctionInstance, TheoremInstance, Book}

-- A function's parts: its name, its formals, its body, its measure, if one is given, and the proofs and the hints of its
-- conditions by their names.
pub record FunctionParts : Type 0 where
  pub name : Name
  pub formals : List Datum
  pub body : Datum
  pub measure : Option Datum
  pub proofs : List (Name × Datum)
  pub hows : List (Name × List Datum)

-- A theorem's parts: its name, its formula, the names of the specifications that it assumes, its proof and its hint steps, if it has them.
pub record TheoremParts : Type 0 where
  pub name : Name
  pub formula : Datum
  pub assumed : List Datum
  pub proof : Option Datum
  pub how : Option (List Datum)

-- An event's parts: of a book its name, of a value-triple the form whose value it prints.
pub data Event : Type 0 where
  InPackage : Event
  IncludeBook : (book : List ℕ) → Event
  Defun : (function : FunctionParts) → Event
  Defthm : (theorem : TheoremParts) → Event
  Defiso : (iso : IsoParts) → Event
  Restrict : (restriction : RestrictParts) → Event
  Isodata : (representation : IsodataParts) → Event
  Defun2 : (function : FunctionParts) → Event
  Defunvar : (variable : VariableParts) → Event
  DefunSk2 : (specification : SpecificationParts) → Event
  DefunInst : (instance : InstanceParts) → Event
  DefthmInst : (instance : InstanceParts) → Event
  ValueTriple : (form : Datum) → Event

-- the books that may be included
unfoldable pub books : List (List ℕ)
books =
    codes "kestrel/soft/top" ∷ codes "kestrel/apt/top" ∷ codes "kestrel/apt/restrict" ∷ codes "kestrel/apt/isodata"
    ∷ codes "kestrel/apt/tailrec" ∷ codes "kestrel/apt/schemalg" ∷ codes "kestrel/apt/solve" ∷ []

-- the package of every book
abbrev pub only_package : Datum → Outcome (Unit {0})
only_package form = and_then (string_of form) (λ s. if bytes_eq s (codes "ACL2") then Ok tt else unknown_book s)

-- `(in-package "ACL2")`
abbrev pub in_package : List Datum → Outcome Event
in_package [] = bad_part (codes "arguments")
in_package (p ∷ []) = map_outcome (λ _. InPackage) (only_package p)
in_package (p ∷ q ∷ parts) = and_then (only_package p) (λ _. bad_part (codes "arguments"))

-- `(include-book "NAME" :dir :system)`, with or without the key
abbrev pub include_book : List Datum → Outcome Event
include_book [] = bad_part (codes "arguments")
include_book (p ∷ parts) =
    and_then (string_of p) (λ s. if is_in books s then map_outcome (λ seen. IncludeBook s) (keys Book no_keys parts) else unknown_book s)

-- a function of these formals and this body, by its parts behind the formals
abbrev pub function_parts : Name → List Datum → Datum → List Datum → Datum → FunctionParts
function_parts f xs p ps body = record {
  name = f;
  formals = xs;
  body = body;
  measure = declared_value (codes ":MEASURE") p ps;
  proofs = clauses_in (given_items (declared_value (codes ":PROOF") p ps));
  hows = hints_in (given_items (declared_value (codes ":HOW") p ps));
}

-- `(x ..) part .. body`
abbrev pub formals_after : Name → List Datum → Outcome FunctionParts
formals_after f [] = bad_part (codes "arguments")
formals_after f (xs ∷ []) = and_then (formals_of xs) (λ xs. bad_part (codes "arguments"))
formals_after f (xs ∷ p ∷ ps) = and_then (formals_of xs) (λ xs. map_outcome (function_parts f xs p ps) (body_of no_keys p ps))

-- `f (x ..) part .. body`
abbrev pub function_of : List Datum → Outcome FunctionParts
function_of [] = bad_part (codes "arguments")
function_of (f ∷ parts) = and_then (name_of f) (λ f. formals_after f parts)

-- `(defun f (x ..) part .. body)`
abbrev pub defun : List Datum → Outcome Event
defun parts = map_outcome Defun (function_of parts)

-- `(defun2 f (x ..) part .. body)`
abbrev pub defun2 : List Datum → Outcome Event
defun2 parts = map_outcome Defun2 (function_of parts)

-- a theorem by its name, its formula and its keys
abbrev pub theorem_parts : Name → Datum → List Datum → TheoremParts
theorem_parts n formula parts = record {
  name = n;
  formula = formula;
  assumed = given_items (value_of (codes ":ASSUMING") parts);
  proof = value_of (codes ":PROOF") parts;
  how = then_with (value_of (codes ":HOW") parts) items_of;
}

-- `(defthm n formula key value ..)`
abbrev pub defthm_after : Name → List Datum → Outcome Event
defthm_after n [] = bad_part (codes "arguments")
defthm_after n (formula ∷ parts) = map_outcome (λ seen. Defthm (theorem_parts n formula parts)) (keys Theorem no_keys parts)

abbrev pub defthm : List Datum → Outcome Event
defthm [] = bad_part (codes "arguments")
defthm (n ∷ parts) = and_then (name_of n) (λ n. defthm_after n parts)

-- `(defunvar ?f (* ..) => *)`
abbrev pub defunvar : List Datum → Outcome Event
defunvar parts = map_outcome Defunvar (variable_parts parts)

-- `(defun-sk2 s () (forall (x ..) matrix))`
abbrev pub defun_sk2 : List Datum → Outcome Event
defun_sk2 parts = map_outcome DefunSk2 (specification_parts parts)

-- `(defun-inst f (g (?v . h) ..) key value ..)`
abbrev pub defun_inst : List Datum → Outcome Event
defun_inst parts = map_outcome DefunInst (instance_parts FunctionInstance parts)

-- `(defthm-inst n (t (?v . h) ..) key value ..)`
abbrev pub defthm_inst : List Datum → Outcome Event
defthm_inst parts = map_outcome DefthmInst (instance_parts TheoremInstance parts)

-- `(defiso n oldp newp forth back key value ..)`
abbrev pub defiso : List Datum → Outcome Event
defiso parts = map_outcome Defiso (iso_of parts)

-- `(restrict f r key value ..)`
abbrev pub restrict : List Datum → Outcome Event
restrict parts = map_outcome Restrict (restrict_of parts)

-- `(isodata f ((x iso) ..) key value ..)`
abbrev pub isodata : List Datum → Outcome Event
isodata parts = map_outcome Isodata (isodata_of parts)

-- `(value-triple form)`
abbrev pub value_triple : List Datum → Outcome Event
value_triple (form ∷ []) = Ok (ValueTriple form)
value_triple _ = bad_part (codes "arguments")

-- an event by its word and its parts
abbrev pub by_parts : Option (List Datum) → Outcome Event
by_parts None = not_an_event
by_parts (Some []) = not_an_event
by_parts (Some (word ∷ parts)) =
    if is_word (codes "DEFUN") word then defun parts
    else if is_word (codes "DEFTHM") word then defthm parts
    else if is_word (codes "DEFISO") word then defiso parts
    else if is_word (codes "RESTRICT") word then restrict parts
    else if is_word (codes "ISODATA") word then isodata parts
    else if is_word (codes "DEFUN2") word then defun2 parts
    else if is_word (codes "DEFUNVAR") word then defunvar parts
    else if is_word (codes "DEFUN-SK2") word then defun_sk2 parts
    else if is_word (codes "DEFUN-INST") word then defun_inst parts
    else if is_word (codes "DEFTHM-INST") word then defthm_inst parts
    else if is_word (codes "IN-PACKAGE") word then in_package parts
    else if is_word (codes "INCLUDE-BOOK") word then include_book parts
    else if is_word (codes "VALUE-TRIPLE") word then value_triple parts
    else not_an_event

-- the event that a form is, or the first refusal of its shape, from left to right
abbrev pub event_of : Datum → Outcome Event
event_of form = by_parts (items_of form)
