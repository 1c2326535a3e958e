-- The transformation `isodata`: a function on another representation of some of its arguments, joined to the old one by isomorphisms.
use Rattle.std.specs.Prelude.{◌≡◌, ℕ, if◌then◌else◌, is_some, true, false, List, [], ◌∷◌, ◌++◌, map, bytes_eq, codes, Option, Some, None, Ok, Err}
use Rattle.lisp_data.specs.Values.{Name}
use Rattle.lisp_data.specs.declared.code.Code.TheVariants as code
use Rattle.lisp_data.specs.declared.detail.Detail.TheVariants as detail
use Rattle.terms.specs.Links.{alone}
use Rattle.terms.specs.Measures.{recursive_calls, obligations}
use Rattle.terms.specs.Worlds.{World}
use Rattle.terms.specs.declared.definition.Definition.{Definition}
use Rattle.terms.specs.declared.entries.Iso.{Iso}
use Rattle.worlds.specs.Lookups.{find_iso}
use Rattle.worlds.specs.Names.{is_free}
use Rattle.term_forms.specs.Translation.{Outcome, and_then, map_outcome}
use Rattle.plans.specs.declared.plan.Condition.{Condition}
use Rattle.plans.specs.declared.plan.Entry.{Entry}
use Rattle.plans.specs.declared.plan.Entry.TheVariants.{Function, Theorem, Chained}
use Rattle.plans.specs.declared.plan.Plan.{Plan}
use Rattle.plan_checks.specs.Checks.{first_order_definition}
use Rattle.plan_checks.specs.Numbered.{numbered}
use Rattle.isodata_tool.specs.Carried.{Mapped, position_of, find_map, carried_over, new_to_old, old_to_new, stays_old, link_of}

-- what is asked for: the old function, mapped formals with the names of their isomorphisms, and the new names
pub record Request : Type 0 where
  pub old : Name
  pub maps : List (Name × Name)
  pub function : Name
  pub new_to_old : Name
  pub old_to_new : Name

-- the position of a formal that isn't among those that were mapped before
abbrev pub placed : List Mapped → Name → Option ℕ → Outcome ℕ
placed es x None = Err (code.UnboundVariable, detail.Name x)
placed es x (Some k) = if is_some (find_map es x) then Err (code.RepeatedFormal, detail.Name x) else Ok k

abbrev pub known_iso : Name → Option Iso → Outcome Iso
known_iso n None = Err (code.UnknownName, detail.Name n)
known_iso n (Some i) = Ok i

abbrev pub mapped_formal : World → List Name → List Mapped → Name × Name → Outcome Mapped
mapped_formal W xs es p =
    and_then (placed es p.0 (position_of xs p.0)) (λ k.
    map_outcome (λ i. record { formal = p.0; position = k; iso = i }) (known_iso p.1 (find_iso W.isos p.1)))

-- the mapped formals, behind those that were mapped before
abbrev pub mapped_formals : World → List Name → List Mapped → List (Name × Name) → Outcome (List Mapped)
mapped_formals W xs es [] = Ok es
mapped_formals W xs es (p ∷ ps) = and_then (mapped_formal W xs es p) (λ e. mapped_formals W xs (es ++ e ∷ []) ps)

abbrev pub conditions_of : Definition → List Mapped → List Condition
conditions_of d ms = numbered (codes ":OLDP-OF-CALL-") (map (stays_old d ms) (recursive_calls d.name [] d.body))

-- the new function, its two theorems, and what the second says for a chain
abbrev pub entries_of : Request → Definition → List Mapped → List Entry
entries_of q d ms =
    Function (carried_over d q.function ms)
    ∷ Theorem q.new_to_old (alone (new_to_old d q.function ms))
    ∷ Theorem q.old_to_new (alone (old_to_new d q.function ms))
    ∷ Chained q.old_to_new (link_of d q.function ms)
    ∷ []

-- What the book proves is that recursive calls stay in the old representation. What the new function owes and the theorems follow.
abbrev pub planned : Request → Definition → List Mapped → Plan
planned q d ms = record {
  entries = entries_of q d ms;
  conditions = conditions_of d ms;
  before = obligations (carried_over d q.function ms);
  after = alone (new_to_old d q.function ms) ∷ alone (old_to_new d q.function ms) ∷ [];
}

-- the plan, or the first refusal: the old function comes first, then pair by pair the formal and its isomorphism
abbrev pub plan_of : World → Request → Outcome Plan
plan_of W q =
    and_then (first_order_definition W q.old) (λ d.
    map_outcome (planned q d) (mapped_formals W d.formals [] q.maps))

-- the names that are asked for are new, and three
pub record AreNew (W : World) (q : Request) : Type 0 where
  pub function : is_free W q.function ≡ true
  pub new_to_old : is_free W q.new_to_old ≡ true
  pub old_to_new : is_free W q.old_to_new ≡ true
  pub theorems_apart : bytes_eq q.new_to_old q.old_to_new ≡ false
  pub first_apart : bytes_eq q.function q.new_to_old ≡ false
  pub second_apart : bytes_eq q.function q.old_to_new ≡ false
