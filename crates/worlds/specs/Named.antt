-- What a name stands for.
use Rattle.std.specs.Prelude.{◌≡◌, ℕ, List, false, Option, Some, None}
use Rattle.std.specs.Option.{option_map}
use Rattle.lisp_data.specs.Values.{Name}
use Rattle.terms.specs.Primitives.{primitive, operands, lookup}
use Rattle.terms.specs.Definitions.{find}
use Rattle.terms.specs.Worlds.{World, names, is_in}
use Rattle.terms.specs.declared.definition.Definition.{Definition as Def}
use Rattle.terms.specs.declared.sequent.Sequent.{Sequent}
use Rattle.terms.specs.declared.entries.Specification.{Specification as Spec}
use Rattle.terms.specs.declared.entries.Iso.{Iso as Isomorphism}
use Rattle.worlds.specs.Entries.{is_named, definition_of, variable_of, theorem_of, specification_of, iso_of}
use Rattle.worlds.specs.view.EntryLists.{first, any}
use Rattle.worlds.specs.Lookups.{find_spec, find_iso}
use Rattle.worlds.specs.declared.entry.Entry.{Entry}
use Rattle.worlds.specs.declared.named.Named.{Named}
use Rattle.worlds.specs.declared.named.Named.TheVariants.{Primitive, Definition, Variable, Theorem, Specification, Iso}

abbrev pub primitive_in : Option Named → Option ℕ
primitive_in (Some (Primitive k)) = Some k
primitive_in _ = None

abbrev pub definition_in : Option Named → Option Def
definition_in (Some (Definition d)) = Some d.now
definition_in _ = None

abbrev pub variable_in : Option Named → Option ℕ
variable_in (Some (Variable k)) = Some k
variable_in _ = None

abbrev pub theorem_in : Option Named → Option Sequent
theorem_in (Some (Theorem s)) = Some s.now
theorem_in _ = None

abbrev pub specification_in : Option Named → Option Spec
specification_in (Some (Specification s)) = Some s.now
specification_in _ = None

abbrev pub iso_in : Option Named → Option Isomorphism
iso_in (Some (Iso i)) = Some i.now
iso_in _ = None

-- the answer is what the name stands for in the world, and the name stands for nothing else
pub record IsNamed (W : World) (n : Name) (answer : Option Named) : Type 0 where
  pub primitive : option_map operands (primitive n) ≡ primitive_in answer
  pub definition : find W.functions.defs n ≡ definition_in answer
  pub variable : lookup W.functions.vars n ≡ variable_in answer
  pub theorem : lookup W.theorems n ≡ theorem_in answer
  pub specification : find_spec W.specifications n ≡ specification_in answer
  pub iso : find_iso W.isos n ≡ iso_in answer

-- the answer is found in the world under the name, or the name isn't given
abbrev pub Tells : World → Name → Option Named → Type 0
Tells W n None = is_in (names W) n ≡ false
Tells W n (Some (Primitive k)) = ⊥
Tells W n (Some (Definition d)) = find W.functions.defs n ≡ Some d.now
Tells W n (Some (Variable k)) = lookup W.functions.vars n ≡ Some k
Tells W n (Some (Theorem s)) = lookup W.theorems n ≡ Some s.now
Tells W n (Some (Specification s)) = find_spec W.specifications n ≡ Some s.now
Tells W n (Some (Iso i)) = find_iso W.isos n ≡ Some i.now

-- the answer is what the entry gives the name to, if it gives the name away
abbrev pub IsGiven : Name → Entry → Option Named → Type 0
IsGiven n e None = is_named e n ≡ false
IsGiven n e (Some (Primitive k)) = ⊥
IsGiven n e (Some (Definition d)) = definition_of e n ≡ Some d.now
IsGiven n e (Some (Variable k)) = variable_of e n ≡ Some k
IsGiven n e (Some (Theorem s)) = theorem_of e n ≡ Some s.now
IsGiven n e (Some (Specification s)) = specification_of e n ≡ Some s.now
IsGiven n e (Some (Iso i)) = iso_of e n ≡ Some i.now

-- the answer is what the first of the entries gives the name to that gives it away
abbrev pub Gives : Name → List Entry → Option Named → Type 0
Gives n es None = any (λ e. is_named e n) es ≡ false
Gives n es (Some (Primitive k)) = ⊥
Gives n es (Some (Definition d)) = first (λ e. definition_of e n) es ≡ Some d.now
Gives n es (Some (Variable k)) = first (λ e. variable_of e n) es ≡ Some k
Gives n es (Some (Theorem s)) = first (λ e. theorem_of e n) es ≡ Some s.now
Gives n es (Some (Specification s)) = first (λ e. specification_of e n) es ≡ Some s.now
Gives n es (Some (Iso i)) = first (λ e. iso_of e n) es ≡ Some i.now
