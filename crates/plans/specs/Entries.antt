-- What entries add to a world, and what it takes for a world to stay sound with them.
use Rattle.std.specs.Prelude.{◌≡◌, true, List, [], ◌∷◌}
use Rattle.terms.specs.Worlds.{World, FitsSequent, Holds}
use Rattle.terms.specs.Formed.{IsWellFormed, FitsOver, ObligationsHold}
use Rattle.terms.specs.Instances.{IsRecorded}
use Rattle.terms.specs.Links.{IsFirstOrder, IsLinked}
use Rattle.terms.specs.Sound.{AllHold, iso_conditions, add_definition, add_variable, add_theorem, add_specification, add_iso, instance_of, add_instance, add_link}
use Rattle.terms.specs.declared.definition.Definition.{Definition}
use Rattle.terms.specs.declared.sequent.Sequent.{Sequent}
use Rattle.worlds.specs.Names.{is_free}
use Rattle.plans.specs.declared.plan.Entry.{Entry}
use Rattle.plans.specs.declared.plan.Entry.TheVariants.{Function, Variable, Theorem, Spec, Isomorphism, Instance, Chained}

-- the world with one more entry
abbrev pub add_entry : Entry → World → World
add_entry (Function d) W = add_definition d W
add_entry (Variable x k) W = add_variable x k W
add_entry (Theorem n s) W = add_theorem n s W
add_entry (Spec s) W = add_specification s W
add_entry (Isomorphism i) W = add_iso i W
add_entry (Instance of pairs instance) W = add_instance of pairs instance W
add_entry (Chained n l) W = add_link n l W

-- one after the other
abbrev pub add_entries : List Entry → World → World
add_entries [] W = W
add_entries (e ∷ es) W = add_entries es (add_entry e W)

-- a function variable, a definition or a specification
abbrev pub add_function : Entry → World → World
add_function (Function d) W = add_definition d W
add_function (Variable x k) W = add_variable x k W
add_function (Spec s) W = add_specification s W
add_function _ W = W

-- the functions, function variables and specifications among them, and nothing else
abbrev pub add_functions : List Entry → World → World
add_functions [] W = W
add_functions (e ∷ es) W = add_functions es (add_function e W)

-- a function with a free name, well formed, whose measure does what it owes
pub record IsNewDefinition (W : World) (d : Definition) : Type 0 where
  pub free : is_free W d.name ≡ true
  pub well_formed : IsWellFormed W.functions d
  pub owed : ObligationsHold W.functions d

-- a sequent without hypotheses that holds
pub record IsNewTheorem (W : World) (s : Sequent) : Type 0 where
  pub no_hyps : s.hyps ≡ []
  pub fits : FitsSequent W.functions s
  pub holds : Holds W.functions s

-- the world can take the entry: its name is free, if it gives one away, and it is what the world keeps of its kind
abbrev pub Admits : World → Entry → Type 0
Admits W (Function d) = IsNewDefinition W d
Admits W (Variable x k) = is_free W x ≡ true
Admits W (Theorem n s) = (is_free W n ≡ true) × IsNewTheorem W s
Admits W (Spec s) = (is_free W s.name ≡ true) × FitsOver W.functions s.variables s.matrix
Admits W (Isomorphism i) = (is_free W i.name ≡ true) × (AllHold W.functions (iso_conditions i) × IsFirstOrder W i)
Admits W (Instance of pairs instance) = IsRecorded W (instance_of of pairs instance)
Admits W (Chained n l) = IsLinked W n l

-- it can take them one after the other
abbrev pub AdmitsAll : World → List Entry → Type 0
AdmitsAll W [] = Unit {0}
AdmitsAll W (e ∷ es) = Admits W e × AdmitsAll (add_entry e W) es

-- the world can take the entry if it is a function, a function variable or a specification; of any other entry nothing is asked
abbrev pub AdmitsFunction : World → Entry → Type 0
AdmitsFunction W (Function d) = IsNewDefinition W d
AdmitsFunction W (Variable x k) = is_free W x ≡ true
AdmitsFunction W (Spec s) = (is_free W s.name ≡ true) × FitsOver W.functions s.variables s.matrix
AdmitsFunction W _ = Unit {0}

-- it can take those among the entries one after the other, without the others
abbrev pub AdmitsFunctions : World → List Entry → Type 0
AdmitsFunctions W [] = Unit {0}
AdmitsFunctions W (e ∷ es) = AdmitsFunction W e × AdmitsFunctions (add_function e W) es
