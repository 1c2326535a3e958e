-- Sound worlds, and how they grow.
use Rattle.std.specs.Prelude.{◌≡◌, ℕ, None, List, [], ◌∷◌, ◌++◌, codes}
use Rattle.lisp_data.specs.Values.{Name}
use Rattle.lisp_data.specs.Datum.{Datum}
use Rattle.terms.specs.Primitives.{primitive}
use Rattle.terms.specs.Terms.{Tm, Var}
use Rattle.terms.specs.Measures.{call1, call2, obligations}
use Rattle.terms.specs.Worlds.{World, Instance, Functions, Each, IsIn, Distinct, FitsSequent, Holds, Total, names}
use Rattle.terms.specs.BuiltIn.{initial_definitions}
use Rattle.terms.specs.InitialTheorems.{initial_theorems}
use Rattle.terms.specs.Formed.{with_def, with_var, AllFormed, FitsOver}
use Rattle.terms.specs.Later.{IsLater}
use Rattle.terms.specs.Instances.{IsRecorded}
use Rattle.terms.specs.Links.{IsFirstOrder, IsLinked}
use Rattle.terms.specs.declared.definition.Definition.{Definition}
use Rattle.terms.specs.declared.sequent.Sequent.{Sequent}
use Rattle.terms.specs.declared.entries.Specification.{Specification}
use Rattle.terms.specs.declared.entries.Iso.{Iso}
use Rattle.terms.specs.declared.entries.FunPair.{FunPair}
use Rattle.terms.specs.declared.entries.Link.{Link}

-- each sequent is well formed in the world, and holds there
abbrev pub AllHold : Functions → List Sequent → Type 0
AllHold W ss = Each (λ s. FitsSequent W s × Holds W s) ss

-- the sequent of one hypothesis over the variable X
abbrev pub over_x : Name → Tm → Sequent
over_x hyp goal = record { universals = []; hyps = call1 hyp (Var (codes "X")) ∷ []; goal = goal }

-- the two functions map the two predicates into each other, and undo each other
abbrev pub iso_conditions : Iso → List Sequent
iso_conditions i =
    let x = Var (codes "X") in
    over_x i.oldp (call1 i.newp (call1 i.forth x))
    ∷ over_x i.newp (call1 i.oldp (call1 i.back x))
    ∷ over_x i.oldp (call2 (codes "EQUAL") (call1 i.back (call1 i.forth x)) x)
    ∷ over_x i.newp (call2 (codes "EQUAL") (call1 i.forth (call1 i.back x)) x)
    ∷ []

-- the world that each book begins with
abbrev pub initial_world : World
initial_world = record {
  functions = record { defs = initial_definitions; vars = [] };
  theorems = initial_theorems;
  specifications = [];
  isos = [];
  instances = [];
  links = [];
  events = [];
}

-- what is kept of each world
pub record Sound (W : World) : Type 0 where
  -- no name is given twice, nor is a primitive's
  pub distinct : Distinct (names W)
  pub unlike_primitives : (f : Name) → IsIn (names W) f → primitive f ≡ None
  -- each definition is well formed over those before it, and each function has a value everywhere
  pub formed : AllFormed W.functions.vars W.functions.defs
  pub total : Total W.functions
  -- what each book begins with is there: rules, obligations and the words of the syntax speak with its functions
  pub later : IsLater initial_world W
  -- what measures owe, theorems and the conditions of isomorphisms hold; the functions of these depend on no function variable
  pub obligations : Each (λ d. AllHold W.functions (obligations d)) W.functions.defs
  pub theorems : Each (λ t. (t.1.hyps ≡ []) × FitsSequent W.functions t.1 × Holds W.functions t.1) W.theorems
  pub specifications : Each (λ s. FitsOver W.functions s.variables s.matrix) W.specifications
  pub isos : Each (λ i. AllHold W.functions (iso_conditions i)) W.isos
  pub first_order_isos : Each (IsFirstOrder W) W.isos
  -- each recorded instance is the one that its pairs give
  pub instances : Each (IsRecorded W) W.instances
  -- each link's theorem says what the link does
  pub links : Each (λ l. IsLinked W l.0 l.1) W.links

abbrev pub add_definition : Definition → World → World
add_definition d W = record W { functions = with_def W.functions d }

abbrev pub add_theorem : Name → Sequent → World → World
add_theorem n s W = record W { theorems = (n, s) ∷ W.theorems }

-- a function variable with so many arguments
abbrev pub add_variable : Name → ℕ → World → World
add_variable x k W = record W { functions = with_var W.functions x k }

abbrev pub add_specification : Specification → World → World
add_specification s W = record W { specifications = s ∷ W.specifications }

-- an event that was accepted
abbrev pub add_event : Datum → World → World
add_event e W = record W { events = e ∷ W.events }

abbrev pub add_iso : Iso → World → World
add_iso i W = record W { isos = i ∷ W.isos }

-- a function's instance for these pairs
abbrev pub instance_of : Name → List FunPair → Name → Instance
instance_of of pairs instance = record { of = of; pairs = pairs; instance = instance }

-- a function's instance, after the others
abbrev pub add_instance : Name → List FunPair → Name → World → World
add_instance of pairs instance W = record W { instances = W.instances ++ instance_of of pairs instance ∷ [] }

-- what a theorem says
abbrev pub add_link : Name → Link → World → World
add_link n l W = record W { links = (n, l) ∷ W.links }
