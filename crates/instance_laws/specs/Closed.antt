-- Maps on names that are closed under calls, and the interpretations that do the same.
use Rattle.std.specs.Prelude.{◌≡◌, ℕ, true, List, [], ◌∷◌, Some, None}
use Rattle.lisp_data.specs.Values.{Name}
use Rattle.terms.specs.Primitives.{Operation, primitive, lookup}
use Rattle.terms.specs.Terms.{Tm, Over}
use Rattle.terms.specs.Definitions.{find, Interp, Entry}
use Rattle.terms.specs.Worlds.{Functions, arity, is_in}
use Rattle.terms.specs.declared.definition.Definition.{Definition}
use Rattle.terms.specs.Maps.{NamePairs, image, rename}

-- the interpretation in which each name of the map stands for its image, a function of the definitions or what it was before
abbrev pub extended : List Definition → NamePairs → Interp → Interp
extended ds [] I = I
extended ds (e ∷ m) I = Entry e.0 ds e.1 I (extended ds m I)

-- the term calls no definition outside the list
abbrev pub CallsOnly : List Definition → List Name → Tm → Type 0
CallsOnly ds listed = Over (λ x. Unit {0}) (λ f k. (d : Definition) → find ds f ≡ Some d → is_in listed f ≡ true)

-- a definition's image has the same formals, and its body is the definition's under the map
pub record HasImage (ds : List Definition) (m : NamePairs) (f : Name) (d : Definition) : Type 0 where
  pub instance : Definition
  pub found : find ds (image m f) ≡ Some instance
  pub not_primitive : primitive (image m f) ≡ None
  pub formals : instance.formals ≡ d.formals
  pub body : instance.body ≡ rename m d.body

-- the map leaves primitives as they are; the list is closed under calls, and each definition of the list has an image
pub record IsClosed (ds : List Definition) (m : NamePairs) (listed : List Name) : Type 0 where
  pub primitives : (f : Name) (p : Operation) → primitive f ≡ Some p → image m f ≡ f
  pub calls : (f : Name) (d : Definition) → is_in listed f ≡ true → find ds f ≡ Some d → CallsOnly ds listed d.body
  pub images : (f : Name) (d : Definition) → is_in listed f ≡ true → find ds f ≡ Some d → HasImage ds m f d

-- a function variable becomes a function of as many arguments
abbrev pub KeepsArities : Functions → NamePairs → Type 0
KeepsArities F m = (x : Name) (k : ℕ) → lookup F.vars x ≡ Some k → arity F (image m x) ≡ Some k

-- for these functions, but for those that it began with, the map gives the same as one that is closed under calls and whose list has them
pub record IsPart (F : Functions) (begun : NamePairs) (fs : List Name) (m : NamePairs) : Type 0 where
  pub whole : NamePairs
  pub listed : List Name
  pub closed : IsClosed F.defs whole listed
  pub arities : KeepsArities F whole
  pub inside : (f : Name) (d : Definition) → is_in fs f ≡ true → lookup begun f ≡ None → find F.defs f ≡ Some d → is_in listed f ≡ true
  pub same : (f : Name) → is_in fs f ≡ true → lookup begun f ≡ None → image m f ≡ image whole f
