-- A world is later than itself, and stays later than another with one thing more.
use Rattle.std.proofs.Common.{◌≡◌, ℕ, List, [], ◌∷◌, ◌++◌, refl, ap, ◌∙◌}
use Rattle.lisp_data.specs.Values.{Name}
use Rattle.lisp_data.specs.Datum.{Datum}
use Rattle.terms.specs.declared.definition.Definition.{Definition}
use Rattle.terms.specs.declared.sequent.Sequent.{Sequent}
use Rattle.terms.specs.declared.entries.Specification.{Specification}
use Rattle.terms.specs.declared.entries.Iso.{Iso}
use Rattle.terms.specs.declared.entries.Link.{Link}
use Rattle.terms.specs.Worlds.{World, Instance}
use Rattle.terms.specs.Later.{IsGrown, IsContinued, IsLater}
use Rattle.terms.specs.Sound.{add_definition, add_variable, add_theorem, add_specification, add_event}

-- one item more before the others
pub grown : {A : Type 0} {xs ys : List A} (y : A) → IsGrown xs ys → IsGrown xs (y ∷ ys)
grown y g = (y ∷ g.0, ap (λ zs. y ∷ zs) g.1)

end_of : {A : Type 0} (xs : List A) → xs ≡ xs ++ []
end_of [] = refl
end_of (x ∷ xs) = ap (λ ys. x ∷ ys) (end_of xs)

join_joined : {A : Type 0} (xs ys zs : List A) → (xs ++ ys) ++ zs ≡ xs ++ (ys ++ zs)
join_joined [] ys zs = refl
join_joined (x ∷ xs) ys zs = ap (λ us. x ∷ us) (join_joined xs ys zs)

-- one item more after the others
pub continued : {A : Type 0} (xs ys : List A) (y : A) → IsContinued xs ys → IsContinued xs (ys ++ y ∷ [])
continued xs ys y g = (g.0 ++ y ∷ [], ap (λ zs. zs ++ y ∷ []) g.1 ∙ join_joined xs g.0 (y ∷ []))

module _ (W : World) where
  pub later_self : IsLater W W
  later_self = record {
    definitions = ([], refl);
    variables = ([], refl);
    theorems = ([], refl);
    specifications = ([], refl);
    isos = ([], refl);
    instances = ([], end_of W.instances);
    links = ([], refl);
    events = ([], refl);
  }

module _ (W V : World) (later : IsLater W V) where
  pub later_definition : (d : Definition) → IsLater W (add_definition d V)
  later_definition d = record {
    definitions = grown d later.definitions;
    variables = later.variables;
    theorems = later.theorems;
    specifications = later.specifications;
    isos = later.isos;
    instances = later.instances;
    links = later.links;
    events = later.events;
  }

  pub later_variable : (x : Name) (k : ℕ) → IsLater W (add_variable x k V)
  later_variable x k = record {
    definitions = later.definitions;
    variables = grown (x, k) later.variables;
    theorems = later.theorems;
    specifications = later.specifications;
    isos = later.isos;
    instances = later.instances;
    links = later.links;
    events = later.events;
  }

  pub later_theorem : (n : Name) (s : Sequent) → IsLater W (add_theorem n s V)
  later_theorem n s = record {
    definitions = later.definitions;
    variables = later.variables;
    theorems = grown (n, s) later.theorems;
    specifications = later.specifications;
    isos = later.isos;
    instances = later.instances;
    links = later.links;
    events = later.events;
  }

  pub later_specification : (s : Specification) → IsLater W (add_specification s V)
  later_specification s = record {
    definitions = later.definitions;
    variables = later.variables;
    theorems = later.theorems;
    specifications = grown s later.specifications;
    isos = later.isos;
    instances = later.instances;
    links = later.links;
    events = later.events;
  }

  pub later_event : (e : Datum) → IsLater W (add_event e V)
  later_event e = record {
    definitions = later.definitions;
    variables = later.variables;
    theorems = later.theorems;
    specifications = later.specifications;
    isos = later.isos;
    instances = later.instances;
    links = later.links;
    events = grown e later.events;
  }

  pub later_iso : (i : Iso) → IsLater W (record V { isos = i ∷ V.isos })
  later_iso i = record {
    definitions = later.definitions;
    variables = later.variables;
    theorems = later.theorems;
    specifications = later.specifications;
    isos = grown i later.isos;
    instances = later.instances;
    links = later.links;
    events = later.events;
  }

  pub later_instance : (i : Instance) → IsLater W (record V { instances = V.instances ++ i ∷ [] })
  later_instance i = record {
    definitions = later.definitions;
    variables = later.variables;
    theorems = later.theorems;
    specifications = later.specifications;
    isos = later.isos;
    instances = continued W.instances V.instances i later.instances;
    links = later.links;
    events = later.events;
  }

  pub later_link : (n : Name) (l : Link) → IsLater W (record V { links = (n, l) ∷ V.links })
  later_link n l = record {
    definitions = later.definitions;
    variables = later.variables;
    theorems = later.theorems;
    specifications = later.specifications;
    isos = later.isos;
    instances = later.instances;
    links = grown (n, l) later.links;
    events = later.events;
  }
