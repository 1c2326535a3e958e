-- A name is known where it stands for something.
use Rattle.std.proofs.Common.{◌≡◌, Bool, true, false, cond, ◌||◌, List, [], ◌∷◌, ◌++◌, map, bytes_eq, is_some, Option, Some, None, refl, sym, ap, ◌∙◌}
use Rattle.std.specs.Option.{option_map}
use Rattle.lisp_data.specs.Values.{Name}
use Rattle.terms.specs.Primitives.{primitive, operands, lookup}
use Rattle.terms.specs.Definitions.{find}
use Rattle.terms.specs.Worlds.{World, names, is_in}
use Rattle.terms.specs.declared.definition.Definition.{Definition as Def}
use Rattle.terms.specs.declared.entries.Specification.{Specification as Spec}
use Rattle.terms.specs.declared.entries.Iso.{Iso as Isomorphism}
use Rattle.worlds.specs.Lookups.{find_spec, find_iso}
use Rattle.worlds.specs.Named.{IsNamed, primitive_in, definition_in, variable_in, theorem_in, specification_in, iso_in}
use Rattle.worlds.specs.declared.named.Named.{Named}
use Rattle.worlds.specs.declared.named.Named.TheVariants.{Primitive, Definition, Variable, Theorem, Specification, Iso}
use Rattle.terms.proofs.Members.{is_in-append, is_in-keys}
use Rattle.terms.specs.Pairs.{is_known}

-- a name is among those of a list where looking it up finds something
of_definitions : (ds : List Def) (n : Name) → is_in (map (λ d. d.name) ds) n ≡ is_some (find ds n)
of_definitions [] n = refl
of_definitions (d ∷ ds) n = by_test (bytes_eq d.name n) (of_definitions ds n)
  where
    by_test : (b : Bool) → is_in (map (λ d. d.name) ds) n ≡ is_some (find ds n) → (b || is_in (map (λ d. d.name) ds) n) ≡ is_some (cond b (Some d) (find ds n))
    by_test true ih = refl
    by_test false ih = ih

of_specifications : (ss : List Spec) (n : Name) → is_in (map (λ s. s.name) ss) n ≡ is_some (find_spec ss n)
of_specifications [] n = refl
of_specifications (s ∷ ss) n = by_test (bytes_eq s.name n) (of_specifications ss n)
  where
    by_test : (b : Bool) → is_in (map (λ s. s.name) ss) n ≡ is_some (find_spec ss n) → (b || is_in (map (λ s. s.name) ss) n) ≡ is_some (cond b (Some s) (find_spec ss n))
    by_test true ih = refl
    by_test false ih = ih

of_isos : (is : List Isomorphism) (n : Name) → is_in (map (λ i. i.name) is) n ≡ is_some (find_iso is n)
of_isos [] n = refl
of_isos (i ∷ is) n = by_test (bytes_eq i.name n) (of_isos is n)
  where
    by_test : (b : Bool) → is_in (map (λ i. i.name) is) n ≡ is_some (find_iso is n) → (b || is_in (map (λ i. i.name) is) n) ≡ is_some (cond b (Some i) (find_iso is n))
    by_test true ih = refl
    by_test false ih = ih

two : (xs ys : List Name) (n : Name) (a b : Bool) → is_in xs n ≡ a → is_in ys n ≡ b → is_in (xs ++ ys) n ≡ (a || b)
two xs ys n a b e f = is_in-append xs ys n ∙ ap (λ c. c || is_in ys n) e ∙ ap (λ c. a || c) f

of_world : (W : World) (n : Name) →
    is_in (names W) n ≡ (is_some (find W.functions.defs n) || (is_some (lookup W.functions.vars n) || (is_some (lookup W.theorems n) || (is_some (find_spec W.specifications n) || is_some (find_iso W.isos n)))))
of_world W n =
    two (map (λ d. d.name) W.functions.defs) _ n _ _ (of_definitions W.functions.defs n)
    (two (map (λ v. v.0) W.functions.vars) _ n _ _ (is_in-keys W.functions.vars n)
    (two (map (λ t. t.0) W.theorems) _ n _ _ (is_in-keys W.theorems n)
    (two (map (λ s. s.name) W.specifications) _ n _ _ (of_specifications W.specifications n) (of_isos W.isos n))))

map-some : {A B : Type 0} (f : A → B) (o : Option A) → is_some o ≡ is_some (option_map f o)
map-some f None = refl
map-some f (Some x) = refl

-- an answer is one thing
one_thing : (r : Option Named) → is_some r ≡ (is_some (primitive_in r) || (is_some (definition_in r) || (is_some (variable_in r) || (is_some (theorem_in r) || (is_some (specification_in r) || is_some (iso_in r))))))
one_thing None = refl
one_thing (Some (Primitive k)) = refl
one_thing (Some (Definition d)) = refl
one_thing (Some (Variable k)) = refl
one_thing (Some (Theorem s)) = refl
one_thing (Some (Specification s)) = refl
one_thing (Some (Iso i)) = refl

pub known-answer : (W : World) (n : Name) (r : Option Named) → IsNamed W n r → is_some r ≡ is_known W n
known-answer W n r h =
    let p = map-some operands (primitive n) ∙ ap is_some h.primitive in
    let d = ap is_some h.definition in
    let v = ap is_some h.variable in
    let t = ap is_some h.theorem in
    let s = ap is_some h.specification in
    let i = ap is_some h.iso in
    one_thing r ∙ sym ((λ j. is_some (primitive n) || of_world W n j) ∙ (λ j. p j || (d j || (v j || (t j || (s j || i j))))))

pub ruleset known = (known-answer)
