-- What a name stands for, by what is found under it.
use Rattle.std.proofs.Common.{◌≡◌, ℕ, Bool, true, false, cond, not, ◌&&◌, ◌||◌, List, [], ◌∷◌, ◌++◌, map, bytes_eq, Option, Some, None, refl, sym, ap, subst, ◌∙◌}
use Rattle.std.specs.Option.{option_or, option_map, is_some}
use Rattle.lisp_data.specs.Values.{Name}
use Rattle.terms.specs.Primitives.{primitive, operands, lookup}
use Rattle.terms.specs.Definitions.{find}
use Rattle.terms.specs.Worlds.{World, IsIn, Distinct, names, is_in}
use Rattle.terms.specs.Sound.{Sound}
use Rattle.terms.specs.declared.definition.Definition.{Definition as Def}
use Rattle.terms.specs.declared.entries.Specification.{Specification as Spec}
use Rattle.terms.specs.declared.entries.Iso.{Iso as Isomorphism}
use Rattle.terms.proofs.Names.{same_name}
use Rattle.worlds.specs.view.EntryLists.{first, any, grown, empty_world}
use Rattle.worlds.specs.Entries.{is_named, definition_of, variable_of, theorem_of, specification_of, iso_of}
use Rattle.worlds.specs.view.Indexes.{AgreeAt}
use Rattle.worlds.specs.Lookups.{find_spec, find_iso}
use Rattle.worlds.specs.Names.{reserved, is_free}
use Rattle.worlds.specs.Named.{IsNamed, Tells, IsGiven, Gives}
use Rattle.worlds.specs.declared.entry.Entry.{Entry}
use Rattle.worlds.specs.declared.entry.Entry.TheVariants.{Function, Variable as VariableEntry, Theorem as TheoremEntry, Specification as SpecEntry, Iso as IsoEntry}
use Rattle.worlds.specs.declared.named.Named.{Named}
use Rattle.worlds.specs.declared.named.Named.TheVariants.{Primitive, Definition, Variable, Theorem, Specification, Iso}
use Rattle.worlds.proofs.Lookups.{or-none, or-false, find-grown, vars-grown, lookup-grown, spec-grown, iso-grown, is_in-grown}
use Rattle.terms.proofs.Members.{is_in-append, is_in-keys}

-- an entry without the name gives nothing for it
no_definition : (n : Name) (e : Entry) → is_named e n ≡ false → definition_of e n ≡ None
no_definition n (Function d) h = ap (λ b. cond b (Some d) None) h
no_definition n _ h = refl

no_variable : (n : Name) (e : Entry) → is_named e n ≡ false → variable_of e n ≡ None
no_variable n (VariableEntry x k) h = ap (λ b. cond b (Some k) None) h
no_variable n _ h = refl

no_theorem : (n : Name) (e : Entry) → is_named e n ≡ false → theorem_of e n ≡ None
no_theorem n (TheoremEntry m s) h = ap (λ b. cond b (Some s) None) h
no_theorem n _ h = refl

no_specification : (n : Name) (e : Entry) → is_named e n ≡ false → specification_of e n ≡ None
no_specification n (SpecEntry s) h = ap (λ b. cond b (Some s) None) h
no_specification n _ h = refl

no_iso : (n : Name) (e : Entry) → is_named e n ≡ false → iso_of e n ≡ None
no_iso n (IsoEntry i) h = ap (λ b. cond b (Some i) None) h
no_iso n _ h = refl

-- nor do entries without the name
none_first : {A : Type 0} (n : Name) (gives : Entry → Option A) → ((e : Entry) → is_named e n ≡ false → gives e ≡ None) → (es : List Entry) → any (λ e. is_named e n) es ≡ false → first gives es ≡ None
none_first n gives off [] h = refl
none_first n gives off (e ∷ es) h = by_test (is_named e n) refl h (none_first n gives off es)
  where
    by_test : (b : Bool) → is_named e n ≡ b → (b || any (λ e. is_named e n) es) ≡ false → (any (λ e. is_named e n) es ≡ false → first gives es ≡ None) → option_or (gives e) (first gives es) ≡ None
    by_test true is h' ih = absurd (cc)
    by_test false is h' ih = ap (λ o. option_or o (first gives es)) (off e is) ∙ ih h'

-- the newest of some entries gives the name away
pub gives-newest : (n : Name) (e : Entry) (es : List Entry) (x : Named) → IsGiven n e (Some x) → Gives n (e ∷ es) (Some x)
gives-newest n e es (Primitive k) h = h
gives-newest n e es (Definition d) h = ap (λ o. option_or o (first (λ f. definition_of f n) es)) h
gives-newest n e es (Variable k) h = ap (λ o. option_or o (first (λ f. variable_of f n) es)) h
gives-newest n e es (Theorem s) h = ap (λ o. option_or o (first (λ f. theorem_of f n) es)) h
gives-newest n e es (Specification s) h = ap (λ o. option_or o (first (λ f. specification_of f n) es)) h
gives-newest n e es (Iso i) h = ap (λ o. option_or o (first (λ f. iso_of f n) es)) h

-- the newest doesn't
pub gives-older : (n : Name) (e : Entry) (es : List Entry) → IsGiven n e None → (r : Option Named) → Gives n es r → Gives n (e ∷ es) r
gives-older n e es off None h = ap (λ b. b || any (λ f. is_named f n) es) off ∙ h
gives-older n e es off (Some (Primitive k)) h = h
gives-older n e es off (Some (Definition d)) h = ap (λ o. option_or o (first (λ f. definition_of f n) es)) (no_definition n e off) ∙ h
gives-older n e es off (Some (Variable k)) h = ap (λ o. option_or o (first (λ f. variable_of f n) es)) (no_variable n e off) ∙ h
gives-older n e es off (Some (Theorem s)) h = ap (λ o. option_or o (first (λ f. theorem_of f n) es)) (no_theorem n e off) ∙ h
gives-older n e es off (Some (Specification s)) h = ap (λ o. option_or o (first (λ f. specification_of f n) es)) (no_specification n e off) ∙ h
gives-older n e es off (Some (Iso i)) h = ap (λ o. option_or o (first (λ f. iso_of f n) es)) (no_iso n e off) ∙ h

-- what entries tell of a world, where they agree with it
pub told : (n : Name) (es : List Entry) (W : World) → AgreeAt n es W → (r : Option Named) → Gives n es r → Tells W n r
told n es W agree None h = sym agree.named ∙ h
told n es W agree (Some (Primitive k)) h = h
told n es W agree (Some (Definition d)) h = sym agree.defs ∙ h
told n es W agree (Some (Variable k)) h = sym agree.vars ∙ h
told n es W agree (Some (Theorem s)) h = sym agree.theorems ∙ h
told n es W agree (Some (Specification s)) h = sym agree.specs ∙ h
told n es W agree (Some (Iso i)) h = sym agree.isos ∙ h

-- what a world of these entries alone tells, the entries give
given-alone : (n : Name) (es : List Entry) (r : Option Named) → Tells (grown es empty_world) n r → Gives n es r
given-alone n es None h = sym (is_in-grown es empty_world n ∙ or-false (any (λ e. is_named e n) es)) ∙ h
given-alone n es (Some (Primitive k)) h = h
given-alone n es (Some (Definition d)) h = or-none (first (λ e. definition_of e n) es) ∙ sym (find-grown es empty_world n) ∙ h
given-alone n es (Some (Variable k)) h = or-none (first (λ e. variable_of e n) es) ∙ sym (vars-grown es empty_world n) ∙ h
given-alone n es (Some (Theorem s)) h = or-none (first (λ e. theorem_of e n) es) ∙ sym (lookup-grown es empty_world n) ∙ h
given-alone n es (Some (Specification s)) h = or-none (first (λ e. specification_of e n) es) ∙ sym (spec-grown es empty_world n) ∙ h
given-alone n es (Some (Iso i)) h = or-none (first (λ e. iso_of e n) es) ∙ sym (iso-grown es empty_world n) ∙ h

-- what the entries that are found by the name give, all of them do
pub gives-all : (n : Name) (found es : List Entry) → AgreeAt n found (grown es empty_world) → (r : Option Named) → Gives n found r → Gives n es r
gives-all n found es agree r h = given-alone n es r (told n found (grown es empty_world) agree r h)

-- newer entries give the name away
pub tells-newer : (n : Name) (es : List Entry) (W : World) (x : Named) → Gives n es (Some x) → Tells (grown es W) n (Some x)
tells-newer n es W (Primitive k) h = h
tells-newer n es W (Definition d) h = find-grown es W n ∙ ap (λ o. option_or o (find W.functions.defs n)) h
tells-newer n es W (Variable k) h = vars-grown es W n ∙ ap (λ o. option_or o (lookup W.functions.vars n)) h
tells-newer n es W (Theorem s) h = lookup-grown es W n ∙ ap (λ o. option_or o (lookup W.theorems n)) h
tells-newer n es W (Specification s) h = spec-grown es W n ∙ ap (λ o. option_or o (find_spec W.specifications n)) h
tells-newer n es W (Iso i) h = iso-grown es W n ∙ ap (λ o. option_or o (find_iso W.isos n)) h

-- they don't
pub tells-older : (n : Name) (es : List Entry) (W : World) → Gives n es None → (r : Option Named) → Tells W n r → Tells (grown es W) n r
tells-older n es W off None h = is_in-grown es W n ∙ ap (λ b. b || is_in (names W) n) off ∙ h
tells-older n es W off (Some (Primitive k)) h = h
tells-older n es W off (Some (Definition d)) h = find-grown es W n ∙ ap (λ o. option_or o (find W.functions.defs n)) (none_first n (λ f. definition_of f n) (no_definition n) es off) ∙ h
tells-older n es W off (Some (Variable k)) h = vars-grown es W n ∙ ap (λ o. option_or o (lookup W.functions.vars n)) (none_first n (λ f. variable_of f n) (no_variable n) es off) ∙ h
tells-older n es W off (Some (Theorem s)) h = lookup-grown es W n ∙ ap (λ o. option_or o (lookup W.theorems n)) (none_first n (λ f. theorem_of f n) (no_theorem n) es off) ∙ h
tells-older n es W off (Some (Specification s)) h = spec-grown es W n ∙ ap (λ o. option_or o (find_spec W.specifications n)) (none_first n (λ f. specification_of f n) (no_specification n) es off) ∙ h
tells-older n es W off (Some (Iso i)) h = iso-grown es W n ∙ ap (λ o. option_or o (find_iso W.isos n)) (none_first n (λ f. iso_of f n) (no_iso n) es off) ∙ h

-- what entries tell of a world that has nothing else
pub tells-alone : (n : Name) (es : List Entry) (r : Option Named) → Gives n es r → Tells (grown es empty_world) n r
tells-alone n es None h = tells-older n es empty_world h None refl
tells-alone n es (Some x) h = tells-newer n es empty_world x h

-- a name is among those of a list where looking it up finds something
is_in-definitions : (ds : List Def) (n : Name) → is_in (map (λ d. d.name) ds) n ≡ is_some (find ds n)
is_in-definitions [] n = refl
is_in-definitions (d ∷ ds) n = by_test (bytes_eq d.name n) (is_in-definitions ds n)
  where
    by_test : (b : Bool) → is_in (map (λ d. d.name) ds) n ≡ is_some (find ds n) → (b || is_in (map (λ d. d.name) ds) n) ≡ is_some (cond b (Some d) (find ds n))
    by_test true ih = refl
    by_test false ih = ih

is_in-specs : (ss : List Spec) (n : Name) → is_in (map (λ s. s.name) ss) n ≡ is_some (find_spec ss n)
is_in-specs [] n = refl
is_in-specs (s ∷ ss) n = by_test (bytes_eq s.name n) (is_in-specs ss n)
  where
    by_test : (b : Bool) → is_in (map (λ s. s.name) ss) n ≡ is_some (find_spec ss n) → (b || is_in (map (λ s. s.name) ss) n) ≡ is_some (cond b (Some s) (find_spec ss n))
    by_test true ih = refl
    by_test false ih = ih

is_in-isos : (is : List Isomorphism) (n : Name) → is_in (map (λ i. i.name) is) n ≡ is_some (find_iso is n)
is_in-isos [] n = refl
is_in-isos (i ∷ is) n = by_test (bytes_eq i.name n) (is_in-isos is n)
  where
    by_test : (b : Bool) → is_in (map (λ i. i.name) is) n ≡ is_some (find_iso is n) → (b || is_in (map (λ i. i.name) is) n) ≡ is_some (cond b (Some i) (find_iso is n))
    by_test true ih = refl
    by_test false ih = ih

is_in_holds : (xs : List Name) (n : Name) → is_in xs n ≡ true → IsIn xs n
is_in_holds [] n e = absurd (cc)
is_in_holds (x ∷ xs) n e = by_test (bytes_eq x n) e (is_in_holds xs n)
  where
    by_test : (b : Bool) → (b || is_in xs n) ≡ true → (is_in xs n ≡ true → IsIn xs n) → cond b (Unit {0}) (IsIn xs n)
    by_test true e' ih = tt
    by_test false e' ih = ih e'

not_in : (xs : List Name) (n : Name) → (IsIn xs n → ⊥) → is_in xs n ≡ false
not_in xs n off = by_test (is_in xs n) refl
  where
    by_test : (b : Bool) → is_in xs n ≡ b → b ≡ false
    by_test true e = absurd (off (is_in_holds xs n e))
    by_test false e = refl

or_false : (a b : Bool) → (a || b) ≡ false → (a ≡ false) × (b ≡ false)
or_false true b h = absurd (cc)
or_false false b h = (refl, h)

-- a name of the first list is none of the second
apart : (xs ys : List Name) (n : Name) → Distinct (xs ++ ys) → is_in xs n ≡ true → is_in ys n ≡ false
apart [] ys n distinct h = absurd (cc)
apart (x ∷ xs) ys n distinct h = by_test (bytes_eq x n) refl h (apart xs ys n distinct.1)
  where
    by_test : (b : Bool) → bytes_eq x n ≡ b → (b || is_in xs n) ≡ true → (is_in xs n ≡ true → is_in ys n ≡ false) → is_in ys n ≡ false
    by_test true is h' ih = (or_false (is_in xs n) (is_in ys n) (sym (is_in-append xs ys n) ∙ not_in (xs ++ ys) n (subst (λ m. IsIn (xs ++ ys) m → ⊥) (same_name x n is) distinct.0))).1
    by_test false is h' ih = ih h'

behind : (xs ys : List Name) → Distinct (xs ++ ys) → Distinct ys
behind [] ys distinct = distinct
behind (x ∷ xs) ys distinct = behind xs ys distinct.1

two : (xs ys : List Name) (n : Name) (a b : Bool) → is_in xs n ≡ a → is_in ys n ≡ b → is_in (xs ++ ys) n ≡ (a || b)
two xs ys n a b e f = is_in-append xs ys n ∙ ap (λ c. c || is_in ys n) e ∙ ap (λ c. a || c) f

or_true : (a b : Bool) → b ≡ true → (a || b) ≡ true
or_true true b h = refl
or_true false b h = h

before : (a b : Bool) → (a ≡ true → b ≡ false) → b ≡ true → a ≡ false
before true b off h = absurd (let e : true ≡ false = sym h ∙ off refl in cc)
before false b off h = refl

none : {A : Type 0} (o : Option A) → is_some o ≡ false → o ≡ None
none None h = refl
none (Some x) h = absurd (cc)

pub none-map : {A B : Type 0} (f : A → B) (o : Option A) → option_map f o ≡ None → o ≡ None
none-map f None e = refl
none-map f (Some x) e = absurd (cc)

-- a name is found in one list of a sound world at most
module _ (W : World) (sound : Sound W) (n : Name) where
  abbrev defs : List Name
  defs = map (λ d. d.name) W.functions.defs

  abbrev vars : List Name
  vars = map (λ v. v.0) W.functions.vars

  abbrev theorems : List Name
  theorems = map (λ t. t.0) W.theorems

  abbrev specs : List Name
  specs = map (λ s. s.name) W.specifications

  abbrev isos : List Name
  isos = map (λ i. i.name) W.isos

  abbrev d : Bool
  d = is_some (find W.functions.defs n)

  abbrev v : Bool
  v = is_some (lookup W.functions.vars n)

  abbrev t : Bool
  t = is_some (lookup W.theorems n)

  abbrev s : Bool
  s = is_some (find_spec W.specifications n)

  abbrev i : Bool
  i = is_some (find_iso W.isos n)

  from_specs : is_in (specs ++ isos) n ≡ (s || i)
  from_specs = two specs isos n s i (is_in-specs W.specifications n) (is_in-isos W.isos n)

  from_theorems : is_in (theorems ++ (specs ++ isos)) n ≡ (t || (s || i))
  from_theorems = two theorems (specs ++ isos) n t (s || i) (is_in-keys W.theorems n) from_specs

  from_vars : is_in (vars ++ (theorems ++ (specs ++ isos))) n ≡ (v || (t || (s || i)))
  from_vars = two vars (theorems ++ (specs ++ isos)) n v (t || (s || i)) (is_in-keys W.functions.vars n) from_theorems

  from_defs : is_in (names W) n ≡ (d || (v || (t || (s || i))))
  from_defs = two defs (vars ++ (theorems ++ (specs ++ isos))) n d (v || (t || (s || i))) (is_in-definitions W.functions.defs n) from_vars

  later_vars : Distinct (vars ++ (theorems ++ (specs ++ isos)))
  later_vars = behind defs (vars ++ (theorems ++ (specs ++ isos))) sound.distinct

  later_theorems : Distinct (theorems ++ (specs ++ isos))
  later_theorems = behind vars (theorems ++ (specs ++ isos)) later_vars

  later_specs : Distinct (specs ++ isos)
  later_specs = behind theorems (specs ++ isos) later_theorems

  definition_alone : d ≡ true → (v || (t || (s || i))) ≡ false
  definition_alone h = sym from_vars ∙ apart defs (vars ++ (theorems ++ (specs ++ isos))) n sound.distinct (is_in-definitions W.functions.defs n ∙ h)

  variable_alone : v ≡ true → (t || (s || i)) ≡ false
  variable_alone h = sym from_theorems ∙ apart vars (theorems ++ (specs ++ isos)) n later_vars (is_in-keys W.functions.vars n ∙ h)

  theorem_alone : t ≡ true → (s || i) ≡ false
  theorem_alone h = sym from_specs ∙ apart theorems (specs ++ isos) n later_theorems (is_in-keys W.theorems n ∙ h)

  spec_alone : s ≡ true → i ≡ false
  spec_alone h = sym (is_in-isos W.isos n) ∙ apart specs isos n later_specs (is_in-specs W.specifications n ∙ h)

  no_definition_of : (v || (t || (s || i))) ≡ true → find W.functions.defs n ≡ None
  no_definition_of h = none (find W.functions.defs n) (before d (v || (t || (s || i))) definition_alone h)

  no_variable_of : (t || (s || i)) ≡ true → lookup W.functions.vars n ≡ None
  no_variable_of h = none (lookup W.functions.vars n) (before v (t || (s || i)) variable_alone h)

  no_theorem_of : (s || i) ≡ true → lookup W.theorems n ≡ None
  no_theorem_of h = none (lookup W.theorems n) (before t (s || i) theorem_alone h)

  no_spec_of : i ≡ true → find_spec W.specifications n ≡ None
  no_spec_of h = none (find_spec W.specifications n) (before s i spec_alone h)

  nothing_from_specs : (s || i) ≡ false → (find_spec W.specifications n ≡ None) × (find_iso W.isos n ≡ None)
  nothing_from_specs h =
      let p = or_false s i h in
      (none (find_spec W.specifications n) p.0, none (find_iso W.isos n) p.1)

  nothing_from_theorems : (t || (s || i)) ≡ false → (lookup W.theorems n ≡ None) × ((find_spec W.specifications n ≡ None) × (find_iso W.isos n ≡ None))
  nothing_from_theorems h =
      let p = or_false t (s || i) h in
      (none (lookup W.theorems n) p.0, nothing_from_specs p.1)

  nothing_from_vars : (v || (t || (s || i))) ≡ false → (lookup W.functions.vars n ≡ None) × ((lookup W.theorems n ≡ None) × ((find_spec W.specifications n ≡ None) × (find_iso W.isos n ≡ None)))
  nothing_from_vars h =
      let p = or_false v (t || (s || i)) h in
      (none (lookup W.functions.vars n) p.0, nothing_from_theorems p.1)

  nothing : is_in (names W) n ≡ false → (find W.functions.defs n ≡ None) × ((lookup W.functions.vars n ≡ None) × ((lookup W.theorems n ≡ None) × ((find_spec W.specifications n ≡ None) × (find_iso W.isos n ≡ None))))
  nothing h =
      let p = or_false d (v || (t || (s || i))) (sym from_defs ∙ h) in
      (none (find W.functions.defs n) p.0, nothing_from_vars p.1)

  -- what is found in a world under a name that is no primitive's is all that the name stands for
  pub exactly : primitive n ≡ None → (r : Option Named) → Tells W n r → IsNamed W n r
  exactly free None h =
      let p = nothing h in record {
        primitive = ap (option_map operands) free;
        definition = p.0;
        variable = p.1.0;
        theorem = p.1.1.0;
        specification = p.1.1.1.0;
        iso = p.1.1.1.1;
      }
  exactly free (Some (Primitive k)) h = absurd h
  exactly free (Some (Definition x)) h =
      let p = nothing_from_vars (definition_alone (ap is_some h)) in record {
        primitive = ap (option_map operands) free;
        definition = h;
        variable = p.0;
        theorem = p.1.0;
        specification = p.1.1.0;
        iso = p.1.1.1;
      }
  exactly free (Some (Variable k)) h =
      let e : v ≡ true = ap is_some h in
      let p = nothing_from_theorems (variable_alone e) in record {
        primitive = ap (option_map operands) free;
        definition = no_definition_of (ap (λ b. b || (t || (s || i))) e);
        variable = h;
        theorem = p.0;
        specification = p.1.0;
        iso = p.1.1;
      }
  exactly free (Some (Theorem x)) h =
      let e : t ≡ true = ap is_some h in
      let from : (t || (s || i)) ≡ true = ap (λ b. b || (s || i)) e in
      let p = nothing_from_specs (theorem_alone e) in record {
        primitive = ap (option_map operands) free;
        definition = no_definition_of (or_true v (t || (s || i)) from);
        variable = no_variable_of from;
        theorem = h;
        specification = p.0;
        iso = p.1;
      }
  exactly free (Some (Specification x)) h =
      let e : s ≡ true = ap is_some h in
      let among : (s || i) ≡ true = ap (λ b. b || i) e in
      let from : (t || (s || i)) ≡ true = or_true t (s || i) among in record {
        primitive = ap (option_map operands) free;
        definition = no_definition_of (or_true v (t || (s || i)) from);
        variable = no_variable_of from;
        theorem = no_theorem_of among;
        specification = h;
        iso = none (find_iso W.isos n) (spec_alone e);
      }
  exactly free (Some (Iso x)) h =
      let e : i ≡ true = ap is_some h in
      let among : (s || i) ≡ true = or_true s i e in
      let from : (t || (s || i)) ≡ true = or_true t (s || i) among in record {
        primitive = ap (option_map operands) free;
        definition = no_definition_of (or_true v (t || (s || i)) from);
        variable = no_variable_of from;
        theorem = no_theorem_of among;
        specification = no_spec_of e;
        iso = h;
      }

  -- a primitive's name stands for nothing else
  pub exactly_primitive : (k : ℕ) → option_map operands (primitive n) ≡ Some k → IsNamed W n (Some (Primitive k))
  exactly_primitive k h =
      let p = nothing (not_in (names W) n (λ here. let e : None ≡ Some k = sym (ap (option_map operands) (sound.unlike_primitives n here)) ∙ h in cc)) in record {
        primitive = h;
        definition = p.0;
        variable = p.1.0;
        theorem = p.1.1.0;
        specification = p.1.1.1.0;
        iso = p.1.1.1.1;
      }

-- whether a name is given, by what is found under it
given : (W : World) (n : Name) → Sound W → (r : Option Named) → Tells W n r → is_some r ≡ is_in (names W) n
given W n sound None h = sym h
given W n sound (Some (Primitive k)) h = absurd h
given W n sound (Some (Definition x)) h = sym (from_defs W sound n ∙ ap (λ b. b || (v W sound n || (t W sound n || (s W sound n || i W sound n)))) (ap is_some h))
given W n sound (Some (Variable k)) h = sym (from_defs W sound n ∙ or_true (d W sound n) _ (ap (λ b. b || (t W sound n || (s W sound n || i W sound n))) (ap is_some h)))
given W n sound (Some (Theorem x)) h = sym (from_defs W sound n ∙ or_true (d W sound n) _ (or_true (v W sound n) _ (ap (λ b. b || (s W sound n || i W sound n)) (ap is_some h))))
given W n sound (Some (Specification x)) h = sym (from_defs W sound n ∙ or_true (d W sound n) _ (or_true (v W sound n) _ (or_true (t W sound n) _ (ap (λ b. b || i W sound n) (ap is_some h)))))
given W n sound (Some (Iso x)) h = sym (from_defs W sound n ∙ or_true (d W sound n) _ (or_true (v W sound n) _ (or_true (t W sound n) _ (or_true (s W sound n) _ (ap is_some h)))))

not_not : (a b : Bool) → a ≡ not b → b ≡ not a
not_not a true e = sym (ap not e)
not_not a false e = sym (ap not e)

-- a name that isn't reserved is free where it isn't given
pub free_where : (W : World) (n : Name) → Sound W → (r : Option Named) (free : Bool) → Tells W n r → not (is_in reserved n) ≡ true → is_some r ≡ not free → free ≡ is_free W n
free_where W n sound r b h allowed e =
    not_not (is_some r) b e ∙ ap not (given W n sound r h) ∙ ap (λ a. a && not (is_in (names W) n)) (sym allowed)
