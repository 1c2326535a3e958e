-- A body under a map in which its function becomes a new one: its recursive calls are those of the function under the map, each with at
-- least the tests that it had; a variable that becomes `if` adds some.
use Rattle.std.proofs.Common.{◌≡◌, ℕ, Bool, true, false, cond, not, ◌&&◌, ◌||◌, List, [], ◌∷◌, ◌++◌, bytes_eq, codes, Some, refl, sym, ap, ap₂, ◌∙◌, subst}
use Rattle.std.proofs.lemmas.Bool.{or_parts, and_parts, not-true}
use Rattle.lisp_data.specs.Values.{Name}
use Rattle.terms.specs.Primitives.{lookup}
use Rattle.terms.specs.Terms.{Tm, Var, Quote, Call, Tms, Done, More, count, Over, OverAll, substitute, substitute_all, by_args}
use Rattle.terms.specs.Worlds.{Each}
use Rattle.terms.specs.Measures.{mentions, mentions_in, is_nested, is_nested_in, call1, RecursiveCall, Place, Plain, Test, Then, Else, tests_at, next, first_place, recursive_calls, recursive_calls_in}
use Rattle.terms.proofs.Names.{same_name, name_self}
use Rattle.terms.proofs.Below.{Any}
use Rattle.terms.proofs.Totality.{EachTm, by_terms, each_parts, each_join}
use Rattle.terms.specs.Maps.{NamePairs, or_name, image, rename, rename_all}

-- what doesn't mention f
module _ (f : Name) (P : Name → Type 0) (Q Q' : Name → ℕ → Type 0) (drop : (g : Name) (k : ℕ) → bytes_eq f g ≡ false → Q g k → Q' g k) where
  mutual
    lacks_over : (t : Tm) → mentions f t ≡ false → Over P Q t → Over P Q' t
    lacks_over (Var x) e o = o
    lacks_over (Quote v) e o = o
    lacks_over (Call g ts) e o = let h = or_parts (bytes_eq f g) (mentions_in f ts) e in (drop g (count ts) h.0 o.0, lacks_all_over ts h.1 o.1)

    lacks_all_over : (ts : Tms) → mentions_in f ts ≡ false → OverAll P Q ts → OverAll P Q' ts
    lacks_all_over Done e o = tt
    lacks_all_over (More t ts) e o = let h = or_parts (mentions f t) (mentions_in f ts) e in (lacks_over t h.0 o.0, lacks_all_over ts h.1 o.1)

  -- the tests and arguments of recursive calls
  module _ (has_not : Q' (codes "NOT") 1) where
    pub record CallOver (c : RecursiveCall) : Type 0 where
      pub tests : Each (Over P Q') c.tests
      pub args : OverAll P Q' c.args

    abbrev CallsOver : Tm → Type 0
    CallsOver t = Over P Q t → is_nested f t ≡ false → (tests : List Tm) → Each (Over P Q') tests → Each CallOver (recursive_calls f tests t)

    abbrev PlaceOver : Place → Type 0
    PlaceOver Plain = Unit {0}
    PlaceOver (Test c) = Over P Q' c
    PlaceOver (Then c) = Over P Q' c
    PlaceOver (Else c) = Over P Q' c

    next_over : (p : Place) → PlaceOver p → PlaceOver (next p)
    next_over Plain h = tt
    next_over (Test c) h = h
    next_over (Then c) h = h
    next_over (Else c) h = tt

    at_over : (p : Place) → PlaceOver p → (tests : List Tm) → Each (Over P Q') tests → Each (Over P Q') (tests_at p tests)
    at_over Plain h tests g = g
    at_over (Test c) h tests g = g
    at_over (Then c) h tests g = each_join (Over P Q') tests (c ∷ []) g (h, tt)
    at_over (Else c) h tests g = each_join (Over P Q') tests (call1 (codes "NOT") c ∷ []) g ((has_not, (h, tt)), tt)

    calls_in_over : (ts : Tms) → EachTm CallsOver ts → OverAll P Q ts → is_nested_in f ts ≡ false → (p : Place) → PlaceOver p → (tests : List Tm) → Each (Over P Q') tests → Each CallOver (recursive_calls_in f p tests ts)
    calls_in_over Done h o e p q tests g = tt
    calls_in_over (More t ts) h o e p q tests g =
        let e' = or_parts (is_nested f t) (is_nested_in f ts) e in
        each_join CallOver (recursive_calls f (tests_at p tests) t) (recursive_calls_in f (next p) tests ts)
        (h.0 o.0 e'.0 (tests_at p tests) (at_over p q tests g))
        (calls_in_over ts h.1 o.1 e'.1 (next p) (next_over p q) tests g)

    first_over : (g : Name) (ts : Tms) → OverAll P Q ts → PlaceOver (first_place f g ts)
    first_over g Done o = tt
    first_over g (More c ts) o = by_test (bytes_eq (codes "IF") g && not (mentions f c)) refl
      where
        by_test : (b : Bool) → (bytes_eq (codes "IF") g && not (mentions f c)) ≡ b → PlaceOver (cond b (Test c) Plain)
        by_test false e = tt
        by_test true e = lacks_over c (not-true (mentions f c) (and_parts (bytes_eq (codes "IF") g) (not (mentions f c)) e).1) o.0

    call_over : (g : Name) (ts : Tms) → EachTm CallsOver ts → CallsOver (Call g ts)
    call_over g ts h o e tests k =
        each_join CallOver _ (recursive_calls_in f (first_place f g ts) tests ts) (by_name (bytes_eq f g) refl)
        (calls_in_over ts h o.1 e'.1 (first_place f g ts) (first_over g ts o.1) tests k)
      where
        e' : ((bytes_eq f g && mentions_in f ts) ≡ false) × (is_nested_in f ts ≡ false)
        e' = or_parts (bytes_eq f g && mentions_in f ts) (is_nested_in f ts) e

        by_name : (b : Bool) → bytes_eq f g ≡ b → Each CallOver (cond b (record { tests = tests; args = ts } ∷ []) [])
        by_name false t = tt
        by_name true t = (record { tests = k; args = lacks_all_over ts (ap (λ x. x && mentions_in f ts) (sym t) ∙ e'.0) o.1 }, tt)

    pub calls_over : (t : Tm) → CallsOver t
    calls_over = by_terms CallsOver (λ x o e tests h. tt) (λ v o e tests h. tt) call_over

-- a map goes through a substitution by arguments
rename_by_args : (m : NamePairs) (ys : List Name) (ts : Tms) (x : Name) → rename m (by_args ys ts x) ≡ by_args ys (rename_all m ts) x
rename_by_args m [] ts x = refl
rename_by_args m (y ∷ ys) Done x = refl
rename_by_args m (y ∷ ys) (More t ts) x = by_test (bytes_eq y x) (rename_by_args m ys ts x)
  where
    by_test : (b : Bool) → rename m (by_args ys ts x) ≡ by_args ys (rename_all m ts) x → rename m (cond b t (by_args ys ts x)) ≡ cond b (rename m t) (by_args ys (rename_all m ts) x)
    by_test true ih = refl
    by_test false ih = ih

module _ (m : NamePairs) (ys : List Name) (us : Tms) where
  mutual
    pub rename_substitute : (t : Tm) → rename m (substitute (by_args ys us) t) ≡ substitute (by_args ys (rename_all m us)) (rename m t)
    rename_substitute (Var x) = rename_by_args m ys us x
    rename_substitute (Quote v) = refl
    rename_substitute (Call f ts) = ap (Call (image m f)) (rename_all_substitute ts)

    rename_all_substitute : (ts : Tms) → rename_all m (substitute_all (by_args ys us) ts) ≡ substitute_all (by_args ys (rename_all m us)) (rename_all m ts)
    rename_all_substitute Done = refl
    rename_all_substitute (More t ts) = let e = rename_substitute t in let es = rename_all_substitute ts in cc

module _ (f f' : Name) (m : NamePairs) where
  abbrev pub M : NamePairs
  M = (f, f') ∷ m

  pub image_other : (g : Name) → bytes_eq f g ≡ false → image ((f, f') ∷ m) g ≡ image m g
  image_other g e = ap (λ b. or_name g (cond b (Some f') (lookup m g))) e

  -- where f isn't mentioned, its pair does nothing
  module _ (Q : Name → ℕ → Type 0) (other : (g : Name) (k : ℕ) → Q g k → bytes_eq f g ≡ false) where
    mutual
      pub rename_lacks : (t : Tm) → Over Any Q t → rename ((f, f') ∷ m) t ≡ rename m t
      rename_lacks (Var x) o = refl
      rename_lacks (Quote v) o = refl
      rename_lacks (Call g ts) o = ap₂ Call (image_other g (other g (count ts) o.0)) (rename_all_lacks ts o.1)

      pub rename_all_lacks : (ts : Tms) → OverAll Any Q ts → rename_all ((f, f') ∷ m) ts ≡ rename_all m ts
      rename_all_lacks Done o = refl
      rename_all_lacks (More t ts) o = ap₂ More (rename_lacks t o.0) (rename_all_lacks ts o.1)

  -- where no other image is the new name, the new name stands where the old one stood
  module _ (N : Name → ℕ → Type 0) (stays_apart : (g : Name) (k : ℕ) → N g k → bytes_eq f g ≡ false → bytes_eq f' (image m g) ≡ false) where
    pub same_own : (g : Name) (k : ℕ) → N g k → bytes_eq f' (image ((f, f') ∷ m) g) ≡ bytes_eq f g
    same_own g k n = by_test (bytes_eq f g) refl
      where
        by_test : (b : Bool) → bytes_eq f g ≡ b → bytes_eq f' (or_name g (cond b (Some f') (lookup m g))) ≡ b
        by_test true e = name_self f'
        by_test false e = stays_apart g k n e

    mutual
      pub same_mentions : (t : Tm) → Over Any N t → mentions f' (rename ((f, f') ∷ m) t) ≡ mentions f t
      same_mentions (Var x) o = refl
      same_mentions (Quote v) o = refl
      same_mentions (Call g ts) o = ap₂ (λ a b. a || b) (same_own g (count ts) o.0) (same_mentions_in ts o.1)

      same_mentions_in : (ts : Tms) → OverAll Any N ts → mentions_in f' (rename_all ((f, f') ∷ m) ts) ≡ mentions_in f ts
      same_mentions_in Done o = refl
      same_mentions_in (More t ts) o = ap₂ (λ a b. a || b) (same_mentions t o.0) (same_mentions_in ts o.1)

    mutual
      pub same_nested : (t : Tm) → Over Any N t → is_nested f' (rename ((f, f') ∷ m) t) ≡ is_nested f t
      same_nested (Var x) o = refl
      same_nested (Quote v) o = refl
      same_nested (Call g ts) o = ap₂ (λ a b. a || b) (ap₂ (λ a b. a && b) (same_own g (count ts) o.0) (same_mentions_in ts o.1)) (same_nested_in ts o.1)

      same_nested_in : (ts : Tms) → OverAll Any N ts → is_nested_in f' (rename_all ((f, f') ∷ m) ts) ≡ is_nested_in f ts
      same_nested_in Done o = refl
      same_nested_in (More t ts) o = ap₂ (λ a b. a || b) (same_nested t o.0) (same_nested_in ts o.1)

    -- the recursive calls of the renamed body are the renamed ones, with at least the renamed tests
    module _ (if_other : bytes_eq f (codes "IF") ≡ false) (if_stays : image m (codes "IF") ≡ codes "IF")
        (not_other : bytes_eq f (codes "NOT") ≡ false) (not_stays : image m (codes "NOT") ≡ codes "NOT") (P : Tm → Type 0) where
      abbrev Renamed : Tm → Type 0
      Renamed t = P (rename ((f, f') ∷ m) t)

      pub record Refine (c c' : RecursiveCall) : Type 0 where
        pub args : c'.args ≡ rename_all ((f, f') ∷ m) c.args
        pub tests : Each P c'.tests → Each (λ t. P (rename ((f, f') ∷ m) t)) c.tests

      abbrev pub AllRefine : List RecursiveCall → List RecursiveCall → Type 0
      AllRefine [] [] = Unit {0}
      AllRefine [] (d ∷ ds) = ⊥
      AllRefine (c ∷ cs) [] = ⊥
      AllRefine (c ∷ cs) (d ∷ ds) = Refine c d × AllRefine cs ds

      refine_join : (cs ds es gs : List RecursiveCall) → AllRefine cs ds → AllRefine es gs → AllRefine (cs ++ es) (ds ++ gs)
      refine_join [] [] es gs h k = k
      refine_join [] (d ∷ ds) es gs h k = absurd h
      refine_join (c ∷ cs) [] es gs h k = absurd h
      refine_join (c ∷ cs) (d ∷ ds) es gs h k = (h.0, refine_join cs ds es gs h.1 k)

      abbrev PlaceRefine : Place → Place → Type 0
      PlaceRefine Plain p = Unit {0}
      PlaceRefine (Test c) p = p ≡ Test (rename ((f, f') ∷ m) c)
      PlaceRefine (Then c) p = p ≡ Then (rename ((f, f') ∷ m) c)
      PlaceRefine (Else c) p = p ≡ Else (rename ((f, f') ∷ m) c)

      next_refine : (p q : Place) → PlaceRefine p q → PlaceRefine (next p) (next q)
      next_refine Plain q h = tt
      next_refine (Test c) q h = ap next h
      next_refine (Then c) q h = ap next h
      next_refine (Else c) q h = tt

      fewer_tests : (p : Place) (tests : List Tm) → Each P (tests_at p tests) → Each P tests
      fewer_tests Plain tests h = h
      fewer_tests (Test c) tests h = h
      fewer_tests (Then c) tests h = (each_parts P tests _ h).0
      fewer_tests (Else c) tests h = (each_parts P tests _ h).0

      at_refine : (p q : Place) → PlaceRefine p q → (tests tests' : List Tm) → (Each P tests' → Each Renamed tests) → Each P (tests_at q tests') → Each Renamed (tests_at p tests)
      at_refine Plain q r tests tests' h k = h (fewer_tests q tests' k)
      at_refine (Test c) q r tests tests' h k = h (fewer_tests q tests' k)
      at_refine (Then c) q r tests tests' h k =
          let k' = each_parts P tests' (rename ((f, f') ∷ m) c ∷ []) (subst (λ x. Each P (tests_at x tests')) r k) in
          each_join Renamed tests (c ∷ []) (h k'.0) (k'.1.0, tt)
      at_refine (Else c) q r tests tests' h k =
          let k' = each_parts P tests' (call1 (codes "NOT") (rename ((f, f') ∷ m) c) ∷ []) (subst (λ x. Each P (tests_at x tests')) r k) in
          let name : codes "NOT" ≡ image ((f, f') ∷ m) (codes "NOT") = sym (image_other (codes "NOT") not_other ∙ not_stays) in
          each_join Renamed tests (call1 (codes "NOT") c ∷ []) (h k'.0) (subst (λ g. P (call1 g (rename ((f, f') ∷ m) c))) name k'.1.0, tt)

      first_refine : (g : Name) (ts : Tms) → OverAll Any N ts → PlaceRefine (first_place f g ts) (first_place f' (image ((f, f') ∷ m) g) (rename_all ((f, f') ∷ m) ts))
      first_refine g Done o = tt
      first_refine g (More c ts) o = by_if (bytes_eq (codes "IF") g) refl
        where
          by_mention : (a : Bool) → bytes_eq (codes "IF") (image ((f, f') ∷ m) g) ≡ true → mentions f c ≡ a → PlaceRefine (cond (true && not a) (Test c) Plain) (cond (bytes_eq (codes "IF") (image ((f, f') ∷ m) g) && not (mentions f' (rename ((f, f') ∷ m) c))) (Test (rename ((f, f') ∷ m) c)) Plain)
          by_mention true i e = tt
          by_mention false i e = ap₂ (λ x y. cond (x && not y) (Test (rename ((f, f') ∷ m) c)) Plain) i (same_mentions c o.0 ∙ e)

          by_if : (b : Bool) → bytes_eq (codes "IF") g ≡ b → PlaceRefine (cond (b && not (mentions f c)) (Test c) Plain) (cond (bytes_eq (codes "IF") (image ((f, f') ∷ m) g) && not (mentions f' (rename ((f, f') ∷ m) c))) (Test (rename ((f, f') ∷ m) c)) Plain)
          by_if false e = tt
          by_if true e =
              let is = same_name (codes "IF") g e in
              let i : bytes_eq (codes "IF") (image ((f, f') ∷ m) g) ≡ true = subst (λ x. bytes_eq (codes "IF") (image ((f, f') ∷ m) x) ≡ true) is (ap (bytes_eq (codes "IF")) (image_other (codes "IF") if_other ∙ if_stays) ∙ name_self (codes "IF")) in
              by_mention (mentions f c) i refl

      abbrev CallsRefine : Tm → Type 0
      CallsRefine t = Over Any N t → (tests tests' : List Tm) → (Each P tests' → Each Renamed tests) → AllRefine (recursive_calls f tests t) (recursive_calls f' tests' (rename ((f, f') ∷ m) t))

      in_refine : (ts : Tms) → EachTm CallsRefine ts → OverAll Any N ts → (p q : Place) → PlaceRefine p q → (tests tests' : List Tm) → (Each P tests' → Each Renamed tests) → AllRefine (recursive_calls_in f p tests ts) (recursive_calls_in f' q tests' (rename_all ((f, f') ∷ m) ts))
      in_refine Done h o p q r tests tests' k = tt
      in_refine (More t ts) h o p q r tests tests' k =
          refine_join (recursive_calls f (tests_at p tests) t) (recursive_calls f' (tests_at q tests') (rename ((f, f') ∷ m) t)) _ _
          (h.0 o.0 (tests_at p tests) (tests_at q tests') (at_refine p q r tests tests' k))
          (in_refine ts h.1 o.1 (next p) (next q) (next_refine p q r) tests tests' k)

      call_refine : (g : Name) (ts : Tms) → EachTm CallsRefine ts → CallsRefine (Call g ts)
      call_refine g ts h o tests tests' k =
          refine_join (cond (bytes_eq f g) (record { tests = tests; args = ts } ∷ []) []) (cond (bytes_eq f' (image ((f, f') ∷ m) g)) (record { tests = tests'; args = rename_all ((f, f') ∷ m) ts } ∷ []) []) _ _
          (by_name (bytes_eq f g) (bytes_eq f' (image ((f, f') ∷ m) g)) (same_own g (count ts) o.0))
          (in_refine ts h o.1 (first_place f g ts) (first_place f' (image ((f, f') ∷ m) g) (rename_all ((f, f') ∷ m) ts)) (first_refine g ts o.1) tests tests' k)
        where
          by_name : (a b : Bool) → b ≡ a → AllRefine (cond a (record { tests = tests; args = ts } ∷ []) []) (cond b (record { tests = tests'; args = rename_all ((f, f') ∷ m) ts } ∷ []) [])
          by_name true true e = (record { args = refl; tests = k }, tt)
          by_name false false e = tt
          by_name true false e = absurd (cc)
          by_name false true e = absurd (cc)

      pub calls_refine : (t : Tm) → CallsRefine t
      calls_refine = by_terms CallsRefine (λ x o tests tests' k. tt) (λ v o tests tests' k. tt) call_refine
