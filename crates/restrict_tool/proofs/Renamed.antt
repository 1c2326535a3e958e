-- A term with calls of a new function in the place of another's: what it mentions, its recursive calls, and that it fits.
use Rattle.std.proofs.Common.{◌≡◌, ℕ, suc, Bool, true, false, cond, not, ◌&&◌, ◌||◌, List, [], ◌∷◌, ◌++◌, map, bytes_eq, codes, Option, Some, None, refl, sym, ap, ap₂, ◌∙◌, subst}
use Rattle.std.proofs.lemmas.Bool.{or_parts}
use Rattle.lisp_data.specs.Values.{Name}
use Rattle.terms.specs.Terms.{Tm, Var, Quote, Call, Tms, Done, More, count, Over, OverAll}
use Rattle.terms.specs.Maps.{NamePairs, or_name, image, rename, rename_all}
use Rattle.terms.specs.Measures.{mentions, mentions_in, is_nested, is_nested_in, call1, RecursiveCall, Place, Plain, Test, Then, Else, tests_at, next, first_place, recursive_calls, recursive_calls_in}
use Rattle.terms.specs.Worlds.{Functions, arity, IsIn}
use Rattle.terms.specs.Formed.{FitsOver}
use Rattle.terms.proofs.Extend.{over_all_map}
use Rattle.terms.proofs.Names.{same_name, name_self}

-- a term that fits mentions no unknown name
module _ (F : Functions) (g : Name) (new : arity F g ≡ None) where
  pub unknown : (h : Name) (k : ℕ) → arity F h ≡ Some k → bytes_eq g h ≡ false
  unknown h k a = by_test (bytes_eq g h) refl
    where
      by_test : (b : Bool) → bytes_eq g h ≡ b → b ≡ false
      by_test false e = refl
      by_test true e = let n : arity F h ≡ None = subst (λ x. arity F x ≡ None) (same_name g h e) new in absurd (cc)

  module _ (P : Name → Type 0) where
    mutual
      pub lacks : (t : Tm) → Over P (λ h k. arity F h ≡ Some k) t → mentions g t ≡ false
      lacks (Var x) o = refl
      lacks (Quote v) o = refl
      lacks (Call h ts) o = ap (λ b. b || mentions_in g ts) (unknown h (count ts) o.0) ∙ lacks_all ts o.1

      lacks_all : (ts : Tms) → OverAll P (λ h k. arity F h ≡ Some k) ts → mentions_in g ts ≡ false
      lacks_all Done o = refl
      lacks_all (More t ts) o = ap (λ b. b || mentions_in g ts) (lacks t o.0) ∙ lacks_all ts o.1

-- a term without calls of g has none within another, and none that are recursive
module _ (g : Name) where
  mutual
    pub no_nest : (t : Tm) → mentions g t ≡ false → is_nested g t ≡ false
    no_nest (Var x) m = refl
    no_nest (Quote v) m = refl
    no_nest (Call h ts) m =
        let r = or_parts (bytes_eq g h) (mentions_in g ts) m in
        ap (λ b. (b && mentions_in g ts) || is_nested_in g ts) r.0 ∙ no_nest_in ts r.1

    no_nest_in : (ts : Tms) → mentions_in g ts ≡ false → is_nested_in g ts ≡ false
    no_nest_in Done m = refl
    no_nest_in (More t ts) m =
        let r = or_parts (mentions g t) (mentions_in g ts) m in
        ap (λ b. b || is_nested_in g ts) (no_nest t r.0) ∙ no_nest_in ts r.1

  mutual
    pub no_calls : (t : Tm) (tests : List Tm) → mentions g t ≡ false → recursive_calls g tests t ≡ []
    no_calls (Var x) tests m = refl
    no_calls (Quote v) tests m = refl
    no_calls (Call h ts) tests m =
        let r = or_parts (bytes_eq g h) (mentions_in g ts) m in
        ap (λ b. cond b (record { tests = tests; args = ts } ∷ []) [] ++ recursive_calls_in g (first_place g h ts) tests ts) r.0 ∙ no_calls_in ts (first_place g h ts) tests r.1

    no_calls_in : (ts : Tms) (p : Place) (tests : List Tm) → mentions_in g ts ≡ false → recursive_calls_in g p tests ts ≡ []
    no_calls_in Done p tests m = refl
    no_calls_in (More t ts) p tests m =
        let r = or_parts (mentions g t) (mentions_in g ts) m in
        ap (λ cs. cs ++ recursive_calls_in g (next p) tests ts) (no_calls t (tests_at p tests) r.0) ∙ no_calls_in ts (next p) tests r.1

map_join : {A B : Type 0} (f : A → B) (xs ys : List A) → map f (xs ++ ys) ≡ map f xs ++ map f ys
map_join f [] ys = refl
map_join f (x ∷ xs) ys = ap (λ zs. f x ∷ zs) (map_join f xs ys)

join_last : (xs ys : List Tm) (c : Tm) → (xs ++ ys) ++ c ∷ [] ≡ xs ++ (ys ++ c ∷ [])
join_last [] ys c = refl
join_last (x ∷ xs) ys c = ap (λ zs. x ∷ zs) (join_last xs ys c)

-- a call with further tests before its own
abbrev pub behind : List Tm → RecursiveCall → RecursiveCall
behind pre c = record { tests = pre ++ c.tests; args = c.args }

-- g for f
module _ (f g : Name) where
  abbrev m : NamePairs
  m = (f, g) ∷ []

  image_is : (h : Name) → image m h ≡ cond (bytes_eq f h) g h
  image_is h = by_test (bytes_eq f h)
    where
      by_test : (b : Bool) → or_name h (cond b (Some g) None) ≡ cond b g h
      by_test true = refl
      by_test false = refl

  -- another name stays
  image_other : (h : Name) → bytes_eq f h ≡ false → image m h ≡ h
  image_other h e = image_is h ∙ ap (λ b. cond b g h) e

  image_own : (h : Name) → bytes_eq f h ≡ true → image m h ≡ g
  image_own h e = image_is h ∙ ap (λ b. cond b g h) e

  -- the new name is met where the old one was
  image_met : (h : Name) → bytes_eq g h ≡ false → bytes_eq g (image m h) ≡ bytes_eq f h
  image_met h n = by_test (bytes_eq f h) refl
    where
      by_test : (b : Bool) → bytes_eq f h ≡ b → bytes_eq g (image m h) ≡ b
      by_test true e = ap (bytes_eq g) (image_own h e) ∙ name_self g
      by_test false e = ap (bytes_eq g) (image_other h e) ∙ n

  mutual
    -- without f there is nothing to rename
    pub renamed_same : (t : Tm) → mentions f t ≡ false → rename m t ≡ t
    renamed_same (Var x) e = refl
    renamed_same (Quote v) e = refl
    renamed_same (Call h ts) e =
        let r = or_parts (bytes_eq f h) (mentions_in f ts) e in
        ap₂ Call (image_other h r.0) (renamed_all_same ts r.1)

    renamed_all_same : (ts : Tms) → mentions_in f ts ≡ false → rename_all m ts ≡ ts
    renamed_all_same Done e = refl
    renamed_all_same (More t ts) e =
        let r = or_parts (mentions f t) (mentions_in f ts) e in
        ap₂ More (renamed_same t r.0) (renamed_all_same ts r.1)

  mutual
    pub mentions_renamed : (t : Tm) → mentions g t ≡ false → mentions g (rename m t) ≡ mentions f t
    mentions_renamed (Var x) e = refl
    mentions_renamed (Quote v) e = refl
    mentions_renamed (Call h ts) e =
        let r = or_parts (bytes_eq g h) (mentions_in g ts) e in
        ap₂ (λ a b. a || b) (image_met h r.0) (mentions_renamed_in ts r.1)

    mentions_renamed_in : (ts : Tms) → mentions_in g ts ≡ false → mentions_in g (rename_all m ts) ≡ mentions_in f ts
    mentions_renamed_in Done e = refl
    mentions_renamed_in (More t ts) e =
        let r = or_parts (mentions g t) (mentions_in g ts) e in
        ap₂ (λ a b. a || b) (mentions_renamed t r.0) (mentions_renamed_in ts r.1)

  mutual
    pub nested_renamed : (t : Tm) → mentions g t ≡ false → is_nested g (rename m t) ≡ is_nested f t
    nested_renamed (Var x) e = refl
    nested_renamed (Quote v) e = refl
    nested_renamed (Call h ts) e =
        let r = or_parts (bytes_eq g h) (mentions_in g ts) e in
        ap₂ (λ a b. a || b) (ap₂ (λ a b. a && b) (image_met h r.0) (mentions_renamed_in ts r.1)) (nested_renamed_in ts r.1)

    nested_renamed_in : (ts : Tms) → mentions_in g ts ≡ false → is_nested_in g (rename_all m ts) ≡ is_nested_in f ts
    nested_renamed_in Done e = refl
    nested_renamed_in (More t ts) e =
        let r = or_parts (mentions g t) (mentions_in g ts) e in
        ap₂ (λ a b. a || b) (nested_renamed t r.0) (nested_renamed_in ts r.1)

  -- a test that rules a branch has no f, so that it stays
  place_renamed : (h : Name) (ts : Tms) → mentions_in g ts ≡ false → first_place g h (rename_all m ts) ≡ first_place f h ts
  place_renamed h Done e = refl
  place_renamed h (More c ts) e =
      let r = or_parts (mentions g c) (mentions_in g ts) e in
      ap (λ b. cond (bytes_eq (codes "IF") h && not b) (Test (rename m c)) Plain) (mentions_renamed c r.0) ∙ by_test (mentions f c) refl (bytes_eq (codes "IF") h)
    where
      by_test : (b : Bool) → mentions f c ≡ b → (x : Bool) → cond (x && not b) (Test (rename m c)) Plain ≡ cond (x && not b) (Test c) Plain
      by_test true e' true = refl
      by_test true e' false = refl
      by_test false e' true = ap Test (renamed_same c e')
      by_test false e' false = refl

  module _ (pre : List Tm) where
    at_prefix : (p : Place) (tests : List Tm) → tests_at p (pre ++ tests) ≡ pre ++ tests_at p tests
    at_prefix Plain tests = refl
    at_prefix (Test c) tests = refl
    at_prefix (Then c) tests = join_last pre tests c
    at_prefix (Else c) tests = join_last pre tests (call1 (codes "NOT") c)

    -- the calls of g are those of f, with their tests and arguments
    mutual
      pub calls_renamed : (t : Tm) (tests : List Tm) → mentions g t ≡ false → is_nested f t ≡ false → recursive_calls g (pre ++ tests) (rename m t) ≡ map (behind pre) (recursive_calls f tests t)
      calls_renamed (Var x) tests e n = refl
      calls_renamed (Quote v) tests e n = refl
      calls_renamed (Call h ts) tests e n =
          let r = or_parts (bytes_eq g h) (mentions_in g ts) e in
          let q = or_parts (bytes_eq f h && mentions_in f ts) (is_nested_in f ts) n in
          by_test (bytes_eq f h) refl r.0 r.1 q.0
          (ap (λ p. recursive_calls_in g p (pre ++ tests) (rename_all m ts)) (place_renamed h ts r.1) ∙ calls_renamed_in ts (first_place f h ts) tests r.1 q.1)
        where
          with_name : (k : Name) (us : Tms) → k ≡ g → us ≡ ts → mentions_in g ts ≡ false → recursive_calls g (pre ++ tests) (Call k us) ≡ record { tests = pre ++ tests; args = ts } ∷ []
          with_name k us same all l =
              ap (recursive_calls g (pre ++ tests)) (ap₂ Call same all)
              ∙ ap₂ (λ b cs. cond b (record { tests = pre ++ tests; args = ts } ∷ []) [] ++ cs) (name_self g) (no_calls_in g ts (first_place g g ts) (pre ++ tests) l)

          by_test : (b : Bool) → bytes_eq f h ≡ b → bytes_eq g h ≡ false → mentions_in g ts ≡ false → (b && mentions_in f ts) ≡ false → recursive_calls_in g (first_place g h (rename_all m ts)) (pre ++ tests) (rename_all m ts) ≡ map (behind pre) (recursive_calls_in f (first_place f h ts) tests ts) → recursive_calls g (pre ++ tests) (Call (image m h) (rename_all m ts)) ≡ map (behind pre) (cond b (record { tests = tests; args = ts } ∷ []) [] ++ recursive_calls_in f (first_place f h ts) tests ts)
          by_test true s k l flat ih =
              with_name (image m h) (rename_all m ts) (image_own h s) (renamed_all_same ts flat) l
              ∙ ap (λ cs. record { tests = pre ++ tests; args = ts } ∷ map (behind pre) cs) (sym (no_calls_in f ts (first_place f h ts) tests flat))
          by_test false s k l flat ih =
              ap (λ x. recursive_calls g (pre ++ tests) (Call x (rename_all m ts))) (image_other h s)
              ∙ ap (λ b. cond b (record { tests = pre ++ tests; args = rename_all m ts } ∷ []) [] ++ recursive_calls_in g (first_place g h (rename_all m ts)) (pre ++ tests) (rename_all m ts)) k
              ∙ ih

      calls_renamed_in : (ts : Tms) (p : Place) (tests : List Tm) → mentions_in g ts ≡ false → is_nested_in f ts ≡ false → recursive_calls_in g p (pre ++ tests) (rename_all m ts) ≡ map (behind pre) (recursive_calls_in f p tests ts)
      calls_renamed_in Done p tests e n = refl
      calls_renamed_in (More t ts) p tests e n =
          let r = or_parts (mentions g t) (mentions_in g ts) e in
          let q = or_parts (is_nested f t) (is_nested_in f ts) n in
          let a = ap (λ us. recursive_calls g us (rename m t)) (at_prefix p tests) ∙ calls_renamed t (tests_at p tests) r.0 q.0 in
          let b = calls_renamed_in ts (next p) tests r.1 q.1 in
          ap₂ (λ cs ds. cs ++ ds) a b
          ∙ sym (map_join (behind pre) (recursive_calls f (tests_at p tests) t) (recursive_calls_in f (next p) tests ts))

  count_renamed : (ts : Tms) → count (rename_all m ts) ≡ count ts
  count_renamed Done = refl
  count_renamed (More t ts) = ap suc (count_renamed ts)

  -- what fits a world fits a later one where g takes as many arguments as f did
  module _ (F G : Functions) (later : (h : Name) (k : ℕ) → arity F h ≡ Some k → arity G h ≡ Some k) (same : (k : ℕ) → arity F f ≡ Some k → arity G g ≡ Some k) (ys : List Name) where
    image_takes : (h : Name) (k : ℕ) → arity F h ≡ Some k → arity G (image m h) ≡ Some k
    image_takes h k a = by_test (bytes_eq f h) refl
      where
        by_test : (b : Bool) → bytes_eq f h ≡ b → arity G (image m h) ≡ Some k
        by_test true e = ap (arity G) (image_own h e) ∙ same k (ap (arity F) (same_name f h e) ∙ a)
        by_test false e = ap (arity G) (image_other h e) ∙ later h k a

    mutual
      pub fits_renamed : (t : Tm) → FitsOver F ys t → FitsOver G ys (rename m t)
      fits_renamed (Var x) o = o
      fits_renamed (Quote v) o = tt
      fits_renamed (Call h ts) o = (image_takes h (count ts) o.0 ∙ ap Some (sym (count_renamed ts)), fit_all_renamed ts o.1)

      fit_all_renamed : (ts : Tms) → OverAll (IsIn ys) (λ h k. arity F h ≡ Some k) ts → OverAll (IsIn ys) (λ h k. arity G h ≡ Some k) (rename_all m ts)
      fit_all_renamed Done o = tt
      fit_all_renamed (More t ts) o = (fits_renamed t o.0, fit_all_renamed ts o.1)
