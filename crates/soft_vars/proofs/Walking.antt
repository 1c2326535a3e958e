-- Each step of the walk, and what all of them come to.
use Rattle.std.proofs.Common.{◌≡◌, ◌||◌, ◌⊎◌, inl, inr, ℕ, Bool, true, false, cond, List, [], ◌∷◌, ◌++◌, bytes_eq, append_assoc, append-nil, is_some, Option, Some, None, Result, Ok, Err, OnOk, if◌then◌else◌, refl, sym, ap, ◌∙◌, subst}
use Rattle.std.specs.List.{list_any}
use Rattle.lisp_data.specs.Values.{Name}
use Rattle.terms.specs.Terms.{Tm, Var, Quote, Call, Tms, Done, More}
use Rattle.terms.specs.Variables.{with_name}
use Rattle.terms.specs.Primitives.{lookup}
use Rattle.terms.specs.Definitions.{find}
use Rattle.terms.specs.Dependence.{term_dependence, terms_dependence, measure_dependence, itself}
use Rattle.terms.specs.Worlds.{World, Each}
use Rattle.terms.specs.Sound.{Sound}
use Rattle.terms.specs.declared.definition.Definition.{Definition}
use Rattle.terms.proofs.Names.{same_name, name_self}
use Rattle.terms.specs.Dependence.{function_dependence}
use Rattle.soft_vars.specs.Dependents.{joined}
use Rattle.soft_vars.specs.view.Walks.{is_but, visits, visits_all, measure_visits, found_by, after, Covers, IsReady, AreReady, ComesTo, Follows, FollowsVisit}
use Rattle.soft_vars.specs.declared.walk.Task.{Task}
use Rattle.soft_vars.specs.declared.walk.Task.TheVariants.{Visit, Leave}
use Rattle.soft_vars.specs.declared.walk.Walk.{Walk}
use Rattle.soft_vars.proofs.Depends.{others, parts, defined, not_defined}

-- ---- names that are found
joined_append : (found xs ys : List Name) → joined found (xs ++ ys) ≡ joined (joined found xs) ys
joined_append found [] ys = refl
joined_append found (x ∷ xs) ys = joined_append (with_name x found) xs ys

abbrev Has : List Name → Name → Type 0
Has found x = list_any (bytes_eq x) found ≡ true

has_before : (found : List Name) (y x : Name) → Has found x → Has (found ++ y ∷ []) x
has_before [] y x h = absurd (cc)
has_before (z ∷ found) y x h = by_test (bytes_eq x z) h (has_before found y x)
  where
    by_test : (b : Bool) → (b || list_any (bytes_eq x) found) ≡ true → (Has found x → Has (found ++ y ∷ []) x) → (b || list_any (bytes_eq x) (found ++ y ∷ [])) ≡ true
    by_test true k ih = refl
    by_test false k ih = ih k

has_last : (found : List Name) (x : Name) → Has (found ++ x ∷ []) x
has_last [] x = ap (λ b. b || false) (name_self x)
has_last (z ∷ found) x = by_test (bytes_eq x z) (has_last found x)
  where
    by_test : (b : Bool) → Has (found ++ x ∷ []) x → (b || list_any (bytes_eq x) (found ++ x ∷ [])) ≡ true
    by_test true ih = refl
    by_test false ih = ih

has_stays : (y : Name) (found : List Name) (x : Name) → Has found x → Has (with_name y found) x
has_stays y found x h = by_test (list_any (bytes_eq y) found)
  where
    by_test : (b : Bool) → Has (if b then found else (found ++ y ∷ [])) x
    by_test true = h
    by_test false = has_before found y x h

has_new : (x : Name) (found : List Name) → Has (with_name x found) x
has_new x found = by_test (list_any (bytes_eq x) found) refl
  where
    by_test : (b : Bool) → list_any (bytes_eq x) found ≡ b → Has (if b then found else (found ++ x ∷ [])) x
    by_test true e = e
    by_test false e = has_last found x

or_false : (b : Bool) → (b || false) ≡ true → b ≡ true
or_false true h = refl
or_false false h = h

has_after : (found : List Name) (y x : Name) → Has (found ++ y ∷ []) x → (y ≡ x) ⊎ Has found x
has_after [] y x h = inl (sym (same_name x y (or_false (bytes_eq x y) h)))
has_after (z ∷ found) y x h = by_test (bytes_eq x z) h (has_after found y x)
  where
    by_test : (b : Bool) → (b || list_any (bytes_eq x) (found ++ y ∷ [])) ≡ true → (Has (found ++ y ∷ []) x → (y ≡ x) ⊎ Has found x) → (y ≡ x) ⊎ ((b || list_any (bytes_eq x) found) ≡ true)
    by_test true k ih = inr refl
    by_test false k ih = ih k

-- what is there with a name added is that name, or was there
has_either : (y : Name) (found : List Name) (x : Name) → Has (with_name y found) x → (y ≡ x) ⊎ Has found x
has_either y found x h = by_test (list_any (bytes_eq y) found) h
  where
    by_test : (b : Bool) → Has (if b then found else (found ++ y ∷ [])) x → (y ≡ x) ⊎ Has found x
    by_test true k = inr k
    by_test false k = has_after found y x k

has_joined : (found ys : List Name) (x : Name) → Has found x → Has (joined found ys) x
has_joined found [] x h = h
has_joined found (y ∷ ys) x h = has_joined (with_name y found) ys x (has_stays y found x h)

covers_joined : (found ys xs : List Name) → Covers found xs → Covers (joined found ys) xs
covers_joined found ys [] h = tt
covers_joined found ys (x ∷ xs) h = (has_joined found ys x h.0, covers_joined found ys xs h.1)

covers_new : (found xs : List Name) → Covers (joined found xs) xs
covers_new found [] = tt
covers_new found (x ∷ xs) = (has_joined (with_name x found) xs x (has_new x found), covers_new (with_name x found) xs)

with_name_had : (x : Name) (found : List Name) → Has found x → with_name x found ≡ found
with_name_had x found h = ap (λ b. if b then found else (found ++ x ∷ [])) h

joined_covered : (found xs : List Name) → Covers found xs → joined found xs ≡ found
joined_covered found [] h = refl
joined_covered found (x ∷ xs) h = ap (λ f. joined f xs) (with_name_had x found h.0) ∙ joined_covered found xs h.1

-- ---- tasks
module _ (of_name : Name → List Name) where
  after_append : (xs ys : List Task) (found : List Name) → after of_name (xs ++ ys) found ≡ after of_name xs (after of_name ys found)
  after_append [] ys found = refl
  after_append (t ∷ xs) ys found = ap (found_by of_name t) (after_append xs ys found)

  ready_parts : (xs ys : List Task) (found : List Name) → AreReady of_name (xs ++ ys) found → AreReady of_name xs (after of_name ys found) × AreReady of_name ys found
  ready_parts [] ys found h = (tt, h)
  ready_parts (t ∷ xs) ys found h =
      let r = ready_parts xs ys found h.1 in
      ((subst (IsReady of_name t) (after_append xs ys found) h.0, r.0), r.1)

  ready_join : (xs ys : List Task) (found : List Name) → AreReady of_name xs (after of_name ys found) → AreReady of_name ys found → AreReady of_name (xs ++ ys) found
  ready_join [] ys found h k = k
  ready_join (t ∷ xs) ys found h k = (subst (IsReady of_name t) (sym (after_append xs ys found)) h.0, ready_join xs ys found h.1 k)

  here : (b : Bool) (g : Name) (found : List Name) → after of_name (cond b [] (Visit g ∷ [])) found ≡ joined found (cond b [] (of_name g))
  here true g found = refl
  here false g found = refl

  ready_here : (b : Bool) (g : Name) (found : List Name) → AreReady of_name (cond b [] (Visit g ∷ [])) found
  ready_here true g found = tt
  ready_here false g found = (tt, tt)

  mutual
    pub after_visits : (but : Option Name) (t : Tm) (found : List Name) → after of_name (visits but t) found ≡ joined found (term_dependence (others but of_name) t)
    after_visits but (Var x) found = refl
    after_visits but (Quote v) found = refl
    after_visits but (Call g ts) found =
        after_append (visits_all but ts) (cond (is_but but g) [] (Visit g ∷ [])) found
        ∙ ap (after of_name (visits_all but ts)) (here (is_but but g) g found)
        ∙ after_all_visits but ts (joined found (others but of_name g))
        ∙ sym (joined_append found (others but of_name g) (terms_dependence (others but of_name) ts))

    pub after_all_visits : (but : Option Name) (ts : Tms) (found : List Name) → after of_name (visits_all but ts) found ≡ joined found (terms_dependence (others but of_name) ts)
    after_all_visits but Done found = refl
    after_all_visits but (More t ts) found =
        after_append (visits_all but ts) (visits but t) found
        ∙ ap (after of_name (visits_all but ts)) (after_visits but t found)
        ∙ after_all_visits but ts (joined found (term_dependence (others but of_name) t))
        ∙ sym (joined_append found (term_dependence (others but of_name) t) (terms_dependence (others but of_name) ts))

  mutual
    pub ready_visits : (but : Option Name) (t : Tm) (found : List Name) → AreReady of_name (visits but t) found
    ready_visits but (Var x) found = tt
    ready_visits but (Quote v) found = tt
    ready_visits but (Call g ts) found =
        ready_join (visits_all but ts) (cond (is_but but g) [] (Visit g ∷ [])) found
        (ready_all_visits but ts (after of_name (cond (is_but but g) [] (Visit g ∷ [])) found)) (ready_here (is_but but g) g found)

    pub ready_all_visits : (but : Option Name) (ts : Tms) (found : List Name) → AreReady of_name (visits_all but ts) found
    ready_all_visits but Done found = tt
    ready_all_visits but (More t ts) found =
        ready_join (visits_all but ts) (visits but t) found (ready_all_visits but ts (after of_name (visits but t) found)) (ready_visits but t found)

  after_measure : (but : Option Name) (o : Option Tm) (found : List Name) → after of_name (measure_visits but o) found ≡ joined found (measure_dependence (others but of_name) o)
  after_measure but None found = refl
  after_measure but (Some m) found = after_visits but m found

  ready_measure : (but : Option Name) (o : Option Tm) (found : List Name) → AreReady of_name (measure_visits but o) found
  ready_measure but None found = tt
  ready_measure but (Some m) found = ready_visits but m found

  -- the visits of a definition find what its parts depend on
  after_parts : (but : Option Name) (d : Definition) (found : List Name) → after of_name (measure_visits but d.measure ++ visits but d.body) found ≡ joined found (parts (others but of_name) d)
  after_parts but d found =
      after_append (measure_visits but d.measure) (visits but d.body) found
      ∙ ap (after of_name (measure_visits but d.measure)) (after_visits but d.body found)
      ∙ after_measure but d.measure (joined found (term_dependence (others but of_name) d.body))
      ∙ sym (joined_append found (term_dependence (others but of_name) d.body) (measure_dependence (others but of_name) d.measure))

  ready_parts_of : (but : Option Name) (d : Definition) (found : List Name) → AreReady of_name (measure_visits but d.measure ++ visits but d.body) found
  ready_parts_of but d found =
      ready_join (measure_visits but d.measure) (visits but d.body) found (ready_measure but d.measure (after of_name (visits but d.body) found)) (ready_visits but d.body found)

-- ---- steps
itself-some : (f : Name) (o : Option ℕ) → is_some o ≡ true → itself f o ≡ f ∷ []
itself-some f None h = absurd (cc)
itself-some f (Some k) h = refl

itself-none : (f : Name) (o : Option ℕ) → is_some o ≡ false → itself f o ≡ []
itself-none f None h = refl
itself-none f (Some k) h = absurd (cc)

module _ (W : World) where
  abbrev D : Name → List Name
  D = function_dependence W

  -- a visit that finds these and leaves nothing more to do
  module _ (f : Name) (old new : Walk) (same_left : new.left.items ≡ old.left.items) (same_done : new.done ≡ old.done) where
    found_now : new.found ≡ joined old.found (D f) → FollowsVisit W f old new
    found_now e = λ all c. record {
      found =
          (λ i. after D (same_left i) (e i))
          ∙ sym (after_append D old.left.items (Visit f ∷ []) old.found)
          ∙ c.found;
      ready =
          subst (λ l. AreReady D l new.found) (sym same_left)
          (subst (AreReady D old.left.items) (sym e) (ready_parts D old.left.items (Visit f ∷ []) old.found c.ready).0);
      done = λ g h.
          subst (λ l. Covers l (D g)) (sym e)
          (covers_joined old.found (D f) (D g) (c.done g (ap (λ s. list_any (bytes_eq g) s.keys) (sym same_done) ∙ h)));
    }

    pub was_done : new.found ≡ old.found → list_any (bytes_eq f) old.done.keys ≡ true → FollowsVisit W f old new
    was_done e h = λ all c. found_now (e ∙ sym (joined_covered old.found (D f) (c.done f h))) all c

    -- a function variable depends on itself
    pub met_variable : find W.functions.defs f ≡ None → is_some (lookup W.functions.vars f) ≡ true → new.found ≡ with_name f old.found → FollowsVisit W f old new
    met_variable none v e =
        let is : D f ≡ f ∷ [] = not_defined W.functions.vars W.functions.defs f none ∙ itself-some f (lookup W.functions.vars f) v in
        found_now (e ∙ sym (ap (joined old.found) is))

    -- what is no function depends on nothing
    pub met_nothing : find W.functions.defs f ≡ None → is_some (lookup W.functions.vars f) ≡ false → new.found ≡ old.found → FollowsVisit W f old new
    met_nothing none v e =
        let is : D f ≡ [] = not_defined W.functions.vars W.functions.defs f none ∙ itself-none f (lookup W.functions.vars f) v in
        found_now (e ∙ sym (ap (joined old.found) is))

  -- a function's definition is entered
  pub met_function : (f : Name) (old new : Walk) (d : Definition) → Sound W → find W.functions.defs f ≡ Some d →
      new.left.items ≡ (old.left.items ++ Leave f ∷ []) ++ (measure_visits (Some f) d.measure ++ visits (Some f) d.body) →
      new.done ≡ old.done → new.found ≡ old.found → FollowsVisit W f old new
  met_function f old new d sound is is_left is_done is_found = λ all c. record {
    found =
        (λ i. after D (is_left i) (is_found i))
        ∙ after_append D (old.left.items ++ Leave f ∷ []) inner old.found
        ∙ ap (after D (old.left.items ++ Leave f ∷ [])) inside
        ∙ after_append D old.left.items (Leave f ∷ []) (joined old.found (D f))
        ∙ sym (after_append D old.left.items (Visit f ∷ []) old.found)
        ∙ c.found;
    ready =
        subst (λ l. AreReady D l new.found) (sym is_left)
        (subst (AreReady D ((old.left.items ++ Leave f ∷ []) ++ inner)) (sym is_found)
        (ready_join D (old.left.items ++ Leave f ∷ []) inner old.found
        (subst (AreReady D (old.left.items ++ Leave f ∷ [])) (sym inside)
        (ready_join D old.left.items (Leave f ∷ []) (joined old.found (D f))
        (ready_parts D old.left.items (Visit f ∷ []) old.found c.ready).0
        (covers_new old.found (D f), tt)))
        (ready_parts_of D (Some f) d old.found)));
    done = λ g h.
        subst (λ l. Covers l (D g)) (sym is_found) (c.done g (ap (λ s. list_any (bytes_eq g) s.keys) (sym is_done) ∙ h));
  }
    where
      inner : List Task
      inner = measure_visits (Some f) d.measure ++ visits (Some f) d.body

      inside : after D inner old.found ≡ joined old.found (D f)
      inside = after_parts D (Some f) d old.found ∙ ap (joined old.found) (sym (defined W.functions.vars W.functions.defs sound.formed f d is))

  -- all variables of a function are found
  pub left_function : (f : Name) (old new : Walk) → new.left.items ≡ old.left.items → new.found ≡ old.found →
      new.done.keys ≡ with_name f old.done.keys → Follows W (Leave f) old new
  left_function f old new is_left is_found is_done = λ all c. record {
    found = (λ i. after D (is_left i) (is_found i)) ∙ sym (after_append D old.left.items (Leave f ∷ []) old.found) ∙ c.found;
    ready =
        subst (λ l. AreReady D l new.found) (sym is_left)
        (subst (AreReady D old.left.items) (sym is_found) (ready_parts D old.left.items (Leave f ∷ []) old.found c.ready).0);
    done = λ g h. subst (λ l. Covers l (D g)) (sym is_found)
        (elim (has_either f old.done.keys g (ap (list_any (bytes_eq g)) (sym is_done) ∙ h)) [
          | inl same ↦ subst (λ x. Covers old.found (D x)) same (ready_parts D old.left.items (Leave f ∷ []) old.found c.ready).1.0
          | inr before ↦ c.done g before
        ]);
  }

-- the next task is taken
pub taken : (W : World) (all : List Name) (w w' : Walk) (t : Task) → w.left.items ≡ w'.left.items ++ t ∷ [] → w'.found ≡ w.found → w'.done ≡ w.done →
    ComesTo W all w.left.items w → ComesTo W all (w'.left.items ++ t ∷ []) w'
taken W all w w' t is_left is_found is_done c = record {
  found = (λ i. after (function_dependence W) (sym is_left i) (is_found i)) ∙ c.found;
  ready = subst (λ l. AreReady (function_dependence W) l w'.found) is_left (subst (AreReady (function_dependence W) w.left.items) (sym is_found) c.ready);
  done = λ g h. subst (λ l. Covers l (function_dependence W g)) (sym is_found) (c.done g (ap (λ s. list_any (bytes_eq g) s.keys) (sym is_done) ∙ h));
}

-- a walk begins
pub begins : (W : World) (w : Walk) → AreReady (function_dependence W) w.left.items w.found → w.done.keys ≡ [] →
    ComesTo W (after (function_dependence W) w.left.items w.found) w.left.items w
begins W w r d = record { found = refl; ready = r; done = λ f h. let e : list_any (bytes_eq f) w.done.keys ≡ false = ap (list_any (bytes_eq f)) d in absurd (cc) }

-- nothing is left
pub over : (W : World) (all : List Name) (w : Walk) → ComesTo W all [] w → w.found ≡ all
over W all w c = c.found

-- visits alone are ready, and find what terms depend on
pub ready_alone : (W : World) (but : Option Name) (none left : List Task) (ts : Tms) (found : List Name) → none ≡ [] → left ≡ none ++ visits_all but ts →
    AreReady (function_dependence W) left found
ready_alone W but none left ts found e h =
    subst (λ l. AreReady (function_dependence W) l found) (sym (h ∙ ap (λ l. l ++ visits_all but ts) e)) (ready_all_visits (function_dependence W) but ts found)

pub found_alone : (W : World) (none left : List Task) (found : List Name) (ts : Tms) → none ≡ [] → found ≡ [] → left ≡ none ++ visits_all None ts →
    after (function_dependence W) left found ≡ joined [] (terms_dependence (function_dependence W) ts)
found_alone W none left found ts e f h =
    (λ i. after (function_dependence W) ((h ∙ ap (λ l. l ++ visits_all None ts) e) i) (f i)) ∙ after_all_visits (function_dependence W) None ts []

pub ready_one : (W : World) (but : Option Name) (none left : List Task) (t : Tm) (found : List Name) → none ≡ [] → left ≡ none ++ visits but t →
    AreReady (function_dependence W) left found
ready_one W but none left t found e h =
    subst (λ l. AreReady (function_dependence W) l found) (sym (h ∙ ap (λ l. l ++ visits but t) e)) (ready_visits (function_dependence W) but t found)

pub found_one : (W : World) (none left : List Task) (found : List Name) (t : Tm) → none ≡ [] → found ≡ [] → left ≡ none ++ visits None t →
    after (function_dependence W) left found ≡ joined [] (term_dependence (function_dependence W) t)
found_one W none left found t e f h =
    (λ i. after (function_dependence W) ((h ∙ ap (λ l. l ++ visits None t) e) i) (f i)) ∙ after_visits (function_dependence W) None t []

-- what follows from three facts of a success
pub on_ok_three : {A E P Q R S : Type 0} (r : Result A E) → (P → Q → R → S) → OnOk r P → OnOk r Q → OnOk r R → OnOk r S
on_ok_three (Ok x) f p q s = f p q s
on_ok_three (Err e) f p q s = tt
