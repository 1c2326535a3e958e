-- What a proof concludes in a world it concludes in each later one: a lemma for each rule, and one induction.
use Rattle.std.proofs.Common.{◌≡◌, ◌&&◌, ℕ, Bool, true, false, cond, List, [], ◌∷◌, ◌++◌, map, bytes_eq, if◌then◌else◌, Option, Some, None, refl, sym, ap, ◌∙◌, subst}
use Rattle.std.proofs.lemmas.Bool.{and_parts}
use Rattle.std.specs.List.{list_all}
use Rattle.std.specs.Option.{option_map}
use Rattle.lisp_data.specs.Values.{Name, Val}
use Rattle.terms.specs.Primitives.{Operation, primitive, lookup}
use Rattle.terms.specs.Definitions.{find}
use Rattle.terms.specs.Evaluation.{then_with}
use Rattle.terms.specs.Substitution.{Pairs}
use Rattle.terms.specs.Terms.{Tm, Var, Quote, Call, Tms, Done, More, count, same_tm}
use Rattle.terms.specs.Sound.{Sound}
use Rattle.terms.specs.Worlds.{World, Functions, IsIn, Distinct, arity, arity_by}
use Rattle.terms.specs.declared.definition.Definition.{Definition}
use Rattle.terms.specs.Instances.{instance_map, sequent_terms, renamed_sequent}
use Rattle.terms.specs.declared.entries.FunPair.{FunPair}
use Rattle.terms.specs.declared.entries.FactName.{FactName}
use Rattle.terms.specs.declared.entries.FactName.TheVariants as fact
use Rattle.terms.specs.declared.entries.Iso.{Iso}
use Rattle.terms.specs.declared.sequent.Sequent.{Sequent}
use Rattle.terms.proofs.Later.{vars_apart}
use Rattle.terms.proofs.Names.{same_name}
use Rattle.worlds.specs.Lookups.{find_iso}
use Rattle.instance_laws.proofs.LaterMaps.{maps_stay}
use Rattle.proof_objects.specs.declared.step.InductionCase.{InductionCase}
use Rattle.proof_objects.specs.declared.step.Step.{Step}
use Rattle.proof_objects.specs.declared.step.Step.TheVariants.{Hyp, Refl, Replace, Unfold, Eval, Substitute, IfTrue, IfFalse, Cases, Cut, Weaken, Contradict, Axiom, Ring, ImpliesIn, ImpliesOut, Universal, Discharge, Theorem, Instance, Induct}
use Rattle.proof_objects.specs.ProofTrees.{ProofTree, By, Trees, NoMore, Also}
use Rattle.kernel.specs.Fitting.{takes, fits, fit_all, pairs_fit}
use Rattle.kernel.specs.Sequents.{negated_of}
use Rattle.kernel.specs.Equations.{called, unfolded, if_false}
use Rattle.kernel.specs.Logic.{by_cases, weakened, contradicted, instantiated}
use Rattle.evaluator.specs.Counted.{evaluated}
use Rattle.evaluator.proofs.Stay.{counted_values_stay}
use Rattle.kernel.specs.Evaluating.{is_ground, can_evaluate, value_of, computed}
use Rattle.kernel.proofs.Evaluations.{gives_value}
use Rattle.kernel.proofs.Inversions.{then_some, map_some, not_refused}
use Rattle.kernel.proofs.Good.{good_fact_rule}
use Rattle.kernel.specs.Facts.{fact_of, unless_refused, under_pairs, fact_instance}
use Rattle.kernel.specs.Induction.{says_natural, all_assumed, smaller, falls_in, all_fall, induced}
use Rattle.kernel.specs.Conclude.{from_none, from_one, from_two, from_more, conclude}
use Rattle.kernel.specs.Concludes.{concludes, all_concluded}
use Rattle.terms.specs.Later.{IsLater}
use Rattle.kernel.specs.Laws.{ProofsStay}

-- names of two lists
is_in_left : (xs ys : List Name) (n : Name) → IsIn xs n → IsIn (xs ++ ys) n
is_in_left [] ys n h = absurd h
is_in_left (x ∷ xs) ys n h = by_test (bytes_eq x n) h (is_in_left xs ys n)
  where
    by_test : (b : Bool) → cond b (Unit {0}) (IsIn xs n) → (IsIn xs n → IsIn (xs ++ ys) n) → cond b (Unit {0}) (IsIn (xs ++ ys) n)
    by_test true h' ih = tt
    by_test false h' ih = ih h'

distinct_left : (xs ys : List Name) → Distinct (xs ++ ys) → Distinct xs
distinct_left [] ys h = tt
distinct_left (x ∷ xs) ys h = (λ i. h.0 (is_in_left xs ys x i), distinct_left xs ys h.1)

distinct_right : (xs ys : List Name) → Distinct (xs ++ ys) → Distinct ys
distinct_right [] ys h = h
distinct_right (x ∷ xs) ys h = distinct_right xs ys h.1

-- what is found in a list of distinct names is found behind others
module _ {A B : Type 0} (name : A → Name) (value : A → B) (seek : List A → Name → Option B) (at_end : (n : Name) → seek [] n ≡ None) (at_item : (x : A) (xs : List A) (n : Name) → seek (x ∷ xs) n ≡ cond (bytes_eq (name x) n) (Some (value x)) (seek xs n)) where
  sought_in : (xs : List A) (n : Name) (b : B) → seek xs n ≡ Some b → IsIn (map name xs) n
  sought_in [] n b e = let z = at_end n in absurd (cc)
  sought_in (x ∷ xs) n b e = by_test (bytes_eq (name x) n) (sym (at_item x xs n) ∙ e) (sought_in xs n b)
    where
      by_test : (c : Bool) → cond c (Some (value x)) (seek xs n) ≡ Some b → (seek xs n ≡ Some b → IsIn (map name xs) n) → cond c (Unit {0}) (IsIn (map name xs) n)
      by_test true e' ih = tt
      by_test false e' ih = ih e'

  sought_behind : (xs ys : List A) → Distinct (map name (xs ++ ys)) → (n : Name) (b : B) → seek ys n ≡ Some b → seek (xs ++ ys) n ≡ Some b
  sought_behind [] ys d n b e = e
  sought_behind (x ∷ xs) ys d n b e = at_item x (xs ++ ys) n ∙ by_test (bytes_eq (name x) n) refl (sought_behind xs ys d.1 n b e)
    where
      by_test : (c : Bool) → bytes_eq (name x) n ≡ c → seek (xs ++ ys) n ≡ Some b → cond c (Some (value x)) (seek (xs ++ ys) n) ≡ Some b
      by_test true t ih = absurd (d.0 (subst (IsIn (map name (xs ++ ys))) (sym (same_name (name x) n t)) (sought_in (xs ++ ys) n b ih)))
      by_test false t ih = ih

  sought_later : (xs ys zs : List A) → zs ≡ xs ++ ys → Distinct (map name zs) → (n : Name) (b : B) → seek ys n ≡ Some b → seek zs n ≡ Some b
  sought_later xs ys zs e d n b h =
      subst (λ l. seek l n ≡ Some b) (sym e) (sought_behind xs ys (subst (λ l. Distinct (map name l)) e d) n b h)

-- tests and options
and_later : (a b a' b' : Bool) → (a ≡ true → a' ≡ true) → (b ≡ true → b' ≡ true) → (a && b) ≡ true → (a' && b') ≡ true
and_later a b a' b' f g e = let h = and_parts a b e in ap (λ c. c && b') (f h.0) ∙ g h.1

if_later : {A : Type 0} (b b' : Bool) (o o' : Option A) (y : A) → (b ≡ true → b' ≡ true) → (o ≡ Some y → o' ≡ Some y) → (if b then o else None) ≡ Some y → (if b' then o' else None) ≡ Some y
if_later true b' o o' y f g e = ap (λ c. if c then o' else None) (f refl) ∙ g e
if_later false b' o o' y f g e = absurd (cc)

then_later : {A B : Type 0} (o o' : Option A) (k k' : A → Option B) (y : B) → ((x : A) → o ≡ Some x → o' ≡ Some x) → ((x : A) → k x ≡ Some y → k' x ≡ Some y) → then_with o k ≡ Some y → then_with o' k' ≡ Some y
then_later None o' k k' y f g e = absurd (cc)
then_later (Some x) o' k k' y f g e = ap (λ z. then_with z k') (f x refl) ∙ g x e

map_later : {A B : Type 0} (k : A → B) (o o' : Option A) (y : B) → ((x : A) → o ≡ Some x → o' ≡ Some x) → option_map k o ≡ Some y → option_map k o' ≡ Some y
map_later k None o' y f e = absurd (cc)
map_later k (Some x) o' y f e = ap (option_map k) (f x refl) ∙ e

none_later : (o o' : Option Sequent) (ps : List Sequent) (t : Sequent) → (o ≡ Some t → o' ≡ Some t) → from_none o ps ≡ Some t → from_none o' ps ≡ Some t
none_later o o' [] t f e = f e
none_later o o' (p ∷ ps) t f e = absurd (cc)

one_later : (k k' : Sequent → Option Sequent) (ps : List Sequent) (t : Sequent) → ((p : Sequent) → k p ≡ Some t → k' p ≡ Some t) → from_one k ps ≡ Some t → from_one k' ps ≡ Some t
one_later k k' [] t f e = absurd (cc)
one_later k k' (p ∷ []) t f e = f p e
one_later k k' (p ∷ q ∷ ps) t f e = absurd (cc)

two_later : (k k' : Sequent → Sequent → Option Sequent) (ps : List Sequent) (t : Sequent) → ((p q : Sequent) → k p q ≡ Some t → k' p q ≡ Some t) → from_two k ps ≡ Some t → from_two k' ps ≡ Some t
two_later k k' [] t f e = absurd (cc)
two_later k k' (p ∷ []) t f e = absurd (cc)
two_later k k' (p ∷ q ∷ []) t f e = f p q e
two_later k k' (p ∷ q ∷ r ∷ ps) t f e = absurd (cc)

more_later : (k k' : Sequent → Sequent → List Sequent → Option Sequent) (ps : List Sequent) (t : Sequent) → ((p q : Sequent) (rest : List Sequent) → k p q rest ≡ Some t → k' p q rest ≡ Some t) → from_more k ps ≡ Some t → from_more k' ps ≡ Some t
more_later k k' [] t f e = absurd (cc)
more_later k k' (p ∷ []) t f e = absurd (cc)
more_later k k' (p ∷ q ∷ rest) t f e = f p q rest e

module _ (W V : World) (before : Sound W) (sound : Sound V) (later : IsLater W V) where
  abbrev F : Functions
  F = W.functions

  abbrev G : Functions
  G = V.functions

  -- what is found stays
  abbrev after_defs : List Name
  after_defs = map (λ v. v.0) G.vars ++ (map (λ t. t.0) V.theorems ++ (map (λ s. s.name) V.specifications ++ map (λ i. i.name) V.isos))

  abbrev after_vars : List Name
  after_vars = map (λ t. t.0) V.theorems ++ (map (λ s. s.name) V.specifications ++ map (λ i. i.name) V.isos)

  rest_distinct : Distinct after_defs
  rest_distinct = distinct_right (map (λ d. d.name) G.defs) after_defs sound.distinct

  facts_distinct : Distinct after_vars
  facts_distinct = distinct_right (map (λ v. v.0) G.vars) after_vars rest_distinct

  find_later : (f : Name) (d : Definition) → find F.defs f ≡ Some d → find G.defs f ≡ Some d
  find_later =
      let m = later.definitions in
      sought_later (λ d. d.name) (λ d. d) find (λ n. refl) (λ x xs n. refl) m.0 F.defs G.defs m.1 (distinct_left (map (λ d. d.name) G.defs) after_defs sound.distinct)

  variable_later : (x : Name) (k : ℕ) → lookup F.vars x ≡ Some k → lookup G.vars x ≡ Some k
  variable_later =
      let m = later.variables in
      sought_later (λ v. v.0) (λ v. v.1) lookup (λ n. refl) (λ x xs n. refl) m.0 F.vars G.vars m.1 (distinct_left (map (λ v. v.0) G.vars) after_vars rest_distinct)

  theorem_later : (n : Name) (s : Sequent) → lookup W.theorems n ≡ Some s → lookup V.theorems n ≡ Some s
  theorem_later =
      let m = later.theorems in
      sought_later (λ t. t.0) (λ t. t.1) lookup (λ n. refl) (λ x xs n. refl) m.0 W.theorems V.theorems m.1 (distinct_left (map (λ t. t.0) V.theorems) _ facts_distinct)

  iso_later : (n : Name) (i : Iso) → find_iso W.isos n ≡ Some i → find_iso V.isos n ≡ Some i
  iso_later =
      let m = later.isos in
      sought_later (λ i. i.name) (λ i. i) find_iso (λ n. refl) (λ x xs n. refl) m.0 W.isos V.isos m.1
      (distinct_right (map (λ s. s.name) V.specifications) (map (λ i. i.name) V.isos) (distinct_right (map (λ t. t.0) V.theorems) _ facts_distinct))

  arity_later : (f : Name) (k : ℕ) → arity F f ≡ Some k → arity G f ≡ Some k
  arity_later f k e = by_primitive (primitive f) e
    where
      by_definition : (q : Option Definition) → find F.defs f ≡ q → arity_by None q (lookup F.vars f) ≡ Some k → arity_by None (find G.defs f) (lookup G.vars f) ≡ Some k
      by_definition None h e' =
          let v = variable_later f k e' in
          let a = vars_apart V sound f k v in
          ap (λ o. arity_by None o (lookup G.vars f)) a.1 ∙ v
      by_definition (Some d) h e' = ap (λ o. arity_by None o (lookup G.vars f)) (find_later f d h) ∙ e'

      by_primitive : (p : Option Operation) → arity_by p (find F.defs f) (lookup F.vars f) ≡ Some k → arity_by p (find G.defs f) (lookup G.vars f) ≡ Some k
      by_primitive None e' = by_definition (find F.defs f) refl e'
      by_primitive (Some p) e' = e'

  takes_later : (f : Name) (k : ℕ) → takes (arity F f) k ≡ true → takes (arity G f) k ≡ true
  takes_later f k e = by_arity (arity F f) refl e
    where
      by_arity : (o : Option ℕ) → arity F f ≡ o → takes o k ≡ true → takes (arity G f) k ≡ true
      by_arity None h e' = absurd (cc)
      by_arity (Some n) h e' = ap (λ o. takes o k) (arity_later f n h) ∙ e'

  mutual
    fits_later : (t : Tm) → fits F t ≡ true → fits G t ≡ true
    fits_later (Var x) e = refl
    fits_later (Quote v) e = refl
    fits_later (Call f ts) e = and_later (takes (arity F f) (count ts)) (fit_all F ts) (takes (arity G f) (count ts)) (fit_all G ts) (takes_later f (count ts)) (fit_all_later ts) e

    fit_all_later : (ts : Tms) → fit_all F ts ≡ true → fit_all G ts ≡ true
    fit_all_later Done e = refl
    fit_all_later (More t ts) e = and_later (fits F t) (fit_all F ts) (fits G t) (fit_all G ts) (fits_later t) (fit_all_later ts) e

  list_later : (ts : List Tm) → list_all (fits F) ts ≡ true → list_all (fits G) ts ≡ true
  list_later [] e = refl
  list_later (t ∷ ts) e = and_later (fits F t) (list_all (fits F) ts) (fits G t) (list_all (fits G) ts) (fits_later t) (list_later ts) e

  pairs_later : (s : Pairs) → pairs_fit F s ≡ true → pairs_fit G s ≡ true
  pairs_later [] e = refl
  pairs_later (p ∷ s) e = and_later (fits F p.1) (pairs_fit F s) (fits G p.1) (pairs_fit G s) (fits_later p.1) (pairs_later s) e

  two_fit_later : (a b : Tm) → (fits F a && fits F b) ≡ true → (fits G a && fits G b) ≡ true
  two_fit_later a b = and_later (fits F a) (fits F b) (fits G a) (fits G b) (fits_later a) (fits_later b)

  -- where a term fits, two terms, and a substitution
  fit_later : (a : Tm) (o : Option Sequent) (t : Sequent) → (if fits F a then o else None) ≡ Some t → (if fits G a then o else None) ≡ Some t
  fit_later a o t = if_later (fits F a) (fits G a) o o t (fits_later a) (λ e. e)

  both_later : (a b : Tm) (o : Option Sequent) (t : Sequent) → (if fits F a && fits F b then o else None) ≡ Some t → (if fits G a && fits G b then o else None) ≡ Some t
  both_later a b o t = if_later (fits F a && fits F b) (fits G a && fits G b) o o t (two_fit_later a b) (λ e. e)

  put_later : (s : Pairs) (o : Option Sequent) (t : Sequent) → (if pairs_fit F s then o else None) ≡ Some t → (if pairs_fit G s then o else None) ≡ Some t
  put_later s o t = if_later (pairs_fit F s) (pairs_fit G s) o o t (pairs_later s) (λ e. e)

  -- a lemma for each rule that is not the same in all worlds, nor one of these
  called_later : (a : Tm) (c : Definition × Tms) → called F a ≡ Some c → called G a ≡ Some c
  called_later (Var x) c e = absurd (cc)
  called_later (Quote v) c e = absurd (cc)
  called_later (Call f ts) c e = map_later (λ d. (d, ts)) (find F.defs f) (find G.defs f) c (find_later f) e

  unfold_later : (a : Tm) (t : Sequent) → unfolded F a ≡ Some t → unfolded G a ≡ Some t
  unfold_later a t = if_later (fits F a) (fits G a) _ _ t (fits_later a) (map_later _ (called F a) (called G a) t (called_later a))

  if_false_later : (b c : Tm) (t p : Sequent) → if_false F b c p ≡ Some t → if_false G b c p ≡ Some t
  if_false_later b c t p = then_later (negated_of p.goal) (negated_of p.goal) _ _ t (λ a e. e) (λ a. both_later b c _ t)

  cases_later : (c : Tm) (t p q : Sequent) → by_cases F c p q ≡ Some t → by_cases G c p q ≡ Some t
  cases_later c t p q =
      if_later (fits F c && same_tm p.goal q.goal) (fits G c && same_tm p.goal q.goal) _ _ t
      (and_later (fits F c) (same_tm p.goal q.goal) (fits G c) (same_tm p.goal q.goal) (fits_later c) (λ e. e)) (λ e. e)

  weaken_later : (hs us : List Tm) (t p : Sequent) → weakened F hs us p ≡ Some t → weakened G hs us p ≡ Some t
  weaken_later hs us t p =
      if_later (list_all (fits F) hs && list_all (fits F) us) (list_all (fits G) hs && list_all (fits G) us) _ _ t
      (and_later (list_all (fits F) hs) (list_all (fits F) us) (list_all (fits G) hs) (list_all (fits G) us) (list_later hs) (list_later us)) (λ e. e)

  contradict_later : (g : Tm) (t p q : Sequent) → contradicted F g p q ≡ Some t → contradicted G g p q ≡ Some t
  contradict_later g t p q =
      then_later (negated_of q.goal) (negated_of q.goal) _ _ t (λ a e. e)
      (λ a. if_later (same_tm a p.goal && fits F g) (same_tm a p.goal && fits G g) _ _ t (and_later (same_tm a p.goal) (fits F g) (same_tm a p.goal) (fits G g) (λ e. e) (fits_later g)) (λ e. e))

  universal_later : (u : Tm) (s : Pairs) (t : Sequent) → instantiated F u s ≡ Some t → instantiated G u s ≡ Some t
  universal_later u s t =
      if_later (fits F u && pairs_fit F s) (fits G u && pairs_fit G s) _ _ t
      (and_later (fits F u) (pairs_fit F s) (fits G u) (pairs_fit G s) (fits_later u) (pairs_later s)) (λ e. e)

  fact_later : (f : FactName) (t : Sequent) → fact_of W f ≡ Some t → fact_of V f ≡ Some t
  fact_later (fact.Theorem n) t e = theorem_later n t e
  fact_later (fact.Measure f k) t e = then_later (find F.defs f) (find G.defs f) _ _ t (find_later f) (λ d e'. e') e
  fact_later (fact.Isomorphism n k) t e = then_later (find_iso W.isos n) (find_iso V.isos n) _ _ t (iso_later n) (λ i e'. e') e

  -- the map that pairs give for a fact stays
  under_pairs_later : (f : FactName) (pairs : List FunPair) (t : Sequent) → then_with (fact_of W f) (under_pairs W pairs) ≡ Some t → then_with (fact_of V f) (under_pairs V pairs) ≡ Some t
  under_pairs_later f pairs t e =
      let s = then_some (fact_of W f) (under_pairs W pairs) t e in
      let m = map_some (λ m. renamed_sequent m s.0) (unless_refused (instance_map W (sequent_terms s.0) pairs)) t s.2 in
      let good = good_fact_rule W before f s.0 s.1 in
      let stays = maps_stay W V before sound later s.0 good.fit pairs m.0 (not_refused (instance_map W (sequent_terms s.0) pairs) m.0 m.1) in
      ap (λ o. then_with o (under_pairs V pairs)) (fact_later f s.0 s.1)
      ∙ ap (λ o. option_map (λ m. renamed_sequent m s.0) (unless_refused o)) stays
      ∙ ap Some m.2

  instance_later : (pairs : List FunPair) (f : FactName) (t : Sequent) → fact_instance W pairs f ≡ Some t → fact_instance V pairs f ≡ Some t
  instance_later pairs (fact.Theorem n) t e = under_pairs_later (fact.Theorem n) pairs t e
  instance_later pairs (fact.Measure f k) t e = under_pairs_later (fact.Measure f k) pairs t e
  instance_later pairs (fact.Isomorphism n k) t e = absurd (cc)

  value_later : (a : Tm) (v : Val) → value_of (evaluated F.defs a) ≡ Some v → value_of (evaluated G.defs a) ≡ Some v
  value_later a v e = let g = gives_value (evaluated F.defs a) v e in ap value_of (counted_values_stay F.defs G.defs find_later a v g.0 g.1)

  eval_later : (a : Tm) (t : Sequent) → computed F a ≡ Some t → computed G a ≡ Some t
  eval_later a t =
      if_later (can_evaluate F a) (can_evaluate G a) _ _ t (and_later (fits F a) (is_ground a) (fits G a) (is_ground a) (fits_later a) (λ e. e))
      (map_later _ (value_of (evaluated F.defs a)) (value_of (evaluated G.defs a)) t (value_later a))

  falls_later : (m : Tm) (c : InductionCase) (q : Sequent) → falls_in F m c q ≡ true → falls_in G m c q ≡ true
  falls_later m c q =
      let h = list_all (same_tm c.test) q.hyps in
      let g = same_tm (smaller m c) q.goal in
      and_later (fits F c.test && pairs_fit F c.subst && h) g (fits G c.test && pairs_fit G c.subst && h) g
      (and_later (fits F c.test && pairs_fit F c.subst) h (fits G c.test && pairs_fit G c.subst) h
      (and_later (fits F c.test) (pairs_fit F c.subst) (fits G c.test) (pairs_fit G c.subst) (fits_later c.test) (pairs_later c.subst)) (λ e. e)) (λ e. e)

  all_fall_later : (m : Tm) (cs : List InductionCase) (qs : List Sequent) → all_fall F m cs qs ≡ true → all_fall G m cs qs ≡ true
  all_fall_later m [] [] e = refl
  all_fall_later m [] (q ∷ qs) e = absurd (cc)
  all_fall_later m (c ∷ cs) [] e = absurd (cc)
  all_fall_later m (c ∷ cs) (q ∷ qs) e = and_later (falls_in F m c q) (all_fall F m cs qs) (falls_in G m c q) (all_fall G m cs qs) (falls_later m c q) (all_fall_later m cs qs) e

  induct_later : (m : Tm) (cs : List InductionCase) (t p b : Sequent) (qs : List Sequent) → induced F m cs p b qs ≡ Some t → induced G m cs p b qs ≡ Some t
  induct_later m cs t p b qs =
      let k = says_natural m p && all_assumed b.goal cs b.hyps in
      if_later (k && all_fall F m cs qs) (k && all_fall G m cs qs) _ _ t (and_later k (all_fall F m cs qs) k (all_fall G m cs qs) (λ e. e) (all_fall_later m cs qs)) (λ e. e)

  -- a line for each rule
  rule_later : (s : Step) (ps : List Sequent) (t : Sequent) → conclude W s ps ≡ Some t → conclude V s ps ≡ Some t
  rule_later (Hyp a) ps t = none_later _ _ ps t (fit_later a _ t)
  rule_later (Refl a) ps t = none_later _ _ ps t (fit_later a _ t)
  rule_later (Replace path) ps t = λ e. e
  rule_later (Unfold a) ps t = none_later _ _ ps t (unfold_later a t)
  rule_later (Eval a) ps t = none_later _ _ ps t (eval_later a t)
  rule_later (Substitute s) ps t = one_later _ _ ps t (λ p. put_later s _ t)
  rule_later (IfTrue b c) ps t = one_later _ _ ps t (λ p. both_later b c _ t)
  rule_later (IfFalse b c) ps t = one_later _ _ ps t (if_false_later b c t)
  rule_later (Cases c) ps t = two_later _ _ ps t (cases_later c t)
  rule_later Cut ps t = λ e. e
  rule_later (Weaken hs us) ps t = one_later _ _ ps t (weaken_later hs us t)
  rule_later (Contradict g) ps t = two_later _ _ ps t (contradict_later g t)
  rule_later (Axiom k s) ps t = none_later _ _ ps t (put_later s _ t)
  rule_later (Ring a b) ps t = none_later _ _ ps t (both_later a b _ t)
  rule_later (ImpliesIn h) ps t = one_later _ _ ps t (λ p. fit_later h _ t)
  rule_later ImpliesOut ps t = λ e. e
  rule_later (Universal u s) ps t = none_later _ _ ps t (universal_later u s t)
  rule_later Discharge ps t = λ e. e
  rule_later (Theorem f) ps t = none_later _ _ ps t (fact_later f t)
  rule_later (Instance f pairs) ps t = none_later _ _ ps t (instance_later pairs f t)
  rule_later (Induct m cases) ps t = more_later _ _ ps t (induct_later m cases t)

  both_with : (o o' : Option Sequent) (l l' : Option (List Sequent)) (ts : List Sequent) → ((t : Sequent) → o ≡ Some t → o' ≡ Some t) → ((us : List Sequent) → l ≡ Some us → l' ≡ Some us) → then_with o (λ s. then_with l (λ ss. Some (s ∷ ss))) ≡ Some ts → then_with o' (λ s. then_with l' (λ ss. Some (s ∷ ss))) ≡ Some ts
  both_with o o' l l' ts f g = then_later o o' _ _ ts f (λ s. then_later l l' _ _ ts g (λ ss e. e))

  mutual
    proof_later : (p : ProofTree) (t : Sequent) → concludes W p ≡ Some t → concludes V p ≡ Some t
    proof_later (By s ps) t e = then_later (all_concluded W ps) (all_concluded V ps) _ _ t (all_later ps) (λ ts. rule_later s ts t) e

    all_later : (ps : Trees) (ts : List Sequent) → all_concluded W ps ≡ Some ts → all_concluded V ps ≡ Some ts
    all_later NoMore ts e = e
    all_later (Also p ps) ts e = both_with (concludes W p) (concludes V p) (all_concluded W ps) (all_concluded V ps) ts (proof_later p) (all_later ps) e

pub proofs_stay : ProofsStay
proofs_stay W V before sound later p t e = proof_later W V before sound later p t e
