-- Hints that are read fit.
use Rattle.std.proofs.Common.{◌≡◌, ℕ, ℤ, Bool, true, false, cond, not, ◌&&◌, ◌||◌, ◌==◌, eqb-true, is_some, if◌then◌else◌, List, [], ◌∷◌, ◌++◌, map, length, bytes_eq, codes, Option, Some, None, Ok, Err, refl, sym, ap, ◌∙◌, subst}
use Rattle.std.specs.Option.{option_map}
use Rattle.std.proofs.lemmas.Bool.{and_parts}
use Rattle.lisp_data.specs.Values.{Name}
use Rattle.lisp_data.specs.Datum.{Datum, IntForm, SymForm, TextForm, PairForm}
use Rattle.lisp_data.specs.declared.code.Code.{Code}
use Rattle.lisp_data.specs.declared.detail.Detail.{Detail}
use Rattle.terms.specs.BuiltIn.{not_def, binary_append_def}
use Rattle.terms.specs.Definitions.{find}
use Rattle.terms.specs.Evaluation.{then_with}
use Rattle.terms.specs.Primitives.{primitive, primitives, lookup}
use Rattle.terms.specs.Sound.{Sound}
use Rattle.terms.specs.Substitution.{Pairs, by_pairs}
use Rattle.terms.specs.Terms.{Tm, substitute}
use Rattle.terms.specs.Worlds.{World, Functions, arity, is_in, IsIn, Distinct, Fits, Each}
use Rattle.terms.specs.Formed.{FitsOver}
use Rattle.terms.specs.declared.definition.Definition.{Definition}
use Rattle.terms.specs.declared.entries.FunPair.{FunPair}
use Rattle.terms.specs.declared.entries.Specification.{Specification}
use Rattle.terms.specs.Instances.{instance_map, sequent_terms, renamed_sequent}
use Rattle.terms.specs.Maps.{NamePairs}
use Rattle.terms.specs.declared.sequent.Sequent.{Sequent}
use Rattle.terms.proofs.Below.{Any}
use Rattle.terms.proofs.Extend.{over_map}
use Rattle.terms.proofs.Later.{has_basics, has_append}
use Rattle.terms.proofs.Lists.{each_join}
use Rattle.terms.proofs.Meaning.{arity_defined}
use Rattle.terms.proofs.Names.{same_name, name_self}
use Rattle.term_forms.specs.Names.{is_variable_name}
use Rattle.term_forms.specs.Translation.{Outcome, and_then, map_outcome}
use Rattle.term_forms.specs.TranslationLaws.{HasWords}
use Rattle.term_forms.proofs.TranslatedTerms.{translated_terms_fit}
use Rattle.worlds.specs.Lookups.{find_spec}
use Rattle.proof_texts.specs.Items.{items_of, is_word}
use Rattle.kernel.specs.Axioms.{axiom_at, axiom_instance}
use Rattle.kernel.specs.Concludes.{concludes}
use Rattle.kernel.specs.Facts.{unless_refused, under_pairs}
use Rattle.kernel.specs.Fitting.{pairs_fit}
use Rattle.kernel.specs.Sequents.{of_goal}
use Rattle.kernel.proofs.Inversions.{map_some, if_some, then_some}
use Rattle.reduction.specs.declared.found.Source.{Source}
use Rattle.reduction.specs.declared.found.Source.TheVariants.{Axiom as AxiomSource, Theorem as TheoremSource}
use Rattle.reduction.specs.declared.rules.Rule.{Rule}
use Rattle.reduction.specs.Finding.{only}
use Rattle.reduction.specs.Hyps.{has}
use Rattle.hints.specs.declared.hint.Fact.{Fact}
use Rattle.hints.specs.declared.hint.Fact.TheVariants.{Axiom, Theorem, Instance, Assumed}
use Rattle.hints.specs.declared.hint.Hints.{Hints}
use Rattle.hints.specs.declared.hint.Scheme.{Scheme}
use Rattle.hints.specs.declared.hint.Use.{Use}
use Rattle.hints.specs.Facts.{says, all_in, listed, rule_from, rules_from, rule_axioms, theorem_names, built_in, rule_by}
use Rattle.hints.specs.Formulas.{remains, needs, reading, covers, rule_of}
use Rattle.hints.specs.Refused.{or_bad}
use Rattle.hints.specs.Steps.{through, any, term_of, name_of, defined_by, defined, with_opened, with_case, with_expanded, with_made, with_theorem, with_rule, with_variable, is_recursive, scheme_on, scheme_by, scheme_of, cited, number_in, numbered, by_number, assumed, by_name, with_function, instance_with, instance_by, instance_of, instance_from, cited_in, new_variable, pair_by, with_pair, pairs_of, use_under, use_by, with_scheme, with_use, with_cases, with_names, with_calls, with_rules, with_word, with_items, with_step, no_hints, hints_from}
use Rattle.reduction_proofs.specs.Laws.{HintsFit}
use Rattle.reduction_proofs.specs.Proving.{IsRule, IsFact, IsUse, IsOver, IsScheme, FitsHints}
use Rattle.reduction_proofs.specs.Trees as tree
use Rattle.reduction_proofs.proofs.Sure.{Sure, some_is, sure_then, sure_when}

-- ---- what is true of all that is read, by the form in which it is
record Gives {A : Type 0} (P : A → Type 0) (o : Outcome A) : Type 0 where
  so : (x : A) → o ≡ Ok x → P x

abbrev ok_of : {A : Type 0} → A → Outcome A
ok_of x = Ok x

ok_is : {A : Type 0} {x y : A} → ok_of x ≡ ok_of y → x ≡ y
ok_is e = cc

gives_ok : {A : Type 0} (P : A → Type 0) (x : A) → P x → Gives P (Ok x)
gives_ok P x p = record { so = λ y e. subst P (ok_is e) p }

gives_err : {A : Type 0} (P : A → Type 0) (e : Code × Detail) → Gives P (Err e)
gives_err P e = record { so = λ y q. absurd (cc) }

gives_then : {A B : Type 0} (P : B → Type 0) (o : Outcome A) (f : A → Outcome B) → ((x : A) → o ≡ Ok x → Gives P (f x)) → Gives P (and_then o f)
gives_then P (Ok x) f h = h x refl
gives_then P (Err e) f h = gives_err P e

gives_map : {A B : Type 0} (P : B → Type 0) (o : Outcome A) (f : A → B) → ((x : A) → o ≡ Ok x → P (f x)) → Gives P (map_outcome f o)
gives_map P (Ok x) f h = gives_ok P (f x) (h x refl)
gives_map P (Err e) f h = gives_err P e

gives_if : {A : Type 0} (P : A → Type 0) (b : Bool) (x y : Outcome A) → (b ≡ true → Gives P x) → (b ≡ false → Gives P y) → Gives P (if b then x else y)
gives_if P true x y f g = f refl
gives_if P false x y f g = g refl

gives_or_bad : {A : Type 0} (P : A → Type 0) (o : Option A) → Sure P o → Gives P (or_bad o)
gives_or_bad P None s = gives_err P _
gives_or_bad P (Some x) s = gives_ok P x (s.so x refl)

gives_through : {S A : Type 0} (P : S → Type 0) (f : S → A → Outcome S) → ((s : S) (x : A) → P s → Gives P (f s x)) → (s : S) (xs : List A) → P s → Gives P (through f s xs)
gives_through P f h s [] p = gives_ok P s p
gives_through P f h s (x ∷ xs) p = gives_then P (f s x) (λ t. through f t xs) (λ t e. gives_through P f h t xs ((h s x p).so t e))

-- ---- lists of names
out_list : (ys : List Name) (x : Name) → is_in ys x ≡ false → IsIn ys x → ⊥
out_list [] x e i = i
out_list (y ∷ ys) x e i = by_test (bytes_eq y x) e i (out_list ys x)
  where
    by_test : (b : Bool) → (b || is_in ys x) ≡ false → cond b (Unit {0}) (IsIn ys x) → (is_in ys x ≡ false → IsIn ys x → ⊥) → ⊥
    by_test true e' i' ih = cc
    by_test false e' i' ih = ih e' i'

-- a name of a list with one more at its end
in_end : (xs : List Name) (x y : Name) → (IsIn xs y → ⊥) → IsIn (xs ++ x ∷ []) y → x ≡ y
in_end [] x y h i = by_test (bytes_eq x y) refl i
  where
    by_test : (b : Bool) → bytes_eq x y ≡ b → cond b (Unit {0}) ⊥ → x ≡ y
    by_test true q j = same_name x y q
    by_test false q j = absurd j
in_end (z ∷ xs) x y h i = by_test (bytes_eq z y) h i (in_end xs x y)
  where
    by_test : (b : Bool) → (cond b (Unit {0}) (IsIn xs y) → ⊥) → cond b (Unit {0}) (IsIn (xs ++ x ∷ []) y) → ((IsIn xs y → ⊥) → IsIn (xs ++ x ∷ []) y → x ≡ y) → x ≡ y
    by_test true g j ih = absurd (g tt)
    by_test false g j ih = ih g j

in_first : (z : Name) (xs : List Name) → IsIn (z ∷ xs) z
in_first z xs = subst (λ b. cond b (Unit {0}) (IsIn xs z)) (sym (name_self z)) tt

in_more : (z : Name) (xs : List Name) (x : Name) → IsIn xs x → IsIn (z ∷ xs) x
in_more z xs x i = by_test (bytes_eq z x)
  where
    by_test : (b : Bool) → cond b (Unit {0}) (IsIn xs x)
    by_test true = tt
    by_test false = i

distinct_end : (xs : List Name) (x : Name) → Distinct xs → (IsIn xs x → ⊥) → Distinct (xs ++ x ∷ [])
distinct_end [] x d h = (λ i. i, tt)
distinct_end (z ∷ xs) x d h = (λ i. h (subst (IsIn (z ∷ xs)) (sym (in_end xs x z d.0 i)) (in_first z xs)), distinct_end xs x d.1 (λ i. h (in_more z xs x i)))

not_false : (b : Bool) → not b ≡ true → b ≡ false
not_false true e = absurd (cc)
not_false false e = refl

-- ---- rules
source_is : (k : Source) (t : Tm) → Sure (λ (r : Rule). r.source ≡ k) (rule_of k t)
unfolding rule_of
source_is k t = sure_then (λ (r : Rule). r.source ≡ k) (reading (remains t)) _ (λ e q. sure_when (λ (r : Rule). r.source ≡ k) (covers e.0 t) (record { source = k; needs = needs t; left = e.0; right = e.1 }) (λ c. refl))

find_spec_each : (P : Specification → Type 0) (ss : List Specification) (n : Name) (s : Specification) → Each P ss → find_spec ss n ≡ Some s → P s
find_spec_each P [] n s h e = absurd (cc)
find_spec_each P (z ∷ ss) n s h e = by_test (bytes_eq z.name n) e (find_spec_each P ss n s h.1)
  where
    by_test : (b : Bool) → cond b (Some z) (find_spec ss n) ≡ Some s → (find_spec ss n ≡ Some s → P s) → P s
    by_test true q ih = subst P (some_is q) h.0
    by_test false q ih = ih q

-- an axiom has no universals
axiom_plain : (W : Functions) (k : ℕ) (s : Pairs) (c : Sequent) → axiom_instance W k s ≡ Some c → c.universals ≡ []
axiom_plain W k s c e =
    let a = if_some (pairs_fit W s) _ c e in
    let b = map_some (λ t. of_goal (substitute (by_pairs s) t)) (axiom_at k) c a.1 in
    ap (λ (q : Sequent). q.universals) (sym b.2)

-- the functions that words of the syntax stand for are functions of the world
words : (W : World) → Sound W → HasWords (arity W.functions)
unfolding primitive primitives
words W sound = record {
  has_if = refl;
  has_equal = refl;
  has_not = arity_defined W.functions sound.formed (codes "NOT") not_def (has_basics W sound).has_not;
  has_less = refl;
  has_plus = refl;
  has_times = refl;
  has_minus = refl;
  has_cons = refl;
  has_car = refl;
  has_cdr = refl;
  has_append = arity_defined W.functions sound.formed (codes "BINARY-APPEND") binary_append_def (has_append W sound);
}

module _ (W : World) (sound : Sound W) (us : List Tm) where
  term_fits : (d : Datum) → Gives (Fits W.functions) (term_of W d)
  term_fits d = record {
    so = λ t e. over_map (λ x. any x ≡ true) Any (λ f k. arity W.functions f ≡ Some k) (λ f k. arity W.functions f ≡ Some k) (λ x p. tt) (λ f k p. p) t
        (translated_terms_fit (arity W.functions) (words W sound) any d t e).fits;
  }

  -- ---- rules
  made_is : (k : Source) (r : Rule) → rule_from W us k ≡ Some r → IsRule W us r
  made_is k r e =
      let c = then_some (says W k) (rule_by us k) r e in
      let o = only_is (all_in us c.0.universals) (rule_of k c.0.goal) c.2 in
      ap (rule_from W us) ((source_is k c.0.goal).so r o) ∙ e
    where
      only_is : (b : Bool) (o : Option Rule) → only b o ≡ Some r → o ≡ Some r
      only_is true o q = q
      only_is false o q = absurd (cc)

  made_rules : (ks : List Source) → Each (IsRule W us) (rules_from W us ks)
  made_rules [] = tt
  made_rules (k ∷ ks) = each_join (IsRule W us) (listed (rule_from W us k)) (rules_from W us ks) (one (rule_from W us k) refl) (made_rules ks)
    where
      one : (o : Option Rule) → rule_from W us k ≡ o → Each (IsRule W us) (listed o)
      one None e = tt
      one (Some r) e = (made_is k r e, tt)

  built_in_rules : Each (IsRule W us) (built_in W us)
  built_in_rules = each_join (IsRule W us) (rules_from W us rule_axioms) (rules_from W us (map TheoremSource theorem_names)) (made_rules rule_axioms) (made_rules (map TheoremSource theorem_names))

  made_fits : (rules : List Rule) (n : Name) (s : Sequent) → lookup W.theorems n ≡ Some s → Each (IsRule W us) rules → (o : Option Rule) → rule_of (TheoremSource n) s.goal ≡ o → Gives (Each (IsRule W us)) (with_made us rules s o)
  made_fits rules n s found h None e = gives_err (Each (IsRule W us)) _
  made_fits rules n s found h (Some r) e = gives_ok (Each (IsRule W us)) _ (by_test (all_in us s.universals) refl)
    where
      by_test : (b : Bool) → all_in us s.universals ≡ b → Each (IsRule W us) (if b then (rules ++ r ∷ []) else rules)
      by_test true q = each_join (IsRule W us) rules (r ∷ []) h (made_is (TheoremSource n) r (ap (λ o. then_with o (rule_by us (TheoremSource n))) found ∙ ap (λ b. only b (rule_of (TheoremSource n) s.goal)) q ∙ e), tt)
      by_test false q = h

  theorem_fits : (rules : List Rule) (n : Name) → Each (IsRule W us) rules → (o : Option Sequent) → lookup W.theorems n ≡ o → Gives (Each (IsRule W us)) (with_theorem us rules n o)
  theorem_fits rules n h None e = gives_err (Each (IsRule W us)) _
  theorem_fits rules n h (Some s) e = made_fits rules n s e h (rule_of (TheoremSource n) s.goal) refl

  rule_fits : (rules : List Rule) (d : Datum) → Each (IsRule W us) rules → Gives (Each (IsRule W us)) (with_rule W us rules d)
  rule_fits rules d h = gives_then (Each (IsRule W us)) (name_of d) _ (λ n e. theorem_fits rules n h (lookup W.theorems n) refl)

  -- ---- cases
  case_fits : (ts : List Tm) (d : Datum) → Each (Fits W.functions) ts → Gives (Each (Fits W.functions)) (with_case W ts d)
  case_fits ts d h = gives_map (Each (Fits W.functions)) (term_of W d) (λ t. ts ++ t ∷ []) (λ t e. each_join (Fits W.functions) ts (t ∷ []) h ((term_fits d).so t e, tt))

  -- ---- an induction
  variable_fits : (xs : List Name) (d : Datum) → Distinct xs → Gives Distinct (with_variable xs d)
  variable_fits xs d h = gives_then Distinct (name_of d) _ (λ x e. gives_if Distinct (is_variable_name x && not (is_in xs x)) (Ok (xs ++ x ∷ [])) _
      (λ q. gives_ok Distinct (xs ++ x ∷ []) (distinct_end xs x h (out_list xs x (not_false (is_in xs x) (and_parts (is_variable_name x) (not (is_in xs x)) q).1))))
      (λ q. gives_err Distinct _))

  abbrev Schemes : Scheme → Type 0
  Schemes i = IsScheme W (Some i)

  defined_is : (f : Name) (k : Option ℕ) (o : Option Definition) → Gives (λ d. o ≡ Some d) (defined_by f k o)
  defined_is f k (Some d) = gives_ok (λ c. Some d ≡ Some c) d refl
  defined_is f (Some k) None = gives_err (λ c. None ≡ Some c) _
  defined_is f None None = gives_err (λ c. None ≡ Some c) _

  scheme_over : (f : Name) (xs : List Name) (d : Definition) → Distinct xs → find W.functions.defs f ≡ Some d → Gives Schemes (scheme_on f xs d)
  scheme_over f xs d h found = gives_if Schemes (is_recursive d) _ _
      (λ r. gives_if Schemes (length xs == length d.formals) _ _
      (λ q. gives_ok Schemes (record { function = f; over = xs }) (h, λ c e. subst (IsOver xs) (some_is (sym found ∙ e)) (record { recursive = r; lengths = eqb-true (length xs) (length d.formals) q })))
      (λ q. gives_err Schemes _))
      (λ r. gives_err Schemes _)

  scheme_fits_by : (o : Option (List Datum)) → Gives Schemes (scheme_by W o)
  scheme_fits_by None = gives_err Schemes _
  scheme_fits_by (Some []) = gives_err Schemes _
  scheme_fits_by (Some (n ∷ xs)) =
      gives_then Schemes (name_of n) _ (λ f e. gives_then Schemes (through with_variable [] xs) _ (λ ys g. gives_then Schemes (defined W f) (scheme_on f ys) (λ d q.
      scheme_over f ys d ((gives_through Distinct with_variable variable_fits [] xs tt).so ys g) ((defined_is f (arity W.functions f) (find W.functions.defs f)).so d q))))

  -- ---- facts
  abbrev Paired : Pairs → Type 0
  Paired s = Each (λ e. Fits W.functions e.1) s

  -- under well-formed terms, the fact is one that may be used
  abbrev Served : {C : Type 0} → (C → Pairs → Use) → C → Type 0
  Served under c = (s : Pairs) → Paired s → IsUse W us (under c s)

  serves : (f : Fact) (t : Tm) → IsFact W us f t → Served use_under (cited f t)
  serves f t is s h = record { formula = t; fact = is; pairs = h; hyp = refl }

  axiom_serves : (k : ℕ) (o : Option Sequent) → says W (AxiomSource k) ≡ o → Sure (Served use_under) (option_map (λ s. cited (Axiom k) s.goal) o)
  axiom_serves k None e = record { so = λ c q. absurd (cc) }
  axiom_serves k (Some s) e = record {
    so = λ c q. subst (Served use_under) (some_is q) (serves (Axiom k) s.goal (record {
      sequent = s;
      told = e;
      universals_in = ap (all_in us) (axiom_plain W.functions k [] s e);
      goal = refl;
    }));
  }

  numbered_serves : (z : ℤ) → Gives (Served use_under) (by_number W z)
  numbered_serves z = gives_or_bad (Served use_under) (then_with (number_in z) (numbered W)) (sure_then (Served use_under) (number_in z) (numbered W) (λ k e. axiom_serves k (says W (AxiomSource k)) refl))

  assumed_serves : (n : Name) (o : Option Specification) → find_spec W.specifications n ≡ o → Gives (Served use_under) (assumed us n o)
  assumed_serves n None e = gives_err (Served use_under) _
  assumed_serves n (Some s) e = gives_if (Served use_under) (has us s.matrix) (Ok (cited (Assumed s.matrix) s.matrix)) _
      (λ q. gives_ok (Served use_under) (cited (Assumed s.matrix) s.matrix) (serves (Assumed s.matrix) s.matrix (
        refl,
        q,
        over_map (IsIn s.variables) Any (λ f k. arity W.functions f ≡ Some k) (λ f k. arity W.functions f ≡ Some k) (λ x p. tt) (λ f k p. p) s.matrix
            (find_spec_each (λ z. FitsOver W.functions z.variables z.matrix) W.specifications n s sound.specifications e),
      )))
      (λ q. gives_err (Served use_under) _)

  named_serves : (n : Name) (o : Option Sequent) → lookup W.theorems n ≡ o → Gives (Served use_under) (by_name W us n o)
  named_serves n None e = assumed_serves n (find_spec W.specifications n) refl
  named_serves n (Some s) e = gives_if (Served use_under) (all_in us s.universals) (Ok (cited (Theorem n) s.goal)) _
      (λ q. gives_ok (Served use_under) (cited (Theorem n) s.goal) (serves (Theorem n) s.goal (record { sequent = s; told = e; universals_in = q; goal = refl })))
      (λ q. gives_err (Served use_under) _)

  -- what the map of a theorem's pairs makes of it is what its instance concludes
  instance_told : (n : Name) (ps : List FunPair) (s : Sequent) (m : NamePairs) → lookup W.theorems n ≡ Some s → instance_map W (sequent_terms s) ps ≡ Ok m →
      concludes W (tree.Instance n ps) ≡ Some (renamed_sequent m s)
  instance_told n ps s m e q =
      ap (λ o. then_with o (under_pairs W ps)) e ∙ ap (λ o. option_map (λ (k : NamePairs). renamed_sequent k s) (unless_refused o)) q

  instance_serves : (n : Name) (ps : List FunPair) (s : Sequent) → lookup W.theorems n ≡ Some s → Gives (Served use_under) (instance_by W us n ps s)
  instance_serves n ps s e = gives_then (Served use_under) (instance_map W (sequent_terms s) ps) (λ m. instance_with us n ps (renamed_sequent m s)) (λ m q.
      let c : Sequent = renamed_sequent m s in
      gives_if (Served use_under) (all_in us c.universals) (Ok (cited (Instance n ps) c.goal)) _
      (λ h. gives_ok (Served use_under) (cited (Instance n ps) c.goal)
      (serves (Instance n ps) c.goal (record { sequent = c; told = instance_told n ps s m e q; universals_in = h; goal = refl })))
      (λ h. gives_err (Served use_under) _))

  instance_serves_of : (n : Name) (ds : List Datum) (o : Option Sequent) → lookup W.theorems n ≡ o → Gives (Served use_under) (instance_of W us n ds o)
  instance_serves_of n ds None e = gives_err (Served use_under) _
  instance_serves_of n ds (Some s) e = gives_then (Served use_under) (through with_function [] ds) _ (λ ps q. instance_serves n ps s e)

  instance_serves_from : (o : Option (List Datum)) → Gives (Served use_under) (instance_from W us o)
  instance_serves_from None = gives_err (Served use_under) _
  instance_serves_from (Some []) = gives_err (Served use_under) _
  instance_serves_from (Some (n ∷ ds)) = gives_then (Served use_under) (name_of n) _ (λ k e. instance_serves_of k ds (lookup W.theorems k) refl)

  cited_serves : (d : Datum) → Gives (Served use_under) (cited_in W us d)
  cited_serves (IntForm z) = numbered_serves z
  cited_serves (SymForm n) = named_serves n (lookup W.theorems n) refl
  cited_serves (TextForm s) = gives_err (Served use_under) _
  cited_serves (PairForm a d) = instance_serves_from (items_of (PairForm a d))

  pair_fits_by : (s : Pairs) → Paired s → (o : Option (List Datum)) → Gives Paired (pair_by W s o)
  pair_fits_by s h None = gives_err Paired _
  pair_fits_by s h (Some []) = gives_err Paired _
  pair_fits_by s h (Some (n ∷ [])) = gives_err Paired _
  pair_fits_by s h (Some (n ∷ a ∷ [])) =
      gives_then Paired (new_variable s n) _ (λ x e. gives_map Paired (term_of W a) (λ t. s ++ (x, t) ∷ []) (λ t q. each_join (λ p. Fits W.functions p.1) s ((x, t) ∷ []) h ((term_fits a).so t q, tt)))
  pair_fits_by s h (Some (n ∷ a ∷ b ∷ ds)) = gives_err Paired _

  pairs_fit_of : (d : Datum) → Gives Paired (pairs_of W d)
  pairs_fit_of d = gives_then Paired (or_bad (items_of d)) _ (λ ds e. gives_through Paired (with_pair W) (λ s x h. pair_fits_by s h (items_of x)) [] ds tt)

  use_fits : (ds : List Datum) → Gives (IsUse W us) (use_by W us ds)
  use_fits [] = gives_err (IsUse W us) _
  use_fits (n ∷ []) = gives_err (IsUse W us) _
  use_fits (n ∷ s ∷ []) = gives_then (IsUse W us) (cited_in W us n) _ (λ c e. gives_map (IsUse W us) (pairs_of W s) (use_under c) (λ z q. (cited_serves n).so c e z ((pairs_fit_of s).so z q)))
  use_fits (n ∷ s ∷ d ∷ ds) = gives_err (IsUse W us) _

  -- ---- the steps
  abbrev Fitting : Hints → Type 0
  Fitting h = FitsHints W us h

  scheme_step : (h : Hints) → Fitting h → (ds : List Datum) → Gives Fitting (with_scheme W h ds)
  scheme_step h f [] = gives_err Fitting _
  scheme_step h f (d ∷ []) = gives_if Fitting (is_some h.induct) _ _ (λ q. gives_err Fitting _)
      (λ q. gives_map Fitting (scheme_of W d) _ (λ i e. record { induct = (scheme_fits_by (items_of d)).so i e; uses = f.uses; rules = f.rules; cases = f.cases }))
  scheme_step h f (d ∷ c ∷ ds) = gives_err Fitting _

  use_step : (h : Hints) → Fitting h → (ds : List Datum) → Gives Fitting (with_use W us h ds)
  use_step h f ds = gives_map Fitting (use_by W us ds) _ (λ u e. record {
    induct = f.induct;
    uses = each_join (IsUse W us) h.uses (u ∷ []) f.uses ((use_fits ds).so u e, tt);
    rules = f.rules;
    cases = f.cases;
  })

  cases_step : (h : Hints) → Fitting h → (ds : List Datum) → Gives Fitting (with_cases W h ds)
  cases_step h f ds = gives_map Fitting (through (with_case W) h.how.cases ds) _ (λ ts e. record {
    induct = f.induct;
    uses = f.uses;
    rules = f.rules;
    cases = (gives_through (Each (Fits W.functions)) (with_case W) case_fits h.how.cases ds f.cases).so ts e;
  })

  names_step : (h : Hints) → Fitting h → (ds : List Datum) → Gives Fitting (with_names W h ds)
  names_step h f ds = gives_map Fitting (through (with_opened W) h.how.opened ds) _ (λ xs e. record { induct = f.induct; uses = f.uses; rules = f.rules; cases = f.cases })

  calls_step : (h : Hints) → Fitting h → (ds : List Datum) → Gives Fitting (with_calls W h ds)
  calls_step h f ds = gives_map Fitting (through (with_expanded W) h.how.expanded ds) _ (λ ts e. record { induct = f.induct; uses = f.uses; rules = f.rules; cases = f.cases })

  rules_step : (h : Hints) → Fitting h → (ds : List Datum) → Gives Fitting (with_rules W us h ds)
  rules_step h f ds = gives_map Fitting (through (with_rule W us) h.how.rules ds) _ (λ rs e. record {
    induct = f.induct;
    uses = f.uses;
    rules = (gives_through (Each (IsRule W us)) (with_rule W us) rule_fits h.how.rules ds f.rules).so rs e;
    cases = f.cases;
  })

  word_step : (h : Hints) → Fitting h → (w : Datum) (ds : List Datum) → Gives Fitting (with_word W us h w ds)
  word_step h f w ds =
      gives_if Fitting (is_word (codes ":INDUCT") w) _ _ (λ q. scheme_step h f ds)
      (λ q. gives_if Fitting (is_word (codes ":USE") w) _ _ (λ q. use_step h f ds)
      (λ q. gives_if Fitting (is_word (codes ":CASES") w) _ _ (λ q. cases_step h f ds)
      (λ q. gives_if Fitting (is_word (codes ":UNFOLD") w) _ _ (λ q. names_step h f ds)
      (λ q. gives_if Fitting (is_word (codes ":EXPAND") w) _ _ (λ q. calls_step h f ds)
      (λ q. gives_if Fitting (is_word (codes ":REWRITE") w) _ _ (λ q. rules_step h f ds) (λ q. gives_err Fitting _))))))

  items_step : (h : Hints) → Fitting h → (o : Option (List Datum)) → Gives Fitting (with_items W us h o)
  items_step h f None = gives_err Fitting _
  items_step h f (Some []) = gives_err Fitting _
  items_step h f (Some (w ∷ ds)) = word_step h f w ds

  hints_gives : (ds : List Datum) → Gives Fitting (hints_from W us ds)
  hints_gives ds = gives_through Fitting (with_step W us) (λ h x f. items_step h f (items_of x)) (no_hints W us) ds
      (record { induct = tt; uses = tt; rules = built_in_rules; cases = tt })

pub hints_fit : HintsFit
hints_fit W sound us ds h e = (hints_gives W sound us ds).so h e
