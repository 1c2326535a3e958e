-- Translated terms have only variables of the scope, call only known functions, and keep the limits.
use Rattle.std.proofs.Common.{◌≡◌, ℕ, suc, Bool, true, false, ◌||◌, not, cond, bytes_eq, codes, nat_eq, ℤ, Option, Some, None, List, [], ◌∷◌, length, if◌then◌else◌, Ok, Err, refl, ap, sym, ◌∙◌, subst, arith}
use Rattle.std.specs.List.{zip}
use Rattle.std.proofs.lemmas.Bool.{eqb-true}
use Rattle.lisp_data.specs.Values.{Name, Val}
use Rattle.lisp_data.specs.Datum.{Datum, IntForm, SymForm, TextForm, PairForm}
use Rattle.lisp_reader.specs.FormValue.{has_text, value}
use Rattle.terms.specs.Terms.{Tm, Var, Quote, Call, Tms, Done, More, tms, count, Over, OverAll, substitute, substitute_all}
use Rattle.terms.specs.Substitution.{by_pairs, or_var}
use Rattle.terms.specs.Primitives.{lookup}
use Rattle.terms.specs.Worlds.{is_in}
use Rattle.term_forms.specs.Names.{is_constant_name, is_variable_name}
use Rattle.term_forms.specs.Macros.{Macro, macro, conjunction, disjunction, list_of, sum, product, appended, difference, less_by, negated, of_one, of_two, if_of, nil_term}
use Rattle.term_forms.specs.Translation.{Takes, Scope, Outcome, and_then, map_outcome, is_limited, limited, atom, is_small, quoted, is_list, items, call_head, word_head, head, applied, Clause, chosen, bound_name, bound_names, distinct_after, with_names, and_rest, let_of, translate, by_word, terms, clauses, clause, bound_terms, in_turn, body}
use Rattle.term_forms.specs.TranslationLaws.{HasWords, Quotes, QuotesAll, TranslatedTermsFit}

then_ok : {A B : Type 0} (o : Outcome A) (k : A → Outcome B) (y : B) → and_then o k ≡ Ok y → (x : A) × (o ≡ Ok x) × (k x ≡ Ok y)
then_ok (Ok x) k y e = (x, refl, e)
then_ok (Err r) k y e = absurd (cc)

map_ok : {A B : Type 0} (f : A → B) (o : Outcome A) (y : B) → map_outcome f o ≡ Ok y → (x : A) × (o ≡ Ok x) × (f x ≡ y)
map_ok f (Ok x) y e = (x, refl, cc)
map_ok f (Err r) y e = absurd (cc)

ok_is : {A : Type 0} {x y : A} → (let o : Outcome A = Ok x in o ≡ Ok y) → x ≡ y
ok_is e = cc

on_if : {A C : Type 0} (b : Bool) (x y z : A) → (if b then x else y) ≡ z → (b ≡ true → x ≡ z → C) → (b ≡ false → y ≡ z → C) → C
on_if true x y z e k l = k refl e
on_if false x y z e k l = l refl e

-- each variable satisfies P, each call Q and each quoted value R
abbrev mutual
  pub Good : (Name → Type 0) → (Name → ℕ → Type 0) → (Val → Type 0) → Tm → Type 0
  Good P Q R (Var x) = P x
  Good P Q R (Quote v) = R v
  Good P Q R (Call f ts) = Q f (count ts) × GoodAll P Q R ts

  pub GoodAll : (Name → Type 0) → (Name → ℕ → Type 0) → (Val → Type 0) → Tms → Type 0
  GoodAll P Q R Done = Unit {0}
  GoodAll P Q R (More t ts) = Good P Q R t × GoodAll P Q R ts

count-substitute : (s : Name → Tm) (ts : Tms) → count (substitute_all s ts) ≡ count ts
count-substitute s Done = refl
count-substitute s (More t ts) = ap suc (count-substitute s ts)

module _ (P P' : Name → Type 0) (Q : Name → ℕ → Type 0) (R : Val → Type 0) (s : Name → Tm) (images : (x : Name) → P x → Good P' Q R (s x)) where
  mutual
    good_substitute : (t : Tm) → Good P Q R t → Good P' Q R (substitute s t)
    good_substitute (Var x) g = images x g
    good_substitute (Quote v) g = g
    good_substitute (Call f ts) g = (subst (Q f) (sym (count-substitute s ts)) g.0, good_substitute_all ts g.1)

    good_substitute_all : (ts : Tms) → GoodAll P Q R ts → GoodAll P' Q R (substitute_all s ts)
    good_substitute_all Done g = tt
    good_substitute_all (More t ts) g = (good_substitute t g.0, good_substitute_all ts g.1)

module _ (takes : Takes) (words : HasWords takes) where
  abbrev Known : Name → ℕ → Type 0
  Known f k = takes f ≡ Some k

  abbrev Small : Val → Type 0
  Small v = is_small v ≡ true

  abbrev Variable : Scope → Name → Type 0
  Variable scope x = (is_variable_name x ≡ true) × (scope x ≡ true)

  abbrev IsGood : Scope → Tm → Type 0
  IsGood scope = Good (Variable scope) Known Small

  abbrev AreGood : Scope → List Tm → Type 0
  AreGood scope ts = GoodAll (Variable scope) Known Small (tms ts)

  -- words that stand for other terms
  module _ (scope : Scope) where
    good_conjunction : (ts : List Tm) → AreGood scope ts → IsGood scope (conjunction ts)
    good_conjunction [] g = refl
    good_conjunction (a ∷ []) g = g.0
    good_conjunction (a ∷ b ∷ ts) g = (words.has_if, (g.0, (good_conjunction (b ∷ ts) g.1, (refl, tt))))

    good_disjunction : (ts : List Tm) → AreGood scope ts → IsGood scope (disjunction ts)
    good_disjunction [] g = refl
    good_disjunction (a ∷ []) g = g.0
    good_disjunction (a ∷ b ∷ ts) g = (words.has_if, (g.0, (g.0, (good_disjunction (b ∷ ts) g.1, tt))))

    good_list : (ts : List Tm) → AreGood scope ts → IsGood scope (list_of ts)
    good_list [] g = refl
    good_list (a ∷ ts) g = (words.has_cons, (g.0, (good_list ts g.1, tt)))

    good_sum : (ts : List Tm) → AreGood scope ts → IsGood scope (sum ts)
    good_sum [] g = refl
    good_sum (a ∷ []) g = (words.has_plus, (refl, (g.0, tt)))
    good_sum (a ∷ b ∷ []) g = (words.has_plus, (g.0, (g.1.0, tt)))
    good_sum (a ∷ b ∷ c ∷ ts) g = (words.has_plus, (g.0, (good_sum (b ∷ c ∷ ts) g.1, tt)))

    good_product : (ts : List Tm) → AreGood scope ts → IsGood scope (product ts)
    good_product [] g = refl
    good_product (a ∷ []) g = (words.has_times, (refl, (g.0, tt)))
    good_product (a ∷ b ∷ []) g = (words.has_times, (g.0, (g.1.0, tt)))
    good_product (a ∷ b ∷ c ∷ ts) g = (words.has_times, (g.0, (good_product (b ∷ c ∷ ts) g.1, tt)))

    good_appended : (ts : List Tm) → AreGood scope ts → IsGood scope (appended ts)
    good_appended [] g = refl
    good_appended (a ∷ []) g = g.0
    good_appended (a ∷ b ∷ ts) g = (words.has_append, (g.0, (good_appended (b ∷ ts) g.1, tt)))

    good_less_by : (a b : Tm) (k : Option ℤ) → IsGood scope a → IsGood scope b → IsGood scope (less_by a b k)
    good_less_by a b (Some k) g h = (words.has_plus, (refl, (g, tt)))
    good_less_by a b None g h = (words.has_plus, (g, ((words.has_minus, (h, tt)), tt)))

    good_difference : (d : Datum) (ts : List Tm) → AreGood scope ts → IsGood scope (difference d ts)
    good_difference (PairForm a (PairForm b d)) (t ∷ u ∷ ts) g = good_less_by t u (negated b) g.0 g.1.0
    good_difference _ (t ∷ ts) g = (words.has_minus, (g.0, tt))
    good_difference _ [] g = refl

    abbrev Keeps : Option Macro → Type 0
    Keeps None = Unit {0}
    Keeps (Some m) = (d : Datum) (ts : List Tm) → AreGood scope ts → IsGood scope (m.term d ts)

    keeps_if : (b : Bool) (m n : Option Macro) → Keeps m → Keeps n → Keeps (if b then m else n)
    keeps_if true m n k l = k
    keeps_if false m n k l = l

    keeps_one : (f : Tm → Tm) → ((a : Tm) → IsGood scope a → IsGood scope (f a)) → (d : Datum) (ts : List Tm) → AreGood scope ts → IsGood scope (of_one f ts)
    keeps_one f k d (a ∷ ts) g = k a g.0
    keeps_one f k d [] g = refl

    keeps_two : (f : Tm → Tm → Tm) → ((a b : Tm) → IsGood scope a → IsGood scope b → IsGood scope (f a b)) → (d : Datum) (ts : List Tm) → AreGood scope ts → IsGood scope (of_two f ts)
    keeps_two f k d (a ∷ b ∷ ts) g = k a b g.0 g.1.0
    keeps_two f k d (a ∷ []) g = refl
    keeps_two f k d [] g = refl

    good_macro : (f : Name) → Keeps (macro f)
    unfolding macro
    good_macro f =
        keeps_if (bytes_eq f (codes "AND")) _ _ (λ d. good_conjunction)
        (keeps_if (bytes_eq f (codes "OR")) _ _ (λ d. good_disjunction)
        (keeps_if (bytes_eq f (codes "LIST")) _ _ (λ d. good_list)
        (keeps_if (bytes_eq f (codes "+")) _ _ (λ d. good_sum)
        (keeps_if (bytes_eq f (codes "*")) _ _ (λ d. good_product)
        (keeps_if (bytes_eq f (codes "APPEND")) _ _ (λ d. good_appended)
        (keeps_if (bytes_eq f (codes "-")) _ _ good_difference
        (keeps_if (bytes_eq f (codes "1+")) _ _ (keeps_one _ (λ a g. (words.has_plus, (refl, (g, tt)))))
        (keeps_if (bytes_eq f (codes "1-")) _ _ (keeps_one _ (λ a g. (words.has_plus, (refl, (g, tt)))))
        (keeps_if (bytes_eq f (codes ">")) _ _ (keeps_two _ (λ a b g h. (words.has_less, (h, (g, tt)))))
        (keeps_if (bytes_eq f (codes "<=")) _ _ (keeps_two _ (λ a b g h. (words.has_not, ((words.has_less, (h, (g, tt))), tt))))
        (keeps_if (bytes_eq f (codes ">=")) _ _ (keeps_two _ (λ a b g h. (words.has_not, ((words.has_less, (g, (h, tt))), tt))))
        (keeps_if (bytes_eq f (codes "=")) _ _ (keeps_two _ (λ a b g h. (words.has_equal, (g, (h, tt)))))
        (keeps_if (bytes_eq f (codes "EQ")) _ _ (keeps_two _ (λ a b g h. (words.has_equal, (g, (h, tt)))))
        (keeps_if (bytes_eq f (codes "EQL")) _ _ (keeps_two _ (λ a b g h. (words.has_equal, (g, (h, tt)))))
        (keeps_if (bytes_eq f (codes "FIRST")) _ _ (keeps_one _ (λ a g. (words.has_car, (g, tt))))
        (keeps_if (bytes_eq f (codes "REST")) _ _ (keeps_one _ (λ a g. (words.has_cdr, (g, tt))))
        (keeps_if (bytes_eq f (codes "CAAR")) _ _ (keeps_one _ (λ a g. (words.has_car, ((words.has_car, (g, tt)), tt))))
        (keeps_if (bytes_eq f (codes "CADR")) _ _ (keeps_one _ (λ a g. (words.has_car, ((words.has_cdr, (g, tt)), tt))))
        (keeps_if (bytes_eq f (codes "CDAR")) _ _ (keeps_one _ (λ a g. (words.has_cdr, ((words.has_car, (g, tt)), tt))))
        (keeps_if (bytes_eq f (codes "CDDR")) _ _ (keeps_one _ (λ a g. (words.has_cdr, ((words.has_cdr, (g, tt)), tt))))
        tt))))))))))))))))))))

    abbrev GoodClauses : List Clause → Type 0
    GoodClauses [] = Unit {0}
    GoodClauses (c ∷ cs) = (IsGood scope c.test × IsGood scope c.answer) × GoodClauses cs

    good_chosen : (cs : List Clause) → GoodClauses cs → IsGood scope (chosen cs)
    good_chosen [] g = refl
    good_chosen (c ∷ cs) g = on c.is_last (good_chosen cs g.1)
      where
        on : (b : Bool) → IsGood scope (chosen cs) → IsGood scope (if b then c.answer else if_of c.test c.answer (chosen cs))
        on true k = g.0.1
        on false k = (words.has_if, (g.0.0, (g.0.1, (k, tt))))

    -- the variables of bindings, replaced by their terms
    image : (xs : List Name) (ts : List Tm) → length xs ≡ length ts → AreGood scope ts → (x : Name) → Variable (with_names xs scope) x → IsGood scope (or_var x (lookup (zip xs ts) x))
    image [] [] l g x v = v
    image [] (t ∷ ts) l g x v = absurd (omega (arith, l))
    image (y ∷ xs) [] l g x v = absurd (omega (arith, l))
    image (y ∷ xs) (t ∷ ts) l g x v = on (bytes_eq y x) (λ h. image xs ts (omega (arith, l)) g.1 x (v.0, h)) v.1
      where
        on : (b : Bool) → (with_names xs scope x ≡ true → IsGood scope (or_var x (lookup (zip xs ts) x))) → ((b || is_in xs x) || scope x) ≡ true → IsGood scope (or_var x (cond b (Some t) (lookup (zip xs ts) x)))
        on true k h = g.0
        on false k h = k h

    good_atom : (s : Name) (t : Tm) → atom scope s ≡ Ok t → IsGood scope t
    good_atom s t e =
        on_if (is_constant_name s) _ _ _ e (λ c r. subst (IsGood scope) (ok_is r) refl) (λ c e.
        on_if (not (is_variable_name s)) _ _ _ e (λ v r. absurd (cc)) (λ v e.
        on_if (scope s) _ _ _ e (λ h r. subst (IsGood scope) (ok_is r) (is_not (is_variable_name s) v, h)) (λ h r. absurd (cc))))
      where
        is_not : (b : Bool) → not b ≡ false → b ≡ true
        is_not true h = refl
        is_not false h = absurd (cc)

    good_quoted : (a : Datum) (t : Tm) → quoted a ≡ Ok t → IsGood scope t
    good_quoted a t e =
        on_if (has_text a) _ _ _ e (λ h r. absurd (cc)) (λ h e.
        on_if (is_small (value a)) _ _ _ e (λ s r. subst (IsGood scope) (ok_is r) s) (λ s r. absurd (cc)))

  if_no : {A : Type 0} (b : Bool) (x y : A) → b ≡ false → (if b then x else y) ≡ y
  if_no true x y e = absurd (cc)
  if_no false x y e = refl

  rest_ok : {A : Type 0} (first : Outcome A) (rest : Outcome (List A)) (ys : List A) → and_rest first rest ≡ Ok ys → (x : A) × (xs : List A) × (first ≡ Ok x) × (rest ≡ Ok xs) × (x ∷ xs ≡ ys)
  rest_ok first rest ys e =
      let p = then_ok first (λ x. map_outcome (λ xs. x ∷ xs) rest) ys e in
      let q = map_ok (λ xs. p.0 ∷ xs) rest ys p.2 in
      (p.0, q.0, p.1, q.1, q.2)

  -- a head that is neither a binder nor `quote` nor `cond`
  other_head : (f : Name) (d : Datum) (u : Unit {0}) → bytes_eq f (codes "QUOTE") ≡ false → bytes_eq f (codes "LET") ≡ false → bytes_eq f (codes "LET*") ≡ false → bytes_eq f (codes "COND") ≡ false →
      head takes f d ≡ Ok u → word_head takes f (macro f) (items d) ≡ Ok u
  other_head f d u q l s c e =
      on_if (not (is_list d)) _ _ _ e (λ n r. absurd (cc)) (λ n e.
      sym (if_no (bytes_eq f (codes "QUOTE")) _ _ q ∙ if_no (bytes_eq f (codes "LET")) _ _ l ∙ if_no (bytes_eq f (codes "LET*")) _ _ s ∙ if_no (bytes_eq f (codes "COND")) _ _ c) ∙ e)

  call_is : (f : Name) (o : Option ℕ) (n : ℕ) (u : Unit {0}) → call_head f o n ≡ Ok u → o ≡ Some n
  call_is f None n u e = absurd (cc)
  call_is f (Some k) n u e = on_if (nat_eq k n) _ _ _ e (λ h r. ap Some (eqb-true k n h)) (λ h r. absurd (cc))

  good_applied : (scope : Scope) (f : Name) (m : Option Macro) → Keeps scope m → (d : Datum) (ts : List Tm) (n : ℕ) (u : Unit {0}) → count (tms ts) ≡ n → word_head takes f m n ≡ Ok u → AreGood scope ts → IsGood scope (applied f m d ts)
  good_applied scope f (Some m) k d ts n u c e g = k d ts g
  good_applied scope f None k d ts n u c e g = (call_is f (takes f) n u e ∙ ap Some (sym c), g)

  terms-count : (scope : Scope) (d : Datum) (ts : List Tm) → terms takes scope d ≡ Ok ts → count (tms ts) ≡ items d
  terms-count scope (PairForm a d) ts e =
      let p = rest_ok (translate takes scope a) (terms takes scope d) ts e in
      ap (λ us. count (tms us)) (sym p.4) ∙ ap suc (terms-count scope d p.1 p.3)
  terms-count scope _ ts e = ap (λ us. count (tms us)) (sym (ok_is e))

  names-terms : (scope : Scope) (a : Datum) (xs : List Name) (ts : List Tm) → bound_names a ≡ Ok xs → bound_terms takes scope a ≡ Ok ts → length xs ≡ length ts
  names-terms scope (IntForm z) xs ts e f = absurd (cc)
  names-terms scope (TextForm s) xs ts e f = absurd (cc)
  names-terms scope (SymForm s) xs ts e f =
      on_if (bytes_eq s (codes "NIL")) _ _ _ e (λ h r. ap length (sym (ok_is r)) ∙ ap length (ok_is f)) (λ h r. absurd (cc))
  names-terms scope (PairForm (PairForm (SymForm x) (PairForm a (SymForm n))) d) xs ts e f =
      let p = then_ok (bound_name (PairForm (SymForm x) (PairForm a (SymForm n)))) (λ x. map_outcome (λ xs. x ∷ xs) (bound_names d)) xs e in
      let q = map_ok (λ xs. p.0 ∷ xs) (bound_names d) xs p.2 in
      let r = rest_ok (translate takes scope a) (bound_terms takes scope d) ts f in
      ap length (sym q.2) ∙ ap suc (names-terms scope d q.0 r.1 q.1 r.3) ∙ ap length r.4
  names-terms scope (PairForm _ d) xs ts e f = absurd (cc)

  -- a head without parts
  good_alone : (s f : Name) (scope : Scope) (t : Tm) (u : Unit {0}) → head takes f (SymForm s) ≡ Ok u → (if bytes_eq f (codes "COND") then nil_term else applied f (macro f) (SymForm s) []) ≡ t → IsGood scope t
  good_alone s f scope t u h e =
      on_if (bytes_eq f (codes "COND")) _ _ _ e (λ c r. subst (IsGood scope) r refl) (λ c r.
      subst (IsGood scope) r (good_applied scope f (macro f) (good_macro scope f) (SymForm s) [] 0 u refl (word c) tt))
    where
      word : bytes_eq f (codes "COND") ≡ false → word_head takes f (macro f) 0 ≡ Ok u
      word c =
          on_if (not (bytes_eq s (codes "NIL"))) _ _ _ h (λ n r. absurd (cc)) (λ n h.
          on_if (bytes_eq f (codes "QUOTE")) _ _ _ h (λ q r. absurd (cc)) (λ q h.
          on_if (bytes_eq f (codes "LET")) _ _ _ h (λ l r. absurd (cc)) (λ l h.
          on_if (bytes_eq f (codes "LET*")) _ _ _ h (λ l r. absurd (cc)) (λ l h.
          sym (if_no (bytes_eq f (codes "COND")) _ _ c) ∙ h))))

  good_let : (a d : Datum) (scope : Scope) (t : Tm) → ((ts : List Tm) → bound_terms takes scope a ≡ Ok ts → AreGood scope ts) → ((inner : Scope) (u : Tm) → body takes inner d ≡ Ok u → IsGood inner u) →
      let_of scope (bound_names a) (bound_terms takes scope a) (λ inner. body takes inner d) ≡ Ok t → IsGood scope t
  good_let a d scope t bound last e =
      let p = then_ok (bound_names a) _ t e in
      let q = then_ok (distinct_after [] p.0) _ t p.2 in
      let r = then_ok (bound_terms takes scope a) _ t q.2 in
      let m = map_ok (substitute (by_pairs (zip p.0 r.0))) (body takes (with_names p.0 scope) d) t r.2 in
      subst (IsGood scope) m.2
      (good_substitute (Variable (with_names p.0 scope)) (Variable scope) Known Small (by_pairs (zip p.0 r.0))
      (image scope p.0 r.0 (names-terms scope a p.0 r.0 p.1 r.1) (bound r.0 r.1))
      m.0 (last (with_names p.0 scope) m.0 m.1))

  mutual
    good_term : (form : Datum) (scope : Scope) (t : Tm) → translate takes scope form ≡ Ok t → IsGood scope t
    good_term (IntForm z) scope t e = subst (IsGood scope) (ok_is e) refl
    good_term (SymForm s) scope t e = good_atom scope s t e
    good_term (TextForm s) scope t e = absurd (cc)
    good_term (PairForm (IntForm z) d) scope t e = absurd (cc)
    good_term (PairForm (SymForm f) d) scope t e =
        let h = then_ok (head takes f d) (λ _. and_then (by_word takes scope f d) limited) t e in
        let w = then_ok (by_word takes scope f d) limited t h.2 in
        on_if (is_limited w.0) _ _ _ w.2 (λ l r. subst (IsGood scope) (ok_is r) (good_word d f scope w.0 h.0 h.1 w.1)) (λ l r. absurd (cc))
    good_term (PairForm (TextForm s) d) scope t e = absurd (cc)
    good_term (PairForm (PairForm a b) d) scope t e = absurd (cc)

    good_word : (d : Datum) (f : Name) (scope : Scope) (t : Tm) (u : Unit {0}) → head takes f d ≡ Ok u → by_word takes scope f d ≡ Ok t → IsGood scope t
    good_word (PairForm a d) f scope t u h e =
        on_if (bytes_eq f (codes "QUOTE")) _ _ _ e (λ q r. good_quoted scope a t r) (λ q e.
        on_if (bytes_eq f (codes "LET")) _ _ _ e (λ l r. good_let a d scope t (λ ts k. good_bound a scope ts k) (λ inner u k. good_body d inner u k) r) (λ l e.
        on_if (bytes_eq f (codes "LET*")) _ _ _ e (λ s r.
        let p = then_ok (bound_names a) (λ _. in_turn takes scope a (λ inner. body takes inner d)) t r in
        good_in_turn a scope (λ inner. body takes inner d) (λ inner u k. good_body d inner u k) t p.2) (λ s e.
        on_if (bytes_eq f (codes "COND")) _ _ _ e (λ c r.
        let p = map_ok chosen (and_rest (clause takes scope a) (clauses takes scope d)) t r in
        let q = rest_ok (clause takes scope a) (clauses takes scope d) p.0 p.1 in
        subst (IsGood scope) p.2 (good_chosen scope p.0 (subst (GoodClauses scope) q.4 (good_clause a scope q.0 q.2, good_clauses d scope q.1 q.3)))) (λ c e.
        let p = map_ok (applied f (macro f) (PairForm a d)) (and_rest (translate takes scope a) (terms takes scope d)) t e in
        let r = rest_ok (translate takes scope a) (terms takes scope d) p.0 p.1 in
        let n = ap (λ us. count (tms us)) (sym r.4) ∙ ap suc (terms-count scope d r.1 r.3) in
        subst (IsGood scope) p.2
        (good_applied scope f (macro f) (good_macro scope f) (PairForm a d) p.0 (items (PairForm a d)) u n (other_head f (PairForm a d) u q l s c h)
        (subst (AreGood scope) r.4 (good_term a scope r.0 r.2, good_terms d scope r.1 r.3)))))))
    good_word (IntForm z) f scope t u h e = absurd (cc)
    good_word (TextForm s) f scope t u h e = absurd (cc)
    good_word (SymForm s) f scope t u h e = good_alone s f scope t u h (ok_is e)

    good_terms : (d : Datum) (scope : Scope) (ts : List Tm) → terms takes scope d ≡ Ok ts → AreGood scope ts
    good_terms (PairForm a d) scope ts e =
        let q = rest_ok (translate takes scope a) (terms takes scope d) ts e in
        subst (AreGood scope) q.4 (good_term a scope q.0 q.2, good_terms d scope q.1 q.3)
    good_terms _ scope ts e = subst (AreGood scope) (ok_is e) tt

    good_clauses : (d : Datum) (scope : Scope) (cs : List Clause) → clauses takes scope d ≡ Ok cs → GoodClauses scope cs
    good_clauses (PairForm c d) scope cs e =
        let q = rest_ok (clause takes scope c) (clauses takes scope d) cs e in
        subst (GoodClauses scope) q.4 (good_clause c scope q.0 q.2, good_clauses d scope q.1 q.3)
    good_clauses _ scope cs e = subst (GoodClauses scope) (ok_is e) tt

    good_clause : (d : Datum) (scope : Scope) (c : Clause) → clause takes scope d ≡ Ok c → IsGood scope c.test × IsGood scope c.answer
    good_clause (PairForm a (PairForm b (SymForm n))) scope c e =
        on_if (bytes_eq n (codes "NIL")) _ _ _ e (λ h r.
        let p = then_ok (translate takes scope a) _ c r in
        let q = map_ok _ (translate takes scope b) c p.2 in
        subst (λ (c : Clause). IsGood scope c.test × IsGood scope c.answer) q.2 (good_term a scope p.0 p.1, good_term b scope q.0 q.1)) (λ h r. absurd (cc))
    good_clause _ scope c e = absurd (cc)

    good_bound : (a : Datum) (scope : Scope) (ts : List Tm) → bound_terms takes scope a ≡ Ok ts → AreGood scope ts
    good_bound (PairForm (PairForm x (PairForm a e)) d) scope ts h =
        let q = rest_ok (translate takes scope a) (bound_terms takes scope d) ts h in
        subst (AreGood scope) q.4 (good_term a scope q.0 q.2, good_bound d scope q.1 q.3)
    good_bound _ scope ts h = subst (AreGood scope) (ok_is h) tt

    good_in_turn : (a : Datum) (scope : Scope) (last : Scope → Outcome Tm) → ((inner : Scope) (u : Tm) → last inner ≡ Ok u → IsGood inner u) → (t : Tm) → in_turn takes scope a last ≡ Ok t → IsGood scope t
    good_in_turn (PairForm (PairForm (SymForm x) (PairForm a e)) d) scope last k t h =
        let p = then_ok (translate takes scope a) _ t h in
        let m = map_ok (substitute (by_pairs ((x, p.0) ∷ []))) (in_turn takes (with_names (x ∷ []) scope) d last) t p.2 in
        subst (IsGood scope) m.2
        (good_substitute (Variable (with_names (x ∷ []) scope)) (Variable scope) Known Small (by_pairs ((x, p.0) ∷ []))
        (image scope (x ∷ []) (p.0 ∷ []) refl (good_term a scope p.0 p.1, tt))
        m.0 (good_in_turn d (with_names (x ∷ []) scope) last k m.0 m.1))
    good_in_turn _ scope last k t h = k scope t h

    good_body : (d : Datum) (scope : Scope) (t : Tm) → body takes scope d ≡ Ok t → IsGood scope t
    good_body (PairForm b e) scope t h = good_term b scope t h
    good_body _ scope t h = absurd (cc)

  limits_of : (form : Datum) (scope : Scope) (t : Tm) → translate takes scope form ≡ Ok t → is_limited t ≡ true
  limits_of (IntForm z) scope t e = ap is_limited (sym (ok_is e))
  limits_of (SymForm s) scope t e =
      on_if (is_constant_name s) _ _ _ e (λ c r. ap is_limited (sym (ok_is r))) (λ c e.
      on_if (not (is_variable_name s)) _ _ _ e (λ v r. absurd (cc)) (λ v e.
      on_if (scope s) _ _ _ e (λ h r. ap is_limited (sym (ok_is r))) (λ h r. absurd (cc))))
  limits_of (TextForm s) scope t e = absurd (cc)
  limits_of (PairForm (IntForm z) d) scope t e = absurd (cc)
  limits_of (PairForm (SymForm f) d) scope t e =
      let h = then_ok (head takes f d) (λ _. and_then (by_word takes scope f d) limited) t e in
      let w = then_ok (by_word takes scope f d) limited t h.2 in
      on_if (is_limited w.0) _ _ _ w.2 (λ l r. ap is_limited (sym (ok_is r)) ∙ l) (λ l r. absurd (cc))
  limits_of (PairForm (TextForm s) d) scope t e = absurd (cc)
  limits_of (PairForm (PairForm a b) d) scope t e = absurd (cc)

mutual
  good_over : (P P' : Name → Type 0) (Q Q' : Name → ℕ → Type 0) (R : Val → Type 0) → ((x : Name) → P x → P' x) → ((f : Name) (k : ℕ) → Q f k → Q' f k) → (t : Tm) → Good P Q R t → Over P' Q' t
  good_over P P' Q Q' R k l (Var x) g = k x g
  good_over P P' Q Q' R k l (Quote v) g = tt
  good_over P P' Q Q' R k l (Call f ts) g = (l f (count ts) g.0, good_over_all P P' Q Q' R k l ts g.1)

  good_over_all : (P P' : Name → Type 0) (Q Q' : Name → ℕ → Type 0) (R : Val → Type 0) → ((x : Name) → P x → P' x) → ((f : Name) (k : ℕ) → Q f k → Q' f k) → (ts : Tms) → GoodAll P Q R ts → OverAll P' Q' ts
  good_over_all P P' Q Q' R k l Done g = tt
  good_over_all P P' Q Q' R k l (More t ts) g = (good_over P P' Q Q' R k l t g.0, good_over_all P P' Q Q' R k l ts g.1)

mutual
  good_quotes : (P : Name → Type 0) (Q : Name → ℕ → Type 0) (R : Val → Type 0) (t : Tm) → Good P Q R t → Quotes R t
  good_quotes P Q R (Var x) g = tt
  good_quotes P Q R (Quote v) g = g
  good_quotes P Q R (Call f ts) g = good_quotes_all P Q R ts g.1

  good_quotes_all : (P : Name → Type 0) (Q : Name → ℕ → Type 0) (R : Val → Type 0) (ts : Tms) → GoodAll P Q R ts → QuotesAll R ts
  good_quotes_all P Q R Done g = tt
  good_quotes_all P Q R (More t ts) g = (good_quotes P Q R t g.0, good_quotes_all P Q R ts g.1)

pub translated_terms_fit : TranslatedTermsFit
translated_terms_fit takes words scope form t e =
    let g = good_term takes words form scope t e in
    record {
      fits = good_over _ _ _ _ _ (λ x v. v.1) (λ f k q. q) t g;
      variables = good_over _ _ _ _ _ (λ x v. v.0) (λ f k q. tt) t g;
      values = good_quotes _ _ _ t g;
      limits = limits_of takes words form scope t e;
    }
