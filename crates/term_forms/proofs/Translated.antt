-- Terms of forms, by their items.
use Rattle.std.proofs.Common.{◌≡◌, ◌≤◌, ◌<◌, ◌-◌, ℕ, zero, suc, Bool, true, false, not, nat_eq, bytes_eq, codes, ℤ, List, [], ◌∷◌, length, get_or, map, drop, take, Option, Some, None, Result, Ok, Err, if◌then◌else◌, refl, ap, sym, subst, ◌∙◌, arith, Global}
use Rattle.std.specs.declared.rc.Rc.{Rc}
use Rattle.std.proofs.lemmas.Bool.{eqb-true}
use Rattle.std.proofs.Math.Seq.{take-length}
use Rattle.lisp_data.specs.Values.{Name}
use Rattle.lisp_data.specs.Datum.{Datum, IntForm, SymForm, TextForm, PairForm, nil_form, chain, depth, deepest}
use Rattle.lisp_data.specs.FormView.{form_of, items_of as held_by, IsProper, IsEnd, AllProper, end_of}
use Rattle.lisp_data.specs.declared.form.Forms.{Forms}
use Rattle.lisp_data.specs.declared.form.Form.{Form, Int, Sym, Text, List as Listed, List'}
use Rattle.lisp_data.proofs.Chains.{form_of-list, form_of-dotted, form_of-int, form_of-sym, form_of-text}
use Rattle.lisp_data.proofs.Proper.{proper-list, proper-at, form_of-listed}
use Rattle.term_forms.specs.declared.translation.TermError.{TermError}
use Rattle.term_forms.specs.declared.translation.TermError.TheVariants.{Refused, Memory}
use Rattle.term_forms.specs.declared.translation.Word.{Word}
use Rattle.term_forms.specs.declared.translation.Word.TheVariants as word
use Rattle.term_forms.specs.declared.macros.Macro.{Macro}
use Rattle.terms.specs.Terms.{Tm, Quote, Call, tms}
use Rattle.term_forms.specs.Macros.{macro, nil_term}
use Rattle.term_forms.specs.Words.{meaning}
use Rattle.term_forms.specs.Lets.{let_outcome, in_turn_outcome}
use Rattle.term_forms.specs.Heads.{IsOther, IsWord, head_of}
use Rattle.term_forms.specs.Outcomes.{each}
use Rattle.term_forms.specs.Translation.{Takes, Scope, Outcome, and_then, map_outcome, and_rest, bad_form, too_large, is_small, limited, is_list, items, head, word_head, parts_if, quoted, applied, translate, by_word, terms, chosen, clause, clauses}
use Rattle.lisp_reader.specs.FormValue.{has_text, value}
use Rattle.term_forms.specs.view.TranslationView.{SaysOutcome}
use Rattle.terms.proofs.Names.{name_apart}
use Rattle.term_forms.proofs.Each.{each-more, each-refused, each-end, each-length}

is_list-chain : (fs : List Datum) (end : Datum) → is_list (chain fs end) ≡ is_list end
is_list-chain [] end = refl
is_list-chain (f ∷ fs) end = is_list-chain fs end

items-chain : (xs : List Form) → items (chain (map form_of xs) nil_form) ≡ length xs
items-chain [] = refl
items-chain (x ∷ xs) = ap suc (items-chain xs)

no_list-end : (f : Form) → IsEnd f → is_list (form_of f) ≡ false
unfolding IsEnd form_of
no_list-end (Int z) h = refl
no_list-end (Sym s) h = name_apart s (codes "NIL") h
no_list-end (Text s) h = refl
no_list-end (List' shape row tail) h = absurd h

module _ (takes : Takes) (scope : Scope) where
  head-pointed : (f : Name) (d : Datum) → is_list d ≡ false → head takes f d ≡ bad_form
  head-pointed f d h = simp h

  pair-pointed : (a d : Datum) → is_list d ≡ false → translate takes scope (PairForm a d) ≡ bad_form
  pair-pointed (IntForm z) d h = refl
  pair-pointed (SymForm f) d h = ap (λ o. and_then o (λ _. and_then (by_word takes scope f d) limited)) (head-pointed f d h)
  pair-pointed (TextForm s) d h = refl
  pair-pointed (PairForm a b) d h = refl

  chain-pointed : (xs : List Form) (end : Datum) → 0 < length xs → is_list end ≡ false → translate takes scope (chain (map form_of xs) end) ≡ bad_form
  chain-pointed [] end h g = absurd (omega arith)
  chain-pointed (x ∷ xs) end h g = pair-pointed (form_of x) (chain (map form_of xs) end) (is_list-chain (map form_of xs) end ∙ g)

  -- a list with a point is no term
  pub translate-pointed : (fs : Forms) (t : Rc Form Global) → IsProper (Listed fs (Some t)) → translate takes scope (form_of (Listed fs (Some t))) ≡ bad_form
  translate-pointed fs t h =
      let p = proper-list fs (Some t) h in
      ap (translate takes scope) (form_of-dotted fs t) ∙ chain-pointed (held_by fs) (form_of t.value) p.some (no_list-end t.value p.last.1)

  pub translate-list : (fs : Forms) → translate takes scope (form_of (Listed fs None)) ≡ translate takes scope (chain (map form_of (held_by fs)) nil_form)
  translate-list fs = ap (translate takes scope) (form_of-list fs)

  pair-headed : (xs : List Form) (end : Datum) → 0 < length xs → (d : Datum) → translate takes scope (PairForm (chain (map form_of xs) end) d) ≡ bad_form
  pair-headed [] end h d = absurd (omega arith)
  pair-headed (x ∷ xs) end h d = refl

  -- a head that is no symbol
  pub headed-int : (xs : List Form) (h : Form) (z : ℤ) → 0 < length xs → h ≡ get_or xs 0 h → h ≡ Int z → translate takes scope (chain (map form_of xs) nil_form) ≡ bad_form
  headed-int [] h z l e i = absurd (omega arith)
  headed-int (x ∷ xs) h z l e i = ap (λ a. translate takes scope (PairForm a (chain (map form_of xs) nil_form))) (ap form_of (sym e ∙ i) ∙ form_of-int z)

  pub headed-text : (xs : List Form) (h : Form) (s : List ℕ) → 0 < length xs → h ≡ get_or xs 0 h → h ≡ Text s → translate takes scope (chain (map form_of xs) nil_form) ≡ bad_form
  headed-text [] h s l e i = absurd (omega arith)
  headed-text (x ∷ xs) h s l e i = ap (λ a. translate takes scope (PairForm a (chain (map form_of xs) nil_form))) (ap form_of (sym e ∙ i) ∙ form_of-text s)

  pub headed-list : (xs : List Form) (h : Form) (fs : Forms) (t : Option (Rc Form Global)) → 0 < length xs → AllProper xs → h ≡ get_or xs 0 h → h ≡ Listed fs t → translate takes scope (chain (map form_of xs) nil_form) ≡ bad_form
  headed-list [] h fs t l p e i = absurd (omega arith)
  headed-list (x ∷ xs) h fs t l p e i =
      let is : x ≡ Listed fs t = sym e ∙ i in
      ap (λ a. translate takes scope (PairForm a (chain (map form_of xs) nil_form))) (ap form_of is ∙ form_of-listed fs t)
      ∙ pair-headed (held_by fs) (end_of t) (proper-list fs t (subst IsProper is p.0)).some (chain (map form_of xs) nil_form)

  -- a symbol before the other items
  pub headed-sym : (xs : List Form) (h : Form) (s : Name) → 0 < length xs → h ≡ get_or xs 0 h → h ≡ Sym s →
      translate takes scope (PairForm (SymForm s) (chain (map form_of (take (length xs - 1) (drop 1 xs))) nil_form)) ≡ translate takes scope (chain (map form_of xs) nil_form)
  headed-sym [] h s l e i = absurd (omega arith)
  headed-sym (x ∷ xs) h s l e i =
      let n : length (x ∷ xs) - 1 ≡ length xs = omega arith in
      let all : take (length (x ∷ xs) - 1) xs ≡ xs = ap (λ m. take m xs) n ∙ take-length xs in
      ap (λ ys. translate takes scope (PairForm (SymForm s) (chain (map form_of ys) nil_form))) all
      ∙ ap (λ a. translate takes scope (PairForm a (chain (map form_of xs) nil_form))) (sym (ap form_of (sym e ∙ i) ∙ form_of-sym s))

-- how deep the forms of a list are
deepest_le-depth : (fs : List Datum) (end : Datum) → deepest fs ≤ depth (chain fs end)
deepest_le-depth [] end = omega arith
deepest_le-depth (f ∷ fs) end = omega (arith, deepest_le-depth fs end)

pub deepest-list : (fs : Forms) → deepest (map form_of (held_by fs)) ≤ depth (form_of (Listed fs None))
deepest-list fs = subst (λ (d : Datum). deepest (map form_of (held_by fs)) ≤ depth d) (sym (form_of-list fs)) (deepest_le-depth (map form_of (held_by fs)) nil_form)

pub deepest-get_or : (xs : List Form) (i : ℕ) (d : Form) → i < length xs → depth (form_of (get_or xs i d)) < deepest (map form_of xs)
deepest-get_or [] i d h = absurd (omega arith)
deepest-get_or (x ∷ xs) zero d h = omega arith
deepest-get_or (x ∷ xs) (suc i) d h = omega (arith, deepest-get_or xs i d (omega arith))

pub deepest-rest : (xs : List Form) (n : ℕ) → deepest (map form_of (take n (drop 1 xs))) ≤ deepest (map form_of xs)
deepest-rest [] n = up_to [] n
  where
    up_to : (ys : List Form) (n : ℕ) → deepest (map form_of (take n [])) ≤ deepest (map form_of ys)
    up_to ys zero = omega arith
    up_to ys (suc n) = omega arith
deepest-rest (x ∷ xs) n = omega (arith, up_to xs n)
  where
    up_to : (ys : List Form) (n : ℕ) → deepest (map form_of (take n ys)) ≤ deepest (map form_of ys)
    up_to ys zero = omega arith
    up_to [] (suc n) = omega arith
    up_to (y ∷ ys) (suc n) = omega (arith, up_to ys n)

pub proper-rest : (xs : List Form) (n : ℕ) → AllProper xs → AllProper (take n (drop 1 xs))
proper-rest [] zero p = tt
proper-rest [] (suc n) p = tt
proper-rest (x ∷ xs) n p = up_to xs n p.1
  where
    up_to : (ys : List Form) (n : ℕ) → AllProper ys → AllProper (take n ys)
    up_to ys zero p = tt
    up_to [] (suc n) p = tt
    up_to (y ∷ ys) (suc n) p = (p.0, up_to ys n p.1)

pub proper-items : (fs : Forms) → IsProper (Listed fs None) → AllProper (held_by fs)
proper-items fs h = (proper-list fs None h).items

pub some-items : (fs : Forms) → IsProper (Listed fs None) → 0 < length (held_by fs)
some-items fs h = (proper-list fs None h).some

pub ruleset forms = (translate-pointed, translate-list, form_of-int, form_of-sym, form_of-text, deepest-list, proper-items, some-items)

pub ruleset lists = (headed-int, headed-text, headed-list, headed-sym, deepest-rest, proper-rest)

-- what a head says of so many parts
abbrev named : Takes → Name → ℕ → Outcome (Unit {0})
named takes f n =
    if bytes_eq f (codes "QUOTE") then parts_if (nat_eq n 1)
    else if bytes_eq f (codes "LET") then parts_if (nat_eq n 2)
    else if bytes_eq f (codes "LET*") then parts_if (nat_eq n 2)
    else if bytes_eq f (codes "COND") then Ok tt
    else word_head takes f (macro f) n

other-choice : {A : Type 0} (a b c d : Bool) (p q r s t : A) → a ≡ false → b ≡ false → c ≡ false → d ≡ false →
    (if a then p else if b then q else if c then r else if d then s else t) ≡ t
other-choice true b c d p q r s t x y z w = cc
other-choice false true c d p q r s t x y z w = cc
other-choice false false true d p q r s t x y z w = cc
other-choice false false false true p q r s t x y z w = cc
other-choice false false false false p q r s t x y z w = refl

other-named : (takes : Takes) (f : Name) (n : ℕ) → IsOther f → named takes f n ≡ word_head takes f (macro f) n
other-named takes f n h =
    other-choice (bytes_eq f (codes "QUOTE")) (bytes_eq f (codes "LET")) (bytes_eq f (codes "LET*")) (bytes_eq f (codes "COND"))
    (parts_if (nat_eq n 1)) (parts_if (nat_eq n 2)) (parts_if (nat_eq n 2)) (Ok tt) (word_head takes f (macro f) n) h.no_quote h.no_let h.no_let_in_turn h.no_cond

named-is : (takes : Takes) (f : Name) (n : ℕ) (w : Word) → IsWord f w → named takes f n ≡ head_of w takes f n
named-is takes f n word.Quote h = ap (λ f. named takes f n) h
named-is takes f n word.Let h = ap (λ f. named takes f n) h
named-is takes f n word.LetInTurn h = ap (λ f. named takes f n) h
named-is takes f n word.Cond h = ap (λ f. named takes f n) h
named-is takes f n (word.Macro m) h = other-named takes f n h.0 ∙ ap (λ o. word_head takes f o n) h.1
named-is takes f n word.Call h = other-named takes f n h.0 ∙ ap (λ o. word_head takes f o n) h.1

-- a word's own faults are those of the head
head-is : (takes : Takes) (f : Name) (w : Word) (xs : List Form) → IsWord f w → head takes f (chain (map form_of xs) nil_form) ≡ head_of w takes f (length xs)
head-is takes f w xs h =
    ap (λ b. if not b then bad_form else named takes f (items (chain (map form_of xs) nil_form))) (is_list-chain (map form_of xs) nil_form)
    ∙ ap (named takes f) (items-chain xs) ∙ named-is takes f (length xs) w h

module _ (takes : Takes) (scope : Scope) where
  -- the term of a name before these parts
  abbrev pub before : Name → List Form → Outcome Tm
  before f xs = translate takes scope (PairForm (SymForm f) (chain (map form_of xs) nil_form))

  -- the same, without the head's own faults
  abbrev pub behind : Name → List Form → Outcome Tm
  behind f xs = and_then (by_word takes scope f (chain (map form_of xs) nil_form)) limited

  before-head : (f : Name) (w : Word) (xs : List Form) → IsWord f w → before f xs ≡ and_then (head_of w takes f (length xs)) (λ _. behind f xs)
  before-head f w xs h = ap (λ o. and_then o (λ _. behind f xs)) (head-is takes f w xs h)

  pub head-refused : (f : Name) (w : Word) (xs : List Form) (e : TermError) → IsWord f w →
      SaysOutcome {A = Unit {0}} (head_of w takes f (length xs)) (Err e) → SaysOutcome {A = Tm} (before f xs) (Err e)
  head-refused f w xs (Refused code detail) h says = before-head f w xs h ∙ ap (λ o. and_then o (λ _. behind f xs)) says
  head-refused f w xs Memory h says = tt

  pub head-taken : (f : Name) (w : Word) (xs : List Form) (u : Unit {0}) (r : Result Tm TermError) → IsWord f w → head_of w takes f (length xs) ≡ Ok u →
      SaysOutcome {A = Tm} (behind f xs) r → SaysOutcome {A = Tm} (before f xs) r
  head-taken f w xs u r h e says =
      subst (λ (o : Outcome Tm). SaysOutcome {A = Tm} o r) (sym (before-head f w xs h ∙ ap (λ o. and_then o (λ _. behind f xs)) e)) says

  -- each part's term
  abbrev pub part_of : Form → Outcome Tm
  part_of x = translate takes scope (form_of x)

  terms-each : (xs : List Form) → terms takes scope (chain (map form_of xs) nil_form) ≡ each part_of xs
  terms-each [] = refl
  terms-each (x ∷ xs) = ap (and_rest (part_of x)) (terms-each xs)

  other-by_word : (f : Name) (xs : List Form) → IsOther f →
      by_word takes scope f (chain (map form_of xs) nil_form) ≡ map_outcome (applied f (macro f) (chain (map form_of xs) nil_form)) (each part_of xs)
  other-by_word f [] h = ap (λ b. Ok (if b then nil_term else applied f (macro f) nil_form [])) h.no_cond
  other-by_word f (x ∷ xs) h =
      let a = form_of x in
      let d = chain (map form_of xs) nil_form in
      other-choice {A = Outcome Tm} (bytes_eq f (codes "QUOTE")) (bytes_eq f (codes "LET")) (bytes_eq f (codes "LET*")) (bytes_eq f (codes "COND")) _ _ _ _
      (map_outcome (applied f (macro f) (PairForm a d)) (and_rest (translate takes scope a) (terms takes scope d))) h.no_quote h.no_let h.no_let_in_turn h.no_cond
      ∙ ap (λ o. map_outcome (applied f (macro f) (PairForm a d)) (and_rest (part_of x) o)) (terms-each xs)

  macro-behind : (f : Name) (m : Macro) (xs : List Form) → IsWord f (word.Macro m) →
      behind f xs ≡ and_then (map_outcome ((meaning m).term (chain (map form_of xs) nil_form)) (each part_of xs)) limited
  macro-behind f m xs h =
      ap (λ o. and_then o limited) (other-by_word f xs h.0 ∙ ap (λ o. map_outcome (applied f o (chain (map form_of xs) nil_form)) (each part_of xs)) h.1)

  call-behind : (f : Name) (xs : List Form) → IsWord f word.Call → behind f xs ≡ and_then (map_outcome (λ ts. Call f (tms ts)) (each part_of xs)) limited
  call-behind f xs h =
      ap (λ o. and_then o limited) (other-by_word f xs h.0 ∙ ap (λ o. map_outcome (applied f o (chain (map form_of xs) nil_form)) (each part_of xs)) h.1)

  pub macro-refused : (f : Name) (m : Macro) (xs : List Form) (e : TermError) → IsWord f (word.Macro m) →
      SaysOutcome {A = List Tm} (each part_of xs) (Err e) → SaysOutcome {A = Tm} (behind f xs) (Err e)
  macro-refused f m xs (Refused code detail) h says = macro-behind f m xs h ∙ ap (λ o. and_then (map_outcome ((meaning m).term (chain (map form_of xs) nil_form)) o) limited) says
  macro-refused f m xs Memory h says = tt

  pub macro-taken : (f : Name) (m : Macro) (xs : List Form) (ts us : List Tm) (r : Result Tm TermError) → IsWord f (word.Macro m) → each part_of xs ≡ Ok ts → us ≡ ts →
      SaysOutcome {A = Tm} (limited ((meaning m).term (chain (map form_of xs) nil_form) us)) r → SaysOutcome {A = Tm} (behind f xs) r
  macro-taken f m xs ts us r h e k says =
      subst (λ (o : Outcome Tm). SaysOutcome {A = Tm} o r)
      (ap (λ us. limited ((meaning m).term (chain (map form_of xs) nil_form) us)) k
      ∙ sym (macro-behind f m xs h ∙ ap (λ o. and_then (map_outcome ((meaning m).term (chain (map form_of xs) nil_form)) o) limited) e)) says

  pub call-refused : (f : Name) (xs : List Form) (e : TermError) → IsWord f word.Call →
      SaysOutcome {A = List Tm} (each part_of xs) (Err e) → SaysOutcome {A = Tm} (behind f xs) (Err e)
  call-refused f xs (Refused code detail) h says = call-behind f xs h ∙ ap (λ o. and_then (map_outcome (λ ts. Call f (tms ts)) o) limited) says
  call-refused f xs Memory h says = tt

  pub call-taken : (f g : Name) (xs : List Form) (ts us : List Tm) (r : Result Tm TermError) → IsWord f word.Call → each part_of xs ≡ Ok ts → us ≡ ts → g ≡ f →
      SaysOutcome {A = Tm} (limited (Call g (tms us))) r → SaysOutcome {A = Tm} (behind f xs) r
  call-taken f g xs ts us r h e k q says =
      subst (λ (o : Outcome Tm). SaysOutcome {A = Tm} o r)
      ((λ i. limited (Call (q i) (tms (k i)))) ∙ sym (call-behind f xs h ∙ ap (λ o. and_then (map_outcome (λ ts. Call f (tms ts)) o) limited) e)) says

  quoted-limited : (d : Datum) → and_then (quoted d) limited ≡ quoted d
  quoted-limited d = by_tests (has_text d) (is_small (value d))
    where
      by_tests : (a b : Bool) → and_then (if a then bad_form else if b then Ok (Quote (value d)) else too_large) limited ≡ (if a then bad_form else if b then Ok (Quote (value d)) else too_large)
      by_tests true b = refl
      by_tests false true = refl
      by_tests false false = refl

  pub quote-taken : (f : Name) (xs : List Form) (d : Form) (r : Result Tm TermError) → f ≡ codes "QUOTE" → length xs ≡ 1 →
      SaysOutcome {A = Tm} (quoted (form_of (get_or xs 0 d))) r → SaysOutcome {A = Tm} (behind f xs) r
  quote-taken f [] d r h n says = absurd (omega arith)
  quote-taken f (x ∷ y ∷ xs) d r h n says = absurd (omega arith)
  quote-taken f (x ∷ []) d r h n says =
      subst (λ (o : Outcome Tm). SaysOutcome {A = Tm} o r) (sym (ap (λ f. behind f (x ∷ [])) h ∙ quoted-limited (form_of x))) says

cond-by_word : (takes : Takes) (scope : Scope) (xs : List Form) → by_word takes scope (codes "COND") (chain (map form_of xs) nil_form) ≡ map_outcome chosen (each (λ x. clause takes scope (form_of x)) xs)
cond-by_word takes scope [] = refl
cond-by_word takes scope (x ∷ xs) = ap (λ o. map_outcome chosen (and_rest (clause takes scope (form_of x)) o)) (clauses-each xs)
  where
    clauses-each : (xs : List Form) → clauses takes scope (chain (map form_of xs) nil_form) ≡ each (λ x. clause takes scope (form_of x)) xs
    clauses-each [] = refl
    clauses-each (x ∷ xs) = ap (and_rest (clause takes scope (form_of x))) (clauses-each xs)

pub cond-taken : (takes : Takes) (scope : Scope) (f : Name) (xs : List Form) (r : Result Tm TermError) → f ≡ codes "COND" →
    SaysOutcome {A = Tm} (and_then (map_outcome chosen (each (λ x. clause takes scope (form_of x)) xs)) limited) r → SaysOutcome {A = Tm} (behind takes scope f xs) r
cond-taken takes scope f xs r h says =
    subst (λ (o : Outcome Tm). SaysOutcome {A = Tm} o r) (sym (ap (λ f. behind takes scope f xs) h ∙ ap (λ o. and_then o limited) (cond-by_word takes scope xs))) says

module _ (takes : Takes) (scope : Scope) where
  pub let-behind : (f : Name) (xs : List Form) (x y : Form) (r : Result Tm TermError) → f ≡ codes "LET" → length xs ≡ 2 → x ≡ get_or xs 0 x → y ≡ get_or xs 1 y →
      SaysOutcome {A = Tm} (let_outcome takes scope (form_of x) (form_of y)) r → SaysOutcome {A = Tm} (behind takes scope f xs) r
  let-behind f [] x y r h n p q says = absurd (omega arith)
  let-behind f (v ∷ []) x y r h n p q says = absurd (omega arith)
  let-behind f (v ∷ w ∷ []) x y r h n p q says =
      subst (λ (f : Name). SaysOutcome {A = Tm} (behind takes scope f (v ∷ w ∷ [])) r) (sym h)
      (subst (λ (w : Form). SaysOutcome {A = Tm} (let_outcome takes scope (form_of v) (form_of w)) r) q
      (subst (λ (v : Form). SaysOutcome {A = Tm} (let_outcome takes scope (form_of v) (form_of y)) r) p says))
  let-behind f (v ∷ w ∷ z ∷ xs) x y r h n p q says = absurd (omega arith)

  pub in_turn-behind : (f : Name) (xs : List Form) (x y : Form) (r : Result Tm TermError) → f ≡ codes "LET*" → length xs ≡ 2 → x ≡ get_or xs 0 x → y ≡ get_or xs 1 y →
      SaysOutcome {A = Tm} (in_turn_outcome takes scope (form_of x) (form_of y)) r → SaysOutcome {A = Tm} (behind takes scope f xs) r
  in_turn-behind f [] x y r h n p q says = absurd (omega arith)
  in_turn-behind f (v ∷ []) x y r h n p q says = absurd (omega arith)
  in_turn-behind f (v ∷ w ∷ []) x y r h n p q says =
      subst (λ (f : Name). SaysOutcome {A = Tm} (behind takes scope f (v ∷ w ∷ [])) r) (sym h)
      (subst (λ (w : Form). SaysOutcome {A = Tm} (in_turn_outcome takes scope (form_of v) (form_of w)) r) q
      (subst (λ (v : Form). SaysOutcome {A = Tm} (in_turn_outcome takes scope (form_of v) (form_of y)) r) p says))
  in_turn-behind f (v ∷ w ∷ z ∷ xs) x y r h n p q says = absurd (omega arith)

pub right-number : (b : Bool) (u : Unit {0}) → parts_if b ≡ Ok u → b ≡ true
right-number true u h = refl
right-number false u h = cc

pub so_many : (n k : ℕ) (u : Unit {0}) → parts_if (nat_eq n k) ≡ Ok u → n ≡ k
so_many n k u h = eqb-true n k (right-number (nat_eq n k) u h)

pub ruleset heads = (head-refused, head-taken)

pub ruleset words = (macro-refused, macro-taken, call-refused, call-taken, quote-taken, cond-taken, let-behind, in_turn-behind, so_many, right-number, each-length)

pub ruleset parts = (each-more, each-refused, each-end, proper-at, deepest-get_or)
