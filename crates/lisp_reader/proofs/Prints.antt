-- Writing forms, part by part.
use Rattle.std.proofs.Common.{◌≡◌, ℕ, ◌+◌, ◌<◌, zero, suc, Bool, true, false, cond, ◌||◌, nat_eq, nat_lt, List, [], ◌∷◌, ◌++◌, length, get_or, take, drop, refl, ap, sym, subst, ◌∙◌, arith, append_assoc, Option, Some, None, map, length-take, Global}
use Rattle.std.proofs.lemmas.List.{append-nil, length-map, map_more, nil_from_length, take_at}
use Rattle.std.proofs.lemmas.Bool.Decides.{nat_tests}
use Rattle.std.specs.Prelude.{ℤ, codes, bytes_eq}
use Rattle.std.specs.Bool.{Decides}
use Rattle.std.specs.Cmp.Lexicographic.{bytes_decides}
use Rattle.std.specs.Fmt.{signed_decimal}
use Rattle.lisp_data.specs.Datum.{Datum, IntForm, SymForm, TextForm, PairForm, chain}
use Rattle.std.specs.declared.rc.Rc.{Rc}
use Rattle.lisp_data.specs.FormView.{form_of, forms_of, end_of}
use Rattle.lisp_data.specs.declared.form.Forms.{Forms}
use Rattle.lisp_data.specs.declared.form.Form.{Form, List as Listed}
use Rattle.lisp_reader.proofs.Leaves.{names-nil}
use Rattle.lisp_data.proofs.Chains.{form_of-int, form_of-sym, form_of-text}
use Rattle.lisp_data.proofs.Proper.{form_of-listed}
use Rattle.lisp_reader.specs.Printed.{escaped, form_text, rest_text, items_text, IsPrintable, ArePrintable}
use Rattle.lisp_reader.specs.Writes.{Extends}
use Rattle.lisp_reader.proofs.Pieces.{drop-at, drop-end}

pub escaped-step : (xs : List ℕ) (i : ℕ) → i < length xs →
    escaped (drop i xs) ≡ cond (nat_eq (get_or xs i 0) 34 || nat_eq (get_or xs i 0) 92) (92 ∷ get_or xs i 0 ∷ escaped (drop (i + 1) xs)) (get_or xs i 0 ∷ escaped (drop (i + 1) xs))
unfolding escaped
escaped-step xs i h = ap escaped (drop-at xs i h)

pub escaped-end : (xs : List ℕ) (i : ℕ) → i ≡ length xs → escaped (drop i xs) ≡ []
unfolding escaped
escaped-end xs i h = ap escaped (drop-end xs i (omega arith))

pub ruleset strings = (escaped-step, escaped-end, append-nil, append_assoc)

pub text-int : (z : ℤ) → form_text (IntForm z) ≡ signed_decimal z
unfolding form_text
text-int z = refl

pub text-sym : (s : List ℕ) → form_text (SymForm s) ≡ s
unfolding form_text
text-sym s = refl

pub text-text : (s : List ℕ) → form_text (TextForm s) ≡ 34 ∷ escaped s ++ 34 ∷ []
unfolding form_text
text-text s = refl

pub rest-int : (z : ℤ) → rest_text (IntForm z) ≡ codes " . " ++ signed_decimal z ++ 41 ∷ []
unfolding rest_text
rest-int z = refl

pub rest-sym : (s : List ℕ) → rest_text (SymForm s) ≡ cond (bytes_eq s (codes "NIL")) (41 ∷ []) (codes " . " ++ s ++ 41 ∷ [])
unfolding rest_text
rest-sym s = refl

pub rest-text : (s : List ℕ) → rest_text (TextForm s) ≡ codes " . " ++ (34 ∷ escaped s ++ 34 ∷ []) ++ 41 ∷ []
unfolding rest_text
rest-text s = refl

rest-items : (f : Datum) (fs : List Datum) (e : Datum) → form_text f ++ rest_text (chain fs e) ≡ items_text (f ∷ fs) ++ rest_text e
unfolding rest_text
rest-items f [] e = refl
rest-items f (g ∷ fs) e = ap (λ t. form_text f ++ 32 ∷ t) (rest-items g fs e) ∙ sym (append_assoc (form_text f) (32 ∷ items_text (g ∷ fs)) (rest_text e))

-- a list with items, as a form and as the rest of a list
pub text-chain : (fs : List Datum) (e : Datum) → 0 < length fs → form_text (chain fs e) ≡ 40 ∷ items_text fs ++ rest_text e
unfolding form_text
text-chain [] e h = absurd (omega arith)
text-chain (f ∷ fs) e h = ap (λ t. 40 ∷ t) (rest-items f fs e)

pub rest-chain : (fs : List Datum) (e : Datum) → rest_text (chain fs e) ≡ cond (nat_lt 0 (length fs)) (32 ∷ []) [] ++ items_text fs ++ rest_text e
unfolding rest_text
rest-chain [] e = refl
rest-chain (f ∷ fs) e =
    let some : nat_lt 0 (length (f ∷ fs)) ≡ true = grind (arith, nat_tests) in
    ap (λ t. 32 ∷ t) (rest-items f fs e) ∙ sym (ap (λ c. cond c (32 ∷ []) [] ++ items_text (f ∷ fs) ++ rest_text e) some)

-- one more item
pub items-push : (fs : List Datum) (f : Datum) → items_text (fs ++ f ∷ []) ≡ items_text fs ++ cond (nat_lt 0 (length fs)) (32 ∷ []) [] ++ form_text f
items-push [] f = refl
items-push (g ∷ []) f = sym (append_assoc (form_text g) (32 ∷ []) (form_text f))
items-push (g ∷ h ∷ fs) f =
    let here : nat_lt 0 (length (g ∷ h ∷ fs)) ≡ true = grind (arith, nat_tests) in
    let there : nat_lt 0 (length (h ∷ fs)) ≡ true = grind (arith, nat_tests) in
    let rest = items_text (h ∷ fs) in
    ap (λ t. form_text g ++ 32 ∷ t) (items-push (h ∷ fs) f)
    ∙ ap (λ c. form_text g ++ 32 ∷ (rest ++ cond c (32 ∷ []) [] ++ form_text f)) there
    ∙ regroup (form_text g) rest (form_text f)
    ∙ sym (ap (λ c. (form_text g ++ 32 ∷ rest) ++ cond c (32 ∷ []) [] ++ form_text f) here)
  where
    regroup : (a b c : List ℕ) → a ++ 32 ∷ ((b ++ 32 ∷ []) ++ c) ≡ ((a ++ 32 ∷ b) ++ 32 ∷ []) ++ c
    regroup a b c = simp append_assoc

-- the end of a list, by the test for NIL
rest-at_nil : rest_text (SymForm (codes "NIL")) ≡ 41 ∷ []
unfolding rest_text
rest-at_nil = refl

pub rest-nil : (s : List ℕ) → s ≡ codes "NIL" → rest_text (SymForm s) ≡ 41 ∷ []
rest-nil s e = ap (λ t. rest_text (SymForm t)) e ∙ rest-at_nil

pub rest-other : (s : List ℕ) → (s ≡ codes "NIL" → ⊥) → rest_text (SymForm s) ≡ codes " . " ++ s ++ 41 ∷ []
rest-other s n = rest-sym s ∙ on (bytes_eq s (codes "NIL")) (bytes_decides s (codes "NIL"))
  where
    on : (b : Bool) → Decides b (s ≡ codes "NIL") → cond b (41 ∷ []) (codes " . " ++ s ++ 41 ∷ []) ≡ codes " . " ++ s ++ 41 ∷ []
    on true d = absurd (n (d.0 refl))
    on false d = refl

pub none-text : (t : Option (Rc Form Global)) → t ≡ None → rest_text (end_of t) ≡ 41 ∷ []
none-text t e = ap (λ t. rest_text (end_of t)) e ∙ rest-at_nil

pub none-printable : (t : Option (Rc Form Global)) → t ≡ None → IsPrintable (end_of t)
none-printable t e = subst (λ (t : Option (Rc Form Global)). IsPrintable (end_of t)) (sym e) names-nil

-- a list without items is what its end is
pub empty-form : (f : Form) (fs : Forms) (t : Option (Rc Form Global)) → f ≡ Listed fs t → length (forms_of fs) ≡ 0 → form_of f ≡ end_of t
empty-form f fs t e z = ap form_of e ∙ form_of-listed fs t ∙ ap (λ xs. chain xs (end_of t)) (nil_from_length (forms_of fs) z)

chain-printable : (fs : List Datum) (e : Datum) → ArePrintable fs → IsPrintable e → IsPrintable (chain fs e)
chain-printable [] e h k = k
chain-printable (f ∷ fs) e h k = (h.0, chain-printable fs e h.1 k)

pub list-printable : (f : Form) (fs : Forms) (t : Option (Rc Form Global)) → f ≡ Listed fs t → ArePrintable (forms_of fs) → IsPrintable (end_of t) → IsPrintable (form_of f)
list-printable f fs t e h k = subst IsPrintable (sym (ap form_of e ∙ form_of-listed fs t)) (chain-printable (forms_of fs) (end_of t) h k)

printable-push : (fs : List Datum) (f : Datum) → ArePrintable fs → IsPrintable f → ArePrintable (fs ++ f ∷ [])
printable-push [] f h k = (k, tt)
printable-push (g ∷ fs) f h k = (h.0, printable-push fs f h.1 k)

module _ (xs : List Form) (i : ℕ) (x : Form) (h : i < length xs) (is : x ≡ get_or xs i x) where
  abbrev before : List Datum
  before = map form_of (take i xs)

  more : map form_of (take (i + 1) xs) ≡ before ++ form_of x ∷ []
  more = map_more form_of xs i x h ∙ ap (λ y. before ++ form_of y ∷ []) (sym is)

  pub more-text : (out held : List ℕ) → held ≡ (out ++ items_text before) ++ cond (nat_lt 0 i) (32 ∷ []) [] →
      held ++ form_text (form_of x) ≡ out ++ items_text (map form_of (take (i + 1) xs))
  more-text out held e =
      let long : length before ≡ i = omega (arith, length-map (take i xs) form_of, length-take i xs) in
      let blank : List ℕ = cond (nat_lt 0 i) (32 ∷ []) [] in
      ap (λ t. t ++ form_text (form_of x)) e
      ∙ append_assoc (out ++ items_text before) blank (form_text (form_of x))
      ∙ append_assoc out (items_text before) (blank ++ form_text (form_of x))
      ∙ ap (λ t. out ++ t) (sym (append_assoc (items_text before) blank (form_text (form_of x))))
      ∙ ap (λ n. out ++ (items_text before ++ cond (nat_lt 0 n) (32 ∷ []) [] ++ form_text (form_of x))) (sym long)
      ∙ ap (λ t. out ++ t) (sym (items-push before (form_of x)))
      ∙ ap (λ fs. out ++ items_text fs) (sym more)

  pub more-printable : ArePrintable before → IsPrintable (form_of x) → ArePrintable (map form_of (take (i + 1) xs))
  more-printable a b = subst ArePrintable (sym more) (printable-push before (form_of x) a b)

pub ruleset writes = (append_assoc, rest-nil, rest-other)

pub ruleset forms = (form_of-int, form_of-sym, form_of-text, form_of-listed, text-int, text-sym, text-text, text-chain, rest-int, rest-text, rest-chain, append_assoc, length-map)

pub ruleset items = (items-push, append_assoc)

pub text-pair : (a d : Datum) → form_text (PairForm a d) ≡ 40 ∷ form_text a ++ rest_text d
unfolding form_text
text-pair a d = refl

pub rest-pair : (a d : Datum) → rest_text (PairForm a d) ≡ 32 ∷ form_text a ++ rest_text d
unfolding rest_text
rest-pair a d = refl

pub ruleset values = (text-int, text-sym, text-pair, rest-int, rest-pair, append_assoc)

-- the text as it was
pub cut-back : (old new : List ℕ) → Extends old new → take (length old) new ≡ old
cut-back old new e = ap (take (length old)) e.1 ∙ take_at old e.0 (length old) refl

pub ruleset cuts = (cut-back)
