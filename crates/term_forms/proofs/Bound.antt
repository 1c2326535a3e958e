-- The bindings of a form.
use Rattle.std.proofs.Common.{◌≡◌, ◌<◌, ◌≤◌, ◌+◌, ℕ, zero, suc, Bool, true, false, ◌&&◌, ◌||◌, bytes_eq, codes, List, [], ◌∷◌, ◌++◌, length, get_or, map, take, drop, Option, Some, None, Result, Ok, Err, if◌then◌else◌, refl, ap, sym, subst, ◌∙◌, arith, Global, append_assoc}
use native.Mathlib.Numerals.{unary_clauses}
use Rattle.std.specs.List.{zip}
use Rattle.std.proofs.lemmas.List.{take_all, take_more, drop_all}
use Rattle.lisp_data.specs.Values.{Name}
use Rattle.lisp_data.specs.Datum.{Datum, IntForm, SymForm, TextForm, PairForm, nil_form, chain}
use Rattle.std.specs.declared.rc.Rc.{Rc}
use Rattle.lisp_data.specs.FormView.{form_of, items_of as held_by, IsProper, end_of}
use Rattle.lisp_data.specs.declared.form.Forms.{Forms}
use Rattle.lisp_data.specs.declared.form.Form.{Form, List as Listed}
use Rattle.lisp_data.specs.declared.code.Code.TheVariants.{RepeatedFormal}
use Rattle.lisp_data.specs.declared.detail.Detail.TheVariants as detail
use Rattle.lisp_data.proofs.Chains.{form_of-int, form_of-sym, form_of-text}
use Rattle.lisp_data.proofs.Proper.{proper-at, proper-list, form_of-listed}
use Rattle.term_forms.specs.declared.translation.TermError.{TermError}
use Rattle.term_forms.specs.declared.translation.TermError.TheVariants.{Refused, Memory}
use Rattle.term_forms.specs.declared.bindings.Binding.{Binding}
use Rattle.terms.specs.Terms.{Tm}
use Rattle.terms.specs.Substitution.{Pairs}
use Rattle.term_forms.specs.Names.{is_variable_name}
use Rattle.terms.specs.Worlds.{is_in}
use Rattle.term_forms.specs.Translation.{Outcome, and_then, map_outcome, and_rest, bad_form, bound_name, bound_names, distinct_after, is_list}
use Rattle.term_forms.specs.view.TranslationView.{SaysOutcome}
use Rattle.term_forms.specs.Shapes.{pair_of}
use Rattle.term_forms.specs.Bindings.{names_of, binding_form, variable_of, AreAllProper, SaysBindings}
use Rattle.term_forms.specs.Outcomes.{each}
use Rattle.terms.proofs.Names.{same_name}
use Rattle.term_forms.proofs.Each.{each-more, each-refused, each-end}

abbrev pub backwards : List Binding → List Name → List Name
backwards [] ns = ns
backwards (b ∷ bs) ns = backwards bs (b.name ∷ ns)

abbrev paired : Datum → Datum → Option (Datum × Datum)
paired a b = Some (a, b)

abbrev by_pair : Option (Datum × Datum) → Outcome Name
by_pair None = bad_form
by_pair (Some p) = variable_of p.0

other-name : (t : Bool) (a b : Datum) → variable_of a ≡ bad_form → bad_form ≡ by_pair (if t then paired a b else None)
other-name true a b h = sym h
other-name false a b h = refl

no-second : (a d : Datum) → ((x : Name) → bound_name (PairForm (SymForm x) d) ≡ bad_form) → bound_name (PairForm a d) ≡ bad_form
no-second (IntForm z) d h = refl
no-second (SymForm x) d h = h x
no-second (TextForm s) d h = refl
no-second (PairForm a c) d h = refl

bound-pair : (d : Datum) → bound_name d ≡ by_pair (pair_of d)
bound-pair (IntForm z) = refl
bound-pair (SymForm s) = refl
bound-pair (TextForm s) = refl
bound-pair (PairForm (IntForm z) (PairForm b (SymForm e))) = other-name (bytes_eq e (codes "NIL")) (IntForm z) b refl
bound-pair (PairForm (SymForm x) (PairForm b (SymForm e))) = by_test (bytes_eq e (codes "NIL")) (is_variable_name x) refl
  where
    by_test : (t v : Bool) → is_variable_name x ≡ v → (if v && t then Ok x else bad_form) ≡ by_pair (if t then paired (SymForm x) b else None)
    by_test true true h = ap (λ v. if v then Ok x else bad_form) (sym h)
    by_test true false h = ap (λ v. if v then Ok x else bad_form) (sym h)
    by_test false true h = refl
    by_test false false h = refl
bound-pair (PairForm (TextForm s) (PairForm b (SymForm e))) = other-name (bytes_eq e (codes "NIL")) (TextForm s) b refl
bound-pair (PairForm (PairForm a c) (PairForm b (SymForm e))) = other-name (bytes_eq e (codes "NIL")) (PairForm a c) b refl
bound-pair (PairForm a (IntForm z)) = no-second a (IntForm z) (λ x. refl)
bound-pair (PairForm a (SymForm s)) = no-second a (SymForm s) (λ x. refl)
bound-pair (PairForm a (TextForm s)) = no-second a (TextForm s) (λ x. refl)
bound-pair (PairForm a (PairForm b (IntForm z))) = no-second a (PairForm b (IntForm z)) (λ x. refl)
bound-pair (PairForm a (PairForm b (TextForm s))) = no-second a (PairForm b (TextForm s)) (λ x. refl)
bound-pair (PairForm a (PairForm b (PairForm c d))) = no-second a (PairForm b (PairForm c d)) (λ x. refl)

pub bound-unpaired : (d : Datum) → None ≡ pair_of d → bound_name d ≡ bad_form
bound-unpaired d h = bound-pair d ∙ ap by_pair (sym h)

bound-paired : (d a b : Datum) → paired a b ≡ pair_of d → bound_name d ≡ variable_of a
bound-paired d a b h = bound-pair d ∙ ap by_pair (sym h)

pub bound-refused : (d a b : Datum) (e : TermError) → paired a b ≡ pair_of d → SaysOutcome {A = Name} (variable_of a) (Err e) → SaysOutcome {A = Name} (bound_name d) (Err e)
bound-refused d a b (Refused code detail) h says = bound-paired d a b h ∙ says
bound-refused d a b Memory h says = tt

pub bound-taken : (d a b : Datum) (x : Name) → paired a b ≡ pair_of d → variable_of a ≡ Ok x → bound_name d ≡ Ok x
bound-taken d a b x h k = bound-paired d a b h ∙ k

abbrev first_in : Datum → Option (Datum × Datum) → Datum
first_in d None = d
first_in d (Some p) = p.0

abbrev second_in : Datum → Option (Datum × Datum) → Datum
second_in d None = d
second_in d (Some p) = p.1

pair-form : (d a b : Datum) → paired a b ≡ pair_of d → d ≡ PairForm a (PairForm b nil_form)
pair-form (IntForm z) a b h = cc
pair-form (SymForm s) a b h = cc
pair-form (TextForm s) a b h = cc
pair-form (PairForm x (IntForm z)) a b h = cc
pair-form (PairForm x (SymForm s)) a b h = cc
pair-form (PairForm x (TextForm s)) a b h = cc
pair-form (PairForm x (PairForm y (IntForm z))) a b h = cc
pair-form (PairForm x (PairForm y (SymForm s))) a b h = by_test (bytes_eq s (codes "NIL")) refl h
  where
    by_test : (t : Bool) → bytes_eq s (codes "NIL") ≡ t → paired a b ≡ (if t then paired x y else None) → PairForm x (PairForm y (SymForm s)) ≡ PairForm a (PairForm b nil_form)
    by_test true e h =
        let p : x ≡ a = sym (ap (first_in a) h) in
        let q : y ≡ b = sym (ap (second_in b) h) in
        let n : s ≡ codes "NIL" = same_name s (codes "NIL") e in
        λ i. PairForm (p i) (PairForm (q i) (SymForm (n i)))
    by_test false e h = cc
pair-form (PairForm x (PairForm y (TextForm s))) a b h = cc
pair-form (PairForm x (PairForm y (PairForm z d))) a b h = cc

variable-form : (a : Datum) (x : Name) → variable_of a ≡ Ok x → a ≡ SymForm x
variable-form (IntForm z) x h = cc
variable-form (SymForm s) x h = by_test (is_variable_name s) h
  where
    by_test : (v : Bool) → (if v then Ok s else bad_form) ≡ Ok x → SymForm s ≡ SymForm x
    by_test true h = cc
    by_test false h = cc
variable-form (TextForm s) x h = cc
variable-form (PairForm a d) x h = cc

pub binding-taken : (d a b : Datum) (x : Name) → paired a b ≡ pair_of d → variable_of a ≡ Ok x → d ≡ PairForm (SymForm x) (PairForm b nil_form)
binding-taken d a b x h k = pair-form d a b h ∙ ap (λ a. PairForm a (PairForm b nil_form)) (variable-form a x k)

pair-no_variable : (xs : List Form) (end : Datum) → 0 < length xs → variable_of (chain (map form_of xs) end) ≡ bad_form
pair-no_variable [] end h = absurd (omega arith)
pair-no_variable (x ∷ xs) end h = refl

pub list-no_variable : (fs : Forms) (t : Option (Rc Form Global)) → IsProper (Listed fs t) → variable_of (form_of (Listed fs t)) ≡ bad_form
list-no_variable fs t h = ap variable_of (form_of-listed fs t) ∙ pair-no_variable (held_by fs) (end_of t) (proper-list fs t h).some

pub ruleset variables = (list-no_variable, form_of-int, form_of-sym, form_of-text)

pub ruleset pairs = (bound-unpaired, bound-refused, bound-taken, binding-taken)

-- where the rest has another shape, the whole has
bad-rest : (b : Datum) → and_then (bound_name b) (λ x. bad_form) ≡ (bad_form {A = List Name})
bad-rest b = ap (λ o. and_then o (λ x. bad_form)) (bound-pair b) ∙ by_shape (pair_of b)
  where
    by_name : (d : Datum) → and_then (variable_of d) (λ x. bad_form) ≡ (bad_form {A = List Name})
    by_name (IntForm z) = refl
    by_name (SymForm s) = by_test (is_variable_name s)
      where
        by_test : (v : Bool) → and_then (if v then Ok s else bad_form) (λ x. bad_form) ≡ (bad_form {A = List Name})
        by_test true = refl
        by_test false = refl
    by_name (TextForm s) = refl
    by_name (PairForm a d) = refl

    by_shape : (o : Option (Datum × Datum)) → and_then (by_pair o) (λ x. bad_form) ≡ (bad_form {A = List Name})
    by_shape None = refl
    by_shape (Some p) = by_name p.0

pub unlisted-refused : (d : Datum) → is_list d ≡ false → bound_names d ≡ bad_form
unlisted-refused (IntForm z) h = refl
unlisted-refused (SymForm s) h = ap (λ t. if t then Ok [] else bad_form) h
unlisted-refused (TextForm s) h = refl
unlisted-refused (PairForm b d) h = ap (λ o. and_then (bound_name b) (λ x. map_outcome (λ xs. x ∷ xs) o)) (unlisted-refused d h) ∙ bad-rest b

names-each : (xs : List Form) → bound_names (chain (map form_of xs) nil_form) ≡ each (λ x. bound_name (form_of x)) xs
names-each [] = refl
names-each (x ∷ xs) = ap (and_rest (bound_name (form_of x))) (names-each xs)

pub list-refused : (xs : List Form) (e : TermError) → SaysOutcome {A = List Name} (each (λ x. bound_name (form_of x)) xs) (Err e) →
    SaysOutcome {A = List Name} (bound_names (chain (map form_of xs) nil_form)) (Err e)
list-refused xs (Refused code detail) says = names-each xs ∙ says
list-refused xs Memory says = tt

pub list-names : (xs : List Form) (ns : List Name) → each (λ x. bound_name (form_of x)) xs ≡ Ok ns → bound_names (chain (map form_of xs) nil_form) ≡ Ok ns
list-names xs ns h = names-each xs ∙ h

pub list-form : (xs : List Form) (fs : List Datum) → fs ≡ map form_of xs → chain (map form_of xs) nil_form ≡ chain fs nil_form
list-form xs fs h = ap (λ fs. chain fs nil_form) (sym h)

pub names-push : (bs : List Binding) (b : Binding) → names_of (bs ++ b ∷ []) ≡ names_of bs ++ b.name ∷ []
names-push [] b = refl
names-push (c ∷ bs) b = ap (λ ns. c.name ∷ ns) (names-push bs b)

pub forms-push : (bs : List Binding) (b : Binding) → map binding_form (bs ++ b ∷ []) ≡ map binding_form bs ++ binding_form b ∷ []
forms-push [] b = refl
forms-push (c ∷ bs) b = ap (λ fs. binding_form c ∷ fs) (forms-push bs b)

pub proper-push : (bs : List Binding) (b : Binding) → AreAllProper bs → IsProper b.form.now → AreAllProper (bs ++ b ∷ [])
proper-push [] b p h = (h, tt)
proper-push (c ∷ bs) b p h = (p.0, proper-push bs b p.1 h)

pub forms-more : (xs : List Form) (i : ℕ) (d : Form) → i < length xs → map form_of (take (i + 1) xs) ≡ map form_of (take i xs) ++ form_of (get_or xs i d) ∷ []
forms-more [] i d h = absurd (omega arith)
forms-more (x ∷ xs) zero d h = refl
forms-more (x ∷ xs) (suc i) d h = simp unary_clauses (ap (λ r. form_of x ∷ r) (simp unary_clauses at (forms-more xs i d (omega arith))))

pub says-same : (d c : Datum) (r : Result (List Binding) TermError) → d ≡ c → SaysBindings c r → SaysBindings d r
says-same d c r e h = subst (λ (d : Datum). SaysBindings d r) (sym e) h

pub ruleset lists = (each-more, each-refused, each-end, list-refused, list-names, list-form, names-push, forms-push, proper-push, forms-more, proper-at, take_all)

pub ruleset shapes = (unlisted-refused, says-same)

backwards-push : (bs : List Binding) (b : Binding) (ns : List Name) → backwards (bs ++ b ∷ []) ns ≡ b.name ∷ backwards bs ns
backwards-push [] b ns = refl
backwards-push (c ∷ bs) b ns = backwards-push bs b (c.name ∷ ns)

moved : (a b c : Bool) → (a || (b || c)) ≡ ((b || a) || c)
moved true true c = refl
moved true false c = refl
moved false true c = refl
moved false false c = refl

in-backwards : (bs : List Binding) (ns : List Name) (x : Name) → is_in (backwards bs ns) x ≡ (is_in (names_of bs) x || is_in ns x)
in-backwards [] ns x = refl
in-backwards (b ∷ bs) ns x = in-backwards bs (b.name ∷ ns) x ∙ moved (is_in (names_of bs) x) (bytes_eq b.name x) (is_in ns x)

or-none : (a : Bool) → (a || false) ≡ a
or-none true = refl
or-none false = refl

names-drop : (bs : List Binding) (i : ℕ) (b : Binding) → i < length bs → b ≡ get_or bs i b → names_of (drop i bs) ≡ b.name ∷ names_of (drop (i + 1) bs)
names-drop [] i b h e = absurd (omega arith)
names-drop (c ∷ bs) zero b h e = ap (λ (b : Binding). b.name ∷ names_of bs) (sym e)
names-drop (c ∷ bs) (suc i) b h e = simp unary_clauses (simp unary_clauses at (names-drop bs i b (omega arith) e))

-- the names from a place on, after those before it
abbrev from : List Binding → ℕ → Outcome (Unit {0})
from bs i = distinct_after (backwards (take i bs) []) (names_of (drop i bs))

from-step : (bs : List Binding) (i : ℕ) (b : Binding) → i < length bs → b ≡ get_or bs i b →
    from bs i ≡ (if is_in (names_of (take i bs)) b.name then Err (RepeatedFormal, detail.Name b.name) else from bs (i + 1))
from-step bs i b h e =
    let before : backwards (take (i + 1) bs) [] ≡ b.name ∷ backwards (take i bs) [] =
    ap (λ cs. backwards cs []) (take_more bs i b h) ∙ backwards-push (take i bs) (get_or bs i b) [] ∙ ap (λ (b : Binding). b.name ∷ backwards (take i bs) []) (sym e) in
    let test : is_in (backwards (take i bs) []) b.name ≡ is_in (names_of (take i bs)) b.name = in-backwards (take i bs) [] b.name ∙ or-none (is_in (names_of (take i bs)) b.name) in
    ap (distinct_after (backwards (take i bs) [])) (names-drop bs i b h e)
    ∙ ap (λ t. if t then Err (RepeatedFormal, detail.Name b.name) else distinct_after (b.name ∷ backwards (take i bs) []) (names_of (drop (i + 1) bs))) test
    ∙ ap (λ ns. if is_in (names_of (take i bs)) b.name then Err (RepeatedFormal, detail.Name b.name) else distinct_after ns (names_of (drop (i + 1) bs))) (sym before)

pub repeat-found : (bs : List Binding) (i : ℕ) (b : Binding) (all : Outcome (Unit {0})) → i < length bs → b ≡ get_or bs i b → is_in (names_of (take i bs)) b.name ≡ true →
    from bs i ≡ all → all ≡ Err (RepeatedFormal, detail.Name b.name)
repeat-found bs i b all h e t p = sym p ∙ from-step bs i b h e ∙ ap (λ t. if t then Err (RepeatedFormal, detail.Name b.name) else from bs (i + 1)) t

pub repeat-none : (bs : List Binding) (i : ℕ) (b : Binding) (all : Outcome (Unit {0})) → i < length bs → b ≡ get_or bs i b → is_in (names_of (take i bs)) b.name ≡ false →
    from bs i ≡ all → from bs (i + 1) ≡ all
repeat-none bs i b all h e t p = ap (λ t. if t then Err (RepeatedFormal, detail.Name b.name) else from bs (i + 1)) (sym t) ∙ sym (from-step bs i b h e) ∙ p

pub repeat-end : (bs : List Binding) (i : ℕ) (all : Outcome (Unit {0})) → length bs ≤ i → from bs i ≡ all → all ≡ Ok tt
repeat-end bs i all h p = sym p ∙ ap (λ cs. distinct_after (backwards (take i bs) []) (names_of cs)) (drop_all i bs h)

pub ruleset repeats = (repeat-found, repeat-none, repeat-end)

pub zip-more : (bs : List Binding) (ts : List Tm) (i : ℕ) (b : Binding) (t : Tm) → i < length bs → i < length ts → b ≡ get_or bs i b → t ≡ get_or ts i t →
    zip (names_of (take (i + 1) bs)) (take (i + 1) ts) ≡ zip (names_of (take i bs)) (take i ts) ++ (b.name, t) ∷ []
zip-more [] ts i b t h g e k = absurd (omega arith)
zip-more (c ∷ bs) [] i b t h g e k = absurd (omega arith)
zip-more (c ∷ bs) (u ∷ ts) zero b t h g e k = (λ j. (((sym e) j).name, (sym k) j) ∷ [])
zip-more (c ∷ bs) (u ∷ ts) (suc i) b t h g e k =
    let ih = zip-more bs ts i b t (omega arith) (omega arith) e k in
    simp unary_clauses (ap (λ r. (c.name, u) ∷ r) (simp unary_clauses at ih))

pub names-more : (bs : List Binding) (i : ℕ) (b : Binding) → i < length bs → b ≡ get_or bs i b → names_of (take (i + 1) bs) ≡ names_of (take i bs) ++ b.name ∷ []
names-more bs i b h e = ap names_of (take_more bs i b h) ∙ names-push (take i bs) (get_or bs i b) ∙ ap (λ (b : Binding). names_of (take i bs) ++ b.name ∷ []) (sym e)

pub ruleset grown = (names-more, append_assoc, take_all)

pub zip-grown : (bs : List Binding) (ts : List Tm) (i : ℕ) (b : Binding) (t u : Tm) (x : Name) (images more : Pairs) → i < length bs → i < length ts → b ≡ get_or bs i b → t ≡ get_or ts i t →
    x ≡ b.name → u ≡ t → images ≡ zip (names_of (take i bs)) (take i ts) → more ≡ images ++ (x, u) ∷ [] → more ≡ zip (names_of (take (i + 1) bs)) (take (i + 1) ts)
zip-grown bs ts i b t u x images more h g e k p q r s = s ∙ (λ j. r j ++ (p j, q j) ∷ []) ∙ sym (zip-more bs ts i b t h g e k)

pub ruleset images = (take_all)
