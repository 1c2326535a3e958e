-- What a form is seen as, one level at a time.
use Rattle.std.proofs.lemmas.List.{take_all}
use native.Mathlib.Numerals.{unary_clauses}
use Rattle.std.proofs.Common.{◌≡◌, ◌+◌, ◌<◌, ◌++◌, zero, suc, length, get_or, take, arith, Option, Some, None, ℕ, ℤ, List, [], ◌∷◌, map, refl, ap, sym, ◌∙◌, Global}
use Rattle.std.specs.declared.rc.Rc.{Rc}
use Rattle.lisp_data.specs.Datum.{Datum, IntForm, SymForm, TextForm, PairForm, nil_form, chain}
use Rattle.lisp_data.specs.view.FormView.{form_of, row_chain, held_end, forms_of}
use Rattle.lisp_data.specs.declared.form.Forms.{Forms}
use Rattle.lisp_data.specs.declared.form.Form.{Form, Int, Sym, Text, List as Listed, List', Row_of-Form, end_of-Form, more_of-Form, items-the_row-Form, items_hidden-the_row-Form-0}

row_chain-items : (n : _) (row : Row_of-Form n) (end : Datum) → row_chain row end ≡ chain (map form_of (items-the_row-Form n row)) end
unfolding row_chain
row_chain-items n end_of-Form end = refl
row_chain-items n (more_of-Form f rest) end = ap (λ c. PairForm (form_of f) c) (row_chain-items _ rest end)

abbrev pub row_of : Form → (n : _) × Row_of-Form n
row_of (List' shape row tail) = (_, row)
row_of _ = (_, end_of-Form)

pub form_of-int : (z : ℤ) → form_of (Int z) ≡ IntForm z
unfolding form_of
form_of-int z = refl

pub form_of-sym : (s : List ℕ) → form_of (Sym s) ≡ SymForm s
unfolding form_of
form_of-sym s = refl

pub form_of-text : (s : List ℕ) → form_of (Text s) ≡ TextForm s
unfolding form_of
form_of-text s = refl

pub form_of-list : (fs : Forms) → form_of (Listed fs None) ≡ chain (forms_of fs) nil_form
unfolding form_of held_end
form_of-list fs = let row = row_of (Listed fs None) in row_chain-items row.0 row.1 nil_form ∙ ap (λ xs. chain (map form_of xs) nil_form) (items_hidden-the_row-Form-0 fs.items)

pub form_of-dotted : (fs : Forms) (t : Rc Form Global) → form_of (Listed fs (Some t)) ≡ chain (forms_of fs) (form_of t.value)
unfolding form_of held_end
form_of-dotted fs t = let row = row_of (Listed fs (Some t)) in row_chain-items row.0 row.1 (form_of t.value) ∙ ap (λ xs. chain (map form_of xs) (form_of t.value)) (items_hidden-the_row-Form-0 fs.items)

pub ruleset chains = (form_of-int, form_of-sym, form_of-text, form_of-list, form_of-dotted)

-- the forms up to a place
abbrev pub forms_to : List Form → ℕ → List Datum
forms_to xs i = map form_of (take i xs)

pub forms_to-step : (xs : List Form) (i : ℕ) (d : Form) → i < length xs → forms_to xs (i + 1) ≡ forms_to xs i ++ form_of (get_or xs i d) ∷ []
forms_to-step [] i d h = absurd (omega arith)
forms_to-step (x ∷ xs) zero d h = refl
forms_to-step (x ∷ xs) (suc i) d h = simp unary_clauses (ap (λ r. form_of x ∷ r) (simp unary_clauses at (forms_to-step xs i d (omega arith))))

pub ruleset lists = (forms_to-step, take_all)
