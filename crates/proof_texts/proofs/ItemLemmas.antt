-- The items of a form.
use Rattle.std.proofs.Common.{◌<◌, get_or, length, arith, ◌≡◌, ℕ, false, List, [], ◌∷◌, map, bytes_eq, codes, Option, Some, None, option_map, refl, ap, ◌∙◌, Global, if◌then◌else◌}
use Rattle.std.specs.declared.rc.Rc.{Rc}
use Rattle.lisp_data.specs.Datum.{Datum, nil_form, chain}
use Rattle.lisp_data.specs.FormView.{form_of, forms_of, items_of as held_by, IsProper, IsEnd, AllProper, end_of}
use Rattle.lisp_data.specs.declared.form.Forms.{Forms}
use Rattle.lisp_data.specs.declared.form.Form.{Form, Int, Sym, Text, List as Listed, List'}
use Rattle.lisp_data.proofs.Chains.{form_of-list, form_of-dotted, form_of-int, form_of-sym, form_of-text}
use Rattle.lisp_data.proofs.Proper.{proper-list, proper-more, form_of-listed}
use Rattle.terms.proofs.Names.{name_apart}
use Rattle.proof_texts.specs.Items.{items_of, symbol_of, text_of}

pub items_of-chain : (fs : List Datum) → items_of (chain fs nil_form) ≡ Some fs
items_of-chain [] = refl
items_of-chain (f ∷ fs) = ap (option_map (λ items. f ∷ items)) (items_of-chain fs)

items_of-dotted : (fs : List Datum) (end : Datum) → items_of end ≡ None → items_of (chain fs end) ≡ None
items_of-dotted [] end h = h
items_of-dotted (f ∷ fs) end h = ap (option_map (λ items. f ∷ items)) (items_of-dotted fs end h)

pub items_of-list : (fs : Forms) → items_of (form_of (Listed fs None)) ≡ Some (forms_of fs)
items_of-list fs = ap items_of (form_of-list fs) ∙ items_of-chain (forms_of fs)

not_nil : (s : List ℕ) → (s ≡ codes "NIL" → ⊥) → bytes_eq s (codes "NIL") ≡ false
not_nil s h = name_apart s (codes "NIL") h

items_of-end : (f : Form) → IsEnd f → items_of (form_of f) ≡ None
unfolding IsEnd form_of
items_of-end (Int z) h = refl
items_of-end (Sym s) h = ap (λ b. if b then Some [] else None) (not_nil s h)
items_of-end (Text s) h = refl
items_of-end (List' shape row tail) h = absurd h

-- a list with a form after its point is no list of items
pub items_of-pointed : (fs : Forms) (t : Rc Form Global) → IsProper (Listed fs (Some t)) → items_of (form_of (Listed fs (Some t))) ≡ None
items_of-pointed fs t h =
    ap items_of (form_of-dotted fs t) ∙ items_of-dotted (forms_of fs) (form_of t.value) (items_of-end t.value (proper-list fs (Some t) h).last.1)

pub proper_items : (fs : Forms) → IsProper (Listed fs None) → AllProper (held_by fs)
proper_items fs h = (proper-list fs None h).items

pub ruleset item_steps = (items_of-list, items_of-pointed, proper_items, form_of-int, form_of-sym, form_of-text)

pair_first : (xs : List Form) (end : Datum) → 0 < length xs → symbol_of (chain (map form_of xs) end) ≡ None
pair_first [] end h = absurd (omega arith)
pair_first (x ∷ xs) end h = refl

-- a list is no symbol
pub symbol_of-list : (fs : Forms) (t : Option (Rc Form Global)) → IsProper (Listed fs t) → symbol_of (form_of (Listed fs t)) ≡ None
symbol_of-list fs t h = ap symbol_of (form_of-listed fs t) ∙ pair_first (held_by fs) (end_of t) (proper-list fs t h).some

pub ruleset no_symbols = (symbol_of-list, form_of-int, form_of-sym, form_of-text)

no_text_first : (xs : List Form) (end : Datum) → 0 < length xs → text_of (chain (map form_of xs) end) ≡ None
no_text_first [] end h = absurd (omega arith)
no_text_first (x ∷ xs) end h = refl

-- a list is no string
pub text_of-list : (fs : Forms) (t : Option (Rc Form Global)) → IsProper (Listed fs t) → text_of (form_of (Listed fs t)) ≡ None
text_of-list fs t h = ap text_of (form_of-listed fs t) ∙ no_text_first (held_by fs) (end_of t) (proper-list fs t h).some

pub ruleset no_texts = (text_of-list, form_of-int, form_of-sym, form_of-text)

pub proper_at : (xs : List Form) (i : ℕ) (x : Form) → i < length xs → x ≡ get_or xs i x → AllProper xs → IsProper x
proper_at xs i x h e p = proper-more xs i x h e p
