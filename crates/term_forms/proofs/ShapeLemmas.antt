-- Lists of forms by their items.
use Rattle.std.proofs.Common.{◌≡◌, ◌<◌, false, codes, List, [], ◌∷◌, length, get_or, map, Option, Some, None, if◌then◌else◌, refl, ap, sym, ◌∙◌, arith, Global}
use Rattle.std.specs.declared.rc.Rc.{Rc}
use Rattle.lisp_data.specs.Values.{Name}
use Rattle.lisp_data.specs.Datum.{Datum, IntForm, SymForm, TextForm, PairForm, nil_form, chain}
use Rattle.lisp_data.specs.FormView.{form_of, items_of as held_by, IsProper, IsEnd, AllProper, end_of}
use Rattle.lisp_data.specs.declared.form.Forms.{Forms}
use Rattle.lisp_data.specs.declared.form.Form.{Form, Int, Sym, Text, List as Listed, List'}
use Rattle.lisp_data.proofs.Chains.{form_of-list, form_of-dotted, form_of-int, form_of-sym, form_of-text}
use Rattle.lisp_data.proofs.Proper.{proper-list, proper-at, form_of-listed}
use Rattle.term_forms.specs.Translation.{is_list, is_t}
use Rattle.term_forms.specs.Shapes.{pair_of}
use Rattle.terms.proofs.Names.{name_apart}

pub is_list-chain : (fs : List Datum) (end : Datum) → is_list (chain fs end) ≡ is_list end
is_list-chain [] end = refl
is_list-chain (f ∷ fs) end = is_list-chain fs end

pub no_list-end : (f : Form) → IsEnd f → is_list (form_of f) ≡ false
unfolding IsEnd form_of
no_list-end (Int z) h = refl
no_list-end (Sym s) h = name_apart s (codes "NIL") h
no_list-end (Text s) h = refl
no_list-end (List' shape row tail) h = absurd h

pub no_list-pointed : (fs : Forms) (t : Rc Form Global) → IsProper (Listed fs (Some t)) → is_list (form_of (Listed fs (Some t))) ≡ false
no_list-pointed fs t h =
    ap is_list (form_of-dotted fs t) ∙ is_list-chain (map form_of (held_by fs)) (form_of t.value) ∙ no_list-end t.value (proper-list fs (Some t) h).last.1

pub no_list-sym : (s : Name) → (s ≡ codes "NIL" → ⊥) → is_list (form_of (Sym s)) ≡ false
no_list-sym s h = ap is_list (form_of-sym s) ∙ name_apart s (codes "NIL") h

pub proper-items : (fs : Forms) → IsProper (Listed fs None) → AllProper (held_by fs)
proper-items fs h = (proper-list fs None h).items

pub ruleset lists = (no_list-pointed, no_list-sym, proper-items, form_of-int, form_of-sym, form_of-text, form_of-list)

no_pair-unlisted : (d : Datum) → is_list d ≡ false → pair_of d ≡ None
no_pair-unlisted (IntForm z) h = refl
no_pair-unlisted (SymForm s) h = refl
no_pair-unlisted (TextForm s) h = refl
no_pair-unlisted (PairForm a (IntForm z)) h = refl
no_pair-unlisted (PairForm a (SymForm s)) h = refl
no_pair-unlisted (PairForm a (TextForm s)) h = refl
no_pair-unlisted (PairForm a (PairForm b (IntForm z))) h = refl
no_pair-unlisted (PairForm a (PairForm b (SymForm s))) h = ap (λ c. if c then Some (a, b) else None) h
no_pair-unlisted (PairForm a (PairForm b (TextForm s))) h = refl
no_pair-unlisted (PairForm a (PairForm b (PairForm c d))) h = refl

pub pair-unlisted : (d : Datum) → is_list d ≡ false → None ≡ pair_of d
pair-unlisted d h = sym (no_pair-unlisted d h)

pub pair-two : (d : Datum) (xs : List Form) (a b : Form) → d ≡ chain (map form_of xs) nil_form → length xs ≡ 2 → a ≡ get_or xs 0 a → b ≡ get_or xs 1 b → Some (form_of a, form_of b) ≡ pair_of d
pair-two d [] a b e n p q = absurd (omega arith)
pair-two d (x ∷ []) a b e n p q = absurd (omega arith)
pair-two d (x ∷ y ∷ []) a b e n p q = (λ i. Some (form_of (p i), form_of (q i))) ∙ ap pair_of (sym e)
pair-two d (x ∷ y ∷ z ∷ xs) a b e n p q = absurd (omega arith)

pub pair-other : (d : Datum) (xs : List Form) → d ≡ chain (map form_of xs) nil_form → (length xs ≡ 2 → ⊥) → None ≡ pair_of d
pair-other d [] e n = ap pair_of (sym e)
pair-other d (x ∷ []) e n = ap pair_of (sym e)
pair-other d (x ∷ y ∷ []) e n = absurd (n (omega arith))
pair-other d (x ∷ y ∷ z ∷ xs) e n = ap pair_of (sym e)

pub ruleset pairs = (pair-unlisted, pair-two, pair-other, proper-at)

pair-no_t : (xs : List Form) (end : Datum) → 0 < length xs → false ≡ is_t (chain (map form_of xs) end)
pair-no_t [] end h = absurd (omega arith)
pair-no_t (x ∷ xs) end h = refl

pub list-no_t : (fs : Forms) (t : Option (Rc Form Global)) → IsProper (Listed fs t) → false ≡ is_t (form_of (Listed fs t))
list-no_t fs t h = pair-no_t (held_by fs) (end_of t) (proper-list fs t h).some ∙ ap is_t (sym (form_of-listed fs t))

pub ruleset symbols = (list-no_t, form_of-int, form_of-sym, form_of-text)
