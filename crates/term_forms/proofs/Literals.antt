-- Parts of words by their forms.
use Rattle.std.proofs.Common.{◌≡◌, ◌<◌, Option, None, List, [], ◌∷◌, length, get_or, map, refl, ap, sym, ◌∙◌, arith, Global}
use Rattle.std.specs.declared.rc.Rc.{Rc}
use Rattle.lisp_data.specs.Datum.{Datum, nil_form, chain}
use Rattle.lisp_data.specs.FormView.{form_of, items_of as held_by, IsProper, end_of}
use Rattle.lisp_data.specs.declared.form.Forms.{Forms}
use Rattle.lisp_data.specs.declared.form.Form.{Form, List as Listed}
use Rattle.lisp_data.proofs.Chains.{form_of-list, form_of-dotted, form_of-int, form_of-sym, form_of-text}
use Rattle.lisp_data.proofs.Proper.{proper-list, proper-at, form_of-listed}
use Rattle.terms.specs.Terms.{Tm}
use Rattle.term_forms.specs.Macros.{negated, difference, less_by, minus}

pair-unnegated : (xs : List Form) (end : Datum) → 0 < length xs → negated (chain (map form_of xs) end) ≡ None
pair-unnegated [] end h = absurd (omega arith)
pair-unnegated (x ∷ xs) end h = refl

-- a list is no literal
pub negated-list : (fs : Forms) (t : Option (Rc Form Global)) → IsProper (Listed fs t) → negated (form_of (Listed fs t)) ≡ None
negated-list fs t h = ap negated (form_of-listed fs t) ∙ pair-unnegated (held_by fs) (end_of t) (proper-list fs t h).some

pub ruleset literals = (negated-list, form_of-int, form_of-sym, form_of-text)

pub difference-one : (xs : List Form) (ts : List Tm) (t : Tm) → length xs ≡ length ts → length ts ≡ 1 → t ≡ get_or ts 0 t → difference (chain (map form_of xs) nil_form) ts ≡ minus t
difference-one xs [] t h n e = absurd (omega arith)
difference-one [] (u ∷ ts) t h n e = absurd (omega arith)
difference-one (x ∷ []) (u ∷ []) t h n e = ap minus (sym e)
difference-one (x ∷ y ∷ xs) (u ∷ []) t h n e = absurd (omega arith)
difference-one xs (u ∷ v ∷ ts) t h n e = absurd (omega arith)

pub difference-two : (xs : List Form) (ts : List Tm) (t u : Tm) (d : Form) → length xs ≡ length ts → length ts ≡ 2 → t ≡ get_or ts 0 t → u ≡ get_or ts 1 u →
    difference (chain (map form_of xs) nil_form) ts ≡ less_by t u (negated (form_of (get_or xs 1 d)))
difference-two xs [] t u d h n e f = absurd (omega arith)
difference-two xs (v ∷ []) t u d h n e f = absurd (omega arith)
difference-two [] (v ∷ w ∷ ts) t u d h n e f = absurd (omega arith)
difference-two (x ∷ []) (v ∷ w ∷ ts) t u d h n e f = absurd (omega arith)
difference-two (x ∷ y ∷ xs) (v ∷ w ∷ ts) t u d h n e f = λ i. less_by (sym e i) (sym f i) (negated (form_of y))

pub ruleset differences = (difference-one, difference-two, proper-at)

pub ruleset parts = (proper-at)
