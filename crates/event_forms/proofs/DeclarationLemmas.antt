-- Declarations, one part at a time.
use Rattle.std.proofs.Common.{◌≡◌, ◌∙◌, ℕ, zero, suc, ◌+◌, ◌<◌, List, [], ◌∷◌, length, get_or, drop, map, Some, None, Ok, ap, sym, arith}
use native.Mathlib.Numerals.{unary_clauses}
use Rattle.lisp_data.specs.Datum.{Datum}
use Rattle.lisp_data.specs.FormView.{form_of}
use Rattle.lisp_data.specs.declared.form.Form.{Form}
use Rattle.term_forms.specs.Translation.{and_then}
use Rattle.proof_texts.specs.Items.{items_of}
use Rattle.event_forms.specs.Declarations.{before_body, body_of, declare_list, or_after, value_in, declared_value}
use Rattle.event_forms.specs.declared.keys.SeenKeys.{SeenKeys}
use Rattle.proof_texts.proofs.ItemLemmas.{proper_at}

-- the forms from a place on begin with the form there
pub forms_from : (xs : List Form) (i : ℕ) (x : Form) → i < length xs → x ≡ get_or xs i x → map form_of (drop i xs) ≡ form_of x ∷ map form_of (drop (i + 1) xs)
forms_from [] i x h e = absurd (omega arith)
forms_from (y ∷ xs) zero x h e = ap (λ z. form_of z ∷ map form_of xs) (sym e)
forms_from (y ∷ xs) (suc i) x h e = simp unary_clauses (simp unary_clauses at (forms_from xs i x (omega arith) e))

pub body_of-step : (rest : List Form) (i : ℕ) (part next : Form) (seen more : SeenKeys) → i < length rest → next ≡ get_or rest i next → before_body seen (form_of part) ≡ Ok more →
    body_of more (form_of next) (map form_of (drop (i + 1) rest)) ≡ body_of seen (form_of part) (map form_of (drop i rest))
body_of-step rest i part next seen more h e r =
    sym (ap (body_of seen (form_of part)) (forms_from rest i next h e) ∙ ap (λ o. and_then o (λ seen. body_of seen (form_of next) (map form_of (drop (i + 1) rest)))) r)

-- the value of a key, part by part
pub value-there : (key : List ℕ) (rest : List Form) (i : ℕ) (part next : Form) (v : Datum) → i < length rest → next ≡ get_or rest i next → value_in key (declare_list (items_of (form_of part))) ≡ Some v →
    declared_value key (form_of part) (map form_of (drop i rest)) ≡ Some v
value-there key rest i part next v h e r =
    ap (declared_value key (form_of part)) (forms_from rest i next h e) ∙ ap (λ o. or_after o (declared_value key (form_of next) (map form_of (drop (i + 1) rest)))) r

pub value-step : (key : List ℕ) (rest : List Form) (i : ℕ) (part next : Form) → i < length rest → next ≡ get_or rest i next → value_in key (declare_list (items_of (form_of part))) ≡ None →
    declared_value key (form_of next) (map form_of (drop (i + 1) rest)) ≡ declared_value key (form_of part) (map form_of (drop i rest))
value-step key rest i part next h e r =
    sym (ap (declared_value key (form_of part)) (forms_from rest i next h e) ∙ ap (λ o. or_after o (declared_value key (form_of next) (map form_of (drop (i + 1) rest)))) r)

pub ruleset parts = (proper_at, body_of-step, value-there, value-step)
