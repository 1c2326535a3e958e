-- The parts of rules that are no proofs, one item at a time.
use Rattle.std.proofs.Common.{Err, false, codes, Some, None, if◌then◌else◌, ◌≡◌, ℕ, zero, suc, ◌+◌, ◌<◌, ◌≤◌, Ok, List, [], ◌∷◌, ◌++◌, length, get_or, map, drop, Option, refl, ap, sym, ◌∙◌, arith, Global}
use native.Mathlib.Numerals.{unary_clauses}
use Rattle.std.specs.declared.rc.Rc.{Rc}
use Rattle.std.proofs.lemmas.List.{append-nil, drop_all}
use Rattle.lisp_data.specs.Datum.{Datum, chain, nil_form}
use Rattle.lisp_data.specs.FormView.{form_of, items_of as held_by, IsProper, IsEnd, AllProper, end_of}
use Rattle.lisp_data.specs.declared.form.Forms.{Forms}
use Rattle.lisp_data.specs.declared.form.Form.{Form, Int, Sym, Text, List as Listed, List'}
use Rattle.lisp_data.proofs.Chains.{form_of-int, form_of-sym, form_of-text}
use Rattle.lisp_data.proofs.Proper.{proper-list, form_of-listed}
use Rattle.term_forms.specs.Translation.{Outcome, and_rest}
use Rattle.term_forms.specs.Outcomes.{each, after}
use Rattle.proof_texts.specs.Refused.{IsRefusal}
use Rattle.proof_texts.specs.declared.errors.ProofError.{ProofError}
use Rattle.proof_texts.specs.declared.errors.ProofError.TheVariants.{Refused, Memory}
use Rattle.proof_texts.specs.Parts.{number_of, both, two_symbols}
use Rattle.proof_texts.specs.Items.{symbol_of, is_word}
use Rattle.terms.proofs.Names.{name_apart}
use Rattle.proof_texts.specs.Refused.{bad_proof}
use Rattle.proof_texts.proofs.ItemLemmas.{proper_at}

-- a list is no number
listed_no_number : (xs : List Form) (end : Datum) → 0 < length xs → number_of (chain (map form_of xs) end) ≡ bad_proof
listed_no_number [] end h = absurd (omega arith)
listed_no_number (x ∷ xs) end h = refl

pub number_of-list : (fs : Forms) (t : Option (Rc Form Global)) → IsProper (Listed fs t) → number_of (form_of (Listed fs t)) ≡ bad_proof
number_of-list fs t h = ap number_of (form_of-listed fs t) ∙ listed_no_number (held_by fs) (end_of t) (proper-list fs t h).some

pub ruleset numbers = (number_of-list, form_of-int, form_of-sym, form_of-text)

after-step : {A : Type 0} (xs : List A) (x : A) (o : Outcome (List A)) → after (xs ++ x ∷ []) o ≡ after xs (and_rest (Ok x) o)
after-step xs x (Err e) = refl
after-step {A = A} xs x (Ok ys) = ap Ok (more xs)
  where
    more : (zs : List A) → (zs ++ x ∷ []) ++ ys ≡ zs ++ x ∷ ys
    more [] = refl
    more (z ∷ zs) = ap (λ r. z ∷ r) (more zs)

module _ {B : Type 0} (f : Datum → Outcome B) where
  -- the outcomes from a place on
  abbrev pub each_from : List Form → ℕ → Outcome (List B)
  each_from xs i = each f (map form_of (drop i xs))

  each-step : (xs : List Form) (i : ℕ) (d : Form) → i < length xs → each_from xs i ≡ and_rest (f (form_of (get_or xs i d))) (each_from xs (i + 1))
  each-step [] i d h = absurd (omega arith)
  each-step (x ∷ xs) zero d h = refl
  each-step (x ∷ xs) (suc i) d h = simp unary_clauses (simp unary_clauses at (each-step xs i d (omega arith)))

  pub each-more : (xs : List Form) (i : ℕ) (d : Form) (ys : List B) (y : B) → i < length xs → f (form_of (get_or xs i d)) ≡ Ok y → after (ys ++ y ∷ []) (each_from xs (i + 1)) ≡ after ys (each_from xs i)
  each-more xs i d ys y h e = after-step ys y (each_from xs (i + 1)) ∙ ap (after ys) (ap (λ o. and_rest o (each_from xs (i + 1))) (sym e) ∙ sym (each-step xs i d h))

  pub each-refused : (xs : List Form) (i : ℕ) (d : Form) (ys : List B) (e : ProofError) → i < length xs →
      after ys (each_from xs i) ≡ each_from xs 0 → IsRefusal (f (form_of (get_or xs i d))) e → IsRefusal (each_from xs 0) e
  each-refused xs i d ys (Refused code detail) h g r = sym g ∙ ap (after ys) (each-step xs i d h ∙ ap (λ o. and_rest o (each_from xs (i + 1))) r)
  each-refused xs i d ys Memory h g r = tt

  pub each-end : (xs : List Form) (i : ℕ) (ys : List B) → length xs ≤ i → after ys (each_from xs i) ≡ each_from xs 0 → each_from xs 0 ≡ Ok ys
  each-end xs i ys h g = sym g ∙ ap (λ zs. after ys (each f (map form_of zs))) (drop_all i xs h) ∙ ap Ok (append-nil ys)

pub ruleset items = (each-more, each-refused, each-end, proper_at)

end_no_nil : (f : Form) → IsEnd f → is_word (codes "NIL") (form_of f) ≡ false
unfolding IsEnd form_of
end_no_nil (Int z) h = refl
end_no_nil (Sym s) h = name_apart s (codes "NIL") h
end_no_nil (Text s) h = refl
end_no_nil (List' shape row tail) h = absurd h

both-none : {A B : Type 0} (a : Option A) → both {A = A} {B = B} a None ≡ None
both-none None = refl
both-none (Some a) = refl

-- one item, and a form after a point
one_pointed : (xs : List Form) (end : Datum) (x : Form) → 1 ≤ length xs → length xs < 2 → x ≡ get_or xs 0 x → is_word (codes "NIL") end ≡ false →
    two_symbols (chain (map form_of xs) end) ≡ both (symbol_of (form_of x)) (symbol_of end)
one_pointed [] end x h n e q = absurd (omega arith)
one_pointed (y ∷ []) end x h n e q =
    ap (λ b. if b then None else both (symbol_of (form_of y)) (symbol_of end)) q ∙ ap (λ z. both (symbol_of (form_of z)) (symbol_of end)) (sym e)
one_pointed (y ∷ z ∷ xs) end x h n e q = absurd (omega arith)

pub pointed-one : (fs : Forms) (t : Rc Form Global) (x : Form) → IsProper (Listed fs (Some t)) → 1 ≤ length (held_by fs) → length (held_by fs) < 2 → x ≡ get_or (held_by fs) 0 x →
    two_symbols (form_of (Listed fs (Some t))) ≡ both (symbol_of (form_of x)) (symbol_of (form_of t.value))
pointed-one fs t x p h n e =
    ap two_symbols (form_of-listed fs (Some t)) ∙ one_pointed (held_by fs) (form_of t.value) x h n e (end_no_nil t.value (proper-list fs (Some t) p).last.1)

more_pointed : (xs : List Form) (end : Datum) → 2 ≤ length xs → two_symbols (chain (map form_of xs) end) ≡ None
more_pointed [] end h = absurd (omega arith)
more_pointed (x ∷ []) end h = absurd (omega arith)
more_pointed (x ∷ y ∷ xs) end h = both-none (symbol_of (form_of x))

pub pointed-more : (fs : Forms) (t : Rc Form Global) → IsProper (Listed fs (Some t)) → 2 ≤ length (held_by fs) → two_symbols (form_of (Listed fs (Some t))) ≡ None
pointed-more fs t p h = ap two_symbols (form_of-listed fs (Some t)) ∙ more_pointed (held_by fs) (form_of t.value) h

pub pointed-some : (fs : Forms) (t : Rc Form Global) → IsProper (Listed fs (Some t)) → 1 ≤ length (held_by fs)
pointed-some fs t p = (proper-list fs (Some t) p).some

not_pointed : (xs : List Form) → 0 < length xs → two_symbols (chain (map form_of xs) nil_form) ≡ None
not_pointed [] h = absurd (omega arith)
not_pointed (x ∷ []) h = refl
not_pointed (x ∷ y ∷ xs) h = both-none (symbol_of (form_of x))

pub pointed-none : (fs : Forms) → IsProper (Listed fs None) → two_symbols (form_of (Listed fs None)) ≡ None
pointed-none fs p = ap two_symbols (form_of-listed fs None) ∙ not_pointed (held_by fs) (proper-list fs None p).some

pub pointed-items : (fs : Forms) (t : Rc Form Global) → IsProper (Listed fs (Some t)) → AllProper (held_by fs)
pointed-items fs t p = (proper-list fs (Some t) p).items

pub pointed-end : (fs : Forms) (t : Rc Form Global) → IsProper (Listed fs (Some t)) → IsProper t.value
pointed-end fs t p = (proper-list fs (Some t) p).last.0

pub ruleset pointed = (pointed-one, pointed-more, pointed-some, pointed-none, pointed-items, pointed-end, form_of-int, form_of-sym, form_of-text, proper_at)
