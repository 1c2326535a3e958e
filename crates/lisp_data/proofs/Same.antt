-- When two forms are the same.
use Rattle.std.proofs.Common.{◌≡◌, ◌<◌, zero, suc, length, get_or, arith, Option, Some, None, ℕ, ℤ, Bool, true, false, not, ◌&&◌, nat_eq, List, [], ◌∷◌, map, refl, ap, sym, subst, ◌∙◌, Global}
use Rattle.std.specs.Option.{is_some}
use lib.Pointwise.{pointwise}
use Rattle.std.proofs.lemmas.Bool.Decides.{nat_tests}
use Rattle.std.proofs.lemmas.List.{length-map}
use Rattle.std.specs.declared.rc.Rc.{Rc}
use Rattle.lisp_data.specs.Datum.{Datum, IntForm, SymForm, TextForm, PairForm, nil_form, chain}
use Rattle.lisp_data.specs.view.FormView.{form_of, forms_of, end_of, EndIsProper, IsEnd, IsProper, AllProper}
use Rattle.lisp_data.specs.declared.form.Forms.{Forms}
use Rattle.lisp_data.specs.declared.form.Form.{Form, Int, Sym, Text, List as Listed, List'}
use Rattle.lisp_data.proofs.Chains.{form_of-int, form_of-sym, form_of-text, form_of-list, form_of-dotted}
use Rattle.lisp_data.proofs.Proper.{form_of-listed, proper-list, lists-alike}

-- a proper list is a pair
pub list-pair : (fs : Forms) (t : Option (Rc Form Global)) → IsProper (Listed fs t) → (a : Datum) × (d : Datum) × (form_of (Listed fs t) ≡ PairForm a d)
list-pair fs t h = on (forms_of fs) (length-map fs.items.items form_of) (form_of-listed fs t)
  where
    on : (xs : List Datum) → length xs ≡ length fs.items.items → form_of (Listed fs t) ≡ chain xs (end_of t) → (a : Datum) × (d : Datum) × (form_of (Listed fs t) ≡ PairForm a d)
    on [] e k = let some = (proper-list fs t h).some in absurd (omega arith)
    on (x ∷ xs) e k = (x, chain xs (end_of t), k)

pub int_list-apart : (fs : Forms) (t : Option (Rc Form Global)) (z : ℤ) → IsProper (Listed fs t) → IntForm z ≡ form_of (Listed fs t) → ⊥
int_list-apart fs t z h e = let p = list-pair fs t h in let q = p.2 in cc

pub sym_list-apart : (fs : Forms) (t : Option (Rc Form Global)) (s : List ℕ) → IsProper (Listed fs t) → SymForm s ≡ form_of (Listed fs t) → ⊥
sym_list-apart fs t s h e = let p = list-pair fs t h in let q = p.2 in cc

pub text_list-apart : (fs : Forms) (t : Option (Rc Form Global)) (s : List ℕ) → IsProper (Listed fs t) → TextForm s ≡ form_of (Listed fs t) → ⊥
text_list-apart fs t s h e = let p = list-pair fs t h in let q = p.2 in cc

pub text-same : (a b : List ℕ) → a ≡ b → pointwise nat_eq a b ≡ true
text-same a b e = subst (λ (c : List ℕ). pointwise nat_eq a c ≡ true) e (on a)
  where
    on : (c : List ℕ) → pointwise nat_eq c c ≡ true
    on [] = refl
    on (x ∷ xs) = let same : nat_eq x x ≡ true = grind (arith, nat_tests) in ap (λ b. b && pointwise nat_eq xs xs) same ∙ on xs

-- an end after a point isn't NIL
end-nil : (t : Form) → IsEnd t → form_of t ≡ nil_form → ⊥
unfolding IsEnd form_of
end-nil (Int z) h e = cc
end-nil (Sym s) h e = h cc
end-nil (Text s) h e = cc
end-nil (List' shape row tail) h e = absurd h

pub ends-none : (t : Option (Rc Form Global)) → EndIsProper t → end_of t ≡ nil_form → is_some t ≡ false
ends-none None h e = refl
ends-none (Some t) h e = absurd (end-nil t.value h.1 e)

pub ends-alike : (t u : Option (Rc Form Global)) (b : Bool) → t ≡ None → EndIsProper u → end_of t ≡ end_of u → is_some u ≡ not b → b ≡ true
ends-alike t u b n p e h = on b (sym h ∙ ends-none u p (sym e ∙ ap end_of n))
  where
    on : (b : Bool) → not b ≡ false → b ≡ true
    on true k = refl
    on false k = cc

pub ends-apart : (t u : Option (Rc Form Global)) (a : Rc Form Global) → t ≡ Some a → u ≡ None → EndIsProper t → end_of t ≡ end_of u → ⊥
ends-apart t u a is n p e = let empty : is_some t ≡ false = ends-none t p (e ∙ ap end_of n) in let full : is_some t ≡ true = ap is_some is in cc

pub items-alike : (xs ys : List Form) (i : ℕ) (d : Form) → i < length xs → i < length ys → map form_of xs ≡ map form_of ys → form_of (get_or xs i d) ≡ form_of (get_or ys i d)
items-alike [] ys i d h k e = absurd (omega arith)
items-alike (x ∷ xs) [] i d h k e = absurd (omega arith)
items-alike (x ∷ xs) (y ∷ ys) zero d h k e = cc
items-alike (x ∷ xs) (y ∷ ys) (suc i) d h k e = let rest : map form_of xs ≡ map form_of ys = cc in items-alike xs ys i d (omega arith) (omega arith) rest

pub texts-alike : (f g : Form) (a b : List ℕ) → f ≡ Text a → g ≡ Text b → form_of f ≡ form_of g → a ≡ b
texts-alike f g a b p q e = let same : TextForm a ≡ TextForm b = sym (ap form_of p ∙ form_of-text a) ∙ e ∙ ap form_of q ∙ form_of-text b in cc

pub record Alike (fs gs : Forms) (t u : Option (Rc Form Global)) : Type 0 where
  pub left : AllProper fs.items.items
  pub right : AllProper gs.items.items
  pub items : forms_of fs ≡ forms_of gs
  pub tail : EndIsProper t
  pub end : EndIsProper u
  pub ends : end_of t ≡ end_of u

pub parts-alike : (f g : Form) (fs gs : Forms) (t u : Option (Rc Form Global)) → f ≡ Listed fs t → g ≡ Listed gs u → IsProper f → IsProper g → form_of f ≡ form_of g → Alike fs gs t u
parts-alike f g fs gs t u is js p q e =
    let left = proper-list fs t (subst IsProper is p) in
    let right = proper-list gs u (subst IsProper js q) in
    let alike = lists-alike fs gs t u left right (sym (ap form_of is) ∙ e ∙ ap form_of js) in
    record { left = left.items; right = right.items; items = alike.0; tail = left.last; end = right.last; ends = alike.1 }

pub ruleset same = (form_of-int, form_of-sym, form_of-text, form_of-listed, int_list-apart, sym_list-apart, text_list-apart)
