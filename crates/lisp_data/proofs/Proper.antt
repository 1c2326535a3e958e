-- Proper forms that are seen alike are written alike.
use Rattle.std.proofs.Common.{◌≡◌, ◌<◌, ◌++◌, zero, suc, length, get_or, arith, Option, Some, None, ℕ, ℤ, List, [], ◌∷◌, refl, ap, sym, subst, ◌∙◌, Global, IfSome, nat_lt, ltb-true}
use Rattle.std.specs.Option.{is_some}
use denote.Ref.{Bor}
use Rattle.std.proofs.lemmas.List.{length-map, length-append}
use Rattle.std.specs.declared.rc.Rc.{Rc}
use Rattle.lisp_data.specs.Datum.{Datum, PairForm, chain}
use Rattle.lisp_data.specs.view.FormView.{form_of, forms_of, end_of, EndIsProper, IsEnd, IsProper, HasItem, RowIsProper, HasEnd, AllProper, AreProper}
use Rattle.lisp_data.specs.declared.form.Forms.{Forms}
use Rattle.lisp_data.specs.declared.form.Form.{Form, Int, Sym, Text, List as Listed, List', Row_of-Form, end_of-Form, more_of-Form, items-the_row-Form, items_hidden-the_row-Form-0}
use Rattle.lisp_data.proofs.Chains.{row_of, form_of-int, form_of-sym, form_of-text, form_of-list, form_of-dotted}

all-row : (n : _) (row : Row_of-Form n) → RowIsProper row → AllProper (items-the_row-Form n row)
unfolding RowIsProper
all-row n end_of-Form h = tt
all-row n (more_of-Form f rest) h = (h.0, all-row _ rest h.1)

some-row : (n : _) (row : Row_of-Form n) → HasItem row → 0 < length (items-the_row-Form n row)
unfolding HasItem
some-row n end_of-Form h = absurd h
some-row n (more_of-Form f rest) h = omega arith

row-all : (n : _) (row : Row_of-Form n) → AllProper (items-the_row-Form n row) → RowIsProper row
unfolding RowIsProper
row-all n end_of-Form h = tt
row-all n (more_of-Form f rest) h = (h.0, row-all _ rest h.1)

row-some : (n : _) (row : Row_of-Form n) → 0 < length (items-the_row-Form n row) → HasItem row
unfolding HasItem
row-some n end_of-Form h = absurd (omega arith)
row-some n (more_of-Form f rest) h = tt

pub record ProperList (fs : Forms) (t : Option (Rc Form Global)) : Type 0 where
  pub some : 0 < length fs.items.items
  pub items : AllProper fs.items.items
  pub last : EndIsProper t

pub proper-list : (fs : Forms) (t : Option (Rc Form Global)) → IsProper (Listed fs t) → ProperList fs t
unfolding IsProper HasEnd
proper-list fs None h =
    let row = row_of (Listed fs None) in
    let same = items_hidden-the_row-Form-0 fs.items in
    record { some = subst (λ (xs : List Form). 0 < length xs) same (some-row row.0 row.1 h.0); items = subst AllProper same (all-row row.0 row.1 h.1); last = tt }
proper-list fs (Some t) h =
    let row = row_of (Listed fs (Some t)) in
    let same = items_hidden-the_row-Form-0 fs.items in
    record { some = subst (λ (xs : List Form). 0 < length xs) same (some-row row.0 row.1 h.0); items = subst AllProper same (all-row row.0 row.1 h.1); last = h.2 }

listed-row : (fs : Forms) (t : Option (Rc Form Global)) → ProperList fs t → HasItem (row_of (Listed fs t)).1 × RowIsProper (row_of (Listed fs t)).1
listed-row fs t p =
    let row = row_of (Listed fs t) in
    let same = sym (items_hidden-the_row-Form-0 fs.items) in
    (row-some row.0 row.1 (subst (λ (xs : List Form). 0 < length xs) same p.some), row-all row.0 row.1 (subst AllProper same p.items))

pub listed-proper : (fs : Forms) (t : Option (Rc Form Global)) → ProperList fs t → IsProper (Listed fs t)
unfolding IsProper HasEnd
listed-proper fs None p = let row = listed-row fs None p in (row.0, row.1, tt)
listed-proper fs (Some t) p = let row = listed-row fs (Some t) p in (row.0, row.1, p.last)

pub form_of-listed : (fs : Forms) (t : Option (Rc Form Global)) → form_of (Listed fs t) ≡ chain (forms_of fs) (end_of t)
form_of-listed fs None = form_of-list fs
form_of-listed fs (Some t) = form_of-dotted fs t

abbrev NoPair : Datum → Type 0
NoPair (PairForm a d) = ⊥
NoPair _ = Unit {0}

no_pair-end : (f : Form) → IsEnd f → NoPair (form_of f)
unfolding IsEnd form_of
no_pair-end (Int z) h = tt
no_pair-end (Sym s) h = tt
no_pair-end (Text s) h = tt
no_pair-end (List' shape row tail) h = absurd h

no_pair : (t : Option (Rc Form Global)) → EndIsProper t → NoPair (end_of t)
no_pair None h = tt
no_pair (Some t) h = no_pair-end t.value h.1

chain-apart : (a d e : Datum) → NoPair e → PairForm a d ≡ e → ⊥
chain-apart a d e n h = subst NoPair (sym h) n

-- chains with ends that are no pairs are alike only where items and ends are
chains-alike : (xs ys : List Datum) (e g : Datum) → NoPair e → NoPair g → chain xs e ≡ chain ys g → (xs ≡ ys) × (e ≡ g)
chains-alike [] [] e g n m h = (refl, h)
chains-alike [] (y ∷ ys) e g n m h = absurd (chain-apart _ _ _ n (sym h))
chains-alike (x ∷ xs) [] e g n m h = absurd (chain-apart _ _ _ m h)
chains-alike (x ∷ xs) (y ∷ ys) e g n m h =
    let head : x ≡ y = cc in
    let tail : chain xs e ≡ chain ys g = cc in
    let r = chains-alike xs ys e g n m tail in
    (λ i. head i ∷ r.0 i, r.1)

pub lists-alike : (fs gs : Forms) (t u : Option (Rc Form Global)) → ProperList fs t → ProperList gs u → form_of (Listed fs t) ≡ form_of (Listed gs u) →
    (forms_of fs ≡ forms_of gs) × (end_of t ≡ end_of u)
lists-alike fs gs t u p q h =
    chains-alike _ _ _ _ (no_pair t p.last) (no_pair u q.last) (sym (form_of-listed fs t) ∙ h ∙ form_of-listed gs u)

all-append : (xs ys : List Form) → AllProper xs → AllProper ys → AllProper (xs ++ ys)
all-append [] ys h k = k
all-append (x ∷ xs) ys h k = (h.0, all-append xs ys h.1 k)

pub proper-append : (xs ys zs : List Form) → zs ≡ xs ++ ys → AllProper xs → AllProper ys → AllProper zs
proper-append xs ys zs e h k = subst AllProper (sym e) (all-append xs ys h k)

pub proper-push : (xs zs : List Form) (x : Form) → zs ≡ xs ++ x ∷ [] → AllProper xs → IsProper x → AllProper zs
proper-push xs zs x e h k = subst AllProper (sym e) (all-append xs (x ∷ []) h (k, tt))

some-items : (fs : Forms) → 0 < length (forms_of fs) → 0 < length fs.items.items
some-items fs h = omega (arith, length-map fs.items.items form_of)

pub proper-items : (fs : Forms) → AreProper fs → 0 < length (forms_of fs) → IsProper (Listed fs None)
proper-items fs h k = listed-proper fs None (record { some = some-items fs k; items = h; last = tt })

pub proper-dotted : (fs : Forms) (t : Rc Form Global) → AreProper fs → 0 < length (forms_of fs) → IsProper t.value → IsEnd t.value → IsProper (Listed fs (Some t))
proper-dotted fs t h k p e = listed-proper fs (Some t) (record { some = some-items fs k; items = h; last = (p, e) })

pub proper-parts : (fs : Forms) (t : Option (Rc Form Global)) → IsProper (Listed fs t) → AreProper fs
proper-parts fs t h = (proper-list fs t h).items

-- a list joined to items before it
pub proper-joined : (fs gs : Forms) (t : Option (Rc Form Global)) → AreProper gs → 0 < length (forms_of gs) → IsProper (Listed fs t) → IsProper (Listed gs t)
proper-joined fs gs t h k p = listed-proper gs t (record { some = some-items gs k; items = h; last = (proper-list fs t p).last })

-- items, with those of the list after them
pub proper-both : (fs gs rest : Forms) (t : Option (Rc Form Global)) (tail : Form) → tail ≡ Listed rest t → forms_of gs ≡ forms_of fs ++ forms_of rest →
    (AreProper fs → AreProper rest → AreProper gs) → AreProper fs → 0 < length (forms_of fs) → IsProper tail → IsProper (Listed gs t)
proper-both fs gs rest t tail is e more h k p =
    let list : IsProper (Listed rest t) = subst IsProper is p in
    let long : 0 < length (forms_of gs) = omega (arith, ap length e, length-append (forms_of fs) (forms_of rest)) in
    proper-joined rest gs t (more h (proper-parts rest t list)) long list

chain-append : (xs ys : List Datum) (e : Datum) → chain (xs ++ ys) e ≡ chain xs (chain ys e)
chain-append [] ys e = refl
chain-append (x ∷ xs) ys e = ap (λ c. PairForm x c) (chain-append xs ys e)

pub form_of-joined : (fs gs rest : Forms) (t : Option (Rc Form Global)) → forms_of gs ≡ forms_of fs ++ forms_of rest → form_of (Listed gs t) ≡ chain (forms_of fs) (form_of (Listed rest t))
form_of-joined fs gs rest t h =
    form_of-listed gs t ∙ ap (λ xs. chain xs (end_of t)) h ∙ chain-append (forms_of fs) (forms_of rest) (end_of t)
    ∙ ap (chain (forms_of fs)) (sym (form_of-listed rest t))

-- an end that is no list
pub end-int : (z : ℤ) → IsEnd (Int z)
unfolding IsEnd
end-int z = tt

pub end-text : (s : List ℕ) → IsEnd (Text s)
unfolding IsEnd
end-text s = tt

pub end-sym : (s : List ℕ) → (s ≡ 78 ∷ 73 ∷ 76 ∷ [] → ⊥) → IsEnd (Sym s)
unfolding IsEnd
end-sym s h = h

pub proper-int : (z : ℤ) → IsProper (Int z)
unfolding IsProper
proper-int z = tt

pub proper-sym : (s : List ℕ) → IsProper (Sym s)
unfolding IsProper
proper-sym s = tt

pub proper-text : (s : List ℕ) → IsProper (Text s)
unfolding IsProper
proper-text s = tt

-- forms that are no lists
pub ruleset leaves = (form_of-int, form_of-sym, form_of-text, proper-int, proper-sym, proper-text)

pub ruleset proper = (form_of-int, form_of-sym, form_of-text, form_of-list, form_of-dotted, form_of-joined, proper-items, proper-dotted, proper-parts, proper-joined, proper-append, proper-push, end-int, end-text, end-sym)

pub proper-at : (xs : List Form) (i : ℕ) (d : Form) → i < length xs → AllProper xs → IsProper (get_or xs i d)
proper-at [] i d h p = absurd (omega arith)
proper-at (x ∷ xs) zero d h p = p.0
proper-at (x ∷ xs) (suc i) d h p = proper-at xs i d (omega arith) p.1

-- what the parts of a proper list give for their copies
pub some-copied : (fs gs : Forms) (t : Option (Rc Form Global)) → forms_of gs ≡ forms_of fs → IsProper (Listed fs t) → 0 < length (forms_of gs)
some-copied fs gs t e h = omega (arith, (proper-list fs t h).some, ap length e, length-map fs.items.items form_of)

pub proper-end : (fs : Forms) (t : Option (Rc Form Global)) (r : Rc Form Global) → t ≡ Some r → IsProper (Listed fs t) → IsProper r.value
proper-end fs t r e h = (subst EndIsProper e (proper-list fs t h).last).0

-- an item that is copied
pub proper-more : (xs : List Form) (i : ℕ) (x : Form) → i < length xs → x ≡ get_or xs i x → AllProper xs → IsProper x
proper-more xs i x h e p = subst IsProper (sym e) (proper-at xs i x h p)

-- what is found at a place of proper forms is proper
pub found-proper : (xs : List Form) (i : ℕ) (r : Option (Bor Form)) → is_some r ≡ nat_lt i (length xs) → IfSome r (λ f. f.now ≡ get_or xs i f.now) → IfSome r (λ f. AllProper xs → IsProper f.now)
found-proper xs i None some is = tt
found-proper xs i (Some f) some is = λ p. proper-more xs i f.now (ltb-true i (length xs) (sym some)) is p

pub ruleset copies = (form_of-int, form_of-sym, form_of-text, form_of-list, form_of-dotted, proper-int, proper-sym, proper-text, proper-more)
