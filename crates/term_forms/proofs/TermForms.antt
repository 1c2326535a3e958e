-- The form of a term is translated to that term again.
use Rattle.std.proofs.Common.{◌≡◌, ℕ, suc, ◌≤◌, Bool, true, false, ◌&&◌, ◌||◌, not, bytes_eq, codes, nat_eq, nat_le, Option, Some, None, is_some, [], ◌∷◌, if◌then◌else◌, Ok, refl, ap, sym, ◌∙◌, arith, eq-eqb}
use Rattle.std.proofs.lemmas.Bool.{and_parts, leb-true, le-leb}
use Rattle.lisp_data.specs.Values.{Name, Val, Int, Sym, Pair}
use Rattle.lisp_data.specs.Datum.{Datum, nil_form}
use Rattle.lisp_reader.specs.FormValue.{has_text, value}
use Rattle.lisp_reader.specs.Printed.{datum_of}
use Rattle.terms.specs.Terms.{Tm, Var, Quote, Call, Tms, Done, More, tms, tm_list, count, nodes, nodes_in, Over, OverAll}
use Rattle.term_forms.specs.Names.{is_constant_name, is_variable_name, begins_with, ends_with}
use Rattle.term_forms.specs.Macros.{macro}
use Rattle.term_forms.specs.Translation.{Takes, Scope, and_then, map_outcome, levels, levels_in, is_limited, limited, atom, is_small, too_large, is_list, items, call_head, word_head, head, applied, and_rest, translate, by_word, terms}
use Rattle.term_forms.specs.Printing.{form_of_term, form_of_arguments}
use Rattle.term_forms.specs.TranslationLaws.{Quotes, QuotesAll, is_word, WordsApart, TermsAreTranslated}
use Rattle.term_forms.specs.declared.limits.TheConstants.{MAX_LEVELS, MAX_NODES}

pub plain : (v : Val) → has_text (datum_of v) ≡ false
plain (Int z) = refl
plain (Sym s) = refl
plain (Pair a d) = ap (λ b. b || has_text (datum_of d)) (plain a) ∙ plain d

pub value-datum : (v : Val) → value (datum_of v) ≡ v
value-datum (Int z) = refl
value-datum (Sym s) = refl
value-datum (Pair a d) = λ i. Pair (value-datum a i) (value-datum d i)

if_yes : {A : Type 0} (b : Bool) (x y : A) → b ≡ true → (if b then x else y) ≡ x
if_yes true x y e = refl
if_yes false x y e = absurd (cc)

if_no : {A : Type 0} (b : Bool) (x y : A) → b ≡ false → (if b then x else y) ≡ y
if_no true x y e = absurd (cc)
if_no false x y e = refl

or_parts : (a b : Bool) → (a || b) ≡ false → (a ≡ false) × (b ≡ false)
or_parts true b e = absurd (cc)
or_parts false b e = (refl, e)

not_some : {A : Type 0} (o : Option A) → is_some o ≡ false → o ≡ None
not_some None e = refl
not_some (Some x) e = absurd (cc)

false_or_true : (b : Bool) → (b ≡ true → ⊥) → b ≡ false
false_or_true true n = absurd (n refl)
false_or_true false n = refl

-- a name of a function, which has no syntax of its own
record IsCalled (f : Name) : Type 0 where
  quote : bytes_eq f (codes "QUOTE") ≡ false
  bind : bytes_eq f (codes "LET") ≡ false
  bind_in_turn : bytes_eq f (codes "LET*") ≡ false
  choose : bytes_eq f (codes "COND") ≡ false
  stands : macro f ≡ None

is_called : (f : Name) → is_word f ≡ false → IsCalled f
is_called f e =
    let m = or_parts _ (is_some (macro f)) e in
    let c = or_parts _ (bytes_eq f (codes "COND")) m.0 in
    let s = or_parts _ (bytes_eq f (codes "LET*")) c.0 in
    let l = or_parts (bytes_eq f (codes "QUOTE")) (bytes_eq f (codes "LET")) s.0 in
    record { quote = l.0; bind = l.1; bind_in_turn = s.1; choose = c.1; stands = not_some (macro f) m.1 }

list-arguments : (ts : Tms) → is_list (form_of_arguments ts) ≡ true
list-arguments Done = refl
list-arguments (More t ts) = list-arguments ts

items-arguments : (ts : Tms) → items (form_of_arguments ts) ≡ count ts
items-arguments Done = refl
items-arguments (More t ts) = ap suc (items-arguments ts)

tms-tm_list : (ts : Tms) → tms (tm_list ts) ≡ ts
tms-tm_list Done = refl
tms-tm_list (More t ts) = ap (More t) (tms-tm_list ts)

-- the limits, for parts
record Within (n h : ℕ) : Type 0 where
  nodes_fit : n ≤ MAX_NODES
  levels_fits : h ≤ MAX_LEVELS

within : (t : Tm) → is_limited t ≡ true → Within (nodes t) (levels t)
within t e =
    let p = and_parts (nat_le (nodes t) MAX_NODES) (nat_le (levels t) MAX_LEVELS) e in
    record { nodes_fit = leb-true (nodes t) MAX_NODES p.0; levels_fits = leb-true (levels t) MAX_LEVELS p.1 }

is_within : (t : Tm) → Within (nodes t) (levels t) → is_limited t ≡ true
is_within t w = ap (λ b. b && nat_le (levels t) MAX_LEVELS) (le-leb (nodes t) MAX_NODES w.nodes_fit) ∙ le-leb (levels t) MAX_LEVELS w.levels_fits

call-head : (takes : Takes) (f : Name) (d : Datum) (n : ℕ) → IsCalled f → is_list d ≡ true → items d ≡ n → takes f ≡ Some n → head takes f d ≡ Ok tt
call-head takes f d n c l i k =
    if_no (not (is_list d)) _ _ (ap not l) ∙ if_no (bytes_eq f (codes "QUOTE")) _ _ c.quote ∙ if_no (bytes_eq f (codes "LET")) _ _ c.bind ∙ if_no (bytes_eq f (codes "LET*")) _ _ c.bind_in_turn ∙ if_no (bytes_eq f (codes "COND")) _ _ c.choose
    ∙ ap (λ m. word_head takes f m (items d)) c.stands ∙ ap (λ o. call_head f o (items d)) k ∙ if_yes (nat_eq n (items d)) _ _ (eq-eqb n (items d) (sym i))

module _ (takes : Takes) (apart : WordsApart takes) (scope : Scope) where
  abbrev Fits : Tm → Type 0
  Fits = Over (λ x. scope x ≡ true) (λ f k. takes f ≡ Some k)

  abbrev Named : Tm → Type 0
  Named = Over (λ x. is_variable_name x ≡ true) (λ f k. Unit {0})

  abbrev Small : Val → Type 0
  Small v = is_small v ≡ true

  called : (f : Name) (k : ℕ) → takes f ≡ Some k → IsCalled f
  called f k e = is_called f (false_or_true (is_word f) (λ w. some_none (sym e ∙ apart f w)))
    where
      some_none : {k : ℕ} → (let o : Option ℕ = Some k in o ≡ None) → ⊥
      some_none e = cc

  of_variable : (x : Name) → is_variable_name x ≡ true → scope x ≡ true → atom scope x ≡ Ok (Var x)
  of_variable x v s =
      let b = and_parts _ (not (begins_with 42 x && ends_with 42 x)) v in
      let c = and_parts (not (is_constant_name x)) (not (begins_with 38 x)) b.0 in
      if_no (is_constant_name x) _ _ (is_not (is_constant_name x) c.0) ∙ if_no (not (is_variable_name x)) _ _ (ap not v) ∙ if_yes (scope x) _ _ s
    where
      is_not : (b : Bool) → not b ≡ true → b ≡ false
      is_not true e = absurd (cc)
      is_not false e = refl

  of_quote : (v : Val) → Small v → translate takes scope (form_of_term (Quote v)) ≡ Ok (Quote v)
  of_quote v s = ap (λ o. and_then o limited) (if_no (has_text (datum_of v)) _ _ (plain v) ∙ ap (λ w. if is_small w then Ok (Quote w) else too_large) (value-datum v) ∙ if_yes (is_small v) _ _ s)

  mutual
    of_term : (t : Tm) → Fits t → Named t → Quotes Small t → Within (nodes t) (levels t) → translate takes scope (form_of_term t) ≡ Ok t
    of_term (Var x) f v s w = of_variable x v f
    of_term (Quote v) f n s w = of_quote v s
    of_term (Call g ts) f v s w =
        let c = called g (count ts) f.0 in
        ap (λ o. and_then o (λ _. and_then (by_word takes scope g (form_of_arguments ts)) limited)) (call-head takes g (form_of_arguments ts) (count ts) c (list-arguments ts) (items-arguments ts) f.0)
        ∙ ap (λ o. and_then o limited) (of_call g c ts f.1 v.1 s (record { nodes_fit = omega (arith, w.nodes_fit); levels_fits = omega (arith, w.levels_fits) }))
        ∙ if_yes (is_limited (Call g ts)) _ _ (is_within (Call g ts) w)

    of_call : (g : Name) → IsCalled g → (ts : Tms) → OverAll (λ x. scope x ≡ true) (λ f k. takes f ≡ Some k) ts → OverAll (λ x. is_variable_name x ≡ true) (λ f k. Unit {0}) ts → QuotesAll Small ts → Within (nodes_in ts) (levels_in ts) →
        by_word takes scope g (form_of_arguments ts) ≡ Ok (Call g ts)
    of_call g c Done f v s w = ap Ok (if_no (bytes_eq g (codes "COND")) _ _ c.choose ∙ ap (λ m. applied g m nil_form []) c.stands)
    of_call g c (More t ts) f v s w =
        if_no (bytes_eq g (codes "QUOTE")) _ _ c.quote ∙ if_no (bytes_eq g (codes "LET")) _ _ c.bind ∙ if_no (bytes_eq g (codes "LET*")) _ _ c.bind_in_turn ∙ if_no (bytes_eq g (codes "COND")) _ _ c.choose
        ∙ ap (λ o. map_outcome (applied g (macro g) (form_of_arguments (More t ts))) (and_rest o (terms takes scope (form_of_arguments ts)))) (of_term t f.0 v.0 s.0 (record { nodes_fit = omega (arith, w.nodes_fit); levels_fits = omega (arith, w.levels_fits) }))
        ∙ ap (λ o. map_outcome (applied g (macro g) (form_of_arguments (More t ts))) (map_outcome (λ us. t ∷ us) o)) (of_terms ts f.1 v.1 s.1 (record { nodes_fit = omega (arith, w.nodes_fit); levels_fits = omega (arith, w.levels_fits) }))
        ∙ ap (λ m. Ok (applied g m (form_of_arguments (More t ts)) (t ∷ tm_list ts))) c.stands
        ∙ ap (λ us. Ok (Call g (More t us))) (tms-tm_list ts)

    of_terms : (ts : Tms) → OverAll (λ x. scope x ≡ true) (λ f k. takes f ≡ Some k) ts → OverAll (λ x. is_variable_name x ≡ true) (λ f k. Unit {0}) ts → QuotesAll Small ts → Within (nodes_in ts) (levels_in ts) →
        terms takes scope (form_of_arguments ts) ≡ Ok (tm_list ts)
    of_terms Done f v s w = refl
    of_terms (More t ts) f v s w =
        ap (λ o. and_rest o (terms takes scope (form_of_arguments ts))) (of_term t f.0 v.0 s.0 (record { nodes_fit = omega (arith, w.nodes_fit); levels_fits = omega (arith, w.levels_fits) }))
        ∙ ap (map_outcome (λ us. t ∷ us)) (of_terms ts f.1 v.1 s.1 (record { nodes_fit = omega (arith, w.nodes_fit); levels_fits = omega (arith, w.levels_fits) }))

pub terms_are_translated : TermsAreTranslated
terms_are_translated takes apart scope t o = of_term takes apart scope t o.fits o.variables o.values (within t o.limits)
