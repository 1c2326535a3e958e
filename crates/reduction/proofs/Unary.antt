-- Hypotheses that are a call of a function on a term, and lists without one of their terms.
use Rattle.std.proofs.Common.{◌≡◌, Bool, true, false, ◌&&◌, ◌||◌, not, bytes_eq, if◌then◌else◌, List, [], ◌∷◌, Some, None, refl, sym, ap, ◌∙◌}
use Rattle.std.specs.List.{list_any}
use Rattle.std.proofs.lemmas.List.{drop_all}
use Rattle.lisp_data.specs.Values.{Name}
use Rattle.terms.specs.Terms.{Tm, Var, Quote, Call, Tms, Done, More, same_tm, same_tms}
use Rattle.terms.specs.Evaluation.{then_with}
use Rattle.terms.specs.Measures.{call1}
use Rattle.terms.proofs.Names.{same_name, name_self}
use Rattle.terms.proofs.Same.{same_term, term_self}
use Rattle.terms.proofs.Args.{args}
use Rattle.reduction.specs.Hyps.{has, without}
use Rattle.reduction.specs.Finding.{one_arg, is_some_term, is_call_on}

both : (p q : Bool) → (p ≡ true → q ≡ true) → (q ≡ true → p ≡ true) → p ≡ q
both true q f g = sym (f refl)
both false true f g = g refl
both false false f g = refl

name_sym : (a b : Name) → bytes_eq a b ≡ bytes_eq b a
name_sym a b =
    both (bytes_eq a b) (bytes_eq b a) (λ e. let p = same_name a b e in rw p (name_self b)) (λ e. let p = same_name b a e in rw p (name_self a))

same_sym : (a b : Tm) → same_tm a b ≡ same_tm b a
same_sym a b =
    both (same_tm a b) (same_tm b a) (λ e. let p = same_term a b e in rw p (term_self b)) (λ e. let p = same_term b a e in rw p (term_self a))

and_false : (b : Bool) → (b && false) ≡ false
and_false true = refl
and_false false = refl

and_true : (b : Bool) → (b && true) ≡ b
and_true true = refl
and_true false = refl

called : (b : Bool) (ts : Tms) (t : Tm) → is_some_term (then_with (if b then Some ts else None) one_arg) t ≡ (b && same_tms (More t Done) ts)
called false ts t = refl
called true Done t = refl
called true (More a Done) t = sym (and_true (same_tm t a))
called true (More a (More b ts)) t = sym (and_false (same_tm t a))

-- the test that makes no term agrees with the comparison of terms
pub is_call_on-same : (f : Name) (h t : Tm) → is_call_on f h t ≡ same_tm (call1 f t) h
is_call_on-same f (Var x) t = refl
is_call_on-same f (Quote v) t = refl
is_call_on-same f (Call g ts) t =
    called (bytes_eq g f) ts t ∙ ap (λ b. b && same_tms (More t Done) ts) (name_sym g f)

kept : (b c d : Bool) → b ≡ false → c ≡ d → (b || c) ≡ d
kept true c d e f = absurd (cc)
kept false c d e f = f

-- a term that is left out isn't there
pub has-out : (hs : List Tm) (k t : Tm) → same_tm k t ≡ true → has (without hs k) t ≡ false
has-out [] k t e = refl
has-out (u ∷ us) k t e =
    let p : k ≡ t = same_term k t e in
    let rest = has-out us k t e in
    let at : (b : Bool) → same_tm k u ≡ b → list_any (same_tm t) (if not b then u ∷ without us k else without us k) ≡ false =
    elim [ true ↦ λ q. rest | false ↦ λ q. kept (same_tm t u) _ false (ap (λ x. same_tm x u) (sym p) ∙ q) rest ] in
    at (same_tm k u) refl

-- another term is there as before
pub has-in : (hs : List Tm) (k t : Tm) → same_tm k t ≡ false → has (without hs k) t ≡ has hs t
has-in [] k t e = refl
has-in (u ∷ us) k t e =
    let rest = has-in us k t e in
    let at : (b : Bool) → same_tm k u ≡ b → list_any (same_tm t) (if not b then u ∷ without us k else without us k) ≡ (same_tm t u || list_any (same_tm t) us) =
    elim [ true ↦ λ q. rest ∙ sym (kept (same_tm t u) _ _ (same_sym t u ∙ ap (λ x. same_tm x t) (sym (same_term k u q)) ∙ e) refl) | false ↦ λ q. ap (λ b. same_tm t u || b) rest ] in
    at (same_tm k u) refl

pub call-out : (f : Name) (hs : List Tm) (k t : Tm) → is_call_on f k t ≡ true → has (without hs k) (call1 f t) ≡ false
call-out f hs k t e = has-out hs k (call1 f t) (same_sym k (call1 f t) ∙ sym (is_call_on-same f k t) ∙ e)

pub call-in : (f : Name) (hs : List Tm) (k t : Tm) → is_call_on f k t ≡ false → has (without hs k) (call1 f t) ≡ has hs (call1 f t)
call-in f hs k t e = has-in hs k (call1 f t) (same_sym k (call1 f t) ∙ sym (is_call_on-same f k t) ∙ e)

pub ruleset calls = (is_call_on-same, args, drop_all)

pub ruleset others = (has-out, has-in, call-out, call-in)
