-- What is made of a term that is too large is too large.
use Rattle.std.proofs.Common.{◌≡◌, ℕ, ◌≤◌, Bool, true, false, Ok, Err, ◌&&◌, nat_le, if◌then◌else◌, List, [], ◌∷◌, refl, ap, ◌∙◌, arith}
use Rattle.std.proofs.lemmas.Bool.Decides.{nat_tests}
use Rattle.lisp_data.specs.Values.{Name}
use Rattle.lisp_data.specs.declared.code.Code.{Code}
use Rattle.lisp_data.specs.declared.detail.Detail.{Detail}
use Rattle.term_forms.specs.declared.translation.TermError.{TermError}
use Rattle.term_forms.specs.declared.translation.TermError.TheVariants.{Refused, Memory}
use Rattle.terms.specs.Terms.{Tm, Call, Tms, More, tms, nodes, substitute, substitute_all}
use Rattle.terms.specs.Measures.{call1, call2}
use Rattle.term_forms.specs.Translation.{Outcome, and_rest, levels, limited, is_limited, too_large}
use Rattle.term_forms.specs.view.TranslationView.{SaysOutcome}
use Rattle.term_forms.specs.Outcomes.{each}
use Rattle.term_forms.specs.declared.limits.TheConstants.{MAX_LEVELS, MAX_NODES}

-- one term is no larger than another
pub record IsWithin (t u : Tm) : Type 0 where
  pub few : nodes t ≤ nodes u
  pub low : levels t ≤ levels u

by_choice : (b : Bool) (t : Tm) (e : Code × Detail) → (if b then Ok t else too_large {A = Tm}) ≡ Err e → (b ≡ false) × (too_large {A = Tm} ≡ Err e)
by_choice true t e h = cc
by_choice false t e h = (refl, h)

by_choice-ok : (b : Bool) (t u : Tm) → (if b then Ok t else too_large {A = Tm}) ≡ Ok u → u ≡ t
by_choice-ok true t u h = cc
by_choice-ok false t u h = cc

pub limited-same : (t u : Tm) → limited t ≡ Ok u → u ≡ t
limited-same t u h = by_choice-ok (is_limited t) t u h

tests-grow : (a b c d : ℕ) → a ≤ c → b ≤ d → (nat_le a MAX_NODES && nat_le b MAX_LEVELS) ≡ false → (nat_le c MAX_NODES && nat_le d MAX_LEVELS) ≡ false
tests-grow a b c d p q h = grind (arith, nat_tests)

-- a refusal of a term is one of each larger one
pub larger-refused : (t u : Tm) (e : Code × Detail) → IsWithin t u → limited t ≡ Err e → limited u ≡ Err e
larger-refused t u e w h =
    let small = by_choice (is_limited t) t e h in
    let large : is_limited u ≡ false = tests-grow (nodes t) (levels t) (nodes u) (levels u) w.few w.low small.0 in
    ap (λ b. if b then Ok u else too_large {A = Tm}) large ∙ small.1

first-within : (f : Name) (t : Tm) (ts : Tms) → IsWithin t (Call f (More t ts))
first-within f t ts = record { few = omega arith; low = omega arith }

rest-within : (f : Name) (t : Tm) (ts : Tms) → IsWithin (Call f ts) (Call f (More t ts))
rest-within f t ts = record { few = omega arith; low = omega arith }

module _ (s : Name → Tm) where
  abbrev replaced : Tm → Outcome Tm
  replaced t = limited (substitute s t)

  -- the parts of a call, each within the limits, are its images
  pub parts-replaced : (ts us : List Tm) → each replaced ts ≡ Ok us → tms us ≡ substitute_all s (tms ts)
  parts-replaced [] us h = ap tms (let e : us ≡ [] = cc in e)
  parts-replaced (t ∷ ts) us h = by_outcomes (replaced t) (each replaced ts) refl (parts-replaced ts) h
    where
      by_outcomes : (o : Outcome Tm) (p : Outcome (List Tm)) → replaced t ≡ o → ((xs : List Tm) → p ≡ Ok xs → tms xs ≡ substitute_all s (tms ts)) → and_rest o p ≡ Ok us → tms us ≡ substitute_all s (tms (t ∷ ts))
      by_outcomes (Err e) p a ih h = cc
      by_outcomes (Ok x) (Err e) a ih h = cc
      by_outcomes (Ok x) (Ok xs) a ih h =
          let same : x ≡ substitute s t = limited-same (substitute s t) x a in
          let rest : tms xs ≡ substitute_all s (tms ts) = ih xs refl in
          let is : us ≡ x ∷ xs = cc in
          ap tms is ∙ (λ i. More (same i) (rest i))

  -- a part that is too large makes the call too large
  pub call-refused : (f : Name) (ts : List Tm) (e : Code × Detail) → each replaced ts ≡ Err e → limited (Call f (substitute_all s (tms ts))) ≡ Err e
  call-refused f [] e h = cc
  call-refused f (t ∷ ts) e h = by_outcomes (replaced t) (each replaced ts) refl (call-refused f ts) h
    where
      by_outcomes : (o : Outcome Tm) (p : Outcome (List Tm)) → replaced t ≡ o → ((y : Code × Detail) → p ≡ Err y → limited (Call f (substitute_all s (tms ts))) ≡ Err y) → and_rest o p ≡ Err e → limited (Call f (substitute_all s (tms (t ∷ ts)))) ≡ Err e
      by_outcomes (Err x) p a ih h = larger-refused (substitute s t) (Call f (substitute_all s (tms (t ∷ ts)))) e (first-within f (substitute s t) (substitute_all s (tms ts))) (a ∙ (let k : Err x ≡ Err e = cc in k))
      by_outcomes (Ok x) (Ok xs) a ih h = cc
      by_outcomes (Ok x) (Err y) a ih h =
          let k : y ≡ e = cc in
          larger-refused (Call f (substitute_all s (tms ts))) (Call f (substitute_all s (tms (t ∷ ts)))) e (rest-within f (substitute s t) (substitute_all s (tms ts))) (ih e (ap Err k))

-- a part that is refused
pub part-refused : (s : Name → Tm) (f : Name) (ts : List Tm) (e : TermError) →
    SaysOutcome {A = List Tm} (each (λ t. limited (substitute s t)) ts) (Err e) → SaysOutcome {A = Tm} (limited (Call f (substitute_all s (tms ts)))) (Err e)
part-refused s f ts (Refused code detail) h = call-refused s f ts (code, detail) h
part-refused s f ts Memory h = tt

-- a refusal of an argument is one of the call
pub argument-refused : (f : Name) (a : Tm) (e : TermError) → SaysOutcome {A = Tm} (limited a) (Err e) → SaysOutcome {A = Tm} (limited (call1 f a)) (Err e)
argument-refused f a (Refused code detail) h = larger-refused a (call1 f a) (code, detail) (record { few = omega arith; low = omega arith }) h
argument-refused f a Memory h = tt

pub second-refused : (f : Name) (a b : Tm) (e : TermError) → SaysOutcome {A = Tm} (limited b) (Err e) → SaysOutcome {A = Tm} (limited (call2 f a b)) (Err e)
second-refused f a b (Refused code detail) h = larger-refused b (call2 f a b) (code, detail) (record { few = omega arith; low = omega arith }) h
second-refused f a b Memory h = tt

pub ruleset calls = (limited-same, argument-refused, second-refused)
