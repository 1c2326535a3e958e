-- How many recursive calls there are, and how many obligations.
use Rattle.std.proofs.Common.{◌≡◌, ◌+◌, ◌-◌, ◌<◌, ◌≤◌, ◌||◌, max, ℕ, zero, suc, Bool, true, false, cond, is_some, List, [], ◌∷◌, length, get_or, drop, bytes_eq, nat_lt, nat_eq, Option, Some, None, refl, sym, ap, ◌∙◌, arith, subst, length-append}
use Rattle.std.proofs.lemmas.List.{length-map}
use Rattle.std.proofs.lemmas.Bool.{ltb_from_iff, eqb-true, eq-eqb}
use Rattle.std.proofs.lemmas.List.{drop_all}
use Rattle.lisp_data.specs.Values.{Name}
use Rattle.terms.specs.Terms.{Tm, Var, Quote, Call, Tms, Done, More, tms}
use Rattle.terms.specs.Measures.{RecursiveCall, Place, next, first_place, tests_at, mentions, mentions_in, falls, recursive_calls, recursive_calls_in, owed_by, obligations}
use Rattle.terms.specs.declared.definition.Definition.{Definition}
use Rattle.terms.proofs.Args.{args, tms-drop}
use Rattle.measures.specs.view.Calls.{calls_of, calls_in}

here : (b : Bool) (c : RecursiveCall) → length (cond b (c ∷ []) []) ≡ cond b 1 0
here true c = refl
here false c = refl

mutual
  pub count_is : (f : Name) (tests : List Tm) (t : Tm) → length (recursive_calls f tests t) ≡ calls_of f t
  count_is f tests (Var x) = refl
  count_is f tests (Quote v) = refl
  count_is f tests (Call g ts) =
      length-append (cond (bytes_eq f g) (record { tests = tests; args = ts } ∷ []) []) (recursive_calls_in f (first_place f g ts) tests ts)
      ∙ (λ i. here (bytes_eq f g) (record { tests = tests; args = ts }) i + counts_are f (first_place f g ts) tests ts i)

  counts_are : (f : Name) (p : Place) (tests : List Tm) (ts : Tms) → length (recursive_calls_in f p tests ts) ≡ calls_in f ts
  counts_are f p tests Done = refl
  counts_are f p tests (More t ts) =
      length-append (recursive_calls f (tests_at p tests) t) (recursive_calls_in f (next p) tests ts)
      ∙ (λ i. count_is f (tests_at p tests) t i + counts_are f (next p) tests ts i)

-- some call
abbrev some : ℕ → Bool
some zero = false
some (suc n) = true

or_none : (b : Bool) (m : Bool) (n : ℕ) → m ≡ some n → (b || m) ≡ some (cond b 1 0 + n)
or_none true m n e = let h : suc n ≡ 1 + n = omega arith in ap some h
or_none false m n e = let h : n ≡ 0 + n = omega arith in e ∙ ap some h

both_none : (m l : Bool) (k n : ℕ) → m ≡ some k → l ≡ some n → (m || l) ≡ some (k + n)
both_none m l zero n e g = let h : n ≡ 0 + n = omega arith in ap (λ b. b || l) e ∙ g ∙ ap some h
both_none m l (suc k) n e g = let h : suc (k + n) ≡ suc k + n = omega arith in ap (λ b. b || l) e ∙ ap some h

-- a term mentions the function where it has some call
mutual
  mentions_is : (f : Name) (t : Tm) → mentions f t ≡ some (calls_of f t)
  mentions_is f (Var x) = refl
  mentions_is f (Quote v) = refl
  mentions_is f (Call g ts) = or_none (bytes_eq f g) (mentions_in f ts) (calls_in f ts) (mentions_are f ts)

  mentions_are : (f : Name) (ts : Tms) → mentions_in f ts ≡ some (calls_in f ts)
  mentions_are f Done = refl
  mentions_are f (More t ts) = both_none (mentions f t) (mentions_in f ts) (calls_of f t) (calls_in f ts) (mentions_is f t) (mentions_are f ts)

-- how many obligations there are
abbrev owed_count : Option Tm → ℕ → ℕ
owed_count None n = 0
owed_count (Some m) zero = 0
owed_count (Some m) (suc n) = suc (suc n)

obligations_count : (d : Definition) → length (obligations d) ≡ owed_count d.measure (calls_of d.name d.body)
obligations_count d =
    ap (λ b. length (cond b (owed_by d d.measure) [])) (mentions_is d.name d.body)
    ∙ by_measure d.measure (calls_of d.name d.body) refl
  where
    by_measure : (m : Option Tm) (n : ℕ) → calls_of d.name d.body ≡ n → length (cond (some n) (owed_by d m) []) ≡ owed_count m n
    by_measure None zero e = refl
    by_measure None (suc n) e = refl
    by_measure (Some m) zero e = refl
    by_measure (Some m) (suc n) e = ap suc (length-map (recursive_calls d.name [] d.body) (falls d.formals m) ∙ count_is d.name [] d.body ∙ e)

-- an obligation has a number below this, the first wherever there is a call
pub has_number : (d : Definition) (number calls left : ℕ) → is_some d.measure ≡ true → calls ≡ max number 1 → left ≡ calls - calls_of d.name d.body → nat_eq left 0 ≡ nat_lt number (length (obligations d))
has_number d number calls left m e l = ltb_from_iff (forth, back)
  where
    count : (o : Option Tm) (n : ℕ) → is_some o ≡ true → number < owed_count o n → max number 1 ≤ n
    count None n i h = absurd (cc)
    count (Some t) zero i h = absurd (omega arith)
    count (Some t) (suc n) i h = omega arith

    counted : (o : Option Tm) (n : ℕ) → is_some o ≡ true → max number 1 ≤ n → number < owed_count o n
    counted None n i h = absurd (cc)
    counted (Some t) zero i h = absurd (omega arith)
    counted (Some t) (suc n) i h = omega arith

    forth : nat_eq left 0 ≡ true → number < length (obligations d)
    forth h =
        let z = eqb-true left 0 h in
        subst (λ k. number < k) (sym (obligations_count d)) (counted d.measure (calls_of d.name d.body) m (omega arith))

    back : number < length (obligations d) → nat_eq left 0 ≡ true
    back h =
        let c = count d.measure (calls_of d.name d.body) m (subst (λ k. number < k) (obligations_count d) h) in
        eq-eqb left 0 (omega arith)

pub calls-more : (f : Name) (ts : List Tm) (i : ℕ) (d : Tm) → i < length ts → calls_in f (tms (drop i ts)) ≡ calls_of f (get_or ts i d) + calls_in f (tms (drop (i + 1) ts))
calls-more f ts i d h = ap (calls_in f) (tms-drop ts i d h)

pub calls-end : (f : Name) (ts : List Tm) (i : ℕ) → length ts ≤ i → calls_in f (tms (drop i ts)) ≡ 0
calls-end f ts i h = ap (λ us. calls_in f (tms us)) (drop_all i ts h)

pub call_here : (f g : Name) (ts : Tms) (n : ℕ) → bytes_eq f g ≡ true → (n - 1) - calls_in f ts ≡ n - calls_of f (Call g ts)
call_here f g ts n e = let h = ap (λ b. n - (cond b 1 0 + calls_in f ts)) e in omega (arith, h)

pub call_elsewhere : (f g : Name) (ts : Tms) (n : ℕ) → bytes_eq f g ≡ false → n - calls_in f ts ≡ n - calls_of f (Call g ts)
call_elsewhere f g ts n e = let h = ap (λ b. n - (cond b 1 0 + calls_in f ts)) e in omega (arith, h)

pub ruleset counts = (args, calls-more, calls-end, call_here, call_elsewhere)
