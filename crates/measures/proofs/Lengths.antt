-- Recursive calls have as many arguments as there are formals.
use Rattle.std.proofs.Common.{◌≡◌, ℕ, zero, suc, Bool, true, false, cond, List, [], ◌∷◌, ◌++◌, length, bytes_eq, map, Ok, Err, refl, sym, ◌∙◌, arith}
use Rattle.std.specs.Prelude.{All}
use Rattle.lisp_data.specs.Values.{Name}
use Rattle.terms.specs.Terms.{Tm, Var, Quote, Call, Tms, Done, More, count, OverAll}
use Rattle.terms.specs.Worlds.{Each}
use Rattle.terms.specs.Measures.{RecursiveCall, Place, next, first_place, tests_at, is_nested, recursive_calls, recursive_calls_in}
use Rattle.terms.proofs.Names.{same_name}
use Rattle.terms.proofs.Args.{count-tms}
use Rattle.measures.specs.view.Calls.{call_of, CallsTake}
use Rattle.measures.specs.Outcomes.{calls_or_cause}
use Rattle.measures.specs.declared.errors.MeasureError.TheVariants.{Nested}
use Rattle.measures.specs.declared.calls.RecursiveCall.{RecursiveCall as CallInCode}

each-append : {A : Type 0} (P : A → Type 0) (xs ys : List A) → Each P xs → Each P ys → Each P (xs ++ ys)
each-append P [] ys h g = g
each-append P (x ∷ xs) ys h g = (h.0, each-append P xs ys h.1 g)

abbrev pub Takes : ℕ → RecursiveCall → Type 0
Takes n c = count c.args ≡ n

here : (f g : Name) (n : ℕ) (tests : List Tm) (ts : Tms) → (g ≡ f → count ts ≡ n) → (b : Bool) → bytes_eq f g ≡ b → Each (Takes n) (cond b (record { tests = tests; args = ts } ∷ []) [])
here f g n tests ts h true e = (h (sym (same_name f g e)), tt)
here f g n tests ts h false e = tt

mutual
  pub calls_take : (f : Name) (n : ℕ) (tests : List Tm) (t : Tm) → CallsTake f n t → Each (Takes n) (recursive_calls f tests t)
  calls_take f n tests (Var x) h = tt
  calls_take f n tests (Quote v) h = tt
  calls_take f n tests (Call g ts) h =
      each-append (Takes n) (cond (bytes_eq f g) (record { tests = tests; args = ts } ∷ []) []) (recursive_calls_in f (first_place f g ts) tests ts)
      (here f g n tests ts h.0 (bytes_eq f g) refl) (calls_in_take f n (first_place f g ts) tests ts h.1)

  calls_in_take : (f : Name) (n : ℕ) (p : Place) (tests : List Tm) (ts : Tms) → OverAll (λ x. Unit {0}) (λ g k. g ≡ f → k ≡ n) ts → Each (Takes n) (recursive_calls_in f p tests ts)
  calls_in_take f n p tests Done h = tt
  calls_in_take f n p tests (More t ts) h =
      each-append (Takes n) (recursive_calls f (tests_at p tests) t) (recursive_calls_in f (next p) tests ts)
      (calls_take f n (tests_at p tests) t h.0) (calls_in_take f n (next p) tests ts h.1)

-- so has each call that was collected
pub lengths : (n : ℕ) (cs : List CallInCode) → Each (Takes n) (map call_of cs) → All (λ (c : CallInCode). n ≡ length c.args) cs
lengths n [] h k d lt = absurd (omega arith)
lengths n (c ∷ cs) h zero d lt = sym h.0 ∙ count-tms c.args
lengths n (c ∷ cs) h (suc k) d lt = lengths n cs h.1 k d (omega arith)

-- what is told is the recursive calls
pub told_calls : (f : Name) (t : Tm) (cs : List RecursiveCall) → calls_or_cause f t ≡ Ok cs → recursive_calls f [] t ≡ cs
told_calls f t cs e = by_test (is_nested f t) e
  where
    by_test : (b : Bool) → cond b (Err Nested) (Ok (recursive_calls f [] t)) ≡ Ok cs → recursive_calls f [] t ≡ cs
    by_test true k = cc
    by_test false k = cc
