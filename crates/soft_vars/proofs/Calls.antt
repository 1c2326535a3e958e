-- The names that terms call.
use Rattle.std.proofs.Common.{◌≡◌, ◌||◌, Bool, true, false, List, [], ◌∷◌, ◌++◌, length, drop, bytes_eq, if◌then◌else◌, refl, sym, ap, ◌∙◌, subst, arith}
use Rattle.std.proofs.lemmas.List.{drop_all}
use Rattle.std.specs.List.{list_any}
use Rattle.lisp_data.specs.Values.{Name}
use Rattle.terms.specs.Terms.{Tm, Var, Quote, Call, Tms, Done, More, tms, Over, OverAll}
use Rattle.terms.specs.Variables.{with_name}
use Rattle.terms.specs.Worlds.{Each, is_in}
use Rattle.terms.proofs.Args.{args}
use Rattle.terms.proofs.Names.{same_name, name_self}
use Rattle.terms.proofs.Members.{is_in-append}
use Rattle.terms.specs.Instances.{with_calls, with_calls_in, called}
use Rattle.soft_vars.specs.Laws.{CallsAreCalled}
use Rattle.terms.proofs.MapKeys.{bytes_eq-turned}

-- where no argument is left
pub with_calls-none : (ts : List Tm) (found : List Name) → with_calls_in (tms (drop (length ts) ts)) found ≡ found
with_calls-none ts found = ap (λ us. with_calls_in (tms us) found) (drop_all (length ts) ts (omega arith))

pub ruleset calls = (args, with_calls-none)

-- the two tests whether a name is among others agree
pub any-is_in : (x : Name) (ys : List Name) → list_any (bytes_eq x) ys ≡ is_in ys x
any-is_in x [] = refl
any-is_in x (y ∷ ys) = (λ i. bytes_eq-turned y x (bytes_eq y x) refl i || any-is_in x ys i)

or_true : (a b : Bool) → b ≡ true → (a || b) ≡ true
or_true true b h = refl
or_true false b h = h

or_first : (a b : Bool) → a ≡ true → (a || b) ≡ true
or_first true b h = refl
or_first false b h = absurd (cc)

-- a name stays where another is added, and is there where it is added itself
name_stays : (x : Name) (found : List Name) (y : Name) → is_in found y ≡ true → is_in (with_name x found) y ≡ true
name_stays x found y h = by_test (list_any (bytes_eq x) found)
  where
    by_test : (b : Bool) → is_in (if b then found else (found ++ x ∷ [])) y ≡ true
    by_test true = h
    by_test false = is_in-append found (x ∷ []) y ∙ or_first (is_in found y) (is_in (x ∷ []) y) h

name_there : (x : Name) (found : List Name) → is_in (with_name x found) x ≡ true
name_there x found = by_test (list_any (bytes_eq x) found) refl
  where
    by_test : (b : Bool) → list_any (bytes_eq x) found ≡ b → is_in (if b then found else (found ++ x ∷ [])) x ≡ true
    by_test true e = sym (any-is_in x found) ∙ e
    by_test false e = is_in-append found (x ∷ []) x ∙ or_true (is_in found x) (is_in (x ∷ []) x) (or_first (bytes_eq x x) false (name_self x))

mutual
  calls_stay : (t : Tm) (found : List Name) (y : Name) → is_in found y ≡ true → is_in (with_calls t found) y ≡ true
  calls_stay (Var x) found y h = h
  calls_stay (Quote v) found y h = h
  calls_stay (Call f ts) found y h = calls_stay_in ts (with_name f found) y (name_stays f found y h)

  calls_stay_in : (ts : Tms) (found : List Name) (y : Name) → is_in found y ≡ true → is_in (with_calls_in ts found) y ≡ true
  calls_stay_in Done found y h = h
  calls_stay_in (More t ts) found y h = calls_stay_in ts (with_calls t found) y (calls_stay t found y h)

-- each call is among names that have all that was found after it
module _ (all : List Name) where
  abbrev AreAmong : List Name → Type 0
  AreAmong found = (y : Name) → is_in found y ≡ true → is_in all y ≡ true

  mutual
    calls_among : (t : Tm) (found : List Name) → AreAmong (with_calls t found) → Over (λ x. Unit {0}) (λ f k. is_in all f ≡ true) t
    calls_among (Var x) found h = tt
    calls_among (Quote v) found h = tt
    calls_among (Call f ts) found h = (h f (calls_stay_in ts (with_name f found) f (name_there f found)), calls_among_in ts (with_name f found) h)

    calls_among_in : (ts : Tms) (found : List Name) → AreAmong (with_calls_in ts found) → OverAll (λ x. Unit {0}) (λ f k. is_in all f ≡ true) ts
    calls_among_in Done found h = tt
    calls_among_in (More t ts) found h = (calls_among t found (λ y i. h y (calls_stay_in ts (with_calls t found) y i)), calls_among_in ts (with_calls t found) h)

  each_among : (ts : List Tm) (found : List Name) → AreAmong (with_calls_in (tms ts) found) → Each (Over (λ x. Unit {0}) (λ f k. is_in all f ≡ true)) ts
  each_among [] found h = tt
  each_among (t ∷ ts) found h = (calls_among t found (λ y i. h y (calls_stay_in (tms ts) (with_calls t found) y i)), each_among ts (with_calls t found) h)

pub calls_are_called : CallsAreCalled
calls_are_called ts = each_among (called ts) ts [] (λ y i. i)
