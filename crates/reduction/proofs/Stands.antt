-- What is found stands in the term.
use Rattle.std.proofs.Common.{◌≡◌, ℕ, zero, suc, Bool, false, List, [], ◌∷◌, Option, Some, None, IsSome, refl, subst}
use Rattle.std.specs.Option.{option_map}
use Rattle.lisp_data.specs.Values.{Name}
use Rattle.terms.specs.Terms.{Tm, Var, Quote, Call, Tms, Done, More}
use Rattle.terms.specs.Paths.{argument, argument_of, with_argument, then_at, part_at, put_part}
use Rattle.terms.specs.Evaluation.{then_with}
use Rattle.reduction.specs.declared.found.Found.{Found}
use Rattle.reduction.specs.declared.found.At.{At}
use Rattle.reduction.specs.Finding.{or_else}
use Rattle.reduction.specs.Seek.{here, placed, seek, seek_in}
use Rattle.reduction.specs.Laws.{FoundStands}

some_is : {A : Type 0} {x y : A} → Some x ≡ Some y → x ≡ y
some_is e = cc

abbrev Stands : Tm → At → Type 0
Stands t r = part_at r.path t ≡ Some r.part

abbrev StandsIn : Tms → ℕ × At → Type 0
StandsIn ts q = then_at (part_at q.1.path) (argument q.0 ts) ≡ Some q.1.part

stands_here : (t : Tm) (o : Option Found) (r : At) → here t o ≡ Some r → Stands t r
stands_here t None r e = absurd (cc)
stands_here t (Some x) r e = subst (Stands t) (some_is e) refl

in_rest : (t : Tm) (ts : Tms) (n : ℕ) (r : At) → StandsIn ts (n, r) → StandsIn (More t ts) (suc n, r)
in_rest t ts zero r e = absurd (cc)
in_rest t ts (suc n) r e = e

at_call : (f : Name) (ts : Tms) (x : Option Found) (o : Option (ℕ × At)) (r : At) → ((q : ℕ × At) → o ≡ Some q → StandsIn ts q) →
    or_else (option_map placed o) (here (Call f ts) x) ≡ Some r → Stands (Call f ts) r
at_call f ts x None r k e = stands_here (Call f ts) x r e
at_call f ts x (Some q) r k e = subst (Stands (Call f ts)) (some_is e) (k q refl)

at_more : (t : Tm) (ts : Tms) (a : Option At) (b : Option (ℕ × At)) (q : ℕ × At) → ((r : At) → a ≡ Some r → Stands t r) → ((p : ℕ × At) → b ≡ Some p → StandsIn ts p) →
    or_else (then_with a (λ r. Some (1, r))) (then_with b (λ r. Some (suc r.0, r.1))) ≡ Some q → StandsIn (More t ts) q
at_more t ts (Some r) b q k l e = subst (StandsIn (More t ts)) (some_is e) (k r refl)
at_more t ts None (Some p) q k l e = subst (StandsIn (More t ts)) (some_is e) (in_rest t ts p.0 p.1 (l p refl))
at_more t ts None None q k l e = absurd (cc)

mutual
  stands : (c : Bool → Tm → Option Found) (w : Bool) (t : Tm) (r : At) → seek c w t ≡ Some r → Stands t r
  stands c w (Var x) r e = stands_here (Var x) (c w (Var x)) r e
  stands c w (Quote v) r e = stands_here (Quote v) (c w (Quote v)) r e
  stands c w (Call f ts) r e = at_call f ts (c w (Call f ts)) (seek_in c ts) r (λ q d. stands_in c ts q d) e

  stands_in : (c : Bool → Tm → Option Found) (ts : Tms) (q : ℕ × At) → seek_in c ts ≡ Some q → StandsIn ts q
  stands_in c Done q e = absurd (cc)
  stands_in c (More t ts) q e = at_more t ts (seek c false t) (seek_in c ts) q (λ r d. stands c false t r d) (λ p d. stands_in c ts p d) e

mapped : {A B : Type 0} (f : A → B) (o : Option A) → IsSome o → IsSome (option_map f o)
mapped f None h = h
mapped f (Some x) h = refl

put_there : (path : List ℕ) (u t a : Tm) → part_at path t ≡ Some a → IsSome (put_part path u t)
put_there [] u t a e = refl
put_there (k ∷ ks) u t a e = at_arg (argument_of k t) (λ b f. put_there ks u b a f) e
  where
    at_arg : (o : Option Tm) → ((b : Tm) → part_at ks b ≡ Some a → IsSome (put_part ks u b)) → then_at (part_at ks) o ≡ Some a →
        IsSome (then_at (λ b. option_map (λ new. with_argument k new t) (put_part ks u b)) o)
    at_arg None h f = absurd (cc)
    at_arg (Some b) h f = mapped (λ new. with_argument k new t) (put_part ks u b) (h b f)

pub found_stands : FoundStands
found_stands c w t u r e = let s = stands c w t r e in (s, put_there r.path u t r.part s)
