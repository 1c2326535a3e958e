-- What is true of all that an optional value may be, by the form in which it is found.
use Rattle.std.proofs.Common.{◌≡◌, ℕ, zero, suc, Bool, true, false, List, [], ◌∷◌, Option, Some, None, refl, subst}
use Rattle.std.specs.Option.{option_map}
use Rattle.std.proofs.lemmas.Bool.{and_parts}
use Rattle.terms.specs.Terms.{Tm, Var, Quote, Call, Tms, Done, More, count}
use Rattle.terms.specs.Evaluation.{then_with}
use Rattle.terms.specs.Paths.{argument, then_at, part_at}
use Rattle.terms.specs.Worlds.{Functions, arity, Each}
use Rattle.kernel.specs.Fitting.{takes, fits, fit_all}
use Rattle.reduction.specs.declared.found.At.{At}
use Rattle.reduction.specs.declared.found.Found.{Found}
use Rattle.reduction.specs.Finding.{or_else, only, when, first}
use Rattle.reduction.specs.Seek.{here, placed, seek, seek_in}
use Rattle.reduction_proofs.specs.Proving.{Within}
use Rattle.reduction_proofs.proofs.Members.{within_first, within_more}

pub record Sure {A : Type 0} (P : A → Type 0) (o : Option A) : Type 0 where
  pub so : (x : A) → o ≡ Some x → P x

pub some_is : {A : Type 0} {x y : A} → Some x ≡ Some y → x ≡ y
some_is e = cc

pub sure_some : {A : Type 0} (P : A → Type 0) (x : A) → P x → Sure P (Some x)
sure_some P x p = record { so = λ y e. subst P (some_is e) p }

pub sure_none : {A : Type 0} (P : A → Type 0) → Sure P None
sure_none P = record { so = λ y e. absurd (cc) }

pub sure_or : {A : Type 0} (P : A → Type 0) (a b : Option A) → Sure P a → Sure P b → Sure P (or_else a b)
sure_or P None b s t = t
sure_or P (Some x) b s t = s

pub sure_when : {A : Type 0} (P : A → Type 0) (b : Bool) (x : A) → (b ≡ true → P x) → Sure P (when b x)
sure_when P true x f = sure_some P x (f refl)
sure_when P false x f = sure_none P

pub sure_only : {A : Type 0} (P : A → Type 0) (b : Bool) (o : Option A) → (b ≡ true → Sure P o) → Sure P (only b o)
sure_only P true o f = f refl
sure_only P false o f = sure_none P

pub sure_then : {A B : Type 0} (P : B → Type 0) (a : Option A) (k : A → Option B) → ((x : A) → a ≡ Some x → Sure P (k x)) → Sure P (then_with a k)
sure_then P None k f = sure_none P
sure_then P (Some x) k f = f x refl

pub sure_map : {A B : Type 0} (Q : A → Type 0) (P : B → Type 0) (a : Option A) (k : A → B) → Sure Q a → ((x : A) → Q x → P (k x)) → Sure P (then_with a (λ x. Some (k x)))
sure_map Q P a k s f = sure_then P a (λ x. Some (k x)) (λ x e. sure_some P (k x) (f x (s.so x e)))

pub sure_option_map : {A B : Type 0} (P : B → Type 0) (a : Option A) (k : A → B) → ((x : A) → a ≡ Some x → P (k x)) → Sure P (option_map k a)
sure_option_map P None k f = sure_none P
sure_option_map P (Some x) k f = sure_some P (k x) (f x refl)

pub sure_first : {B : Type 0} (P : B → Type 0) (f : Tm → Option B) (xs : List Tm) → ((x : Tm) → Within xs x → Sure P (f x)) → Sure P (first f xs)
sure_first P f [] h = sure_none P
sure_first P f (x ∷ xs) h = sure_or P (f x) (first f xs) (h x (within_first x xs)) (sure_first P f xs (λ y w. h y (within_more x xs y w)))

-- the same of a list whose items are known to satisfy Q
pub sure_first_each : {A B : Type 0} (Q : A → Type 0) (P : B → Type 0) (f : A → Option B) (xs : List A) → Each Q xs → ((x : A) → Q x → Sure P (f x)) → Sure P (first f xs)
sure_first_each Q P f [] q h = sure_none P
sure_first_each Q P f (x ∷ xs) q h = sure_or P (f x) (first f xs) (h x q.0) (sure_first_each Q P f xs q.1 h)

-- what is found at a part of a term stands in the term there
module _ (W : Functions) (c : Bool → Tm → Option Found) (R : Tm → Found → Type 0) (each : (w : Bool) (t : Tm) → fits W t ≡ true → Sure (R t) (c w t)) where
  pub record Stands (t : Tm) (r : At) : Type 0 where
    pub is_there : part_at r.path t ≡ Some r.part
    pub part_fits : fits W r.part ≡ true
    pub rest : R r.part r.found

  record StandsIn (ts : Tms) (r : ℕ × At) : Type 0 where
    is_there : then_at (part_at r.1.path) (argument r.0 ts) ≡ Some r.1.part
    part_fits : fits W r.1.part ≡ true
    rest : R r.1.part r.1.found

  stand_here : (t : Tm) (o : Option Found) → fits W t ≡ true → Sure (R t) o → Sure (Stands t) (here t o)
  stand_here t o f s = sure_map (R t) (Stands t) o (λ x. record { path = []; part = t; found = x }) s (λ x h. record { is_there = refl; part_fits = f; rest = h })

  later : (t : Tm) (ts : Tms) (n : ℕ) (path : List ℕ) (a : Tm) → then_at (part_at path) (argument n ts) ≡ Some a → then_at (part_at path) (argument (suc n) (More t ts)) ≡ Some a
  later t ts zero path a e = absurd (cc)
  later t ts (suc n) path a e = e

  mutual
    pub seek_stands : (w : Bool) (t : Tm) → fits W t ≡ true → Sure (Stands t) (seek c w t)
    seek_stands w (Var x) f = stand_here (Var x) (c w (Var x)) f (each w (Var x) f)
    seek_stands w (Quote v) f = stand_here (Quote v) (c w (Quote v)) f (each w (Quote v) f)
    seek_stands w (Call g ts) f =
        sure_or (Stands (Call g ts)) _ _
        (sure_option_map (Stands (Call g ts)) (seek_in c ts) placed (λ r e. let s = (seek_in_stands ts (and_parts (takes (arity W g) (count ts)) (fit_all W ts) f).1).so r e in
        record { is_there = s.is_there; part_fits = s.part_fits; rest = s.rest }))
        (stand_here (Call g ts) (c w (Call g ts)) f (each w (Call g ts) f))

    seek_in_stands : (ts : Tms) → fit_all W ts ≡ true → Sure (StandsIn ts) (seek_in c ts)
    seek_in_stands Done f = sure_none (StandsIn Done)
    seek_in_stands (More t ts) f =
        let h = and_parts (fits W t) (fit_all W ts) f in
        sure_or (StandsIn (More t ts)) _ _
        (sure_map (Stands t) (StandsIn (More t ts)) (seek c false t) (λ r. (1, r)) (seek_stands false t h.0) (λ r s. record { is_there = s.is_there; part_fits = s.part_fits; rest = s.rest }))
        (sure_map (StandsIn ts) (StandsIn (More t ts)) (seek_in c ts) (λ r. (suc r.0, r.1)) (seek_in_stands ts h.1)
        (λ r s. record { is_there = later t ts r.0 r.1.path r.1.part s.is_there; part_fits = s.part_fits; rest = s.rest }))
