-- Substitutions by bindings of names, and one after the other.
use Rattle.std.proofs.Common.{◌≡◌, ℕ, Bool, true, false, cond, List, [], ◌∷◌, ◌++◌, map, length, bytes_eq, Option, Some, None, refl, sym, ap, ◌∙◌, subst, arith}
use Rattle.std.specs.Option.{unwrap_or}
use Rattle.std.proofs.lemmas.Bool.{and_parts, and_from}
use Rattle.lisp_data.specs.Values.{Name}
use Rattle.terms.specs.Primitives.{lookup}
use Rattle.terms.specs.Substitution.{Pairs, by_pairs, or_var}
use Rattle.terms.specs.Terms.{Tm, Var, Quote, Call, Tms, Done, More, count, tms, tm_list, Over, OverAll, substitute, substitute_all, by_args}
use Rattle.terms.specs.Worlds.{World, IsIn, Distinct, Each}
use Rattle.terms.proofs.Args.{tms-map_substitute}
use Rattle.terms.proofs.Below.{Any}
use Rattle.terms.proofs.Names.{same_name, name_self}
use Rattle.terms.proofs.Totality.{over_substitute}
use Rattle.kernel.specs.Fitting.{fits, fit_all, pairs_fit}
use Rattle.kernel.proofs.Inversions.{fits_decides, pair_fits}
use Rattle.hints.specs.Start.{bound, bind, images}
use Rattle.reduction_proofs.proofs.Members.{Fit}

-- ---- what a binding gives a name
with_end : (s : Pairs) (x : Name) (t : Tm) (y : Name) (d : Tm) → unwrap_or (lookup (s ++ (x, t) ∷ []) y) d ≡ unwrap_or (lookup s y) (cond (bytes_eq x y) t d)
with_end [] x t y d = by_test (bytes_eq x y)
  where
    by_test : (b : Bool) → unwrap_or (cond b (Some t) None) d ≡ cond b t d
    by_test true = refl
    by_test false = refl
with_end (e ∷ s) x t y d = by_test (bytes_eq e.0 y) (with_end s x t y d)
  where
    by_test : (b : Bool) → unwrap_or (lookup (s ++ (x, t) ∷ []) y) d ≡ unwrap_or (lookup s y) (cond (bytes_eq x y) t d) →
        unwrap_or (cond b (Some e.1) (lookup (s ++ (x, t) ∷ []) y)) d ≡ unwrap_or (cond b (Some e.1) (lookup s y)) (cond (bytes_eq x y) t d)
    by_test true ih = refl
    by_test false ih = ih

or_unwrap : (y : Name) (o : Option Tm) → or_var y o ≡ unwrap_or o (Var y)
or_unwrap y None = refl
or_unwrap y (Some t) = refl

bind_gives : (s : Pairs) (xs : List Name) (ts : List Tm) (y : Name) → by_pairs (bind s xs ts) y ≡ unwrap_or (lookup s y) (by_args xs (tms ts) y)
bind_gives s [] ts y = or_unwrap y (lookup s y)
bind_gives s (x ∷ xs) [] y = or_unwrap y (lookup s y)
bind_gives s (x ∷ xs) (t ∷ ts) y = by_first (lookup s x) refl (λ z. bind_gives z xs ts y)
  where
    rest : Tm
    rest = by_args xs (tms ts) y

    has_one : (u : Tm) → lookup s x ≡ Some u → (b : Bool) → bytes_eq x y ≡ b → unwrap_or (lookup s y) rest ≡ unwrap_or (lookup s y) (cond b t rest)
    has_one u e true q = let a : lookup s y ≡ Some u = ap (lookup s) (sym (same_name x y q)) ∙ e in ap (λ o. unwrap_or o rest) a ∙ sym (ap (λ o. unwrap_or o t) a)
    has_one u e false q = refl

    by_first : (o : Option Tm) → lookup s x ≡ o → ((z : Pairs) → by_pairs (bind z xs ts) y ≡ unwrap_or (lookup z y) rest) → by_pairs (bind (bound s x t o) xs ts) y ≡ unwrap_or (lookup s y) (cond (bytes_eq x y) t rest)
    by_first None e ih = ih (s ++ (x, t) ∷ []) ∙ with_end s x t y rest
    by_first (Some u) e ih = ih s ∙ has_one u e (bytes_eq x y) refl

pub bind_is : (xs : List Name) (ts : List Tm) (y : Name) → by_pairs (bind [] xs ts) y ≡ by_args xs (tms ts) y
bind_is xs ts y = bind_gives [] xs ts y

pub tms_list : (ts : Tms) → tms (tm_list ts) ≡ ts
tms_list Done = refl
tms_list (More t ts) = ap (More t) (tms_list ts)

images_are : (r : Pairs) (us : Tms) → tms (images r (tm_list us)) ≡ substitute_all (by_pairs r) us
images_are r us = tms-map_substitute r (tm_list us) ∙ ap (substitute_all (by_pairs r)) (tms_list us)

-- ---- substitutions one after the other
mutual
  substitute_both : (f g : Name → Tm) (u : Tm) → substitute f (substitute g u) ≡ substitute (λ x. substitute f (g x)) u
  substitute_both f g (Var x) = refl
  substitute_both f g (Quote v) = refl
  substitute_both f g (Call h us) = ap (Call h) (substitute_all_both f g us)

  substitute_all_both : (f g : Name → Tm) (us : Tms) → substitute_all f (substitute_all g us) ≡ substitute_all (λ x. substitute f (g x)) us
  substitute_all_both f g Done = refl
  substitute_all_both f g (More u us) = let a = substitute_both f g u in let b = substitute_all_both f g us in cc

module _ (P : Name → Type 0) (Q : Name → ℕ → Type 0) (f g : Name → Tm) (same : (x : Name) → P x → f x ≡ g x) where
  mutual
    substitute_same : (u : Tm) → Over P Q u → substitute f u ≡ substitute g u
    substitute_same (Var x) o = same x o
    substitute_same (Quote v) o = refl
    substitute_same (Call h us) o = ap (Call h) (substitute_all_same us o.1)

    substitute_all_same : (us : Tms) → OverAll P Q us → substitute_all f us ≡ substitute_all g us
    substitute_all_same Done o = refl
    substitute_all_same (More u us) o = let a = substitute_same u o.0 in let b = substitute_all_same us o.1 in cc

-- S gives the names the terms under R, one for one
Agrees : (Name → Tm) → (Name → Tm) → List Name → Tms → Type 0
Agrees S R [] Done = Unit {0}
Agrees S R (x ∷ xs) (More u us) = (S x ≡ substitute R u) × Agrees S R xs us
Agrees S R [] (More u us) = ⊥
Agrees S R (x ∷ xs) Done = ⊥

agrees_by : (S S' R : Name → Tm) (xs : List Name) (us : Tms) → ((x : Name) → IsIn xs x → S' x ≡ S x) → Agrees S R xs us → Agrees S' R xs us
unfolding Agrees
agrees_by S S' R [] Done h a = tt
agrees_by S S' R [] (More u us) h a = a
agrees_by S S' R (x ∷ xs) Done h a = a
agrees_by S S' R (x ∷ xs) (More u us) h a = (h x (subst (λ b. cond b (Unit {0}) (IsIn xs x)) (sym (name_self x)) tt) ∙ a.0, agrees_by S S' R xs us (λ y i. h y (by_test y (bytes_eq x y) i)) a.1)
  where
    by_test : (y : Name) (b : Bool) → IsIn xs y → cond b (Unit {0}) (IsIn xs y)
    by_test y true i = tt
    by_test y false i = i

agrees_args : (R : Name → Tm) (xs : List Name) (us : Tms) → Distinct xs → count us ≡ length xs → Agrees (by_args xs (substitute_all R us)) R xs us
unfolding Agrees
agrees_args R [] Done d e = tt
agrees_args R [] (More u us) d e = absurd (omega arith)
agrees_args R (x ∷ xs) Done d e = absurd (omega arith)
agrees_args R (x ∷ xs) (More u us) d e = (
  ap (λ b. cond b (substitute R u) (by_args xs (substitute_all R us) x)) (name_self x),
  agrees_by (by_args xs (substitute_all R us)) (by_args (x ∷ xs) (substitute_all R (More u us))) R xs us (λ y i. by_test y i (bytes_eq x y) refl) (agrees_args R xs us d.1 (omega arith)),
)
  where
    by_test : (y : Name) → IsIn xs y → (b : Bool) → bytes_eq x y ≡ b → cond b (substitute R u) (by_args xs (substitute_all R us) y) ≡ by_args xs (substitute_all R us) y
    by_test y i true e' = absurd (d.0 (subst (IsIn xs) (sym (same_name x y e')) i))
    by_test y i false e' = refl

-- a formal has the same, read first as its variable or as its argument
formal_same : (S R : Name → Tm) (ys xs : List Name) (us : Tms) → count us ≡ length ys → Agrees S R xs us → (y : Name) → IsIn ys y → substitute R (by_args ys us y) ≡ substitute S (by_args ys (tms (map Var xs)) y)
unfolding Agrees
formal_same S R [] xs us e a y i = absurd i
formal_same S R (z ∷ ys) xs Done e a y i = absurd (omega arith)
formal_same S R (z ∷ ys) [] (More u us) e a y i = absurd a
formal_same S R (z ∷ ys) (x ∷ xs) (More u us) e a y i = by_test (bytes_eq z y) i (formal_same S R ys xs us (omega arith) a.1 y)
  where
    by_test : (b : Bool) → cond b (Unit {0}) (IsIn ys y) → (IsIn ys y → substitute R (by_args ys us y) ≡ substitute S (by_args ys (tms (map Var xs)) y)) →
        substitute R (cond b u (by_args ys us y)) ≡ substitute S (cond b (Var x) (by_args ys (tms (map Var xs)) y))
    by_test true i' ih = sym a.0
    by_test false i' ih = ih i'

-- the measure at a call's arguments, read as the variables, is the measure so read at the arguments so read
pub measure_same : (ys xs : List Name) (us : Tms) (m : Tm) → Distinct xs → length xs ≡ length ys → count us ≡ length ys → Over (IsIn ys) (λ g k. Unit {0}) m →
    substitute (by_pairs (bind [] ys (map Var xs))) (substitute (by_args ys us) m)
    ≡ substitute (by_pairs (bind [] xs (images (bind [] ys (map Var xs)) (tm_list us)))) (substitute (by_pairs (bind [] ys (map Var xs))) m)
measure_same ys xs us m d e e' o =
    let r : Pairs = bind [] ys (map Var xs) in
    let R : Name → Tm = by_pairs r in
    let S : Name → Tm = by_pairs (bind [] xs (images r (tm_list us))) in
    let agrees : Agrees S R xs us = agrees_by (by_args xs (substitute_all R us)) S R xs us (λ x i. bind_is xs (images r (tm_list us)) x ∙ ap (λ ts. by_args xs ts x) (images_are r us)) (agrees_args R xs us d (e' ∙ sym e)) in
    substitute_both R (by_args ys us) m
    ∙ substitute_same (IsIn ys) (λ g k. Unit {0}) (λ y. substitute R (by_args ys us y)) (λ y. substitute S (R y)) (λ y i. formal_same S R ys xs us e' agrees y i ∙ ap (substitute S) (sym (bind_is ys (map Var xs) y))) m o
    ∙ sym (substitute_both S R m)

-- ---- what is bound and substituted fits
module _ (W : World) where
  pub put_fits : (s : Pairs) → pairs_fit W.functions s ≡ true → (u : Tm) → Fit W u → Fit W (substitute (by_pairs s) u)
  put_fits s e u f =
      (fits_decides W.functions (substitute (by_pairs s) u)).1 (over_substitute Any Any _ (by_pairs s) (λ x p. pair_fits W.functions s e x) u ((fits_decides W.functions u).0 f))

  pub images_fit : (s : Pairs) → pairs_fit W.functions s ≡ true → (ts : List Tm) → Each (Fit W) ts → Each (Fit W) (images s ts)
  images_fit s e [] f = tt
  images_fit s e (u ∷ ts) f = (put_fits s e u f.0, images_fit s e ts f.1)

  pub list_fit : (ts : Tms) → fit_all W.functions ts ≡ true → Each (Fit W) (tm_list ts)
  list_fit Done e = tt
  list_fit (More t ts) e = let h = and_parts (fits W.functions t) (fit_all W.functions ts) e in (h.0, list_fit ts h.1)

  end_fits : (s : Pairs) (x : Name) (t : Tm) → pairs_fit W.functions s ≡ true → Fit W t → pairs_fit W.functions (s ++ (x, t) ∷ []) ≡ true
  end_fits [] x t e f = and_from (fits W.functions t) true f refl
  end_fits (p ∷ s) x t e f = let h = and_parts (fits W.functions p.1) (pairs_fit W.functions s) e in and_from (fits W.functions p.1) (pairs_fit W.functions (s ++ (x, t) ∷ [])) h.0 (end_fits s x t h.1 f)

  bound_fits : (s : Pairs) (x : Name) (t : Tm) → pairs_fit W.functions s ≡ true → Fit W t → (o : Option Tm) → pairs_fit W.functions (bound s x t o) ≡ true
  bound_fits s x t e f None = end_fits s x t e f
  bound_fits s x t e f (Some u) = e

  bind_from_fits : (s : Pairs) (xs : List Name) (ts : List Tm) → pairs_fit W.functions s ≡ true → Each (Fit W) ts → pairs_fit W.functions (bind s xs ts) ≡ true
  bind_from_fits s [] ts e f = e
  bind_from_fits s (x ∷ xs) [] e f = e
  bind_from_fits s (x ∷ xs) (t ∷ ts) e f = bind_from_fits (bound s x t (lookup s x)) xs ts (bound_fits s x t e f.0 (lookup s x)) f.1

  pub bind_fits : (xs : List Name) (ts : List Tm) → Each (Fit W) ts → pairs_fit W.functions (bind [] xs ts) ≡ true
  bind_fits xs ts f = bind_from_fits [] xs ts refl f

  pub variables_fit : (xs : List Name) → Each (Fit W) (map Var xs)
  variables_fit [] = tt
  variables_fit (x ∷ xs) = (refl, variables_fit xs)
