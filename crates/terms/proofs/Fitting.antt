-- Pairs that are accepted fit.
use Rattle.std.proofs.Common.{◌≡◌, ℕ, Bool, true, false, not, List, [], ◌∷◌, ◌++◌, nat_eq, is_some, Option, Some, None, Ok, Err, if◌then◌else◌, refl, sym, ap, ◌∙◌, subst, append_assoc, append-nil, T, eqb→eq}
use Rattle.lisp_data.specs.Values.{Name}
use Rattle.terms.specs.Primitives.{lookup}
use Rattle.terms.specs.Worlds.{World, arity}
use Rattle.terms.specs.declared.entries.FunPair.{FunPair}
use Rattle.terms.specs.Maps.{NamePairs, HasDistinctNames}
use Rattle.terms.specs.Refusals.{Outcome, and_then, map_outcome, unknown_name, wrong_kind, wrong_arity, repeated}
use Rattle.terms.specs.Pairs.{is_known, same_arity, fitting_pair, with_pair, with_pairs, name_pairs, IsFitting, AreFitting}
use Rattle.terms.proofs.MapKeys.{HasDistinctNames-push}

-- where the second of two steps succeeds, the first does
pub then_ok : {A B : Type 0} (o : Outcome A) (f : A → Outcome B) (y : B) → and_then o f ≡ Ok y → (x : A) × (o ≡ Ok x) × (f x ≡ Ok y)
then_ok (Ok x) f y e = (x, refl, e)
then_ok (Err r) f y e = absurd (cc)

pub ok_inj : {A : Type 0} {x y : A} → ◌≡◌ {A = Outcome A} (Ok x) (Ok y) → x ≡ y
ok_inj e = cc

pub map_ok : {A B : Type 0} (f : A → B) (o : Outcome A) (y : B) → map_outcome f o ≡ Ok y → (x : A) × (o ≡ Ok x) × (f x ≡ y)
map_ok f (Ok x) y e = (x, refl, ok_inj e)
map_ok f (Err r) y e = absurd (cc)

-- what fits takes as many arguments
fits : (v g : Name) (a b : Bool) (wanted taken : Option ℕ) (u : Unit {0}) →
    (if not a then unknown_name v else if not b then unknown_name g else if not (is_some wanted) then wrong_kind v else if not (is_some taken) then wrong_kind g else if not (same_arity wanted taken) then wrong_arity g else Ok tt) ≡ Ok u →
    (k : ℕ) × (wanted ≡ Some k) × (taken ≡ Some k)
fits v g false b wanted taken u e = absurd (cc)
fits v g true false wanted taken u e = absurd (cc)
fits v g true true None taken u e = absurd (cc)
fits v g true true (Some k) None u e = absurd (cc)
fits v g true true (Some k) (Some l) u e = by_test (nat_eq k l) refl e
  where
    by_test : (b : Bool) → nat_eq k l ≡ b → ◌≡◌ {A = Outcome (Unit {0})} (if not b then wrong_arity g else Ok tt) (Ok u) → (j : ℕ) × (◌≡◌ {A = Option ℕ} (Some k) (Some j)) × (◌≡◌ {A = Option ℕ} (Some l) (Some j))
    by_test true t e' = (k, refl, ap Some (sym (eqb→eq k l (subst T (sym t) tt))))
    by_test false t e' = absurd (cc)

-- a pair that is accepted fits, its variable is new, and it is added
record Accepted (W : World) (m : NamePairs) (p : FunPair) (n : NamePairs) : Type 0 where
  fitting : IsFitting W.functions p
  is_new : lookup m p.variable ≡ None
  added : n ≡ m ++ (p.variable, p.function) ∷ []

accepted : (W : World) (m : NamePairs) (p : FunPair) (n : NamePairs) → with_pair W m p ≡ Ok n → Accepted W m p n
accepted W m p n e =
    let r = then_ok (fitting_pair W p) (λ u. if is_some (lookup m p.variable) then repeated p.variable else Ok (m ++ (p.variable, p.function) ∷ [])) n e in
    let s = is_new (lookup m p.variable) r.2 in
    record {
      fitting = fits p.variable p.function (is_known W p.variable) (is_known W p.function) (lookup W.functions.vars p.variable) (arity W.functions p.function) r.0 r.1;
      is_new = s.0;
      added = s.1;
    }
  where
    is_new : (o : Option Name) → ◌≡◌ {A = Outcome NamePairs} (if is_some o then repeated p.variable else Ok (m ++ (p.variable, p.function) ∷ [])) (Ok n) → (o ≡ None) × (n ≡ m ++ (p.variable, p.function) ∷ [])
    is_new None e' = (refl, sym (ok_inj e'))
    is_new (Some g) e' = absurd (cc)

pub pairs_fit : (W : World) (begun : NamePairs) (pairs : List FunPair) (m : NamePairs) → with_pairs W begun pairs ≡ Ok m → AreFitting W begun pairs m
pairs_fit W m [] n e = let same = ok_inj e in record { as_given = sym same ∙ sym (append-nil m); distinct = λ d. subst HasDistinctNames same d; fitting = tt }
pairs_fit W m (p ∷ ps) n e =
    let r = then_ok (with_pair W m p) (λ k. with_pairs W k ps) n e in
    let one = accepted W m p r.0 r.1 in
    let rest = pairs_fit W r.0 ps n r.2 in
    record {
      as_given = rest.as_given ∙ ap (λ k. k ++ name_pairs ps) one.added ∙ append_assoc m ((p.variable, p.function) ∷ []) (name_pairs ps);
      distinct = λ d. rest.distinct (subst HasDistinctNames (sym one.added) (HasDistinctNames-push m p.variable p.function d one.is_new));
      fitting = (one.fitting, rest.fitting);
    }
