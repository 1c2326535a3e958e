-- Induction on the calls of a function proves the goal.
use Rattle.std.proofs.Common.{◌≡◌, Bool, true, false, cond, is_some, List, [], ◌∷◌, ◌++◌, map, bytes_eq, Option, Some, None, refl, ap, ◌∙◌, subst}
use Rattle.std.proofs.lemmas.Bool.{or_parts}
use Rattle.lisp_data.specs.Values.{Name}
use Rattle.terms.specs.Definitions.{find}
use Rattle.terms.specs.Joins.{join}
use Rattle.terms.specs.Measures.{mentions, mentions_in, RecursiveCall, Place, next, first_place, tests_at, recursive_calls, recursive_calls_in}
use Rattle.terms.specs.Sound.{Sound}
use Rattle.terms.specs.Substitution.{by_pairs}
use Rattle.terms.specs.Terms.{Tm, Var, Quote, Call, Tms, Done, More, tms, tm_list, substitute, substitute_all, by_args}
use Rattle.terms.specs.Worlds.{World, Each}
use Rattle.terms.specs.declared.definition.Definition.{Definition}
use Rattle.terms.proofs.Later.{has_basics}
use Rattle.terms.proofs.Lists.{join_parts}
use Rattle.terms.proofs.Names.{same_name}
use Rattle.hints.specs.Start.{implication, conjunction, bind, images, as_variables}
use Rattle.hints.specs.Start as start
use Rattle.reduction_proofs.specs.Proving.{Within, Proves}
use Rattle.reduction_proofs.specs.Trees.{Proof}
use Rattle.reduction_proofs.proofs.Bindings.{bind_is, tms_list}
use Rattle.reduction_proofs.proofs.Deduction.{wider}
use Rattle.reduction_proofs.proofs.Induction.{induction_proves}
use Rattle.reduction_proofs.proofs.Members.{each_self}
use Rattle.reduction_proofs.proofs.Recursive.{has_distinct_formals, has_measure, is_recursive}
use Rattle.proof_builders.specs.Laws.{InductOnCallsProves}
use Rattle.proof_builders.specs.Schemes.{hypothesis, scheme, by_measure}

-- a term without calls of f has none
module _ (f : Name) where
  mutual
    pub no_calls : (t : Tm) (tests : List Tm) → mentions f t ≡ false → recursive_calls f tests t ≡ []
    no_calls (Var x) tests e = refl
    no_calls (Quote v) tests e = refl
    no_calls (Call g ts) tests e =
        let h = or_parts (bytes_eq f g) (mentions_in f ts) e in
        ap (λ b. cond b (record { tests = tests; args = ts } ∷ []) [] ++ recursive_calls_in f (first_place f g ts) tests ts) h.0 ∙ no_calls_in ts (first_place f g ts) tests h.1

    no_calls_in : (ts : Tms) (p : Place) (tests : List Tm) → mentions_in f ts ≡ false → recursive_calls_in f p tests ts ≡ []
    no_calls_in Done p tests e = refl
    no_calls_in (More t ts) p tests e =
        let h = or_parts (mentions f t) (mentions_in f ts) e in
        ap (λ cs. cs ++ recursive_calls_in f (next p) tests ts) (no_calls t (tests_at p tests) h.0) ∙ no_calls_in ts (next p) tests h.1

-- formals for themselves change nothing
pub own : (xs : List Name) (x : Name) → by_args xs (tms (map Var xs)) x ≡ Var x
own [] x = refl
own (y ∷ ys) x = by_test (bytes_eq y x) refl (own ys x)
  where
    by_test : (b : Bool) → bytes_eq y x ≡ b → by_args ys (tms (map Var ys)) x ≡ Var x → cond b (Var y) (by_args ys (tms (map Var ys)) x) ≡ Var x
    by_test true e ih = ap Var (same_name y x e)
    by_test false e ih = ih

module _ (s : Name → Tm) (same : (x : Name) → s x ≡ Var x) where
  mutual
    pub put_own : (t : Tm) → substitute s t ≡ t
    put_own (Var x) = same x
    put_own (Quote v) = refl
    put_own (Call f ts) = ap (Call f) (put_all_own ts)

    put_all_own : (ts : Tms) → substitute_all s ts ≡ ts
    put_all_own Done = refl
    put_all_own (More t ts) = let p = put_own t in let q = put_all_own ts in cc

  list_own : (ts : List Tm) → map (substitute s) ts ≡ ts
  list_own [] = refl
  list_own (t ∷ ts) = let p = put_own t in let q = list_own ts in cc

module _ (s r : Name → Tm) (same : (x : Name) → s x ≡ r x) where
  mutual
    put_same : (t : Tm) → substitute s t ≡ substitute r t
    put_same (Var x) = same x
    put_same (Quote v) = refl
    put_same (Call f ts) = ap (Call f) (put_all_same ts)

    put_all_same : (ts : Tms) → substitute_all s ts ≡ substitute_all r ts
    put_all_same Done = refl
    put_all_same (More t ts) = let p = put_same t in let q = put_all_same ts in cc

-- read at the formals themselves, the hypotheses are the scheme's
module _ (d : Definition) (g : Tm) where
  own_pairs : (x : Name) → by_pairs (as_variables d d.formals) x ≡ Var x
  own_pairs x = bind_is d.formals (map Var d.formals) x ∙ own d.formals x

  at_args : (ts : Tms) → substitute (by_pairs (bind [] d.formals (images (as_variables d d.formals) (tm_list ts)))) g ≡ substitute (by_args d.formals ts) g
  at_args ts =
      put_same (by_pairs (bind [] d.formals (images (as_variables d d.formals) (tm_list ts)))) (by_args d.formals ts)
      (λ x. bind_is d.formals (images (as_variables d d.formals) (tm_list ts)) x
      ∙ ap (λ us. by_args d.formals (tms us) x) (list_own (by_pairs (as_variables d d.formals)) own_pairs (tm_list ts))
      ∙ ap (λ us. by_args d.formals us x) (tms_list ts)) g

  one_hypothesis : (c : RecursiveCall) → start.hypothesis (as_variables d d.formals) d.formals g c ≡ hypothesis d.formals g c
  one_hypothesis c =
      ap (λ ts. implication (conjunction ts) (substitute (by_pairs (bind [] d.formals (images (as_variables d d.formals) (tm_list c.args)))) g)) (list_own (by_pairs (as_variables d d.formals)) own_pairs c.tests)
      ∙ ap (implication (conjunction c.tests)) (at_args c.args)

  hypotheses_are : (cs : List RecursiveCall) → map (start.hypothesis (as_variables d d.formals) d.formals g) cs ≡ map (hypothesis d.formals g) cs
  hypotheses_are [] = refl
  hypotheses_are (c ∷ cs) = let p = one_hypothesis c in let q = hypotheses_are cs in cc

module _ (W : World) (sound : Sound W) (us : List Tm) (d : Definition) (found : find W.functions.defs d.name ≡ Some d) (g : Tm) (B : Proof) (b : Proves W us (scheme d g) g B) where
  with_measure : mentions d.name d.body ≡ true → (o : Option Tm) → d.measure ≡ o → is_some o ≡ true → Proves W us [] g (by_measure d o B)
  with_measure e None q i = absurd (cc)
  with_measure e (Some m) q i =
      let cs : List RecursiveCall = recursive_calls d.name [] d.body in
      let H : List Tm = map (start.hypothesis (as_variables d d.formals) d.formals g) cs in
      let L : List Tm = join [] H in
      let sub : Each (Within L) (scheme d g) = subst (Each (Within L)) (hypotheses_are d g cs) (join_parts (Within L) [] H (each_self L)).1 in
      induction_proves W us (has_basics W sound) d m cs (is_recursive W sound d.name d found e m q) d.formals (has_distinct_formals W sound d.name d found e) refl [] g tt B (wider W us (scheme d g) L g B sub b)

  by_recursion : (c : Bool) → mentions d.name d.body ≡ c → Proves W us [] g (cond c (by_measure d d.measure B) B)
  by_recursion true e = with_measure e d.measure refl (has_measure W sound d.name d found e)
  by_recursion false e = subst (λ cs. Proves W us (map (hypothesis d.formals g) cs) g B) (no_calls d.name d.body [] e) b

pub induct_on_calls_proves : InductOnCallsProves
induct_on_calls_proves W sound us d found g B b = by_recursion W sound us d found g B b (mentions d.name d.body) refl
