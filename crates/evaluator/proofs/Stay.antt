-- A value stays where the definitions are found again.
use Rattle.std.proofs.Common.{◌≡◌, ℕ, zero, suc, Bool, true, false, cond, List, [], ◌∷◌, ◌++◌, length, nat_eq, bytes_eq, codes, Option, Some, None, refl, sym, ap, ◌∙◌}
use Rattle.lisp_data.specs.Values.{Name, Val}
use Rattle.terms.specs.Primitives.{Operation, primitive, is_nil}
use Rattle.terms.specs.Terms.{Tm, Var, Quote, Call, Tms, Done, More}
use Rattle.terms.specs.declared.definition.Definition.{Definition}
use Rattle.terms.specs.Definitions.{find}
use Rattle.terms.specs.Evaluation.{Env, bind}
use Rattle.evaluator.specs.Counted.{Stuck, Gives, Stops, Step, then_step, gathered, taken, entered, begun, Act, counted, steps, calls, below, told, evaluated}
use Rattle.evaluator.specs.Laws.{FindsAll, CountedValuesStay}
use Rattle.evaluator.proofs.Depth.{body_told}
use Rattle.evaluator.proofs.Values.{step_inv}

-- each value that the first gives the second gives too
abbrev Stays : Step → Step → Type 0
Stays s s' = (c d : ℕ) (v : Val) → s c ≡ Gives v d → s' c ≡ Gives v d

abbrev AllStay : List Step → List Step → Type 0
AllStay [] [] = Unit {0}
AllStay [] (s ∷ ss) = ⊥
AllStay (s ∷ ss) [] = ⊥
AllStay (s ∷ ss) (s' ∷ ss') = Stays s s' × AllStay ss ss'

gathered_stays : (k k' : List Val → Step) → ((vs : List Val) → Stays (k vs) (k' vs)) → (ss ss' : List Step) → AllStay ss ss' → (us : List Val) → Stays (gathered k us ss) (gathered k' us ss')
gathered_stays k k' a [] [] h us c d v e = a us c d v e
gathered_stays k k' a [] (s ∷ ss) h us c d v e = absurd h
gathered_stays k k' a (s ∷ ss) [] h us c d v e = absurd h
gathered_stays k k' a (s ∷ ss) (s' ∷ ss') h us c d v e =
    let g = step_inv (s c) (λ w. gathered k (us ++ w ∷ []) ss) v d e in
    ap (λ o. then_step o (λ w. gathered k' (us ++ w ∷ []) ss')) (h.0 c g.left g.value g.is.0)
    ∙ gathered_stays k k' a ss ss' h.1 (us ++ g.value ∷ []) g.left d v g.is.1

taken_stays : (ss ss' : List Step) → AllStay ss ss' → Stays (taken ss) (taken ss')
taken_stays [] ss' a c d v h = cc
taken_stays (x ∷ []) ss' a c d v h = cc
taken_stays (x ∷ y ∷ []) ss' a c d v h = cc
taken_stays (x ∷ y ∷ z ∷ w ∷ ss) ss' a c d v h = cc
taken_stays (x ∷ y ∷ z ∷ []) [] a c d v h = absurd a
taken_stays (x ∷ y ∷ z ∷ []) (p ∷ []) a c d v h = absurd a.1
taken_stays (x ∷ y ∷ z ∷ []) (p ∷ q ∷ []) a c d v h = absurd a.1.1
taken_stays (x ∷ y ∷ z ∷ []) (p ∷ q ∷ r ∷ s ∷ ss) a c d v h = absurd a.1.1.1
taken_stays (x ∷ y ∷ z ∷ []) (p ∷ q ∷ r ∷ []) a c d v h =
    let g = step_inv (x c) _ v d h in
    ap (λ o. then_step o (λ w. cond (is_nil w) r q)) (a.0 c g.left g.value g.is.0)
    ∙ by_test (is_nil g.value) g.left g.is.1
  where
    by_test : (t : Bool) (e : ℕ) → cond t z y e ≡ Gives v d → cond t r q e ≡ Gives v d
    by_test true e k = a.1.1.0 e d v k
    by_test false e k = a.1.0 e d v k

entered_stays : (run run' : Tm → Env → Step) → ((t : Tm) (env : Env) → Stays (run t env) (run' t env)) → (e : Definition) (vs : List Val) → Stays (entered run e vs) (entered run' e vs)
entered_stays run run' a e vs zero d v h = cc
entered_stays run run' a e vs (suc c) d v h = by_test (nat_eq (length e.formals) (length vs)) h
  where
    by_test : (t : Bool) → cond t (run e.body (bind e.formals vs) c) (Stops Stuck) ≡ Gives v d → cond t (run' e.body (bind e.formals vs) c) (Stops Stuck) ≡ Gives v d
    by_test true k = a e.body (bind e.formals vs) c d v k
    by_test false k = cc

begun_stays : (run run' : Tm → Env → Step) → ((t : Tm) (env : Env) → Stays (run t env) (run' t env)) → (f : Name) (p : Option Operation) (q q' : Option Definition) → ((e : Definition) → q ≡ Some e → q' ≡ Some e) → (vs : List Val) → Stays (begun run f p q vs) (begun run' f p q' vs)
begun_stays run run' a f (Some p) q q' k vs c d v h = h
begun_stays run run' a f None (Some e) q' k vs c d v h = ap (λ r. begun run' f None r vs c) (k e refl) ∙ entered_stays run run' a e vs c d v h
begun_stays run run' a f None None q' k vs c d v h = cc

module _ (act act' : Act) (a : (f : Name) (vs : List Val) → Stays (act f vs) (act' f vs)) where
  call_stays : (f : Name) (ss ss' : List Step) → AllStay ss ss' → (t : Bool) → Stays (λ c. cond t (taken ss) (gathered (act f) [] ss) c) (λ c. cond t (taken ss') (gathered (act' f) [] ss') c)
  call_stays f ss ss' h true c d v e = taken_stays ss ss' h c d v e
  call_stays f ss ss' h false c d v e = gathered_stays (act f) (act' f) (a f) ss ss' h [] c d v e

  mutual
    counted_stays : (t : Tm) (env : Env) → Stays (counted act t env) (counted act' t env)
    counted_stays (Var x) env c d v h = h
    counted_stays (Quote w) env c d v h = h
    counted_stays (Call f ts) env c d v h = call_stays f (steps act ts env) (steps act' ts env) (steps_stay ts env) (bytes_eq (codes "IF") f) c d v h

    steps_stay : (ts : Tms) (env : Env) → AllStay (steps act ts env) (steps act' ts env)
    steps_stay Done env = tt
    steps_stay (More t ts) env = (counted_stays t env, steps_stay ts env)

below_stays : (ds es : List Definition) → FindsAll ds es → (n : ℕ) (t : Tm) (env : Env) → Stays (below ds n t env) (below es n t env)
below_stays ds es k zero t env c d v h = cc
below_stays ds es k (suc n) t env c d v h =
    counted_stays (calls ds (below ds n)) (calls es (below es n))
    (λ f vs. begun_stays (below ds n) (below es n) (below_stays ds es k n) f (primitive f) (find ds f) (find es f) (k f) vs)
    t env c d v h

pub counted_values_stay : CountedValuesStay
unfolding evaluated
counted_values_stay ds es k t v c h =
    sym (body_told es t (λ x. None) 1000000)
    ∙ below_stays ds es k 1000001 t (λ x. None) 1000000 c v (body_told ds t (λ x. None) 1000000 ∙ h)
