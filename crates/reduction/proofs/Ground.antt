-- Values of calls on quoted arguments.
use Rattle.std.proofs.Common.{◌≡◌, ◌≢◌, ◌==◌, ℕ, Bool, true, false, cond, List, [], ◌∷◌, ◌++◌, append_assoc, append-nil, eq-eqb, eqb-true, length, bytes_eq, codes, Option, Some, None, refl, ap, sym, ◌∙◌, arith}
use Rattle.lisp_data.specs.Values.{Name, Val}
use Rattle.terms.specs.Primitives.{Operation, One, Two, Three, operands, operate, primitive, choose}
use Rattle.terms.specs.Terms.{Tm, Var, Quote, Call, Tms, Done, More, count, OverAll}
use Rattle.terms.specs.Definitions.{find}
use Rattle.terms.specs.Evaluation.{Env}
use Rattle.terms.specs.Worlds.{World, Functions, arity, arity_by}
use Rattle.terms.specs.declared.definition.Definition.{Definition}
use Rattle.terms.proofs.Names.{same_name}
use Rattle.terms.proofs.Meaning.{arity_primitive}
use Rattle.terms.proofs.Models.{is_if}
use Rattle.evaluator.specs.Counted.{Act, Step, Gives, Stops, Refusal, answered, performed, begun, body_run, calls, evaluated, gathered, steps, taken}
use Rattle.evaluator.specs.Laws.{IsGround}
use Rattle.evaluator.proofs.Calls.{other_count}
use Rattle.evaluator.proofs.Turns.{not_three, steps-length}
use Rattle.reduction.specs.Complete.{takes, is_complete}
use Rattle.reduction.specs.Finders.{is_quoted_call, are_quoted, given, value_of}

apart : (a b : ℕ) → (a == b) ≡ false → a ≢ b
apart a b h e = let t : true ≡ false = sym (eq-eqb a b e) ∙ h in absurd (cc)

some_takes : (o : Option ℕ) (k : ℕ) → takes o k ≡ true → o ≡ Some k
some_takes None k e = absurd (cc)
some_takes (Some n) k e = ap Some (eqb-true n k e)

all_ground : (W : Functions) (ts : Tms) → are_quoted ts ≡ true → OverAll (λ x. ⊥) (λ f k. arity W f ≡ Some k) ts
all_ground W Done e = tt
all_ground W (More (Quote v) ts) e = (tt, all_ground W ts e)
all_ground W (More (Var x) ts) e = absurd (cc)
all_ground W (More (Call f us) ts) e = absurd (cc)

-- a complete call on quoted arguments is ground
pub complete-ground : (W : Functions) (t : Tm) → is_quoted_call t ≡ true → is_complete W t ≡ true → IsGround W t
complete-ground W (Var x) q e = absurd (cc)
complete-ground W (Quote v) q e = absurd (cc)
complete-ground W (Call f ts) q e = (some_takes (arity W f) (count ts) e, all_ground W ts q)

abbrev quoted_values : Tms → List Val
quoted_values Done = []
quoted_values (More (Quote v) ts) = v ∷ quoted_values ts
quoted_values (More (Var x) ts) = []
quoted_values (More (Call f us) ts) = []

quoted_values-length : (ts : Tms) → are_quoted ts ≡ true → length (quoted_values ts) ≡ count ts
quoted_values-length Done e = refl
quoted_values-length (More (Quote v) ts) e = omega (arith, quoted_values-length ts e)
quoted_values-length (More (Var x) ts) e = absurd (cc)
quoted_values-length (More (Call f us) ts) e = absurd (cc)

gathered-quoted : (act : Act) (env : Env) (k : List Val → Step) (ts : Tms) (vs : List Val) (c : ℕ) → are_quoted ts ≡ true → gathered k vs (steps act ts env) c ≡ k (vs ++ quoted_values ts) c
gathered-quoted act env k Done vs c e = ap (λ ws. k ws c) (sym (append-nil vs))
gathered-quoted act env k (More (Quote v) ts) vs c e =
    gathered-quoted act env k ts (vs ++ v ∷ []) c e ∙ ap (λ ws. k ws c) (append_assoc vs (v ∷ []) (quoted_values ts))
gathered-quoted act env k (More (Var x) ts) vs c e = absurd (cc)
gathered-quoted act env k (More (Call f us) ts) vs c e = absurd (cc)

operate-other : (p : Operation) (vs : List Val) → operands p ≢ length vs → operate p vs ≡ None
operate-other (One f) [] h = refl
operate-other (One f) (a ∷ []) h = absurd (h refl)
operate-other (One f) (a ∷ b ∷ vs) h = refl
operate-other (Two f) [] h = refl
operate-other (Two f) (a ∷ []) h = refl
operate-other (Two f) (a ∷ b ∷ []) h = absurd (h refl)
operate-other (Two f) (a ∷ b ∷ c ∷ vs) h = refl
operate-other (Three f) [] h = refl
operate-other (Three f) (a ∷ []) h = refl
operate-other (Three f) (a ∷ b ∷ []) h = refl
operate-other (Three f) (a ∷ b ∷ c ∷ []) h = absurd (h refl)
operate-other (Three f) (a ∷ b ∷ c ∷ d ∷ vs) h = refl

performed-none : (f : Name) (c : ℕ) → given (answered (performed f None) c) ≡ None
unfolding performed
performed-none f c = refl

begun-other : (ds : List Definition) (f : Name) (p : Option Operation) (d : Option Definition) (v : Option ℕ) (vs : List Val) (c : ℕ) → c ≢ 0 → takes (arity_by p d v) (length vs) ≡ false →
    given (begun (body_run ds) f p d vs c) ≡ None
begun-other ds f (Some p) d v vs c z e =
    ap (λ o. given (answered (performed f o) c)) (operate-other p vs (apart (operands p) (length vs) e)) ∙ performed-none f c
begun-other ds f None (Some d) v vs c z e = ap given (other_count ds d vs c z (apart (length d.formals) (length vs) e))
begun-other ds f None None v vs c z e = refl

-- a call that isn't complete has no value
pub incomplete-none : (W : World) (t : Tm) → is_quoted_call t ≡ true → is_complete W.functions t ≡ false → value_of W t ≡ None
unfolding value_of evaluated
incomplete-none W (Var x) q e = absurd (cc)
incomplete-none W (Quote v) q e = absurd (cc)
incomplete-none W (Call f ts) q e = by_test (bytes_eq (codes "IF") f) refl
  where
    ds : List Definition
    ds = W.functions.defs

    act : Act
    act = calls ds (body_run ds)

    env : Env
    env x = None

    of_if : codes "IF" ≡ f → count ts ≢ 3
    of_if p k =
        let a : arity W.functions f ≡ Some 3 = ap (arity W.functions) (sym p) ∙ arity_primitive W.functions (codes "IF") (Three choose) is_if in
        let t : true ≡ false = sym (eq-eqb 3 (count ts) (sym k)) ∙ (sym (ap (λ o. takes o (count ts)) a) ∙ e) in
        absurd (cc)

    by_test : (b : Bool) → bytes_eq (codes "IF") f ≡ b → given (cond b (taken (steps act ts env)) (gathered (act f) [] (steps act ts env)) 1000000) ≡ None
    by_test true p = ap given (not_three (steps act ts env) 1000000 (λ n. of_if (same_name (codes "IF") f p) (sym (steps-length act ts env) ∙ n)))
    by_test false p =
        ap given (gathered-quoted act env (act f) ts [] 1000000 q)
        ∙ begun-other ds f (primitive f) (find ds f) _ (quoted_values ts) 1000000 (omega arith) (ap (takes (arity W.functions f)) (quoted_values-length ts q) ∙ e)

pub value-given : (W : World) (t : Tm) (v : Val) (c : ℕ) → evaluated W.functions.defs t ≡ Gives v c → value_of W t ≡ Some v
unfolding value_of
value-given W t v c e = ap given e

pub value-stopped : (W : World) (t : Tm) (r : Refusal) → evaluated W.functions.defs t ≡ Stops r → value_of W t ≡ None
unfolding value_of
value-stopped W t r e = ap given e

pub ruleset values = (complete-ground, incomplete-none, value-given, value-stopped)
