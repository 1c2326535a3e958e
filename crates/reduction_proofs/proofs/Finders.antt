-- What the kinds find is equal, by its reason.
use Rattle.std.proofs.Common.{◌≡◌, ◌==◌, bytes_eq, Bool, true, false, cond, not, ◌&&◌, ◌||◌, List, [], ◌∷◌, length, pos, codes, is_some, Option, Some, None, refl, sym, ap, ◌∙◌, subst}
use Rattle.std.proofs.lemmas.Bool.{and_parts, and_from}
use Rattle.lisp_data.specs.Values.{Name, Val, nil, same_val}
use Rattle.terms.specs.BuiltIn.{x, y, yes, quoted}
use Rattle.terms.specs.Definitions.{find}
use Rattle.terms.specs.Formed.{HasBasics}
use Rattle.terms.specs.Measures.{mentions, call1, call2, call3}
use Rattle.terms.specs.Primitives.{primitive, primitives, is_nil}
use Rattle.terms.specs.Terms.{same_tm, Tm, Var, Quote, Call, Tms, Done, More, count}
use Rattle.terms.specs.Worlds.{Functions, World, arity, Each}
use Rattle.terms.specs.declared.definition.Definition.{Definition}
use Rattle.terms.proofs.Names.{same_name}
use Rattle.terms.proofs.Same.{same_term, term_self}
use Rattle.evaluator.specs.Counted.{Outcome, Gives, Stops, evaluated}
use Rattle.ring_laws.specs.Expressions.{is_arithmetic}
use Rattle.ring_laws.specs.Limits.{excess_of}
use Rattle.ring_laws.specs.Polynomials.{same_polynomial}
use Rattle.kernel.specs.Axioms.{axiom_at, on_truth, on_integers, integerp, plus}
use Rattle.kernel.specs.Evaluating.{is_ground, all_ground, value_of as kernel_value_of}
use Rattle.kernel.specs.Fitting.{takes, fits}
use Rattle.kernel.specs.Ring.{are_same as ring_same}
use Rattle.kernel.specs.Sequents.{equation, negation, implication, of_goal}
use Rattle.kernel.proofs.Inversions.{then_some}
use Rattle.reduction.specs.declared.found.Found.{Found}
use Rattle.reduction.specs.declared.found.Reason.TheVariants.{ByTrue, ByFalse, Refuted, Valued, Opened, Equated, SamePolynomial, Tested}
use Rattle.reduction.specs.declared.kinds.How.{How}
use Rattle.reduction.specs.Finding.{one_arg, two_args, three_args, args_of, of_one, of_two, of_three, is_call}
use Rattle.reduction.specs.Finders.{decide, are_quoted, is_quoted_call, given, value_of, ground, opens, body_of, opened_by, definition, is_part, by_sides, by_equation, on_call, is_side, side, are_same, by_polynomials, test_of}
use Rattle.reduction.specs.Found.{becomes}
use Rattle.reduction.specs.Hyps.{quoted_nil, quoted_t, has, is_true_quote, proves, refutes}
use Rattle.reduction_proofs.specs.Derived.{turned, not_nil, by_quote, is_t_by_both}
use Rattle.reduction_proofs.specs.Proving.{Within, Proves}
use Rattle.reduction_proofs.specs.Reasons.{decided, refused, by_true, by_false, equated, sided, same_polynomial_by, by_reason}
use Rattle.reduction_proofs.specs.Trees.{Proof, Hyp, Refl, Replace, IfTrue, IfFalse, ImpliesOut, Axiom, Ring}
use Rattle.reduction_proofs.proofs.Members.{Fit, has_in}
use Rattle.reduction_proofs.proofs.Deduction.{by_hyp, by_refl, by_replace, by_if_true, by_if_false, by_implies_out, by_unfold, by_eval, by_an_axiom, by_ring}
use Rattle.reduction_proofs.proofs.Shortcuts.{by_turned, by_not_nil, by_is_nil, by_a_quote}
use Rattle.reduction_proofs.proofs.Sure.{Sure, some_is, sure_or, sure_when, sure_only, sure_then, sure_some, sure_none, sure_first}

-- ---- the arguments of calls that are found
args_is : (f : Name) (t : Tm) (ts : Tms) → args_of f t ≡ Some ts → t ≡ Call f ts
args_is f (Var z) ts e = absurd (cc)
args_is f (Quote v) ts e = absurd (cc)
args_is f (Call g us) ts e = by_test (bytes_eq g f) refl e
  where
    by_test : (b : Bool) → bytes_eq g f ≡ b → cond b (Some us) None ≡ Some ts → Call g us ≡ Call f ts
    by_test true p q = let n = same_name g f p in let m : us ≡ ts = some_is q in cc
    by_test false p q = absurd (cc)

one_is : (ts : Tms) (a : Tm) → one_arg ts ≡ Some a → ts ≡ More a Done
one_is Done a e = absurd (cc)
one_is (More b Done) a e = ap (λ c. More c Done) (some_is e)
one_is (More b (More c ts)) a e = absurd (cc)

two_is : (ts : Tms) (e : Tm × Tm) → two_args ts ≡ Some e → ts ≡ More e.0 (More e.1 Done)
two_is Done e h = absurd (cc)
two_is (More a Done) e h = absurd (cc)
two_is (More a (More b Done)) e h = ap (λ (p : Tm × Tm). More p.0 (More p.1 Done)) (some_is h)
two_is (More a (More b (More c ts))) e h = absurd (cc)

three_is : (ts : Tms) (e : Tm × Tm × Tm) → three_args ts ≡ Some e → ts ≡ More e.0 (More e.1 (More e.2 Done))
three_is Done e h = absurd (cc)
three_is (More a Done) e h = absurd (cc)
three_is (More a (More b Done)) e h = absurd (cc)
three_is (More a (More b (More c Done))) e h = ap (λ (p : Tm × Tm × Tm). More p.0 (More p.1 (More p.2 Done))) (some_is h)
three_is (More a (More b (More c (More d ts)))) e h = absurd (cc)

pub of_one_is : (f : Name) (t a : Tm) → of_one f t ≡ Some a → t ≡ call1 f a
of_one_is f t a e =
    let ts = then_some (args_of f t) one_arg a e in
    args_is f t ts.0 ts.1 ∙ ap (Call f) (one_is ts.0 a ts.2)

pub of_two_is : (f : Name) (t : Tm) (p : Tm × Tm) → of_two f t ≡ Some p → t ≡ call2 f p.0 p.1
of_two_is f t p e =
    let ts = then_some (args_of f t) two_args p e in
    args_is f t ts.0 ts.1 ∙ ap (Call f) (two_is ts.0 p ts.2)

pub of_three_is : (f : Name) (t : Tm) (p : Tm × Tm × Tm) → of_three f t ≡ Some p → t ≡ call3 f p.0 p.1 p.2
of_three_is f t p e =
    let ts = then_some (args_of f t) three_args p e in
    args_is f t ts.0 ts.1 ∙ ap (Call f) (three_is ts.0 p ts.2)

three_parts : (d a b c : Bool) → (d && (a && (b && (c && true)))) ≡ true → (a ≡ true) × (b ≡ true) × (c ≡ true)
three_parts true true true true e = (refl, refl, refl)
three_parts true true true false e = absurd (cc)
three_parts true true false c e = absurd (cc)
three_parts true false b c e = absurd (cc)
three_parts false a b c e = absurd (cc)

two_parts : (d a b : Bool) → (d && (a && (b && true))) ≡ true → (a ≡ true) × (b ≡ true)
two_parts true true true e = (refl, refl)
two_parts true true false e = absurd (cc)
two_parts true false b e = absurd (cc)
two_parts false a b e = absurd (cc)

one_part : (d a : Bool) → (d && (a && true)) ≡ true → a ≡ true
one_part true true e = refl
one_part true false e = absurd (cc)
one_part false a e = absurd (cc)

-- the arguments of a call that fits
module _ (W : Functions) (f : Name) where
  pub fit_one : (a : Tm) → fits W (call1 f a) ≡ true → fits W a ≡ true
  fit_one a e = one_part (takes (arity W f) 1) (fits W a) e

  pub fit_two : (a b : Tm) → fits W (call2 f a b) ≡ true → (fits W a ≡ true) × (fits W b ≡ true)
  fit_two a b e = two_parts (takes (arity W f) 2) (fits W a) (fits W b) e

  pub fit_three : (a b c : Tm) → fits W (call3 f a b c) ≡ true → (fits W a ≡ true) × (fits W b ≡ true) × (fits W c ≡ true)
  fit_three a b c e = three_parts (takes (arity W f) 3) (fits W a) (fits W b) (fits W c) e

not_is : (b : Bool) → not b ≡ true → b ≡ false
not_is true h = absurd (cc)
not_is false h = refl

true_quote_is : (p : Tm) → is_true_quote p ≡ true → (v : Val) × (p ≡ Quote v) × (is_nil v ≡ false)
true_quote_is (Var z) e = absurd (cc)
true_quote_is (Call f ts) e = absurd (cc)
true_quote_is (Quote v) e = (v, refl, not_is (same_val v nil) e)

quoted_ground : (ts : Tms) → are_quoted ts ≡ true → all_ground ts ≡ true
quoted_ground Done e = refl
quoted_ground (More (Quote v) ts) e = quoted_ground ts e
quoted_ground (More (Var z) ts) e = absurd (cc)
quoted_ground (More (Call f us) ts) e = absurd (cc)

call_ground : (t : Tm) → is_quoted_call t ≡ true → is_ground t ≡ true
call_ground (Var z) e = absurd (cc)
call_ground (Quote v) e = absurd (cc)
call_ground (Call f ts) e = quoted_ground ts e

given_is : (o : Outcome) → given o ≡ kernel_value_of o
given_is (Gives v c) = refl
given_is (Stops r) = refl

value_is : (W : World) (t : Tm) → value_of W t ≡ kernel_value_of (evaluated W.functions.defs t)
unfolding value_of
value_is W t = given_is (evaluated W.functions.defs t)

equal_is_t : axiom_at 3 ≡ Some (implication (equation x y) (equation (equation x y) yes))
unfolding axiom_at on_truth
equal_is_t = refl

zero_plus : axiom_at 23 ≡ Some (implication (integerp x) (equation (plus (quoted (pos 0)) x) x))
unfolding axiom_at on_integers
zero_plus = refl

module _ (W : World) (us : List Tm) (basics : HasBasics W.functions) where
  pub quote_proved : (hs : List Tm) (p : Tm) → is_true_quote p ≡ true → Proves W us hs p (by_quote p)
  quote_proved hs p e = let q = true_quote_is p e in subst (λ u. Proves W us hs u (by_quote u)) (sym q.1) (by_a_quote W us basics hs q.0 q.2)

  -- what a kind's lemma says: what is found at u is equal to u, by its reason
  abbrev pub Equates : List Tm → Tm → Found → Type 0
  Equates hs u f = Proves W us hs (equation u f.term) (by_reason W u f)

  module _ (hs : List Tm) (fit : Each (Fit W) hs) where
    pub hyp_fit : (p : Tm) → Within hs p → Fit W p
    hyp_fit p w = has_in (Fit W) hs p w fit

    pub hyp_proved : (p : Tm) → Within hs p → Proves W us hs p (Hyp p)
    hyp_proved p w = by_hyp W us hs p (hyp_fit p w) w

    pub decided_is : (p : Tm) → proves hs p ≡ true → Proves W us hs p (decided p)
    decided_is p e = by_test (is_true_quote p) refl e
      where
        by_test : (b : Bool) → is_true_quote p ≡ b → (b || has hs p) ≡ true → Proves W us hs p (cond b (by_quote p) (Hyp p))
        by_test true q h = quote_proved hs p q
        by_test false q h = hyp_proved p h

    refused_is : (p : Tm) → refutes hs p ≡ true → Proves W us hs (negation p) (refused p)
    refused_is p e = by_test (same_tm p quoted_nil) refl e
      where
        by_test : (b : Bool) → same_tm p quoted_nil ≡ b → (b || has hs (negation p)) ≡ true → Proves W us hs (negation p) (cond b not_nil (Hyp (negation p)))
        by_test true q h = subst (λ u. Proves W us hs (negation u) not_nil) (sym (same_term p quoted_nil q)) (by_not_nil W us basics hs)
        by_test false q h = hyp_proved (negation p) h

    pub decide_sure : (u : Tm) → Fit W u → Sure (Equates hs u) (decide hs u)
    decide_sure u f = sure_or (Equates hs u) _ _
        (sure_then (Equates hs u) (of_three (codes "IF") u) _ (λ e is.
        let same : u ≡ call3 (codes "IF") e.0 e.1 e.2 = of_three_is (codes "IF") u e is in
        let parts = fit_three W.functions (codes "IF") e.0 e.1 e.2 (subst (Fit W) same f) in
        sure_or (Equates hs u) _ _
        (sure_when (Equates hs u) (proves hs e.0) (becomes e.1 ByTrue) (λ q.
        subst (λ o. Proves W us hs (equation u e.1) (by_true u o)) (sym is)
        (subst (λ z. Proves W us hs (equation z e.1) (IfTrue (decided e.0) e.1 e.2)) (sym same) (by_if_true W us hs e.0 e.1 e.2 (decided e.0) parts.1 parts.2 (decided_is e.0 q)))))
        (sure_when (Equates hs u) (refutes hs e.0) (becomes e.2 ByFalse) (λ q.
        subst (λ o. Proves W us hs (equation u e.2) (by_false u o)) (sym is)
        (subst (λ z. Proves W us hs (equation z e.2) (IfFalse (refused e.0) e.1 e.2)) (sym same) (by_if_false W us hs e.0 e.1 e.2 (refused e.0) parts.1 parts.2 (refused_is e.0 q)))))))
        (sure_when (Equates hs u) (is_call u && has hs (negation u)) (becomes quoted_nil Refuted) (λ q.
        let h = and_parts (is_call u) (has hs (negation u)) q in by_is_nil W us basics hs u (Hyp (negation u)) f (hyp_proved (negation u) h.1)))

    pub ground_sure : (u : Tm) → Fit W u → Sure (Equates hs u) (ground W u)
    ground_sure u f = sure_only (Equates hs u) (is_quoted_call u) _ (λ q.
        sure_then (Equates hs u) (value_of W u) (λ v. Some (becomes (Quote v) Valued)) (λ v e.
        sure_some (Equates hs u) (becomes (Quote v) Valued) (by_eval W us hs u v (sym (value_is W u) ∙ e) f (call_ground u q))))

    opened_sure : (g : Name) (ts : Tms) → Fit W (Call g ts) → (o : Option Definition) → find W.functions.defs g ≡ o → Sure (Equates hs (Call g ts)) (opened_by ts o)
    opened_sure g ts f None e = sure_none (Equates hs (Call g ts))
    opened_sure g ts f (Some d) e = sure_when (Equates hs (Call g ts)) (length d.formals == count ts) (becomes (body_of ts d) Opened) (λ q. by_unfold W us hs g ts d e f)

    pub definition_sure : (how : How) (w : Bool) (u : Tm) → Fit W u → Sure (Equates hs u) (definition W how w u)
    definition_sure how w (Var n) f = sure_none (Equates hs (Var n))
    definition_sure how w (Quote v) f = sure_none (Equates hs (Quote v))
    definition_sure how w (Call g ts) f = sure_only (Equates hs (Call g ts)) (opens how w g (Call g ts)) _ (λ o. opened_sure g ts f (find W.functions.defs g) refl)

    -- a hypothesis that is the equation, or the turned one
    equated_is : (h u v : Tm) → Within hs h → (same_tm h (equation u v) ≡ false → h ≡ equation v u) → Proves W us hs (equation u v) (equated h u v)
    equated_is h u v w other = by_test (same_tm h (equation u v)) refl
      where
        by_test : (b : Bool) → same_tm h (equation u v) ≡ b → Proves W us hs (equation u v) (cond b (Hyp h) (turned (Hyp h) v))
        by_test true q = subst (λ g. Proves W us hs g (Hyp h)) (same_term h (equation u v) q) (hyp_proved h w)
        by_test false q =
            let is : h ≡ equation v u = other q in
            by_turned W us basics hs v u (Hyp h) (fit_two W.functions (codes "EQUAL") v u (subst (Fit W) is (hyp_fit h w))).0 (subst (λ g. Proves W us hs g (Hyp h)) is (hyp_proved h w))

    pub equated_left : (h u v : Tm) → Within hs h → h ≡ equation u v → Proves W us hs (equation u v) (equated h u v)
    equated_left h u v w is = equated_is h u v w (λ q. let s : same_tm h (equation u v) ≡ true = subst (λ g. same_tm h g ≡ true) is (term_self h) in absurd (cc))

    pub equated_right : (h u v : Tm) → Within hs h → h ≡ equation v u → Proves W us hs (equation u v) (equated h u v)
    equated_right h u v w is = equated_is h u v w (λ q. is)

    pub call_sure : (u : Tm) → Sure (Equates hs u) (on_call hs u)
    call_sure u = sure_first (Equates hs u) (by_equation u) hs (λ h m. sure_then (Equates hs u) (of_two (codes "EQUAL") h) (by_sides u h) (λ e is.
        let same : h ≡ equation e.0 e.1 = of_two_is (codes "EQUAL") h e is in
        sure_or (Equates hs u) _ _
        (sure_when (Equates hs u) (same_tm e.0 u && is_call e.0 && not (is_part e.0 e.1)) (becomes e.1 (Equated h)) (λ q.
        let a = and_parts (same_tm e.0 u && is_call e.0) (not (is_part e.0 e.1)) q in
        let b = and_parts (same_tm e.0 u) (is_call e.0) a.0 in
        equated_left h u e.1 m (same ∙ ap (λ z. equation z e.1) (same_term e.0 u b.0))))
        (sure_when (Equates hs u) (same_tm e.1 u && not (is_call e.0) && is_call e.1) (becomes e.0 (Equated h)) (λ q.
        let a = and_parts (same_tm e.1 u && not (is_call e.0)) (is_call e.1) q in
        let b = and_parts (same_tm e.1 u) (not (is_call e.0)) a.0 in
        equated_right h u e.0 m (same ∙ ap (equation e.0) (same_term e.1 u b.0))))))

    -- a side as an arithmetic term fits, and is equal
    record IsSide (a b : Tm) (P : Proof) : Type 0 where
      counts : is_arithmetic b ≡ true
      fitted : Fit W b
      equals : Proves W us hs (equation b a) P

    is_plus : (a : Tm) → Fit W a → Fit W (plus (quoted (pos 0)) a)
    unfolding primitive primitives
    is_plus a f = rw f refl

    side_is : (a : Tm) → Fit W a → is_side hs a ≡ true → IsSide a (side a) (sided a)
    side_is a f e = by_test (is_arithmetic a) refl e
      where
        by_test : (b : Bool) → is_arithmetic a ≡ b → (b || has hs (integerp a)) ≡ true → IsSide a (cond b a (plus (quoted (pos 0)) a)) (cond b (Refl a) (ImpliesOut (Axiom 23 ((codes "X", a) ∷ [])) (Hyp (integerp a))))
        by_test true q h = record { counts = q; fitted = f; equals = by_refl W us hs a f }
        by_test false q h = record {
          counts = refl;
          fitted = is_plus a f;
          equals = by_implies_out W us hs (integerp a) (equation (plus (quoted (pos 0)) a) a) (Axiom 23 ((codes "X", a) ∷ [])) (Hyp (integerp a))
              (by_an_axiom W us hs 23 ((codes "X", a) ∷ []) (implication (integerp x) (equation (plus (quoted (pos 0)) x) x)) zero_plus (and_from (fits W.functions a) true f refl))
              (hyp_proved (integerp a) h);
        }

    ring_is : (a b : Tm) → is_arithmetic a ≡ true → is_arithmetic b ≡ true → are_same a b ≡ true → ring_same a b ≡ Some (of_goal (equation a b))
    ring_is a b c d e = let h = and_parts (not (is_some (excess_of a b))) (same_polynomial a b) e in rw c (rw d (rw h.0 (rw h.1 refl)))

    pub polynomials_sure : (u : Tm) → Fit W u → Sure (Equates hs u) (by_polynomials hs u)
    polynomials_sure u fu =
        sure_then (Equates hs u) (of_two (codes "EQUAL") u) _ (λ e is.
        let same : u ≡ equation e.0 e.1 = of_two_is (codes "EQUAL") u e is in
        let f = fit_two W.functions (codes "EQUAL") e.0 e.1 (subst (Fit W) same fu) in
        sure_when (Equates hs u) (is_side hs e.0 && is_side hs e.1 && are_same (side e.0) (side e.1)) (becomes quoted_t SamePolynomial) (λ q.
        let c = and_parts (is_side hs e.0 && is_side hs e.1) (are_same (side e.0) (side e.1)) q in
        let d = and_parts (is_side hs e.0) (is_side hs e.1) c.0 in
        let sa = side_is e.0 f.0 d.0 in
        let sb = side_is e.1 f.1 d.1 in
        let Sides : Proof = Ring (side e.0) (side e.1) in
        let LeftDone : Proof = Replace (sided e.0) Sides (1 ∷ []) in
        let BothDone : Proof = Replace (sided e.1) LeftDone (2 ∷ []) in
        let r0 = by_ring W us hs (side e.0) (side e.1) sa.fitted sb.fitted (ring_is (side e.0) (side e.1) sa.counts sb.counts c.1) in
        let r1 = by_replace W us hs (side e.0) e.0 (equation (side e.0) (side e.1)) (equation e.0 (side e.1)) (sided e.0) Sides (1 ∷ []) refl refl sa.equals r0 in
        let r2 = by_replace W us hs (side e.1) e.1 (equation e.0 (side e.1)) (equation e.0 e.1) (sided e.1) LeftDone (2 ∷ []) refl refl sb.equals r1 in
        let P : Proof = is_t_by_both 3 e.0 e.1 BothDone in
        subst (λ o. Proves W us hs (equation u yes) (same_polynomial_by u o)) (sym is)
        (subst (λ g. Proves W us hs (equation g yes) P) (sym same)
        (by_implies_out W us hs (equation e.0 e.1) (equation (equation e.0 e.1) yes) (Axiom 3 ((codes "X", e.0) ∷ (codes "Y", e.1) ∷ [])) BothDone
        (by_an_axiom W us hs 3 ((codes "X", e.0) ∷ (codes "Y", e.1) ∷ []) (implication (equation x y) (equation (equation x y) yes)) equal_is_t (rw f.0 (rw f.1 refl))) r2))))

  -- the last kind only finds a term that fits
  pub test_sure : (u : Tm) → Fit W u → Sure (λ f. Fit W f.term) (test_of u)
  test_sure u f = sure_then (λ r. Fit W r.term) (of_three (codes "IF") u) _ (λ e is. sure_when (λ r. Fit W r.term) (not (mentions (codes "IF") e.0)) (becomes e.0 Tested) (λ m.
      (fit_three W.functions (codes "IF") e.0 e.1 e.2 (subst (Fit W) (of_three_is (codes "IF") u e is) f)).0))
