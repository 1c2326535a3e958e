-- Proofs of several rules.
use Rattle.std.proofs.Common.{◌≡◌, Bool, true, false, ◌&&◌, List, [], ◌∷◌, pos, codes, Some, None, refl}
use Rattle.lisp_data.specs.Values.{Val, nil, same_val}
use Rattle.terms.specs.BuiltIn.{no, quoted}
use Rattle.terms.specs.Formed.{HasBasics}
use Rattle.terms.specs.Measures.{call2}
use Rattle.terms.specs.Primitives.{Two, primitive, primitives, is_nil, truth}
use Rattle.terms.specs.Terms.{Tm, Var, Quote}
use Rattle.terms.specs.Worlds.{World}
use Rattle.evaluator.specs.Counted.{evaluated, performed}
use Rattle.kernel.specs.Axioms.{axiom_at, on_truth, on_order}
use Rattle.kernel.specs.Evaluating.{value_of}
use Rattle.kernel.specs.Fitting.{fits}
use Rattle.kernel.specs.Sequents.{equation, negation, implication}
use Rattle.reduction_proofs.specs.Derived.{turned, forth, back, zero_less, none_less, from_nil, not_nil, is_nil_by, by_quote, twice_not}
use Rattle.reduction_proofs.specs.Proving.{Within, Proves}
use Rattle.reduction_proofs.specs.Trees.{Proof, Hyp, Refl, Contradict, Axiom, Eval}
use Rattle.reduction_proofs.proofs.Members.{within_first, within_more}
use Rattle.reduction_proofs.proofs.Deduction.{by_hyp, by_refl, by_replace, by_case, by_contradiction, by_implies_out, by_eval, by_an_axiom}

not_is_plain : primitive (codes "NOT") ≡ None
unfolding primitive primitives
not_is_plain = refl

equal_is_two : primitive (codes "EQUAL") ≡ Some (Two (λ a b. truth (same_val a b)))
unfolding primitive primitives
equal_is_two = refl

pub fits_equal : (W : World) (a b : Tm) → fits W.functions a ≡ true → fits W.functions b ≡ true → fits W.functions (equation a b) ≡ true
fits_equal W a b f g = rw equal_is_two (rw f (rw g refl))

-- the second side of an equation that fits
pub fits_second : (W : World) (a b : Tm) → fits W.functions (equation a b) ≡ true → fits W.functions b ≡ true
fits_second W a b e = last_true (fits W.functions a) (fits W.functions b) (rw equal_is_two at e)
  where
    last_true : (x y : Bool) → (true && (x && (y && true))) ≡ true → y ≡ true
    last_true true true h = refl
    last_true true false h = h
    last_true false y h = absurd (cc)

evaluates_less : (W : World) → value_of (evaluated W.functions.defs zero_less) ≡ Some nil
unfolding evaluated performed primitive primitives
evaluates_less W = refl

fits_less : (W : World) → fits W.functions zero_less ≡ true
unfolding primitive primitives
fits_less W = refl

evaluates_equal : (W : World) (v : Val) → is_nil v ≡ false → value_of (evaluated W.functions.defs (equation (Quote v) no)) ≡ Some nil
unfolding evaluated performed primitive primitives
evaluates_equal W v e = rw e refl

nil_alone : axiom_at 2 ≡ Some (implication (negation (Var (codes "X"))) (equation (Var (codes "X")) no))
unfolding axiom_at on_truth
nil_alone = refl

none_below : axiom_at 24 ≡ Some (negation (call2 (codes "<") (Var (codes "X")) (Var (codes "X"))))
unfolding axiom_at on_order
none_below = refl

module _ (W : World) (us : List Tm) (basics : HasBasics W.functions) where
  pub fits_not : (c : Tm) → fits W.functions c ≡ true → fits W.functions (negation c) ≡ true
  fits_not c f = rw not_is_plain (rw basics.has_not (rw f refl))

  module _ (hs : List Tm) where
    pub by_turned : (a b : Tm) (P : Proof) → fits W.functions a ≡ true → Proves W us hs (equation a b) P → Proves W us hs (equation b a) (turned P a)
    by_turned a b P f p = by_replace W us hs a b (equation a a) (equation b a) P (Refl a) (1 ∷ []) refl refl p (by_refl W us hs a f)

    pub by_forth : (a b : Tm) (P Q : Proof) → Proves W us hs (equation a b) P → Proves W us hs a Q → Proves W us hs b (forth P Q)
    by_forth a b P Q p q = by_replace W us hs a b a b P Q [] refl refl p q

    pub by_back : (a b : Tm) (P Q : Proof) → fits W.functions a ≡ true → Proves W us hs (equation a b) P → Proves W us hs b Q → Proves W us hs a (back P a Q)
    by_back a b P Q f p q = by_replace W us hs b a b a (turned P a) Q [] refl refl (by_turned a b P f p) q

    pub by_none_less : Proves W us hs (negation zero_less) none_less
    by_none_less = by_an_axiom W us hs 24 ((codes "X", quoted (pos 0)) ∷ []) (negation (call2 (codes "<") (Var (codes "X")) (Var (codes "X")))) none_below refl

    pub by_less : Proves W us hs (equation zero_less no) (Eval zero_less)
    by_less = by_eval W us hs zero_less nil (evaluates_less W) (fits_less W) refl

    pub by_from_nil : (g : Tm) (P : Proof) → fits W.functions g ≡ true → Proves W us hs no P → Proves W us hs g (from_nil P g)
    by_from_nil g P f p = by_contradiction W us hs zero_less g (back (Eval zero_less) zero_less P) none_less f (by_back zero_less no (Eval zero_less) P (fits_less W) by_less p) by_none_less

    pub by_not_nil : Proves W us hs (negation no) not_nil
    by_not_nil = by_replace W us hs zero_less no (negation zero_less) (negation no) (Eval zero_less) none_less (1 ∷ []) refl refl by_less by_none_less

    pub by_is_nil : (p : Tm) (P : Proof) → fits W.functions p ≡ true → Proves W us hs (negation p) P → Proves W us hs (equation p no) (is_nil_by p P)
    by_is_nil p P f q = by_implies_out W us hs (negation p) (equation p no) (Axiom 2 ((codes "X", p) ∷ [])) P
        (by_an_axiom W us hs 2 ((codes "X", p) ∷ []) (implication (negation (Var (codes "X"))) (equation (Var (codes "X")) no)) nil_alone (rw f refl)) q

  pub by_a_quote : (hs : List Tm) (v : Val) → is_nil v ≡ false → Proves W us hs (Quote v) (by_quote (Quote v))
  by_a_quote hs v e =
      let q : Tm = Quote v in
      by_case W us hs q q (Hyp q) _ refl (by_hyp W us (q ∷ hs) q refl (within_first q hs))
      (by_from_nil (negation q ∷ hs) q _ refl
      (by_forth (negation q ∷ hs) (equation q no) no _ _ (by_eval W us (negation q ∷ hs) (equation q no) nil (evaluates_equal W v e) (fits_equal W q no refl refl) refl)
      (by_is_nil (negation q ∷ hs) q (Hyp (negation q)) refl (by_hyp W us (negation q ∷ hs) (negation q) (fits_not q refl) (within_first (negation q) hs)))))

  pub by_twice_not : (hs : List Tm) (a : Tm) → fits W.functions a ≡ true → Within hs (negation (negation a)) → Proves W us hs a (twice_not a)
  by_twice_not hs a f h =
      let n : Tm = negation a in
      by_case W us hs a a (Hyp a) (Contradict (Hyp n) (Hyp (negation n)) a) f (by_hyp W us (a ∷ hs) a f (within_first a hs))
      (by_contradiction W us (n ∷ hs) n a (Hyp n) (Hyp (negation n)) f (by_hyp W us (n ∷ hs) n (fits_not a f) (within_first n hs))
      (by_hyp W us (n ∷ hs) (negation n) (fits_not n (fits_not a f)) (within_more n hs (negation n) h)))
