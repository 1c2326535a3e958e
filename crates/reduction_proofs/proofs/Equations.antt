-- A term is equal to the one with a for x, under `(equal x a)`.
use Rattle.std.proofs.Common.{◌≡◌, ℕ, suc, Bool, true, false, cond, List, [], ◌∷◌, ◌++◌, map, bytes_eq, Some, None, refl, sym, ap, ◌∙◌, subst}
use Rattle.std.specs.Option.{option_map}
use Rattle.std.proofs.lemmas.Bool.{and_parts, or_parts}
use Rattle.lisp_data.specs.Values.{Name}
use Rattle.terms.specs.Formed.{HasBasics}
use Rattle.terms.specs.Paths.{argument, then_at, part_at, put_part, with_arg, with_argument}
use Rattle.terms.specs.Substitution.{by_pairs, or_var}
use Rattle.terms.specs.Terms.{Tm, Var, Quote, Call, Tms, Done, More, count, substitute_all}
use Rattle.terms.specs.Worlds.{World, arity, Each}
use Rattle.terms.proofs.Names.{same_name}
use Rattle.kernel.specs.Fitting.{takes, fits, fit_all}
use Rattle.kernel.specs.Sequents.{equation}
use Rattle.reduction.specs.Moves.{put, occurs, occurs_in}
use Rattle.reduction_proofs.specs.Derived.{equate, equate_all, forth}
use Rattle.reduction_proofs.specs.Proving.{Within, Proves}
use Rattle.reduction_proofs.specs.Trees.{Proof, Hyp, Refl, Replace, Cut}
use Rattle.reduction_proofs.specs.WayBack.{put_hyps}
use Rattle.reduction_proofs.proofs.Members.{Fit, has_in, each_self, each_right}
use Rattle.reduction_proofs.proofs.Deduction.{wider, by_hyp, by_refl, by_replace, by_cut}
use Rattle.reduction_proofs.proofs.Shortcuts.{by_forth}

pub append : Tms → Tms → Tms
append Done us = us
append (More t ts) us = More t (append ts us)

pub append_first : (ts : Tms) → append Done ts ≡ ts
unfolding append
append_first ts = refl

pub snoc : Tms → Tm → Tms
snoc Done b = More b Done
snoc (More t ts) b = More t (snoc ts b)

pub snoc-append : (ts us : Tms) (b : Tm) → append (snoc ts b) us ≡ append ts (More b us)
unfolding append snoc
snoc-append Done us b = refl
snoc-append (More t ts) us b = ap (More t) (snoc-append ts us b)

pub snoc-count : (ts : Tms) (b : Tm) → count (snoc ts b) ≡ suc (count ts)
unfolding snoc
snoc-count Done b = refl
snoc-count (More t ts) b = ap suc (snoc-count ts b)

at_done : (ts us : Tms) (t : Tm) → argument (suc (count ts)) (append ts (More t us)) ≡ Some t
unfolding append
at_done Done us t = refl
at_done (More d ds) us t = at_done ds us t

put_done : (b : Tm) (ts us : Tms) (t : Tm) → with_arg (suc (count ts)) b (append ts (More t us)) ≡ append ts (More b us)
unfolding append
put_done b Done us t = refl
put_done b (More d ds) us t = ap (More d) (put_done b ds us t)

-- a term without the variable stays
module _ (x : Name) (a : Tm) where
  mutual
    pub put_same : (t : Tm) → occurs x t ≡ false → put x a t ≡ t
    put_same (Var y) e = ap (λ b. or_var y (cond b (Some a) None)) e
    put_same (Quote v) e = refl
    put_same (Call f ts) e = ap (Call f) (put_all_same ts e)

    put_all_same : (ts : Tms) → occurs_in x ts ≡ false → substitute_all (by_pairs ((x, a) ∷ [])) ts ≡ ts
    put_all_same Done e = refl
    put_all_same (More t ts) e =
        let h = or_parts (occurs x t) (occurs_in x ts) e in
        let p = put_same t h.0 in let q = put_all_same ts h.1 in cc

-- an argument of the right side gives way to what it equals
module _ (W : World) (us : List Tm) (hs : List Tm) where
  pub by_argument : (g : Name) (first ready ts : Tms) (t u : Tm) (n : ℕ) (P Q : Proof) → n ≡ suc (count ready) → Proves W us hs (equation t u) P →
      Proves W us hs (equation (Call g first) (Call g (append ready (More t ts)))) Q →
      Proves W us hs (equation (Call g first) (Call g (append (snoc ready u) ts))) (Replace P Q (2 ∷ n ∷ []))
  by_argument g first ready ts t u n P Q e p q =
      let args : Tms = append ready (More t ts) in
      let found : argument n args ≡ Some t = ap (λ m. argument m args) e ∙ at_done ready ts t in
      by_replace W us hs t u (equation (Call g first) (Call g args)) (equation (Call g first) (Call g (append (snoc ready u) ts))) P Q (2 ∷ n ∷ []) (ap (then_at (part_at [])) found)
      (ap (λ o. option_map (λ new. equation (Call g first) new) (then_at (λ b. option_map (λ new. with_argument n new (Call g args)) (put_part [] u b)) o)) found
      ∙ ap (λ m. Some (equation (Call g first) (Call g (with_arg m u args)))) e
      ∙ ap (λ vs. Some (equation (Call g first) (Call g vs))) (put_done u ready ts t ∙ sym (snoc-append ready ts u)))
      p q

module _ (W : World) (us : List Tm) (hs : List Tm) (x : Name) (a : Tm) (E : Proof) (by_e : Proves W us hs (equation (Var x) a) E) where
  -- one argument after those that are ready
  one_more : (g : Name) (first ready ts : Tms) (t : Tm) (n : ℕ) (Q : Proof) → n ≡ suc (count ready) → Proves W us hs (equation t (put x a t)) (equate x E t) →
      Proves W us hs (equation (Call g first) (Call g (append ready (More t ts)))) Q →
      Proves W us hs (equation (Call g first) (Call g (append (snoc ready (put x a t)) ts))) (cond (occurs x t) (Replace (equate x E t) Q (2 ∷ n ∷ [])) Q)
  one_more g first ready ts t n Q e p q = by_test (occurs x t) refl
    where
      by_test : (b : Bool) → occurs x t ≡ b → Proves W us hs (equation (Call g first) (Call g (append (snoc ready (put x a t)) ts))) (cond b (Replace (equate x E t) Q (2 ∷ n ∷ [])) Q)
      by_test true o = by_argument W us hs g first ready ts t (put x a t) n (equate x E t) Q e p q
      by_test false o =
          subst (λ vs. Proves W us hs (equation (Call g first) (Call g vs)) Q) (sym (snoc-append ready ts (put x a t) ∙ ap (λ u. append ready (More u ts)) (put_same x a t o))) q

  mutual
    unfolding append

    pub by_equate : (t : Tm) → fits W.functions t ≡ true → Proves W us hs (equation t (put x a t)) (equate x E t)
    by_equate (Var y) f = by_test (bytes_eq x y) refl
      where
        by_test : (b : Bool) → bytes_eq x y ≡ b → Proves W us hs (equation (Var y) (or_var y (cond b (Some a) None))) (cond b E (Refl (Var y)))
        by_test true e = subst (λ z. Proves W us hs (equation (Var z) a) E) (same_name x y e) by_e
        by_test false e = by_refl W us hs (Var y) refl
    by_equate (Quote v) f = by_refl W us hs (Quote v) refl
    by_equate (Call g ts) f = by_equate_all g ts Done ts 1 (Refl (Call g ts)) refl (and_parts (takes (arity W.functions g) (count ts)) (fit_all W.functions ts) f).1 (by_refl W us hs (Call g ts) f)

    by_equate_all : (g : Name) (first ready ts : Tms) (n : ℕ) (Q : Proof) → n ≡ suc (count ready) → fit_all W.functions ts ≡ true → Proves W us hs (equation (Call g first) (Call g (append ready ts))) Q →
        Proves W us hs (equation (Call g first) (Call g (append ready (substitute_all (by_pairs ((x, a) ∷ [])) ts)))) (equate_all x E ts n Q)
    by_equate_all g first ready Done n Q e f q = q
    by_equate_all g first ready (More t ts) n Q e f q =
        let h = and_parts (fits W.functions t) (fit_all W.functions ts) f in
        let P : Proof = cond (occurs x t) (Replace (equate x E t) Q (2 ∷ n ∷ [])) Q in
        subst (λ vs. Proves W us hs (equation (Call g first) (Call g vs)) (equate_all x E ts (suc n) P)) (snoc-append ready (substitute_all (by_pairs ((x, a) ∷ [])) ts) (put x a t))
        (by_equate_all g first (snoc ready (put x a t)) ts (suc n) P (ap suc (e ∙ sym (snoc-count ready (put x a t)))) h.1 (one_more g first ready ts t n Q e (by_equate t h.0) q))

module _ (W : World) (us : List Tm) (basics : HasBasics W.functions) (hs : List Tm) (x : Name) (a : Tm) (E : Proof) (by_e : Proves W us hs (equation (Var x) a) E) where
  -- one hypothesis with a for x is cut
  by_put_hyp : (big : List Tm) (k g : Tm) (P : Proof) → Fit W k → Within hs k → Each (Within big) hs → Proves W us (put x a k ∷ big) g P → Proves W us big g (cond (occurs x k) (Cut (forth (equate x E k) (Hyp k)) P) P)
  by_put_hyp big k g P f w sub p = by_test (occurs x k) refl
    where
      by_test : (b : Bool) → occurs x k ≡ b → Proves W us big g (cond b (Cut (forth (equate x E k) (Hyp k)) P) P)
      by_test true o =
          by_cut W us big (put x a k) g (forth (equate x E k) (Hyp k)) P
          (wider W us hs big (put x a k) (forth (equate x E k) (Hyp k)) sub
          (by_forth W us basics hs k (put x a k) (equate x E k) (Hyp k) (by_equate W us hs x a E by_e k f) (by_hyp W us hs k f w))) p
      by_test false o = wider W us (put x a k ∷ big) big g P (subst (Within big) (sym (put_same x a k o)) (has_in (Within big) hs k w sub), each_self big) p

  pub by_put_hyps : (ks : List Tm) (g : Tm) (P : Proof) → Each (λ k. Fit W k × Within hs k) ks → Proves W us (map (put x a) ks ++ hs) g P → Proves W us hs g (put_hyps x E ks P)
  by_put_hyps [] g P h p = p
  by_put_hyps (k ∷ ks) g P h p =
      by_put_hyps ks g (cond (occurs x k) (Cut (forth (equate x E k) (Hyp k)) P) P) h.1
      (by_put_hyp (map (put x a) ks ++ hs) k g P h.0.0 h.0.1 (each_right (map (put x a) ks) hs) p)
