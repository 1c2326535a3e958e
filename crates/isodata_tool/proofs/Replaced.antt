-- Arguments that are replaced by what they equal, one after the other.
use Rattle.std.proofs.Common.{◌≡◌, ℕ, suc, List, [], ◌∷◌, Some, refl, sym, ap, ◌∙◌, subst}
use Rattle.std.specs.Option.{option_map}
use Rattle.lisp_data.specs.Values.{Name}
use Rattle.terms.specs.Paths.{argument, then_at, part_at, put_part, with_arg, with_argument}
use Rattle.terms.specs.Terms.{Tm, Call, Tms, Done, More, count}
use Rattle.terms.specs.Worlds.{World}
use Rattle.kernel.specs.Sequents.{equation}
use Rattle.proof_builders.specs.Congruence.{each_replaced}
use Rattle.reduction_proofs.specs.Proving.{Proves}
use Rattle.reduction_proofs.specs.Trees.{Proof, Replace}
use Rattle.reduction_proofs.proofs.Deduction.{by_replace}

-- arguments after those that are ready, and one more of these
abbrev put_behind : Tms → Tms → Tms
put_behind Done ts = ts
put_behind (More r rs) ts = More r (put_behind rs ts)

abbrev one_more : Tms → Tm → Tms
one_more Done u = More u Done
one_more (More r rs) u = More r (one_more rs u)

one_more-behind : (ready ts : Tms) (u : Tm) → put_behind (one_more ready u) ts ≡ put_behind ready (More u ts)
one_more-behind Done ts u = refl
one_more-behind (More r rs) ts u = ap (More r) (one_more-behind rs ts u)

one_more-count : (ready : Tms) (u : Tm) → count (one_more ready u) ≡ suc (count ready)
one_more-count Done u = refl
one_more-count (More r rs) u = ap suc (one_more-count rs u)

-- the argument after those that are ready, and another one put in its place
argument_after : (ready ts : Tms) (t : Tm) → argument (suc (count ready)) (put_behind ready (More t ts)) ≡ Some t
argument_after Done ts t = refl
argument_after (More d ds) ts t = argument_after ds ts t

put_after : (u : Tm) (ready ts : Tms) (t : Tm) → with_arg (suc (count ready)) u (put_behind ready (More t ts)) ≡ put_behind ready (More u ts)
put_after u Done ts t = refl
put_after u (More d ds) ts t = ap (More d) (put_after u ds ts t)

-- a proof for each argument that it equals another one
abbrev pub EachEqual : World → List Tm → List Tm → Tms → Tms → List Proof → Type 0
EachEqual W us hs Done Done [] = Unit {0}
EachEqual W us hs Done Done (P ∷ ps) = ⊥
EachEqual W us hs Done (More v vs) ps = ⊥
EachEqual W us hs (More t ts) Done ps = ⊥
EachEqual W us hs (More t ts) (More v vs) [] = ⊥
EachEqual W us hs (More t ts) (More v vs) (P ∷ ps) = Proves W us hs (equation t v) P × EachEqual W us hs ts vs ps

module _ (W : World) (us hs : List Tm) (a : Tm) (g : Name) where
  -- an argument of the right side gives way to what it equals
  one_replaced : (ready ts : Tms) (t u : Tm) (n : ℕ) (P Q : Proof) → n ≡ suc (count ready) → Proves W us hs (equation t u) P →
      Proves W us hs (equation a (Call g (put_behind ready (More t ts)))) Q →
      Proves W us hs (equation a (Call g (put_behind (one_more ready u) ts))) (Replace P Q (2 ∷ n ∷ []))
  one_replaced ready ts t u n P Q e p q =
      let args : Tms = put_behind ready (More t ts) in
      let found : argument n args ≡ Some t = ap (λ m. argument m args) e ∙ argument_after ready ts t in
      by_replace W us hs t u (equation a (Call g args)) (equation a (Call g (put_behind (one_more ready u) ts))) P Q (2 ∷ n ∷ []) (ap (then_at (part_at [])) found)
      (ap (λ o. option_map (λ new. equation a new) (then_at (λ b. option_map (λ new. with_argument n new (Call g args)) (put_part [] u b)) o)) found
      ∙ ap (λ m. Some (equation a (Call g (with_arg m u args)))) e
      ∙ ap (λ vs. Some (equation a (Call g vs))) (put_after u ready ts t ∙ sym (one_more-behind ready ts u)))
      p q

  each_after : (ready ts vs : Tms) (n : ℕ) (ps : List Proof) (R : Proof) → n ≡ suc (count ready) → EachEqual W us hs ts vs ps →
      Proves W us hs (equation a (Call g (put_behind ready ts))) R → Proves W us hs (equation a (Call g (put_behind ready vs))) (each_replaced n ps R)
  each_after ready Done Done n [] R e h r = r
  each_after ready Done Done n (P ∷ ps) R e h r = absurd h
  each_after ready Done (More v vs) n ps R e h r = absurd h
  each_after ready (More t ts) Done n ps R e h r = absurd h
  each_after ready (More t ts) (More v vs) n [] R e h r = absurd h
  each_after ready (More t ts) (More v vs) n (P ∷ ps) R e h r =
      let Q : Proof = Replace P R (2 ∷ n ∷ []) in
      subst (λ x. Proves W us hs (equation a (Call g x)) (each_replaced (suc n) ps Q)) (one_more-behind ready vs v)
      (each_after (one_more ready v) ts vs (suc n) ps Q (ap suc (e ∙ sym (one_more-count ready v))) h.1 (one_replaced ready ts t v n P R e h.0 r))

  -- all arguments of the right side do
  pub by_each_replaced : (ts vs : Tms) (ps : List Proof) (R : Proof) → EachEqual W us hs ts vs ps → Proves W us hs (equation a (Call g ts)) R → Proves W us hs (equation a (Call g vs)) (each_replaced 1 ps R)
  by_each_replaced ts vs ps R h r =
      each_after Done ts vs 1 ps R refl h r
