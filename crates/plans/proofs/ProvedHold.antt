-- What proves a condition makes it hold.
use Rattle.std.proofs.Common.{◌≡◌, Bool, true, false, ◌&&◌, ◌||◌, List, [], ◌∷◌, refl, sym, subst}
use Rattle.std.proofs.lemmas.Bool.{and_parts}
use Rattle.terms.specs.Terms.{Tm, same_tm}
use Rattle.terms.specs.Worlds.{Functions, Each, IsTrueAt, Holds}
use Rattle.terms.specs.declared.sequent.Sequent.{Sequent}
use Rattle.terms.proofs.Same.{same_term}
use Rattle.kernel.proofs.Soundness.{sound_rules}
use Rattle.plans.specs.Proving.{is_among, are_among, proves}
use Rattle.plans.specs.Laws.{ProvedConditionsHold}

of_one : (P : Tm → Type 0) (t : Tm) (us : List Tm) → is_among t us ≡ true → Each P us → P t
of_one P t [] e h = absurd (cc)
of_one P t (u ∷ us) e h = by_test (same_tm t u) refl e (λ e'. of_one P t us e' h.1)
  where
    by_test : (b : Bool) → same_tm t u ≡ b → (b || is_among t us) ≡ true → (is_among t us ≡ true → P t) → P t
    by_test true q e' ih = subst P (sym (same_term t u q)) h.0
    by_test false q e' ih = ih e'

of_all : (P : Tm → Type 0) (ts us : List Tm) → are_among ts us ≡ true → Each P us → Each P ts
of_all P [] us e h = tt
of_all P (t ∷ ts) us e h =
    let p = and_parts (is_among t us) (are_among ts us) e in
    (of_one P t us p.0 h, of_all P ts us p.1 h)

-- what a sequent proves holds where it does
pub proved_holds : (W : Functions) (s c : Sequent) → proves s c ≡ true → Holds W s → Holds W c
proved_holds W s c e h =
    let p = and_parts (are_among s.universals c.universals && are_among s.hyps c.hyps) (same_tm s.goal c.goal) e in
    let q = and_parts (are_among s.universals c.universals) (are_among s.hyps c.hyps) p.0 in
    λ I tot us env hs. subst (IsTrueAt W I env) (same_term s.goal c.goal p.1)
    (h I tot (of_all (λ u. (env' : _) → IsTrueAt W I env' u) s.universals c.universals q.0 us) env (of_all (IsTrueAt W I env) s.hyps c.hyps q.1 hs))

pub proved_conditions_hold : ProvedConditionsHold
proved_conditions_hold W sound c s p is e = proved_holds W.functions s c e (sound_rules W sound p s is).1
