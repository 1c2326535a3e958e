-- Sequents that hold, since each is proved.
use Rattle.std.proofs.Common.{◌≡◌, ℕ, zero, suc, ◌+◌, ◌<◌, ◌≤◌, true, List, [], ◌∷◌, ◌++◌, length, get_or, take, Some, refl, sym, ap, ◌∙◌, subst, arith}
use Rattle.std.proofs.lemmas.List.{take_all, take_more}
use Rattle.terms.specs.Sound.{Sound}
use Rattle.terms.specs.Worlds.{World, Each, Holds}
use Rattle.terms.specs.declared.sequent.Sequent.{Sequent}
use Rattle.terms.proofs.Lists.{each_join}
use Rattle.kernel.specs.Concludes.{concludes}
use Rattle.kernel.specs.Conclusion.{Conclusion}
use Rattle.plans.specs.Laws.{ProvedConditionsHold}
use Rattle.plans.specs.Proving.{ProvesAll}
use Rattle.tool_parts.proofs.Proving.{proof-at, proofs-length}

-- so many of the sequents hold
unfoldable pub HeldTo : World → List Sequent → ℕ → Type 0
HeldTo W ss i = Each (Holds W.functions) (take i ss)

pub held-start : (W : World) (ss : List Sequent) → HeldTo W ss 0
unfolding HeldTo
held-start W ss = tt

at_place : (ss : List Sequent) (i : ℕ) → i < length ss → (s : Sequent) × (s ≡ get_or ss i s)
at_place [] i h = absurd (omega arith)
at_place (s ∷ ss) zero h = (s, refl)
at_place (s ∷ ss) (suc i) h = at_place ss i (omega arith)

-- one more, of which there is a proof
pub held-next : ProvedConditionsHold → (W : World) → Sound W → (ss : List Sequent) (ps : List Conclusion) → ProvesAll W ss ps →
    (i : ℕ) (p : Conclusion) → i < length ss → p ≡ get_or ps i p → concludes p.world p.proof ≡ Some p.sequent → HeldTo W ss i → HeldTo W ss (i + 1)
unfolding HeldTo
held-next hold W sound ss ps all i p h is concluded so_far =
    let s = at_place ss i h in
    let proved = proof-at W ss ps i s.0 p all h s.1 is in
    subst (Each (Holds W.functions)) (sym (take_more ss i s.0 h ∙ ap (λ t. take i ss ++ t ∷ []) (sym s.1)))
    (each_join (Holds W.functions) (take i ss) (s.0 ∷ []) so_far
    (hold W sound s.0 p.sequent p.proof (subst (λ V. concludes V p.proof ≡ Some p.sequent) proved.0 concluded) proved.1, tt))

pub held-end : (W : World) (ss : List Sequent) (i : ℕ) → length ss ≤ i → HeldTo W ss i → Each (Holds W.functions) ss
unfolding HeldTo
held-end W ss i h so_far = subst (Each (Holds W.functions)) (take_all i ss h) so_far

-- there is a proof at each place
pub proofs-enough : (W : World) (ss : List Sequent) (ps : List Conclusion) → ProvesAll W ss ps → (i : ℕ) → i < length ss → i < length ps
proofs-enough W ss ps all i h = let e = proofs-length W ss ps all in omega (arith, h, e)

pub ruleset held = (held-start, held-next, held-end, proofs-enough)
