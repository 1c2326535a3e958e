-- Conjunctions of hypotheses, from the last term to the first.
use Rattle.std.proofs.Common.{◌≡◌, ℕ, zero, suc, ◌+◌, ◌<◌, List, [], ◌∷◌, length, get_or, drop, refl, ap, ◌∙◌, arith}
use Rattle.std.proofs.lemmas.List.{drop_all, drop_more}
use Rattle.terms.specs.Terms.{Tm}
use Rattle.hints.specs.Start.{conjunction}
use Rattle.hints.proofs.Inducting.{conjunction-end, conjunction-more}
use Rattle.reduction_proofs.specs.Trees.{Hyp}
use Rattle.proof_builders.specs.Derived.{both, gathered}

gathered-step : (t : Tm) (us : List Tm) → 0 < length us → gathered (t ∷ us) ≡ both t (conjunction us) (Hyp t) (gathered us)
gathered-step t [] h = absurd (omega arith)
gathered-step t (u ∷ us) h = refl

some_left : (ts : List Tm) (i : ℕ) → i < length ts → 0 < length (drop i ts)
some_left [] i h = absurd (omega arith)
some_left (t ∷ ts) zero h = omega arith
some_left (t ∷ ts) (suc i) h = some_left ts i (omega arith)

pub gathered-more : (ts : List Tm) (i : ℕ) (d : Tm) → i + 1 < length ts →
    gathered (drop i ts) ≡ both (get_or ts i d) (conjunction (drop (i + 1) ts)) (Hyp (get_or ts i d)) (gathered (drop (i + 1) ts))
gathered-more ts i d h = ap gathered (drop_more ts i d (omega arith)) ∙ gathered-step (get_or ts i d) (drop (i + 1) ts) (some_left ts (i + 1) h)

pub gathered-end : (ts : List Tm) (i : ℕ) (d : Tm) → i + 1 ≡ length ts → gathered (drop i ts) ≡ Hyp (get_or ts i d)
gathered-end ts i d h = ap gathered (drop_more ts i d (omega arith)) ∙ ap (λ us. gathered (get_or ts i d ∷ us)) (drop_all (i + 1) ts (omega arith))

pub ruleset conjunctions = (conjunction-end, conjunction-more, gathered-end, gathered-more)
