-- The stack of proofs: the first proof is on top.
use Rattle.std.proofs.Common.{◌≡◌, ℕ, ◌+◌, ◌<◌, ◌≤◌, List, [], ◌∷◌, ◌++◌, length, get_or, drop, reverse, refl, ap, ◌∙◌, arith}
use Rattle.std.proofs.lemmas.List.{drop_all, drop_more}
use Rattle.terms.specs.Worlds.{World}
use Rattle.reduction.specs.declared.run.Made.{Made}
use Rattle.reduction.proofs.Seeking.{reverse-last}
use Rattle.reduction_proofs.specs.Trees.{Proof}
use Rattle.reduction_proofs.specs.WayBack.{before, proofs}

pub proofs-more : (W : World) (ms : List Made) (i : ℕ) (d : Made) (ps : List Proof) → i < length ms →
    proofs W (drop i ms) ps ≡ before W (get_or ms i d).step (get_or ms i d).subgoal (proofs W (drop (i + 1) ms) ps)
proofs-more W ms i d ps h = ap (λ ns. proofs W ns ps) (drop_more ms i d h)

pub proofs-end : (W : World) (ms : List Made) (i : ℕ) (ps : List Proof) → length ms ≤ i → proofs W (drop i ms) ps ≡ ps
proofs-end W ms i ps h = ap (λ ns. proofs W ns ps) (drop_all i ms h)

pub ruleset stacks = (reverse-last, proofs-more, proofs-end)
