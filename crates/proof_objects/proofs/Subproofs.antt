-- Lists of proofs that are to be let go.
use Rattle.std.proofs.Common.{◌≡◌, ◌+◌, ◌*◌, ◌<◌, ◌≤◌, max, if◌then◌else◌, ℕ, Bool, true, false, List, [], ◌∷◌, ◌++◌, ap, ◌∙◌, arith}
use denote.Param.Weighed.{most}
use Rattle.proof_objects.specs.ProofTrees.{ProofTree, By, trees, depth, depths, steps, steps_in}
use Rattle.proof_objects.specs.view.ProofView.{tree_of}
use Rattle.proof_objects.specs.view.Kept.{IsKept}
use Rattle.proof_objects.specs.declared.proof.Shared.{Shared}
use Rattle.proof_objects.specs.declared.proof.Proof.TheDeep.{size-Proof}
use Rattle.proof_objects.proofs.Summaries.{steps-append}

depths-append : (xs ys : List ProofTree) → depths (trees (xs ++ ys)) ≡ max (depths (trees xs)) (depths (trees ys))
depths-append [] ys = omega arith
depths-append (x ∷ xs) ys = omega (arith, depths-append xs ys)

-- the measure of a list that is let go
sizes_within : (ps : List ProofTree) → most size-Proof ps ≤ 3 * depths (trees ps)
sizes_within [] = omega arith
sizes_within (p ∷ ps) = omega (arith, sizes_within ps, size p)
  where
    size : (p : ProofTree) → size-Proof p ≡ 3 * (depth p + 1)
    size p = omega arith

-- the last one is gone
module _ (left ys : List ProofTree) (p : ProofTree) (popped : left ≡ ys ++ p ∷ []) where
  pub gone_less : steps_in (trees ys) < steps_in (trees left)
  gone_less = omega (arith, ap (λ ps. steps_in (trees ps)) popped, steps-append ys (p ∷ []), some p)
    where
      some : (p : ProofTree) → 0 < steps p
      some (By s ps) = omega arith

  pub gone_within : (most : ℕ) → depths (trees left) ≤ most → depths (trees ys) ≤ most
  gone_within most h = omega (arith, h, ap (λ ps. depths (trees ps)) popped, depths-append ys (p ∷ []))

  last_within : (most : ℕ) → depths (trees left) ≤ most → depth p < most
  last_within most h = omega (arith, h, ap (λ ps. depths (trees ps)) popped, depths-append ys (p ∷ []))

  -- and its subproofs stand in its place
  module _ (s : Shared) (kept : IsKept s) (seen : tree_of s.node.value ≡ p) where
    own_depth : depths (trees s.owners.items) ≡ depth p
    own_depth = ap (λ ps. depths (trees ps)) kept.owners ∙ ap depth seen

    own_steps : steps_in (trees s.owners.items) + 1 ≡ steps p
    own_steps = ap (λ ps. steps_in (trees ps) + 1) kept.owners ∙ ap steps seen

    pub node_within : (top : ℕ) → depths (trees left) ≤ top → depth (tree_of s.node.value) < top
    node_within top h = omega (arith, last_within top h, ap depth seen)

    pub owners_within : (top : ℕ) → depths (trees left) ≤ top → depths (trees s.owners.items) < top
    owners_within top h = omega (arith, last_within top h, own_depth)

    pub moved_less : (ok : Bool) (new : List ProofTree) → new ≡ (if ok then ys ++ s.owners.items else ys) → steps_in (trees new) < steps_in (trees left)
    moved_less true new e = omega (arith, ap (λ ps. steps_in (trees ps)) e, steps-append ys s.owners.items, own_steps, ap (λ ps. steps_in (trees ps)) popped, steps-append ys (p ∷ []))
    moved_less false new e = omega (arith, ap (λ ps. steps_in (trees ps)) e, gone_less)

    pub moved_within : (ok : Bool) (new : List ProofTree) → new ≡ (if ok then ys ++ s.owners.items else ys) → (top : ℕ) → depths (trees left) ≤ top → depths (trees new) ≤ top
    moved_within true new e top h = omega (arith, ap (λ ps. depths (trees ps)) e, depths-append ys s.owners.items, owners_within top h, gone_within top h)
    moved_within false new e top h = omega (arith, ap (λ ps. depths (trees ps)) e, gone_within top h)

    -- what was not moved is less deep
    pub rest_within : (ok : Bool) (rest : List ProofTree) → rest ≡ (if ok then [] else s.owners.items) → (top : ℕ) → depths (trees left) ≤ top → most size-Proof rest < 3 * top
    rest_within true rest e top h = omega (arith, ap (λ ps. most size-Proof ps) e, owners_within top h)
    rest_within false rest e top h = omega (arith, ap (λ ps. most size-Proof ps) e, sizes_within s.owners.items, owners_within top h)
