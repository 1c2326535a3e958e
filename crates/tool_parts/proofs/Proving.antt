-- Sequents that are proved one after the other.
use Rattle.std.proofs.Common.{◌≡◌, ℕ, zero, suc, ◌+◌, ◌<◌, ◌≤◌, true, List, [], ◌∷◌, ◌++◌, length, map, get_or, take, slice_get, Some, refl, sym, ap, ◌∙◌, subst, arith}
use Rattle.std.proofs.lemmas.List.{take_all, take_more}
use Rattle.terms.specs.Worlds.{World}
use Rattle.terms.specs.declared.sequent.Sequent.{Sequent}
use Rattle.kernel.specs.Conclusion.{Conclusion, AllIn}
use Rattle.plans.specs.Proving.{ProvesAll, proves, sequents}
use Rattle.plan_checks.specs.Numbered.{numbered_from}

-- so many of the sequents are proved
unfoldable pub ProvedTo : World → List Sequent → List Conclusion → ℕ → Type 0
ProvedTo W ss ps i = ProvesAll W (take i ss) ps

pub proved-start : (W : World) (ss : List Sequent) → ProvedTo W ss [] 0
unfolding ProvedTo
proved-start W ss = tt

-- one more behind the others
proves_last : (W : World) (ss : List Sequent) (ps : List Conclusion) (s : Sequent) (p : Conclusion) → ProvesAll W ss ps → p.world ≡ W → proves p.sequent s ≡ true → ProvesAll W (ss ++ s ∷ []) (ps ++ p ∷ [])
proves_last W [] [] s p h w e = ((w, e), tt)
proves_last W [] (q ∷ qs) s p h w e = absurd h
proves_last W (t ∷ ts) [] s p h w e = absurd h
proves_last W (t ∷ ts) (q ∷ qs) s p h w e = (h.0, proves_last W ts qs s p h.1 w e)

pub proved-next : (W : World) (ss : List Sequent) (ps qs : List Conclusion) (i : ℕ) (s : Sequent) (p : Conclusion) → i < length ss → s ≡ get_or ss i s → ProvedTo W ss ps i → p.world ≡ W → proves p.sequent s ≡ true → qs ≡ ps ++ p ∷ [] → ProvedTo W ss qs (i + 1)
unfolding ProvedTo
proved-next W ss ps qs i s p h is so_far w e pushed =
    subst (λ ks. ProvesAll W (take (i + 1) ss) ks) (sym pushed)
    (subst (λ ks. ProvesAll W ks (ps ++ p ∷ [])) (sym (take_more ss i s h ∙ ap (λ t. take i ss ++ t ∷ []) (sym is))) (proves_last W (take i ss) ps s p so_far w e))

pub proved-end : (W : World) (ss : List Sequent) (ps : List Conclusion) (i : ℕ) → length ss ≤ i → ProvedTo W ss ps i → ProvesAll W ss ps
unfolding ProvedTo
proved-end W ss ps i h so_far = subst (λ ks. ProvesAll W ks ps) (take_all i ss h) so_far

pub ruleset proving = (proved-start, proved-next, proved-end)

-- as many proofs as sequents
pub proofs-length : (W : World) (ss : List Sequent) (ps : List Conclusion) → ProvesAll W ss ps → length ps ≡ length ss
proofs-length W [] [] h = refl
proofs-length W [] (p ∷ ps) h = absurd h
proofs-length W (s ∷ ss) [] h = absurd h
proofs-length W (s ∷ ss) (p ∷ ps) h = let e = proofs-length W ss ps h.1 in omega arith

-- the item at a place
pub item-at : {A : Type 0} (xs : List A) (i : ℕ) (x : A) → i < length xs → x ≡ get_or xs i x → slice_get xs i ≡ Some x
item-at [] i x h e = absurd (omega arith)
item-at (y ∷ xs) zero x h e = ap Some (sym e)
item-at (y ∷ xs) (suc i) x h e = item-at xs i x (omega arith) e

pub length-mapped : {A B : Type 0} (f : A → B) (xs : List A) → length (map f xs) ≡ length xs
length-mapped f [] = refl
length-mapped f (x ∷ xs) = let e = length-mapped f xs in omega arith

pub mapped-at : {A B : Type 0} (f : A → B) (xs : List A) (i : ℕ) (x : A) → i < length xs → x ≡ get_or xs i x → f x ≡ get_or (map f xs) i (f x)
mapped-at f [] i x h e = absurd (omega arith)
mapped-at f (y ∷ xs) zero x h e = ap f e
mapped-at f (y ∷ xs) (suc i) x h e = mapped-at f xs i x (omega arith) e

-- the proof at a place
pub proof-at : (W : World) (ss : List Sequent) (ps : List Conclusion) (i : ℕ) (s : Sequent) (p : Conclusion) → ProvesAll W ss ps → i < length ss → s ≡ get_or ss i s → p ≡ get_or ps i p → (p.world ≡ W) × (proves p.sequent s ≡ true)
proof-at W [] ps i s p h lt d e = absurd (omega arith)
proof-at W (t ∷ ts) [] i s p h lt d e = absurd h
proof-at W (t ∷ ts) (q ∷ qs) zero s p h lt d e =
    subst (λ (k : Conclusion). (k.world ≡ W) × (proves k.sequent s ≡ true)) (sym e) (subst (λ u. (q.world ≡ W) × (proves q.sequent u ≡ true)) (sym d) h.0)
proof-at W (t ∷ ts) (q ∷ qs) (suc i) s p h lt d e = proof-at W ts qs i s p h.1 (omega arith) d e

-- all are of the world
pub proofs-in : (W : World) (ss : List Sequent) (ps : List Conclusion) → ProvesAll W ss ps → AllIn W ps
proofs-in W [] [] h = tt
proofs-in W [] (p ∷ ps) h = absurd h
proofs-in W (s ∷ ss) [] h = absurd h
proofs-in W (s ∷ ss) (p ∷ ps) h = (h.0.0, proofs-in W ss ps h.1)

-- the sequents of conditions that are numbered
pub sequents-numbered : (word : List ℕ) (k : ℕ) (ss : List Sequent) → sequents (numbered_from word k ss) ≡ ss
sequents-numbered word k [] = refl
sequents-numbered word k (s ∷ ss) = ap (λ ts. s ∷ ts) (sequents-numbered word (k + 1) ss)
