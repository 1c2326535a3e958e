-- Lists of terms as sets.
use Rattle.std.proofs.Common.{◌≡◌, Bool, true, false, cond, not, ◌||◌, List, [], ◌∷◌, ◌++◌, if◌then◌else◌, refl, sym, ap, ◌∙◌, subst}
use Rattle.std.specs.List.{list_any}
use Rattle.std.proofs.lemmas.Bool.{and_parts, and_from, or_left, or_right}
use Rattle.terms.specs.Terms.{Tm, same_tm}
use Rattle.terms.specs.Joins.{with_term}
use Rattle.terms.specs.Worlds.{World, Fits, Each}
use Rattle.terms.proofs.Lists.{each_to, each_join}
use Rattle.terms.proofs.Same.{same_term, term_self}
use Rattle.kernel.specs.Fitting.{fits}
use Rattle.kernel.proofs.Inversions.{fits_decides}
use Rattle.plans.specs.Proving.{is_among, are_among}
use Rattle.reduction.specs.Hyps.{has, without}
use Rattle.reduction_proofs.specs.Proving.{Within}

abbrev pub Fit : World → Tm → Type 0
Fit W u = fits W.functions u ≡ true

pub each_fit : (W : World) (ts : List Tm) → Each (Fits W.functions) ts → Each (Fit W) ts
each_fit W ts h = each_to (Fits W.functions) (Fit W) (λ t. (fits_decides W.functions t).1) ts h

pub within_first : (h : Tm) (hs : List Tm) → Within (h ∷ hs) h
within_first h hs = or_left (same_tm h h) (has hs h) (term_self h)

pub within_more : (h : Tm) (hs : List Tm) (t : Tm) → Within hs t → Within (h ∷ hs) t
within_more h hs t e = or_right (same_tm t h) (has hs t) e

pub each_more : (h : Tm) (hs ts : List Tm) → Each (Within hs) ts → Each (Within (h ∷ hs)) ts
each_more h hs ts e = each_to (Within hs) (Within (h ∷ hs)) (λ t. within_more h hs t) ts e

pub each_self : (hs : List Tm) → Each (Within hs) hs
each_self [] = tt
each_self (h ∷ hs) = (within_first h hs, each_more h hs hs (each_self hs))

-- what holds of each term holds of one within
pub has_in : (P : Tm → Type 0) (us : List Tm) (t : Tm) → Within us t → Each P us → P t
has_in P [] t e h = absurd (cc)
has_in P (u ∷ us) t e h = by_test (same_tm t u) refl e (λ f. has_in P us t f h.1)
  where
    by_test : (b : Bool) → same_tm t u ≡ b → (b || has us t) ≡ true → (has us t ≡ true → P t) → P t
    by_test true s e' ih = subst P (sym (same_term t u s)) h.0
    by_test false s e' ih = ih e'

-- the same, in the words of conditions
among_is_has : (t : Tm) (us : List Tm) → is_among t us ≡ has us t
among_is_has t [] = refl
among_is_has t (u ∷ us) = ap (λ b. same_tm t u || b) (among_is_has t us)

pub are_among_within : (us ts : List Tm) → Each (Within us) ts → are_among ts us ≡ true
are_among_within us [] h = refl
are_among_within us (t ∷ ts) h = and_from (is_among t us) (are_among ts us) (among_is_has t us ∙ h.0) (are_among_within us ts h.1)

pub within_among : (us ts : List Tm) → are_among ts us ≡ true → Each (Within us) ts
within_among us [] e = tt
within_among us (t ∷ ts) e = let h = and_parts (is_among t us) (are_among ts us) e in (sym (among_is_has t us) ∙ h.0, within_among us ts h.1)

-- what lies within a list that lies within another
pub each_within : (hs big ts : List Tm) → Each (Within big) hs → Each (Within hs) ts → Each (Within big) ts
each_within hs big ts sub e = each_to (Within hs) (Within big) (λ t h. has_in (Within big) hs t h sub) ts e

pub with_term_to : (P : Tm → Type 0) (us : List Tm) (t : Tm) → Each P us → P t → Each P (with_term us t)
with_term_to P us t h p = by_test (list_any (same_tm t) us)
  where
    by_test : (b : Bool) → Each P (if b then us else (us ++ t ∷ []))
    by_test true = h
    by_test false = each_join P us (t ∷ []) h (p, tt)

-- what is left without h lies within what is beside h
pub without_within : (hs : List Tm) (h : Tm) (ts : List Tm) → Each (Within (h ∷ hs)) ts → Each (Within hs) (without ts h)
without_within hs h [] e = tt
without_within hs h (t ∷ ts) e = by_test (same_tm h t) refl (same_tm t h) refl e.0 (without_within hs h ts e.1)
  where
    by_test : (b : Bool) → same_tm h t ≡ b → (c : Bool) → same_tm t h ≡ c → (c || has hs t) ≡ true → Each (Within hs) (without ts h) → Each (Within hs) (cond (not b) (t ∷ without ts h) (without ts h))
    by_test true p c q w ih = ih
    by_test false p false q w ih = (w, ih)
    by_test false p true q w ih = let s : same_tm h t ≡ true = subst (λ k. same_tm h k ≡ true) (sym (same_term t h q)) (term_self h) in absurd (cc)

pub each_right : (xs hs : List Tm) → Each (Within (xs ++ hs)) hs
each_right [] hs = each_self hs
each_right (x ∷ xs) hs = each_more x (xs ++ hs) hs (each_right xs hs)

pub each_left : (xs hs : List Tm) → Each (Within (xs ++ hs)) xs
each_left [] hs = tt
each_left (x ∷ xs) hs = (within_first x (xs ++ hs), each_more x (xs ++ hs) xs (each_left xs hs))
