-- The pairs of a function's own variables.
use Rattle.std.proofs.Common.{◌≡◌, ◌≢◌, ℕ, zero, suc, ◌||◌, Bool, true, false, cond, List, [], ◌∷◌, ◌++◌, length, bytes_eq, Ok, if◌then◌else◌, refl, sym, ap, ◌∙◌, subst, append_assoc, append-nil, arith}
use Rattle.std.specs.List.{list_any}
use Rattle.lisp_data.specs.Values.{Name}
use Rattle.terms.specs.Variables.{with_name}
use Rattle.terms.specs.Worlds.{is_in}
use Rattle.terms.specs.declared.entries.FunPair.{FunPair}
use Rattle.terms.proofs.Names.{same_name}
use Rattle.terms.proofs.Members.{is_in-append}
use Rattle.soft_vars.specs.Dependents.{joined, each_once}
use Rattle.terms.specs.Worlds.{World}
use Rattle.terms.specs.Records.{find_instance}
use Rattle.terms.specs.Maps.{NamePairs}
use Rattle.terms.specs.Instances.{restricted, with_recorded, by_own_pairs}
use Rattle.soft_vars.proofs.Calls.{any-is_in}

or-assoc : (a b c : Bool) → ((a || b) || c) ≡ (a || (b || c))
or-assoc true b c = refl
or-assoc false b c = refl

or-false : (b : Bool) → (b || false) ≡ b
or-false true = refl
or-false false = refl

absorbed : (a b : Bool) → (b ≡ true → a ≡ true) → a ≡ (a || b)
absorbed true b h = refl
absorbed false true h = h refl
absorbed false false h = refl

-- a name is there with another where it was, or is that one
in_with_name : (x : Name) (found : List Name) (y : Name) → is_in (with_name x found) y ≡ (is_in found y || bytes_eq x y)
in_with_name x found y = by_test (list_any (bytes_eq x) found) refl
  where
    by_test : (b : Bool) → list_any (bytes_eq x) found ≡ b → is_in (if b then found else (found ++ x ∷ [])) y ≡ (is_in found y || bytes_eq x y)
    by_test true e = absorbed (is_in found y) (bytes_eq x y) (λ same. subst (λ z. is_in found z ≡ true) (same_name x y same) (sym (any-is_in x found) ∙ e))
    by_test false e = is_in-append found (x ∷ []) y ∙ ap (λ b. is_in found y || b) (or-false (bytes_eq x y))

in_joined : (found xs : List Name) (y : Name) → is_in (joined found xs) y ≡ (is_in found y || is_in xs y)
in_joined found [] y = sym (or-false (is_in found y))
in_joined found (x ∷ xs) y = in_joined (with_name x found) xs y ∙ ap (λ b. b || is_in xs y) (in_with_name x found y) ∙ or-assoc (is_in found y) (bytes_eq x y) (is_in xs y)

-- the same names keep the same pairs
pub restricted-once : (ps : List FunPair) (xs : List Name) → restricted ps (each_once xs) ≡ restricted ps xs
restricted-once [] xs = refl
restricted-once (p ∷ ps) xs = λ i. cond (in_joined [] xs p.variable i) (p ∷ restricted-once ps xs i) (restricted-once ps xs i)

-- a pair is kept where its variable is among the names
pub kept : (xs : List Name) (p : FunPair) → list_any (bytes_eq p.variable) xs ≡ true → restricted (p ∷ []) xs ≡ p ∷ []
kept xs p e = ap (λ b. cond b (p ∷ []) []) (sym (any-is_in p.variable xs) ∙ e)

pub left_out : (xs : List Name) (p : FunPair) → list_any (bytes_eq p.variable) xs ≡ false → restricted (p ∷ []) xs ≡ []
left_out xs p e = ap (λ b. cond b (p ∷ []) []) (sym (any-is_in p.variable xs) ∙ e)

pub one_more : (xs : List Name) (own : List FunPair) (p : FunPair) (ps : List FunPair) → (own ++ restricted (p ∷ []) xs) ++ restricted ps xs ≡ own ++ restricted (p ∷ ps) xs
one_more xs own p ps = append_assoc own (restricted (p ∷ []) xs) (restricted ps xs) ∙ ap (λ qs. own ++ qs) (by_test (is_in xs p.variable))
  where
    by_test : (b : Bool) → cond b (p ∷ []) [] ++ restricted ps xs ≡ cond b (p ∷ restricted ps xs) (restricted ps xs)
    by_test true = refl
    by_test false = refl

-- a function without own pairs adds nothing, another one its recorded instance
pub without_own : (W : World) (m : NamePairs) (f : Name) (own : List FunPair) → length own ≡ 0 → by_own_pairs W m f own ≡ Ok m
without_own W m f [] e = refl
without_own W m f (p ∷ ps) e = absurd (cc)

pub with_own : (W : World) (m : NamePairs) (f : Name) (own : List FunPair) → length own ≢ 0 → by_own_pairs W m f own ≡ with_recorded m f (find_instance W.instances f own)
with_own W m f [] e = absurd (e refl)
with_own W m f (p ∷ ps) e = refl

pub ruleset owned = (restricted-once, kept, left_out, one_more, append-nil, without_own, with_own)
