-- The first part at which something is found, argument by argument.
use Rattle.std.proofs.Common.{◌≡◌, ℕ, suc, ◌+◌, ◌<◌, ◌≤◌, Bool, false, List, [], ◌∷◌, ◌++◌, length, get_or, take, drop, reverse, Option, Some, None, refl, ap, sym, ◌∙◌, arith}
use Rattle.std.specs.Option.{option_map}
use Rattle.std.proofs.lemmas.List.{drop_all, take_more, reverse-append}
use Rattle.terms.specs.Terms.{Tm, Call, Tms, tms}
use Rattle.lisp_data.specs.Values.{Name}
use Rattle.terms.specs.Evaluation.{then_with}
use Rattle.terms.proofs.Args.{args, tms-drop}
use Rattle.reduction.specs.declared.found.Found.{Found}
use Rattle.reduction.specs.declared.found.At.{At}
use Rattle.reduction.specs.Finding.{or_else}
use Rattle.reduction.specs.Seek.{seek, seek_in, shifted, placed, here}

pub reverse-last : {A : Type 0} (xs : List A) (x : A) → reverse (xs ++ x ∷ []) ≡ x ∷ reverse xs
reverse-last xs x = reverse-append xs (x ∷ [])

pub reverse-take : (xs : List ℕ) (i : ℕ) → i < length xs → reverse (take (i + 1) xs) ≡ get_or xs i 0 ∷ reverse (take i xs)
reverse-take xs i h = ap reverse (take_more xs i 0 h) ∙ reverse-last (take i xs) (get_or xs i 0)

pub ruleset paths = (reverse-last, reverse-take)

pub shifted-zero : (o : Option (ℕ × At)) → option_map (shifted 0) o ≡ o
shifted-zero None = refl
shifted-zero (Some r) = ap (λ n. Some (n, r.1)) (let e : 0 + r.0 ≡ r.0 = omega arith in e)

shifted-suc : (i : ℕ) (o : Option (ℕ × At)) → option_map (shifted i) (then_with o (λ r. Some (suc r.0, r.1))) ≡ option_map (shifted (i + 1)) o
shifted-suc i None = refl
shifted-suc i (Some r) = ap (λ n. Some (n, r.1)) (let e : i + suc r.0 ≡ i + 1 + r.0 = omega arith in e)

-- it is found in the argument at a place
pub seek-found : (c : Bool → Tm → Option Found) (ts : List Tm) (i : ℕ) (d : Tm) (r : At) → i < length ts → seek c false (get_or ts i d) ≡ Some r →
    option_map (shifted i) (seek_in c (tms (drop i ts))) ≡ Some (i + 1, r)
seek-found c ts i d r h e =
    let rest = tms (drop (i + 1) ts) in
    ap (λ us. option_map (shifted i) (seek_in c us)) (tms-drop ts i d h)
    ∙ ap (λ o. option_map (shifted i) (or_else (then_with o (λ r. Some (1, r))) (then_with (seek_in c rest) (λ r. Some (suc r.0, r.1))))) e

-- or after it
pub seek-later : (c : Bool → Tm → Option Found) (ts : List Tm) (i : ℕ) (d : Tm) → i < length ts → seek c false (get_or ts i d) ≡ None →
    option_map (shifted i) (seek_in c (tms (drop i ts))) ≡ option_map (shifted (i + 1)) (seek_in c (tms (drop (i + 1) ts)))
seek-later c ts i d h e =
    let rest = tms (drop (i + 1) ts) in
    ap (λ us. option_map (shifted i) (seek_in c us)) (tms-drop ts i d h)
    ∙ ap (λ o. option_map (shifted i) (or_else (then_with o (λ r. Some (1, r))) (then_with (seek_in c rest) (λ r. Some (suc r.0, r.1))))) e
    ∙ shifted-suc i (seek_in c rest)

pub seek-end : (c : Bool → Tm → Option Found) (ts : List Tm) (i : ℕ) → length ts ≤ i → option_map (shifted i) (seek_in c (tms (drop i ts))) ≡ None
seek-end c ts i h = ap (λ us. option_map (shifted i) (seek_in c (tms us))) (drop_all i ts h)

pub ruleset seeking = (args, shifted-zero, seek-found, seek-later, seek-end)

-- what is found in the arguments is found in the call
pub seek-args : (c : Bool → Tm → Option Found) (w : Bool) (t : Tm) (f : Name) (ts : Tms) (r : At) → Call f ts ≡ t → option_map placed (seek_in c ts) ≡ Some r → seek c w t ≡ Some r
seek-args c w t f ts r p e = ap (seek c w) (sym p) ∙ ap (λ o. or_else o (here (Call f ts) (c w (Call f ts)))) e
