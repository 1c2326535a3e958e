-- Conjunctions, foldings and bindings, item by item.
use Rattle.std.proofs.Common.{◌≡◌, ℕ, zero, suc, ◌+◌, ◌-◌, ◌<◌, ◌≤◌, Bool, true, false, cond, List, [], ◌∷◌, ◌++◌, bytes_eq, length, get_or, map, drop, append_assoc, append-nil, Option, Some, None, refl, ap, sym, ◌∙◌, subst, arith}
use Rattle.std.proofs.lemmas.List.{drop_all, drop_more}
use Rattle.lisp_data.specs.Values.{Name}
use Rattle.terms.specs.Terms.{Tm}
use Rattle.terms.specs.Primitives.{lookup}
use Rattle.terms.specs.Substitution.{Pairs}
use Rattle.terms.specs.BuiltIn.{no, if_else}
use Rattle.terms.specs.Definitions.{find}
use Rattle.terms.specs.Formed.{AllFormed}
use Rattle.terms.specs.Measures.{is_nested}
use Rattle.terms.specs.Sound.{Sound}
use Rattle.terms.specs.Worlds.{World}
use Rattle.terms.specs.declared.definition.Definition.{Definition}
use Rattle.terms.proofs.Args.{tm_list-tms}
use Rattle.hints.specs.Start.{implication, conjunction, folded, bound, bind}

conjunction-step : (t : Tm) (us : List Tm) → 0 < length us → conjunction (t ∷ us) ≡ if_else t (conjunction us) no
conjunction-step t [] h = absurd (omega arith)
conjunction-step t (u ∷ us) h = refl

pub conjunction-end : (ts : List Tm) (i : ℕ) (d : Tm) → i + 1 ≡ length ts → conjunction (drop i ts) ≡ get_or ts i d
conjunction-end ts i d h = ap conjunction (drop_more ts i d (omega arith)) ∙ ap (λ us. conjunction (get_or ts i d ∷ us)) (drop_all (i + 1) ts (omega arith))

some_left : (ts : List Tm) (i : ℕ) → i < length ts → 0 < length (drop i ts)
some_left [] i h = absurd (omega arith)
some_left (t ∷ ts) zero h = omega arith
some_left (t ∷ ts) (suc i) h = some_left ts i (omega arith)

pub conjunction-more : (ts : List Tm) (i : ℕ) (d : Tm) → i + 1 < length ts → conjunction (drop i ts) ≡ if_else (get_or ts i d) (conjunction (drop (i + 1) ts)) no
conjunction-more ts i d h = ap conjunction (drop_more ts i d (omega arith)) ∙ conjunction-step (get_or ts i d) (drop (i + 1) ts) (some_left ts (i + 1) h)

pub ruleset conjunctions = (conjunction-end, conjunction-more)

pub folded-more : (hs : List Tm) (g : Tm) (i : ℕ) (d : Tm) → i < length hs → folded (drop i hs) g ≡ implication (get_or hs i d) (folded (drop (i + 1) hs) g)
folded-more hs g i d h = ap (λ us. folded us g) (drop_more hs i d h)

pub folded-end : (hs : List Tm) (g : Tm) (i : ℕ) → length hs ≤ i → folded (drop i hs) g ≡ g
folded-end hs g i h = ap (λ us. folded us g) (drop_all i hs h)

pub ruleset foldings = (folded-more, folded-end)

pub bind-step : (s : Pairs) (xs : List Name) (ts : List Tm) (i : ℕ) (c : Name) (d : Tm) → i < length xs → i < length ts →
    bind s (drop i xs) (drop i ts) ≡ bind (bound s (get_or xs i c) (get_or ts i d) (lookup s (get_or xs i c))) (drop (i + 1) xs) (drop (i + 1) ts)
bind-step s xs ts i c d h g =
    ap (λ ys. bind s ys (drop i ts)) (drop_more xs i c h) ∙ ap (bind s (get_or xs i c ∷ drop (i + 1) xs)) (drop_more ts i d g)

pub bind-names : (s : Pairs) (xs : List Name) (ts : List Tm) (i : ℕ) → length xs ≤ i → bind s (drop i xs) ts ≡ s
bind-names s xs ts i h = ap (λ ys. bind s ys ts) (drop_all i xs h)

none_left : (s : Pairs) (xs : List Name) → bind s xs [] ≡ s
none_left s [] = refl
none_left s (x ∷ xs) = refl

pub bind-terms : (s : Pairs) (xs : List Name) (ts : List Tm) (i : ℕ) → length ts ≤ i → bind s xs (drop i ts) ≡ s
bind-terms s xs ts i h = ap (bind s xs) (drop_all i ts h) ∙ none_left s xs

pub ruleset bindings = (bind-step, bind-names, bind-terms)

pub map-more : {A B : Type 0} (f : A → B) (xs : List A) (i : ℕ) (d : A) → i < length xs → map f (drop i xs) ≡ f (get_or xs i d) ∷ map f (drop (i + 1) xs)
map-more f xs i d h = ap (map f) (drop_more xs i d h)

pub ruleset lists = (drop_more, drop_all, append_assoc, append-nil, map-more, tm_list-tms)

some_is : {A : Type 0} {x y : A} → Some x ≡ Some y → x ≡ y
some_is e = cc

found_flat : (vars : List (Name × ℕ)) (ds : List Definition) → AllFormed vars ds → (f : Name) (d : Definition) → find ds f ≡ Some d → is_nested d.name d.body ≡ false
found_flat vars [] h f d e = absurd (cc)
found_flat vars (c ∷ ds) h f d e = by_test (bytes_eq c.name f) e (found_flat vars ds h.1 f d)
  where
    by_test : (b : Bool) → cond b (Some c) (find ds f) ≡ Some d → (find ds f ≡ Some d → is_nested d.name d.body ≡ false) → is_nested d.name d.body ≡ false
    by_test true e' ih = subst (λ x. is_nested x.name x.body ≡ false) (some_is e') h.0.flat
    by_test false e' ih = ih e'

-- a definition of a sound world calls its function in no argument of a recursive call
pub find-flat : (W : World) (f : Name) (d : Definition) → find W.functions.defs f ≡ Some d → Sound W → is_nested d.name d.body ≡ false
find-flat W f d e sound = found_flat W.functions.vars W.functions.defs sound.formed f d e

pub ruleset definitions = (find-flat)
