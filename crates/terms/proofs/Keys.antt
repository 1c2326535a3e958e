-- The variables of a substitution.
use Rattle.std.proofs.Common.{◌≡◌, Bool, true, false, cond, bytes_eq, [], ◌∷◌, ◌++◌, Option, Some, None, refl, ◌∙◌}
use Rattle.std.proofs.lemmas.Cmp.{nat_list_eq_equiv}
use Rattle.lisp_data.specs.Values.{Name}
use Rattle.terms.specs.Terms.{Tm}
use Rattle.terms.specs.Primitives.{lookup}
use Rattle.terms.specs.Substitution.{Pairs, HasDistinctKeys}

choice_none : (c : Bool) (v : Tm) (o : Option Tm) → cond c (Some v) o ≡ None → (c ≡ false) × (o ≡ None)
choice_none true v o e = cc
choice_none false v o e = (refl, e)

by_choice : (c : Bool) (v : Tm) (o : Option Tm) → c ≡ false → o ≡ None → cond c (Some v) o ≡ None
by_choice true v o e h = cc
by_choice false v o e h = h

bytes_eq-sym : (x y : Name) → bytes_eq x y ≡ false → bytes_eq y x ≡ false
bytes_eq-sym x y e = nat_list_eq_equiv.symm y x ∙ e

lookup-push : (y : Name) (s : Pairs) (x : Name) (t : Tm) → lookup s y ≡ None → bytes_eq x y ≡ false → lookup (s ++ (x, t) ∷ []) y ≡ None
lookup-push y [] x t n e = by_choice (bytes_eq x y) t None e refl
lookup-push y (b ∷ s) x t n e =
    let p = choice_none (bytes_eq b.0 y) b.1 (lookup s y) n in
    by_choice (bytes_eq b.0 y) b.1 (lookup (s ++ (x, t) ∷ []) y) p.0 (lookup-push y s x t p.1 e)

pub HasDistinctKeys-push : (s : Pairs) (x : Name) (t : Tm) → HasDistinctKeys s → lookup s x ≡ None → HasDistinctKeys (s ++ (x, t) ∷ [])
HasDistinctKeys-push [] x t d n = (refl, tt)
HasDistinctKeys-push (b ∷ s) x t d n =
    let p = choice_none (bytes_eq b.0 x) b.1 (lookup s x) n in
    (lookup-push b.0 s x t d.0 (bytes_eq-sym b.0 x p.0), HasDistinctKeys-push s x t d.1 p.1)

pub ruleset keys = (HasDistinctKeys-push)
