-- The restriction of a plan's link, which is its third entry.
use Rattle.std.proofs.Common.{◌≡◌, ℕ, ◌<◌, List, [], ◌∷◌, length, get_or, Option, Some, None, IsSome, refl, sym, ◌∙◌, subst, arith}
use Rattle.lisp_data.specs.Values.{Name}
use Rattle.terms.specs.Terms.{Tm}
use Rattle.terms.specs.declared.entries.Link.{Link}
use Rattle.terms.specs.declared.entries.Link.TheVariants.{Schema, Solution, Restriction, Isomorphism, TailRecursion}
use Rattle.plans.specs.declared.plan.Entry.{Entry}
use Rattle.plans.specs.declared.plan.Entry.TheVariants as entry
use Rattle.restrict_tool.specs.Parts.{restriction_in}

pub long-enough : (es : List Entry) → IsSome (restriction_in es) → 2 < length es
long-enough [] h = absurd (cc)
long-enough (x ∷ []) h = absurd (cc)
long-enough (x ∷ y ∷ []) h = absurd (cc)
long-enough (x ∷ y ∷ z ∷ es) h = omega arith

-- an entry whose link is that of a restriction
pub record IsThird (e : Entry) : Type 0 where
  pub name : Name
  pub old : Name
  pub new : Name
  pub formals : List Name
  pub condition : Tm
  pub is : e ≡ entry.Chained name (Restriction old new formals condition)

by_link : (x y : Entry) (es : List Entry) (n : Name) (l : Link) → IsSome (restriction_in (x ∷ y ∷ entry.Chained n l ∷ es)) → IsThird (entry.Chained n l)
by_link x y es n (Schema a b c d e) h = absurd (cc)
by_link x y es n (Solution a b c) h = absurd (cc)
by_link x y es n (Restriction old new formals condition) h = record { name = n; old = old; new = new; formals = formals; condition = condition; is = refl }
by_link x y es n (Isomorphism a b c) h = absurd (cc)
by_link x y es n (TailRecursion a b) h = absurd (cc)

by_entry : (x y z : Entry) (es : List Entry) → IsSome (restriction_in (x ∷ y ∷ z ∷ es)) → IsThird z
by_entry x y (entry.Function d) es h = absurd (cc)
by_entry x y (entry.Variable v k) es h = absurd (cc)
by_entry x y (entry.Theorem n s) es h = absurd (cc)
by_entry x y (entry.Spec s) es h = absurd (cc)
by_entry x y (entry.Isomorphism i) es h = absurd (cc)
by_entry x y (entry.Instance of pairs instance) es h = absurd (cc)
by_entry x y (entry.Chained n l) es h = by_link x y es n l h

pub is-third : (es : List Entry) (e : Entry) → IsSome (restriction_in es) → e ≡ get_or es 2 e → IsThird e
is-third [] e h p = absurd (cc)
is-third (x ∷ []) e h p = absurd (cc)
is-third (x ∷ y ∷ []) e h p = absurd (cc)
is-third (x ∷ y ∷ z ∷ es) e h p = subst IsThird (sym p) (by_entry x y z es h)

pub in-third : (es : List Entry) (e : Entry) → IsSome (restriction_in es) → e ≡ get_or es 2 e → (n old new : Name) (formals : List Name) (c : Tm) → e ≡ entry.Chained n (Restriction old new formals c) → restriction_in es ≡ Some c
in-third [] e h p n old new formals c q = absurd (cc)
in-third (x ∷ []) e h p n old new formals c q = absurd (cc)
in-third (x ∷ y ∷ []) e h p n old new formals c q = absurd (cc)
in-third (x ∷ y ∷ z ∷ es) e h p n old new formals c q = subst (λ v. restriction_in (x ∷ y ∷ v ∷ es) ≡ Some c) (sym q ∙ p) refl

pub ruleset third = (long-enough, in-third)
