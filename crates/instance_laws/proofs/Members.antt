-- Lists of pairs as sets, and what looking up a name in them gives.
use Rattle.std.proofs.Common.{◌≡◌, Bool, true, false, cond, ◌&&◌, ◌||◌, List, [], ◌∷◌, bytes_eq, Some, None, refl, sym, ap, ap₂, ◌∙◌, subst}
use Rattle.std.proofs.lemmas.Bool.{and_parts, and_from}
use Rattle.lisp_data.specs.Values.{Name}
use Rattle.terms.specs.Primitives.{lookup}
use Rattle.terms.specs.Worlds.{World, Instance, is_in}
use Rattle.terms.specs.declared.entries.FunPair.{FunPair}
use Rattle.terms.proofs.Names.{same_name, name_self}
use Rattle.terms.specs.Records.{same_pair, has_pair, has_pairs, same_pairs, find_instance}
use Rattle.terms.specs.Maps.{HasDistinctNames}
use Rattle.terms.specs.Pairs.{name_pairs}
use Rattle.terms.specs.Instances.{restricted, recorded}

-- the pair of these names is among them
abbrev pub has_named : List FunPair → Name → Name → Bool
has_named [] x g = false
has_named (q ∷ qs) x g = (bytes_eq q.variable x && bytes_eq q.function g) || has_named qs x g

has_is : (qs : List FunPair) (p : FunPair) → has_pair qs p ≡ has_named qs p.variable p.function
has_is [] p = refl
has_is (q ∷ qs) p = ap (λ b. same_pair q p || b) (has_is qs p)

-- each pair of the first list is among the second's
pub record Within (ps qs : List FunPair) : Type 0 where
  pub each : (x g : Name) → has_named ps x g ≡ true → has_named qs x g ≡ true

or_true : (a b : Bool) → b ≡ true → (a || b) ≡ true
or_true true b h = refl
or_true false b h = h

has_first : (q : FunPair) (qs : List FunPair) → has_named (q ∷ qs) q.variable q.function ≡ true
has_first q qs = ap₂ (λ a b. (a && b) || has_named qs q.variable q.function) (name_self q.variable) (name_self q.function)

within_rest : (p : FunPair) (ps qs : List FunPair) → Within (p ∷ ps) qs → Within ps qs
within_rest p ps qs w = record { each = λ x g h. w.each x g (or_true (bytes_eq p.variable x && bytes_eq p.function g) (has_named ps x g) h) }

within : (ps qs : List FunPair) → has_pairs ps qs ≡ true → Within ps qs
within [] qs e = record { each = λ x g h. absurd (cc) }
within (p ∷ ps) qs e =
    let parts = and_parts (has_pair qs p) (has_pairs ps qs) e in
    record { each = λ x g h. by_test x g (bytes_eq p.variable x && bytes_eq p.function g) refl h (sym (has_is qs p) ∙ parts.0) ((within ps qs parts.1).each x g) }
  where
    by_test : (x g : Name) (b : Bool) → (bytes_eq p.variable x && bytes_eq p.function g) ≡ b → (b || has_named ps x g) ≡ true → has_named qs p.variable p.function ≡ true → (has_named ps x g ≡ true → has_named qs x g ≡ true) → has_named qs x g ≡ true
    by_test x g true t h here ih =
        let s = and_parts (bytes_eq p.variable x) (bytes_eq p.function g) t in
        sym (ap₂ (has_named qs) (same_name p.variable x s.0) (same_name p.function g s.1)) ∙ here
    by_test x g false t h here ih = ih h

from_within : (ps qs : List FunPair) → Within ps qs → has_pairs ps qs ≡ true
from_within [] qs w = refl
from_within (p ∷ ps) qs w =
    and_from (has_pair qs p) (has_pairs ps qs)
    (has_is qs p ∙ w.each p.variable p.function (has_first p ps))
    (from_within ps qs (within_rest p ps qs w))

within_then : (ps qs rs : List FunPair) → Within ps qs → Within qs rs → Within ps rs
within_then ps qs rs v w = record { each = λ x g h. w.each x g (v.each x g h) }

-- the same pairs
pub record Alike (ps qs : List FunPair) : Type 0 where
  pub there : Within ps qs
  pub back : Within qs ps

pub alike : (ps qs : List FunPair) → same_pairs ps qs ≡ true → Alike ps qs
alike ps qs e = let p = and_parts (has_pairs ps qs) (has_pairs qs ps) e in record { there = within ps qs p.0; back = within qs ps p.1 }

from_alike : (ps qs : List FunPair) → Alike ps qs → same_pairs ps qs ≡ true
from_alike ps qs a = and_from (has_pairs ps qs) (has_pairs qs ps) (from_within ps qs a.there) (from_within qs ps a.back)

bool_same : (a b : Bool) → (a ≡ true → b ≡ true) → (b ≡ true → a ≡ true) → a ≡ b
bool_same true b h k = sym (h refl)
bool_same false true h k = k refl
bool_same false false h k = refl

same_test : (is ps qs : List FunPair) → Alike ps qs → same_pairs is ps ≡ same_pairs is qs
same_test is ps qs a =
    bool_same (same_pairs is ps) (same_pairs is qs)
    (λ e. let b = alike is ps e in from_alike is qs (record { there = within_then is ps qs b.there a.there; back = within_then qs ps is a.back b.back }))
    (λ e. let b = alike is qs e in from_alike is ps (record { there = within_then is qs ps b.there a.back; back = within_then ps qs is a.there b.back }))

-- alike lists have the same recorded instance
find_alike : (is : List Instance) (f : Name) (ps qs : List FunPair) → Alike ps qs → find_instance is f ps ≡ find_instance is f qs
find_alike [] f ps qs a = refl
find_alike (i ∷ is) f ps qs a = ap₂ (λ b o. cond (bytes_eq i.of f && b) (Some i.instance) o) (same_test i.pairs ps qs a) (find_alike is f ps qs a)

pub recorded_alike : (W : World) (f : Name) (ps qs : List FunPair) → Alike ps qs → recorded W f ps ≡ recorded W f qs
recorded_alike W f [] [] a = refl
recorded_alike W f [] (q ∷ qs) a = let h = a.back.each q.variable q.function (has_first q qs) in absurd (cc)
recorded_alike W f (p ∷ ps) [] a = let h = a.there.each p.variable p.function (has_first p ps) in absurd (cc)
recorded_alike W f (p ∷ ps) (q ∷ qs) a = find_alike W.instances f (p ∷ ps) (q ∷ qs) a

-- a list that has no pair is empty
pub no_pairs : (ps : List FunPair) → ((x g : Name) → has_named ps x g ≡ true → ⊥) → ps ≡ []
no_pairs [] h = refl
no_pairs (p ∷ ps) h = absurd (h p.variable p.function (has_first p ps))

-- the pairs of some variables
pub has_restricted : (ps : List FunPair) (xs : List Name) (x g : Name) → has_named (restricted ps xs) x g ≡ (has_named ps x g && is_in xs x)
has_restricted [] xs x g = refl
has_restricted (p ∷ ps) xs x g = by_test (is_in xs p.variable) refl (bytes_eq p.variable x && bytes_eq p.function g) refl (has_restricted ps xs x g)
  where
    and_false : (a b : Bool) → b ≡ false → (a && b) ≡ false
    and_false true b e = e
    and_false false b e = refl

    by_test : (a : Bool) → is_in xs p.variable ≡ a → (s : Bool) → (bytes_eq p.variable x && bytes_eq p.function g) ≡ s → has_named (restricted ps xs) x g ≡ (has_named ps x g && is_in xs x) → has_named (cond a (p ∷ restricted ps xs) (restricted ps xs)) x g ≡ ((s || has_named ps x g) && is_in xs x)
    by_test true i true s ih =
        let q = and_parts (bytes_eq p.variable x) (bytes_eq p.function g) s in
        ap (λ b. b || has_named (restricted ps xs) x g) s ∙ sym (ap (is_in xs) (sym (same_name p.variable x q.0)) ∙ i)
    by_test true i false s ih = ap (λ b. b || has_named (restricted ps xs) x g) s ∙ ih
    by_test false i true s ih =
        let q = and_parts (bytes_eq p.variable x) (bytes_eq p.function g) s in
        let out : is_in xs x ≡ false = ap (is_in xs) (sym (same_name p.variable x q.0)) ∙ i in
        ih ∙ and_false (has_named ps x g) (is_in xs x) out ∙ sym out
    by_test false i false s ih = ih

-- what is looked up is a pair, and where no name stands twice each pair is what is looked up
pub has_looked_up : (ps : List FunPair) (x g : Name) → lookup (name_pairs ps) x ≡ Some g → has_named ps x g ≡ true
has_looked_up [] x g e = absurd (cc)
has_looked_up (p ∷ ps) x g e = by_test (bytes_eq p.variable x) e (has_looked_up ps x g)
  where
    by_test : (b : Bool) → cond b (Some p.function) (lookup (name_pairs ps) x) ≡ Some g → (lookup (name_pairs ps) x ≡ Some g → has_named ps x g ≡ true) → ((b && bytes_eq p.function g) || has_named ps x g) ≡ true
    by_test true e' ih =
        let same : p.function ≡ g = cc in
        ap (λ b. b || has_named ps x g) (ap (bytes_eq p.function) (sym same) ∙ name_self p.function)
    by_test false e' ih = ih e'

pub looked_up : (ps : List FunPair) → HasDistinctNames (name_pairs ps) → (x g : Name) → has_named ps x g ≡ true → lookup (name_pairs ps) x ≡ Some g
looked_up [] d x g e = absurd (cc)
looked_up (p ∷ ps) d x g e = by_test (bytes_eq p.variable x) refl (bytes_eq p.function g) refl e (looked_up ps d.1 x g)
  where
    by_test : (a : Bool) → bytes_eq p.variable x ≡ a → (b : Bool) → bytes_eq p.function g ≡ b → ((a && b) || has_named ps x g) ≡ true → (has_named ps x g ≡ true → lookup (name_pairs ps) x ≡ Some g) → cond a (Some p.function) (lookup (name_pairs ps) x) ≡ Some g
    by_test true s true t e' ih = ap Some (same_name p.function g t)
    by_test true s false t e' ih =
        let none : lookup (name_pairs ps) x ≡ None = subst (λ z. lookup (name_pairs ps) z ≡ None) (same_name p.variable x s) d.0 in
        let some = ih e' in
        absurd (cc)
    by_test false s b t e' ih = ih e'
