-- The names of a map.
use Rattle.std.proofs.Common.{◌≡◌, Bool, true, false, cond, bytes_eq, [], ◌∷◌, ◌++◌, Option, Some, None, refl, ap, ◌∙◌}
use Rattle.std.proofs.lemmas.Cmp.{nat_list_eq_equiv}
use Rattle.std.specs.Option.{option_or}
use Rattle.lisp_data.specs.Values.{Name}
use Rattle.terms.specs.Primitives.{lookup}
use Rattle.terms.proofs.Names.{name_self}
use Rattle.terms.specs.Maps.{NamePairs, HasDistinctNames}

-- what two lists give is what the first gives, and else what the second does
pub lookup-append : (m n : NamePairs) (x : Name) → lookup (m ++ n) x ≡ option_or (lookup m x) (lookup n x)
lookup-append [] n x = refl
lookup-append (e ∷ m) n x = by_test (bytes_eq e.0 x) (lookup-append m n x)
  where
    by_test : (b : Bool) → lookup (m ++ n) x ≡ option_or (lookup m x) (lookup n x) → cond b (Some e.1) (lookup (m ++ n) x) ≡ option_or (cond b (Some e.1) (lookup m x)) (lookup n x)
    by_test true ih = refl
    by_test false ih = ih

-- a further pair changes nothing for the names that are there, nor for another name, and gives its own
pub lookup-before : (m n : NamePairs) (x g : Name) → lookup m x ≡ Some g → lookup (m ++ n) x ≡ Some g
lookup-before m n x g h = lookup-append m n x ∙ ap (λ o. option_or o (lookup n x)) h

pub lookup-behind : (m n : NamePairs) (x : Name) → lookup m x ≡ None → lookup (m ++ n) x ≡ lookup n x
lookup-behind m n x h = lookup-append m n x ∙ ap (λ o. option_or o (lookup n x)) h

pub lookup-last : (m : NamePairs) (f g : Name) → lookup m f ≡ None → lookup (m ++ (f, g) ∷ []) f ≡ Some g
lookup-last m f g h = lookup-behind m ((f, g) ∷ []) f h ∙ ap (λ b. cond b (Some g) None) (name_self f)

or-none : (o : Option Name) → option_or o None ≡ o
or-none None = refl
or-none (Some x) = refl

pub lookup-other : (m : NamePairs) (f g x : Name) → bytes_eq f x ≡ false → lookup (m ++ (f, g) ∷ []) x ≡ lookup m x
lookup-other m f g x h = lookup-append m ((f, g) ∷ []) x ∙ ap (λ b. option_or (lookup m x) (cond b (Some g) None)) h ∙ or-none (lookup m x)

other_first : (b : Bool) (g : Name) (o : Option Name) → cond b (Some g) o ≡ None → (b ≡ false) × (o ≡ None)
other_first true g o e = absurd (cc)
other_first false g o e = (refl, e)

pub bytes_eq-turned : (x y : Name) (b : Bool) → bytes_eq x y ≡ b → bytes_eq y x ≡ b
bytes_eq-turned x y b e = nat_list_eq_equiv.symm y x ∙ e

pub HasDistinctNames-push : (m : NamePairs) (x g : Name) → HasDistinctNames m → lookup m x ≡ None → HasDistinctNames (m ++ (x, g) ∷ [])
HasDistinctNames-push [] x g d n = (refl, tt)
HasDistinctNames-push (e ∷ m) x g d n =
    let p = other_first (bytes_eq e.0 x) e.1 (lookup m x) n in
    (lookup-other m x g e.0 (bytes_eq-turned e.0 x false p.0) ∙ d.0, HasDistinctNames-push m x g d.1 p.1)
