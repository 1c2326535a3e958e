-- The laws of pairs and of the maps that they give.
use Rattle.std.specs.Prelude.{◌≡◌, true, false, List, ◌++◌, Some, None, Ok}
use Rattle.lisp_data.specs.Values.{Name}
use Rattle.terms.specs.Primitives.{lookup}
use Rattle.terms.specs.Terms.{Tm, Over}
use Rattle.terms.specs.Worlds.{World, Each, is_in}
use Rattle.terms.specs.declared.entries.FunPair.{FunPair}
use Rattle.terms.specs.Maps.{NamePairs, HasDistinctNames, image}
use Rattle.terms.specs.Pairs.{with_pairs, name_pairs, AreFitting}
use Rattle.terms.specs.Instances.{called, own_pairs, recorded, map_from}

-- pairs that are accepted fit
abbrev pub PairsFit : Type 0
PairsFit = (W : World) (begun : NamePairs) (pairs : List FunPair) (m : NamePairs) → with_pairs W begun pairs ≡ Ok m → AreFitting W begun pairs m

-- what a map gives: what it began with and the pairs stay; each of the functions that it was made for becomes what is recorded for its own
-- pairs; another name has nothing
pub record GivesInstances (W : World) (begun : NamePairs) (pairs : List FunPair) (fs : List Name) (m : NamePairs) : Type 0 where
  pub given : (x g : Name) → lookup (begun ++ name_pairs pairs) x ≡ Some g → lookup m x ≡ Some g
  pub instances : (f : Name) → is_in fs f ≡ true → lookup (begun ++ name_pairs pairs) f ≡ None → recorded W f (own_pairs W pairs f) ≡ Some (image m f)
  pub others : (f : Name) → is_in fs f ≡ false → lookup (begun ++ name_pairs pairs) f ≡ None → lookup m f ≡ None

abbrev pub MapsGiveInstances : Type 0
MapsGiveInstances =
    (W : World) (begun : NamePairs) (pairs : List FunPair) (fs : List Name) (m : NamePairs) → map_from W begun pairs fs ≡ Ok m → GivesInstances W begun pairs fs m

-- each call of the terms is among the names that they call
abbrev pub CallsAreCalled : Type 0
CallsAreCalled = (ts : List Tm) → Each (Over (λ x. Unit {0}) (λ f k. is_in (called ts) f ≡ true)) ts
