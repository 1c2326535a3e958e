-- Lists of entries, the newest first: what is found in them, and what they make of a world.
use Rattle.std.specs.Prelude.{Bool, false, ◌||◌, List, [], ◌∷◌, Option, None}
use Rattle.std.specs.Option.{option_or}
use Rattle.terms.specs.Worlds.{World}
use Rattle.worlds.specs.Entries.{with_entry, IsProperEntry}
use Rattle.worlds.specs.declared.entry.Entry.{Entry}
use Rattle.worlds.specs.declared.entries.Top.{Top}
use Rattle.worlds.specs.declared.entries.Top.TheVariants.{Empty, More}

abbrev pub entries_of : Top → List Entry
entries_of Empty = []
entries_of (More layer) = layer.value.entry.value ∷ layer.value.rest

-- where the newest entry holds a form, a proper one
abbrev pub IsProperNewest : Top → Type 0
IsProperNewest Empty = Unit {0}
IsProperNewest (More layer) = IsProperEntry layer.value.entry.value

-- the world without anything
abbrev pub empty_world : World
empty_world = record {
  functions = record { defs = []; vars = [] };
  theorems = [];
  specifications = [];
  isos = [];
  instances = [];
  links = [];
  events = [];
}

-- the world, given these entries, the oldest first
abbrev pub grown : List Entry → World → World
grown [] W = W
grown (e ∷ es) W = with_entry e (grown es W)

-- what the first entry gives that gives something
abbrev pub first : {A : Type 0} → (Entry → Option A) → List Entry → Option A
first gives [] = None
first gives (e ∷ es) = option_or (gives e) (first gives es)

-- what the last entry gives that gives something
abbrev pub last : {A : Type 0} → (Entry → Option A) → List Entry → Option A
last gives [] = None
last gives (e ∷ es) = option_or (last gives es) (gives e)

-- some entry passes
abbrev pub any : (Entry → Bool) → List Entry → Bool
any passes [] = false
any passes (e ∷ es) = passes e || any passes es
