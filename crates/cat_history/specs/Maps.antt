-- Maps from names to numbers.
use Rattle.std.specs.Prelude.{◌≡◌, ℕ, Option, None, List, map}
use Rattle.std.specs.FinMap.{FinMap, get, len, from_entries}
use Rattle.cat_key.specs.Names.{name_cmp}
use Rattle.cat_key.specs.declared.Pair.{Pair}

-- Names with their numbers, each name at most once, in rising order of names.
abbrev pub Map : Type 0
Map = FinMap name_cmp ℕ

-- The number of a name; None where the map lacks it.
abbrev pub at : Map → List ℕ → Option ℕ
at m name = get m name

-- The map of a list of pairs. At a name that stands twice it has the first number.
abbrev pub map_of : List Pair → Map
map_of pairs = from_entries (map (λ (p : Pair). (p.name, p.value)) pairs)

-- A new name finds no room: the map lacks it, and has as many names as there is room for.
abbrev pub LacksRoom : ℕ → Map → List ℕ → Type 0
LacksRoom room m name = (at m name ≡ None) × (len m ≡ room)
