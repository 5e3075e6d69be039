-- A node that means a map on a range has as many names of the range as the map.
use Rattle.std.specs.Prelude.{◌≡◌, ℕ, Bool, List, Some, length}
use Rattle.std.specs.FinMap.{keys}
use Rattle.std.specs.List.{filter}
use Rattle.cat_key.specs.Names.{IsName}
use Rattle.shapes.specs.cat_history.specs.Maps.{Map, at}
use Rattle.data_node.specs.Spots.{Spot, Means}
use Rattle.data_node.specs.Weights.{names_in}

abbrev pub NodeHasItsNames : Type 0
NodeHasItsNames = (slots : ℕ) (range : List ℕ → Bool) (s : Spot) (m : Map) → Means slots range s m →
    ((name : List ℕ) (value : ℕ) → at m name ≡ Some value → IsName name) →
    names_in slots range s ≡ length (filter range (keys m))
