-- A map as the pairs that a replay of a history tells.
use Rattle.std.specs.Prelude.{ℕ, List, map}
use Rattle.std.specs.FinMap.{entries}
use Rattle.cat_key.specs.declared.Pair.{Pair}
use Rattle.cat_history.specs.Maps.{Map}

-- The names of a map with their numbers, each name once, in rising order of names.
abbrev pub pairs_of : Map → List Pair
pairs_of m = map (λ (e : List ℕ × ℕ). record { name = e.0; value = e.1 }) (entries m)
