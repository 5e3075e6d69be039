-- Maps that have room for a fixed number of names, and the pairs of the plain one.
use Rattle.std.specs.Prelude.{◌≡◌, ℕ, ◌≤◌, None, List, [], ◌∷◌, length, refl}
use Rattle.std.specs.Coded.{Coded, code_by, coded×, coded_list, coded_ℕ}
use Rattle.std.specs.FinMap as map
use Rattle.cat_history.specs.Maps.{Map, at, map_of}
use Rattle.cat_key.specs.declared.Pair.{Pair}

-- A map, and how many names it can have.
pub record RoomyMap : Type 0 where
  pub contents : Map
  pub room : ℕ

-- It is stored as the pair of its fields.
abbrev pub roomy_map_code : Coded RoomyMap
roomy_map_code =
    code_by (Map × ℕ) (coded× (map.code (coded_list coded_ℕ) coded_ℕ) coded_ℕ) (λ m. (
      m.contents,
      m.room,
    )) (λ p. record { contents = p.0; room = p.1 }) (λ _. refl)

-- No name stands twice: none stands again behind its pair.
abbrev pub NamesDiffer : List Pair → Type 0
NamesDiffer [] = Unit {0}
NamesDiffer (pair ∷ pairs) = (at (map_of pairs) pair.name ≡ None) × NamesDiffer pairs

-- Pairs that a plain map may have: no name twice, and no more names than there is room for, for all of which there
-- is memory.
pub record ArePlainPairs (pairs : List Pair) (room capacity : ℕ) : Type 0 where
  pub differ : NamesDiffer pairs
  pub fits : length pairs ≤ room
  pub reserved : room ≤ capacity
