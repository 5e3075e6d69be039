-- Maps in several members, and the lists in which the plain one keeps them.
use Rattle.std.specs.Prelude.{◌≡◌, ℕ, ◌*◌, ◌≤◌, List, [], ◌∷◌, refl}
use Rattle.std.specs.Coded.{Coded, code_by, coded×, coded_list, coded_ℕ}
use Rattle.std.specs.FinMap as map
use Rattle.cat_history.specs.Maps.{Map, map_of}
use Rattle.cat_history.specs.Replays.{pairs_of}
use Rattle.cat_key.specs.declared.Pair.{Pair}
use Rattle.shapes.specs.Anchors.{Anchors}
use Rattle.shapes.specs.Weights.{IsShape}

-- A map, where its members begin, how many names each can have, and how many members there can be.
pub record MemberedMap : Type 0 where
  pub contents : Map
  pub anchors : Anchors
  pub slots : ℕ
  pub nodes : ℕ

-- It is stored as the pairs of its fields.
abbrev contents_code : Coded Map
contents_code = map.code (coded_list coded_ℕ) coded_ℕ

abbrev anchors_code : Coded Anchors
anchors_code = coded_list (coded_list coded_ℕ)

abbrev pub membered_map_code : Coded MemberedMap
membered_map_code =
    code_by ((Map × Anchors) × (ℕ × ℕ)) (coded× (coded× contents_code anchors_code) (coded× coded_ℕ coded_ℕ)) (λ m. (
      (m.contents, m.anchors),
      (m.slots, m.nodes),
    )) (λ p. record { contents = p.0.0; anchors = p.0.1; slots = p.1.0; nodes = p.1.1 }) (λ _. refl)

-- The first member begins with the empty text, and each other one with a name.
abbrev pub anchors_of : List (List ℕ) → Anchors
anchors_of bounds = [] ∷ bounds

-- The pairs are those of their map, in its order, and with the bounds they have a shape that so many members of so many
-- names can have, each of which has two halves.
pub record AreMembers (slots nodes : ℕ) (pairs : List Pair) (bounds : List (List ℕ)) : Type 0 where
  pub halves : 2 ≤ slots
  pub in_order : pairs ≡ pairs_of (map_of pairs)
  pub shape : IsShape slots nodes (map_of pairs) (anchors_of bounds)

-- There is memory for all the names and bounds that there can be.
pub record HaveMemory (slots nodes pairs_capacity bounds_capacity : ℕ) : Type 0 where
  pub for_pairs : slots * nodes ≤ pairs_capacity
  pub for_bounds : nodes ≤ bounds_capacity
