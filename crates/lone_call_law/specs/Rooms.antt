-- Whether a put finds room, by the index before it and after it.
use Rattle.std.specs.Prelude.{◌≡◌, ℕ, ◌<◌, ◌⊎◌, List, Some, None, IsSome}
use Rattle.cat_key.specs.Names.{IsName}
use Rattle.cat_history.specs.Maps.{at}
use Rattle.data_node.specs.Lists.{target_from, key_of}
use Rattle.data_node.specs.Weights.{names_in}
use Rattle.call_stages.specs.Stages.{Held}
use Rattle.index_law.specs.Facts.{map_now, range_of}
use Rattle.index_law.specs.Worlds.{World, facts}
use Rattle.index_law.specs.Laws.{HasNoRoom, IsAtRest}
use Rattle.lone_call_law.specs.Tries.{IsHalvedSince}

-- The node in which a name belongs, and how many names it has of those that belong there.
abbrev pub target_node : World → List ℕ → ℕ
target_node w name = target_from 0 (facts w).list (key_of name)

abbrev pub target_names : World → List ℕ → ℕ
target_names w name = names_in w.layout.slots (range_of w.layout (facts w) (target_node w name))
    ((facts w).now (target_node w name))

-- Where the map got a name while the list stayed, the target had fewer names than slots.
abbrev pub AddedHadRoom : Type 0
AddedHadRoom = (w0 w : World) (name : List ℕ) → IsAtRest w0 → IsAtRest w → w.layout ≡ w0.layout →
    (facts w).list ≡ (facts w0).list → IsName name →
    at (map_now (facts w0)) name ≡ None → IsSome (at (map_now (facts w)) name) →
    ((other : List ℕ) (value : ℕ) → at (map_now (facts w0)) other ≡ Some value →
    IsSome (at (map_now (facts w)) other)) → target_names w0 name < w0.layout.slots

-- Where a call was refused for want of room, and map and list stayed, the map lacks the name, and the target has as
-- many names as slots.
abbrev pub RefusedWasFull : Type 0
RefusedWasFull = (w0 w : World) (name : List ℕ) (since n : ℕ) (h : Held) → IsAtRest w0 → IsAtRest w →
    w.layout ≡ w0.layout → (facts w).list ≡ (facts w0).list →
    map_now (facts w) ≡ map_now (facts w0) → HasNoRoom w.layout (facts w) since n h → h.name ≡ name →
    (at (map_now (facts w0)) name ≡ None) × (target_names w0 name ≡ w0.layout.slots)

-- Where a split cut the node of a name, the map lacked the name, and the target had as many names as slots.
abbrev pub SplitWasFull : Type 0
SplitWasFull = (w0 w : World) (name : List ℕ) → IsAtRest w0 → w.layout ≡ w0.layout → IsHalvedSince name w0 w →
    (at (map_now (facts w0)) name ≡ None) × (target_names w0 name ≡ w0.layout.slots)

-- And once it is cut, the target of the name has room.
abbrev pub CutHasRoom : Type 0
CutHasRoom = (w0 w : World) (name : List ℕ) → IsAtRest w → map_now (facts w) ≡ map_now (facts w0) →
    IsHalvedSince name w0 w → target_names w name < w.layout.slots

-- Between two tries of a lone put of a name: map and history are as at its start, and the list is, or was cut at the
-- name's node.
pub record IsBetweenTries (name : List ℕ) (w0 w : World) : Type 0 where
  pub rest : IsAtRest w
  pub layout : w.layout ≡ w0.layout
  pub base : w.base ≡ w0.base
  pub history : w.history ≡ w0.history
  pub list : ((facts w).list ≡ (facts w0).list) ⊎ IsHalvedSince name w0 w

-- A try that was answered that it split comes after none that was, and then the list was cut.
abbrev pub OneSplit : Type 0
OneSplit = (w0 w1 w : World) (name : List ℕ) → IsAtRest w → IsBetweenTries name w0 w1 → w.layout ≡ w1.layout →
    w.base ≡ w1.base → w.history ≡ w1.history →
    IsHalvedSince name w1 w → ((facts w1).list ≡ (facts w0).list) × IsHalvedSince name w0 w × IsBetweenTries name w0 w

-- A try that finds no room comes after none that was split.
abbrev pub FullIsFirst : Type 0
FullIsFirst = (w0 w1 : World) (name : List ℕ) → IsBetweenTries name w0 w1 → target_names w1 name ≡ w1.layout.slots →
    (facts w1).list ≡ (facts w0).list
