-- What the tries of a lone put make of the shape, that is of the anchors.
use Rattle.std.specs.Prelude.{◌≡◌, ◌≢◌, ℕ, ◌<◌, ◌⊎◌, true, false, List, None, IsSome}
use Rattle.cat_key.specs.Names.{IsName}
use Rattle.cat_history.specs.Maps.{at}
use Rattle.cat_history.specs.declared.op.NameOp.TheVariants.{Put}
use Rattle.shapes.specs.Anchors.{splits, put_anchors}
use Rattle.pm_words.specs.Codes.{free_status}
use Rattle.index_law.specs.Facts.{map_now}
use Rattle.index_law.specs.Worlds.{World, facts}
use Rattle.index_law.specs.Laws.{IsAtRest}
use Rattle.index_law.specs.Anchors.{anchors_in}
use Rattle.index_law.specs.LoneShapes.{FindsNoRoomIn}
use Rattle.lone_call_law.specs.Rooms.{target_names}
use Rattle.lone_call_law.specs.Tries.{IsHalvedSince}

-- Where the map has the name, or its target has fewer names than slots, its put splits nothing.
abbrev pub RoomIsNoSplit : Type 0
RoomIsNoSplit = (w : World) (name : List ℕ) → IsAtRest w → IsName name →
    IsSome (at (map_now (facts w)) name) ⊎ (target_names w name < w.layout.slots) →
    (splits w.layout.slots (map_now (facts w)) (anchors_in w) name ≡ false) ×
    (put_anchors w.layout.slots (map_now (facts w)) (anchors_in w) name ≡ anchors_in w)

-- Where a member was cut for a name, that is the split which its put makes.
abbrev pub CutIsSplit : Type 0
CutIsSplit = (w0 w : World) (name : List ℕ) → IsAtRest w0 → w.layout ≡ w0.layout → IsName name →
    IsHalvedSince name w0 w →
    (splits w0.layout.slots (map_now (facts w0)) (anchors_in w0) name ≡ true) ×
    (anchors_in w ≡ put_anchors w0.layout.slots (map_now (facts w0)) (anchors_in w0) name)

-- A put finds no room exactly where the map lacks the name, its target has as many names as slots, and no node is FREE.
abbrev pub FullIsNoRoom : Type 0
FullIsNoRoom = (w : World) (name : List ℕ) (value : ℕ) → IsAtRest w → IsName name →
    at (map_now (facts w)) name ≡ None → target_names w name ≡ w.layout.slots →
    ((k : ℕ) → k < w.layout.nodes → (facts w).status k ≢ free_status) → FindsNoRoomIn (Put name value) w

abbrev pub NoRoomIsFull : Type 0
NoRoomIsFull = (w : World) (name : List ℕ) (value : ℕ) → IsAtRest w → IsName name → FindsNoRoomIn (Put name value) w →
    (at (map_now (facts w)) name ≡ None) × (target_names w name ≡ w.layout.slots) ×
    ((k : ℕ) → k < w.layout.nodes → (facts w).status k ≢ free_status)
