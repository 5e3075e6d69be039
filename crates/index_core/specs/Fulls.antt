-- Which lone puts find no room, in the words of the shape.
use Rattle.std.specs.Prelude.{ℕ, ◌<◌, ◌≤◌, ◌↔◌, List}
use Rattle.cat_key.specs.Names.{IsName}
use Rattle.shapes.specs.Anchors.{IsFullPut}
use Rattle.index_law.specs.Facts.{IsListed}
use Rattle.index_law.specs.Anchors.{anchors_in}
use Rattle.index_law.specs.Worlds.{facts}
use Rattle.lone_hops_law.specs.lone_updater_law.specs.LoneTurns.{stamp_in}
use Rattle.index_core.specs.declared.party.CoreCall.TheVariants as call
use Rattle.index_core.specs.Indexes.{Index, IsIndex, map_of_index, world}
use Rattle.index_core.specs.Lone.{FindsNoRoom, IsQuiet, locks_left}

-- No node has a stamp above 1, which a turn with release 1 wouldn't make FREE.
abbrev pub HasLowStamps : Index → Type 0
HasLowStamps s = (n : ℕ) → n < s.layout.nodes → stamp_in (world s) n ≤ 1

-- With no call in flight, a lock left of each node, and no stamp above 1, a put finds no room exactly where it is full
-- in the shape, of which as many members may be as there are nodes.
abbrev pub NoRoomIsFullPut : Type 0
NoRoomIsFullPut = (s : Index) (name : List ℕ) (value limit : ℕ) → IsIndex s → IsQuiet s → IsName name →
    0 < locks_left s → HasLowStamps s → FindsNoRoom (call.Put name value limit) s ↔
    IsFullPut s.layout.slots s.layout.nodes (map_of_index s) (anchors_in (world s)) name

-- Then every node is listed.
abbrev pub NoRoomListsEach : Type 0
NoRoomListsEach = (s : Index) (name : List ℕ) (value limit : ℕ) → IsIndex s → IsQuiet s → 0 < locks_left s →
    HasLowStamps s → FindsNoRoom (call.Put name value limit) s → (node : ℕ) → node < s.layout.nodes →
    IsListed (facts (world s)) node
