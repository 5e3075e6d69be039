-- A search layer from which no walk makes more hops than log lines are READY.
use Rattle.std.specs.Prelude.{◌≡◌, ℕ, ◌≤◌, List}
use Rattle.pm_words.specs.Codes.{empty_state}
use Rattle.pm_words.specs.Locations.{Location, Cached, Volatile, HasLocation, at}
use Rattle.data_list.specs.Still.{AreQuiet, Comes}
use Rattle.index_law.specs.Worlds.{World}
use Rattle.lone_updater_law.specs.index_layer_law.specs.Layers.{Layered, IsLayered}
use Rattle.lone_updater_law.specs.CallLogs.{KeepsLayer, ready_lines}
use Rattle.lone_updater_law.specs.LoneTurns.{line_state}
use Rattle.layer_map.specs.Layers.{IsFloorOf}
use Rattle.lone_updater_law.specs.search_layer.specs.Kept.{IsInOrder, layer_of}
use Rattle.lone_hops_law.specs.LoneNodes.{nodes_of, LengthenWithin}
use Rattle.lone_hops_law.specs.Ways.{IsWay}

-- From the node to which the layer leads a key, the way to the key's target is no longer than log lines are READY.
abbrev pub WaysAreShort : World → Type 0
WaysAreShort w = (key start : ℕ) → IsFloorOf (layer_of w.layout w.words) key start →
    (hops : ℕ) × (hops ≤ ready_lines w) × IsWay (nodes_of w) key start hops

-- So it is where each log line is EMPTY, with nothing in flight: the layer leads to the targets themselves.
abbrev pub EmptyIsShort : Type 0
EmptyIsShort = (z : Layered) → IsLayered z →
    AreQuiet z.whole.world.layout z.whole.world.generation (nodes_of z.whole.world) →
    ((j : ℕ) → line_state z.whole.world j ≡ empty_state) → WaysAreShort z.whole.world

-- And so it stays where the layer leads each key where it led, and ways get longer by no more than lines get READY.
abbrev pub ShortStays : Type 0
ShortStays = (w0 w : World) → KeepsLayer w0 w → LengthenWithin w0 w → WaysAreShort w0 → WaysAreShort w

-- A word that a walk or a look at the layer or the log may load: a cached one, or a volatile one of a node.
abbrev pub IsLookedAt : Location → Type 0
IsLookedAt (Cached word) = Unit {0}
IsLookedAt (Volatile node offset) = Unit {0}
IsLookedAt _ = ⊥

-- So it stays too where each of these is what it was.
abbrev pub ShortStaysAlike : Type 0
ShortStaysAlike = (w : World) (words : List ℕ) →
    ((p : Location) → HasLocation w.layout p → IsLookedAt p → at w.layout words p ≡ at w.layout w.words p) →
    WaysAreShort w → WaysAreShort (record w { words = words })

-- Then a walk that begins there makes no more hops than lines are READY.
abbrev pub ShortWalks : Type 0
ShortWalks = (w : World) (key start hops : ℕ) → AreQuiet w.layout w.generation (nodes_of w) →
    IsInOrder w.layout w.words →
    WaysAreShort w → IsFloorOf (layer_of w.layout w.words) key start → Comes w.layout (nodes_of w) key start hops →
    hops ≤ ready_lines w
