-- What an index weighs in which no node is FREE.
use Rattle.std.specs.Prelude.{◌≡◌, ◌≢◌, ℕ, ◌*◌, ◌/◌, ◌<◌, ◌≤◌, Bool}
use mathlib.Core.Option.{some}
use lib.ListN.{get_elem?}
use Rattle.pm_words.specs.Codes.{free_status}
use Rattle.pm_words.specs.Offsets.{bitmap_offset}
use Rattle.data_node.specs.Slots.{AreAllLive}
use Rattle.call_stages.specs.Stages.{Grip, Filling, Splits}
use Rattle.index_law.specs.Worlds.{Party, World, facts}
use Rattle.index_law.specs.Lawful.{Lawful}
use Rattle.index_law.specs.Weights.{weight_sum}

-- Each node that a party splits, and that doesn't lead to the fresh one yet, has a name in each slot.
abbrev pub AreSplitFull : World → Type 0
AreSplitFull w = (i : ℕ) (p : Party) (left fresh : Grip) (lit : Bool) → get_elem? w.parties i ≡ some p →
    p.stage ≡ Splits left fresh (Filling lit) → AreAllLive ((facts w).now left.node bitmap_offset) w.layout.slots

-- No node is FREE.
abbrev pub AreInUse : World → Type 0
AreInUse w = (n : ℕ) → n < w.layout.nodes → (facts w).status n ≢ free_status

-- Then the index weighs at least half of all its slots: a listed node weighs half of its own, and so does a GONE one;
-- for a node that a split is about to link the full one has names enough, and for one that a merge has left out, and
-- that isn't GONE yet, the sum has what that lowered it by.
abbrev pub UseWeighs : Type 0
UseWeighs = (w : World) → Lawful w → AreSplitFull w → AreInUse w →
    w.layout.nodes * (w.layout.slots / 2) ≤ weight_sum w
