-- What a turn of the updater leaves that is made with nothing else in flight.
use Rattle.std.specs.Prelude.{◌≡◌, ◌≢◌, ℕ, ◌<◌, ◌==◌, ◌&&◌, ◌↔◌, ◌⊎◌, not, nat_le, Bool, true, if◌then◌else◌}
use mathlib.Core.Option.{some}
use lib.ListN.{get_elem?}
use Rattle.pm_words.specs.Codes.{free_status, gone_status, empty_state, ready_state}
use Rattle.pm_words.specs.Locations.{Cached}
use Rattle.pm_words.specs.Offsets.{state_offset, stamp_offset}
use Rattle.version_lock.specs.Versions.{is_worn_word, IsWorn}
use Rattle.data_node.specs.Lists.{anchor_in}
use Rattle.call_stages.specs.Stages.{Idle}
use Rattle.index_law.specs.Facts.{IsListed}
use Rattle.index_law.specs.Worlds.{World, facts}
use Rattle.index_law.specs.Lawful.{Each}
use Rattle.index_layer_law.specs.search_layer.specs.Kept.{layer_of}
use Rattle.updater_law.specs.Covered.{IsCovered}
use Rattle.index_layer_law.specs.updater_row_law.specs.Columns.{line_count, line_field, volatile_field}
use Rattle.index_layer_law.specs.updater_row_law.specs.Turnings.{Turning}
use Rattle.updater.specs.declared.terms.Turned.{Turned}
use Rattle.updater.specs.Events.{how_many}
use Rattle.index_layer_law.specs.Layers.{Layered, IsLayered}
use Rattle.index_layer_law.specs.Laws.{IsAtRest}

-- The state of a log line, by its number among those of all callers, and the stamp of a node.
abbrev pub line_state : World → ℕ → ℕ
line_state w = line_field w.layout w.words Cached state_offset

abbrev pub stamp_in : World → ℕ → ℕ
stamp_in w = volatile_field w.layout w.words stamp_offset

-- Each log line is EMPTY or READY: none is OPEN.
abbrev pub AreEmptyOrReady : World → Type 0
AreEmptyOrReady w = (j : ℕ) → j < line_count w.layout → (line_state w j ≡ empty_state) ⊎ (line_state w j ≡ ready_state)

-- Nothing is in flight: each party is idle, each turn rests, and no log line is OPEN.
pub record IsIdle (z : Layered) : Type 0 where
  pub layered : IsLayered z
  pub parties : Each (λ p. p.stage ≡ Idle) z.whole.world.parties
  pub turns : (i : ℕ) (t : Turning) → get_elem? z.turns i ≡ some t → IsAtRest t
  pub lines : AreEmptyOrReady z.whole.world

-- The line was READY as the turn began.
abbrev pub is_ready : World → ℕ → Bool
is_ready w j = line_state w j == ready_state

-- A GONE node has the stamp that it had as the turn began, or, where it had none, the one that the turn gives.
abbrev pub stamp_then : World → ℕ → ℕ → ℕ
stamp_then w stamp n = if stamp_in w n == 0 then stamp else stamp_in w n

-- The lock of the node can't be taken any more.
abbrev pub is_worn : World → ℕ → Bool
is_worn w n = is_worn_word ((facts w).version n) w.generation

-- The turn makes the node FREE: it was GONE, its stamp is at most the greatest that the turn releases, and it wasn't
-- worn.
abbrev pub frees_node : World → ℕ → ℕ → ℕ → Bool
frees_node w stamp release n =
    (facts w).status n == gone_status && (nat_le (stamp_then w stamp n) release && not (is_worn w n))

abbrev pub status_then : World → ℕ → ℕ → ℕ → ℕ
status_then w stamp release n = if frees_node w stamp release n then free_status else (facts w).status n

-- The parties with all that they have, the map and the history are as before; so are the words of the nodes, and with
-- them the list. Only statuses may be others.
pub record KeepsNodes (before now : Layered) : Type 0 where
  pub whole : now.whole ≡ record (before.whole) {
    world = record (before.whole.world) { words = now.whole.world.words };
  }
  pub facts : facts now.whole.world ≡ record (facts before.whole.world) { status = (facts now.whole.world).status }

-- The search layer leads the anchor of each listed node to that node, and leads no other key.
abbrev pub LeadsExactly : World → Type 0
LeadsExactly w =
    IsCovered (IsListed (facts w)) (λ n. anchor_in ((facts w).now n)) (layer_of w.layout w.words) (λ key. ⊥)

-- The index as a turn began that gives this stamp and releases stamps up to this one, what the turn answered, and the
-- index then.
pub record IsLoneTurn (before : Layered) (stamp release : ℕ) (answer : Turned) (now : Layered) : Type 0 where
  pub idle : IsIdle now
  pub kept : KeepsNodes before now
  pub empty : (j : ℕ) → line_state now.whole.world j ≡ empty_state
  pub statuses : (n : ℕ) → n < before.whole.world.layout.nodes →
      (facts now.whole.world).status n ≡ status_then before.whole.world stamp release n
  pub stamps : (n : ℕ) → n < before.whole.world.layout.nodes → (facts now.whole.world).status n ≡ gone_status →
      stamp_in now.whole.world n ≡ stamp_then before.whole.world stamp n
  pub leads : LeadsExactly now.whole.world
  -- it emptied each READY line and left none; it counted the nodes that it made FREE, and knows whether any is
  pub applied : answer.applied ≡ how_many (is_ready before.whole.world) (line_count before.whole.world.layout)
  pub left : answer.left ≡ 0
  pub freed : answer.freed ≡ how_many (frees_node before.whole.world stamp release) before.whole.world.layout.nodes
  pub none_free : (answer.none_free ≡ true) ↔ ((n : ℕ) → n < before.whole.world.layout.nodes →
      (facts now.whole.world).status n ≢ free_status)

-- So a node that is GONE after it is worn, or has a stamp that the turn doesn't release.
abbrev pub GoneAreHeldBack : Type 0
GoneAreHeldBack = (before : Layered) (stamp release : ℕ) (answer : Turned) (now : Layered) (n : ℕ) →
    IsLoneTurn before stamp release answer now → n < before.whole.world.layout.nodes →
    (facts now.whole.world).status n ≡ gone_status →
    IsWorn ((facts now.whole.world).version n) now.whole.world.generation ⊎ (release < stamp_in now.whole.world n)
