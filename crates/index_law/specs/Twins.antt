-- What the durable twins of an index's words are between any two steps.
use Rattle.std.specs.Prelude.{◌≡◌, ◌≢◌, ℕ, ◌<◌, ◌≤◌, ◌⊎◌, List}
use Rattle.pm_words.specs.declared.layout.Layout.{Layout}
use Rattle.pm_words.specs.Locations.{Word, Header, Location, at}
use Rattle.pm_words.specs.Offsets.{bitmap_offset, next_offset, generation_offset}
use Rattle.version_lock.specs.Versions.{generation_of, IsFree}
use Rattle.data_node.specs.Spots.{Spot, Means}
use Rattle.image_rules.specs.Rules.{IsSpare}
use Rattle.call_stages.specs.Stages.{Held, Grip, Phase, Filling, Linked, Parted, Pace, Gathered, Joined, Gone, Stage}
use Rattle.call_stages.specs.Stages.{Idle, Saw, Wears, Reads, Holds, Eyes, Splits, Leaves, Meets, Joins, IsAmong}
use Rattle.call_stages.specs.Stages.{pended}
use Rattle.index_law.specs.Facts.{Facts, map_now, range_of, durable_spot, durable_version}

-- Each word is that of the one or of the other.
abbrev pub IsMix : Spot → Spot → Spot → Type 0
IsMix s t mix = (offset : ℕ) → (mix offset ≡ s offset) ⊎ (mix offset ≡ t offset)

-- What holds of the durable twins of a node that a call holds.
pub record IsBacked (l : Layout) (f : Facts) (durable : Spot) (n : ℕ) (h : Held) : Type 0 where
  -- all but the dirty words are durable
  pub clean : (offset : ℕ) → (IsAmong h.dirty offset → ⊥) → durable offset ≡ f.now n offset
  -- where the node stands in the list is durable
  pub fixed : (offset : ℕ) → 2 ≤ offset → offset ≤ 5 → durable offset ≡ f.now n offset
  -- whichever words become durable now, the twins mean the map, or the map with the call's change
  pub mixes : (mix : Spot) → IsMix durable (f.now n) mix →
      Means l.slots (range_of l f n) mix (map_now f) ⊎ Means l.slots (range_of l f n) mix (pended h.pending (map_now f))

-- All but the dirty words of a node are durable.
abbrev pub IsCleanBut : List (ℕ × ℕ) → Spot → Spot → Type 0
IsCleanBut dirty durable s = (offset : ℕ) → (IsAmong dirty offset → ⊥) → durable offset ≡ s offset

-- What holds of the durable twins of the two nodes that a split holds. The full node's are all durable until the
-- switch. Then its next may still be the one before, which is that of the fresh node; and after that its bitmap may
-- still be the one before.
abbrev pub IsBackedLeft : Layout → Facts → Spot → Grip → Grip → Phase → Type 0
IsBackedLeft l f durable left fresh (Filling lit) = (offset : ℕ) → durable offset ≡ f.now left.node offset
IsBackedLeft l f durable left fresh Linked =
    ((offset : ℕ) → offset ≢ next_offset → durable offset ≡ f.now left.node offset)
    × ((durable next_offset ≡ f.now left.node next_offset) ⊎ (durable next_offset ≡ f.now fresh.node next_offset))
IsBackedLeft l f durable left fresh Parted =
    ((offset : ℕ) → offset ≢ bitmap_offset → durable offset ≡ f.now left.node offset)
    × ((mix : Spot) → IsMix durable (f.now left.node) mix → Means l.slots (range_of l f left.node) mix (map_now f))

-- Of the fresh node they are all durable from the switch on.
abbrev pub IsBackedFresh : Facts → Spot → Grip → Phase → Type 0
IsBackedFresh f durable fresh (Filling lit) = Unit {0}
IsBackedFresh f durable fresh Linked = (offset : ℕ) → durable offset ≡ f.now fresh.node offset
IsBackedFresh f durable fresh Parted = (offset : ℕ) → durable offset ≡ f.now fresh.node offset

pub record BacksSplit (l : Layout) (f : Facts) (words : List ℕ) (left fresh : Grip) (phase : Phase) : Type 0 where
  pub left_clean : IsCleanBut left.dirty (durable_spot l words left.node) (f.now left.node)
  pub fresh_clean : IsCleanBut fresh.dirty (durable_spot l words fresh.node) (f.now fresh.node)
  pub left_backed : IsBackedLeft l f (durable_spot l words left.node) left fresh phase
  pub fresh_backed : IsBackedFresh f (durable_spot l words fresh.node) fresh phase

-- What holds of the durable twins of the left node of a merge. As it has the copies its bitmap may still be the one
-- before, and from the switch on, until that is durable, its next may still be the right node.
abbrev pub IsBackedJoin : Layout → Facts → Spot → Grip → Grip → Pace → Type 0
IsBackedJoin l f durable left right Gathered =
    ((offset : ℕ) → offset ≢ bitmap_offset → durable offset ≡ f.now left.node offset)
    × ((mix : Spot) → IsMix durable (f.now left.node) mix → Means l.slots (range_of l f left.node) mix (map_now f))
IsBackedJoin l f durable left right Joined =
    ((offset : ℕ) → offset ≢ next_offset → durable offset ≡ f.now left.node offset)
    × ((durable next_offset ≡ f.now left.node next_offset) ⊎ (durable next_offset ≡ right.node))
IsBackedJoin l f durable left right Gone = (offset : ℕ) → durable offset ≡ f.now left.node offset

-- The words of the right node are all durable.
pub record BacksJoin (l : Layout) (f : Facts) (words : List ℕ) (left right : Grip) (pace : Pace) : Type 0 where
  pub left_clean : IsCleanBut left.dirty (durable_spot l words left.node) (f.now left.node)
  pub right_backed : (offset : ℕ) → durable_spot l words right.node offset ≡ f.now right.node offset
  pub left_backed : IsBackedJoin l f (durable_spot l words left.node) left right pace

-- The same of the node that a stage holds, if it holds one.
abbrev pub BacksStage : Layout → Facts → List ℕ → Stage → Type 0
BacksStage l f words Idle = Unit {0}
BacksStage l f words (Saw n v w k) = Unit {0}
BacksStage l f words (Wears n v) = Unit {0}
BacksStage l f words (Reads n v sight told) = Unit {0}
BacksStage l f words (Holds n w h) = IsBacked l f (durable_spot l words n) n h
BacksStage l f words (Eyes n w h m v u free) = IsBacked l f (durable_spot l words n) n h
BacksStage l f words (Leaves left) = (offset : ℕ) → durable_spot l words left.node offset ≡ f.now left.node offset
BacksStage l f words (Splits left fresh phase) = BacksSplit l f words left fresh phase
BacksStage l f words (Meets n w h right) =
    IsBacked l f (durable_spot l words n) n h ×
    ((offset : ℕ) → durable_spot l words right.node offset ≡ f.now right.node offset)
BacksStage l f words (Joins h left right pace) = BacksJoin l f words left right pace

-- All words of a node whose version word is free are durable. It reads the words of the nodes, both twins.
abbrev pub AreDurable : Layout → ℕ → Facts → List ℕ → Type 0
AreDurable l g f words = (n : ℕ) → n < l.nodes → IsFree (f.version n) g → (offset : ℕ) →
    durable_spot l words n offset ≡ f.now n offset

-- No durable version word is of a later run. It reads the durable version words.
abbrev pub AreDurablyKnown : Layout → ℕ → List ℕ → Type 0
AreDurablyKnown l g words = (n : ℕ) → n < l.nodes → generation_of (durable_version l words n) ≤ g

-- The words in front of the nodes that are always 0: those that have no use.
abbrev pub IsBlank : Word → Type 0
IsBlank w = IsSpare w

-- One twin of the words in front of the nodes, but for those that the layout tells. It reads these words.
pub record IsFront (l : Layout) (g : ℕ) (words : List ℕ) (twin : Word → Location) : Type 0 where
  pub generation : at l words (twin (Header generation_offset)) ≡ g
  pub blank : (w : Word) → IsBlank w → at l words (twin w) ≡ 0
