-- That a look ends, and what it finds where the words stay as they are.
use Rattle.std.specs.Prelude.{◌≡◌, ◌≢◌, ℕ, ◌+◌, ◌^◌, ◌<◌, ◌≤◌, ◌==◌, if◌then◌else◌, List, IsSomeAnd}
use Rattle.pm_words.specs.declared.layout.Layout.{Layout}
use Rattle.pm_words.specs.declared.machine.Turn.{Turn}
use Rattle.pm_words.specs.declared.machine.Turn.TheVariants.{Go, Done}
use Rattle.pm_words.specs.Layouts.{IsLayout}
use Rattle.pm_words.specs.Locations.{leaf_count}
use Rattle.radix_nodes.specs.Keys.{key_bytes}
use Rattle.radix_nodes.specs.Cells.{IsReference}
use Rattle.tree_law.specs.Trees.{Nothing, Leaf, Cell, depth_of, low, byte_at}
use Rattle.tree_law.specs.Switches.{Place, Root, Entry, reference_at}
use Rattle.tree_law.specs.Paths.{Comes, PartsAt}
use Rattle.tree_law.specs.Words.{LayerWord, RootWord, CellWord, LayerWords, word_in, kind_of, number_of}
use Rattle.tree_law.specs.Words.{reference_of, cell_in, tree_of, IsLawful, Stored, IsSwitchStore}
use Rattle.layer_map.specs.Keys.{key_number, IsKey}
use Rattle.tree_floor.specs.Floors.{IsCellOf}
use Rattle.tree_floor.specs.Telling.{answer_in}
use Rattle.tree_look.specs.declared.look.Look.{Look}
use Rattle.tree_look.specs.declared.look.Spot.{Spot}
use Rattle.tree_look.specs.declared.look.Looked.{Looked}
use Rattle.tree_look.specs.declared.look.Looked.TheVariants as looked
use Rattle.tree_look.specs.Looks.{look_word, look_starts, look_turned, IsSpot, IsLook, look_takes, look_left, look_most}
use Rattle.tree_look.specs.FindLaws.{IsAt}

-- what it answers is in range
abbrev pub IsInRange : Layout → Looked → Type 0
IsInRange l (looked.Key outer inner leaf) = IsSpot l outer × IsSpot l inner × (leaf < leaf_count l)
IsInRange l (looked.Nothing spot cell depth) = IsSpot l spot × IsCellOf l cell × (depth < key_bytes)
IsInRange l (looked.Parts spot reference depth byte) = IsSpot l spot × IsReference reference × (byte < 256)
IsInRange l looked.Wrong = Unit {0}

-- It stays one, and reads less and less, whatever it is told.
abbrev pub LookAfter : Layout → List ℕ → ℕ → Turn Look Looked → Type 0
LookAfter l key left (Go look) = IsLook look × (look.layout ≡ l) × (look.key ≡ key) × (look_left look < left)
LookAfter l key left (Done answer) = IsInRange l answer

abbrev pub LookStays : Type 0
LookStays = (look : Look) (got : ℕ) → look_takes look got →
    LookAfter look.layout look.key (look_left look) (look_turned look got)

-- the word of a spot
abbrev pub spot_word : Spot → LayerWord
spot_word spot =
    if spot.cell == 0 then RootWord else CellWord (kind_of spot.cell) (number_of spot.cell) spot.offset

-- the spot is that of the place: the root's, or the word of the cell in which the reference stands
abbrev pub StandsAt : LayerWords → Spot → ℕ → Place → Type 0
StandsAt w spot reference Root = (spot.cell ≡ 0) × (spot.high ≡ 0)
StandsAt w spot reference (Entry x b) =
    (spot.cell ≡ x) × (x ≢ 0) × IsAt (kind_of x) (cell_in w x) b spot.offset spot.high reference

-- The reference stands at this place of the key's way, in this spot. A store of another one there, behind what the word
-- has above it, is a switch store at the place; and so is one of 0, where the place is of a cell without an index.
pub record IsHeld (w : LayerWords) (key : ℕ) (spot : Spot) (reference : ℕ) (place : Place) : Type 0 where
  pub comes : Comes (tree_of w) key place
  pub at : reference_at (tree_of w) place ≡ reference_of reference
  pub some_reference : reference ≢ 0
  pub stands : StandsAt w spot reference place
  pub word : word_in w (spot_word spot) ≡ spot.high + reference
  pub store : (w' : LayerWords) (other : ℕ) → other ≢ 0 → other < 2 ^ 32 →
      Stored w w' (spot_word spot) (spot.high + other) → IsSwitchStore w w' place other
  pub clears : (x b : ℕ) → place ≡ Entry x b → kind_of x ≢ 4 → (w' : LayerWords) → Stored w w' (spot_word spot) 0 →
      IsSwitchStore w w' (Entry x b) 0

-- the cell of a place, where it has one, is held itself
pub data IsOuter (w : LayerWords) (key : ℕ) (outer inner : Spot) : Place → Type 0 where
  at_root : IsOuter w key outer inner Root
  in_cell : {b : ℕ} {place : Place} → IsHeld w key outer inner.cell place →
      IsOuter w key outer inner (Entry inner.cell b)

-- What it finds: the key's leaf; a cell of its way without a child under its byte; or something from which it parts.
abbrev pub IsLooked : LayerWords → ℕ → Looked → Type 0
IsLooked w key (looked.Key outer inner leaf) =
    ((tree_of w).key leaf ≡ key) ×
    ((place : Place) × IsHeld w key inner (2 ^ 16 + leaf) place × IsOuter w key outer inner place) ×
    (reference_of (2 ^ 16 + leaf) ≡ Leaf leaf)
IsLooked w key (looked.Nothing spot cell depth) =
    ((place : Place) × IsHeld w key spot cell place) × (depth ≡ (tree_of w).depth cell) ×
    Comes (tree_of w) key (Entry cell (byte_at depth key)) × ((tree_of w).child cell (byte_at depth key) ≡ Nothing) ×
    (reference_of cell ≡ Cell cell)
IsLooked w key (looked.Parts spot reference depth byte) =
    ((place : Place) × IsHeld w key spot reference place) ×
    PartsAt depth key (low (tree_of w) (reference_of reference)) ×
    (depth < depth_of (tree_of w) (reference_of reference)) ×
    (byte ≡ byte_at depth (low (tree_of w) (reference_of reference)))
IsLooked w key looked.Wrong = ⊥

-- its turn, told these words as it asks for them
abbrev pub look_turn : LayerWords → Look → Turn Look Looked
look_turn w look = look_turned look (word_in w (look_word look.at look.key))

-- So long as the words stay as they are, it finds the end of its key's way.
abbrev pub LookIsExact : Type 0
LookIsExact = (l : Layout) (key : List ℕ) (w : LayerWords) (times : ℕ) → look_most ≤ times → IsLayout l → IsKey key →
    ((p : LayerWord) → word_in w p < 2 ^ 64) → IsLawful (leaf_count l) l.nodes w →
    IsSomeAnd (answer_in times (look_turn w) (look_starts l key)) (IsLooked w (key_number key))
