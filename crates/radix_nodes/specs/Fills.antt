-- Filling a leaf or a cell that nothing leads to: its words are stored, then its lines are made durable.
use Rattle.std.specs.Prelude.{ℕ, ◌+◌, ◌-◌, ◌*◌, ◌^◌, ◌<◌, ◌≤◌, ◌==◌, nat_lt, if◌then◌else◌, List, slice_index, Option}
use Rattle.std.specs.Prelude.{Some, None}
use Rattle.pm_words.specs.declared.layout.Layout.{Layout}
use Rattle.pm_words.specs.declared.action.Action.{Action}
use Rattle.pm_words.specs.declared.action.Action.TheVariants as action
use Rattle.pm_words.specs.declared.machine.Turn.{Turn}
use Rattle.pm_words.specs.declared.machine.Turn.TheVariants.{Go, Done}
use Rattle.pm_words.specs.declared.fence.Fence.{Fence}
use Rattle.pm_words.specs.Fences.{IsFence, fence_start, fence_asks, fence_next, fence_left}
use Rattle.pm_words.specs.Layouts.{IsLayout}
use Rattle.pm_words.specs.Locations.{Leaf, Cell, Cached, address_of, leaf_count}
use Rattle.pm_words.specs.Offsets.{leaf_node_offset}
use Rattle.radix_nodes.specs.declared.cell.Cell as cells
use Rattle.radix_nodes.specs.declared.filling.Filling.{Filling}
use Rattle.radix_nodes.specs.declared.filling.Filling.TheVariants.{Store, Drain}
use Rattle.radix_nodes.specs.declared.fill_leaf.FillLeaf.{FillLeaf}
use Rattle.radix_nodes.specs.declared.fill_cell.FillCell.{FillCell}
use Rattle.radix_nodes.specs.Cells.{words_of}
use Rattle.radix_nodes.specs.Keys.{KeyWords}

-- The filling of a part of so many lines.

abbrev pub filling_start : Filling
filling_start = Store 0

-- the offset of its word
abbrev pub filling_offset : Filling → ℕ
filling_offset (Store offset) = offset
filling_offset (Drain line fence) = 8 * line + fence.word

-- what it asks for, where this is the address of its word, and this is to stand there
abbrev pub filling_asks : ℕ → ℕ → Filling → Action
filling_asks address value (Store offset) = action.Store address value
filling_asks address value (Drain line fence) = fence_asks address fence

abbrev pub next_line : ℕ → ℕ → Option Fence → Option Filling
next_line lines line (Some fence) = Some (Drain line fence)
next_line lines line None = if nat_lt (line + 1) lines then Some (Drain (line + 1) fence_start) else None

-- what it is once it is told a number; None where all is durable
abbrev pub filling_next : ℕ → Filling → ℕ → Option Filling
filling_next lines (Store offset) got =
    if nat_lt (offset + 1) (8 * lines) then Some (Store (offset + 1)) else Some (Drain 0 fence_start)
filling_next lines (Drain line fence) got = next_line lines line (fence_next fence got)

abbrev pub IsFilling : ℕ → Filling → Type 0
IsFilling lines (Store offset) = offset < 8 * lines
IsFilling lines (Drain line fence) = (line < lines) × IsFence fence

abbrev pub filling_left : ℕ → Filling → ℕ
filling_left lines (Store offset) = 8 * lines - offset + 16 * lines
filling_left lines (Drain line fence) = 16 * (lines - (line + 1)) + fence_left fence

-- A leaf: the words of its key, and its node and one.

abbrev pub leaf_value : KeyWords → ℕ → ℕ → ℕ
leaf_value key node offset = if nat_lt offset 3 then key offset else if offset == leaf_node_offset then node + 1 else 0

abbrev pub fill_leaf_start : Layout → ℕ → List ℕ → ℕ → FillLeaf
fill_leaf_start layout number key node =
    record { layout = layout; number = number; key = key; node = node; at = filling_start }

abbrev pub leaf_address : FillLeaf → ℕ → ℕ
leaf_address m offset = address_of m.layout (Cached (Leaf m.number offset))

abbrev pub fill_leaf_asks : FillLeaf → Action
fill_leaf_asks m = filling_asks (leaf_address m (filling_offset m.at))
    (leaf_value (slice_index m.key) m.node (filling_offset m.at)) m.at

abbrev pub fill_leaf_goes : FillLeaf → Option Filling → Turn FillLeaf (Unit {0})
fill_leaf_goes m (Some at) = Go (record m { at = at })
fill_leaf_goes m None = Done tt

abbrev pub fill_leaf_turned : FillLeaf → ℕ → Turn FillLeaf (Unit {0})
fill_leaf_turned m got = fill_leaf_goes m (filling_next 1 m.at got)

pub record IsFillLeaf (m : FillLeaf) : Type 0 where
  pub layout : IsLayout m.layout
  pub number : m.number < leaf_count m.layout
  pub key : (k : ℕ) → slice_index m.key k < 2 ^ 64
  pub node : m.node < m.layout.nodes
  pub here : IsFilling 1 m.at

abbrev pub fill_leaf_takes : FillLeaf → ℕ → Type 0
fill_leaf_takes m got = IsFillLeaf m × (got < 2 ^ 64)

abbrev pub fill_leaf_left : FillLeaf → ℕ
fill_leaf_left m = filling_left 1 m.at

-- A cell: its words.

abbrev pub lines_of : ℕ → ℕ
lines_of kind = if kind == 2 then 1 else if kind == 3 then 3 else if kind == 4 then 11 else 33

abbrev pub fill_cell_start : Layout → ℕ → cells.Cell → FillCell
fill_cell_start layout number cell = record { layout = layout; number = number; cell = cell; at = filling_start }

abbrev pub cell_address : FillCell → ℕ → ℕ
cell_address m offset = address_of m.layout (Cached (Cell m.cell.kind m.number offset))

abbrev pub fill_cell_asks : FillCell → Action
fill_cell_asks m =
    filling_asks (cell_address m (filling_offset m.at)) (words_of m.cell (filling_offset m.at)) m.at

abbrev pub fill_cell_goes : FillCell → Option Filling → Turn FillCell (Unit {0})
fill_cell_goes m (Some at) = Go (record m { at = at })
fill_cell_goes m None = Done tt

abbrev pub fill_cell_turned : FillCell → ℕ → Turn FillCell (Unit {0})
fill_cell_turned m got = fill_cell_goes m (filling_next (lines_of m.cell.kind) m.at got)

pub record IsFillCell (m : FillCell) : Type 0 where
  pub layout : IsLayout m.layout
  pub kind : (2 ≤ m.cell.kind) × (m.cell.kind ≤ 5)
  pub number : m.number < leaf_count m.layout
  pub words : (o : ℕ) → words_of m.cell o < 2 ^ 64
  pub here : IsFilling (lines_of m.cell.kind) m.at

abbrev pub fill_cell_takes : FillCell → ℕ → Type 0
fill_cell_takes m got = IsFillCell m × (got < 2 ^ 64)

abbrev pub fill_cell_left : FillCell → ℕ
fill_cell_left m = filling_left (lines_of m.cell.kind) m.at
