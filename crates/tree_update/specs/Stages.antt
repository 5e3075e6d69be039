-- What is known of the words of the layer, in both twins, and of the marks, at each state of a change; and what a turn
-- leaves.
use Rattle.std.specs.Prelude.{◌≡◌, ◌≢◌, ℕ, ◌-◌, None, List}
use Rattle.pm_words.specs.declared.layout.Layout.{Layout}
use Rattle.pm_words.specs.declared.machine.Turn.{Turn}
use Rattle.pm_words.specs.declared.machine.Turn.TheVariants.{Go, Done}
use Rattle.pm_words.specs.Locations.{Cached, Durable, leaf_count}
use Rattle.pm_words.specs.Rows.{IsRow, acted, got}
use Rattle.radix_nodes.specs.declared.fill_leaf.FillLeaf.{FillLeaf}
use Rattle.radix_nodes.specs.declared.fill_cell.FillCell.{FillCell}
use Rattle.radix_nodes.specs.Cells.{children, words_of}
use Rattle.radix_nodes.specs.Changes.{HasTwoMore}
use Rattle.radix_nodes.specs.Fills.{lines_of}
use Rattle.layer_map.specs.Layers.{Layer, HasFew, changed_at, node_of}
use Rattle.tree_law.specs.Trees.{Leaf, byte_at}
use Rattle.tree_law.specs.Words.{LayerWords, Stored, tree_of, kind_of, cell_in, reference_of, LeafPart, part_reference}
use Rattle.tree_law.specs.Words.{Keeps}
use Rattle.tree_law.specs.Stages.{Marks, MarksTell}
use Rattle.tree_law.specs.Marking.{IsMarkSet}
use Rattle.tree_row.specs.Rows.{layer_words}
use Rattle.tree_row.specs.RowMarks.{row_marks}
use Rattle.layer_map.specs.Keys.{key_number}
use Rattle.tree_look.specs.declared.look.Spot.{Spot}
use Rattle.tree_look.specs.declared.look.Looked.TheVariants as looked
use Rattle.tree_look.specs.LookLaws.{IsLooked, look_turn}
use Rattle.tree_change.specs.declared.finish.Finish.{Finish}
use Rattle.tree_change.specs.declared.finish.FinishAt.{FinishAt}
use Rattle.tree_change.specs.declared.finish.FinishAt.TheVariants as finish_at
use Rattle.tree_change.specs.Takes.{take_turn, IsTaken, IsUnreached}
use Rattle.tree_change.specs.FindRooms.{find_room_turn}
use Rattle.tree_change.specs.Rooms.{IsRoom}
use Rattle.tree_change.specs.Reads.{read_turn, IsReadOf}
use Rattle.tree_change.specs.Counts.{count_turn}
use Rattle.tree_change.specs.Others.{IsCounted}
use Rattle.tree_change.specs.Endings.{SureCan, SureEnding, ending_at, target_word}
use Rattle.tree_change.specs.Fillings.{SureFilling, stage_at, leaf_words, cell_part}
use Rattle.tree_update.specs.declared.change.Change.{Change}
use Rattle.tree_update.specs.declared.change.ChangeAt.{ChangeAt}
use Rattle.tree_update.specs.declared.change.ChangeAt.TheVariants as at
use Rattle.tree_update.specs.declared.change.NewCell.{NewCell}
use Rattle.tree_update.specs.declared.change.Site.{Site}
use Rattle.tree_update.specs.declared.change.Site.TheVariants as site
use Rattle.tree_update.specs.declared.change.Ended.{Ended}
use Rattle.tree_update.specs.declared.change.Ended.TheVariants.{Made, NoRoom, Wrong}
use Rattle.tree_update.specs.Changes.{change_asks, change_turned, IsChange}
use Rattle.tree_update.specs.Knowns.{Answers, Rests, IsSited, HasLeaf, IsWanted}

-- What a change is to do: which key it leads to which node word, and the layer that it makes.
pub record Aim : Type 0 where
  pub key : List ℕ
  pub word : ℕ

abbrev pub made_of : Aim → Layer → Layer
made_of aim before = changed_at before (key_number aim.key) (node_of aim.word)

-- A leaf is being filled: as it began the words were these, and the marks told what they reach.
pub record FillsLeaf (count nodes : ℕ) (before : Layer) (key : ℕ) (fill : FillLeaf) (place : Site) (w s : LayerWords)
    (m : Marks) : Type 0 where
  pub begun : LayerWords
  pub keeps : Keeps count nodes before begun
  pub sure : SureFilling count nodes before begun (LeafPart fill.number) 1 (leaf_words fill) (stage_at 1 fill.at) w s
  pub sited : IsSited begun key place
  pub told : Marks
  pub tells : MarksTell count told begun
  pub marked : IsMarkSet told m (Leaf fill.number) 1
  pub unreached : IsUnreached begun (LeafPart fill.number)

-- A cell is, behind the leaf. As it began the words were these in both twins, and the leaf was there, for which this
-- cell is wanted.
pub record CellStart (count nodes : ℕ) (before : Layer) (aim : Aim) (new : NewCell) : Type 0 where
  pub sets : aim.word ≢ 0
  pub leaf : ℕ
  pub begun : LayerWords
  pub durable : LayerWords
  pub one : Marks
  pub has : HasLeaf count nodes before (key_number aim.key) (aim.word - 1) leaf begun durable one
  pub wanted : IsWanted begun aim.key leaf new

pub record FillsCell (count nodes : ℕ) (before : Layer) (aim : Aim) (fill : FillCell) (spot : Spot) (free : ℕ)
    (w s : LayerWords) (m : Marks) : Type 0 where
  pub start : CellStart count nodes before aim (record { cell = fill.cell; spot = spot; free = free })
  pub sure : SureFilling count nodes before start.begun (cell_part fill) (lines_of fill.cell.kind)
      (words_of fill.cell) (stage_at (lines_of fill.cell.kind) fill.at) w s
  pub marked : IsMarkSet start.one m (part_reference (cell_part fill)) 1
  pub unreached : IsUnreached start.begun (cell_part fill)

-- The marks of what is free go, one after another; then they tell what is reached.
abbrev pub MarksEnd : ℕ → ℕ → ℕ → LayerWords → Marks → Type 0
MarksEnd count free next w m =
    (free ≡ 0 → MarksTell count m w) ×
    (free ≢ 0 → next ≡ 0 → (m' : Marks) → IsMarkSet m m' (reference_of free) 0 → MarksTell count m' w) ×
    (free ≢ 0 → next ≢ 0 → (one m' : Marks) → IsMarkSet m one (reference_of free) 0 →
    IsMarkSet one m' (reference_of next) 0 → MarksTell count m' w)

-- of the words that the stores to come make
abbrev pub MarksAt : ℕ → Finish → FinishAt → LayerWords → Marks → Type 0
MarksAt count f finish_at.Quiet w m = (v v' : LayerWords) → Stored w v (target_word f.quiet.target) f.quiet.word →
    Stored v v' (target_word f.switch.target) f.switch.word → MarksEnd count f.free f.next v' m
MarksAt count f (finish_at.QuietFence fence) w m = (v : LayerWords) →
    Stored w v (target_word f.switch.target) f.switch.word → MarksEnd count f.free f.next v m
MarksAt count f finish_at.Switch w m = (v : LayerWords) →
    Stored w v (target_word f.switch.target) f.switch.word → MarksEnd count f.free f.next v m
MarksAt count f (finish_at.SwitchFence fence) w m = MarksEnd count f.free f.next w m
MarksAt count f (finish_at.Unmark reference) w m =
    (m' : Marks) → IsMarkSet m m' (reference_of reference) 0 → MarksEnd count f.free f.next w m'

abbrev pub SureAt : ℕ → ℕ → Layer → Aim → ChangeAt → LayerWords → LayerWords → Marks → Type 0
SureAt count nodes before aim (at.Looking look) w s m =
    Rests count nodes before w s m × Answers (look_turn w) (IsLooked w (key_number aim.key)) look
SureAt count nodes before aim (at.TakingLeaf take place) w s m =
    Rests count nodes before w s m × IsSited w (key_number aim.key) place ×
    Answers (take_turn m) (IsTaken count m 1) take
SureAt count nodes before aim (at.FillingLeaf fill place) w s m =
    FillsLeaf count nodes before (key_number aim.key) fill place w s m
SureAt count nodes before aim (at.FindingRoom find spot leaf) w s m =
    (aim.word ≢ 0) × HasLeaf count nodes before (key_number aim.key) (aim.word - 1) leaf w s m ×
    IsSited w (key_number aim.key) (site.Under spot find.cell find.byte) ×
    Answers (find_room_turn w) (IsRoom (kind_of find.cell) (cell_in w find.cell) find.byte) find
SureAt count nodes before aim (at.ReadingCell read spot byte leaf) w s m =
    (aim.word ≢ 0) × HasLeaf count nodes before (key_number aim.key) (aim.word - 1) leaf w s m ×
    IsSited w (key_number aim.key) (site.Under spot read.reference byte) ×
    Answers (read_turn w) (IsReadOf w read.reference) read
SureAt count nodes before aim (at.TakingCell take new) w s m =
    (aim.word ≢ 0) × (leaf : ℕ) × HasLeaf count nodes before (key_number aim.key) (aim.word - 1) leaf w s m ×
    IsWanted w aim.key leaf new × Answers (take_turn m) (IsTaken count m new.cell.kind) take
SureAt count nodes before aim (at.FillingCell fill spot free) w s m =
    FillsCell count nodes before aim fill spot free w s m
SureAt count nodes before aim (at.ReadingDepth leaf outer inner) w s m =
    (aim.word ≡ 0) × Rests count nodes before w s m × IsLooked w (key_number aim.key) (looked.Key outer inner leaf)
SureAt count nodes before aim (at.Counting count' leaf outer inner) w s m =
    (aim.word ≡ 0) × Rests count nodes before w s m × IsLooked w (key_number aim.key) (looked.Key outer inner leaf) ×
    (count'.byte ≡ byte_at ((tree_of w).depth inner.cell) (key_number aim.key)) ×
    Answers (count_turn w) (IsCounted (kind_of count'.cell) (cell_in w count'.cell) count'.byte) count'
SureAt count nodes before aim (at.ReadingIndex cell byte leaf) w s m =
    (aim.word ≡ 0) × Rests count nodes before w s m × (outer : Spot) × (inner : Spot) ×
    IsLooked w (key_number aim.key) (looked.Key outer inner leaf) × (inner.cell ≡ cell) ×
    (byte ≡ byte_at ((tree_of w).depth inner.cell) (key_number aim.key)) ×
    HasTwoMore (children (kind_of inner.cell) (cell_in w inner.cell)) byte
SureAt count nodes before aim (at.Finishing finish) w s m =
    SureEnding count nodes before (made_of aim before) (ending_at finish finish.at) w s ×
    MarksAt count finish finish.at w m

-- What a turn leaves: what its next state knows; or the layer made, with all words durable and the marks right; or the
-- layer before, which has more keys than nodes then. It is never out of order.
abbrev pub SureEnd : ℕ → ℕ → Layer → Aim → Ended → LayerWords → LayerWords → Marks → Type 0
SureEnd count nodes before aim Made w s m = Rests count nodes (made_of aim before) w s m
SureEnd count nodes before aim NoRoom w s m =
    SureCan count nodes before w s × (HasFew nodes before → ⊥) × (aim.word ≢ 0)
SureEnd count nodes before aim Wrong w s m = ⊥

abbrev pub SureAfter : ℕ → ℕ → Layer → Aim → Turn Change Ended → LayerWords → LayerWords → Marks → Type 0
SureAfter count nodes before aim (Go next) w s m = SureAt count nodes before aim next.at w s m
SureAfter count nodes before aim (Done ended) w s m = SureEnd count nodes before aim ended w s m

-- Of a row.
abbrev pub SureIn : Layout → Layer → Aim → ChangeAt → List ℕ → Type 0
SureIn l before aim part words =
    SureAt (leaf_count l) l.nodes before aim part (layer_words l words Cached) (layer_words l words Durable)
    (row_marks l words)

abbrev pub SureInAfter : Layout → Layer → Aim → Turn Change Ended → List ℕ → Type 0
SureInAfter l before aim turn words =
    SureAfter (leaf_count l) l.nodes before aim turn (layer_words l words Cached) (layer_words l words Durable)
    (row_marks l words)

abbrev pub aim_of : Change → Aim
aim_of change = record { key = change.key; word = change.word }

-- an unset is of another key than zero, which the layer leads somewhere
abbrev pub IsRooted : Aim → Layer → Type 0
IsRooted aim before = aim.word ≡ 0 → (key_number aim.key ≢ 0) × (before 0 ≢ None)

-- Each action of a change keeps it.
abbrev pub ChangeActs : Type 0
ChangeActs = (before : Layer) (change : Change) (words : List ℕ) → IsChange change → IsRow change.layout words →
    IsRooted (aim_of change) before → SureIn change.layout before (aim_of change) change.at words →
    SureInAfter change.layout before (aim_of change)
    (change_turned change (got change.layout words (change_asks change)))
    (acted change.layout words (change_asks change))
