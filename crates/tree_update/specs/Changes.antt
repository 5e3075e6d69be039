-- Leading one key of the tree to a node, or nowhere, part by part.
use Rattle.std.specs.Prelude.{◌≡◌, ◌≢◌, ℕ, ◌+◌, ◌-◌, ◌*◌, ◌/◌, ◌%◌, ◌^◌, ◌<◌, ◌≤◌, ◌==◌, ◌||◌, nat_le, if◌then◌else◌}
use Rattle.std.specs.Prelude.{List, slice_index}
use Rattle.pm_words.specs.declared.layout.Layout.{Layout}
use Rattle.pm_words.specs.declared.action.Action.{Action}
use Rattle.pm_words.specs.declared.action.Action.TheVariants.{Load}
use Rattle.pm_words.specs.declared.machine.Turn.{Turn}
use Rattle.pm_words.specs.declared.machine.Turn.TheVariants.{Go, Done}
use Rattle.pm_words.specs.Layouts.{IsLayout}
use Rattle.pm_words.specs.Locations.{leaf_count, kind_words}
use Rattle.pm_words.specs.Offsets.{depth_offset}
use Rattle.cat_key.specs.declared.TheConstants.{WORDS}
use Rattle.radix_nodes.specs.declared.cell.Cell as cells
use Rattle.radix_nodes.specs.declared.fill_leaf.FillLeaf.{FillLeaf}
use Rattle.radix_nodes.specs.declared.fill_cell.FillCell.{FillCell}
use Rattle.radix_nodes.specs.Bytes.{byte_set}
use Rattle.radix_nodes.specs.Keys.{key_bytes}
use Rattle.radix_nodes.specs.Cells.{entry_of, IsReference, words_of}
use Rattle.radix_nodes.specs.Making.{Fits, prefix_word, pair_of, larger_of}
use Rattle.radix_nodes.specs.Fills.{fill_leaf_start, fill_leaf_asks, fill_leaf_turned, IsFillLeaf, fill_leaf_left}
use Rattle.radix_nodes.specs.Fills.{fill_cell_start, fill_cell_asks, fill_cell_turned, IsFillCell, fill_cell_left}
use Rattle.tree_law.specs.Trees.{byte_at}
use Rattle.tree_law.specs.Words.{kind_of}
use Rattle.tree_row.specs.Rows.{layer_address}
use Rattle.layer_map.specs.Keys.{key_number, IsKey}
use Rattle.tree_floor.specs.Floors.{cell_word, IsCellOf}
use Rattle.tree_look.specs.declared.look.Look.{Look}
use Rattle.tree_look.specs.declared.look.Spot.{Spot}
use Rattle.tree_look.specs.declared.look.Looked.{Looked}
use Rattle.tree_look.specs.declared.look.Looked.TheVariants as looked
use Rattle.tree_look.specs.Looks.{look_starts, look_asks, look_turned, IsLook, IsSpot, look_left, look_most}
use Rattle.tree_change.specs.declared.take.Take.{Take}
use Rattle.tree_change.specs.declared.take.Taken.{Taken}
use Rattle.tree_change.specs.declared.take.Taken.TheVariants as taken
use Rattle.tree_change.specs.declared.find_room.FindRoom.{FindRoom}
use Rattle.tree_change.specs.declared.room.Room.{Room}
use Rattle.tree_change.specs.declared.room.Room.TheVariants as room
use Rattle.tree_change.specs.declared.read_cell.ReadCell.{ReadCell}
use Rattle.tree_change.specs.declared.count.Count.{Count}
use Rattle.tree_change.specs.declared.others.Counted.{Counted}
use Rattle.tree_change.specs.declared.others.Counted.TheVariants as counts_as
use Rattle.tree_change.specs.declared.finish.Target.{Target}
use Rattle.tree_change.specs.declared.finish.Target.TheVariants as target
use Rattle.tree_change.specs.declared.finish.Finish.{Finish}
use Rattle.tree_change.specs.Begins.{spot_target}
use Rattle.tree_change.specs.Takes.{take_starts, take_asks, take_turned, IsTake, take_left}
use Rattle.tree_change.specs.FindRooms.{find_room_starts, find_room_asks, find_room_turned, IsFindRoom, find_room_left}
use Rattle.tree_change.specs.Reads.{read_starts, read_asks, read_turned, IsReadCell, read_left}
use Rattle.tree_change.specs.Counts.{count_starts, count_asks, count_turned, IsCount, count_left}
use Rattle.tree_change.specs.Finishes.{finish_starts, quiet_starts, finish_asks, finish_turned, IsFinish, finish_left}
use Rattle.tree_change.specs.Finishes.{IsMarked}
use Rattle.tree_update.specs.declared.change.Change.{Change}
use Rattle.tree_update.specs.declared.change.ChangeAt.{ChangeAt}
use Rattle.tree_update.specs.declared.change.ChangeAt.TheVariants as at
use Rattle.tree_update.specs.declared.change.Site.{Site}
use Rattle.tree_update.specs.declared.change.Site.TheVariants as site
use Rattle.tree_update.specs.declared.change.NewCell.{NewCell}
use Rattle.tree_update.specs.declared.change.Ended.{Ended}
use Rattle.tree_update.specs.declared.change.Ended.TheVariants.{Made, NoRoom, Wrong}

abbrev pub change_starts : Layout → List ℕ → ℕ → Change
change_starts l key word = record { layout = l; key = key; word = word; at = at.Looking (look_starts l key) }

-- What it asks for.
abbrev pub change_at_asks : Layout → ChangeAt → Action
change_at_asks l (at.Looking look) = look_asks look
change_at_asks l (at.TakingLeaf take site) = take_asks take
change_at_asks l (at.FillingLeaf fill site) = fill_leaf_asks fill
change_at_asks l (at.FindingRoom find spot leaf) = find_room_asks find
change_at_asks l (at.ReadingCell read spot byte leaf) = read_asks read
change_at_asks l (at.TakingCell take new) = take_asks take
change_at_asks l (at.FillingCell fill spot free) = fill_cell_asks fill
change_at_asks l (at.ReadingDepth leaf outer inner) = Load (layer_address l (cell_word inner.cell depth_offset))
change_at_asks l (at.Counting count leaf outer inner) = count_asks count
change_at_asks l (at.ReadingIndex cell byte leaf) = Load (layer_address l (cell_word cell (8 + byte / 8)))
change_at_asks l (at.Finishing finish) = finish_asks finish

abbrev pub change_asks : Change → Action
change_asks change = change_at_asks change.layout change.at

-- What it is once it is told a number.

abbrev pub change_to : Change → ChangeAt → Turn Change Ended
change_to change at = Go (record change { at = at })

-- it ends by this store, behind which what these references lead to is free
abbrev pub change_finishes : Change → Target → ℕ → ℕ → ℕ → Turn Change Ended
change_finishes change target word free next =
    change_to change
    (at.Finishing (finish_starts change.layout (record { target = target; word = word }) free next))

abbrev pub leaf_reference : ℕ → ℕ
leaf_reference leaf = 2 ^ 16 + leaf

-- the way of the key has ended

abbrev pub no_leaf : Change → Site → Turn Change Ended
no_leaf change site =
    if change.word == 0 then Done Made else change_to change (at.TakingLeaf (take_starts change.layout 1) site)

abbrev pub at_leaf : Change → Spot → Spot → ℕ → Turn Change Ended
at_leaf change outer inner leaf =
    if change.word == 0
    then (if inner.cell == 0 then Done Wrong else change_to change (at.ReadingDepth leaf outer inner))
    else change_finishes change (target.Leaf leaf WORDS) change.word 0 0

abbrev pub has_looked : Change → Looked → Turn Change Ended
has_looked change (looked.Key outer inner leaf) = at_leaf change outer inner leaf
has_looked change (looked.Nothing spot cell depth) =
    no_leaf change (site.Under spot cell (byte_at depth (key_number change.key)))
has_looked change (looked.Parts spot reference depth byte) =
    if nat_le key_bytes depth || byte == byte_at depth (key_number change.key) then Done Wrong
    else no_leaf change (site.Beside spot reference depth byte)
has_looked change looked.Wrong = Done Wrong

abbrev pub look_goes : Change → Turn Look Looked → Turn Change Ended
look_goes change (Go look) = change_to change (at.Looking look)
look_goes change (Done looked) = has_looked change looked

abbrev pub looks : Change → Look → ℕ → Turn Change Ended
looks change look got = look_goes change (look_turned look got)

-- a leaf for the key

abbrev pub leaf_goes : Change → Site → Turn Take Taken → Turn Change Ended
leaf_goes change site (Go take) = change_to change (at.TakingLeaf take site)
leaf_goes change site (Done (taken.One number)) =
    change_to change (at.FillingLeaf (fill_leaf_start change.layout number change.key (change.word - 1)) site)
leaf_goes change site (Done taken.Absent) = Done NoRoom

abbrev pub takes_leaf : Change → Take → Site → ℕ → Turn Change Ended
takes_leaf change take site got = leaf_goes change site (take_turned take got)

abbrev pub wants_cell : Change → NewCell → Turn Change Ended
wants_cell change new = change_to change (at.TakingCell (take_starts change.layout new.cell.kind) new)

-- the cell for the leaf and what is at its site
abbrev pub pair_cell : List ℕ → ℕ → ℕ → ℕ → ℕ → cells.Cell
pair_cell key leaf reference depth byte =
    pair_of depth (prefix_word depth (slice_index key)) (record { byte = byte; reference = reference })
    (record { byte = byte_at depth (key_number key); reference = leaf_reference leaf })

abbrev pub leaf_filled : Change → ℕ → Site → Turn Change Ended
leaf_filled change leaf (site.Under spot cell byte) =
    if kind_of cell == 5 then change_finishes change (target.Cell cell (8 + byte)) (leaf_reference leaf) 0 0
    else change_to change (at.FindingRoom (find_room_starts change.layout cell byte) spot leaf)
leaf_filled change leaf (site.Beside spot reference depth byte) =
    wants_cell change
    (record { cell = pair_cell change.key leaf reference depth byte; spot = spot; free = 0 })

abbrev pub fill_leaf_goes : Change → Site → ℕ → Turn FillLeaf (Unit {0}) → Turn Change Ended
fill_leaf_goes change site leaf (Go fill) = change_to change (at.FillingLeaf fill site)
fill_leaf_goes change site leaf (Done answer) = leaf_filled change leaf site

abbrev pub fills_leaf : Change → FillLeaf → Site → ℕ → Turn Change Ended
fills_leaf change fill site got = fill_leaf_goes change site fill.number (fill_leaf_turned fill got)

-- room for it in a cell

abbrev pub room_found : Change → FindRoom → Spot → ℕ → Room → Turn Change Ended
room_found change find spot leaf (room.Entry offset) =
    change_finishes change (target.Cell find.cell offset) (entry_of find.byte (leaf_reference leaf)) 0 0
room_found change find spot leaf (room.Place place index) =
    change_to change (at.Finishing (quiet_starts change.layout
    (record { target = target.Cell find.cell (40 + place); word = leaf_reference leaf })
    (record { target = target.Cell find.cell (8 + find.byte / 8); word = byte_set index (find.byte % 8) (place + 1) })))
room_found change find spot leaf room.Full =
    change_to change (at.ReadingCell (read_starts change.layout find.cell) spot find.byte leaf)

abbrev pub room_goes : Change → FindRoom → Spot → ℕ → Turn FindRoom Room → Turn Change Ended
room_goes change find spot leaf (Go next) = change_to change (at.FindingRoom next spot leaf)
room_goes change find spot leaf (Done room) = room_found change find spot leaf room

abbrev pub finds_room : Change → FindRoom → Spot → ℕ → ℕ → Turn Change Ended
finds_room change find spot leaf got = room_goes change find spot leaf (find_room_turned find got)

-- or a larger cell

abbrev pub read_goes : Change → ReadCell → Spot → ℕ → ℕ → Turn ReadCell cells.Cell → Turn Change Ended
read_goes change read spot byte leaf (Go next) = change_to change (at.ReadingCell next spot byte leaf)
read_goes change read spot byte leaf (Done cell) =
    wants_cell change
    (record { cell = larger_of cell byte (leaf_reference leaf); spot = spot; free = read.reference })

abbrev pub reads_cell : Change → ReadCell → Spot → ℕ → ℕ → ℕ → Turn Change Ended
reads_cell change read spot byte leaf got = read_goes change read spot byte leaf (read_turned read got)

abbrev pub cell_goes : Change → NewCell → Turn Take Taken → Turn Change Ended
cell_goes change new (Go take) = change_to change (at.TakingCell take new)
cell_goes change new (Done (taken.One number)) =
    change_to change (at.FillingCell (fill_cell_start change.layout number new.cell) new.spot new.free)
cell_goes change new (Done taken.Absent) = Done NoRoom

abbrev pub takes_cell : Change → Take → NewCell → ℕ → Turn Change Ended
takes_cell change take new got = cell_goes change new (take_turned take got)

-- the reference of the cell that is filled
abbrev pub filled_reference : FillCell → ℕ
filled_reference fill = fill.cell.kind * 2 ^ 16 + fill.number

abbrev pub fill_cell_goes : Change → Spot → ℕ → ℕ → Turn FillCell (Unit {0}) → Turn Change Ended
fill_cell_goes change spot free cell (Go fill) = change_to change (at.FillingCell fill spot free)
fill_cell_goes change spot free cell (Done answer) =
    change_finishes change (spot_target spot) (spot.high + cell) free 0

abbrev pub fills_cell : Change → FillCell → Spot → ℕ → ℕ → Turn Change Ended
fills_cell change fill spot free got =
    fill_cell_goes change spot free (filled_reference fill) (fill_cell_turned fill got)

-- the leaf's cell, of an unset

abbrev pub reads_depth : Change → ℕ → Spot → Spot → ℕ → Turn Change Ended
reads_depth change leaf outer inner got =
    if nat_le key_bytes got then Done Wrong
    else change_to change
    (at.Counting (count_starts change.layout inner.cell (byte_at got (key_number change.key))) leaf outer inner)

abbrev pub counted : Change → Count → ℕ → Spot → Spot → Counted → Turn Change Ended
counted change count leaf outer inner counts_as.Two =
    if kind_of count.cell == 4 then change_to change (at.ReadingIndex count.cell count.byte leaf)
    else change_finishes change (spot_target inner) 0 (leaf_reference leaf) 0
counted change count leaf outer inner (counts_as.One reference) =
    if nat_le (2 ^ 32) reference then Done Wrong
    else change_finishes change (spot_target outer) (outer.high + reference) (leaf_reference leaf) count.cell
counted change count leaf outer inner counts_as.Absent = Done Wrong

abbrev pub count_goes : Change → Count → ℕ → Spot → Spot → Turn Count Counted → Turn Change Ended
count_goes change count leaf outer inner (Go next) = change_to change (at.Counting next leaf outer inner)
count_goes change count leaf outer inner (Done children) = counted change count leaf outer inner children

abbrev pub counts : Change → Count → ℕ → Spot → Spot → ℕ → Turn Change Ended
counts change count leaf outer inner got = count_goes change count leaf outer inner (count_turned count got)

abbrev pub reads_index : Change → ℕ → ℕ → ℕ → ℕ → Turn Change Ended
reads_index change cell byte leaf got =
    change_finishes change (target.Cell cell (8 + byte / 8)) (byte_set got (byte % 8) 0) (leaf_reference leaf) 0

-- the end

abbrev pub finish_goes : Change → Turn Finish (Unit {0}) → Turn Change Ended
finish_goes change (Go finish) = change_to change (at.Finishing finish)
finish_goes change (Done answer) = Done Made

abbrev pub change_at_turned : Change → ChangeAt → ℕ → Turn Change Ended
change_at_turned change (at.Looking look) got = looks change look got
change_at_turned change (at.TakingLeaf take site) got = takes_leaf change take site got
change_at_turned change (at.FillingLeaf fill site) got = fills_leaf change fill site got
change_at_turned change (at.FindingRoom find spot leaf) got = finds_room change find spot leaf got
change_at_turned change (at.ReadingCell read spot byte leaf) got = reads_cell change read spot byte leaf got
change_at_turned change (at.TakingCell take new) got = takes_cell change take new got
change_at_turned change (at.FillingCell fill spot free) got = fills_cell change fill spot free got
change_at_turned change (at.ReadingDepth leaf outer inner) got = reads_depth change leaf outer inner got
change_at_turned change (at.Counting count leaf outer inner) got = counts change count leaf outer inner got
change_at_turned change (at.ReadingIndex cell byte leaf) got = reads_index change cell byte leaf got
change_at_turned change (at.Finishing finish) got = finish_goes change (finish_turned finish got)

abbrev pub change_turned : Change → ℕ → Turn Change Ended
change_turned change got = change_at_turned change change.at got

-- What its fields keep.

-- a site is in range; what is there has another byte than the key
abbrev pub IsSite : Layout → List ℕ → Site → Type 0
IsSite l key (site.Under spot cell byte) = IsSpot l spot × IsCellOf l cell × (byte < 256)
IsSite l key (site.Beside spot reference depth byte) =
    IsSpot l spot × IsReference reference × (depth < key_bytes) × (byte < 256) ×
    (byte ≢ byte_at depth (key_number key))

pub record IsNewCell (l : Layout) (new : NewCell) : Type 0 where
  pub low : 2 ≤ new.cell.kind
  pub high : new.cell.kind ≤ 5
  pub words : Fits (words_of new.cell)
  pub spot : IsSpot l new.spot
  pub free : new.free ≢ 0 → IsMarked l new.free

-- a cell that is read is of a form that has a larger one
pub record IsFormRead (read : ReadCell) : Type 0 where
  pub kind : read.cell.kind ≡ kind_of read.reference
  pub most : kind_of read.reference ≤ 4
  pub words : Fits (words_of read.cell)

-- the room that was found is a word of the cell, or a place
abbrev pub IsRoomFound : ℕ → Room → Type 0
IsRoomFound kind (room.Entry offset) = offset < kind_words kind
IsRoomFound kind (room.Place place index) = (kind ≡ 4) × (place < 48)
IsRoomFound kind room.Full = Unit {0}

abbrev pub IsChangeAt : Layout → List ℕ → ℕ → ChangeAt → Type 0
IsChangeAt l key word (at.Looking look) = IsLook look × (look.layout ≡ l) × (look.key ≡ key)
IsChangeAt l key word (at.TakingLeaf take site) =
    IsTake take × (take.layout ≡ l) × (take.kind ≡ 1) × IsSite l key site × (word ≢ 0)
IsChangeAt l key word (at.FillingLeaf fill site) =
    IsFillLeaf fill × (fill.layout ≡ l) × (fill.key ≡ key) × (fill.node + 1 ≡ word) × IsSite l key site
IsChangeAt l key word (at.FindingRoom find spot leaf) =
    IsFindRoom find × (find.layout ≡ l) × (kind_of find.cell ≤ 4) × IsSpot l spot × (leaf < leaf_count l)
IsChangeAt l key word (at.ReadingCell read spot byte leaf) =
    IsReadCell read × (read.layout ≡ l) × IsFormRead read × IsSpot l spot × (byte < 256) × (leaf < leaf_count l)
IsChangeAt l key word (at.TakingCell take new) =
    IsTake take × (take.layout ≡ l) × (take.kind ≡ new.cell.kind) × IsNewCell l new
IsChangeAt l key word (at.FillingCell fill spot free) =
    IsFillCell fill × (fill.layout ≡ l) × IsSpot l spot × (free ≢ 0 → IsMarked l free)
IsChangeAt l key word (at.ReadingDepth leaf outer inner) =
    IsCellOf l inner.cell × IsSpot l outer × IsSpot l inner × (leaf < leaf_count l)
IsChangeAt l key word (at.Counting count leaf outer inner) =
    IsCount count × (count.layout ≡ l) × (count.cell ≡ inner.cell) × IsSpot l outer × IsSpot l inner ×
    (leaf < leaf_count l)
IsChangeAt l key word (at.ReadingIndex cell byte leaf) =
    IsCellOf l cell × (kind_of cell ≡ 4) × (byte < 256) × (leaf < leaf_count l)
IsChangeAt l key word (at.Finishing finish) = IsFinish finish × (finish.layout ≡ l)

pub record IsChange (change : Change) : Type 0 where
  pub layout : IsLayout change.layout
  pub key : IsKey change.key
  pub word : change.word ≤ change.layout.nodes
  pub here : IsChangeAt change.layout change.key change.word change.at

abbrev pub change_takes : Change → ℕ → Type 0
change_takes change got = IsChange change × (got < 2 ^ 64)

-- How many actions it asks for from here on, at most: those of the part, and of those that may come behind it.
abbrev pub finish_most : ℕ
finish_most = 37

abbrev pub fill_cell_most : ℕ
fill_cell_most = 24 * 33 + finish_most + 1

abbrev pub take_cell_most : Layout → ℕ
take_cell_most l = leaf_count l + 1 + fill_cell_most + 1

abbrev pub read_cell_most : Layout → ℕ
read_cell_most l = 264 + take_cell_most l + 1

abbrev pub find_room_most : Layout → ℕ
find_room_most l = 1537 + read_cell_most l + 1

abbrev pub fill_leaf_most : Layout → ℕ
fill_leaf_most l = 24 + find_room_most l + 1

abbrev pub take_leaf_most : Layout → ℕ
take_leaf_most l = leaf_count l + 1 + fill_leaf_most l + 1

abbrev pub change_at_left : Layout → ChangeAt → ℕ
change_at_left l (at.Looking look) = look_left look + take_leaf_most l + 1
change_at_left l (at.TakingLeaf take site) = take_left take + fill_leaf_most l + 1
change_at_left l (at.FillingLeaf fill site) = fill_leaf_left fill + find_room_most l + 1
change_at_left l (at.FindingRoom find spot leaf) = find_room_left find + read_cell_most l + 1
change_at_left l (at.ReadingCell read spot byte leaf) = read_left read + take_cell_most l + 1
change_at_left l (at.TakingCell take new) = take_left take + fill_cell_most + 1
change_at_left l (at.FillingCell fill spot free) = fill_cell_left fill + finish_most + 1
change_at_left l (at.ReadingDepth leaf outer inner) = 258 + finish_most + 3
change_at_left l (at.Counting count leaf outer inner) = count_left count + finish_most + 2
change_at_left l (at.ReadingIndex cell byte leaf) = finish_most + 1
change_at_left l (at.Finishing finish) = finish_left finish

abbrev pub change_left : Change → ℕ
change_left change = change_at_left change.layout change.at

-- and from its start on
abbrev pub change_most : Layout → ℕ
change_most l = look_most + take_leaf_most l + 1
