-- The floor of a key, word by word.
use Rattle.std.specs.Prelude.{◌≡◌, ℕ, ◌+◌, ◌-◌, ◌*◌, ◌^◌, ◌<◌, ◌≤◌, ◌==◌, ◌&&◌, ◌||◌, not}
use Rattle.std.specs.Prelude.{nat_lt, nat_le, if◌then◌else◌, Bool, true, false, List, IsSomeAnd}
use Rattle.std.specs.Prelude.{slice_set, replicate}
use Rattle.pm_words.specs.declared.layout.Layout.{Layout}
use Rattle.pm_words.specs.declared.action.Action.{Action}
use Rattle.pm_words.specs.declared.action.Action.TheVariants.{Load}
use Rattle.pm_words.specs.declared.machine.Turn.{Turn}
use Rattle.pm_words.specs.declared.machine.Turn.TheVariants.{Go, Done}
use Rattle.pm_words.specs.Layouts.{IsLayout}
use Rattle.pm_words.specs.Locations.{leaf_count}
use Rattle.pm_words.specs.Offsets.{depth_offset, prefix_offset}
use Rattle.pm_words.specs.Codes.{leaf_kind}
use Rattle.cat_key.specs.declared.TheConstants.{WORDS}
use Rattle.radix_nodes.specs.Keys.{key_bytes}
use Rattle.tree_row.specs.tree_law.specs.Trees.{span, first_bytes, byte_at, way_length}
use Rattle.tree_row.specs.tree_law.specs.Words.{LayerWord, RootWord, LeafWord, CellWord, LayerWords, word_in, kind_of}
use Rattle.tree_row.specs.tree_law.specs.Words.{number_of}
use Rattle.tree_row.specs.tree_law.specs.Words.{IsLawful, layer_of}
use Rattle.tree_row.specs.layer_map.specs.Layers.{IsFloorOf}
use Rattle.tree_row.specs.Rows.{layer_address, HasLayerWord}
use Rattle.tree_row.specs.tree_law.specs.FloorWalks.{node_told}
use Rattle.tree_floor.specs.declared.floor.Floor.{Floor}
use Rattle.tree_floor.specs.declared.floor.FloorAt.{FloorAt}
use Rattle.tree_floor.specs.declared.floor.FloorAt.TheVariants as at
use Rattle.tree_floor.specs.declared.scan.Scanned.{Scanned}
use Rattle.tree_floor.specs.declared.scan.Scanned.TheVariants.{More, Found}
use Rattle.tree_floor.specs.Scans.{scan_starts, scan_offset, scan_told, IsScan, scan_left}
use Rattle.tree_row.specs.layer_map.specs.Keys.{key_number, IsKey}
use Rattle.tree_floor.specs.Telling.{answer_in}

abbrev pub cell_word : ℕ → ℕ → LayerWord
cell_word cell offset = CellWord (kind_of cell) (number_of cell) offset

-- the word that it reads
abbrev pub floor_word : FloorAt → LayerWord
floor_word at.Root = RootWord
floor_word (at.Key leaf words word) = LeafWord leaf word
floor_word (at.Node leaf) = LeafWord leaf WORDS
floor_word (at.Depth cell) = cell_word cell depth_offset
floor_word (at.Prefix cell depth words word) = cell_word cell (prefix_offset + word)
floor_word (at.Scanning cell depth byte scan) = cell_word cell (scan_offset (kind_of cell) byte scan)

abbrev pub floor_asks : Floor → Action
floor_asks floor = Load (layer_address floor.layout (floor_word floor.at))

abbrev pub floor_starts : Layout → List ℕ → Floor
floor_starts l key = record { layout = l; key = key; other = 0; other_least = 0; least = 0; last = false; at = at.Root }

abbrev pub goes_to : Floor → FloorAt → Turn Floor ℕ
goes_to floor at = Go (record floor { at = at })

-- the words of a key before any was read
abbrev pub no_words : List ℕ
no_words = replicate WORDS 0

-- it comes to a reference that isn't 0
abbrev pub lands : Floor → ℕ → Turn Floor ℕ
lands floor reference =
    if not (nat_lt (number_of reference) (leaf_count floor.layout)) then Done 0
    else if kind_of reference == leaf_kind
    then goes_to floor (if floor.last then at.Node (number_of reference) else at.Key (number_of reference) no_words 0)
    else if nat_le 2 (kind_of reference) && nat_le (kind_of reference) 5 then goes_to floor (at.Depth reference)
    else Done 0

-- all keys here are greater: it goes to the other reference, and wants the last leaf there
abbrev pub turns_back : Floor → Floor
turns_back floor = record floor { other = 0; other_least = 0; least = floor.other_least; last = true }

abbrev pub back : Floor → Turn Floor ℕ
back floor = if floor.last || floor.other == 0 then Done 0 else lands (turns_back floor) floor.other

abbrev pub enters : Floor → ℕ → Turn Floor ℕ
enters floor reference = if reference == 0 then back floor else lands floor reference

-- it has read so many words of a leaf's key: the next one, or all
abbrev pub has_key : Floor → ℕ → List ℕ → Turn Floor ℕ
has_key floor leaf key =
    if nat_le (key_number key) (key_number floor.key) then goes_to floor (at.Node leaf) else back floor

abbrev pub has_key_word : Floor → ℕ → List ℕ → ℕ → Turn Floor ℕ
has_key_word floor leaf words count =
    if count == WORDS then has_key floor leaf words else goes_to floor (at.Key leaf words count)

abbrev pub scans : Floor → ℕ → ℕ → ℕ → Turn Floor ℕ
scans floor cell depth byte = goes_to floor (at.Scanning cell depth byte (scan_starts (kind_of cell) byte))

abbrev pub has_depth : Floor → ℕ → ℕ → Turn Floor ℕ
has_depth floor cell depth =
    if nat_lt depth floor.least || nat_le key_bytes depth then Done 0
    else if floor.last then scans floor cell depth 256
    else goes_to floor (at.Prefix cell depth no_words 0)

-- it wants the last leaf from here on
abbrev pub wants_last : Floor → Floor
wants_last floor = record floor { other = 0; other_least = 0; last = true }

-- it has read the prefix of a cell
abbrev pub has_prefix : Floor → ℕ → ℕ → List ℕ → Turn Floor ℕ
has_prefix floor cell depth prefix =
    if nat_le (key_number prefix) (key_number floor.key)
    then (if first_bytes depth (key_number floor.key) * span depth == key_number prefix
    then scans floor cell depth (byte_at depth (key_number floor.key))
    else scans (wants_last floor) cell depth 256)
    else back floor

abbrev pub has_prefix_word : Floor → ℕ → ℕ → List ℕ → ℕ → Turn Floor ℕ
has_prefix_word floor cell depth words count =
    if count == WORDS then has_prefix floor cell depth words else goes_to floor (at.Prefix cell depth words count)

abbrev pub goes_last : Floor → ℕ → Floor
goes_last floor depth = record floor { other = 0; other_least = 0; least = depth + 1 }

abbrev pub goes_down : Floor → ℕ → ℕ → Floor
goes_down floor depth below = record floor {
  other = if below == 0 then floor.other else below;
  other_least = if below == 0 then floor.other_least else depth + 1;
  least = depth + 1;
}

abbrev pub has_scanned : Floor → ℕ → ℕ → ℕ → Scanned → Turn Floor ℕ
has_scanned floor cell depth byte (More scan) = goes_to floor (at.Scanning cell depth byte scan)
has_scanned floor cell depth byte (Found child below) =
    if floor.last then enters (goes_last floor depth) below else enters (goes_down floor depth below) child

abbrev pub floor_at_turned : Floor → FloorAt → ℕ → Turn Floor ℕ
floor_at_turned floor at.Root got = enters floor got
floor_at_turned floor (at.Key leaf words word) got = has_key_word floor leaf (slice_set words word got) (word + 1)
floor_at_turned floor (at.Node leaf) got = Done (node_told floor.layout.nodes got)
floor_at_turned floor (at.Depth cell) got = has_depth floor cell got
floor_at_turned floor (at.Prefix cell depth words word) got =
    has_prefix_word floor cell depth (slice_set words word got) (word + 1)
floor_at_turned floor (at.Scanning cell depth byte scan) got =
    has_scanned floor cell depth byte (scan_told (kind_of cell) byte scan got)

abbrev pub floor_turned : Floor → ℕ → Turn Floor ℕ
floor_turned floor got = floor_at_turned floor floor.at got

-- What its fields keep.

pub record IsCellOf (l : Layout) (cell : ℕ) : Type 0 where
  pub low : 2 ≤ kind_of cell
  pub high : kind_of cell ≤ 5
  pub number : number_of cell < leaf_count l

abbrev pub IsDeep : ℕ → ℕ → Type 0
IsDeep least depth = (least ≤ depth) × (depth < key_bytes)

abbrev pub IsFloorAt : Layout → ℕ → Bool → FloorAt → Type 0
IsFloorAt l least last at.Root = (least ≡ 0) × (last ≡ false)
IsFloorAt l least last (at.Key leaf words word) =
    (leaf < leaf_count l) × (last ≡ false) × IsKey words × (word < WORDS)
IsFloorAt l least last (at.Node leaf) = leaf < leaf_count l
IsFloorAt l least last (at.Depth cell) = IsCellOf l cell
IsFloorAt l least last (at.Prefix cell depth words word) =
    IsCellOf l cell × IsDeep least depth × (last ≡ false) × IsKey words × (word < WORDS)
IsFloorAt l least last (at.Scanning cell depth byte scan) =
    IsCellOf l cell × IsDeep least depth × (byte ≤ 256) × IsScan (kind_of cell) byte scan

pub record IsFloor (floor : Floor) : Type 0 where
  pub layout : IsLayout floor.layout
  pub key : IsKey floor.key
  pub here : IsFloorAt floor.layout floor.least floor.last floor.at

abbrev pub floor_takes : Floor → ℕ → Type 0
floor_takes floor got = IsFloor floor × (got < 2 ^ 64)

-- how many words it reads of what it stands at, at most
abbrev pub at_left : FloorAt → ℕ
at_left at.Root = 263 + WORDS
at_left (at.Key leaf words word) = 1 + (WORDS - word)
at_left (at.Node leaf) = 1
at_left (at.Depth cell) = 261 + WORDS
at_left (at.Prefix cell depth words word) = 260 + (WORDS - word)
at_left (at.Scanning cell depth byte scan) = 1 + scan_left (kind_of cell) scan

-- a number above what it reads of one leaf or cell
abbrev pub level : ℕ
level = 264 + WORDS

-- how many it reads at most of those that come after; once it wants the last leaf it doesn't turn back
abbrev pub behind_left : Bool → ℕ → ℕ
behind_left last least = (if last then 0 else level * (way_length + 1)) + level * (way_length - least)

abbrev pub floor_left : Floor → ℕ
floor_left floor = behind_left floor.last floor.least + at_left floor.at

-- and from its start on
abbrev pub floor_most : ℕ
floor_most = 2 * level * (way_length + 1)

-- It stays one and reads less and less, whatever it is told, and answers a node.
abbrev pub FloorAfter : Layout → List ℕ → ℕ → Turn Floor ℕ → Type 0
FloorAfter l key left (Go floor) = IsFloor floor × (floor.layout ≡ l) × (floor.key ≡ key) × (floor_left floor < left)
FloorAfter l key left (Done node) = node < l.nodes

abbrev pub FloorStays : Type 0
FloorStays = (floor : Floor) (got : ℕ) → floor_takes floor got →
    FloorAfter floor.layout floor.key (floor_left floor) (floor_turned floor got)

-- its turn, told these words as it asks for them
abbrev pub floor_turn : LayerWords → Floor → Turn Floor ℕ
floor_turn w floor = floor_turned floor (word_in w (floor_word floor.at))

-- So long as the words stay as they are, it answers the floor of its key.
abbrev pub FloorIsExact : Type 0
FloorIsExact = (l : Layout) (key : List ℕ) (w : LayerWords) (times : ℕ) → floor_most ≤ times → IsLayout l → IsKey key →
    ((p : LayerWord) → word_in w p < 2 ^ 64) → IsLawful (leaf_count l) l.nodes w →
    IsSomeAnd (answer_in times (floor_turn w) (floor_starts l key))
    (λ node. IsFloorOf (layer_of w) (key_number key) node)

-- It only loads words of the layer that a row of its layout has.
abbrev pub FloorOnlyLoads : Type 0
FloorOnlyLoads = (floor : Floor) → IsFloor floor → HasLayerWord floor.layout (floor_word floor.at)
