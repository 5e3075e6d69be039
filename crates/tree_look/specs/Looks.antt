-- The way of a key to its end, word by word.
use Rattle.std.specs.Prelude.{◌≡◌, ◌≢◌, ℕ, ◌+◌, ◌-◌, ◌*◌, ◌^◌, ◌<◌, ◌==◌, ◌&&◌, ◌||◌, not, nat_lt, nat_le}
use Rattle.std.specs.Prelude.{if◌then◌else◌, List, slice_set}
use Rattle.pm_words.specs.declared.layout.Layout.{Layout}
use Rattle.pm_words.specs.declared.action.Action.{Action}
use Rattle.pm_words.specs.declared.action.Action.TheVariants.{Load}
use Rattle.pm_words.specs.declared.machine.Turn.{Turn}
use Rattle.pm_words.specs.declared.machine.Turn.TheVariants.{Go, Done}
use Rattle.pm_words.specs.Layouts.{IsLayout}
use Rattle.pm_words.specs.Locations.{leaf_count, kind_words}
use Rattle.pm_words.specs.Offsets.{depth_offset, prefix_offset}
use Rattle.pm_words.specs.Codes.{leaf_kind}
use Rattle.cat_key.specs.declared.TheConstants.{WORDS}
use Rattle.radix_nodes.specs.Keys.{key_bytes}
use Rattle.tree_law.specs.Trees.{span, first_bytes, byte_at, way_length}
use Rattle.tree_law.specs.Words.{LayerWord, RootWord, LeafWord, kind_of, number_of}
use Rattle.layer_map.specs.Keys.{key_number, IsKey}
use Rattle.tree_floor.specs.tree_row.specs.Rows.{layer_address}
use Rattle.tree_floor.specs.Floors.{cell_word, no_words, IsCellOf, IsDeep}
use Rattle.tree_look.specs.declared.find.Findings.{Findings}
use Rattle.tree_look.specs.declared.find.Findings.TheVariants.{More, Found, Absent}
use Rattle.tree_look.specs.declared.look.Look.{Look}
use Rattle.tree_look.specs.declared.look.LookAt.{LookAt}
use Rattle.tree_look.specs.declared.look.LookAt.TheVariants as at
use Rattle.tree_look.specs.declared.look.Spot.{Spot}
use Rattle.tree_look.specs.declared.look.Looked.{Looked}
use Rattle.tree_look.specs.declared.look.Looked.TheVariants as looked
use Rattle.tree_look.specs.Finds.{find_starts, find_offset, find_told, IsFind, find_left}
use Rattle.tree_look.specs.Depths.{shared_of}

-- the word that it reads
abbrev pub look_word : LookAt → List ℕ → LayerWord
look_word at.Root key = RootWord
look_word (at.Key leaf words word) key = LeafWord leaf word
look_word (at.Depth cell) key = cell_word cell depth_offset
look_word (at.Prefix cell depth words word) key = cell_word cell (prefix_offset + word)
look_word (at.Finding cell depth find) key =
    cell_word cell (find_offset (kind_of cell) (byte_at depth (key_number key)) find)

abbrev pub look_asks : Look → Action
look_asks look = Load (layer_address look.layout (look_word look.at look.key))

-- where the root's reference stands
abbrev pub root_spot : Spot
root_spot = record { cell = 0; offset = 0; high = 0 }

abbrev pub look_starts : Layout → List ℕ → Look
look_starts l key = record { layout = l; key = key; least = 0; outer = root_spot; inner = root_spot; at = at.Root }

abbrev pub goes_to : Look → LookAt → Turn Look Looked
goes_to look at = Go (record look { at = at })

-- it comes to a reference
abbrev pub lands : Look → ℕ → Turn Look Looked
lands look reference =
    if not (nat_lt (number_of reference) (leaf_count look.layout)) then Done looked.Wrong
    else if kind_of reference == leaf_kind then goes_to look (at.Key (number_of reference) no_words 0)
    else if nat_le 2 (kind_of reference) && nat_le (kind_of reference) 5 then goes_to look (at.Depth reference)
    else Done looked.Wrong

-- the key isn't that of what it came to, and parts from it at this depth
abbrev pub byte_parted : ℕ → ℕ → ℕ
byte_parted other depth = if nat_lt depth key_bytes then byte_at depth other else 0

abbrev pub parts : Look → ℕ → List ℕ → Turn Look Looked
parts look reference other =
    Done (looked.Parts look.inner reference (shared_of (key_number look.key) (key_number other))
    (byte_parted (key_number other) (shared_of (key_number look.key) (key_number other))))

-- it has read a leaf's key, or so many words of it
abbrev pub has_key : Look → ℕ → List ℕ → Turn Look Looked
has_key look leaf other =
    if key_number look.key == key_number other then Done (looked.Key look.outer look.inner leaf)
    else parts look (2 ^ 16 + leaf) other

abbrev pub has_key_word : Look → ℕ → List ℕ → ℕ → Turn Look Looked
has_key_word look leaf words count =
    if count == WORDS then has_key look leaf words else goes_to look (at.Key leaf words count)

abbrev pub has_depth : Look → ℕ → ℕ → Turn Look Looked
has_depth look cell depth =
    if nat_lt depth look.least || nat_le key_bytes depth then Done looked.Wrong
    else goes_to look (at.Prefix cell depth no_words 0)

-- it has read a cell's prefix, or so many words of it
abbrev pub has_prefix : Look → ℕ → ℕ → List ℕ → Turn Look Looked
has_prefix look cell depth prefix =
    if first_bytes depth (key_number look.key) * span depth == key_number prefix
    then goes_to look (at.Finding cell depth (find_starts (kind_of cell)))
    else parts look cell prefix

abbrev pub has_prefix_word : Look → ℕ → ℕ → List ℕ → ℕ → Turn Look Looked
has_prefix_word look cell depth words count =
    if count == WORDS then has_prefix look cell depth words else goes_to look (at.Prefix cell depth words count)

abbrev pub goes_down : Look → ℕ → ℕ → ℕ → ℕ → Look
goes_down look cell depth offset high = record look {
  least = depth + 1;
  outer = look.inner;
  inner = record { cell = cell; offset = offset; high = high };
}

abbrev pub has_found : Look → ℕ → ℕ → Findings → Turn Look Looked
has_found look cell depth (More find) = goes_to look (at.Finding cell depth find)
has_found look cell depth (Found offset high reference) = lands (goes_down look cell depth offset high) reference
has_found look cell depth Absent = Done (looked.Nothing look.inner cell depth)

abbrev pub look_at_turned : Look → LookAt → ℕ → Turn Look Looked
look_at_turned look at.Root got = lands look got
look_at_turned look (at.Key leaf words word) got = has_key_word look leaf (slice_set words word got) (word + 1)
look_at_turned look (at.Depth cell) got = has_depth look cell got
look_at_turned look (at.Prefix cell depth words word) got =
    has_prefix_word look cell depth (slice_set words word got) (word + 1)
look_at_turned look (at.Finding cell depth find) got =
    has_found look cell depth (find_told (kind_of cell) (byte_at depth (key_number look.key)) find got)

abbrev pub look_turned : Look → ℕ → Turn Look Looked
look_turned look got = look_at_turned look look.at got

-- What its fields keep.

abbrev pub IsLookAt : Layout → ℕ → LookAt → Type 0
IsLookAt l least at.Root = least ≡ 0
IsLookAt l least (at.Key leaf words word) = (leaf < leaf_count l) × IsKey words × (word < WORDS)
IsLookAt l least (at.Depth cell) = IsCellOf l cell
IsLookAt l least (at.Prefix cell depth words word) =
    IsCellOf l cell × IsDeep least depth × IsKey words × (word < WORDS)
IsLookAt l least (at.Finding cell depth find) = IsCellOf l cell × IsDeep least depth × IsFind (kind_of cell) find

-- a spot is the root's, or a word of a cell that is in range, with a byte at most above the reference
pub record IsSpot (l : Layout) (spot : Spot) : Type 0 where
  pub place : spot.cell ≢ 0 → IsCellOf l spot.cell × (spot.offset < kind_words (kind_of spot.cell))
  pub high : spot.high < 2 ^ 40

pub record IsLook (look : Look) : Type 0 where
  pub layout : IsLayout look.layout
  pub key : IsKey look.key
  pub outer : IsSpot look.layout look.outer
  pub inner : IsSpot look.layout look.inner
  pub here : IsLookAt look.layout look.least look.at

abbrev pub look_takes : Look → ℕ → Type 0
look_takes look got = IsLook look × (got < 2 ^ 64)

-- how many words it reads of what it stands at, at most
abbrev pub at_left : LookAt → ℕ
at_left at.Root = 20 + WORDS
at_left (at.Key leaf words word) = WORDS - word
at_left (at.Depth cell) = 18 + WORDS
at_left (at.Prefix cell depth words word) = 17 + (WORDS - word)
at_left (at.Finding cell depth find) = 1 + find_left (kind_of cell) find

-- a number above what it reads of one leaf or cell
abbrev pub level : ℕ
level = 21 + WORDS

-- how many it reads from here on, at most; and from its start on
abbrev pub look_left : Look → ℕ
look_left look = level * (way_length - look.least) + at_left look.at

abbrev pub look_most : ℕ
look_most = level * (way_length + 1)
