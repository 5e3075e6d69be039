-- The words that the parts of a change load are of the layer, and a load of one leaves all as it was.
use Rattle.std.proofs.Common.{◌≡◌, ℕ, ◌+◌, ◌/◌, ◌<◌, ◌≤◌, ◌&&◌, cond, inl, inr, List, length, sym, subst, ap, ap₂, arith, lt-ltb, le-leb}
use Rattle.std.proofs.lemmas.Bool.{cases_eq}
use Rattle.pm_words.specs.declared.layout.Layout.{Layout}
use Rattle.pm_words.specs.declared.action.Action.TheVariants.{Load}
use Rattle.pm_words.specs.Locations.{Mark, Cached, Durable, kind_words, leaf_count, row_words, address_of, at}
use Rattle.pm_words.specs.Rows.{acted}
use Rattle.pm_words.specs.Rows as rows
use Rattle.pm_words.specs.Offsets.{depth_offset, prefix_offset}
use Rattle.tree_law.specs.Trees.{byte_at}
use Rattle.tree_law.specs.Words.{LayerWord, LayerWords, word_in, kind_of}
use Rattle.tree_law.specs.Stages.{Marks}
use Rattle.tree_law.proofs.Spans.{byte_small}
use Rattle.tree_row.specs.Rows.{HasLayerWord, layer_words, layer_address}
use Rattle.tree_row.specs.RowMarks.{row_marks}
use Rattle.tree_row.proofs.RowLaw.{reads_words, load_leaves}
use Rattle.tree_row.proofs.MarkLaw.{load_leaves_marks}
use Rattle.layer_map.specs.Keys.{key_number}
use Rattle.tree_floor.specs.Floors.{cell_word, IsCellOf}
use Rattle.tree_look.specs.declared.find.Find.{Find}
use Rattle.tree_look.specs.declared.find.Find.TheVariants as find
use Rattle.tree_look.specs.declared.look.Look.{Look}
use Rattle.tree_look.specs.declared.look.LookAt.{LookAt}
use Rattle.tree_look.specs.declared.look.LookAt.TheVariants as look_at
use Rattle.tree_look.specs.Finds.{find_offset, IsFind}
use Rattle.tree_look.specs.Looks.{look_word, IsLook, IsLookAt}
use Rattle.tree_look.proofs.FindLaw.{entry_words}
use Rattle.tree_change.specs.declared.others.Others.{Others}
use Rattle.tree_change.specs.declared.others.Others.TheVariants as others
use Rattle.tree_change.specs.declared.room.Places.{Places}
use Rattle.tree_change.specs.declared.room.Places.TheVariants as places
use Rattle.tree_change.specs.declared.count.Count.{Count}
use Rattle.tree_change.specs.declared.find_room.FindRoom.{FindRoom}
use Rattle.tree_change.specs.declared.read_cell.ReadCell.{ReadCell}
use Rattle.tree_change.specs.Others.{slot_offset, others_offset, IsOthers}
use Rattle.tree_change.specs.Rooms.{places_offset, IsPlaces}
use Rattle.tree_change.specs.Counts.{count_word, IsCount}
use Rattle.tree_change.specs.FindRooms.{find_room_word, IsFindRoom}
use Rattle.tree_change.specs.Reads.{read_word, IsReadCell}

-- by cases of the kind of a cell
pub by_form : (P : ℕ → Type 0) (kind : ℕ) → 2 ≤ kind → kind ≤ 5 → P 2 → P 3 → P 4 → P 5 → P kind
by_form P kind least most two three four five = elim (cases_eq kind 2) [
  | inl is ↦ subst P (sym is) two
  | inr not_two ↦ elim (cases_eq kind 3) [
    | inl is ↦ subst P (sym is) three
    | inr not_three ↦ elim (cases_eq kind 4) [
      | inl is ↦ subst P (sym is) four
      | inr not_four ↦ subst P (let is : 5 ≡ kind = omega (arith, not_two, not_three, not_four) in is) five
    ]
  ]
]

pub cell_has : (l : Layout) (cell offset : ℕ) → IsCellOf l cell → offset < kind_words (kind_of cell) → HasLayerWord l (cell_word cell offset)
cell_has l cell offset is lt = (is.low, is.high, is.number, lt)

-- the head of a cell
pub head_has : (l : Layout) (cell offset : ℕ) → IsCellOf l cell → offset < 4 → HasLayerWord l (cell_word cell offset)
head_has l cell offset is lt = cell_has l cell offset is (by_form (λ k. offset < kind_words k) (kind_of cell) is.low is.high
    (let in_2 : offset < 8 = omega arith in in_2) (let in_3 : offset < 24 = omega arith in in_3) (let in_4 : offset < 88 = omega arith in in_4) (let in_5 : offset < 264 = omega arith in in_5))

find_in : (kind byte : ℕ) (f : Find) → byte < 256 → IsFind kind f → find_offset kind byte f < kind_words kind
find_in kind byte (find.Entry entry) small is = entry_words kind entry is
find_in kind byte find.Index small is = subst (λ k. 8 + byte / 8 < kind_words k) (sym is) (let lt : 8 + byte / 8 < 88 = omega arith in lt)
find_in kind byte (find.Reference place) small is = let most = is.2 in subst (λ k. 39 + place < kind_words k) (sym is.0) (let lt : 39 + place < 88 = omega arith in lt)
find_in kind byte find.Direct small is = subst (λ k. 8 + byte < kind_words k) (sym is) (let lt : 8 + byte < 264 = omega arith in lt)

look_at_has : (l : Layout) (key : List ℕ) (least : ℕ) (part : LookAt) → IsLookAt l least part → HasLayerWord l (look_word part key)
look_at_has l key least look_at.Root here = (let lt : 0 < 8 = omega arith in lt)
look_at_has l key least (look_at.Key leaf words word) here = let within = here.2 in (here.0, (let lt : word < 8 = omega arith in lt))
look_at_has l key least (look_at.Depth cell) here = head_has l cell depth_offset here (omega arith)
look_at_has l key least (look_at.Prefix cell depth words word) here = let within = here.3 in head_has l cell (prefix_offset + word) here.0 (omega arith)
look_at_has l key least (look_at.Finding cell depth f) here = cell_has l cell (find_offset (kind_of cell) (byte_at depth (key_number key)) f) here.0 (find_in (kind_of cell) (byte_at depth (key_number key)) f (byte_small depth (key_number key)) here.2)

pub look_has : (look : Look) → IsLook look → HasLayerWord look.layout (look_word look.at look.key)
look_has look is = look_at_has look.layout look.key look.least look.at is.here

others_in : (kind : ℕ) (scan : Others) → 2 ≤ kind → kind ≤ 5 → IsOthers kind scan → others_offset kind scan < kind_words kind
others_in kind (others.Slot slot one) least most is = by_form (λ k. IsOthers k (others.Slot slot one) → slot_offset k slot < kind_words k) kind least most
    (λ lt. let lt' : slot < 4 = lt in let in_2 : 4 + slot < 8 = omega arith in in_2)
    (λ lt. let lt' : slot < 16 = lt in let in_3 : 8 + slot < 24 = omega arith in in_3)
    (λ lt. let lt' : slot < 256 = lt in let in_4 : 8 + slot / 8 < 88 = omega arith in in_4)
    (λ lt. let lt' : slot < 256 = lt in let in_5 : 8 + slot < 264 = omega arith in in_5) is
others_in kind (others.Reference place) least most is = let le = is.2 in subst (λ k. 39 + place < kind_words k) (sym is.0) (let lt : 39 + place < 88 = omega arith in lt)

pub count_has : (count : Count) → IsCount count → HasLayerWord count.layout (count_word count)
count_has count is = cell_has count.layout count.cell (others_offset (kind_of count.cell) count.others) is.cell (others_in (kind_of count.cell) count.others is.cell.low is.cell.high is.here)

places_in : (kind byte : ℕ) (scan : Places) → byte < 256 → IsPlaces kind scan → places_offset kind byte scan < kind_words kind
places_in kind byte (places.Entry entry) small is = entry_words kind entry is
places_in kind byte (places.Index place word) small is = let few = is.2 in subst (λ k. 8 + word < kind_words k) (sym is.0) (let lt : 8 + word < 88 = omega arith in lt)
places_in kind byte (places.Own place) small is = subst (λ k. 8 + byte / 8 < kind_words k) (sym is.0) (let lt : 8 + byte / 8 < 88 = omega arith in lt)

pub room_has : (look : FindRoom) → IsFindRoom look → HasLayerWord look.layout (find_room_word look)
room_has look is = cell_has look.layout look.cell (places_offset (kind_of look.cell) look.byte look.places) is.cell (places_in (kind_of look.cell) look.byte look.places is.byte is.here)

pub read_has : (read : ReadCell) → IsReadCell read → HasLayerWord read.layout (read_word read)
read_has read is = cell_has read.layout read.reference read.offset is.cell is.here

-- A load of a word of the layer.
module _ (l : Layout) (words : List ℕ) (whole : length words ≡ row_words l) where
  pub load_keeps : (P : LayerWords → LayerWords → Marks → Type 0) (address : ℕ) → P (layer_words l words Cached) (layer_words l words Durable) (row_marks l words)
      → P (layer_words l (acted l words (Load address)) Cached) (layer_words l (acted l words (Load address)) Durable) (row_marks l (acted l words (Load address)))
  load_keeps P address holds =
      let both = load_leaves l words address whole in
      let marks = load_leaves_marks l words address whole in
      subst (λ w. P w (layer_words l (acted l words (Load address)) Durable) (row_marks l (acted l words (Load address)))) (sym both.0)
      (subst (λ s. P (layer_words l words Cached) s (row_marks l (acted l words (Load address)))) (sym both.1)
      (subst (P (layer_words l words Cached) (layer_words l words Durable)) (sym marks) holds))

  pub load_got : (p : LayerWord) → HasLayerWord l p → rows.got l words (Load (layer_address l p)) ≡ word_in (layer_words l words Cached) p
  load_got p has = sym (reads_words l words Cached p has)

  -- and of a mark
  pub mark_got : (kind number : ℕ) → 1 ≤ kind → kind ≤ 5 → number < leaf_count l → rows.got l words (Load (address_of l (Mark kind number))) ≡ row_marks l words kind number
  mark_got kind number low high lt =
      sym (ap (λ a. cond a (at l words (Mark kind number)) 0) (ap₂ (λ a b. a && b) (ap₂ (λ a b. a && b) (le-leb 1 kind low) (le-leb kind 5 high)) (lt-ltb number (leaf_count l) lt)))
