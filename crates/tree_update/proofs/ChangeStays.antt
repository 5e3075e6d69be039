-- A change stays one, and asks for less and less, whatever it is told.
use Rattle.std.proofs.Common.{◌≡◌, ◌≢◌, ℕ, ◌+◌, ◌-◌, ◌*◌, ◌/◌, ◌%◌, ◌^◌, ◌<◌, ◌≤◌, ◌==◌, ◌||◌, Bool, true, false, cond, ltb, leb, inl, inr, slice_index, List, Option, Some, None, refl, sym, subst, ap, ◌∙◌, arith}
use Rattle.std.proofs.lemmas.Bool.{cases_eq, eqb-true, eqb-false, leb-false}
use Rattle.pm_words.specs.declared.layout.Layout.{Layout}
use Rattle.pm_words.specs.declared.machine.Turn.{Turn}
use Rattle.pm_words.specs.declared.machine.Turn.TheVariants.{Go, Done}
use Rattle.pm_words.specs.Turns.{GoesBelow, turn_of}
use Rattle.pm_words.specs.Locations.{leaf_count, kind_words}
use Rattle.cat_key.specs.declared.TheConstants.{WORDS}
use Rattle.radix_nodes.specs.declared.cell.Cell as cells
use Rattle.radix_nodes.specs.declared.cell.Branch.{Branch}
use Rattle.radix_nodes.specs.declared.filling.Filling.{Filling}
use Rattle.radix_nodes.specs.declared.fill_leaf.FillLeaf.{FillLeaf}
use Rattle.radix_nodes.specs.declared.fill_cell.FillCell.{FillCell}
use Rattle.radix_nodes.specs.Keys.{key_bytes}
use Rattle.radix_nodes.specs.Bytes.{byte_set}
use Rattle.radix_nodes.specs.Cells.{words_of, entry_of}
use Rattle.radix_nodes.specs.Making.{Fits, prefix_word, pair_of, larger_of}
use Rattle.radix_nodes.specs.Fills.{filling_start, filling_next, IsFilling, IsFillLeaf, filling_left, lines_of}
use Rattle.radix_nodes.specs.Fills as fills
use Rattle.radix_nodes.proofs.FillEnds.{Fewer, filling_fewer}
use Rattle.radix_nodes.proofs.GrownCells.{larger_kind}
use Rattle.radix_nodes.proofs.CellFits.{set_list, zeros_fit, byte_set_fits, larger_fits, pair_fits, prefix_fits, pair_kind}
use Rattle.tree_law.specs.Trees.{byte_at}
use Rattle.tree_law.specs.Words.{kind_of}
use Rattle.tree_law.proofs.Spans.{byte_small}
use Rattle.layer_map.specs.Keys.{key_number}
use Rattle.tree_floor.specs.Floors.{IsCellOf}
use Rattle.tree_look.specs.declared.look.Look.{Look}
use Rattle.tree_look.specs.declared.look.Looked.{Looked}
use Rattle.tree_look.specs.declared.look.Looked.TheVariants as looked
use Rattle.tree_look.specs.declared.look.Spot.{Spot}
use Rattle.tree_look.specs.Looks.{look_turned, look_takes, look_left, IsSpot}
use Rattle.tree_look.specs.LookLaws.{IsInRange, LookAfter}
use Rattle.tree_look.proofs.LookStays.{look_stays}
use Rattle.tree_change.specs.declared.take.Take.{Take}
use Rattle.tree_change.specs.declared.take.Taken.{Taken}
use Rattle.tree_change.specs.declared.take.Taken.TheVariants as taken
use Rattle.tree_change.specs.declared.find_room.FindRoom.{FindRoom}
use Rattle.tree_change.specs.declared.room.Room.{Room}
use Rattle.tree_change.specs.declared.room.Room.TheVariants as room
use Rattle.tree_change.specs.declared.read_cell.ReadCell.{ReadCell}
use Rattle.tree_change.specs.declared.count.Count.{Count}
use Rattle.tree_change.specs.declared.others.Counted.{Counted}
use Rattle.tree_change.specs.declared.others.Counted.TheVariants as counts_as
use Rattle.tree_change.specs.declared.finish.Target.{Target}
use Rattle.tree_change.specs.declared.finish.Target.TheVariants as target
use Rattle.tree_change.specs.declared.finish.Finish.{Finish}
use Rattle.tree_change.specs.Begins.{spot_target}
use Rattle.tree_change.specs.Takes.{take_starts, take_turned, TakeAfter, take_left}
use Rattle.tree_change.specs.FindRooms.{find_room_starts, find_room_turned, FindRoomAfter}
use Rattle.tree_change.specs.declared.others.Others.{Others}
use Rattle.tree_change.specs.declared.others.Others.TheVariants as others
use Rattle.tree_change.specs.Others.{slot_count, others_left}
use Rattle.tree_change.specs.Rooms.{places_start, places_left, IsPlaces, IsRoomIn}
use Rattle.tree_change.specs.Reads.{read_starts, read_turned, read_told, read_all, ReadAfter}
use Rattle.tree_change.specs.Counts.{count_starts, count_turned, CountAfter}
use Rattle.tree_change.specs.Finishes.{finish_starts, quiet_starts, finish_turned, FinishAfter, finish_left, IsTarget, IsMarked}
use Rattle.tree_change.proofs.TakeExact.{take_stays}
use Rattle.tree_change.proofs.PlacesExact.{find_room_stays}
use Rattle.tree_change.proofs.ReadExact.{read_stays, kind_bounds}
use Rattle.tree_change.proofs.CountStays.{count_stays}
use Rattle.tree_change.proofs.FinishStays.{finish_stays}
use Rattle.tree_update.specs.declared.change.Change.{Change}
use Rattle.tree_update.specs.declared.change.ChangeAt.{ChangeAt}
use Rattle.tree_update.specs.declared.change.ChangeAt.TheVariants as at
use Rattle.tree_update.specs.declared.change.Site.{Site}
use Rattle.tree_update.specs.declared.change.Site.TheVariants as site
use Rattle.tree_update.specs.declared.change.NewCell.{NewCell}
use Rattle.tree_update.specs.declared.change.Ended.{Ended}
use Rattle.tree_update.specs.declared.change.Ended.TheVariants.{Made, Wrong}
use Rattle.tree_update.specs.declared.set.Set.{Set}
use Rattle.tree_update.specs.declared.set.Unset.{Unset}
use Rattle.tree_update.specs.Changes.{change_to, change_finishes, leaf_reference, no_leaf, has_looked, look_goes, looks, leaf_goes, takes_leaf, wants_cell, pair_cell, leaf_filled, fill_leaf_goes, fills_leaf, room_found, room_goes, finds_room, read_goes, reads_cell, cell_goes, takes_cell, filled_reference, fill_cell_goes, fills_cell, reads_depth, counted, count_goes, counts, reads_index, finish_goes, change_at_turned, change_turned, IsSite, IsNewCell, IsChangeAt, IsChange, change_takes, finish_most, take_cell_most, read_cell_most, find_room_most, fill_leaf_most, take_leaf_most, change_at_left, change_left}
use Rattle.tree_update.specs.Sets.{set_of, unset_of}
use Rattle.tree_update.specs.ChangeStays.{ChangeAfter, ChangesStay, SetAfter, SetsStay, UnsetAfter, UnsetsStay}

-- a leaf's reference has a mark
leaf_marked : (l : Layout) (leaf : ℕ) → l.nodes ≤ 4096 → leaf < leaf_count l → IsMarked l (leaf_reference leaf)
leaf_marked l leaf few lt = record {
  low = (let is : 1 ≤ (2 ^ 16 + leaf) / 2 ^ 16 = omega arith in is);
  high = (let is : (2 ^ 16 + leaf) / 2 ^ 16 ≤ 5 = omega arith in is);
  number = (let is : (2 ^ 16 + leaf) % 2 ^ 16 < leaf_count l = omega arith in is);
}

-- a spot's word is one to be stored
spot_within : (l : Layout) (spot : Spot) → IsSpot l spot → IsTarget l (spot_target spot)
spot_within l spot is = elim (spot.cell == 0) as (λ a. (spot.cell == 0) ≡ a → IsTarget l (cond a target.Root (target.Cell spot.cell spot.offset))) [
  | true ↦ λ e. tt
  | false ↦ λ e. is.place (eqb-false _ _ e)
] refl

-- where the parts begin, and how much they ask for at most
places_begin : (kind : ℕ) → 2 ≤ kind → kind ≤ 4 → IsPlaces kind (places_start kind) × (places_left kind (places_start kind) ≤ 1537)
places_begin kind least most = elim (cases_eq kind 2) [
  | inl two ↦ subst (λ k. IsPlaces k (places_start k) × (places_left k (places_start k) ≤ 1537)) (sym two) ((inl refl, (let lt : 0 < 4 = omega arith in lt)), (let le : 4 ≤ 1537 = omega arith in le))
  | inr not_two ↦ elim (cases_eq kind 3) [
    | inl three ↦ subst (λ k. IsPlaces k (places_start k) × (places_left k (places_start k) ≤ 1537)) (sym three) ((inr refl, (let lt : 0 < 16 = omega arith in lt)), (let le : 16 ≤ 1537 = omega arith in le))
    | inr not_three ↦ subst (λ k. IsPlaces k (places_start k) × (places_left k (places_start k) ≤ 1537)) (let four : 4 ≡ kind = omega (arith, not_two, not_three) in four) ((refl, (let lt : 0 < 48 = omega arith in lt), (let lt : 0 < 32 = omega arith in lt)), (let le : 32 * 48 + 1 ≤ 1537 = omega arith in le))
  ]
]

others_begin : (kind : ℕ) → (0 < slot_count kind) × (slot_count kind + 1 ≤ 257)
others_begin kind = elim (kind == 2) as (λ a. (0 < cond (a || kind == 3) (cond a 4 16) 256) × (cond (a || kind == 3) (cond a 4 16) 256 + 1 ≤ 257)) [
  | true ↦ ((let lt : 0 < 4 = omega arith in lt), (let le : 4 + 1 ≤ 257 = omega arith in le))
  | false ↦ elim (kind == 3) as (λ a. (0 < cond a 16 256) × (cond a 16 256 + 1 ≤ 257)) [
    | true ↦ ((let lt : 0 < 16 = omega arith in lt), (let le : 16 + 1 ≤ 257 = omega arith in le))
    | false ↦ ((let lt : 0 < 256 = omega arith in lt), (let le : 256 + 1 ≤ 257 = omega arith in le))
  ]
]

others_some : (kind : ℕ) (scan : Others) → 1 ≤ others_left kind scan
others_some kind (others.Slot slot one) = omega arith
others_some kind (others.Reference place) = (let le : 1 ≤ 1 = omega arith in le)

lines_bounds : (kind : ℕ) → (1 ≤ lines_of kind) × (lines_of kind ≤ 33)
lines_bounds kind = elim (kind == 2) as (λ a. (1 ≤ cond a 1 (cond (kind == 3) 3 (cond (kind == 4) 11 33))) × (cond a 1 (cond (kind == 3) 3 (cond (kind == 4) 11 33)) ≤ 33)) [
  | true ↦ ((let le : 1 ≤ 1 = omega arith in le), (let le : 1 ≤ 33 = omega arith in le))
  | false ↦ elim (kind == 3) as (λ a. (1 ≤ cond a 3 (cond (kind == 4) 11 33)) × (cond a 3 (cond (kind == 4) 11 33) ≤ 33)) [
    | true ↦ ((let le : 1 ≤ 3 = omega arith in le), (let le : 3 ≤ 33 = omega arith in le))
    | false ↦ elim (kind == 4) as (λ a. (1 ≤ cond a 11 33) × (cond a 11 33 ≤ 33)) [
      | true ↦ ((let le : 1 ≤ 11 = omega arith in le), (let le : 11 ≤ 33 = omega arith in le))
      | false ↦ ((let le : 1 ≤ 33 = omega arith in le), (let le : 33 ≤ 33 = omega arith in le))
    ]
  ]
]

-- what a look answers is in range, and a cell that was read has the kind that it had
pub look_range : (look : Look) (got : ℕ) (found : Looked) → look_takes look got → Done found ≡ look_turned look got → IsInRange look.layout found
look_range look got found takes is = subst (LookAfter look.layout look.key (look_left look)) (sym is) (look_stays look got takes)

pub read_kind : (read : ReadCell) (got : ℕ) (cell : cells.Cell) → Done cell ≡ read_turned read got → cell.kind ≡ read.cell.kind
read_kind read got cell is = go (ltb (read.offset + 1) (read_all read)) is
  where
    kind_in : Turn ReadCell cells.Cell → ℕ → ℕ
    kind_in (Go next) other = other
    kind_in (Done made) other = made.kind

    go : (more : Bool) → Done cell ≡ cond more (Go (record read { cell = read_told read got; offset = read.offset + 1 })) (Done (read_told read got)) → cell.kind ≡ read.cell.kind
    go true e = ap (λ turn. kind_in turn read.cell.kind) e
    go false e = ap (λ turn. kind_in turn read.cell.kind) e

-- and the next form of one is of a kind
pub larger_low : (cell made : cells.Cell) (byte reference : ℕ) → (2 ≤ cell.kind) × (cell.kind ≤ 4) → made ≡ larger_of cell byte reference → (2 ≤ made.kind) × (made.kind ≤ 5)
larger_low cell made byte reference kinds is =
    let kind : made.kind ≡ cell.kind + 1 = ap (λ (x : cells.Cell). x.kind) is ∙ larger_kind cell byte reference kinds in
    let low = kinds.0 in
    let high = kinds.1 in
    (omega arith, omega arith)

pub larger_read : (l : Layout) (key : List ℕ) (word : ℕ) (read : ReadCell) (spot : Spot) (byte leaf got : ℕ) (cell made : cells.Cell) → IsChangeAt l key word (at.ReadingCell read spot byte leaf) → Done cell ≡ read_turned read got → made ≡ larger_of cell byte (2 ^ 16 + leaf)
    → (2 ≤ made.kind) × (made.kind ≤ 5)
larger_read l key word read spot byte leaf got cell made here is made_is =
    let kind = read_kind read got cell is ∙ here.2.kind in
    larger_low cell made byte (2 ^ 16 + leaf) (subst (λ k. 2 ≤ k) (sym kind) here.0.cell.low, subst (λ k. k ≤ 4) (sym kind) here.2.most) made_is

pub pair_low : (made : cells.Cell) (depth : ℕ) (prefix : ℕ → ℕ) (one two : Branch) → made ≡ pair_of depth prefix one two → (2 ≤ made.kind) × (made.kind ≤ 5)
pair_low made depth prefix one two is =
    let kind : made.kind ≡ 2 = ap (λ (x : cells.Cell). x.kind) is ∙ pair_kind depth prefix one two in
    (omega arith, omega arith)

module _ (c : Change) (is : IsChange c) where
  abbrev l : Layout
  l = c.layout

  few : c.layout.nodes ≤ 4096
  few = is.layout.nodes.1

  goes : (part : ChangeAt) (left : ℕ) → IsChangeAt l c.key c.word part → change_at_left l part < left → ChangeAfter c left (change_to c part)
  goes part left here fewer = record {
    sound = record { layout = is.layout; key = is.key; word = is.word; here = here };
    layout_is = refl;
    key_is = refl;
    word_is = refl;
    fewer = fewer;
  }

  ends : (to : Target) (word free next left : ℕ) → IsTarget l to → word < 2 ^ 64 → (free ≢ 0 → IsMarked l free) → (next ≢ 0 → IsMarked l next) → 20 < left → ChangeAfter c left (change_finishes c to word free next)
  ends to word free next left is_to small is_free is_next less = goes (at.Finishing (finish_starts l (record { target = to; word = word }) free next)) left
      (record { layout = is.layout; quiet = is_to; switch = is_to; quiet_word = small; switch_word = small; free = is_free; next = is_next; here = tt }, refl) less

  -- nothing is free behind it
  none : {P : Type 0} → ◌≢◌ {A = ℕ} 0 0 → P
  none e = absurd (e refl)

  leaf_free : (leaf : ℕ) → leaf < leaf_count l → leaf_reference leaf ≢ 0 → IsMarked l (leaf_reference leaf)
  leaf_free leaf lt some_leaf = leaf_marked l leaf few lt

  no_leaf_after : (place : Site) (left : ℕ) → IsSite l c.key place → take_leaf_most l < left → ChangeAfter c left (no_leaf c place)
  no_leaf_after place left is_place less = elim (c.word == 0) as (λ a. (c.word == 0) ≡ a → ChangeAfter c left (cond a (Done Made) (change_to c (at.TakingLeaf (take_starts l 1) place)))) [
    | true ↦ λ e. tt
    | false ↦ λ e. goes (at.TakingLeaf (take_starts l 1) place) left (record { layout = is.layout; low = (let le : 1 ≤ 1 = omega arith in le); high = (let le : 1 ≤ 5 = omega arith in le); here = (let lt : 0 < leaf_count l = omega arith in lt) }, refl, refl, is_place, eqb-false _ _ e) (omega arith)
  ] refl

  looked_after : (found : Looked) (left : ℕ) → IsInRange l found → take_leaf_most l < left → ChangeAfter c left (has_looked c found)
  looked_after (looked.Key outer inner leaf) left within less = elim (c.word == 0) as (λ a. ChangeAfter c left (cond a (cond (inner.cell == 0) (Done Wrong) (change_to c (at.ReadingDepth leaf outer inner))) (change_finishes c (target.Leaf leaf WORDS) c.word 0 0))) [
    | true ↦ elim (inner.cell == 0) as (λ a. (inner.cell == 0) ≡ a → ChangeAfter c left (cond a (Done Wrong) (change_to c (at.ReadingDepth leaf outer inner)))) [
      | true ↦ λ e. tt
      | false ↦ λ e. goes (at.ReadingDepth leaf outer inner) left ((within.1.place (eqb-false _ _ e)).0, within.0, within.1, within.2) (omega arith)
    ] refl
    | false ↦
        let most = is.word in
        let small = few in
        ends (target.Leaf leaf WORDS) c.word 0 0 left (within.2, (let lt : 3 < 8 = omega arith in lt)) (omega arith) none none (omega arith)
  ]
  looked_after (looked.Nothing spot cell depth) left within less = no_leaf_after (site.Under spot cell (byte_at depth (key_number c.key))) left (within.0, within.1, byte_small depth (key_number c.key)) less
  looked_after (looked.Parts spot reference depth byte) left within less =
      let place = site.Beside spot reference depth byte in
      elim (leb key_bytes depth) as (λ a. leb key_bytes depth ≡ a → ChangeAfter c left (cond (a || byte == byte_at depth (key_number c.key)) (Done Wrong) (no_leaf c place))) [
        | true ↦ λ e. tt
        | false ↦ λ e. elim (byte == byte_at depth (key_number c.key)) as (λ a. (byte == byte_at depth (key_number c.key)) ≡ a → ChangeAfter c left (cond a (Done Wrong) (no_leaf c place))) [
          | true ↦ λ f. tt
          | false ↦ λ f. no_leaf_after place left (within.0, within.1, leb-false _ _ e, within.2, eqb-false _ _ f) less
        ] refl
      ] refl
  looked_after looked.Wrong left within less = tt

  looks_after : (look : Look) (got : ℕ) → IsChangeAt l c.key c.word (at.Looking look) → got < 2 ^ 64 → ChangeAfter c (change_at_left l (at.Looking look)) (looks c look got)
  looks_after look got here fits = go (look_turned look got) (look_stays look got (here.0, fits))
    where
      go : (turn : Turn Look Looked) → LookAfter look.layout look.key (look_left look) turn → ChangeAfter c (change_at_left l (at.Looking look)) (look_goes c turn)
      go (Go next) after = let fewer = after.3 in goes (at.Looking next) (change_at_left l (at.Looking look)) (after.0, after.1 ∙ here.1, after.2 ∙ here.2) (omega arith)
      go (Done found) after = looked_after found (change_at_left l (at.Looking look)) (subst (λ k. IsInRange k found) here.1 after) (omega arith)

  takes_leaf_after : (take : Take) (place : Site) (got : ℕ) → IsChangeAt l c.key c.word (at.TakingLeaf take place) → got < 2 ^ 64 → ChangeAfter c (change_at_left l (at.TakingLeaf take place)) (takes_leaf c take place got)
  takes_leaf_after take place got here fits = go (take_turned take got) (take_stays take got (here.0, fits))
    where
      left : ℕ
      left = take_left take + fill_leaf_most l + 1

      go : (turn : Turn Take Taken) → TakeAfter take (take_left take) turn → ChangeAfter c (change_at_left l (at.TakingLeaf take place)) (leaf_goes c place turn)
      go (Go next) after = let fewer = after.3 in goes (at.TakingLeaf next place) (change_at_left l (at.TakingLeaf take place)) (after.0, after.1 ∙ here.1, after.2 ∙ here.2, here.3, here.4) (omega arith)
      go (Done (taken.One number)) within =
          let most = is.word in
          let some_word = here.4 in
          let node : c.word - 1 < c.layout.nodes = omega (arith, some_word) in
          goes (at.FillingLeaf (fills.fill_leaf_start l number c.key (c.word - 1)) place) (change_at_left l (at.TakingLeaf take place))
          (record { layout = is.layout; number = subst (λ k. number < leaf_count k) here.1 within; key = is.key.fits; node = node; here = (let lt : 0 < 8 * 1 = omega arith in lt) }, refl, refl, (let same : c.word - 1 + 1 ≡ c.word = omega (arith, some_word) in same), here.3) (omega arith)
      go (Done taken.Absent) within = tt

  wants_after : (new : NewCell) (left : ℕ) → IsNewCell l new → take_cell_most l < left → ChangeAfter c left (wants_cell c new)
  wants_after new left is_new less =
      let low = is_new.low in
      goes (at.TakingCell (take_starts l new.cell.kind) new) left (record { layout = is.layout; low = (let le : 1 ≤ new.cell.kind = omega arith in le); high = is_new.high; here = (let lt : 0 < leaf_count l = omega arith in lt) }, refl, refl, is_new) (omega arith)

  filled_after : (leaf : ℕ) (place : Site) (left : ℕ) → leaf < leaf_count l → IsSite l c.key place → find_room_most l < left → ChangeAfter c left (leaf_filled c leaf place)
  filled_after leaf (site.Under spot cell byte) left lt is_place less = elim (kind_of cell == 5) as (λ a. (kind_of cell == 5) ≡ a → ChangeAfter c left (cond a (change_finishes c (target.Cell cell (8 + byte)) (leaf_reference leaf) 0 0) (change_to c (at.FindingRoom (find_room_starts l cell byte) spot leaf)))) [
    | true ↦ λ e.
        let small = is_place.2 in
        let within : 8 + byte < 264 = omega arith in
        let nodes = few in
        ends (target.Cell cell (8 + byte)) (leaf_reference leaf) 0 0 left (is_place.1, subst (λ k. 8 + byte < kind_words k) (sym (eqb-true _ _ e)) within) (omega arith) none none (omega arith)
    | false ↦ λ e.
        let high = is_place.1.high in
        let other = eqb-false _ _ e in
        let most : kind_of cell ≤ 4 = omega (arith, other) in
        goes (at.FindingRoom (find_room_starts l cell byte) spot leaf) left (record { layout = is.layout; cell = is_place.1; byte = is_place.2; here = (places_begin (kind_of cell) is_place.1.low most).0 }, refl, most, is_place.0, lt)
        (let start = (places_begin (kind_of cell) is_place.1.low most).1 in omega arith)
  ] refl
  filled_after leaf (site.Beside spot reference depth byte) left lt is_place less =
      let key = key_number c.key in
      let low = is_place.1.0 in
      let high = is_place.1.1 in
      let deep = is_place.2 in
      let small = is_place.3 in
      let own = byte_small depth key in
      let nodes = few in
      let kind = pair_kind depth (prefix_word depth (slice_index c.key)) (record { byte = byte; reference = reference }) (record { byte = byte_at depth key; reference = leaf_reference leaf }) in
      wants_after (record { cell = pair_cell c.key leaf reference depth byte; spot = spot; free = 0 }) left
      (record {
        low = subst (λ k. 2 ≤ k) (sym kind) (let le : 2 ≤ 2 = omega arith in le);
        high = subst (λ k. k ≤ 5) (sym kind) (let le : 2 ≤ 5 = omega arith in le);
        words = pair_fits depth (prefix_word depth (slice_index c.key)) (record { byte = byte; reference = reference }) (record { byte = byte_at depth key; reference = leaf_reference leaf }) (omega arith) (prefix_fits depth (slice_index c.key) is.key.fits) (omega arith) (omega arith);
        spot = is_place.0;
        free = none;
      }) (omega arith)

  fills_leaf_after : (fill : FillLeaf) (place : Site) (got : ℕ) → IsChangeAt l c.key c.word (at.FillingLeaf fill place) → got < 2 ^ 64 → ChangeAfter c (change_at_left l (at.FillingLeaf fill place)) (fills_leaf c fill place got)
  fills_leaf_after fill place got here fits = go (filling_next 1 fill.at got) (filling_fewer 1 fill.at got here.0.here fits)
    where
      go : (next : Option Filling) → Fewer 1 (filling_left 1 fill.at) next → ChangeAfter c (change_at_left l (at.FillingLeaf fill place)) (fill_leaf_goes c place fill.number (fills.fill_leaf_goes fill next))
      go (Some next) after =
          let fewer = after.1 in
          goes (at.FillingLeaf (record fill { at = next }) place) (change_at_left l (at.FillingLeaf fill place))
          (record { layout = here.0.layout; number = here.0.number; key = here.0.key; node = here.0.node; here = after.0 }, here.1, here.2, here.3, here.4) (omega arith)
      go None after = filled_after fill.number place (change_at_left l (at.FillingLeaf fill place)) (subst (λ k. fill.number < leaf_count k) here.1 here.0.number) here.4 (omega arith)

  room_after : (find : FindRoom) (spot : Spot) (leaf got : ℕ) (found : Room) (left : ℕ) → IsCellOf l find.cell → kind_of find.cell ≤ 4 → find.byte < 256 → IsSpot l spot → leaf < leaf_count l → got < 2 ^ 64 → IsRoomIn (kind_of find.cell) got found → read_cell_most l < left → ChangeAfter c left (room_found c find spot leaf found)
  room_after find spot leaf got (room.Entry offset) left cell most small is_spot lt fits within less =
      let nodes = few in
      ends (target.Cell find.cell offset) (entry_of find.byte (leaf_reference leaf)) 0 0 left (cell, within) (omega arith) none none (omega arith)
  room_after find spot leaf got (room.Place place index) left cell most small is_spot lt fits within less =
      let nodes = few in
      let four = sym within.0 in
      let in_place = within.1 in
      let first : 40 + place < 88 = omega arith in
      let second : 8 + find.byte / 8 < 88 = omega arith in
      goes (at.Finishing (quiet_starts l (record { target = target.Cell find.cell (40 + place); word = leaf_reference leaf }) (record { target = target.Cell find.cell (8 + find.byte / 8); word = byte_set index (find.byte % 8) (place + 1) }))) left (
        record {
          layout = is.layout;
          quiet = (cell, subst (λ k. 40 + place < kind_words k) four first);
          switch = (cell, subst (λ k. 8 + find.byte / 8 < kind_words k) four second);
          quiet_word = (let less' : 2 ^ 16 + leaf < 2 ^ 64 = omega arith in less');
          switch_word = byte_set_fits index (find.byte % 8) (place + 1) (omega arith) (subst (λ v. v < 2 ^ 64) (sym within.2) fits) (omega arith);
          free = none;
          next = none;
          here = tt;
        },
        refl,
      ) (omega arith)
  room_after find spot leaf got room.Full left cell most small is_spot lt fits within less =
      let all = kind_bounds (kind_of find.cell) cell.low cell.high in
      goes (at.ReadingCell (read_starts l find.cell) spot find.byte leaf) left
      (record { layout = is.layout; cell = cell; here = all.0 }, refl, record { kind = refl; most = most; words = zeros_fit 264 }, is_spot, small, lt) (let bound = all.1 in omega arith)

  finds_room_after : (find : FindRoom) (spot : Spot) (leaf got : ℕ) → IsChangeAt l c.key c.word (at.FindingRoom find spot leaf) → got < 2 ^ 64 → ChangeAfter c (change_at_left l (at.FindingRoom find spot leaf)) (finds_room c find spot leaf got)
  finds_room_after find spot leaf got here fits = go (find_room_turned find got) (find_room_stays find got (here.0, fits))
    where
      go : (turn : Turn FindRoom Room) → FindRoomAfter find got turn → ChangeAfter c (change_at_left l (at.FindingRoom find spot leaf)) (room_goes c find spot leaf turn)
      go (Go next) after =
          let fewer = after.4 in
          goes (at.FindingRoom next spot leaf) (change_at_left l (at.FindingRoom find spot leaf)) (after.0, after.1 ∙ here.1, subst (λ k. kind_of k ≤ 4) (sym after.2) here.2, here.3, here.4) (omega arith)
      go (Done found) after = room_after find spot leaf got found (change_at_left l (at.FindingRoom find spot leaf)) (subst (λ k. IsCellOf k find.cell) here.1 here.0.cell) here.2 here.0.byte here.3 here.4 fits after (omega arith)

  reads_cell_after : (read : ReadCell) (spot : Spot) (byte leaf got : ℕ) → IsChangeAt l c.key c.word (at.ReadingCell read spot byte leaf) → got < 2 ^ 64 → ChangeAfter c (change_at_left l (at.ReadingCell read spot byte leaf)) (reads_cell c read spot byte leaf got)
  reads_cell_after read spot byte leaf got here fits =
      let told = read_told read got in
      let words : Fits (words_of told) = set_list read.cell.words read.offset got here.2.words fits in
      let cell = here.0.cell in
      let kinds : (2 ≤ told.kind) × (told.kind ≤ 4) = (subst (λ k. 2 ≤ k) (sym here.2.kind) cell.low, subst (λ k. k ≤ 4) (sym here.2.kind) here.2.most) in
      let kind = larger_kind told byte (leaf_reference leaf) kinds in
      let low = kinds.0 in
      let high = kinds.1 in
      let nodes = few in
      let lt = here.5 in
      elim (ltb (read.offset + 1) (read_all read)) as (λ a. ltb (read.offset + 1) (read_all read) ≡ a → ReadAfter read (cond a (Go (record read { cell = told; offset = read.offset + 1 })) (Done told)) → ChangeAfter c (change_at_left l (at.ReadingCell read spot byte leaf)) (read_goes c read spot byte leaf (cond a (Go (record read { cell = told; offset = read.offset + 1 })) (Done told)))) [
        | true ↦ λ e after.
            let fewer = after.3 in
            goes (at.ReadingCell (record read { cell = told; offset = read.offset + 1 }) spot byte leaf) (change_at_left l (at.ReadingCell read spot byte leaf))
            (after.0, here.1, record { kind = here.2.kind; most = here.2.most; words = words }, here.3, here.4, here.5) (omega arith)
        | false ↦ λ e after. wants_after (record { cell = larger_of told byte (leaf_reference leaf); spot = spot; free = read.reference }) (change_at_left l (at.ReadingCell read spot byte leaf))
            (record {
              low = subst (λ k. 2 ≤ k) (sym kind) (omega arith);
              high = subst (λ k. k ≤ 5) (sym kind) (omega arith);
              words = larger_fits told byte (leaf_reference leaf) here.4 (omega arith) words;
              spot = here.3;
              free = λ some_cell. let of_l = subst (λ k. IsCellOf k read.reference) here.1 cell in let two = of_l.low in record { low = (let le : 1 ≤ kind_of read.reference = omega arith in le); high = of_l.high; number = of_l.number };
            }) (omega arith)
      ] refl (read_stays read got (here.0, fits))

  takes_cell_after : (take : Take) (new : NewCell) (got : ℕ) → IsChangeAt l c.key c.word (at.TakingCell take new) → got < 2 ^ 64 → ChangeAfter c (change_at_left l (at.TakingCell take new)) (takes_cell c take new got)
  takes_cell_after take new got here fits = go (take_turned take got) (take_stays take got (here.0, fits))
    where
      go : (turn : Turn Take Taken) → TakeAfter take (take_left take) turn → ChangeAfter c (change_at_left l (at.TakingCell take new)) (cell_goes c new turn)
      go (Go next) after = let fewer = after.3 in goes (at.TakingCell next new) (change_at_left l (at.TakingCell take new)) (after.0, after.1 ∙ here.1, after.2 ∙ here.2, here.3) (omega arith)
      go (Done (taken.One number)) within =
          let some_line = (lines_bounds new.cell.kind).0 in
          let lines = (lines_bounds new.cell.kind).1 in
          goes (at.FillingCell (fills.fill_cell_start l number new.cell) new.spot new.free) (change_at_left l (at.TakingCell take new))
          (record { layout = is.layout; kind = (here.3.low, here.3.high); number = subst (λ k. number < leaf_count k) here.1 within; words = here.3.words; here = (let lt : 0 < 8 * lines_of new.cell.kind = omega arith in lt) }, refl, here.3.spot, here.3.free) (omega arith)
      go (Done taken.Absent) within = tt

  fills_cell_after : (fill : FillCell) (spot : Spot) (free got : ℕ) → IsChangeAt l c.key c.word (at.FillingCell fill spot free) → got < 2 ^ 64 → ChangeAfter c (change_at_left l (at.FillingCell fill spot free)) (fills_cell c fill spot free got)
  fills_cell_after fill spot free got here fits = go (filling_next (lines_of fill.cell.kind) fill.at got) (filling_fewer (lines_of fill.cell.kind) fill.at got here.0.here fits)
    where
      go : (next : Option Filling) → Fewer (lines_of fill.cell.kind) (filling_left (lines_of fill.cell.kind) fill.at) next → ChangeAfter c (change_at_left l (at.FillingCell fill spot free)) (fill_cell_goes c spot free (filled_reference fill) (fills.fill_cell_goes fill next))
      go (Some next) after =
          let fewer = after.1 in
          goes (at.FillingCell (record fill { at = next }) spot free) (change_at_left l (at.FillingCell fill spot free))
          (record { layout = here.0.layout; kind = here.0.kind; number = here.0.number; words = here.0.words; here = after.0 }, here.1, here.2, here.3) (omega arith)
      go None after =
          let high = here.2.high in
          let kind = here.0.kind.1 in
          let number : fill.number < leaf_count l = subst (λ k. fill.number < leaf_count k) here.1 here.0.number in
          let nodes = few in
          ends (spot_target spot) (spot.high + filled_reference fill) free 0 (change_at_left l (at.FillingCell fill spot free)) (spot_within l spot here.2) (omega arith) here.3 none (omega arith)

  reads_depth_after : (leaf : ℕ) (outer inner : Spot) (got : ℕ) → IsChangeAt l c.key c.word (at.ReadingDepth leaf outer inner) → ChangeAfter c (change_at_left l (at.ReadingDepth leaf outer inner)) (reads_depth c leaf outer inner got)
  reads_depth_after leaf outer inner got here =
      let byte = byte_at got (key_number c.key) in
      elim (leb key_bytes got) as (λ a. ChangeAfter c (change_at_left l (at.ReadingDepth leaf outer inner)) (cond a (Done Wrong) (change_to c (at.Counting (count_starts l inner.cell byte) leaf outer inner)))) [
        | true ↦ tt
        | false ↦
            let start = others_begin (kind_of inner.cell) in
            goes (at.Counting (count_starts l inner.cell byte) leaf outer inner) (change_at_left l (at.ReadingDepth leaf outer inner))
            (record { layout = is.layout; cell = here.0; byte = byte_small got (key_number c.key); here = start.0 }, refl, refl, here.1, here.2, here.3) (let bound = start.1 in omega arith)
      ]

  counted_after : (count : Count) (leaf : ℕ) (outer inner : Spot) (children : Counted) (left : ℕ) → IsCellOf l count.cell → count.byte < 256 → IsSpot l outer → IsSpot l inner → leaf < leaf_count l → finish_most + 2 < left → ChangeAfter c left (counted c count leaf outer inner children)
  counted_after count leaf outer inner counts_as.Two left cell small is_outer is_inner lt less = elim (kind_of count.cell == 4) as (λ a. (kind_of count.cell == 4) ≡ a → ChangeAfter c left (cond a (change_to c (at.ReadingIndex count.cell count.byte leaf)) (change_finishes c (spot_target inner) 0 (leaf_reference leaf) 0))) [
    | true ↦ λ e. goes (at.ReadingIndex count.cell count.byte leaf) left (cell, eqb-true _ _ e, small, lt) (omega arith)
    | false ↦ λ e. ends (spot_target inner) 0 (leaf_reference leaf) 0 left (spot_within l inner is_inner) (let z : 0 < 2 ^ 64 = omega arith in z) (leaf_free leaf lt) none (omega arith)
  ] refl
  counted_after count leaf outer inner (counts_as.One reference) left cell small is_outer is_inner lt less = elim (leb (2 ^ 32) reference) as (λ a. leb (2 ^ 32) reference ≡ a → ChangeAfter c left (cond a (Done Wrong) (change_finishes c (spot_target outer) (outer.high + reference) (leaf_reference leaf) count.cell))) [
    | true ↦ λ e. tt
    | false ↦ λ e.
        let below = leb-false _ _ e in
        let high = is_outer.high in
        let low = cell.low in
        ends (spot_target outer) (outer.high + reference) (leaf_reference leaf) count.cell left (spot_within l outer is_outer) (omega arith) (leaf_free leaf lt) (λ some_cell. record { low = (let le : 1 ≤ kind_of count.cell = omega arith in le); high = cell.high; number = cell.number }) (omega arith)
  ] refl
  counted_after count leaf outer inner counts_as.Absent left cell small is_outer is_inner lt less = tt

  counts_after : (count : Count) (leaf : ℕ) (outer inner : Spot) (got : ℕ) → IsChangeAt l c.key c.word (at.Counting count leaf outer inner) → got < 2 ^ 64 → ChangeAfter c (change_at_left l (at.Counting count leaf outer inner)) (counts c count leaf outer inner got)
  counts_after count leaf outer inner got here fits = go (count_turned count got) (count_stays count got (here.0, fits))
    where
      go : (turn : Turn Count Counted) → CountAfter count turn → ChangeAfter c (change_at_left l (at.Counting count leaf outer inner)) (count_goes c count leaf outer inner turn)
      go (Go next) after =
          let fewer = after.4 in
          goes (at.Counting next leaf outer inner) (change_at_left l (at.Counting count leaf outer inner)) (after.0, after.1 ∙ here.1, after.2 ∙ here.2, here.3, here.4, here.5) (omega arith)
      go (Done children) after =
          let some_left = others_some (kind_of count.cell) count.others in
          counted_after count leaf outer inner children (change_at_left l (at.Counting count leaf outer inner)) (subst (λ k. IsCellOf k count.cell) here.1 here.0.cell) here.0.byte here.3 here.4 here.5 (omega arith)

  reads_index_after : (cell byte leaf got : ℕ) → IsChangeAt l c.key c.word (at.ReadingIndex cell byte leaf) → got < 2 ^ 64 → ChangeAfter c (change_at_left l (at.ReadingIndex cell byte leaf)) (reads_index c cell byte leaf got)
  reads_index_after cell byte leaf got here fits =
      let small = here.2 in
      let within : 8 + byte / 8 < 88 = omega arith in
      ends (target.Cell cell (8 + byte / 8)) (byte_set got (byte % 8) 0) (leaf_reference leaf) 0 (finish_most + 1) (here.0, subst (λ k. 8 + byte / 8 < kind_words k) (sym here.1) within)
      (byte_set_fits got (byte % 8) 0 (omega arith) fits (omega arith)) (leaf_free leaf here.3) none (let lt : 20 < 38 = omega arith in lt)

  finishes_after : (finish : Finish) (got : ℕ) → IsChangeAt l c.key c.word (at.Finishing finish) → got < 2 ^ 64 → ChangeAfter c (change_at_left l (at.Finishing finish)) (finish_goes c (finish_turned finish got))
  finishes_after finish got here fits = go (finish_turned finish got) (finish_stays finish got (here.0, fits))
    where
      go : (turn : Turn Finish (Unit {0})) → FinishAfter finish (finish_left finish) turn → ChangeAfter c (change_at_left l (at.Finishing finish)) (finish_goes c turn)
      go (Go next) after = goes (at.Finishing next) (finish_left finish) (after.is, after.layout ∙ here.1) after.fewer
      go (Done answer) after = tt

  after_turn : (part : ChangeAt) (got : ℕ) → IsChangeAt l c.key c.word part → got < 2 ^ 64 → ChangeAfter c (change_at_left l part) (change_at_turned c part got)
  after_turn (at.Looking look) got here fits = looks_after look got here fits
  after_turn (at.TakingLeaf take place) got here fits = takes_leaf_after take place got here fits
  after_turn (at.FillingLeaf fill place) got here fits = fills_leaf_after fill place got here fits
  after_turn (at.FindingRoom find spot leaf) got here fits = finds_room_after find spot leaf got here fits
  after_turn (at.ReadingCell read spot byte leaf) got here fits = reads_cell_after read spot byte leaf got here fits
  after_turn (at.TakingCell take new) got here fits = takes_cell_after take new got here fits
  after_turn (at.FillingCell fill spot free) got here fits = fills_cell_after fill spot free got here fits
  after_turn (at.ReadingDepth leaf outer inner) got here fits = reads_depth_after leaf outer inner got here
  after_turn (at.Counting count leaf outer inner) got here fits = counts_after count leaf outer inner got here fits
  after_turn (at.ReadingIndex cell byte leaf) got here fits = reads_index_after cell byte leaf got here fits
  after_turn (at.Finishing finish) got here fits = finishes_after finish got here fits

pub changes_stay : ChangesStay
changes_stay c got takes = after_turn c takes.0 c.at got takes.0.here takes.1

pub change_fewer : (c : Change) (got : ℕ) → change_takes c got → GoesBelow {A = Ended} change_left (change_left c) (change_turned c got)
change_fewer c got takes = go (change_turned c got) (changes_stay c got takes)
  where
    go : (turn : Turn Change Ended) → ChangeAfter c (change_left c) turn → GoesBelow {A = Ended} change_left (change_left c) turn
    go (Go next) after = after.fewer
    go (Done ended) after = tt

-- a set, and an unset, told in place
pub set_advances : (change : Change) (answer : Option Ended) → set_of (turn_of change answer) ≡ turn_of (let set : Set = record { change = change } in set) answer
set_advances change None = refl
set_advances change (Some ended) = refl

pub unset_advances : (change : Change) (answer : Option Ended) → unset_of (turn_of change answer) ≡ turn_of (let unset : Unset = record { change = change } in unset) answer
unset_advances change None = refl
unset_advances change (Some ended) = refl

pub sets_stay : SetsStay
sets_stay set got takes = go (change_turned set.change got) (changes_stay set.change got (takes.0.change, takes.1))
  where
    go : (turn : Turn Change Ended) → ChangeAfter set.change (change_left set.change) turn → SetAfter set (set_of turn)
    go (Go next) after = (record { change = after.sound; word = λ e. takes.0.word (sym after.word_is ∙ e) }, after)
    go (Done ended) after = tt

pub unsets_stay : UnsetsStay
unsets_stay unset got takes = go (change_turned unset.change got) (changes_stay unset.change got (takes.0.change, takes.1))
  where
    go : (turn : Turn Change Ended) → ChangeAfter unset.change (change_left unset.change) turn → UnsetAfter unset (unset_of turn)
    go (Go next) after = (record { change = after.sound; word = after.word_is ∙ takes.0.word; key = subst (λ k. key_number k ≢ 0) (sym after.key_is) takes.0.key }, after)
    go (Done ended) after = tt
