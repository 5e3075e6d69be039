-- Each action of a change is on a word of the layer; a drain of the root's line gives the word in hand.
use Rattle.std.proofs.Common.{◌≡◌, ℕ, ◌+◌, ◌/◌, ◌<◌, true, List, slice_index, refl, sym, subst, arith}
use Rattle.pm_words.specs.declared.layout.Layout.{Layout}
use Rattle.pm_words.specs.declared.action.Action.{Action}
use Rattle.pm_words.specs.declared.action.Action.TheVariants.{Load, Store, Drain}
use Rattle.pm_words.specs.declared.fence.FenceAt.{FenceAt}
use Rattle.pm_words.specs.declared.fence.FenceAt.TheVariants as fence_at
use Rattle.pm_words.specs.Fences.{fence_at_asks}
use Rattle.pm_words.specs.Locations.{Word, Root, Leaf, Cell, Location, Mark, Cached, HasWord, HasLocation, kind_words}
use Rattle.pm_words.specs.Locations.{address_of}
use Rattle.pm_words.specs.Offsets.{reference_offset, depth_offset}
use Rattle.radix_nodes.specs.declared.filling.Filling.{Filling}
use Rattle.radix_nodes.specs.declared.filling.Filling.TheVariants as filling
use Rattle.radix_nodes.specs.declared.fill_leaf.FillLeaf.{FillLeaf}
use Rattle.radix_nodes.specs.declared.fill_cell.FillCell.{FillCell}
use Rattle.radix_nodes.specs.Cells.{words_of}
use Rattle.radix_nodes.specs.Fills.{filling_offset, filling_asks, IsFillLeaf, fill_leaf_asks, leaf_value, IsFillCell}
use Rattle.radix_nodes.specs.Fills.{fill_cell_asks, lines_of}
use Rattle.tree_law.specs.Words.{LayerWord, kind_of, number_of}
use Rattle.tree_row.specs.Rows.{image_word, HasLayerWord, layer_address}
use Rattle.tree_floor.specs.Floors.{cell_word}
use Rattle.tree_update.specs.tree_look.specs.Looks.{look_word}
use Rattle.tree_update.specs.tree_change.specs.declared.take.Take.{Take}
use Rattle.tree_update.specs.tree_change.specs.declared.take.TakeAt.{TakeAt}
use Rattle.tree_update.specs.tree_change.specs.declared.take.TakeAt.TheVariants as take_at
use Rattle.tree_update.specs.tree_change.specs.declared.finish.Target.{Target}
use Rattle.tree_update.specs.tree_change.specs.declared.finish.Target.TheVariants as target
use Rattle.tree_update.specs.tree_change.specs.declared.finish.Finish.{Finish}
use Rattle.tree_update.specs.tree_change.specs.declared.finish.FinishAt.{FinishAt}
use Rattle.tree_update.specs.tree_change.specs.declared.finish.FinishAt.TheVariants as finish_at
use Rattle.tree_update.specs.tree_change.specs.Takes.{IsTake, IsTakeAt, take_asks, take_at_asks}
use Rattle.tree_update.specs.tree_change.specs.Finishes.{target_image, line_image, IsFinish, IsFinishAt, finish_asks}
use Rattle.tree_update.specs.tree_change.specs.Finishes.{finish_at_asks}
use Rattle.tree_update.specs.tree_change.specs.Counts.{count_word}
use Rattle.tree_update.specs.tree_change.specs.FindRooms.{find_room_word}
use Rattle.tree_update.specs.tree_change.specs.Reads.{read_word}
use Rattle.tree_update.specs.tree_change.proofs.ActsLaw.{offset_within, whole_lines}
use Rattle.tree_update.specs.tree_change.proofs.MarkSteps.{target_has, line_has}
use Rattle.tree_update.specs.declared.change.ChangeAt.{ChangeAt}
use Rattle.tree_update.specs.declared.change.ChangeAt.TheVariants as at
use Rattle.tree_update.specs.Changes.{IsChangeAt, change_at_asks}
use Rattle.tree_update.proofs.Loads.{look_has, count_has, room_has, read_has, head_has, cell_has}
use Rattle.layer_map.specs.Places.{is_of_layer}
use Rattle.search_layer.specs.Laws.{IsOnLayer, SetsBeginSound, UnsetsBeginSound, ChangesStayOnLayer}
use Rattle.search_layer.specs.Laws as laws
use Rattle.search_layer.specs.RootLine.{HoldsWord, HoldsIn, HoldsPart}
use Rattle.search_layer.proofs.RowLemmas.{is_place}

-- a word of a leaf or a cell, and one of the tree
abbrev pub IsBody : Word → Type 0
IsBody (Leaf k o) = Unit {0}
IsBody (Cell kind k o) = Unit {0}
IsBody _ = ⊥

abbrev pub IsOfTree : Word → Type 0
IsOfTree (Root o) = o ≡ reference_offset
IsOfTree (Leaf k o) = Unit {0}
IsOfTree (Cell kind k o) = Unit {0}
IsOfTree _ = ⊥

-- an action on the layer, where this holds of what is drained into the root's line
pub data ActsIn (l : Layout) (P : ℕ → ℕ → Type 0) : Action → Type 0 where
  loads : (p : Location) → HasLocation l p → is_of_layer p ≡ true → ActsIn l P (Load (address_of l p))
  stores : (w : Word) {y : ℕ} → HasWord l w → IsOfTree w → is_of_layer (Cached w) ≡ true → ActsIn l P (Store (address_of l (Cached w)) y)
  marks : (kind number : ℕ) {y : ℕ} → HasLocation l (Mark kind number) → ActsIn l P (Store (address_of l (Mark kind number)) y)
  drains : (w : Word) {y : ℕ} → HasWord l w → IsBody w → is_of_layer (Cached w) ≡ true → ActsIn l P (Drain (address_of l (Cached w)) y)
  drains_root : (o : ℕ) {y : ℕ} → o < 8 → P o y → ActsIn l P (Drain (address_of l (Cached (Root o))) y)

module _ (P : ℕ → ℕ → Type 0) where
  body_fence : (l : Layout) (w : Word) (place : FenceAt) → HasWord l w → IsBody w → is_of_layer (Cached w) ≡ true → ActsIn l P (fence_at_asks (address_of l (Cached w)) place)
  body_fence l w fence_at.Load has body of = loads (Cached w) has of
  body_fence l w (fence_at.Drain value) has body of = drains w has body of

  root_fence : (l : Layout) (word : ℕ) (place : FenceAt) → word < 8 → HoldsWord P target.Root word place → ActsIn l P (fence_at_asks (address_of l (Cached (Root word))) place)
  root_fence l word fence_at.Load small holds = loads (Cached (Root word)) small refl
  root_fence l word (fence_at.Drain value) small holds = drains_root word small holds

  line_fence : (l : Layout) (p : Target) (word : ℕ) (place : FenceAt) → HasWord l (line_image p word) → HoldsWord P p word place → ActsIn l P (fence_at_asks (address_of l (Cached (line_image p word))) place)
  line_fence l target.Root word place has holds = root_fence l word place has holds
  line_fence l (target.Leaf leaf offset) word place has holds = body_fence l (line_image (target.Leaf leaf offset) word) place has tt refl
  line_fence l (target.Cell cell offset) word place has holds = body_fence l (line_image (target.Cell cell offset) word) place has tt refl

  target_store : (l : Layout) (p : Target) (y : ℕ) → HasWord l (target_image p) → ActsIn l P (Store (address_of l (Cached (target_image p))) y)
  target_store l target.Root y has = stores (Root reference_offset) has refl refl
  target_store l (target.Leaf leaf offset) y has = stores (Leaf leaf offset) has tt refl
  target_store l (target.Cell cell offset) y has = stores (Cell (kind_of cell) (number_of cell) offset) has tt refl

  filling_in : (l : Layout) (w : Word) (value : ℕ) (f : Filling) → HasWord l w → IsBody w → IsOfTree w → is_of_layer (Cached w) ≡ true → ActsIn l P (filling_asks (address_of l (Cached w)) value f)
  filling_in l w value (filling.Store offset) has body tree of = stores w has tree of
  filling_in l w value (filling.Drain line fence) has body tree of = body_fence l w fence.at has body of

  take_in : (take : Take) → IsTake take → ActsIn take.layout P (take_asks take)
  take_in take is = by_part take.at is.here
    where
      by_part : (part : TakeAt) → IsTakeAt take.layout part → ActsIn take.layout P (take_at_asks take part)
      by_part (take_at.Seek number) here = loads (Mark take.kind number) (is.low, is.high, here) refl
      by_part (take_at.Mark number) here = marks take.kind number (is.low, is.high, here)

  finish_in : (f : Finish) → IsFinish f → HoldsIn P f f.at → ActsIn f.layout P (finish_asks f)
  finish_in f is holds = by_part f.at is.here holds
    where
      by_part : (part : FinishAt) → IsFinishAt f.layout part → HoldsIn P f part → ActsIn f.layout P (finish_at_asks f part)
      by_part finish_at.Quiet here hold = target_store f.layout f.quiet.target f.quiet.word (target_has f.layout f.quiet.target is.quiet)
      by_part (finish_at.QuietFence fence) here hold = line_fence f.layout f.quiet.target fence.word fence.at (line_has f.layout f.quiet.target fence.word is.quiet here.word) hold
      by_part finish_at.Switch here hold = target_store f.layout f.switch.target f.switch.word (target_has f.layout f.switch.target is.switch)
      by_part (finish_at.SwitchFence fence) here hold = line_fence f.layout f.switch.target fence.word fence.at (line_has f.layout f.switch.target fence.word is.switch here.word) hold
      by_part (finish_at.Unmark reference) here hold = marks (kind_of reference) (number_of reference) (here.low, here.high, here.number)

  leaf_in : (m : FillLeaf) → IsFillLeaf m → ActsIn m.layout P (fill_leaf_asks m)
  leaf_in m is =
      let within = offset_within 1 m.at is.here in
      let offset = filling_offset m.at in
      filling_in m.layout (Leaf m.number offset) (leaf_value (slice_index m.key) m.node offset) m.at (is.number, (let less : offset < 8 = omega arith in less)) tt tt refl

  cell_in : (m : FillCell) → IsFillCell m → ActsIn m.layout P (fill_cell_asks m)
  cell_in m is =
      let offset = filling_offset m.at in
      let within : offset < kind_words m.cell.kind = subst (λ k. offset < k) (whole_lines m.cell.kind is.kind.0 is.kind.1) (offset_within (lines_of m.cell.kind) m.at is.here) in
      filling_in m.layout (Cell m.cell.kind m.number offset) (words_of m.cell offset) m.at (is.kind.0, is.kind.1, is.number, within) tt tt refl

  word_in : (l : Layout) (p : LayerWord) → HasLayerWord l p → ActsIn l P (Load (layer_address l p))
  word_in l p has = loads (Cached (image_word p)) has (is_place p)

  pub part_in : (l : Layout) (key : List ℕ) (word : ℕ) (part : ChangeAt) → IsChangeAt l key word part → HoldsPart P part → ActsIn l P (change_at_asks l part)
  part_in l key word (at.Looking look) here holds = subst (λ k. ActsIn k P (Load (layer_address look.layout (look_word look.at look.key)))) here.1 (word_in look.layout (look_word look.at look.key) (look_has look here.0))
  part_in l key word (at.TakingLeaf take place) here holds = subst (λ k. ActsIn k P (take_asks take)) here.1 (take_in take here.0)
  part_in l key word (at.FillingLeaf fill place) here holds = subst (λ k. ActsIn k P (fill_leaf_asks fill)) here.1 (leaf_in fill here.0)
  part_in l key word (at.FindingRoom look spot leaf) here holds = subst (λ k. ActsIn k P (Load (layer_address look.layout (find_room_word look)))) here.1 (word_in look.layout (find_room_word look) (room_has look here.0))
  part_in l key word (at.ReadingCell read spot byte leaf) here holds = subst (λ k. ActsIn k P (Load (layer_address read.layout (read_word read)))) here.1 (word_in read.layout (read_word read) (read_has read here.0))
  part_in l key word (at.TakingCell take new) here holds = subst (λ k. ActsIn k P (take_asks take)) here.1 (take_in take here.0)
  part_in l key word (at.FillingCell fill spot free) here holds = subst (λ k. ActsIn k P (fill_cell_asks fill)) here.1 (cell_in fill here.0)
  part_in l key word (at.ReadingDepth leaf outer inner) here holds = word_in l (cell_word inner.cell depth_offset) (head_has l inner.cell depth_offset here.0 (omega arith))
  part_in l key word (at.Counting look leaf outer inner) here holds = subst (λ k. ActsIn k P (Load (layer_address look.layout (count_word look)))) here.1 (word_in look.layout (count_word look) (count_has look here.0))
  part_in l key word (at.ReadingIndex cell byte leaf) here holds =
      let small = here.2 in
      let in_4 : 8 + byte / 8 < 88 = omega arith in
      word_in l (cell_word cell (8 + byte / 8)) (cell_has l cell (8 + byte / 8) here.0 (subst (λ k. 8 + byte / 8 < kind_words k) (sym here.1) in_4))
  part_in l key word (at.Finishing finish) here holds = subst (λ k. ActsIn k P (finish_asks finish)) here.1 (finish_in finish here.0 holds)

-- whatever is in hand
word_holds : (p : Target) (word : ℕ) (place : FenceAt) → HoldsWord (λ o y. Unit {0}) p word place
word_holds target.Root word fence_at.Load = tt
word_holds target.Root word (fence_at.Drain value) = tt
word_holds (target.Leaf leaf offset) word place = tt
word_holds (target.Cell cell offset) word place = tt

finish_holds : (f : Finish) (place : FinishAt) → HoldsIn (λ o y. Unit {0}) f place
finish_holds f finish_at.Quiet = tt
finish_holds f (finish_at.QuietFence fence) = word_holds f.quiet.target fence.word fence.at
finish_holds f finish_at.Switch = tt
finish_holds f (finish_at.SwitchFence fence) = word_holds f.switch.target fence.word fence.at
finish_holds f (finish_at.Unmark reference) = tt

part_holds : (part : ChangeAt) → HoldsPart (λ o y. Unit {0}) part
part_holds (at.Looking look) = tt
part_holds (at.TakingLeaf take place) = tt
part_holds (at.FillingLeaf fill place) = tt
part_holds (at.FindingRoom look spot leaf) = tt
part_holds (at.ReadingCell read spot byte leaf) = tt
part_holds (at.TakingCell take new) = tt
part_holds (at.FillingCell fill spot free) = tt
part_holds (at.ReadingDepth leaf outer inner) = tt
part_holds (at.Counting look leaf outer inner) = tt
part_holds (at.ReadingIndex cell byte leaf) = tt
part_holds (at.Finishing finish) = finish_holds finish finish.at

on_layer : (l : Layout) {a : Action} → ActsIn l (λ o y. Unit {0}) a → IsOnLayer l a
on_layer l (loads p has of) = laws.loads p has of
on_layer l (stores w has tree of) = laws.stores (Cached w) has of
on_layer l (marks kind number has) = laws.stores (Mark kind number) has refl
on_layer l (drains w has body of) = laws.drains (Cached w) has of
on_layer l (drains_root o small holds) = laws.drains (Cached (Root o)) small refl

pub changes_stay_on_layer : ChangesStayOnLayer
changes_stay_on_layer change is = on_layer change.layout (part_in (λ o y. Unit {0}) change.layout change.key change.word change.at is.here (part_holds change.at))

-- Sets and unsets begin sound.
pub sets_begin_sound : SetsBeginSound
sets_begin_sound l key node layout is lt = record {
  change = record {
    layout = layout;
    key = is;
    word = omega arith;
    here = (record { layout = layout; key = is; outer = record { place = λ some_cell. absurd (some_cell refl); high = omega arith }; inner = record { place = λ some_cell. absurd (some_cell refl); high = omega arith }; here = refl }, refl, refl);
  };
  word = λ none. omega arith;
}

pub unsets_begin_sound : UnsetsBeginSound
unsets_begin_sound l key layout is some_key = record {
  change = record {
    layout = layout;
    key = is;
    word = omega arith;
    here = (record { layout = layout; key = is; outer = record { place = λ some_cell. absurd (some_cell refl); high = omega arith }; inner = record { place = λ some_cell. absurd (some_cell refl); high = omega arith }; here = refl }, refl, refl);
  };
  word = refl;
  key = some_key;
}
