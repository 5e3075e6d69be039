-- The actions of a change can be done, whatever the words are.
use Rattle.std.proofs.Common.{◌≡◌, ◌≢◌, ℕ, ◌+◌, ◌/◌, ◌^◌, ◌<◌, ◌≤◌, ◌==◌, ltb, cond, true, false, List, slice_index, sym, subst, arith}
use Rattle.pm_words.specs.declared.layout.Layout.{Layout}
use Rattle.pm_words.specs.declared.action.Action.TheVariants.{Load, Store, Drain}
use Rattle.pm_words.specs.declared.fence.Fence.{Fence}
use Rattle.pm_words.specs.declared.fence.FenceAt.{FenceAt}
use Rattle.pm_words.specs.declared.fence.FenceAt.TheVariants as fence_at
use Rattle.pm_words.specs.Fences.{IsFence, IsFenceAt, fence_asks, fence_at_asks}
use Rattle.pm_words.specs.Locations.{Word, Header, Leaf, Cell, Location, Mark, Cached, HasWord, HasLocation, kind_words, address_of}
use Rattle.pm_words.specs.Rows.{CanAct}
use Rattle.pm_words.specs.Offsets.{depth_offset}
use Rattle.pm_words.proofs.Apart.{addresses_within}
use Rattle.pm_words.proofs.Kept.{outside_header, keeps_header, names_cached}
use Rattle.radix_nodes.specs.declared.filling.Filling.{Filling}
use Rattle.radix_nodes.specs.declared.filling.Filling.TheVariants as filling
use Rattle.radix_nodes.specs.declared.fill_leaf.FillLeaf.{FillLeaf}
use Rattle.radix_nodes.specs.declared.fill_cell.FillCell.{FillCell}
use Rattle.radix_nodes.specs.Cells.{words_of}
use Rattle.radix_nodes.specs.Fills.{IsFilling, filling_offset, filling_asks, IsFillLeaf, fill_leaf_asks, leaf_value, IsFillCell, fill_cell_asks, lines_of}
use Rattle.tree_law.specs.Words.{LayerWord, kind_of, number_of}
use Rattle.tree_row.specs.Rows.{image_word, HasLayerWord, layer_address}
use Rattle.tree_floor.specs.Floors.{cell_word}
use Rattle.tree_look.specs.Looks.{look_word}
use Rattle.tree_change.specs.declared.take.Take.{Take}
use Rattle.tree_change.specs.declared.take.TakeAt.{TakeAt}
use Rattle.tree_change.specs.declared.take.TakeAt.TheVariants as take_at
use Rattle.tree_change.specs.declared.finish.Target.{Target}
use Rattle.tree_change.specs.declared.finish.Target.TheVariants as target
use Rattle.tree_change.specs.declared.finish.Finish.{Finish}
use Rattle.tree_change.specs.declared.finish.FinishAt.{FinishAt}
use Rattle.tree_change.specs.declared.finish.FinishAt.TheVariants as finish_at
use Rattle.tree_change.specs.Takes.{IsTake, IsTakeAt, take_asks, take_at_asks}
use Rattle.tree_change.specs.Finishes.{target_image, line_image, IsFinish, IsFinishAt, finish_asks, finish_at_asks}
use Rattle.tree_change.specs.Counts.{count_word}
use Rattle.tree_change.specs.FindRooms.{find_room_word}
use Rattle.tree_change.specs.Reads.{read_word}
use Rattle.tree_change.proofs.ActsLaw.{offset_within, whole_lines}
use Rattle.tree_change.proofs.MarkSteps.{target_has, line_has}
use Rattle.tree_update.specs.declared.change.ChangeAt.{ChangeAt}
use Rattle.tree_update.specs.declared.change.ChangeAt.TheVariants as at
use Rattle.tree_update.specs.Changes.{IsChangeAt, change_at_asks}
use Rattle.tree_update.specs.Runs.{ChangeCanAct}
use Rattle.tree_update.proofs.Loads.{look_has, count_has, room_has, read_has, head_has, cell_has}

module _ (l : Layout) (words : List ℕ) where
  load_can : (p : Location) → HasLocation l p → CanAct l words (Load (address_of l p))
  load_can p has = (addresses_within l p has, tt)

  layer_can : (p : LayerWord) → HasLayerWord l p → CanAct l words (Load (layer_address l p))
  layer_can p has = load_can (Cached (image_word p)) has

  store_can : (w : Word) (y : ℕ) → HasWord l w → ((k : ℕ) → k < 5 → w ≢ Header k) → y < 2 ^ 64 → CanAct l words (Store (address_of l (Cached w)) y)
  store_can w y has body fits = ((addresses_within l (Cached w) has, outside_header l (Cached w) has (λ k lt. ((λ e. body k lt (let same : w ≡ Header k = cc in same)), (λ e. cc)))), fits)

  mark_can : (kind number y : ℕ) → HasLocation l (Mark kind number) → y < 2 ^ 64 → CanAct l words (Store (address_of l (Mark kind number)) y)
  mark_can kind number y has fits = ((addresses_within l (Mark kind number) has, outside_header l (Mark kind number) has (λ k lt. ((λ e. cc), (λ e. cc)))), fits)

  drain_can : (w : Word) (y : ℕ) → HasWord l w → ((k : ℕ) → k < 5 → w ≢ Header k) → y < 2 ^ 64 → CanAct l words (Drain (address_of l (Cached w)) y)
  drain_can w y has body fits = ((names_cached l w has, keeps_header l w y has body), fits)

  fence_can : (w : Word) (fence : Fence) → HasWord l w → ((k : ℕ) → k < 5 → w ≢ Header k) → IsFence fence → CanAct l words (fence_asks (address_of l (Cached w)) fence)
  fence_can w fence has body is = by_place fence.at is.value
    where
      by_place : (place : FenceAt) → IsFenceAt place → CanAct l words (fence_at_asks (address_of l (Cached w)) place)
      by_place fence_at.Load value = load_can (Cached w) has
      by_place (fence_at.Drain value) fits = drain_can w value has body fits

  take_can : (kind : ℕ) (part : TakeAt) (take : Take) → IsTake take → take.layout ≡ l → CanAct l words (take_asks take)
  take_can kind part take is same = subst (λ k. CanAct k words (take_asks take)) same (by_part take.at is.here)
    where
      by_part : (place : TakeAt) → IsTakeAt take.layout place → CanAct take.layout words (take_at_asks take place)
      by_part (take_at.Seek number) here = (addresses_within take.layout (Mark take.kind number) (is.low, is.high, here), tt)
      by_part (take_at.Mark number) here = ((addresses_within take.layout (Mark take.kind number) (is.low, is.high, here), outside_header take.layout (Mark take.kind number) (is.low, is.high, here) (λ k lt. ((λ e. cc), (λ e. cc)))), (let one : 1 < 2 ^ 64 = omega arith in one))

  filling_can : (w : Word) (value lines : ℕ) (f : Filling) → HasWord l w → ((k : ℕ) → k < 5 → w ≢ Header k) → value < 2 ^ 64 → IsFilling lines f → CanAct l words (filling_asks (address_of l (Cached w)) value f)
  filling_can w value lines (filling.Store offset) has body fits is = store_can w value has body fits
  filling_can w value lines (filling.Drain line fence) has body fits is = fence_can w fence has body is.1

target_body : (p : Target) (k : ℕ) → target_image p ≢ Header k
target_body target.Root k e = cc
target_body (target.Leaf leaf offset) k e = cc
target_body (target.Cell cell offset) k e = cc

line_body : (p : Target) (word k : ℕ) → line_image p word ≢ Header k
line_body target.Root word k e = cc
line_body (target.Leaf leaf offset) word k e = cc
line_body (target.Cell cell offset) word k e = cc

finish_can : (f : Finish) (words : List ℕ) → IsFinish f → CanAct f.layout words (finish_asks f)
finish_can f words is = by_part f.at is.here
  where
    by_part : (part : FinishAt) → IsFinishAt f.layout part → CanAct f.layout words (finish_at_asks f part)
    by_part finish_at.Quiet here = store_can f.layout words (target_image f.quiet.target) f.quiet.word (target_has f.layout f.quiet.target is.quiet) (λ k lt. target_body f.quiet.target k) is.quiet_word
    by_part (finish_at.QuietFence fence) here = fence_can f.layout words (line_image f.quiet.target fence.word) fence (line_has f.layout f.quiet.target fence.word is.quiet here.word) (λ k lt. line_body f.quiet.target fence.word k) here
    by_part finish_at.Switch here = store_can f.layout words (target_image f.switch.target) f.switch.word (target_has f.layout f.switch.target is.switch) (λ k lt. target_body f.switch.target k) is.switch_word
    by_part (finish_at.SwitchFence fence) here = fence_can f.layout words (line_image f.switch.target fence.word) fence (line_has f.layout f.switch.target fence.word is.switch here.word) (λ k lt. line_body f.switch.target fence.word k) here
    by_part (finish_at.Unmark reference) here = mark_can f.layout words (kind_of reference) (number_of reference) 0 (here.low, here.high, here.number) (let zero_fits : 0 < 2 ^ 64 = omega arith in zero_fits)

leaf_value_fits : (key : ℕ → ℕ) (node offset : ℕ) → ((k : ℕ) → key k < 2 ^ 64) → node + 1 < 2 ^ 64 → leaf_value key node offset < 2 ^ 64
leaf_value_fits key node offset fits small = elim (ltb offset 3) as (λ a. cond a (key offset) (cond (offset == 3) (node + 1) 0) < 2 ^ 64) [
  | true ↦ fits offset
  | false ↦ elim (offset == 3) as (λ a. cond a (node + 1) 0 < 2 ^ 64) [ true ↦ small | false ↦ (let zero_fits : 0 < 2 ^ 64 = omega arith in zero_fits) ]
]

leaf_can : (m : FillLeaf) (words : List ℕ) → IsFillLeaf m → CanAct m.layout words (fill_leaf_asks m)
leaf_can m words is =
    let within = offset_within 1 m.at is.here in
    let offset = filling_offset m.at in
    let few : m.layout.nodes ≤ 4096 = is.layout.nodes.1 in
    let node = is.node in
    filling_can m.layout words (Leaf m.number offset) (leaf_value (slice_index m.key) m.node offset) 1 m.at (is.number, (let less : offset < 8 = omega arith in less)) (λ k lt e. cc) (leaf_value_fits (slice_index m.key) m.node offset is.key (omega arith)) is.here

cell_can : (m : FillCell) (words : List ℕ) → IsFillCell m → CanAct m.layout words (fill_cell_asks m)
cell_can m words is =
    let offset = filling_offset m.at in
    let within : offset < kind_words m.cell.kind = subst (λ k. offset < k) (whole_lines m.cell.kind is.kind.0 is.kind.1) (offset_within (lines_of m.cell.kind) m.at is.here) in
    filling_can m.layout words (Cell m.cell.kind m.number offset) (words_of m.cell offset) (lines_of m.cell.kind) m.at (is.kind.0, is.kind.1, is.number, within) (λ k lt e. cc) (is.words offset) is.here

part_can : (l : Layout) (key : List ℕ) (word : ℕ) (part : ChangeAt) (words : List ℕ) → IsChangeAt l key word part → CanAct l words (change_at_asks l part)
part_can l key word (at.Looking look) words here = subst (λ k. CanAct k words (Load (layer_address look.layout (look_word look.at look.key)))) here.1 (layer_can look.layout words (look_word look.at look.key) (look_has look here.0))
part_can l key word (at.TakingLeaf take place) words here = take_can l words take.kind take.at take here.0 here.1
part_can l key word (at.FillingLeaf fill place) words here = subst (λ k. CanAct k words (fill_leaf_asks fill)) here.1 (leaf_can fill words here.0)
part_can l key word (at.FindingRoom look spot leaf) words here = subst (λ k. CanAct k words (Load (layer_address look.layout (find_room_word look)))) here.1 (layer_can look.layout words (find_room_word look) (room_has look here.0))
part_can l key word (at.ReadingCell read spot byte leaf) words here = subst (λ k. CanAct k words (Load (layer_address read.layout (read_word read)))) here.1 (layer_can read.layout words (read_word read) (read_has read here.0))
part_can l key word (at.TakingCell take new) words here = take_can l words take.kind take.at take here.0 here.1
part_can l key word (at.FillingCell fill spot free) words here = subst (λ k. CanAct k words (fill_cell_asks fill)) here.1 (cell_can fill words here.0)
part_can l key word (at.ReadingDepth leaf outer inner) words here = layer_can l words (cell_word inner.cell depth_offset) (head_has l inner.cell depth_offset here.0 (omega arith))
part_can l key word (at.Counting look leaf outer inner) words here = subst (λ k. CanAct k words (Load (layer_address look.layout (count_word look)))) here.1 (layer_can look.layout words (count_word look) (count_has look here.0))
part_can l key word (at.ReadingIndex cell byte leaf) words here =
    let small = here.2 in
    let in_4 : 8 + byte / 8 < 88 = omega arith in
    layer_can l words (cell_word cell (8 + byte / 8)) (cell_has l cell (8 + byte / 8) here.0 (subst (λ k. 8 + byte / 8 < kind_words k) (sym here.1) in_4))
part_can l key word (at.Finishing finish) words here = subst (λ k. CanAct k words (finish_asks finish)) here.1 (finish_can finish words here.0)

pub change_can_act : ChangeCanAct
change_can_act c words is = part_can c.layout c.key c.word c.at words is.here
