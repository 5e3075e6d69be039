-- The kinds of the actions of a change, and what they leave as it was.
use Rattle.std.proofs.Common.{◌≡◌, ℕ, ◌<◌, List, length, slice_index, slice_set, refl, sym, subst, arith}
use Rattle.pm_words.specs.declared.layout.Layout.{Layout}
use Rattle.pm_words.specs.declared.action.Action.{Action}
use Rattle.pm_words.specs.declared.fence.Fence.{Fence}
use Rattle.pm_words.specs.declared.fence.FenceAt.{FenceAt}
use Rattle.pm_words.specs.declared.fence.FenceAt.TheVariants as fence_at
use Rattle.pm_words.specs.Fences.{fence_asks, fence_at_asks}
use Rattle.pm_words.specs.Locations.{Word, Leaf, Cell, Location, Mark, Cached, Durable, HasWord, kind_words, address_of, at, row_words}
use Rattle.pm_words.specs.Rows.{acted}
use Rattle.pm_words.proofs.Apart.{at-set_other}
use Rattle.pm_words.proofs.Kept.{action_address-drain}
use Rattle.radix_nodes.specs.declared.filling.Filling.{Filling}
use Rattle.radix_nodes.specs.declared.filling.Filling.TheVariants as filling
use Rattle.radix_nodes.specs.declared.fill_leaf.FillLeaf.{FillLeaf}
use Rattle.radix_nodes.specs.declared.fill_cell.FillCell.{FillCell}
use Rattle.radix_nodes.specs.Cells.{words_of}
use Rattle.radix_nodes.specs.Fills.{filling_offset, filling_asks, IsFillLeaf, fill_leaf_asks, leaf_value, IsFillCell, fill_cell_asks, lines_of}
use Rattle.tree_law.specs.Words.{kind_of, number_of}
use Rattle.tree_row.proofs.RowLaw.{load_same}
use Rattle.tree_change.specs.declared.take.Take.{Take}
use Rattle.tree_change.specs.declared.take.TakeAt.{TakeAt}
use Rattle.tree_change.specs.declared.take.TakeAt.TheVariants as take_at
use Rattle.tree_change.specs.declared.finish.Target.{Target}
use Rattle.tree_change.specs.declared.finish.Target.TheVariants as target
use Rattle.tree_change.specs.declared.finish.Finish.{Finish}
use Rattle.tree_change.specs.declared.finish.FinishAt.{FinishAt}
use Rattle.tree_change.specs.declared.finish.FinishAt.TheVariants as finish_at
use Rattle.tree_change.specs.Takes.{IsTake, IsTakeAt, take_asks, take_at_asks}
use Rattle.tree_change.specs.Finishes.{target_image, line_image, IsFinish, IsFinishAt, finish_asks, finish_at_asks}
use Rattle.tree_change.proofs.ActsLaw.{offset_within, whole_lines}
use Rattle.tree_change.proofs.MarkSteps.{target_has, line_has}
use Rattle.tree_update.specs.declared.change.ChangeAt.{ChangeAt}
use Rattle.tree_update.specs.declared.change.ChangeAt.TheVariants as change_at
use Rattle.tree_update.specs.Changes.{IsChangeAt, change_at_asks, change_asks}
use Rattle.tree_update.specs.Kinds.{IsOfLayer, IsOfLine, ActsOn, loads, stores, drains, marks, ChangeActsOn, IsOther, KeepsOthers, ChangeKeepsOthers}

fence_on : (l : Layout) (w : Word) (fence : Fence) → HasWord l w → IsOfLine w → ActsOn l (fence_asks (address_of l (Cached w)) fence)
fence_on l w fence has is = by_place fence.at
  where
    by_place : (place : FenceAt) → ActsOn l (fence_at_asks (address_of l (Cached w)) place)
    by_place fence_at.Load = loads
    by_place (fence_at.Drain value) = drains w has is

filling_on : (l : Layout) (w : Word) (value : ℕ) (f : Filling) → HasWord l w → IsOfLayer w → IsOfLine w → ActsOn l (filling_asks (address_of l (Cached w)) value f)
filling_on l w value (filling.Store offset) has is line = stores w has is
filling_on l w value (filling.Drain at fence) has is line = fence_on l w fence has line

take_on : (take : Take) → IsTake take → ActsOn take.layout (take_asks take)
take_on take is = by_part take.at is.here
  where
    by_part : (part : TakeAt) → IsTakeAt take.layout part → ActsOn take.layout (take_at_asks take part)
    by_part (take_at.Seek number) here = loads
    by_part (take_at.Mark number) here = marks take.kind number (is.low, is.high, here)

target_of : (p : Target) → IsOfLayer (target_image p)
target_of target.Root = refl
target_of (target.Leaf leaf offset) = tt
target_of (target.Cell cell offset) = tt

line_of_target : (p : Target) (word : ℕ) → IsOfLine (line_image p word)
line_of_target target.Root word = tt
line_of_target (target.Leaf leaf offset) word = tt
line_of_target (target.Cell cell offset) word = tt

finish_on : (f : Finish) → IsFinish f → ActsOn f.layout (finish_asks f)
finish_on f is = by_part f.at is.here
  where
    by_part : (part : FinishAt) → IsFinishAt f.layout part → ActsOn f.layout (finish_at_asks f part)
    by_part finish_at.Quiet here = stores (target_image f.quiet.target) (target_has f.layout f.quiet.target is.quiet) (target_of f.quiet.target)
    by_part (finish_at.QuietFence fence) here = fence_on f.layout (line_image f.quiet.target fence.word) fence (line_has f.layout f.quiet.target fence.word is.quiet here.word) (line_of_target f.quiet.target fence.word)
    by_part finish_at.Switch here = stores (target_image f.switch.target) (target_has f.layout f.switch.target is.switch) (target_of f.switch.target)
    by_part (finish_at.SwitchFence fence) here = fence_on f.layout (line_image f.switch.target fence.word) fence (line_has f.layout f.switch.target fence.word is.switch here.word) (line_of_target f.switch.target fence.word)
    by_part (finish_at.Unmark reference) here = marks (kind_of reference) (number_of reference) (here.low, here.high, here.number)

leaf_on : (m : FillLeaf) → IsFillLeaf m → ActsOn m.layout (fill_leaf_asks m)
leaf_on m is =
    let within = offset_within 1 m.at is.here in
    let offset = filling_offset m.at in
    filling_on m.layout (Leaf m.number offset) (leaf_value (slice_index m.key) m.node offset) m.at (is.number, (let less : offset < 8 = omega arith in less)) tt tt

cell_on : (m : FillCell) → IsFillCell m → ActsOn m.layout (fill_cell_asks m)
cell_on m is =
    let offset = filling_offset m.at in
    let within : offset < kind_words m.cell.kind = subst (λ k. offset < k) (whole_lines m.cell.kind is.kind.0 is.kind.1) (offset_within (lines_of m.cell.kind) m.at is.here) in
    filling_on m.layout (Cell m.cell.kind m.number offset) (words_of m.cell offset) m.at (is.kind.0, is.kind.1, is.number, within) tt tt

part_on : (l : Layout) (key : List ℕ) (word : ℕ) (part : ChangeAt) → IsChangeAt l key word part → ActsOn l (change_at_asks l part)
part_on l key word (change_at.Looking look) here = loads
part_on l key word (change_at.TakingLeaf take place) here = subst (λ k. ActsOn k (take_asks take)) here.1 (take_on take here.0)
part_on l key word (change_at.FillingLeaf fill place) here = subst (λ k. ActsOn k (fill_leaf_asks fill)) here.1 (leaf_on fill here.0)
part_on l key word (change_at.FindingRoom look spot leaf) here = loads
part_on l key word (change_at.ReadingCell read spot byte leaf) here = loads
part_on l key word (change_at.TakingCell take new) here = subst (λ k. ActsOn k (take_asks take)) here.1 (take_on take here.0)
part_on l key word (change_at.FillingCell fill spot free) here = subst (λ k. ActsOn k (fill_cell_asks fill)) here.1 (cell_on fill here.0)
part_on l key word (change_at.ReadingDepth leaf outer inner) here = loads
part_on l key word (change_at.Counting look leaf outer inner) here = loads
part_on l key word (change_at.ReadingIndex cell byte leaf) here = loads
part_on l key word (change_at.Finishing finish) here = subst (λ k. ActsOn k (finish_asks finish)) here.1 (finish_on finish here.0)

pub change_acts_on : ChangeActsOn
change_acts_on c is = part_on c.layout c.key c.word c.at is.here

-- all else stays
acts_keep : (l : Layout) (words : List ℕ) (a : Action) → length words ≡ row_words l → ActsOn l a → KeepsOthers l words (acted l words a)
acts_keep l words a whole (loads {address}) p has other = load_same l words address p whole has
acts_keep l words a whole (stores w {y} there is) p has other = at-set_other l words (Cached w) p y there has (λ e. not_stored p other e)
  where
    not_stored : (p : Location) → IsOther p → p ≡ Cached w → ⊥
    not_stored p other same = (subst IsOther same other) is
acts_keep l words a whole (drains w {y} there is) p has other =
    subst (λ k. at l (slice_set words k y) p ≡ at l words p) (sym (action_address-drain l w y)) (at-set_other l words (Durable w) p y there has (λ e. (subst IsOther e other) is))
acts_keep l words a whole (marks kind number {y} there) p has other = at-set_other l words (Mark kind number) p y there has (λ e. subst IsOther e other)

pub change_keeps_others : ChangeKeepsOthers
change_keeps_others c words is whole = acts_keep c.layout words (change_asks c) whole (change_acts_on c is)
