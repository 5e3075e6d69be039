-- What the actions of a change make of the marks of a row.
use Rattle.std.proofs.Common.{◌≡◌, ℕ, ◌<◌, ◌≤◌, List, length, slice_set, sym, subst, arith}
use Rattle.pm_words.specs.declared.layout.Layout.{Layout}
use Rattle.pm_words.specs.declared.action.Action.TheVariants.{Store}
use Rattle.pm_words.specs.declared.fence.FenceAt.{FenceAt}
use Rattle.pm_words.specs.declared.fence.FenceAt.TheVariants as fence_at
use Rattle.pm_words.specs.Fences.{fence_at_asks}
use Rattle.pm_words.specs.Locations.{Word, Leaf, Cell, Cached, Durable, HasWord, kind_words, row_words, leaf_count}
use Rattle.pm_words.specs.Rows.{acted}
use Rattle.pm_words.proofs.Kept.{action_address-drain}
use Rattle.radix_nodes.specs.declared.filling.Filling.{Filling}
use Rattle.radix_nodes.specs.declared.filling.Filling.TheVariants as filling
use Rattle.radix_nodes.specs.Cells.{words_of}
use Rattle.radix_nodes.specs.Fills.{filling_offset, filling_asks, lines_of}
use Rattle.tree_law.specs.Words.{kind_of, number_of}
use Rattle.tree_floor.specs.tree_row.specs.RowMarks.{row_marks}
use Rattle.tree_floor.specs.tree_row.proofs.MarkLaw.{mark_is_set, store_leaves_marks, load_leaves_marks}
use Rattle.tree_change.specs.declared.take.TakeAt.{TakeAt}
use Rattle.tree_change.specs.declared.take.TakeAt.TheVariants as take_at
use Rattle.tree_change.specs.Takes.{IsTakeAt, take_mark, take_at_asks}
use Rattle.tree_change.specs.declared.finish.Target.{Target}
use Rattle.tree_change.specs.declared.finish.Target.TheVariants as target
use Rattle.tree_change.specs.declared.finish.FinishAt.{FinishAt}
use Rattle.tree_change.specs.declared.finish.FinishAt.TheVariants as finish_at
use Rattle.tree_change.specs.Finishes.{target_image, line_image, IsTarget, IsFinishAt, cached_at, finish_at_asks}
use Rattle.tree_change.specs.Fillings.{leaf_words}
use Rattle.tree_change.specs.MarkSteps.{LeavesMarks, TakeMakes, TakeMakesMarks, FinishMakes, FinishMakesMarks}
use Rattle.tree_change.specs.MarkSteps.{LeafLeavesMarks, CellLeavesMarks}
use Rattle.tree_change.proofs.TakeExact.{take_sets, free_sets}
use Rattle.tree_change.proofs.ActsLaw.{cell_line, offset_within, whole_lines}

-- what is done to an image word leaves the marks
module _ (l : Layout) (words : List ℕ) (whole : length words ≡ row_words l) (w : Word) (has : HasWord l w) where
  stores : (y : ℕ) → LeavesMarks l words (Store (cached_at l w) y)
  stores y = store_leaves_marks l words (Cached w) y has tt

  fences : (place : FenceAt) → LeavesMarks l words (fence_at_asks (cached_at l w) place)
  fences fence_at.Load = load_leaves_marks l words (cached_at l w) whole
  fences (fence_at.Drain y) = subst (λ a. row_marks l (slice_set words a y) ≡ row_marks l words) (sym (action_address-drain l w y)) (store_leaves_marks l words (Durable w) y has tt)

  fills : (value : ℕ) (f : Filling) → LeavesMarks l words (filling_asks (cached_at l w) value f)
  fills value (filling.Store offset) = stores value
  fills value (filling.Drain line fence) = fences fence.at

pub take_makes_marks : TakeMakesMarks
take_makes_marks take words is whole = go take.at is.here
  where
    go : (place : TakeAt) → IsTakeAt take.layout place → TakeMakes take.kind place (row_marks take.layout words) (row_marks take.layout (acted take.layout words (take_at_asks take place)))
    go (take_at.Seek number) here = load_leaves_marks take.layout words (take_mark take number) whole
    go (take_at.Mark number) here =
        let few : take.layout.nodes ≤ 4096 = is.layout.nodes.1 in
        let within : number < leaf_count take.layout = here in
        let set = mark_is_set take.layout words take.kind number 1 whole (is.low, is.high, here) in
        take_sets (row_marks take.layout words) (row_marks take.layout (acted take.layout words (take_at_asks take (take_at.Mark number)))) take.kind number 1 is.low is.high (omega arith) set.here set.others

pub target_has : (l : Layout) (p : Target) → IsTarget l p → HasWord l (target_image p)
target_has l target.Root is = let first : 0 < 8 = omega arith in first
target_has l (target.Leaf leaf offset) is = is
target_has l (target.Cell cell offset) is = (is.0.low, is.0.high, is.0.number, is.1)

pub line_has : (l : Layout) (p : Target) (word : ℕ) → IsTarget l p → word < 8 → HasWord l (line_image p word)
line_has l target.Root word is small = small
line_has l (target.Leaf leaf offset) word is small = (is.0, small)
line_has l (target.Cell cell offset) word is small = (is.0.low, is.0.high, is.0.number, cell_line (kind_of cell) offset word is.0.low is.0.high is.1 small)

pub finish_makes_marks : FinishMakesMarks
finish_makes_marks f words is whole = go f.at is.here
  where
    go : (place : FinishAt) → IsFinishAt f.layout place → FinishMakes place (row_marks f.layout words) (row_marks f.layout (acted f.layout words (finish_at_asks f place)))
    go finish_at.Quiet here = stores f.layout words whole (target_image f.quiet.target) (target_has f.layout f.quiet.target is.quiet) f.quiet.word
    go (finish_at.QuietFence fence) here = fences f.layout words whole (line_image f.quiet.target fence.word) (line_has f.layout f.quiet.target fence.word is.quiet here.word) fence.at
    go finish_at.Switch here = stores f.layout words whole (target_image f.switch.target) (target_has f.layout f.switch.target is.switch) f.switch.word
    go (finish_at.SwitchFence fence) here = fences f.layout words whole (line_image f.switch.target fence.word) (line_has f.layout f.switch.target fence.word is.switch here.word) fence.at
    go (finish_at.Unmark reference) here =
        let set = mark_is_set f.layout words (kind_of reference) (number_of reference) 0 whole (here.low, here.high, here.number) in
        free_sets (row_marks f.layout words) (row_marks f.layout (acted f.layout words (finish_at_asks f (finish_at.Unmark reference)))) reference 0 here.low here.high set.here set.others

pub leaf_leaves_marks : LeafLeavesMarks
leaf_leaves_marks m words is whole =
    let within = offset_within 1 m.at is.here in
    let offset = filling_offset m.at in
    fills m.layout words whole (Leaf m.number offset) (is.number, (let less : offset < 8 = omega arith in less)) (leaf_words m offset) m.at

pub cell_leaves_marks : CellLeavesMarks
cell_leaves_marks m words is whole =
    let offset = filling_offset m.at in
    let within : offset < kind_words m.cell.kind = subst (λ k. offset < k) (whole_lines m.cell.kind is.kind.0 is.kind.1) (offset_within (lines_of m.cell.kind) m.at is.here) in
    fills m.layout words whole (Cell m.cell.kind m.number offset) (is.kind.0, is.kind.1, is.number, within) (words_of m.cell offset) m.at
