-- What the actions of a change make of the words of the layer in a row.
use Rattle.std.proofs.Common.{◌≡◌, ℕ, zero, suc, ◌+◌, ◌*◌, ◌/◌, ◌^◌, ◌<◌, ◌≤◌, ◌==◌, true, false, cond, List, length}
use Rattle.std.proofs.Common.{slice_set, Option, Some, None, refl, sym, subst, ap, ◌∙◌, arith}
use Rattle.pm_words.specs.declared.layout.Layout.{Layout}
use Rattle.pm_words.specs.declared.action.Action.{Action}
use Rattle.pm_words.specs.declared.fence.FenceAt.{FenceAt}
use Rattle.pm_words.specs.declared.fence.FenceAt.TheVariants as fence_at
use Rattle.pm_words.specs.Fences.{line_of}
use Rattle.pm_words.specs.Locations.{Root, Mark, Cached, Durable, kind_words, leaf_count, row_words}
use Rattle.pm_words.specs.Rows.{acted}
use Rattle.pm_words.specs.Rows as rows
use Rattle.pm_words.proofs.Kept.{action_address-drain}
use Rattle.radix_nodes.specs.declared.filling.Filling.{Filling}
use Rattle.radix_nodes.specs.declared.filling.Filling.TheVariants as filling
use Rattle.radix_nodes.specs.declared.fill_cell.FillCell.{FillCell}
use Rattle.radix_nodes.specs.Cells.{words_of}
use Rattle.radix_nodes.specs.Fills.{filling_offset, IsFilling, lines_of, fill_leaf_asks, fill_cell_asks, IsFillCell}
use Rattle.tree_law.specs.Words.{LayerWord, RootWord, Part, LeafPart, part_word, kind_of, number_of}
use Rattle.tree_floor.specs.tree_row.specs.Rows.{HasLayerWord, layer_address, TwinsStay}
use Rattle.tree_floor.specs.tree_row.proofs.RowLaw.{reads_words, load_leaves, store_makes, drain_makes, outside_leaves}
use Rattle.tree_change.specs.declared.take.TakeAt.{TakeAt}
use Rattle.tree_change.specs.declared.take.TakeAt.TheVariants as at
use Rattle.tree_change.specs.Takes.{IsTakeAt, take_mark, take_at_asks}
use Rattle.tree_change.specs.declared.finish.Target.{Target}
use Rattle.tree_change.specs.declared.finish.Target.TheVariants as target
use Rattle.tree_change.specs.declared.finish.Finish.{Finish}
use Rattle.tree_change.specs.declared.finish.FinishAt.{FinishAt}
use Rattle.tree_change.specs.declared.finish.FinishAt.TheVariants as finish_at
use Rattle.tree_change.specs.Finishes.{IsTarget, IsFinish, IsFinishAt, cached_at, finish_asks}
use Rattle.tree_change.specs.Endings.{Effect, Loads, Stores, Drains, Beside, HasEffect, IsBeside, mark, glance, drain}
use Rattle.tree_change.specs.Endings.{target_word, line_word, loads, drains, fence_effect}
use Rattle.tree_change.specs.Endings as endings
use Rattle.tree_change.specs.Fillings.{effect_at, line_effect, leaf_words, cell_part}
use Rattle.tree_change.specs.Acts.{IsWithin, IsTold, HappensIn, ActionHappens, FinishHappens, LeafHappens}
use Rattle.tree_change.specs.Acts.{CellHappens, TakeLeaves}
use Rattle.tree_change.proofs.FinishTurns as finish
use Rattle.tree_change.proofs.FillTurns as fill

module _ (l : Layout) (words : List ℕ) (whole : length words ≡ row_words l) where
  -- a drain of a word behind the first of the root's line, and of all else beside the layer
  beside : (a : Action) → IsBeside l a → TwinsStay l words (acted l words a)
  beside a (mark {reference} is) = outside_leaves l words (Mark (kind_of reference) (number_of reference)) 0 (is.low, is.high, is.number) tt
  beside a (glance {word} low small) = load_leaves l words (cached_at l (Root word)) whole
  beside a (drain {word} {y} low small) =
      subst (λ k. TwinsStay l words (slice_set words k y)) (sym (action_address-drain l (Root word) y)) (outside_leaves l words (Durable (Root word)) y small low)

  happens : (a : Action) (effect : Effect) → HasEffect l a effect → IsWithin l effect → IsTold effect (rows.got l words a) → HappensIn l words a effect
  happens a (Loads p x) e within told =
      let stays = load_leaves l words (layer_address l p) whole in
      subst (λ b. HappensIn l words b (Loads p x)) (sym e) (reads_words l words Cached p within ∙ sym (told ∙ ap (rows.got l words) e), stays.0, stays.1)
  happens a (Stores p y) e within told = subst (λ b. HappensIn l words b (Stores p y)) (sym e) (store_makes l words p y whole within)
  happens a (Drains p y) e within told = subst (λ b. HappensIn l words b (Drains p y)) (sym e) (drain_makes l words p y whole within)
  happens a Beside is within told = beside a is

pub action_happens : ActionHappens
action_happens l words a effect whole has within told = happens l words whole a effect has within told

-- The words that a finish stores and drains are in range, and it is told what it loads.

pub cell_line : (kind offset word : ℕ) → 2 ≤ kind → kind ≤ 5 → offset < kind_words kind → word < 8 → line_of offset + word < kind_words kind
cell_line zero offset word low high lt small = absurd (omega arith)
cell_line (suc zero) offset word low high lt small = absurd (omega arith)
cell_line (suc (suc zero)) offset word low high lt small = let within : offset < 8 = lt in let is : offset / 8 * 8 + word < 8 = omega arith in is
cell_line (suc (suc (suc zero))) offset word low high lt small = let within : offset < 24 = lt in let is : offset / 8 * 8 + word < 24 = omega arith in is
cell_line (suc (suc (suc (suc zero)))) offset word low high lt small = let within : offset < 88 = lt in let is : offset / 8 * 8 + word < 88 = omega arith in is
cell_line (suc (suc (suc (suc (suc zero))))) offset word low high lt small = let within : offset < 264 = lt in let is : offset / 8 * 8 + word < 264 = omega arith in is
cell_line (suc (suc (suc (suc (suc (suc kind)))))) offset word low high lt small = absurd (omega arith)

abbrev InLine : Layout → Option LayerWord → Type 0
InLine l None = Unit {0}
InLine l (Some p) = HasLayerWord l p

target_within : (l : Layout) (p : Target) → IsTarget l p → HasLayerWord l (target_word p)
target_within l target.Root is = let first : 0 < 8 = omega arith in first
target_within l (target.Leaf leaf offset) is = is
target_within l (target.Cell cell offset) is = (is.0.low, is.0.high, is.0.number, is.1)

line_within : (l : Layout) (p : Target) (word : ℕ) → IsTarget l p → word < 8 → InLine l (line_word p word)
line_within l target.Root word is small = elim (word == 0) as (λ a. InLine l (cond a (Some RootWord) None)) [
  | true ↦ let first : 0 < 8 = omega arith in first
  | false ↦ tt
]
line_within l (target.Leaf leaf offset) word is small = (is.0, small)
line_within l (target.Cell cell offset) word is small = (is.0.low, is.0.high, is.0.number, cell_line (kind_of cell) offset word is.0.low is.0.high is.1 small)

loads_right : (l : Layout) (line : Option LayerWord) (x : ℕ) → InLine l line → IsWithin l (loads line x) × IsTold (loads line x) x
loads_right l None x is = (tt, tt)
loads_right l (Some p) x is = (is, refl)

drains_right : (l : Layout) (line : Option LayerWord) (y x : ℕ) → InLine l line → IsWithin l (drains line y) × IsTold (drains line y) x
drains_right l None y x is = (tt, tt)
drains_right l (Some p) y x is = (is, tt)

fence_right : (l : Layout) (p : Target) (word : ℕ) (place : FenceAt) (x : ℕ) → IsTarget l p → word < 8 → IsWithin l (fence_effect p word place x) × IsTold (fence_effect p word place x) x
fence_right l p word fence_at.Load x is small = loads_right l (line_word p word) x (line_within l p word is small)
fence_right l p word (fence_at.Drain y) x is small = drains_right l (line_word p word) y x (line_within l p word is small)

finish_right : (f : Finish) → IsFinish f → (place : FinishAt) → IsFinishAt f.layout place → (x : ℕ) → IsWithin f.layout (endings.effect_at f place x) × IsTold (endings.effect_at f place x) x
finish_right f is finish_at.Quiet here x = (target_within f.layout f.quiet.target is.quiet, tt)
finish_right f is (finish_at.QuietFence fence) here x = fence_right f.layout f.quiet.target fence.word fence.at x is.quiet here.word
finish_right f is finish_at.Switch here x = (target_within f.layout f.switch.target is.switch, tt)
finish_right f is (finish_at.SwitchFence fence) here x = fence_right f.layout f.switch.target fence.word fence.at x is.switch here.word
finish_right f is (finish_at.Unmark reference) here x = (tt, tt)

pub finish_happens : FinishHappens
finish_happens f words is whole =
    let x = rows.got f.layout words (finish_asks f) in
    let right = finish_right f is f.at is.here x in
    happens f.layout words whole (finish_asks f) (endings.effect_at f f.at x) (finish.has_effect f is f.at x is.here) right.0 right.1

-- So are those of a filling.

pub offset_within : (lines : ℕ) (f : Filling) → IsFilling lines f → filling_offset f < 8 * lines
offset_within lines (filling.Store offset) is = is
offset_within lines (filling.Drain line fence) is = let less : line < lines = is.0 in let small : fence.word < 8 = is.1.word in omega arith

line_right : (l : Layout) (part : Part) (offset : ℕ) (place : FenceAt) (x : ℕ) → HasLayerWord l (part_word part offset) → IsWithin l (line_effect part offset place x) × IsTold (line_effect part offset place x) x
line_right l part offset fence_at.Load x has = (has, refl)
line_right l part offset (fence_at.Drain y) x has = (has, tt)

fill_right : (l : Layout) (part : Part) (words : ℕ → ℕ) (f : Filling) (x : ℕ) → HasLayerWord l (part_word part (filling_offset f)) → IsWithin l (effect_at part words f x) × IsTold (effect_at part words f x) x
fill_right l part words (filling.Store offset) x has = (has, tt)
fill_right l part words (filling.Drain line fence) x has = line_right l part (8 * line + fence.word) fence.at x has

pub leaf_happens : LeafHappens
leaf_happens m words is whole =
    let x = rows.got m.layout words (fill_leaf_asks m) in
    let within = offset_within 1 m.at is.here in
    let right = fill_right m.layout (LeafPart m.number) (leaf_words m) m.at x (is.number, (let less : filling_offset m.at < 8 = omega arith in less)) in
    happens m.layout words whole (fill_leaf_asks m) (effect_at (LeafPart m.number) (leaf_words m) m.at x) (fill.leaf_has m x) right.0 right.1

pub whole_lines : (kind : ℕ) → 2 ≤ kind → kind ≤ 5 → 8 * lines_of kind ≡ kind_words kind
whole_lines zero low high = absurd (omega arith)
whole_lines (suc zero) low high = absurd (omega arith)
whole_lines (suc (suc zero)) low high = refl
whole_lines (suc (suc (suc zero))) low high = refl
whole_lines (suc (suc (suc (suc zero)))) low high = refl
whole_lines (suc (suc (suc (suc (suc zero))))) low high = refl
whole_lines (suc (suc (suc (suc (suc (suc kind)))))) low high = absurd (omega arith)

cell_has_word : (m : FillCell) → IsFillCell m → HasLayerWord m.layout (part_word (cell_part m) (filling_offset m.at))
cell_has_word m is =
    let few : m.layout.nodes ≤ 4096 = is.layout.nodes.1 in
    let number : m.number < leaf_count m.layout = is.number in
    let x = m.cell.kind * 2 ^ 16 + m.number in
    let kind_is : m.cell.kind ≡ kind_of x = omega arith in
    let number_is : m.number ≡ number_of x = omega arith in
    let within : filling_offset m.at < kind_words m.cell.kind = subst (λ k. filling_offset m.at < k) (whole_lines m.cell.kind is.kind.0 is.kind.1) (offset_within (lines_of m.cell.kind) m.at is.here) in (
      subst (λ k. 2 ≤ k) kind_is is.kind.0,
      subst (λ k. k ≤ 5) kind_is is.kind.1,
      subst (λ k. k < leaf_count m.layout) number_is is.number,
      subst (λ k. filling_offset m.at < kind_words k) kind_is within,
    )

pub cell_happens : CellHappens
cell_happens m words is whole =
    let x = rows.got m.layout words (fill_cell_asks m) in
    let right = fill_right m.layout (cell_part m) (words_of m.cell) m.at x (cell_has_word m is) in
    happens m.layout words whole (fill_cell_asks m) (effect_at (cell_part m) (words_of m.cell) m.at x) (fill.cell_has m is x) right.0 right.1

-- A take loads and stores marks.
pub take_leaves : TakeLeaves
take_leaves take words is whole = go take.at is.here
  where
    go : (place : TakeAt) → IsTakeAt take.layout place → TwinsStay take.layout words (acted take.layout words (take_at_asks take place))
    go (at.Seek number) here = load_leaves take.layout words (take_mark take number) whole
    go (at.Mark number) here = outside_leaves take.layout words (Mark take.kind number) 1 (is.low, is.high, here) tt
