-- What one turn of a change makes of the layer: the store that switches makes it, and no other changes it.
use Rattle.std.proofs.Common.{◌≡◌, ℕ, ◌==◌, Bool, true, false, cond, List, length, Option, Some, None, refl, sym}
use Rattle.std.proofs.Common.{subst, ap, ◌∙◌}
use Rattle.pm_words.specs.declared.layout.Layout.{Layout}
use Rattle.pm_words.specs.declared.action.Action.TheVariants.{Load}
use Rattle.pm_words.specs.declared.machine.Turn.{Turn}
use Rattle.pm_words.specs.declared.machine.Turn.TheVariants.{Go, Done}
use Rattle.pm_words.specs.declared.fence.Fence.{Fence}
use Rattle.pm_words.specs.Fences.{fence_next}
use Rattle.pm_words.specs.Locations.{Mark, Cached, row_words}
use Rattle.pm_words.specs.Rows.{IsRow, acted}
use Rattle.pm_words.specs.Rows as rows
use Rattle.radix_nodes.specs.declared.fill_leaf.FillLeaf.{FillLeaf}
use Rattle.radix_nodes.specs.declared.fill_cell.FillCell.{FillCell}
use Rattle.radix_nodes.specs.Fills.{fill_leaf_turned, fill_cell_turned}
use Rattle.layer_map.specs.Layers.{Layer, AreSame}
use Rattle.layer_map.specs.Layers.{node_of}
use Rattle.tree_law.specs.Words.{kind_of}
use Rattle.tree_law.specs.Words as tree
use Rattle.tree_row.specs.Rows.{layer_words}
use Rattle.tree_row.proofs.RowLaw.{load_leaves, outside_leaves}
use Rattle.layer_map.specs.Keys.{key_number}
use Rattle.tree_update.specs.tree_look.specs.declared.look.Spot.{Spot}
use Rattle.tree_update.specs.tree_change.specs.declared.take.Take.{Take}
use Rattle.tree_update.specs.tree_change.specs.declared.take.TakeAt.{TakeAt}
use Rattle.tree_update.specs.tree_change.specs.declared.take.TakeAt.TheVariants as take_at
use Rattle.tree_update.specs.tree_change.specs.declared.finish.Finish.{Finish}
use Rattle.tree_update.specs.tree_change.specs.declared.finish.FinishAt.{FinishAt}
use Rattle.tree_update.specs.tree_change.specs.declared.finish.FinishAt.TheVariants as finish_at
use Rattle.tree_update.specs.tree_change.specs.Takes.{IsTake, IsTakeAt, take_asks, take_at_asks}
use Rattle.tree_update.specs.tree_change.specs.Finishes.{finish_at_turned, quiet_drained, switch_drained, unmarks}
use Rattle.tree_update.specs.declared.change.Change.{Change}
use Rattle.tree_update.specs.declared.change.ChangeAt.{ChangeAt}
use Rattle.tree_update.specs.declared.change.ChangeAt.TheVariants as at
use Rattle.tree_update.specs.declared.change.Site.{Site}
use Rattle.tree_update.specs.declared.change.Site.TheVariants as site
use Rattle.tree_update.specs.declared.change.Ended.{Ended}
use Rattle.tree_update.specs.Changes as changes
use Rattle.tree_update.specs.Changes.{IsChange, change_asks, change_turned, change_at_turned, finish_goes}
use Rattle.tree_update.specs.Stages.{Aim, made_of}
use Rattle.search_layer.specs.Kept.{layer_of}
use Rattle.search_layer.specs.ChangeStages.{Making, change_with, stage_after, has_stored, has_switched, stores_switch}
use Rattle.search_layer.specs.ChangeStages.{layer_at, LayerAt, LayerAfter}

-- Once that store is made it stays made.

unmarks_switched : (change : Change) (f : Finish) → has_switched (stage_after (finish_goes change (unmarks f))) ≡ true
unmarks_switched change f = elim (f.free == 0) as (λ b. has_switched (stage_after (finish_goes change (cond b (Done tt) (Go (record f { free = f.next; next = 0; at = finish_at.Unmark f.free }))))) ≡ true) [ true ↦ refl | false ↦ refl ]

drained_switched : (change : Change) (f : Finish) (next : Option Fence) → has_switched (stage_after (finish_goes change (switch_drained f next))) ≡ true
drained_switched change f None = unmarks_switched change f
drained_switched change f (Some fence) = refl

-- Before it no part comes past it but by answering.
bare_if : (b : Bool) (one two : Turn Change Ended) → has_switched (stage_after one) ≡ false → has_switched (stage_after two) ≡ false → has_switched (stage_after (cond b one two)) ≡ false
bare_if true one two first second = first
bare_if false one two first second = second

leaf_filled : (change : Change) (leaf : ℕ) (place : Site) → has_switched (stage_after (changes.leaf_filled change leaf place)) ≡ false
leaf_filled change leaf (site.Under spot cell byte) = bare_if (kind_of cell == 5) _ _ refl refl
leaf_filled change leaf (site.Beside spot reference depth byte) = refl

fill_leaf_goes : (change : Change) (place : Site) (leaf : ℕ) (turn : Turn FillLeaf (Unit {0})) → has_switched (stage_after (changes.fill_leaf_goes change place leaf turn)) ≡ false
fill_leaf_goes change place leaf (Go fill) = refl
fill_leaf_goes change place leaf (Done answer) = leaf_filled change leaf place

fill_cell_goes : (change : Change) (spot : Spot) (free cell : ℕ) (turn : Turn FillCell (Unit {0})) → has_switched (stage_after (changes.fill_cell_goes change spot free cell turn)) ≡ false
fill_cell_goes change spot free cell (Go fill) = refl
fill_cell_goes change spot free cell (Done answer) = refl

quiet_goes : (change : Change) (f : Finish) (next : Option Fence) → has_switched (stage_after (finish_goes change (quiet_drained f next))) ≡ false
quiet_goes change f None = refl
quiet_goes change f (Some fence) = refl

-- The layer of two rows whose cached words are the same, and of two stages that have the same one.
words_same : (l : Layout) (words after : List ℕ) → layer_words l after Cached ≡ layer_words l words Cached → AreSame (layer_of l after) (layer_of l words)
words_same l words after same k = ap (λ w. tree.layer_of w k) same

stage_same : (aim : Aim) (before layer after : Layer) (stored next : Bool) → AreSame layer (cond stored (made_of aim before) before) → next ≡ stored → AreSame after (cond next (made_of aim before) before) → AreSame after layer
stage_same aim before layer after stored next at_layer is at_after k = subst (λ b. AreSame after (cond b (made_of aim before) before)) is at_after k ∙ sym (at_layer k)

made_now : (aim : Aim) (before layer after : Layer) → AreSame layer before → AreSame after (made_of aim before) → AreSame after (made_of aim layer)
made_now aim before layer after at_layer at_after k = at_after k ∙ ap (λ (n : Option ℕ). cond (k == key_number aim.key) (node_of aim.word) n) (sym (at_layer k))

load_same : (l : Layout) (words : List ℕ) (address : ℕ) → length words ≡ row_words l → AreSame (layer_of l (acted l words (Load address))) (layer_of l words)
load_same l words address whole = words_same l words (acted l words (Load address)) (load_leaves l words address whole).0

take_same : (take : Take) (words : List ℕ) → IsTake take → length words ≡ row_words take.layout → AreSame (layer_of take.layout (acted take.layout words (take_asks take))) (layer_of take.layout words)
take_same take words is whole = by_part take.at is.here
  where
    by_part : (part : TakeAt) → IsTakeAt take.layout part → AreSame (layer_of take.layout (acted take.layout words (take_at_asks take part))) (layer_of take.layout words)
    by_part (take_at.Seek number) here = load_same take.layout words _ whole
    by_part (take_at.Mark number) here = words_same take.layout words (acted take.layout words (take_at_asks take (take_at.Mark number))) (outside_leaves take.layout words (Mark take.kind number) 1 (is.low, is.high, here) tt).0

-- in its own layout, which is the change's
take_leaves : (l : Layout) (take : Take) (words : List ℕ) → IsTake take → take.layout ≡ l → length words ≡ row_words l → AreSame (layer_of l (acted l words (take_asks take))) (layer_of l words)
take_leaves l take words is same whole = subst (λ k. length words ≡ row_words k → AreSame (layer_of k (acted k words (take_asks take))) (layer_of k words)) same (λ size. take_same take words is size) whole

pub step_after : (l : Layout) (aim : Aim) (before : Layer) (words : List ℕ) → IsRow l words → (part : ChangeAt) → IsChange (change_with l aim part) → LayerAt aim before (Making part) (layer_of l words)
    → LayerAt aim before (stage_after (change_turned (change_with l aim part) (rows.got l words (change_asks (change_with l aim part))))) (layer_of l (acted l words (change_asks (change_with l aim part))))
    → LayerAfter aim (Making part) (layer_of l words) (layer_of l (acted l words (change_asks (change_with l aim part))))
step_after l aim before words row (at.Looking look) sound was now = load_same l words _ row.whole
step_after l aim before words row (at.TakingLeaf take place) sound was now = take_leaves l take words sound.here.0 sound.here.1 row.whole
step_after l aim before words row (at.FillingLeaf fill place) sound was now =
    let change = change_with l aim (at.FillingLeaf fill place) in
    stage_same aim before (layer_of l words) (layer_of l (acted l words (change_asks change))) false (has_switched (stage_after (change_turned change (rows.got l words (change_asks change))))) was
    (fill_leaf_goes change place fill.number (fill_leaf_turned fill (rows.got l words (change_asks change)))) now
step_after l aim before words row (at.FindingRoom look spot leaf) sound was now = load_same l words _ row.whole
step_after l aim before words row (at.ReadingCell read spot byte leaf) sound was now = load_same l words _ row.whole
step_after l aim before words row (at.TakingCell take new) sound was now = take_leaves l take words sound.here.0 sound.here.1 row.whole
step_after l aim before words row (at.FillingCell fill spot free) sound was now =
    let change = change_with l aim (at.FillingCell fill spot free) in
    stage_same aim before (layer_of l words) (layer_of l (acted l words (change_asks change))) false (has_switched (stage_after (change_turned change (rows.got l words (change_asks change))))) was
    (fill_cell_goes change spot free (changes.filled_reference fill) (fill_cell_turned fill (rows.got l words (change_asks change)))) now
step_after l aim before words row (at.ReadingDepth leaf outer inner) sound was now = load_same l words _ row.whole
step_after l aim before words row (at.Counting look leaf outer inner) sound was now = load_same l words _ row.whole
step_after l aim before words row (at.ReadingIndex cell byte leaf) sound was now = load_same l words _ row.whole
step_after l aim before words row (at.Finishing finish) sound was now = finish_after l aim before (layer_of l words) (layer_of l (acted l words (change_asks (change_with l aim (at.Finishing finish))))) finish finish.at (rows.got l words (change_asks (change_with l aim (at.Finishing finish)))) was now
  where
    finish_after : (l : Layout) (aim : Aim) (before layer after : Layer) (f : Finish) (place : FinishAt) (x : ℕ) → AreSame layer (cond (has_stored place) (made_of aim before) before)
        → AreSame after (layer_at aim before (stage_after (finish_goes (change_with l aim (at.Finishing f)) (finish_at_turned f place x))))
        → AreSame after (cond (stores_switch place) (made_of aim layer) layer)
    finish_after l aim before layer after f finish_at.Quiet x was now = stage_same aim before layer after false false was refl now
    finish_after l aim before layer after f (finish_at.QuietFence fence) x was now =
        stage_same aim before layer after false (has_switched (stage_after (finish_goes (change_with l aim (at.Finishing f)) (quiet_drained f (fence_next fence x))))) was (quiet_goes (change_with l aim (at.Finishing f)) f (fence_next fence x)) now
    finish_after l aim before layer after f finish_at.Switch x was now = made_now aim before layer after was now
    finish_after l aim before layer after f (finish_at.SwitchFence fence) x was now =
        stage_same aim before layer after true (has_switched (stage_after (finish_goes (change_with l aim (at.Finishing f)) (switch_drained f (fence_next fence x))))) was (drained_switched (change_with l aim (at.Finishing f)) f (fence_next fence x)) now
    finish_after l aim before layer after f (finish_at.Unmark reference) x was now =
        stage_same aim before layer after true (has_switched (stage_after (finish_goes (change_with l aim (at.Finishing f)) (unmarks f)))) was (unmarks_switched (change_with l aim (at.Finishing f)) f) now
