-- Each turn of a machine that fills a leaf or a cell is a step of the stages of a filling.
use Rattle.std.proofs.Common.{◌≡◌, ℕ, ◌+◌, ◌*◌, ◌^◌, ◌<◌, ◌≤◌, true, false, cond, ltb, Option, Some, None, refl}
use Rattle.std.proofs.Common.{subst, ap, ap₂, arith}
use Rattle.std.proofs.lemmas.Bool.{ltb-false}
use Rattle.pm_words.specs.declared.layout.Layout.{Layout}
use Rattle.pm_words.specs.declared.action.Action.{Action}
use Rattle.pm_words.specs.declared.action.Action.TheVariants as action
use Rattle.pm_words.specs.declared.fence.Fence.{Fence}
use Rattle.pm_words.specs.declared.fence.FenceAt.{FenceAt}
use Rattle.pm_words.specs.declared.fence.FenceAt.TheVariants as fence_at
use Rattle.pm_words.specs.Fences.{fence_start, fence_at_asks, FenceTurn}
use Rattle.pm_words.specs.Fences as turn
use Rattle.pm_words.specs.Locations.{Cell, Cached, address_of, leaf_count}
use Rattle.pm_words.proofs.Fencing.{fence_turns}
use Rattle.radix_nodes.specs.declared.fill_leaf.FillLeaf.{FillLeaf}
use Rattle.radix_nodes.specs.declared.fill_cell.FillCell.{FillCell}
use Rattle.radix_nodes.specs.declared.filling.Filling.{Filling}
use Rattle.radix_nodes.specs.declared.filling.Filling.TheVariants as at
use Rattle.radix_nodes.specs.Cells.{words_of}
use Rattle.radix_nodes.specs.Fills.{filling_offset, filling_asks, filling_next, next_line, IsFilling, lines_of}
use Rattle.radix_nodes.specs.Fills.{fill_leaf_asks, fill_cell_asks, IsFillCell, fill_leaf_goes, fill_cell_goes}
use Rattle.radix_nodes.specs.Fills.{leaf_address, cell_address}
use Rattle.tree_law.specs.Words.{Part, LeafPart, kind_of, number_of, part_word}
use Rattle.tree_floor.specs.tree_row.specs.Rows.{layer_address}
use Rattle.tree_change.specs.Endings.{Effect, Stores, Drains, HasEffect, word_in_hand}
use Rattle.tree_change.specs.Fillings.{FillStage, Fills, Filled, FillStep, stores_word, glances_word, drains_word}
use Rattle.tree_change.specs.Fillings.{drains_last, stage_at, line_effect, effect_at, leaf_words, leaf_after}
use Rattle.tree_change.specs.Fillings.{LeafTurns, cell_part, cell_after, CellTurns}

-- Where its words stand at these addresses, its action has the effect.
module _ (l : Layout) (part : Part) (words : ℕ → ℕ) (address : ℕ → ℕ) (same : (o : ℕ) → address o ≡ layer_address l (part_word part o)) where
  line_has : (offset : ℕ) (place : FenceAt) (got : ℕ) → HasEffect l (fence_at_asks (address offset) place) (line_effect part offset place got)
  line_has offset fence_at.Load got = ap action.Load (same offset)
  line_has offset (fence_at.Drain value) got = ap (λ a. action.Drain a value) (same offset)

  pub has_effect : (f : Filling) (got : ℕ) → HasEffect l (filling_asks (address (filling_offset f)) (words (filling_offset f)) f) (effect_at part words f got)
  has_effect (at.Store offset) got = ap (λ a. action.Store a (words offset)) (same offset)
  has_effect (at.Drain line fence) got = line_has (8 * line + fence.word) fence.at got

module _ (part : Part) (lines : ℕ) (words : ℕ → ℕ) where
  abbrev pub stage_after : Option Filling → FillStage
  stage_after (Some next) = stage_at lines next
  stage_after None = Filled

  abbrev Step : FillStage → Effect → FillStage → Type 0
  Step f effect f' = FillStep part lines words f effect f'

  line_ends : (line word value : ℕ) → word + 1 ≡ 8 → Step (Fills (8 * lines) (8 * line + word) (Some value)) (Drains (part_word part (8 * line + word)) value) (stage_after (next_line lines line None))
  line_ends line word value last = elim (ltb (line + 1) lines) as (λ a. ltb (line + 1) lines ≡ a → Step (Fills (8 * lines) (8 * line + word) (Some value)) (Drains (part_word part (8 * line + word)) value) (stage_after (cond a (Some (at.Drain (line + 1) fence_start)) None))) [
    | true ↦ λ e. subst (λ k. Step (Fills (8 * lines) (8 * line + word) (Some value)) (Drains (part_word part (8 * line + word)) value) (Fills (8 * lines) k None)) (let is : 8 * line + word + 1 ≡ 8 * (line + 1) + 0 = omega arith in is) drains_word
    | false ↦ λ e. let past = ltb-false _ _ e in drains_last (let end : 8 * lines ≤ 8 * line + word + 1 = omega arith in end)
  ] refl

  pub steps : (f : Filling) (got : ℕ) → IsFilling lines f → got < 2 ^ 64 → Step (stage_at lines f) (effect_at part words f got) (stage_after (filling_next lines f got))
  steps (at.Store offset) got within fits = elim (ltb (offset + 1) (8 * lines)) as (λ a. ltb (offset + 1) (8 * lines) ≡ a → Step (Fills offset 0 None) (Stores (part_word part offset) (words offset)) (stage_after (cond a (Some (at.Store (offset + 1))) (Some (at.Drain 0 fence_start))))) [
    | true ↦ λ e. stores_word within
    | false ↦ λ e.
        let past = ltb-false _ _ e in
        subst (λ k. Step (Fills offset 0 None) (Stores (part_word part offset) (words offset)) (Fills k 0 None)) (let is : offset + 1 ≡ 8 * lines = omega arith in is) (stores_word within)
  ] refl
  steps (at.Drain line fence) got is fits = leads fence _ _ (fence_turns 0 fence got is.1 fits)
    where
      leads : (before : Fence) (asked : Action) (next : Option Fence) → FenceTurn 0 got before asked next → Step (Fills (8 * lines) (8 * line + before.word) (word_in_hand before.at)) (line_effect part (8 * line + before.word) before.at got) (stage_after (next_line lines line next))
      leads before asked next (turn.loads {word} small value) = glances_word
      leads before asked next (turn.drains {word} {value} more small) =
          subst (λ k. Step (Fills (8 * lines) (8 * line + word) (Some value)) (Drains (part_word part (8 * line + word)) value) (Fills (8 * lines) k None)) (let is : 8 * line + word + 1 ≡ 8 * line + (word + 1) = omega arith in is) drains_word
      leads before asked next (turn.drains_last {word} {value} last small) = line_ends line word value last

-- what each action of a filling does
pub leaf_has : (m : FillLeaf) (got : ℕ) → HasEffect m.layout (fill_leaf_asks m) (effect_at (LeafPart m.number) (leaf_words m) m.at got)
leaf_has m got = has_effect m.layout (LeafPart m.number) (leaf_words m) (leaf_address m) (λ o. refl) m.at got

pub cell_has : (m : FillCell) → IsFillCell m → (got : ℕ) → HasEffect m.layout (fill_cell_asks m) (effect_at (cell_part m) (words_of m.cell) m.at got)
cell_has m is got =
    let few : m.layout.nodes ≤ 4096 = is.layout.nodes.1 in
    let within : m.number < leaf_count m.layout = is.number in
    let x = m.cell.kind * 2 ^ 16 + m.number in
    let kind : m.cell.kind ≡ kind_of x = omega arith in
    let number : m.number ≡ number_of x = omega arith in
    has_effect m.layout (cell_part m) (words_of m.cell) (cell_address m) (λ o. ap₂ (λ k n. address_of m.layout (Cached (Cell k n o))) kind number) m.at got

pub leaf_turns : LeafTurns
leaf_turns m got takes = (
  leaf_has m got,
  go (filling_next 1 m.at got) (steps (LeafPart m.number) 1 (leaf_words m) m.at got takes.0.here takes.1),
)
  where
    go : (next : Option Filling) → FillStep (LeafPart m.number) 1 (leaf_words m) (stage_at 1 m.at) (effect_at (LeafPart m.number) (leaf_words m) m.at got) (stage_after (LeafPart m.number) 1 (leaf_words m) next)
        → FillStep (LeafPart m.number) 1 (leaf_words m) (stage_at 1 m.at) (effect_at (LeafPart m.number) (leaf_words m) m.at got) (leaf_after (fill_leaf_goes m next))
    go (Some next) step = step
    go None step = step

pub cell_turns : CellTurns
cell_turns m got takes = (
  cell_has m takes.0 got,
  go (filling_next (lines_of m.cell.kind) m.at got) (steps (cell_part m) (lines_of m.cell.kind) (words_of m.cell) m.at got takes.0.here takes.1),
)
  where
    go : (next : Option Filling) → FillStep (cell_part m) (lines_of m.cell.kind) (words_of m.cell) (stage_at (lines_of m.cell.kind) m.at) (effect_at (cell_part m) (words_of m.cell) m.at got) (stage_after (cell_part m) (lines_of m.cell.kind) (words_of m.cell) next)
        → FillStep (cell_part m) (lines_of m.cell.kind) (words_of m.cell) (stage_at (lines_of m.cell.kind) m.at) (effect_at (cell_part m) (words_of m.cell) m.at got) (cell_after m (fill_cell_goes m next))
    go (Some next) step = step
    go None step = step
