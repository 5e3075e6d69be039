-- The stages of a filling of a leaf or a cell that the tree doesn't reach, and the kinds of its steps.
use Rattle.std.specs.Prelude.{◌≡◌, ℕ, ◌+◌, ◌*◌, ◌^◌, ◌<◌, ◌≤◌, Option, Some, None, IfSome, slice_index}
use Rattle.pm_words.specs.declared.machine.Turn.{Turn}
use Rattle.pm_words.specs.declared.machine.Turn.TheVariants.{Go, Done}
use Rattle.pm_words.specs.declared.fence.FenceAt.{FenceAt}
use Rattle.pm_words.specs.declared.fence.FenceAt.TheVariants as fence_at
use Rattle.radix_nodes.specs.declared.filling.Filling.{Filling}
use Rattle.radix_nodes.specs.declared.filling.Filling.TheVariants as at
use Rattle.radix_nodes.specs.declared.fill_leaf.FillLeaf.{FillLeaf}
use Rattle.radix_nodes.specs.declared.fill_cell.FillCell.{FillCell}
use Rattle.radix_nodes.specs.Cells.{words_of}
use Rattle.radix_nodes.specs.Fills.{leaf_value, fill_leaf_asks, fill_leaf_turned, fill_leaf_takes}
use Rattle.radix_nodes.specs.Fills.{lines_of, fill_cell_asks, fill_cell_turned, fill_cell_takes}
use Rattle.layer_map.specs.Layers.{Layer}
use Rattle.tree_law.specs.Words.{LayerWords, word_in, IsMix, Keeps, Part, LeafPart, CellPart, part_word, AreSameBut}
use Rattle.tree_law.specs.Stages.{SureFills}
use Rattle.tree_change.specs.Takes.{IsUnreached}
use Rattle.tree_change.specs.Endings.{Effect, Loads, Stores, Drains, Happens, HasEffect, SureCan, word_in_hand}

-- So many first words of the part stand, so many are durable, and it has this word in hand; or all is done.
pub data FillStage : Type 0 where
  Fills : ℕ → ℕ → Option ℕ → FillStage
  Filled : FillStage

pub data FillStep (part : Part) (lines : ℕ) (words : ℕ → ℕ) : FillStage → Effect → FillStage → Type 0 where
  stores_word : {o : ℕ} → o < 8 * lines →
      FillStep part lines words (Fills o 0 None) (Stores (part_word part o) (words o)) (Fills (o + 1) 0 None)
  glances_word : {d x : ℕ} {hand : Option ℕ} →
      FillStep part lines words (Fills (8 * lines) d hand) (Loads (part_word part d) x) (Fills (8 * lines) d (Some x))
  drains_word : {d x : ℕ} →
      FillStep part lines words (Fills (8 * lines) d (Some x)) (Drains (part_word part d) x)
      (Fills (8 * lines) (d + 1) None)
  drains_last : {d x : ℕ} → 8 * lines ≤ d + 1 →
      FillStep part lines words (Fills (8 * lines) d (Some x)) (Drains (part_word part d) x) Filled

-- What holds of the rows. `begun` are the cached words as it began.
pub record SureParts (count nodes : ℕ) (before : Layer) (begun : LayerWords) (part : Part) (lines : ℕ) (words : ℕ → ℕ)
    (o d : ℕ) (in_hand : Option ℕ) (w s : LayerWords) : Type 0 where
  pub sure : SureFills count nodes before part w s
  pub outside : AreSameBut part begun w
  pub stored : (k : ℕ) → k < o → word_in w (part_word part k) ≡ words k
  pub drained : (k : ℕ) → k < d → word_in s (part_word part k) ≡ word_in w (part_word part k)
  pub beyond : (k : ℕ) → 8 * lines ≤ k → word_in s (part_word part k) ≡ word_in w (part_word part k)
  pub hand : IfSome in_hand (λ y. word_in w (part_word part d) ≡ y)

pub record SureFilled (count nodes : ℕ) (before : Layer) (begun : LayerWords) (part : Part) (lines : ℕ) (words : ℕ → ℕ)
    (w s : LayerWords) : Type 0 where
  pub can : SureCan count nodes before w s
  pub unreached : IsUnreached w part
  pub outside : AreSameBut part begun w
  pub stored : (k : ℕ) → k < 8 * lines → word_in w (part_word part k) ≡ words k

abbrev pub SureFilling : ℕ → ℕ → Layer → LayerWords → Part → ℕ → (ℕ → ℕ) → FillStage → LayerWords → LayerWords → Type 0
SureFilling count nodes before begun part lines words (Fills o d hand) w s =
    SureParts count nodes before begun part lines words o d hand w s
SureFilling count nodes before begun part lines words Filled w s =
    SureFilled count nodes before begun part lines words w s

-- It begins where all words are durable, on a part that isn't reached.
abbrev pub FillBegins : Type 0
FillBegins = (count nodes : ℕ) (before : Layer) (part : Part) (lines : ℕ) (words : ℕ → ℕ) (w s : LayerWords) →
    SureCan count nodes before w s → IsUnreached w part →
    SureFilling count nodes before w part lines words (Fills 0 0 None) w s

-- Each step keeps what its stage knows; so does whatever becomes durable by itself; and the cached words and each mix
-- have the layer before.
abbrev pub FillStepKeeps : Type 0
FillStepKeeps = (count nodes : ℕ) (before : Layer) (begun : LayerWords) (part : Part) (lines : ℕ) (words : ℕ → ℕ)
    (f : FillStage) (effect : Effect) (f' : FillStage) (w s w' s' : LayerWords) →
    FillStep part lines words f effect f' → Happens effect w s w' s' →
    SureFilling count nodes before begun part lines words f w s →
    SureFilling count nodes before begun part lines words f' w' s'

abbrev pub FillingDrains : Type 0
FillingDrains = (count nodes : ℕ) (before : Layer) (begun : LayerWords) (part : Part) (lines : ℕ) (words : ℕ → ℕ)
    (f : FillStage) (w s mix : LayerWords) → SureFilling count nodes before begun part lines words f w s →
    IsMix w s mix → SureFilling count nodes before begun part lines words f w mix

abbrev pub FillingMixes : Type 0
FillingMixes = (count nodes : ℕ) (before : Layer) (begun : LayerWords) (part : Part) (lines : ℕ) (words : ℕ → ℕ)
    (f : FillStage) (w s mix : LayerWords) → SureFilling count nodes before begun part lines words f w s →
    IsMix w s mix → Keeps count nodes before w × Keeps count nodes before mix

-- the stage of a machine, and after a turn
abbrev pub stage_at : ℕ → Filling → FillStage
stage_at lines (at.Store offset) = Fills offset 0 None
stage_at lines (at.Drain line fence) = Fills (8 * lines) (8 * line + fence.word) (word_in_hand fence.at)

-- the effect of its action, which gives this number
abbrev pub line_effect : Part → ℕ → FenceAt → ℕ → Effect
line_effect part offset fence_at.Load got = Loads (part_word part offset) got
line_effect part offset (fence_at.Drain value) got = Drains (part_word part offset) value

abbrev pub effect_at : Part → (ℕ → ℕ) → Filling → ℕ → Effect
effect_at part words (at.Store offset) got = Stores (part_word part offset) (words offset)
effect_at part words (at.Drain line fence) got = line_effect part (8 * line + fence.word) fence.at got

-- Each turn of the machine that fills a leaf is such a step; and of the one that fills a cell.
abbrev pub leaf_words : FillLeaf → ℕ → ℕ
leaf_words m offset = leaf_value (slice_index m.key) m.node offset

abbrev pub leaf_after : Turn FillLeaf (Unit {0}) → FillStage
leaf_after (Go m) = stage_at 1 m.at
leaf_after (Done answer) = Filled

abbrev pub LeafTurns : Type 0
LeafTurns = (m : FillLeaf) (got : ℕ) → fill_leaf_takes m got →
    HasEffect m.layout (fill_leaf_asks m) (effect_at (LeafPart m.number) (leaf_words m) m.at got) ×
    FillStep (LeafPart m.number) 1 (leaf_words m) (stage_at 1 m.at)
    (effect_at (LeafPart m.number) (leaf_words m) m.at got) (leaf_after (fill_leaf_turned m got))

abbrev pub cell_part : FillCell → Part
cell_part m = CellPart (m.cell.kind * 2 ^ 16 + m.number)

abbrev pub cell_after : FillCell → Turn FillCell (Unit {0}) → FillStage
cell_after m (Go next) = stage_at (lines_of m.cell.kind) next.at
cell_after m (Done answer) = Filled

abbrev pub CellTurns : Type 0
CellTurns = (m : FillCell) (got : ℕ) → fill_cell_takes m got →
    HasEffect m.layout (fill_cell_asks m) (effect_at (cell_part m) (words_of m.cell) m.at got) ×
    FillStep (cell_part m) (lines_of m.cell.kind) (words_of m.cell) (stage_at (lines_of m.cell.kind) m.at)
    (effect_at (cell_part m) (words_of m.cell) m.at got) (cell_after m (fill_cell_turned m got))
