-- The end of a change, and a filling, on a row of words.
use Rattle.std.proofs.Common.{ℕ, ◌^◌, ◌<◌, ◌⊎◌, List, inl, inr, refl, sym, subst, arith}
use Rattle.pm_words.specs.declared.layout.Layout.{Layout}
use Rattle.pm_words.specs.declared.action.Action.{Action}
use Rattle.pm_words.specs.declared.action.Action.TheVariants.{Load, Store, Exchange, Add, Drain}
use Rattle.pm_words.specs.Locations.{Cached, Durable}
use Rattle.pm_words.specs.Rows.{IsRow, acted, evicted}
use Rattle.pm_words.specs.Rows as rows
use Rattle.radix_nodes.specs.Cells.{words_of}
use Rattle.radix_nodes.specs.Fills.{lines_of, fill_leaf_asks, fill_leaf_turned, fill_cell_asks, fill_cell_turned}
use Rattle.layer_map.specs.Layers.{Layer}
use Rattle.tree_law.specs.Words.{LayerWords, IsMix, Keeps, Part, LeafPart}
use Rattle.tree_floor.specs.tree_row.specs.Rows.{layer_words}
use Rattle.tree_floor.specs.tree_row.proofs.RowLaw.{crash_reads, eviction_mixes}
use Rattle.tree_change.specs.Finishes.{finish_asks, finish_turned}
use Rattle.tree_change.specs.Endings.{Ending, CanQuiet, Quieted, CanSwitch, Switched, Unmarks, EndingMix, SureEnding}
use Rattle.tree_change.specs.Endings.{Effect, ending_at, ending_after}
use Rattle.tree_change.specs.Endings as endings
use Rattle.tree_change.specs.Fillings.{FillStage, FillStep, SureFilling, effect_at, stage_at, leaf_words, leaf_after, cell_part, cell_after}
use Rattle.tree_change.specs.RowSteps.{LeavesLayer, FinishActs, FinishEvicts, FinishCrashes, LeafActs, CellActs}
use Rattle.tree_change.specs.RowSteps.{FillingIn, FillEvicts, FillCrashes}
use Rattle.tree_change.specs.Acts.{HappensIn}
use Rattle.tree_change.proofs.FinishTurns.{finish_turns}
use Rattle.tree_change.proofs.FillTurns.{leaf_turns, cell_turns}
use Rattle.tree_change.proofs.EndingLaw.{end_step_keeps, ending_drains, ending_mixes}
use Rattle.tree_change.proofs.FillingLaw.{fill_step_keeps, filling_drains, filling_mixes}
use Rattle.tree_change.proofs.ActsLaw.{finish_happens, leaf_happens, cell_happens}

-- what an action gives has 64 bits
pub got_fits : (l : Layout) (words : List ℕ) → IsRow l words → (a : Action) → rows.got l words a < 2 ^ 64
got_fits l words row (Load address) = row.fits address
got_fits l words row (Store address value) = omega arith
got_fits l words row (Exchange address old new) = row.fits address
got_fits l words row (Add address) = row.fits address
got_fits l words row (Drain address value) = omega arith

-- the words of the layer in a row, and once it was acted on
abbrev in_cached : Layout → List ℕ → LayerWords
in_cached l words = layer_words l words Cached

abbrev in_durable : Layout → List ℕ → LayerWords
in_durable l words = layer_words l words Durable

pub finish_acts : FinishActs
finish_acts count nodes before made f words is row sure =
    let l = f.layout in
    let x = rows.got l words (finish_asks f) in
    let after = acted l words (finish_asks f) in
    let turns = finish_turns f x (is, got_fits l words row (finish_asks f)) in
    end_step_keeps count nodes before made (ending_at f f.at) (endings.effect_at f f.at x) (ending_after (finish_turned f x)) (in_cached l words) (in_durable l words) (in_cached l after) (in_durable l after)
    turns.1 (finish_happens f words is row.whole) sure

pub finish_evicts : FinishEvicts
finish_evicts count nodes before made l e words word whole sure =
    let mixes = eviction_mixes l words word whole in
    let after = in_durable l (evicted l words word) in
    subst (λ w. SureEnding count nodes before made e w after) (sym mixes.0) (ending_drains count nodes before made e (in_cached l words) (in_durable l words) after sure mixes.1)

mix_is : (count nodes : ℕ) (before made : Layer) (e : Ending) (mix : LayerWords) → EndingMix count nodes before made e mix → Keeps count nodes before mix ⊎ Keeps count nodes made mix
mix_is count nodes before made (CanQuiet p y q z) mix keeps = inl keeps
mix_is count nodes before made (Quieted p d hand q z) mix keeps = inl keeps
mix_is count nodes before made (CanSwitch q z) mix keeps = inl keeps
mix_is count nodes before made (Switched q d hand) mix keeps = keeps
mix_is count nodes before made Unmarks mix keeps = inr keeps

-- what a crash leaves are the durable words
left : (count nodes : ℕ) (layer : Layer) (l : Layout) (words : List ℕ) → Keeps count nodes layer (in_durable l words) → LeavesLayer count nodes layer l words
left count nodes layer l words keeps = subst (Keeps count nodes layer) (sym (crash_reads l words)) keeps

-- and these are a mix
durable_mix : (w s : LayerWords) → IsMix w s s
durable_mix w s p = inr refl

pub finish_crashes : FinishCrashes
finish_crashes count nodes before made l e words sure =
    let w = in_cached l words in
    let s = in_durable l words in
    elim (mix_is count nodes before made e s (ending_mixes count nodes before made e w s s sure (durable_mix w s)).1) [
      | inl old ↦ inl (left count nodes before l words old)
      | inr new ↦ inr (left count nodes made l words new)
    ]

-- an action of a filling that has this effect
fill_acts : (count nodes : ℕ) (before : Layer) (begun : LayerWords) (l : Layout) (part : Part) (lines : ℕ) (wanted : ℕ → ℕ) (f : FillStage) (effect : Effect) (f' : FillStage) (words : List ℕ) (a : Action)
    → FillStep part lines wanted f effect f' → HappensIn l words a effect → FillingIn count nodes before begun l part lines wanted f words → FillingIn count nodes before begun l part lines wanted f' (acted l words a)
fill_acts count nodes before begun l part lines wanted f effect f' words a step happens sure =
    fill_step_keeps count nodes before begun part lines wanted f effect f' (in_cached l words) (in_durable l words) (in_cached l (acted l words a)) (in_durable l (acted l words a)) step happens sure

pub leaf_acts : LeafActs
leaf_acts count nodes before begun m words is row sure =
    let x = rows.got m.layout words (fill_leaf_asks m) in
    fill_acts count nodes before begun m.layout (LeafPart m.number) 1 (leaf_words m) (stage_at 1 m.at) (effect_at (LeafPart m.number) (leaf_words m) m.at x) (leaf_after (fill_leaf_turned m x)) words (fill_leaf_asks m)
    (leaf_turns m x (is, got_fits m.layout words row (fill_leaf_asks m))).1 (leaf_happens m words is row.whole) sure

pub cell_acts : CellActs
cell_acts count nodes before begun m words is row sure =
    let lines = lines_of m.cell.kind in
    let x = rows.got m.layout words (fill_cell_asks m) in
    fill_acts count nodes before begun m.layout (cell_part m) lines (words_of m.cell) (stage_at lines m.at) (effect_at (cell_part m) (words_of m.cell) m.at x) (cell_after m (fill_cell_turned m x)) words (fill_cell_asks m)
    (cell_turns m x (is, got_fits m.layout words row (fill_cell_asks m))).1 (cell_happens m words is row.whole) sure

pub fill_evicts : FillEvicts
fill_evicts count nodes before begun l part lines wanted f words word whole sure =
    let mixes = eviction_mixes l words word whole in
    let after = in_durable l (evicted l words word) in
    subst (λ w. SureFilling count nodes before begun part lines wanted f w after) (sym mixes.0) (filling_drains count nodes before begun part lines wanted f (in_cached l words) (in_durable l words) after sure mixes.1)

pub fill_crashes : FillCrashes
fill_crashes count nodes before begun l part lines wanted f words sure =
    let w = in_cached l words in
    let s = in_durable l words in
    left count nodes before l words (filling_mixes count nodes before begun part lines wanted f w s s sure (durable_mix w s)).1
