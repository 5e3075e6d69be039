-- What other parties and evictions leave of what a change knows.
use Rattle.std.proofs.Common.{◌≡◌, ℕ, ◌+◌, ◌==◌, cond, List, length, slice_index, slice_set, sym, subst, ap}
use Rattle.pm_words.specs.declared.layout.Layout.{Layout}
use Rattle.pm_words.specs.declared.action.Action.{Action}
use Rattle.pm_words.specs.declared.action.Action.TheVariants.{Load}
use Rattle.pm_words.specs.Locations.{Cached, Durable, leaf_count, address_of, at, row_words}
use Rattle.pm_words.specs.Rows.{acted, evicted}
use Rattle.pm_words.proofs.Kept.{action_address-drain}
use Rattle.tree_row.specs.Rows.{layer_words}
use Rattle.tree_row.specs.RowMarks.{row_marks}
use Rattle.tree_row.proofs.RowLaw.{load_same}
use Rattle.search_layer.specs.Rows.{HasSameLayer}
use Rattle.search_layer.specs.Kept.{IsAtRest}
use Rattle.search_layer.specs.Beside.{ActsBeside, loads, stores, exchanges, adds, drains, BesideLeavesLayer, DrainIsEviction, SureStays, OthersKeep, EvictionsKeep, RestStays, RestOutlasts, RestEvicts}
use Rattle.search_layer.specs.Laws.{SureOn}
use Rattle.tree_law.specs.Words.{LayerWords, AreEven}
use Rattle.tree_law.specs.Stages.{Marks, MarksTell}
use Rattle.search_layer.specs.Kept.{IsKept}
use Rattle.search_layer.proofs.RowLemmas.{layer_alike, layer_words_stay, mixes_are_even, row_eviction_mixes}
use Rattle.search_layer.proofs.StageLemmas.{stage_evicts}

leaves : (l : Layout) (words : List ℕ) {a : Action} → length words ≡ row_words l → ActsBeside l a → HasSameLayer l words (acted l words a)
leaves l words whole (loads {address}) =
    layer_alike l words (acted l words (Load address)) (λ p has of. load_same l words address p whole has)
leaves l words whole (stores p {y} has e) = layer_words_stay l words p y has e
leaves l words whole (exchanges p {old} {new} has e) =
    let word = slice_index words (address_of l p) in
    layer_words_stay l words p (cond (word == old) new word) has e
leaves l words whole (adds p has e) = layer_words_stay l words p (slice_index words (address_of l p) + 1) has e
leaves l words whole (drains w {y} has e) =
    subst (λ k. HasSameLayer l words (slice_set words k y)) (sym (action_address-drain l w y)) (layer_words_stay l words (Durable w) y has e)

pub beside_leaves_layer : BesideLeavesLayer
beside_leaves_layer l words a whole acts = leaves l words whole acts

pub drain_is_eviction : DrainIsEviction
drain_is_eviction l words w = ap (λ k. slice_set words k (at l words (Cached w))) (action_address-drain l w (at l words (Cached w)))

pub sure_stays : SureStays
sure_stays l before aim stage words after same sure =
    subst (λ w. SureOn l before aim stage w (layer_words l after Durable) (row_marks l after)) (sym same.cached)
    (subst (λ s. SureOn l before aim stage (layer_words l words Cached) s (row_marks l after)) (sym same.durable)
    (subst (SureOn l before aim stage (layer_words l words Cached) (layer_words l words Durable)) (sym same.marks) sure))

pub others_keep : OthersKeep
others_keep l before aim stage words a whole acts sure = sure_stays l before aim stage words (acted l words a) (leaves l words whole acts) sure

pub evictions_keep : EvictionsKeep
evictions_keep l before aim stage words word whole within sure =
    let after = evicted l words word in
    let evicts = row_eviction_mixes l words word whole within in
    subst (λ w. SureOn l before aim stage w (layer_words l after Durable) (row_marks l after)) (sym evicts.cached)
    (subst (SureOn l before aim stage (layer_words l words Cached) (layer_words l after Durable)) (sym evicts.marks)
    (stage_evicts l aim before stage (layer_words l words Cached) (layer_words l words Durable) (layer_words l after Durable) (row_marks l words) evicts.durable sure))

-- of words that are at rest
rests : (l : Layout) (words after : List ℕ) → layer_words l after Cached ≡ layer_words l words Cached → AreEven (layer_words l words Cached) (layer_words l after Durable) → row_marks l after ≡ row_marks l words → IsAtRest l words → IsAtRest l after
rests l words after cached even marks rest = record {
  lawful = subst (IsKept l) (sym cached) rest.lawful;
  even = subst (λ w. AreEven w (layer_words l after Durable)) (sym cached) even;
  tells = subst (λ (w : LayerWords). MarksTell (leaf_count l) (row_marks l after) w) (sym cached) (subst (λ (m : Marks). MarksTell (leaf_count l) m (layer_words l words Cached)) (sym marks) rest.tells);
}

pub rest_stays : RestStays
rest_stays l words after same rest = rests l words after same.cached (subst (AreEven (layer_words l words Cached)) (sym same.durable) rest.even) same.marks rest

pub rest_outlasts : RestOutlasts
rest_outlasts l words a whole acts rest = rest_stays l words (acted l words a) (leaves l words whole acts) rest

pub rest_evicts : RestEvicts
rest_evicts l words word whole within rest =
    let after = evicted l words word in
    let evicts = row_eviction_mixes l words word whole within in
    rests l words after evicts.cached (mixes_are_even (layer_words l words Cached) (layer_words l words Durable) (layer_words l after Durable) rest.even evicts.durable) evicts.marks rest
