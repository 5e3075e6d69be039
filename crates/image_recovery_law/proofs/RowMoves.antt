-- The stores of a recovery's moves, and the ends of their fences, on a row of words.
use Rattle.std.proofs.Common.{◌≡◌, ℕ, suc, ◌<◌, false, List, ◌∷◌, length, refl, sym, subst, subst₂, ◌∙◌, arith}
use Rattle.pm_words.specs.declared.layout.Layout.{Layout}
use Rattle.pm_words.specs.declared.action.Action.{Action}
use Rattle.pm_words.specs.declared.action.Action.TheVariants.{Store}
use Rattle.pm_words.specs.Locations.{Word, Header, Node, Cached, Durable, HasWord, row_words, image_words, address_of}
use Rattle.pm_words.specs.Locations.{at}
use Rattle.pm_words.specs.Rows.{acted, evicted}
use Rattle.pm_words.specs.Offsets.{bitmap_offset, state_offset, generation_offset}
use Rattle.data_node.specs.Lists.{ListNode}
use Rattle.layer_map.specs.Layers.{Layer}
use Rattle.layer_map.specs.Places.{is_layer_word}
use Rattle.updater_row_law.specs.search_layer.specs.Rows.{LayerWords, Marks, layer_words, layer_marks}
use Rattle.updater_row_law.specs.search_layer.specs.Kept.{MarksTell}
use Rattle.updater_row_law.specs.tree_update.specs.Stages.{Aim}
use Rattle.updater_row_law.specs.search_layer.specs.ChangeStages.{Changing}
use Rattle.updater_row_law.specs.search_layer.proofs.RowLemmas.{layer_words_stay, row_eviction_mixes}
use Rattle.updater_row_law.specs.search_layer.proofs.BesideLemmas.{evictions_keep}
use Rattle.updater_row_law.specs.search_layer.proofs.RootLemmas.{root_evictions_keep}
use Rattle.updater_row_law.specs.Columns.{line_word}
use Rattle.image_recovery_law.specs.Columns.{Columns}
use Rattle.image_recovery_law.specs.Stages.{with_generation, with_bits, with_empty, aim_at, Stage, Begins, Raised}
use Rattle.image_recovery_law.specs.Stages.{Trims, Trimmed, Unsets, Unsetting, Sets, Setting, Empties, Emptied, Wakes}
use Rattle.image_recovery_law.specs.Stages.{raises, raised, trims, trimmed, empties, emptied, Sure}
use Rattle.image_recovery_law.specs.Rows.{columns_in, StoresOn}
use Rattle.image_recovery_law.specs.RowMoves.{MarksTellIn, IsChangingIn, KnowsMarks, RowSure, of_generation, of_bits}
use Rattle.image_recovery_law.specs.RowMoves.{of_empty, MoveStores, MoveEnds, RowEvicts}
use Rattle.image_recovery_law.proofs.Mixes as mixes
use Rattle.image_recovery_law.proofs.Steps.{steps_keep}
use Rattle.image_recovery_law.proofs.Plans.{planned_bits_serve}
use Rattle.image_recovery_law.proofs.RowColumns.{word_if-here, has_spot_word, spot_here, has_line_word, line_here}
use Rattle.image_recovery_law.proofs.RowStores.{generation_stores, bits_store, empty_stores, eviction_mixes_columns}

-- Marks that tell what is reached do so where the words of the layer and the marks are the same.
pub tells_by : (l : Layout) (words after : List ℕ) → layer_words l after Cached ≡ layer_words l words Cached → layer_marks l after ≡ layer_marks l words → MarksTellIn l words → MarksTellIn l after
tells_by l words after layer marks tells =
    subst (λ (w : LayerWords). MarksTell l (layer_marks l after) w) (sym layer) (subst (λ (m : Marks). MarksTell l m (layer_words l words Cached)) (sym marks) tells)

-- a store into a word that isn't of the layer leaves them so
tells_stored : (l : Layout) (words : List ℕ) (w : Word) (value : ℕ) → HasWord l w → is_layer_word w ≡ false → MarksTellIn l words → MarksTellIn l (acted l words (Store (address_of l (Cached w)) value))
tells_stored l words w value has outside tells =
    let same = layer_words_stay l words (Cached w) value has outside in
    tells_by l words (acted l words (Store (address_of l (Cached w)) value)) same.cached same.marks tells

-- after a store that makes these columns of the cached row
stored : (l : Layout) (list : List ListNode) (o : Columns) (words : List ℕ) (a : Action) (now : Columns) (t : Stage) → StoresOn l words a now → Sure l list o t now (columns_in l words Durable) → KnowsMarks l o t (acted l words a)
    → RowSure l list o t (acted l words a)
stored l list o words a now t stores sure marks = record { sure = subst₂ (λ (x y : Columns). Sure l list o t x y) (sym stores.cached) (sym stores.durable) sure; marks = marks }

pub move_stores : MoveStores
move_stores l list o words s t u w value whole sound known of_generation =
    let now : Columns = columns_in l words Cached in
    let safe : Columns = columns_in l words Durable in
    let next : Sure l list o Raised (with_generation now (suc now.generation)) safe =
    steps_keep l list o now safe (with_generation now (suc now.generation)) safe Begins Raised sound known.sure raises in
    stored l list o words (Store (address_of l (Cached (Header generation_offset))) (suc o.generation)) (with_generation now (suc o.generation)) Raised
    (generation_stores l words (suc o.generation) whole)
    (subst (λ g. Sure l list o Raised (with_generation now (suc g)) safe) known.sure.2 next)
    (tells_stored l words (Header generation_offset) (suc o.generation) (omega arith) refl known.marks)
move_stores l list o words s t u w value whole sound known (of_bits n bits left within is fits) =
    let now : Columns = columns_in l words Cached in
    let safe : Columns = columns_in l words Durable in
    let serve = planned_bits_serve l list o now n bits sound known.sure.0.cached is fits in
    stored l list o words (Store (address_of l (Cached (Node n bitmap_offset))) bits) (with_bits now n bits) (Trimmed n left) (bits_store l words n bits whole within)
    (steps_keep l list o now safe (with_bits now n bits) safe (Trims (n ∷ left)) (Trimmed n left) sound known.sure (trims n left bits serve.trim serve.stays))
    (tells_stored l words (Node n bitmap_offset) bits (within, omega arith) refl known.marks)
move_stores l list o words s t u w value whole sound known (of_empty j within) =
    let now : Columns = columns_in l words Cached in
    let safe : Columns = columns_in l words Durable in
    stored l list o words (Store (address_of l (Cached (line_word state_offset j))) 0) (with_empty now j) (Emptied j) (empty_stores l words j whole within)
    (steps_keep l list o now safe (with_empty now j) safe (Empties j) (Emptied j) sound known.sure (empties j))
    (tells_stored l words (line_word state_offset j) 0 (omega arith, omega arith, omega arith) refl known.marks)

pub move_ends : MoveEnds
move_ends l list o words s t u w value sound known of_generation even = record {
  sure = steps_keep l list o (columns_in l words Cached) (columns_in l words Durable) (columns_in l words Cached) (columns_in l words Durable) t u sound known.sure (raised even);
  marks = known.marks;
}
move_ends l list o words s t u w value sound known (of_bits n bits left within is fits) even =
    let inside = spot_here l n bitmap_offset within (omega arith) (omega arith) in
    record {
      sure = steps_keep l list o (columns_in l words Cached) (columns_in l words Durable) (columns_in l words Cached) (columns_in l words Durable) t u sound known.sure
          (trimmed n left (word_if-here (has_spot_word l n bitmap_offset) (at l words (Durable (Node n bitmap_offset))) inside ∙ even ∙ sym (word_if-here (has_spot_word l n bitmap_offset) (at l words (Cached (Node n bitmap_offset))) inside)));
      marks = known.marks;
    }
move_ends l list o words s t u w value sound known (of_empty j within) even =
    let inside = line_here l j state_offset within (omega arith) in
    record {
      sure = steps_keep l list o (columns_in l words Cached) (columns_in l words Durable) (columns_in l words Cached) (columns_in l words Durable) t u sound known.sure
          (emptied j (word_if-here (has_line_word l j state_offset) (at l words (Durable (line_word state_offset j))) inside ∙ even ∙ sym (word_if-here (has_line_word l j state_offset) (at l words (Cached (line_word state_offset j))) inside)));
      marks = known.marks;
    }

-- a word that becomes durable leaves what is known of the marks
module _ (l : Layout) (o : Columns) (words : List ℕ) (word : ℕ) (whole : length words ≡ row_words l) (within : word < image_words l) where
  tells_evict : MarksTellIn l words → MarksTellIn l (evicted l words word)
  tells_evict tells = let mixes = row_eviction_mixes l words word whole within in tells_by l words (evicted l words word) mixes.cached mixes.marks tells

  changing_evicts : (aim : Aim) (before : Layer) (c : Changing) → IsChangingIn l aim before c words → IsChangingIn l aim before c (evicted l words word)
  changing_evicts aim before c known = record {
    sure = evictions_keep l before aim c words word whole within known.sure;
    holds = root_evictions_keep l words c word within known.holds;
  }

  marks_evict : (s : Stage) → KnowsMarks l o s words → KnowsMarks l o s (evicted l words word)
  marks_evict Begins tells = tells_evict tells
  marks_evict Raised tells = tells_evict tells
  marks_evict (Trims left) tells = tells_evict tells
  marks_evict (Trimmed n left) tells = tells_evict tells
  marks_evict (Unsets j) tells = tells_evict tells
  marks_evict (Unsetting j before c) known = changing_evicts (aim_at o j 0) before c known
  marks_evict (Sets j) tells = tells_evict tells
  marks_evict (Setting j n before c) known = changing_evicts (aim_at o j (suc n)) before c known
  marks_evict (Empties j) tells = tells_evict tells
  marks_evict (Emptied j) tells = tells_evict tells
  marks_evict Wakes tells = tells_evict tells

pub row_evicts : RowEvicts
row_evicts l list o words s word whole within sound known =
    let mixed = eviction_mixes_columns l words word whole within in
    record {
      sure = subst (λ (x : Columns). Sure l list o s x (columns_in l (evicted l words word) Durable)) (sym mixed.cached)
          (mixes.evictions_keep l list o (columns_in l words Cached) (columns_in l words Durable) (columns_in l (evicted l words word) Durable) s sound known.sure mixed.durable);
      marks = marks_evict l o words word whole within s known.marks;
    }
