-- The words of the image are the cached ones: those of nodes, of the layer and of lines.
use Rattle.std.proofs.Common.{◌≡◌, ℕ, ◌<◌, true, false, cond, List, refl, sym, ◌∙◌, slice_index}
use Rattle.std.proofs.lemmas.Bool.{lt-ltb}
use Rattle.pm_words.specs.declared.layout.Layout.{Layout}
use Rattle.pm_words.specs.Locations.{Node, Line, Cached, word_at}
use Rattle.pm_words.specs.Rows.{cached_row}
use Rattle.pm_words.proofs.Made.{cached_row-at}
use Rattle.image_rules.specs.Nodes.{image_spot}
use Rattle.call_stages.specs.Kinds.{word_address}
use Rattle.index_law.specs.Facts.{spot_in}
use Rattle.index_law.specs.Lines.{line_in}
use Rattle.index_law.proofs.Rows.{in_spot, in_spot-true}
use Rattle.index_layer_law.specs.search_layer.specs.Rows.{layer_words, image_layer_words}
use Rattle.index_layer_law.specs.updater_row_law.specs.Columns.{lines_in}
use Rattle.image_layer_rules.specs.Anchors.{image_lines}
use Rattle.index_image_law.proofs.TwinWords.{AreTwinWords}
use Rattle.index_image_law.proofs.TwinWords as twin

spot_at : (l : Layout) (words : List ℕ) (n offset : ℕ) → spot_in l words n offset ≡ image_spot l (cached_row l words) n offset
unfolding spot_in image_spot
spot_at l words n offset =
    elim (in_spot l n offset) as (λ b. in_spot l n offset ≡ b → cond b (slice_index words (word_address l n offset)) 0 ≡ cond b (word_at l (cached_row l words) (Node n offset)) 0) [
      | true ↦ λ here. sym (cached_row-at l words (Node n offset) (in_spot-true l n offset here).0)
      | false ↦ λ past. refl
    ] refl

-- those of nodes
pub spots_are : (l : Layout) (words : List ℕ) → spot_in l words ≡ image_spot l (cached_row l words)
spots_are l words = λ k n offset. spot_at l words n offset k

-- those of the layer and of lines
cached : (l : Layout) (words : List ℕ) → AreTwinWords l words Cached (cached_row l words)
cached l words = cached_row-at l words

pub layer_is : (l : Layout) (words : List ℕ) → layer_words l words Cached ≡ image_layer_words l (cached_row l words)
layer_is l words = twin.layer_is l words (cached_row l words) Cached (cached l words)

pub lines_are : (l : Layout) (words : List ℕ) → lines_in l words Cached ≡ image_lines l (cached_row l words)
lines_are l words = twin.lines_are l words (cached_row l words) Cached (cached l words)

-- the words of a line as the law of calls has them
pub line_at : (l : Layout) (words : List ℕ) (c j offset : ℕ) → c < l.callers → j < 8 → offset < 8 → word_at l (cached_row l words) (Line c j offset) ≡ line_in l words c j offset
unfolding line_in
line_at l words c j offset caller number small =
    cached_row-at l words (Line c j offset) (caller, number, small)
    ∙ sym (rw (lt-ltb c l.callers caller, lt-ltb j 8 number, lt-ltb offset 8 small) refl)
