-- The words of the tree in an image have 64 bits each.
use Rattle.std.proofs.Common.{ℕ, ◌^◌, ◌<◌, true, false, cond, List, slice_index, arith}
use Rattle.pm_words.specs.declared.layout.Layout.{Layout}
use Rattle.pm_words.specs.Locations.{word_at}
use Rattle.tree_law.specs.Words.{LayerWord, LeafWord}
use Rattle.tree_row.specs.Rows.{image_word, has_layer_word, image_layer, image_layer_word}

pub word_fits : (l : Layout) (image : List ℕ) (p : LayerWord) → ((k : ℕ) → slice_index image k < 2 ^ 64) → image_layer_word l image p < 2 ^ 64
word_fits l image p fits = elim (has_layer_word l p) as (λ a. cond a (word_at l image (image_word p)) 0 < 2 ^ 64) [ true ↦ fits _ | false ↦ omega arith ]

pub leaf_fits : (l : Layout) (image : List ℕ) (i o : ℕ) → ((k : ℕ) → slice_index image k < 2 ^ 64) → (image_layer l image).leaf i o < 2 ^ 64
leaf_fits l image i o fits = word_fits l image (LeafWord i o) fits
