-- Which words of a row are the layer's: those of the tree, with the root's line as a whole, which is drained as one,
-- and its marks. Crates above the layer ask no more of a word than this.
use Rattle.std.specs.Prelude.{◌≡◌, Bool, true, false}
use Rattle.pm_words.specs.declared.layout.Layout.{Layout}
use Rattle.pm_words.specs.Locations.{Word, Header, Root, Node, Line, Leaf, Cell, HasWord}
use Rattle.pm_words.specs.Locations.{Location, Clock, Updater, Volatile, Mark, Cached, Durable}

-- whether the layer is kept in this word of an image, or in its line
abbrev pub is_layer_word : Word → Bool
is_layer_word (Header o) = false
is_layer_word (Root o) = true
is_layer_word (Node n o) = false
is_layer_word (Line c j o) = false
is_layer_word (Leaf k o) = true
is_layer_word (Cell kind k o) = true

-- and so of the words of a row
abbrev pub is_of_layer : Location → Bool
is_of_layer Clock = false
is_of_layer Updater = false
is_of_layer (Volatile n o) = false
is_of_layer (Mark kind k) = true
is_of_layer (Cached w) = is_layer_word w
is_of_layer (Durable w) = is_layer_word w

-- a word of the layer that images of this layout have
pub record IsLayerPlace (l : Layout) (w : Word) : Type 0 where
  pub of_layer : is_layer_word w ≡ true
  pub there : HasWord l w
