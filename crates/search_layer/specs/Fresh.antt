-- The layer of a fresh image.
use Rattle.std.specs.Prelude.{ℕ, List}
use Rattle.pm_words.specs.declared.layout.Layout.{Layout}
use Rattle.pm_words.specs.Layouts.{IsLayout}
use Rattle.pm_words.specs.Locations.{Cached, Durable}
use Rattle.pm_words.specs.Images.{fresh_words}
use Rattle.pm_words.specs.Rows.{row_of}
use Rattle.layer_map.specs.Layers.{Layer, AreSame, HasFew}
use Rattle.tree_law.specs.Trees.{Leaf}
use Rattle.tree_law.specs.Marking.{IsMarkSet}
use Rattle.tree_law.specs.Fresh as tree
use Rattle.search_layer.specs.Rows.{Marks, layer_words, layer_marks, AreEven}
use Rattle.search_layer.specs.Kept.{layer_of, IsInOrder, MarksTell}

-- one key, zero, which leads to node 0
abbrev pub fresh_layer : Layer
fresh_layer = tree.fresh_layer

-- It is in order and durable, has that layer, and once the first leaf has its mark, the marks tell what is in use.
pub record HasFreshLayer (l : Layout) (words : List ℕ) : Type 0 where
  pub order : IsInOrder l words
  pub even : AreEven (layer_words l words Cached) (layer_words l words Durable)
  pub few : HasFew l.nodes (layer_of l words)
  pub layer : AreSame (layer_of l words) fresh_layer
  pub tells : (m : Marks) → IsMarkSet (layer_marks l words) m (Leaf 0) 1 →
      MarksTell l m (layer_words l words Cached)

abbrev pub FreshIsAtRest : Type 0
FreshIsAtRest = (l : Layout) → IsLayout l → HasFreshLayer l (row_of l (fresh_words l))
