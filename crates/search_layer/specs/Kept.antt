-- The layer that words keep, and whether they are in order: what crates above say of the words of the layer.
use Rattle.std.specs.Prelude.{ℕ, List}
use Rattle.pm_words.specs.declared.layout.Layout.{Layout}
use Rattle.pm_words.specs.Locations.{Cached, leaf_count}
use Rattle.layer_map.specs.Layers.{Layer, LeadsBelow}
use Rattle.tree_law.specs.Words as tree
use Rattle.tree_law.specs.Words.{IsLawful}
use Rattle.tree_law.specs.Stages as stages
use Rattle.tree_update.specs.Runs as runs
use Rattle.search_layer.specs.Rows.{LayerWords, Marks, layer_words}

-- the layer that these words keep
abbrev pub kept : Layout → LayerWords → Layer
kept l w = tree.layer_of w

-- the words are in order
abbrev pub IsKept : Layout → LayerWords → Type 0
IsKept l w = IsLawful (leaf_count l) l.nodes w

-- the marks tell what is in use
abbrev pub MarksTell : Layout → Marks → LayerWords → Type 0
MarksTell l m w = stages.MarksTell (leaf_count l) m w

-- the layer that the cached words of a row keep
abbrev pub layer_of : Layout → List ℕ → Layer
layer_of l words = kept l (layer_words l words Cached)

abbrev pub IsInOrder : Layout → List ℕ → Type 0
IsInOrder l words = IsKept l (layer_words l words Cached)

-- they are in order and durable, and the marks tell what is in use
abbrev pub IsAtRest : Layout → List ℕ → Type 0
IsAtRest l words = runs.IsAtRest l words

-- words in order lead to nodes
abbrev pub KeptLeadsBelow : Type 0
KeptLeadsBelow = (l : Layout) (w : LayerWords) → IsKept l w → LeadsBelow l.nodes (kept l w)
