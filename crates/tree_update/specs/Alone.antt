-- A floor and a change of the tree with nobody else at the row.
use Rattle.std.specs.Prelude.{ℕ, Option, List}
use Rattle.pm_words.specs.declared.layout.Layout.{Layout}
use Rattle.pm_words.specs.Locations.{Cached, leaf_count}
use Rattle.layer_map.specs.Layers.{AreSame, changed_at}
use Rattle.tree_law.specs.Words.{IsLawful}
use Rattle.tree_row.specs.Rows.{layer_words}
use Rattle.tree_update.specs.Kinds.{KeepsOthers}
use Rattle.tree_update.specs.Runs.{layer_in, IsAtRest}

-- the words of the layer are in order, as the caches have them
abbrev pub IsInOrder : Layout → List ℕ → Type 0
IsInOrder l words = IsLawful (leaf_count l) l.nodes (layer_words l words Cached)

-- the key leads to the node, or nowhere, and every other key where it led; the layer is at rest, and nothing beside it
-- has changed
pub record IsChanged (l : Layout) (key : ℕ) (node : Option ℕ) (words after : List ℕ) : Type 0 where
  pub layer : AreSame (layer_in l after) (changed_at (layer_in l words) key node)
  pub rest : IsAtRest l after
  pub others : KeepsOthers l words after
