-- What becomes of the stamps of nodes as callers meet.
use Rattle.std.specs.Prelude.{◌≡◌, ℕ, ◌<◌, min, List}
use Rattle.pm_words.specs.declared.layout.Layout.{Layout}
use Rattle.pm_words.specs.Locations.{Volatile, at}
use Rattle.pm_words.specs.Offsets.{stamp_offset}
use Rattle.index_core.specs.Indexes.{Index, IsIndex}
use Rattle.index_core.specs.Lone.{IsQuiet}
use Rattle.index_core.specs.Weights.{weight_of}

-- The stamp of a node.
abbrev pub stamp_in : Layout → List ℕ → ℕ → ℕ
stamp_in l words n = at l words (Volatile n stamp_offset)

-- An index with words of this layout.
abbrev pub with_words : Index → Layout → List ℕ → Index
with_words s l words = record s { layout = l; words = words }

-- Each stamp that isn't 0 becomes 1; an index on the words before in which nothing is in flight is one on those after,
-- of the same weight.
pub record SettlesTo (l : Layout) (before after : List ℕ) : Type 0 where
  pub stamps : (n : ℕ) → n < l.nodes → stamp_in l after n ≡ min 1 (stamp_in l before n)
  pub keeps : (s : Index) → IsQuiet s → IsIndex (with_words s l before) → IsIndex (with_words s l after)
  pub weighs : (s : Index) → weight_of (with_words s l after) ≡ weight_of (with_words s l before)
