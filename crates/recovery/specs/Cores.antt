-- Cores that are opened on the way: that of a fresh image, and that of a core's own image.
use Rattle.std.specs.Prelude.{◌≡◌, suc, ◌≤◌}
use Rattle.pm_words.specs.Images.{Row, fresh_words}
use Rattle.pm_words.specs.declared.layout.Layout.{Layout}
use Rattle.index_core.specs.Indexes.{Index, map_of_index}
use Rattle.index_core.specs.Weights.{weight_of}
use Rattle.recovery.specs.Opened.{IsOpenedFrom}

abbrev pub fresh_image : Layout → Row
fresh_image l = record { layout = l; words = fresh_words l }

-- The image of an index was opened again, as an index with the same map and no greater weight, in the next generation.
pub record IsReopened (old new : Index) : Type 0 where
  pub image : Row
  pub opened : IsOpenedFrom image new
  pub layout : new.layout ≡ old.layout
  pub generation : new.generation ≡ suc old.generation
  pub map : map_of_index new ≡ map_of_index old
  pub weighs : weight_of new ≤ weight_of old
