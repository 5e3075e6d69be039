-- The index behind a crash.
use Rattle.std.specs.Prelude.{◌≡◌, ℕ, ◌≤◌, suc}
use Rattle.cat_history.specs.CrashEnds.{IsCrashEnd}
use Rattle.core_rounds.specs.index_core.specs.CrashLaws.{chosen_index, crash_image}
use Rattle.core_rounds.specs.index_core.specs.Crashes.{cut_changes}
use Rattle.index_law.specs.Weights.{weight_sum}
use Rattle.core_rounds.specs.index_core.specs.Indexes.{Index, map_of_index, world}
use Rattle.core_rounds.specs.index_core.specs.Weights.{weight_of}
use Rattle.core_rounds.specs.recovery.specs.Opened.{IsOpenedFrom}

-- Power failed once those words were durable that the seed chooses, and the image that was left of the index was
-- opened, in the next generation. Its map is the one after the whole history and after those of the unplaced writes in
-- flight that are found in it.
pub record IsBehindCrash (seed : ℕ) (old new : Index) : Type 0 where
  pub opened : IsOpenedFrom (crash_image (chosen_index old seed)) new
  pub layout : new.layout ≡ old.layout
  pub generation : new.generation ≡ suc old.generation
  pub ends : IsCrashEnd (map_of_index old) (cut_changes old.states) (map_of_index new)
  -- it weighs no more, with what deletes that aren't counted yet had lowered it by
  pub weighs : weight_of new ≤ weight_sum (world old)
