-- The image that a crash leaves of an index.
use Rattle.std.specs.Prelude.{◌≤◌, List, Contains}
use Rattle.pm_words.specs.Rows.{durable_row}
use Rattle.cat_history.specs.CrashEnds.{IsCrashEnd}
use Rattle.cat_history.specs.declared.op.Change.{Change}
use Rattle.image_rules.specs.Sound.{IsSound, IsMapOf, image_map}
use Rattle.image_rules.specs.Weights.{image_weight}
use Rattle.index_law.specs.Facts.{map_now}
use Rattle.index_law.specs.Worlds.{World, facts}
use Rattle.index_law.specs.Lawful.{Lawful}
use Rattle.index_law.specs.Lines.{AreFit}
use Rattle.index_law.specs.Laws.{HasPending}
use Rattle.index_law.specs.Weights.{weight_sum}

-- It is sound and keeps a map, and weighs no more than the index with its calls in flight. Whatever changes the crash
-- cut off, the pending ones among them, that is the map after those which are found in it.
pub record LeavesImage (w : World) : Type 0 where
  pub sound : IsSound w.layout (durable_row w.layout w.words)
  pub keeps : IsMapOf w.layout (durable_row w.layout w.words) (image_map w.layout (durable_row w.layout w.words))
  pub weighs : image_weight w.layout (durable_row w.layout w.words) ≤ weight_sum w
  pub ends : (cuts : List Change) → ((change : Change) → HasPending w.parties change → Contains cuts change) →
      IsCrashEnd (map_now (facts w)) cuts (image_map w.layout (durable_row w.layout w.words))

-- So it is at every moment of a lawful index whose log lines are in order.
abbrev pub CrashLeavesSound : Type 0
CrashLeavesSound = (w : World) → Lawful w → AreFit w.layout w.words → LeavesImage w
