-- What the image is that a crash leaves, which is that of the durable words.
use Rattle.pm_words.specs.Rows.{durable_row}
use Rattle.image_layer_rules.specs.Sound.{IsSoundByAll}
use Rattle.index_layer_law.specs.Layers.{Layered, IsLayered}

-- Of an index with its search layer, whatever calls and turn are in flight, it is sound by all rules.
abbrev pub CrashLeavesSoundByAll : Type 0
CrashLeavesSoundByAll = (z : Layered) → IsLayered z →
    IsSoundByAll z.whole.world.layout (durable_row z.whole.world.layout z.whole.world.words)
