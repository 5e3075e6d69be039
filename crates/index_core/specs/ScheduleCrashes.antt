-- What a crash leaves wherever a schedule stands.
use Rattle.std.specs.Prelude.{List}
use Rattle.pm_words.specs.Rows.{durable_row}
use Rattle.index_image_law.specs.image_layer_rules.specs.Sound.{IsSoundByAll}
use Rattle.index_core.specs.Indexes.{Index, IsIndex}
use Rattle.index_core.specs.Schedules.{BegunCall, AnsweredCall, Runs}

-- However calls and turns were scheduled, and whichever of them are in flight, the durable words are an image that is
-- sound by all rules.
abbrev pub CrashLeavesSound : Type 0
CrashLeavesSound = (first last : Index) (begun : List BegunCall) (calls : List AnsweredCall) → IsIndex first →
    Runs first begun calls last → IsSoundByAll last.layout (durable_row last.layout last.words)
