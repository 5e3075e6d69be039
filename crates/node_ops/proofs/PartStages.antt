-- What the stage of a part is not: it has no place, nothing pending and nothing to count.
use Rattle.std.proofs.Common.{◌≡◌, ℕ, List, [], None, refl}
use Rattle.call_stages.specs.Stages.{Held, Sight, counted}
use Rattle.data_list.specs.WalkStages.{live_sight}
use Rattle.node_ops.specs.declared.part.Part.{Part}
use Rattle.node_ops.specs.declared.part.Part.TheVariants as part
use Rattle.node_ops.specs.declared.part.Reading.{Reading}
use Rattle.node_ops.specs.declared.part.ReadingAt.{ReadingAt}
use Rattle.node_ops.specs.declared.part.ReadingAt.TheVariants as at
use Rattle.node_ops.specs.declared.part.Way.{Way}
use Rattle.node_ops.specs.declared.part.Way.TheVariants as ways
use Rattle.node_ops.specs.Calls.{name_in}
use Rattle.node_ops.specs.CallStages.{part_stage, reading_at_held, stage_by, reading_stage}
use Rattle.node_ops.specs.PartSteps.{part_call}
use Rattle.node_ops.proofs.OnlyRead.{HasOnlyRead, IsOnlyReading, uncounted, holds_only, looks_only, reads_only}

only_read : (reading : Reading) (at : ReadingAt) → HasOnlyRead (name_in reading.call) (reading_at_held reading at)
only_read reading at.Clock = record { named = refl; pending = refl; placed = refl }
only_read reading at.Bitmap = record { named = refl; pending = refl; placed = refl }
only_read reading (at.Load slot word) = record { named = refl; pending = refl; placed = refl }
only_read reading at.Check = record { named = refl; pending = refl; placed = refl }
only_read reading (at.Store store) = record { named = refl; pending = refl; placed = refl }
only_read reading at.Unlock = record { named = refl; pending = refl; placed = refl }

reads_by : (way : Way) (n w : ℕ) (kept : Sight) (h : Held) (name : List ℕ) → HasOnlyRead name h → IsOnlyReading name (stage_by way n w kept h)
reads_by (ways.Served words) n w kept h name only = reads_only n w kept h name only
reads_by (ways.Held words) n w kept h name only = holds_only n w h name only
reads_by ways.Alone n w kept h name only = reads_only n w kept h name only

reading_only : (reading : Reading) → IsOnlyReading (name_in reading.call) (reading_stage reading)
reading_only reading = reads_by reading.way _ _ _ (reading_at_held reading reading.at) (name_in reading.call) (only_read reading reading.at)

-- and that of a part wherever it is
pub part_only : (p : Part) → IsOnlyReading (name_in (part_call p)) (part_stage p)
part_only (part.Looking lookup count) = looks_only (live_sight []) lookup.call lookup.at
part_only (part.Ordering call seen count load) = record { pending = refl; placed = refl; about = tt }
part_only (part.Locking call seen count locked) = record { pending = refl; placed = refl; about = tt }
part_only (part.Dating call seen count way) = record { pending = refl; placed = refl; about = tt }
part_only (part.Reading reading) = reading_only reading

pub reading_counts : (reading : Reading) → counted (reading_stage reading) ≡ None
reading_counts reading = uncounted (reading_stage reading) (reading_only reading).pending
