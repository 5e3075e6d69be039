-- Where a part comes to, by cases: what holds of each place that it may come to holds of the one that it comes to.
use Rattle.std.proofs.Common.{ℕ, true, false, cond, Option, Some, None}
use Rattle.pm_words.specs.declared.machine.Turn.{Turn}
use Rattle.pm_words.specs.declared.machine.Turn.TheVariants.{Go, Done}
use Rattle.version_lock.specs.Versions.{kept_count, locked_word, is_worn_word}
use Rattle.data_list.specs.declared.target.Sighting.{Sighting}
use Rattle.call_stages.specs.declared.once.Once.{Once}
use Rattle.call_stages.specs.declared.once.Once.TheVariants as once
use Rattle.call_stages.specs.declared.once.Placed.{Placed}
use Rattle.node_ops.specs.declared.call.Call.{Call}
use Rattle.node_ops.specs.declared.lookup.Looked.{Looked}
use Rattle.node_ops.specs.declared.lookup.Looked.TheVariants as looked
use Rattle.node_ops.specs.declared.lookup.Lookup.{Lookup}
use Rattle.node_ops.specs.declared.part.Reading.{Reading}
use Rattle.node_ops.specs.declared.part.ReadingAt.{ReadingAt}
use Rattle.node_ops.specs.declared.part.ReadingAt.TheVariants as at
use Rattle.node_ops.specs.declared.part.Way.TheVariants as ways
use Rattle.node_ops.specs.declared.part.Part.{Part}
use Rattle.node_ops.specs.declared.part.Part.TheVariants as part
use Rattle.node_ops.specs.declared.running.Running.{Running}
use Rattle.node_ops.specs.declared.running.Running.TheVariants.{Parting}
use Rattle.node_ops.specs.PartSteps.{part_walked, part_came, part_looked, early_of, placed_of, seen_at, part_ordered, all_loaded, goes_on}
use Rattle.node_ops.specs.RunningSteps.{wrapped_part}

-- it looks on, or has come to its node, or is answered
pub looked_is : (P : Turn Running (Once Placed) → Type 0) (count : ℕ) (turn : Turn Lookup Looked)
    → ((next : Lookup) → P (Go (Parting (part.Looking next count))))
    → ((call : Call) (seen : Sighting) → P (Go (Parting (part_came call count seen))))
    → ((answer : Once Placed) → P (Done answer)) → P (wrapped_part (part_looked count turn))
looked_is P count (Go next) looks comes ends = walked (seen_at next.at)
  where
    walked : (o : Option Sighting) → P (Go (Parting (part_walked next count o)))
    walked (Some seen) = comes next.call seen
    walked None = looks next
looked_is P count (Done (looked.Early answer)) looks comes ends = ends (placed_of (early_of answer))
looked_is P count (Done (looked.Found found)) looks comes ends = ends (once.Spent found.hold.clock)

-- with no permutation of its node it sorts alone, or locks
pub ordered_is : (P : Part → Type 0) (call : Call) (seen : Sighting) (count : ℕ)
    → P (part.Dating call seen count ways.Alone) → ((locked : ℕ) → P (part.Locking call seen count locked))
    → P (part_ordered call seen count None)
ordered_is P call seen count dates locks =
    elim (is_worn_word seen.version call.view.generation) as (λ b. P (cond b (part.Dating call seen count ways.Alone)
    (part.Locking call seen count
    (locked_word call.view.generation (kept_count seen.version call.view.generation))))) [
      | true ↦ dates
      | false ↦ locks (locked_word call.view.generation (kept_count seen.version call.view.generation))
    ]

-- a reading comes to the words of a slot, or has loaded those of all
pub goes_is : (P : Reading → Type 0) (reading : Reading) (place : ReadingAt)
    → ((slot word : ℕ) → P (record reading { at = at.Load slot word })) → P (all_loaded reading)
    → P (goes_on reading place)
goes_is P reading (at.Load slot word) loads ends = loads slot word
goes_is P reading at.Clock loads ends = ends
goes_is P reading at.Bitmap loads ends = ends
goes_is P reading at.Check loads ends = ends
goes_is P reading (at.Store store) loads ends = ends
goes_is P reading at.Unlock loads ends = ends
