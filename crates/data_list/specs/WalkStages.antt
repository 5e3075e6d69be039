-- What a walk relies on: if it takes no lock, and as a call, which is to lock its target.
use Rattle.std.specs.Prelude.{ℕ, ◌+◌, true, if◌then◌else◌, List, [], ◌∷◌, Option, Some, None, slice_index}
use Rattle.version_lock.specs.Versions.{kept_count, locked_word, is_worn_word}
use Rattle.pm_words.specs.Offsets.{next_offset, anchor_offset}
use Rattle.call_stages.specs.Stages.{Sight, no_sight, Stage, Idle, Saw, Wears, Reads}
use Rattle.call_stages.specs.Watches.{Watching, Nothing, Watches}
use Rattle.data_list.specs.declared.target.Next.{Next}
use Rattle.data_list.specs.declared.target.Sighting.{Sighting}
use Rattle.data_list.specs.declared.walk.Walk.{Walk}
use Rattle.data_list.specs.declared.walk.WalkAt.{WalkAt}
use Rattle.data_list.specs.declared.walk.WalkAt.TheVariants as at

-- it saw of a LIVE node these words
abbrev pub live_sight : List (ℕ × ℕ) → Sight
live_sight seen = record { live = true; seen = seen; next = 0; beyond = [] }

abbrev pub anchor_seen : List ℕ → List (ℕ × ℕ)
anchor_seen low = (anchor_offset, slice_index low 0) ∷ (anchor_offset + 1, slice_index low 1) ∷
    (anchor_offset + 2, slice_index low 2) ∷ []

-- and that it leads there, where these anchor words stood
abbrev pub leading_sight : List ℕ → ℕ → List (ℕ × ℕ) → Sight
leading_sight low next beyond = record {
  live = true;
  seen = (next_offset, next) ∷ anchor_seen low;
  next = next;
  beyond = beyond;
}

-- what it relies on, of the node that it is at
abbrev pub walk_at_watching : ℕ → WalkAt → Watching
walk_at_watching n at.Version = Nothing
walk_at_watching n (at.Status version) = Watches n version no_sight
walk_at_watching n (at.First version) = Watches n version (live_sight [])
walk_at_watching n (at.Second version first) = Watches n version (live_sight ((anchor_offset, first) ∷ []))
walk_at_watching n (at.Third version first second) =
    Watches n version (live_sight ((anchor_offset, first) ∷ (anchor_offset + 1, second) ∷ []))
walk_at_watching n (at.Next version low) = Watches n version (live_sight (anchor_seen low))
walk_at_watching n (at.HighFirst version low next) =
    Watches n version (live_sight ((next_offset, next) ∷ anchor_seen low))
walk_at_watching n (at.HighSecond version low next first) =
    Watches n version (leading_sight low next ((anchor_offset, first) ∷ []))
walk_at_watching n (at.HighThird version low next first second) =
    Watches n version (leading_sight low next ((anchor_offset, first) ∷ (anchor_offset + 1, second) ∷ []))
walk_at_watching n at.Prev = Nothing

abbrev pub walk_watching : Walk → Watching
walk_watching walk = walk_at_watching walk.node walk.at

-- a call that takes no lock relies on just that
abbrev pub view_stage : Watching → Stage
view_stage Nothing = Idle
view_stage (Watches n version sight) = Reads n version sight None

-- a call, which can take no lock of a worn node, relies on nothing that it saw of one
abbrev pub saw_stage : ℕ → ℕ → ℕ → Sight → Stage
saw_stage g n version sight =
    if is_worn_word version g then Wears n version else Saw n version (locked_word g (kept_count version g)) sight

abbrev pub watching_stage : ℕ → Watching → Stage
watching_stage g Nothing = Idle
watching_stage g (Watches n version sight) = saw_stage g n version sight

abbrev pub walk_at_stage : ℕ → ℕ → WalkAt → Stage
walk_at_stage g n at = watching_stage g (walk_at_watching n at)

abbrev pub walk_stage : Walk → Stage
walk_stage walk = walk_at_stage walk.generation walk.node walk.at

-- what it saw of the node that it leads to, if it leads to one
abbrev pub leads_on : List ℕ → Option Next → Sight
leads_on low None = live_sight ((next_offset, 0) ∷ anchor_seen low)
leads_on low (Some next) = leading_sight low next.node (anchor_seen next.anchor)

-- what it saw of its target
abbrev pub sight_in : Sighting → Sight
sight_in seen = leads_on seen.low seen.next
