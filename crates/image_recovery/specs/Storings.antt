-- A word of an image that is stored and made durable, step by step.
use Rattle.std.specs.Prelude.{ℕ, ◌+◌, ◌<◌, ◌≤◌, ◌^◌, Option, Some, None}
use Rattle.pm_words.specs.declared.layout.Layout.{Layout}
use Rattle.pm_words.specs.declared.action.Action.{Action}
use Rattle.pm_words.specs.declared.action.Action.TheVariants.{Store}
use Rattle.pm_words.specs.declared.machine.Turn.{Turn}
use Rattle.pm_words.specs.declared.machine.Turn.TheVariants.{Go, Done}
use Rattle.pm_words.specs.declared.fence.Fence.{Fence}
use Rattle.pm_words.specs.Fences.{IsFence, line_of, fence_start, fence_asks, fence_next, fence_left}
use Rattle.pm_words.specs.Layouts.{IsLayout}
use Rattle.pm_words.specs.Locations.{image_words, cached_address}
use Rattle.image_recovery.specs.declared.storing.Storing.{Storing}
use Rattle.image_recovery.specs.declared.storing.StoringAt.{StoringAt}
use Rattle.image_recovery.specs.declared.storing.StoringAt.TheVariants as at

abbrev pub stores : Layout → ℕ → ℕ → Storing
stores l word value = record { layout = l; word = word; value = value; at = at.Word }

-- the word of the line that a fence is at
abbrev pub fenced_word : ℕ → Fence → ℕ
fenced_word word fence = line_of word + fence.word

abbrev pub storing_at_asks : Storing → StoringAt → Action
storing_at_asks storing at.Word = Store (cached_address storing.layout storing.word) storing.value
storing_at_asks storing (at.Line fence) =
    fence_asks (cached_address storing.layout (fenced_word storing.word fence)) fence

abbrev pub storing_asks : Storing → Action
storing_asks storing = storing_at_asks storing storing.at

abbrev pub storing_on : Storing → StoringAt → Turn Storing (Unit {0})
storing_on storing at = Go (record storing { at = at })

abbrev pub storing_fenced : Storing → Option Fence → Turn Storing (Unit {0})
storing_fenced storing (Some fence) = storing_on storing (at.Line fence)
storing_fenced storing None = Done tt

abbrev pub storing_at_turned : Storing → StoringAt → ℕ → Turn Storing (Unit {0})
storing_at_turned storing at.Word got = storing_on storing (at.Line fence_start)
storing_at_turned storing (at.Line fence) got = storing_fenced storing (fence_next fence got)

abbrev pub storing_turned : Storing → ℕ → Turn Storing (Unit {0})
storing_turned storing got = storing_at_turned storing storing.at got

abbrev pub IsStoringAt : StoringAt → Type 0
IsStoringAt at.Word = Unit {0}
IsStoringAt (at.Line fence) = IsFence fence

pub record IsStoring (storing : Storing) : Type 0 where
  pub layout : IsLayout storing.layout
  pub word : storing.word + 8 ≤ image_words storing.layout
  pub value : storing.value < 2 ^ 64
  pub here : IsStoringAt storing.at

abbrev pub storing_takes : Storing → ℕ → Type 0
storing_takes storing got = IsStoring storing × (got < 2 ^ 64)

abbrev pub storing_at_left : StoringAt → ℕ
storing_at_left at.Word = 17
storing_at_left (at.Line fence) = fence_left fence

abbrev pub storing_left : Storing → ℕ
storing_left storing = storing_at_left storing.at
