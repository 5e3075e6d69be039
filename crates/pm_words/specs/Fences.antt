-- Making a line of words durable, word by word.
use Rattle.std.specs.Prelude.{◌≡◌, ℕ, ◌+◌, ◌-◌, ◌*◌, ◌/◌, ◌^◌, ◌<◌, nat_lt, if◌then◌else◌, Option, Some, None}
use Rattle.pm_words.specs.declared.TheConstants.{LINE_WORDS}
use Rattle.pm_words.specs.declared.action.Action.{Action}
use Rattle.pm_words.specs.declared.action.Action.TheVariants.{Load, Drain}
use Rattle.pm_words.specs.declared.fence.Fence.{Fence}
use Rattle.pm_words.specs.declared.fence.FenceAt.{FenceAt}
use Rattle.pm_words.specs.declared.fence.FenceAt.TheVariants as at

-- the first word of the line in which a word stands
abbrev pub line_of : ℕ → ℕ
line_of word = word / LINE_WORDS * LINE_WORDS

abbrev pub fence_start : Fence
fence_start = record { word = 0; at = at.Load }

abbrev pub IsFenceAt : FenceAt → Type 0
IsFenceAt at.Load = Unit {0}
IsFenceAt (at.Drain value) = value < 2 ^ 64

pub record IsFence (fence : Fence) : Type 0 where
  pub word : fence.word < LINE_WORDS
  pub value : IsFenceAt fence.at

abbrev pub fence_at_asks : ℕ → FenceAt → Action
fence_at_asks address at.Load = Load address
fence_at_asks address (at.Drain value) = Drain address value

-- what it asks for, where this is the address of its word
abbrev pub fence_asks : ℕ → Fence → Action
fence_asks address fence = fence_at_asks address fence.at

abbrev pub fence_at_next : Fence → FenceAt → ℕ → Option Fence
fence_at_next fence at.Load got = Some (record fence { at = at.Drain got })
fence_at_next fence (at.Drain value) got =
    if nat_lt (fence.word + 1) LINE_WORDS then Some (record { word = fence.word + 1; at = at.Load }) else None

-- what it is once it is told a number; None where the whole line is durable
abbrev pub fence_next : Fence → ℕ → Option Fence
fence_next fence got = fence_at_next fence fence.at got

abbrev pub fence_at_left : ℕ → FenceAt → ℕ
fence_at_left word at.Load = 16 - 2 * word
fence_at_left word (at.Drain value) = 15 - 2 * word

abbrev pub fence_left : Fence → ℕ
fence_left fence = fence_at_left fence.word fence.at

-- the word that it has loaded and has yet to give to the durable twin, by its offset
abbrev pub hand_of : ℕ → FenceAt → Option (ℕ × ℕ)
hand_of offset at.Load = None
hand_of offset (at.Drain value) = Some (offset, value)

-- A turn of a fence: from it, by an action on its word that gives a number, to what is left of it. It loads a word and
-- has it in hand; gives the word in hand to the durable twin and goes on to the next word; or is done with the last.
pub data FenceTurn (address x : ℕ) : Fence → Action → Option Fence → Type 0 where
  loads : {word : ℕ} → word < LINE_WORDS → x < 2 ^ 64 →
      FenceTurn address x (record { word = word; at = at.Load }) (Load address)
      (Some (record { word = word; at = at.Drain x }))
  drains : {word value : ℕ} → word + 1 < LINE_WORDS → value < 2 ^ 64 →
      FenceTurn address x (record { word = word; at = at.Drain value }) (Drain address value)
      (Some (record { word = word + 1; at = at.Load }))
  drains_last : {word value : ℕ} → word + 1 ≡ LINE_WORDS → value < 2 ^ 64 →
      FenceTurn address x (record { word = word; at = at.Drain value }) (Drain address value) None
