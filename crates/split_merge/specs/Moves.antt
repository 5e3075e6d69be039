-- The move of a full node's upper half into a fresh node, step by step.
use Rattle.std.specs.Prelude.{◌≡◌, ◌≢◌, ℕ, ◌+◌, ◌-◌, ◌*◌, ◌/◌, ◌%◌, ◌^◌, ◌<◌, ◌==◌, nat_lt, if◌then◌else◌}
use Rattle.std.specs.Prelude.{Option, Some, None}
use Rattle.pm_words.specs.Codes.{live_status}
use Rattle.pm_words.specs.declared.action.Action.{Action}
use Rattle.pm_words.specs.declared.action.Action.TheVariants.{Store}
use Rattle.pm_words.specs.declared.machine.Turn.{Turn}
use Rattle.pm_words.specs.declared.machine.Turn.TheVariants.{Go, Done}
use Rattle.call_stages.specs.Kinds.{word_address, version_address, status_address, prev_address}
use Rattle.pm_words.specs.declared.fence.Fence.{Fence}
use Rattle.smo_log.specs.declared.open.Open.{Open}
use Rattle.smo_log.specs.declared.state.Ready.{Ready}
use Rattle.pm_words.specs.Fences.{fence_start, IsFence, fence_asks, fence_next, fence_left}
use Rattle.pm_words.specs.Offsets.{bitmap_offset, next_offset}
use Rattle.smo_log.specs.Opens.{IsOpen, open_from, open_asks, open_turned, open_left}
use Rattle.smo_log.specs.States.{IsReady, ready_from, ready_asks, ready_turned, ready_left}
use Rattle.split_merge.specs.declared.planning.Plan.{Plan}
use Rattle.split_merge.specs.declared.moving.Move.{Move}
use Rattle.split_merge.specs.declared.moving.MoveAt.{MoveAt}
use Rattle.split_merge.specs.declared.moving.MoveAt.TheVariants as at
use Rattle.split_merge.specs.Plans.{moved_in, plan_word, next_in, entry_in, IsPlan}

-- how many words of slots and of fingerprints are stored, and where the words end that are made durable
abbrev pub slot_count : Plan → ℕ
slot_count plan = 4 * moved_in plan

abbrev pub print_count : Plan → ℕ
print_count plan = (moved_in plan - 1) / 8 + 1

abbrev pub filled_end : Plan → ℕ
filled_end plan = 16 + slot_count plan

-- the store of a word of the fresh node
abbrev pub fills : Plan → ℕ → Action
fills plan offset = Store (word_address plan.layout plan.share.fresh offset) (plan_word plan offset)

-- the store that gives back a node which is locked by this word
abbrev pub unlocks : Plan → ℕ → ℕ → Action
unlocks plan node word = Store (version_address plan.layout node) (word + 1)

abbrev pub after_slot : Plan → ℕ → MoveAt
after_slot plan word = if nat_lt (word + 1) (slot_count plan) then at.Slot (word + 1) else at.Print 0

abbrev pub after_print : Plan → ℕ → MoveAt
after_print plan word = if nat_lt (word + 1) (print_count plan) then at.Print (word + 1) else at.Bitmap

abbrev pub after_anchor : ℕ → MoveAt
after_anchor word = if nat_lt (word + 1) 3 then at.Anchor (word + 1) else at.Next

-- the fresh node's lines are durable one after another; then the line is opened
abbrev pub after_line : Plan → ℕ → MoveAt
after_line plan first =
    if nat_lt (first + 8) (filled_end plan) then at.FenceFresh (first + 8) fence_start else at.Open
    (open_from plan.layout plan.share.line (entry_in plan))

abbrev pub after_fence : Plan → ℕ → Option Fence → MoveAt
after_fence plan first (Some fence) = at.FenceFresh first fence
after_fence plan first None = after_line plan first

-- the switch is durable
abbrev pub after_switch : Plan → Option Fence → MoveAt
after_switch plan (Some fence) = at.FenceSwitch fence
after_switch plan None = if next_in plan == 0 then at.Trim else at.NextPrev

-- the full node's bitmap is durable
abbrev pub after_trim : Plan → Option Fence → MoveAt
after_trim plan (Some fence) = at.FenceTrim fence
after_trim plan None = at.Ready (ready_from plan.layout plan.share.line)

abbrev pub move_at_asks : Plan → MoveAt → Action
move_at_asks plan (at.Slot word) = fills plan (16 + word)
move_at_asks plan (at.Print word) = fills plan (8 + word)
move_at_asks plan at.Bitmap = fills plan bitmap_offset
move_at_asks plan (at.Anchor word) = fills plan (3 + word)
move_at_asks plan at.Next = fills plan next_offset
move_at_asks plan (at.FenceFresh first fence) =
    fence_asks (word_address plan.layout plan.share.fresh (first + fence.word)) fence
move_at_asks plan (at.Open machine) = open_asks machine
move_at_asks plan at.Prev = Store (prev_address plan.layout plan.share.fresh) plan.node
move_at_asks plan at.Light = Store (status_address plan.layout plan.share.fresh) live_status
move_at_asks plan at.Switch = Store (word_address plan.layout plan.node next_offset) plan.share.fresh
move_at_asks plan (at.FenceSwitch fence) = fence_asks (word_address plan.layout plan.node fence.word) fence
move_at_asks plan at.NextPrev = Store (prev_address plan.layout (next_in plan)) plan.share.fresh
move_at_asks plan at.Trim = Store (word_address plan.layout plan.node bitmap_offset) plan.keep
move_at_asks plan (at.FenceTrim fence) = fence_asks (word_address plan.layout plan.node fence.word) fence
move_at_asks plan (at.Ready ready) = ready_asks ready
move_at_asks plan at.UnlockFresh = unlocks plan plan.share.fresh plan.share.locked
move_at_asks plan at.Unlock = unlocks plan plan.node plan.locked

abbrev pub move_asks : Move → Action
move_asks move = move_at_asks move.plan move.at

-- it goes on there
abbrev pub moves_on : Move → MoveAt → Turn Move (Unit {0})
moves_on move at = Go (record move { at = at })

-- it goes on there, or is done
abbrev pub moves_to : Move → Option MoveAt → Turn Move (Unit {0})
moves_to move (Some at) = moves_on move at
moves_to move None = Done tt

abbrev pub opened : Move → Turn Open (Unit {0}) → Turn Move (Unit {0})
opened move (Go machine) = moves_on move (at.Open machine)
opened move (Done answer) = moves_on move at.Prev

-- the line is READY, and is left to a turn
abbrev pub readied : Move → Turn Ready (Unit {0}) → Turn Move (Unit {0})
readied move (Go ready) = moves_on move (at.Ready ready)
readied move (Done answer) = moves_on move at.UnlockFresh

abbrev pub move_at_turned : Move → MoveAt → ℕ → Turn Move (Unit {0})
move_at_turned move (at.Slot word) got = moves_on move (after_slot move.plan word)
move_at_turned move (at.Print word) got = moves_on move (after_print move.plan word)
move_at_turned move at.Bitmap got = moves_on move (at.Anchor 0)
move_at_turned move (at.Anchor word) got = moves_on move (after_anchor word)
move_at_turned move at.Next got = moves_on move (at.FenceFresh 0 fence_start)
move_at_turned move (at.FenceFresh first fence) got = moves_on move (after_fence move.plan first (fence_next fence got))
move_at_turned move (at.Open machine) got = opened move (open_turned machine got)
move_at_turned move at.Prev got = moves_on move at.Light
move_at_turned move at.Light got = moves_on move at.Switch
move_at_turned move at.Switch got = moves_on move (at.FenceSwitch fence_start)
move_at_turned move (at.FenceSwitch fence) got = moves_on move (after_switch move.plan (fence_next fence got))
move_at_turned move at.NextPrev got = moves_on move at.Trim
move_at_turned move at.Trim got = moves_on move (at.FenceTrim fence_start)
move_at_turned move (at.FenceTrim fence) got = moves_on move (after_trim move.plan (fence_next fence got))
move_at_turned move (at.Ready ready) got = readied move (ready_turned ready got)
move_at_turned move at.UnlockFresh got = moves_on move at.Unlock
move_at_turned move at.Unlock got = Done tt

abbrev pub move_turned : Move → ℕ → Turn Move (Unit {0})
move_turned move got = move_at_turned move move.at got

abbrev pub IsMoveAt : Plan → MoveAt → Type 0
IsMoveAt plan (at.Slot word) = word < slot_count plan
IsMoveAt plan (at.Print word) = word < print_count plan
IsMoveAt plan (at.Anchor word) = word < 3
IsMoveAt plan (at.FenceFresh first fence) = (first < filled_end plan) × (first % 8 ≡ 0) × IsFence fence
IsMoveAt plan (at.Open machine) = IsOpen machine × (machine.layout ≡ plan.layout) × (machine.line ≡ plan.share.line) ×
    (machine.entry ≡ entry_in plan)
IsMoveAt plan (at.FenceSwitch fence) = IsFence fence
IsMoveAt plan at.NextPrev = next_in plan ≢ 0
IsMoveAt plan (at.FenceTrim fence) = IsFence fence
IsMoveAt plan (at.Ready ready) = IsReady ready × (ready.layout ≡ plan.layout) × (ready.line ≡ plan.share.line)
IsMoveAt plan _ = Unit {0}

pub record IsMove (move : Move) : Type 0 where
  pub plan : IsPlan move.plan
  pub here : IsMoveAt move.plan move.at

abbrev pub move_takes : Move → ℕ → Type 0
move_takes move got = IsMove move × (got < 2 ^ 64)

-- how many actions it makes at most from here on
abbrev pub move_at_left : Plan → MoveAt → ℕ
move_at_left plan (at.Slot word) = 1200 + (slot_count plan - word)
move_at_left plan (at.Print word) = 1100 + (print_count plan - word)
move_at_left plan at.Bitmap = 1100
move_at_left plan (at.Anchor word) = 1099 - word
move_at_left plan at.Next = 1000
move_at_left plan (at.FenceFresh first fence) = 3 * (272 - first) + fence_left fence + 160
move_at_left plan (at.Open machine) = open_left machine + 100
move_at_left plan at.Prev = 99
move_at_left plan at.Light = 98
move_at_left plan at.Switch = 97
move_at_left plan (at.FenceSwitch fence) = fence_left fence + 80
move_at_left plan at.NextPrev = 79
move_at_left plan at.Trim = 78
move_at_left plan (at.FenceTrim fence) = fence_left fence + 60
move_at_left plan (at.Ready ready) = ready_left ready + 30
move_at_left plan at.UnlockFresh = 2
move_at_left plan at.Unlock = 1

abbrev pub move_left : Move → ℕ
move_left move = move_at_left move.plan move.at
