-- The merge of the right node into the left one, step by step.
use Rattle.std.specs.Prelude.{◌≡◌, ◌≢◌, ℕ, ◌+◌, ◌-◌, ◌*◌, ◌%◌, ◌^◌, ◌<◌, ◌≤◌, ◌==◌, nat_lt, if◌then◌else◌}
use Rattle.std.specs.Prelude.{Option, Some, None}
use Rattle.std.specs.Int.{w64, trailing_zeros}
use Rattle.pm_words.specs.Codes.{gone_status}
use Rattle.pm_words.specs.declared.action.Action.{Action}
use Rattle.pm_words.specs.declared.action.Action.TheVariants.{Load, Store}
use Rattle.pm_words.specs.declared.machine.Turn.{Turn}
use Rattle.pm_words.specs.declared.machine.Turn.TheVariants.{Go, Done}
use Rattle.pm_words.specs.declared.fence.Fence.{Fence}
use Rattle.pm_words.specs.Fences.{fence_start, IsFence, fence_asks, fence_next, fence_left}
use Rattle.pm_words.specs.Offsets.{bitmap_offset, next_offset, slot_offset}
use Rattle.data_node.specs.Bits.{without_live, live_count}
use Rattle.data_node.specs.Slots.{IsLive}
use Rattle.call_stages.specs.Kinds.{word_address, version_address, status_address, prev_address}
use Rattle.smo_log.specs.declared.open.Open.{Open}
use Rattle.smo_log.specs.declared.state.Ready.{Ready}
use Rattle.smo_log.specs.Opens.{IsOpen, open_asks, open_turned, open_left}
use Rattle.smo_log.specs.States.{IsReady, ready_from, ready_asks, ready_turned, ready_left}
use Rattle.split_merge.specs.declared.uniting.Union.{Union}
use Rattle.split_merge.specs.declared.joining.Join.{Join}
use Rattle.split_merge.specs.declared.joining.JoinAt.{JoinAt}
use Rattle.split_merge.specs.declared.joining.JoinAt.TheVariants as at
use Rattle.split_merge.specs.Unions.{from_in, own_prints, joined_end, joined_prints, behind_in, entry_in}
use Rattle.split_merge.specs.Unions.{IsUnion}

-- the lowest of these slots
abbrev pub lowest : ℕ → ℕ
lowest left = trailing_zeros w64 left

-- the load of a word of the right node's slot whose name goes into the lowest of these slots, and the store of that
-- word there
abbrev pub loads_from : Union → ℕ → ℕ → Action
loads_from union left word =
    Load (word_address union.layout union.right (slot_offset (from_in union (lowest left)) word))

abbrev pub copies_to : Union → ℕ → ℕ → ℕ → Action
copies_to union left word value = Store (word_address union.layout union.node (slot_offset (lowest left) word)) value

-- the left node is the prev of this one
abbrev pub stores_prev : Union → ℕ → Action
stores_prev union node = Store (prev_address union.layout node) union.node

abbrev pub unlocks_node : Union → ℕ → ℕ → Action
unlocks_node union node word = Store (version_address union.layout node) (word + 1)

abbrev pub after_open : Union → JoinAt
after_open union = if union.pairs.targets == 0 then at.Bitmap else at.Load union.pairs.targets 0

-- the next slot, or the fingerprints after the last
abbrev pub after_slot : ℕ → JoinAt
after_slot left = if left == 0 then at.Print 0 else at.Load left 0

abbrev pub after_copy : ℕ → ℕ → JoinAt
after_copy left word =
    if nat_lt (word + 1) 4 then at.Load left (word + 1) else after_slot (without_live left (lowest left))

abbrev pub after_print : Union → ℕ → JoinAt
after_print union word =
    if nat_lt (word + 1) (own_prints union) then at.Print (word + 1) else at.FenceCopies 8 fence_start

-- the left node's lines are durable one after another
abbrev pub after_line : Union → ℕ → JoinAt
after_line union first =
    if nat_lt (first + 8) (joined_end union) then at.FenceCopies (first + 8) fence_start else at.Bitmap

abbrev pub after_copies : Union → ℕ → Option Fence → JoinAt
after_copies union first (Some fence) = at.FenceCopies first fence
after_copies union first None = after_line union first

abbrev pub after_bitmap : Option Fence → JoinAt
after_bitmap (Some fence) = at.FenceBitmap fence
after_bitmap None = at.Switch

-- the switch is durable
abbrev pub after_join : Option Fence → JoinAt
after_join (Some fence) = at.FenceSwitch fence
after_join None = at.Retire

abbrev pub makes_ready : Union → JoinAt
makes_ready union = at.Ready (ready_from union.layout union.line)

abbrev pub after_prev : Union → JoinAt
after_prev union = if behind_in union == 0 then makes_ready union else at.NextPrev

abbrev pub join_at_asks : Union → JoinAt → Action
join_at_asks union (at.Open machine) = open_asks machine
join_at_asks union (at.Load left word) = loads_from union left word
join_at_asks union (at.Copy left word value) = copies_to union left word value
join_at_asks union (at.Print word) =
    Store (word_address union.layout union.node (8 + word)) (joined_prints union word)
join_at_asks union (at.FenceCopies first fence) =
    fence_asks (word_address union.layout union.node (first + fence.word)) fence
join_at_asks union at.Bitmap = Store (word_address union.layout union.node bitmap_offset) union.pairs.grown
join_at_asks union (at.FenceBitmap fence) = fence_asks (word_address union.layout union.node fence.word) fence
join_at_asks union at.Switch = Store (word_address union.layout union.node next_offset) (behind_in union)
join_at_asks union (at.FenceSwitch fence) = fence_asks (word_address union.layout union.node fence.word) fence
join_at_asks union at.Retire = Store (status_address union.layout union.right) gone_status
join_at_asks union at.Prev = stores_prev union union.right
join_at_asks union at.NextPrev = stores_prev union (behind_in union)
join_at_asks union (at.Ready ready) = ready_asks ready
join_at_asks union at.UnlockRight = unlocks_node union union.right union.right_locked
join_at_asks union at.Unlock = unlocks_node union union.node union.locked

abbrev pub join_asks : Join → Action
join_asks join = join_at_asks join.union join.at

-- it goes on there
abbrev pub joins_on : Join → JoinAt → Turn Join (Unit {0})
joins_on join at = Go (record join { at = at })

abbrev pub opened : Join → Turn Open (Unit {0}) → Turn Join (Unit {0})
opened join (Go machine) = joins_on join (at.Open machine)
opened join (Done answer) = joins_on join (after_open join.union)

-- the line is READY, and is left to a turn
abbrev pub readied : Join → Turn Ready (Unit {0}) → Turn Join (Unit {0})
readied join (Go ready) = joins_on join (at.Ready ready)
readied join (Done answer) = joins_on join at.UnlockRight

abbrev pub join_at_turned : Join → JoinAt → ℕ → Turn Join (Unit {0})
join_at_turned join (at.Open machine) got = opened join (open_turned machine got)
join_at_turned join (at.Load left word) got = joins_on join (at.Copy left word got)
join_at_turned join (at.Copy left word value) got = joins_on join (after_copy left word)
join_at_turned join (at.Print word) got = joins_on join (after_print join.union word)
join_at_turned join (at.FenceCopies first fence) got =
    joins_on join (after_copies join.union first (fence_next fence got))
join_at_turned join at.Bitmap got = joins_on join (at.FenceBitmap fence_start)
join_at_turned join (at.FenceBitmap fence) got = joins_on join (after_bitmap (fence_next fence got))
join_at_turned join at.Switch got = joins_on join (at.FenceSwitch fence_start)
join_at_turned join (at.FenceSwitch fence) got = joins_on join (after_join (fence_next fence got))
join_at_turned join at.Retire got = joins_on join at.Prev
join_at_turned join at.Prev got = joins_on join (after_prev join.union)
join_at_turned join at.NextPrev got = joins_on join (makes_ready join.union)
join_at_turned join (at.Ready ready) got = readied join (ready_turned ready got)
join_at_turned join at.UnlockRight got = joins_on join at.Unlock
join_at_turned join at.Unlock got = Done tt

abbrev pub join_turned : Join → ℕ → Turn Join (Unit {0})
join_turned join got = join_at_turned join join.at got

-- Slots of the left node that are still to get their names, as bits: there is one, and each is to get one.
pub record IsLeft (union : Union) (left : ℕ) : Type 0 where
  pub fits : left < 2 ^ 64
  pub some : left ≢ 0
  pub each : (slot : ℕ) → slot < 64 → IsLive left slot → IsLive union.pairs.targets slot

abbrev pub IsJoinAt : Union → JoinAt → Type 0
IsJoinAt union (at.Open machine) = IsOpen machine × (machine.layout ≡ union.layout) × (machine.line ≡ union.line) ×
    (machine.entry ≡ entry_in union)
IsJoinAt union (at.Load left word) = IsLeft union left × (word < 4)
IsJoinAt union (at.Copy left word value) = IsLeft union left × (word < 4) × (value < 2 ^ 64)
IsJoinAt union (at.Print word) = (word < own_prints union) × (union.pairs.targets ≢ 0)
IsJoinAt union (at.FenceCopies first fence) = (first < joined_end union) × (8 ≤ first) × (first % 8 ≡ 0) ×
    IsFence fence × (union.pairs.targets ≢ 0)
IsJoinAt union (at.FenceBitmap fence) = IsFence fence
IsJoinAt union (at.FenceSwitch fence) = IsFence fence
IsJoinAt union at.NextPrev = behind_in union ≢ 0
IsJoinAt union (at.Ready ready) = IsReady ready × (ready.layout ≡ union.layout) × (ready.line ≡ union.line)
IsJoinAt union _ = Unit {0}

pub record IsJoin (join : Join) : Type 0 where
  pub union : IsUnion join.union
  pub here : IsJoinAt join.union join.at

abbrev pub join_takes : Join → ℕ → Type 0
join_takes join got = IsJoin join × (got < 2 ^ 64)

-- how many actions it makes at most from here on
abbrev pub join_at_left : Union → JoinAt → ℕ
join_at_left union (at.Open machine) = open_left machine + 2000
join_at_left union (at.Load left word) = 1400 + 8 * live_count 64 left - 2 * word
join_at_left union (at.Copy left word value) = 1399 + 8 * live_count 64 left - 2 * word
join_at_left union (at.Print word) = 1300 + (own_prints union - word)
join_at_left union (at.FenceCopies first fence) = 3 * (272 - first) + fence_left fence + 160
join_at_left union at.Bitmap = 150
join_at_left union (at.FenceBitmap fence) = fence_left fence + 120
join_at_left union at.Switch = 110
join_at_left union (at.FenceSwitch fence) = fence_left fence + 80
join_at_left union at.Retire = 70
join_at_left union at.Prev = 69
join_at_left union at.NextPrev = 68
join_at_left union (at.Ready ready) = ready_left ready + 30
join_at_left union at.UnlockRight = 2
join_at_left union at.Unlock = 1

abbrev pub join_left : Join → ℕ
join_left join = join_at_left join.union join.at
