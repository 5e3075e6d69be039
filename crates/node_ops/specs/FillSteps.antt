-- Writing a pair into a clear slot, step by step.
use Rattle.std.specs.Prelude.{◌≡◌, ℕ, ◌+◌, ◌-◌, ◌^◌, ◌<◌, Bool, true, false, nat_lt, if◌then◌else◌, Option, Some, None}
use Rattle.std.specs.Prelude.{IfSome, slice_index}
use Rattle.cat_key.specs.declared.TheConstants.{WORDS}
use Rattle.pm_words.specs.declared.action.Action.{Action}
use Rattle.pm_words.specs.declared.action.Action.TheVariants.{Store}
use Rattle.pm_words.specs.declared.machine.Turn.{Turn}
use Rattle.pm_words.specs.declared.machine.Turn.TheVariants.{Go, Done}
use Rattle.data_node.specs.Slots.{IsClear}
use Rattle.data_node.specs.Bits.{with_live, without_live, printed}
use Rattle.node_ops.specs.declared.lookup.Hit.{Hit}
use Rattle.pm_words.specs.declared.fence.Fence.{Fence}
use Rattle.node_ops.specs.declared.finish.Finish.{Finish}
use Rattle.node_ops.specs.declared.finish.FinishAt.TheVariants as finish_at
use Rattle.node_ops.specs.declared.fill.Fill.{Fill}
use Rattle.node_ops.specs.declared.fill.FillAt.{FillAt}
use Rattle.node_ops.specs.declared.fill.FillAt.TheVariants as at
use Rattle.node_ops.specs.Calls.{IsCall, IsToldOf, call_address}
use Rattle.version_lock.specs.Versions.{IsLockWord}
use Rattle.pm_words.specs.Fences.{IsFence, line_of, fence_start, fence_asks, fence_next, fence_left}
use Rattle.pm_words.specs.Offsets.{bitmap_offset, print_offset, slot_offset}
use Rattle.node_ops.specs.LookupSteps.{value_of, IsHit}

-- word k of the slot: the name's words, then the value
abbrev pub fill_word : Fill → ℕ → ℕ
fill_word fill k = if nat_lt k WORDS then slice_index fill.call.name k else fill.value

-- the bitmap in which no slot has the name
abbrev pub bitmap_without : ℕ → Option Hit → ℕ
bitmap_without bitmap None = bitmap
bitmap_without bitmap (Some hit) = without_live bitmap hit.slot

-- the bitmap in which the new slot has it
abbrev pub bitmap_after : Fill → ℕ
bitmap_after fill = with_live (bitmap_without fill.bitmap fill.hit) fill.slot

-- the lines of the slot and of its fingerprint, by the offset of the first word
abbrev pub slot_line : ℕ → ℕ
slot_line slot = line_of (slot_offset slot 0)

abbrev pub print_line : ℕ → ℕ
print_line slot = line_of (print_offset slot)

abbrev pub fill_at_asks : Fill → FillAt → Action
fill_at_asks fill (at.Word k) = Store (call_address fill.call (slot_offset fill.slot k)) (fill_word fill k)
fill_at_asks fill at.Print =
    Store (call_address fill.call (print_offset fill.slot)) (printed fill.prints fill.slot fill.call.print)
fill_at_asks fill (at.FenceSlot fence) = fence_asks (call_address fill.call (slot_line fill.slot + fence.word)) fence
fill_at_asks fill (at.FencePrint fence) =
    fence_asks (call_address fill.call (print_line fill.slot + fence.word)) fence
fill_at_asks fill at.Bitmap = Store (call_address fill.call bitmap_offset) (bitmap_after fill)

abbrev pub fill_asks : Fill → Action
fill_asks fill = fill_at_asks fill fill.at

-- it goes on there
abbrev pub fills_on : Fill → FillAt → Turn Fill Finish
fills_on fill at = Go (record fill { at = at })

abbrev pub slot_fenced : Fill → Option Fence → Turn Fill Finish
slot_fenced fill (Some fence) = fills_on fill (at.FenceSlot fence)
slot_fenced fill None = fills_on fill (at.FencePrint fence_start)

abbrev pub print_fenced : Fill → Option Fence → Turn Fill Finish
print_fenced fill (Some fence) = fills_on fill (at.FencePrint fence)
print_fenced fill None = fills_on fill at.Bitmap

-- what is left to do once the bitmap is stored
abbrev pub filled : Fill → Finish
filled fill = record {
  call = fill.call;
  hold = fill.hold;
  old = value_of fill.hit;
  new = Some fill.value;
  at = finish_at.Fence (line_of bitmap_offset) fence_start;
}

abbrev pub fill_at_turned : Fill → FillAt → ℕ → Turn Fill Finish
fill_at_turned fill (at.Word k) got =
    if nat_lt (k + 1) (WORDS + 1) then fills_on fill (at.Word (k + 1)) else fills_on fill at.Print
fill_at_turned fill at.Print got = fills_on fill (at.FenceSlot fence_start)
fill_at_turned fill (at.FenceSlot fence) got = slot_fenced fill (fence_next fence got)
fill_at_turned fill (at.FencePrint fence) got = print_fenced fill (fence_next fence got)
fill_at_turned fill at.Bitmap got = Done (filled fill)

abbrev pub fill_turned : Fill → ℕ → Turn Fill Finish
fill_turned fill got = fill_at_turned fill fill.at got

-- The turn leaves this fill where it isn't done, and ends where it is.
abbrev pub FillTurns : Turn Fill Finish → Fill → Bool → Type 0
FillTurns turn fill false = turn ≡ Go fill
FillTurns turn fill true = turn ≡ Done (filled fill)

abbrev pub IsFillAt : FillAt → Type 0
IsFillAt (at.Word k) = k < WORDS + 1
IsFillAt at.Print = Unit {0}
IsFillAt (at.FenceSlot fence) = IsFence fence
IsFillAt (at.FencePrint fence) = IsFence fence
IsFillAt at.Bitmap = Unit {0}

-- what the fields keep: the slot is clear, and the one that has the name so far is live
pub record IsFill (fill : Fill) : Type 0 where
  pub call : IsCall fill.call
  pub locked : IsLockWord fill.hold.locked
  pub bitmap : fill.bitmap < 2 ^ 64
  pub within : fill.slot < fill.call.view.layout.slots
  pub clear : IsClear fill.bitmap fill.slot
  pub hit : IfSome fill.hit (IsHit fill.call.view.layout.slots fill.bitmap)
  pub value : fill.value < 2 ^ 64
  pub here : IsFillAt fill.at

abbrev pub fill_takes : Fill → ℕ → Type 0
fill_takes fill got = IsFill fill × IsToldOf fill.call (fill_asks fill) got

abbrev pub fill_at_left : FillAt → ℕ
fill_at_left (at.Word k) = 38 - k
fill_at_left at.Print = 34
fill_at_left (at.FenceSlot fence) = fence_left fence + 17
fill_at_left (at.FencePrint fence) = fence_left fence + 1
fill_at_left at.Bitmap = 1

abbrev pub fill_left : Fill → ℕ
fill_left fill = fill_at_left fill.at
