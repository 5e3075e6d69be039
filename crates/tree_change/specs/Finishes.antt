-- The end of a change, word by word.
use Rattle.std.specs.Prelude.{◌≡◌, ◌≢◌, ℕ, ◌+◌, ◌^◌, ◌<◌, ◌≤◌, ◌==◌, if◌then◌else◌, Option, Some, None}
use Rattle.pm_words.specs.declared.layout.Layout.{Layout}
use Rattle.pm_words.specs.declared.action.Action.{Action}
use Rattle.pm_words.specs.declared.action.Action.TheVariants.{Store}
use Rattle.pm_words.specs.declared.machine.Turn.{Turn}
use Rattle.pm_words.specs.declared.machine.Turn.TheVariants.{Go, Done}
use Rattle.pm_words.specs.declared.fence.Fence.{Fence}
use Rattle.pm_words.specs.Fences.{IsFence, line_of, fence_start, fence_asks, fence_next, fence_left}
use Rattle.pm_words.specs.Layouts.{IsLayout}
use Rattle.pm_words.specs.Locations.{Word, Root, Leaf, Cell, Cached, Mark, address_of, leaf_count, kind_words}
use Rattle.pm_words.specs.Offsets.{reference_offset}
use Rattle.tree_law.specs.Words.{kind_of, number_of}
use Rattle.tree_floor.specs.Floors.{IsCellOf}
use Rattle.tree_change.specs.declared.finish.Target.{Target}
use Rattle.tree_change.specs.declared.finish.Target.TheVariants as target
use Rattle.tree_change.specs.declared.finish.TargetStore.{TargetStore}
use Rattle.tree_change.specs.declared.finish.Finish.{Finish}
use Rattle.tree_change.specs.declared.finish.FinishAt.{FinishAt}
use Rattle.tree_change.specs.declared.finish.FinishAt.TheVariants as at

-- a word of the image
abbrev pub target_image : Target → Word
target_image target.Root = Root reference_offset
target_image (target.Leaf leaf offset) = Leaf leaf offset
target_image (target.Cell cell offset) = Cell (kind_of cell) (number_of cell) offset

-- a word of its line
abbrev pub line_image : Target → ℕ → Word
line_image target.Root word = Root word
line_image (target.Leaf leaf offset) word = Leaf leaf word
line_image (target.Cell cell offset) word = Cell (kind_of cell) (number_of cell) (line_of offset + word)

-- it is in range, and so is its line
abbrev pub IsTarget : Layout → Target → Type 0
IsTarget l target.Root = Unit {0}
IsTarget l (target.Leaf leaf offset) = (leaf < leaf_count l) × (offset < 8)
IsTarget l (target.Cell cell offset) = IsCellOf l cell × (offset < kind_words (kind_of cell))

-- of a leaf or a cell that may have a mark
pub record IsMarked (l : Layout) (reference : ℕ) : Type 0 where
  pub low : 1 ≤ kind_of reference
  pub high : kind_of reference ≤ 5
  pub number : number_of reference < leaf_count l

abbrev pub cached_at : Layout → Word → ℕ
cached_at l word = address_of l (Cached word)

abbrev pub mark_at : Layout → ℕ → ℕ
mark_at l reference = address_of l (Mark (kind_of reference) (number_of reference))

-- it begins at the switch store, or at a quiet store before that
abbrev pub finish_starts : Layout → TargetStore → ℕ → ℕ → Finish
finish_starts l switch free next =
    record { layout = l; quiet = switch; switch = switch; free = free; next = next; at = at.Switch }

abbrev pub quiet_starts : Layout → TargetStore → TargetStore → Finish
quiet_starts l quiet switch =
    record { layout = l; quiet = quiet; switch = switch; free = 0; next = 0; at = at.Quiet }

-- what it asks for
abbrev pub store_asks : Layout → TargetStore → Action
store_asks l store = Store (cached_at l (target_image store.target)) store.word

abbrev pub drain_asks : Layout → Target → Fence → Action
drain_asks l target fence = fence_asks (cached_at l (line_image target fence.word)) fence

abbrev pub finish_at_asks : Finish → FinishAt → Action
finish_at_asks f at.Quiet = store_asks f.layout f.quiet
finish_at_asks f (at.QuietFence fence) = drain_asks f.layout f.quiet.target fence
finish_at_asks f at.Switch = store_asks f.layout f.switch
finish_at_asks f (at.SwitchFence fence) = drain_asks f.layout f.switch.target fence
finish_at_asks f (at.Unmark reference) = Store (mark_at f.layout reference) 0

abbrev pub finish_asks : Finish → Action
finish_asks f = finish_at_asks f f.at

-- once it is told a number
abbrev pub finish_to : Finish → FinishAt → Turn Finish (Unit {0})
finish_to f at = Go (record f { at = at })

abbrev pub unmarks : Finish → Turn Finish (Unit {0})
unmarks f =
    if f.free == 0 then Done tt else Go (record f { free = f.next; next = 0; at = at.Unmark f.free })

-- on in its fence, or behind it
abbrev pub fenced : Finish → (Fence → FinishAt) → Turn Finish (Unit {0}) → Option Fence → Turn Finish (Unit {0})
fenced f inside behind (Some fence) = finish_to f (inside fence)
fenced f inside behind None = behind

abbrev pub quiet_drained : Finish → Option Fence → Turn Finish (Unit {0})
quiet_drained f = fenced f (λ fence. at.QuietFence fence) (finish_to f at.Switch)

abbrev pub switch_drained : Finish → Option Fence → Turn Finish (Unit {0})
switch_drained f = fenced f (λ fence. at.SwitchFence fence) (unmarks f)

abbrev pub finish_at_turned : Finish → FinishAt → ℕ → Turn Finish (Unit {0})
finish_at_turned f at.Quiet got = finish_to f (at.QuietFence fence_start)
finish_at_turned f (at.QuietFence fence) got = quiet_drained f (fence_next fence got)
finish_at_turned f at.Switch got = finish_to f (at.SwitchFence fence_start)
finish_at_turned f (at.SwitchFence fence) got = switch_drained f (fence_next fence got)
finish_at_turned f (at.Unmark reference) got = unmarks f

abbrev pub finish_turned : Finish → ℕ → Turn Finish (Unit {0})
finish_turned f got = finish_at_turned f f.at got

-- What its fields keep.
abbrev pub IsFinishAt : Layout → FinishAt → Type 0
IsFinishAt l at.Quiet = Unit {0}
IsFinishAt l (at.QuietFence fence) = IsFence fence
IsFinishAt l at.Switch = Unit {0}
IsFinishAt l (at.SwitchFence fence) = IsFence fence
IsFinishAt l (at.Unmark reference) = IsMarked l reference

pub record IsFinish (f : Finish) : Type 0 where
  pub layout : IsLayout f.layout
  pub quiet : IsTarget f.layout f.quiet.target
  pub switch : IsTarget f.layout f.switch.target
  pub quiet_word : f.quiet.word < 2 ^ 64
  pub switch_word : f.switch.word < 2 ^ 64
  pub free : f.free ≢ 0 → IsMarked f.layout f.free
  pub next : f.next ≢ 0 → IsMarked f.layout f.next
  pub here : IsFinishAt f.layout f.at

abbrev pub finish_takes : Finish → ℕ → Type 0
finish_takes f got = IsFinish f × (got < 2 ^ 64)

-- how many marks it takes away, and how many actions it asks for from here on, at most
abbrev pub frees : ℕ → ℕ → ℕ
frees free next = if free == 0 then 0 else if next == 0 then 1 else 2

abbrev pub finish_at_left : Finish → FinishAt → ℕ
finish_at_left f at.Quiet = 37
finish_at_left f (at.QuietFence fence) = fence_left fence + 20
finish_at_left f at.Switch = 20
finish_at_left f (at.SwitchFence fence) = fence_left fence + 3
finish_at_left f (at.Unmark reference) = 1 + frees f.free f.next

abbrev pub finish_left : Finish → ℕ
finish_left f = finish_at_left f f.at

-- It stays one, of the same stores, and does less and less, whatever it is told.
pub record FinishGoes (f : Finish) (left : ℕ) (g : Finish) : Type 0 where
  pub is : IsFinish g
  pub layout : g.layout ≡ f.layout
  pub quiet : g.quiet ≡ f.quiet
  pub switch : g.switch ≡ f.switch
  pub fewer : finish_left g < left

abbrev pub FinishAfter : Finish → ℕ → Turn Finish (Unit {0}) → Type 0
FinishAfter f left (Go g) = FinishGoes f left g
FinishAfter f left (Done answer) = Unit {0}

abbrev pub FinishStays : Type 0
FinishStays = (f : Finish) (got : ℕ) → finish_takes f got → FinishAfter f (finish_left f) (finish_turned f got)
