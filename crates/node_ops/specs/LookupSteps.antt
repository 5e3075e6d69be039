-- Looking a name up in its node, under the lock or without one, step by step.
use Rattle.std.specs.Prelude.{◌≡◌, ◌≢◌, ℕ, ◌+◌, ◌-◌, ◌*◌, ◌^◌, ◌<◌, ◌≤◌, ◌==◌, Bool, false, nat_lt, nat_le}
use Rattle.std.specs.Prelude.{if◌then◌else◌}
use Rattle.std.specs.Prelude.{List, length, Option, Some, None, IfSome, IsSome, IsTrue, slice_index, slice_set}
use Rattle.std.specs.Prelude.{replicate}
use Rattle.cat_key.specs.declared.TheConstants.{WORDS}
use Rattle.pm_words.specs.declared.action.Action.{Action}
use Rattle.pm_words.specs.declared.action.Action.TheVariants.{Load, Store, Exchange}
use Rattle.pm_words.specs.declared.again.Again.TheVariants.{Moved}
use Rattle.pm_words.specs.declared.machine.Turn.{Turn}
use Rattle.pm_words.specs.declared.machine.Turn.TheVariants.{Go, Done}
use Rattle.pm_words.specs.Offsets.{version_offset, bitmap_offset, slot_offset, value_word}
use Rattle.version_lock.specs.Versions.{generation_of, kept_count, locked_word, IsFree, IsWorn, is_worn_word}
use Rattle.data_node.specs.declared.slots.TheConstants.{PRINT_WORDS}
use Rattle.data_node.specs.Slots.{IsLive}
use Rattle.data_node.specs.Bits.{without_live, lowest_live, candidate_bits}
use Rattle.call_stages.specs.declared.once.Once.{Once}
use Rattle.call_stages.specs.declared.once.Once.TheVariants as once
use Rattle.call_stages.specs.declared.once.Placed.{Placed}
use Rattle.call_stages.specs.Kinds.{clock_address}
use Rattle.node_ops.specs.declared.call.Call.{Call}
use Rattle.node_ops.specs.declared.lookup.Hold.{Hold}
use Rattle.node_ops.specs.declared.lookup.Directory.{Directory}
use Rattle.node_ops.specs.declared.lookup.Hit.{Hit}
use Rattle.node_ops.specs.declared.lookup.Found.{Found}
use Rattle.node_ops.specs.declared.lookup.Looked.{Looked}
use Rattle.node_ops.specs.declared.lookup.Looked.TheVariants as looked
use Rattle.node_ops.specs.declared.lookup.Lookup.{Lookup}
use Rattle.node_ops.specs.declared.lookup.LookupAt.{LookupAt}
use Rattle.node_ops.specs.declared.lookup.LookupAt.TheVariants as at
use Rattle.data_list.specs.declared.target.Sighting.{Sighting}
use Rattle.data_list.specs.declared.target.Target.{Target}
use Rattle.data_list.specs.declared.target.Walked.{Walked}
use Rattle.data_list.specs.declared.target.Walked.TheVariants as walked
use Rattle.data_list.specs.declared.walk.Walk.{Walk}
use Rattle.data_list.specs.Walks.{sighting_of, walk_from, walk_asks, walk_turned, walk_left, IsWalk}
use Rattle.data_list.specs.Laws.{IsSighting}
use Rattle.node_ops.specs.Calls.{IsCall, IsToldOf, call_address, at_node}
use Rattle.tree_floor.specs.declared.floor.Floor.{Floor}
use Rattle.tree_floor.specs.Floors.{IsFloor, floor_starts, floor_asks, floor_turned, floor_left}
use Rattle.version_lock.specs.Versions.{IsLockWord}

-- what a name has, if a slot has it
abbrev pub value_of : Option Hit → Option ℕ
value_of None = None
value_of (Some hit) = Some hit.value

-- a look-up that begins
abbrev pub starts : Call → Lookup
starts call = record { call = call; at = at.Floor (floor_starts call.view.layout call.name) }

abbrev pub lookup_at_asks : Call → LookupAt → Action
lookup_at_asks call (at.Floor floor) = floor_asks floor
lookup_at_asks call (at.Walk walk) = walk_asks walk
lookup_at_asks call (at.Read seen) = Load (clock_address call.view.layout)
lookup_at_asks call (at.Lock seen locked) = Exchange (call_address call version_offset) seen.version locked
lookup_at_asks call (at.Clock locked) = Load (clock_address call.view.layout)
lookup_at_asks call (at.Spent hold) = Store (call_address call version_offset) (hold.locked + 1)
lookup_at_asks call (at.Bitmap hold) = Load (call_address call bitmap_offset)
lookup_at_asks call (at.Prints hold bitmap prints k) = Load (call_address call (8 + k))
lookup_at_asks call (at.Name hold directory left slot k) = Load (call_address call (slot_offset slot k))
lookup_at_asks call (at.Value hold directory slot) = Load (call_address call (slot_offset slot value_word))

abbrev pub lookup_asks : Lookup → Action
lookup_asks lookup = lookup_at_asks lookup.call lookup.at

-- it goes on there
abbrev pub goes_to : Call → LookupAt → Turn Lookup Looked
goes_to call at = Go (record { call = call; at = at })

-- the call is over
abbrev pub ends : Once Placed → Turn Lookup Looked
ends answer = Done (looked.Early answer)

-- it found the slot with the name, or that none has it
abbrev pub finds : Hold → Directory → Option Hit → Turn Lookup Looked
finds hold directory hit = Done (looked.Found (record { hold = hold; directory = directory; hit = hit }))

-- after a turn of the floor: it walks from the node that the layer leads to
abbrev pub floored : Call → Turn Floor ℕ → Turn Lookup Looked
floored call (Go floor) = goes_to call (at.Floor floor)
floored call (Done node) =
    goes_to call (at.Walk (walk_from call.view.layout call.view.generation node call.name))

-- it is at its target: a read takes no lock, and loads the clock next; a write, which has a limit, locks it next
abbrev pub came_by : Option ℕ → Call → Target → Turn Lookup Looked
came_by None call target = goes_to (at_node call target.node target.hops) (at.Read (sighting_of target))
came_by (Some limit) call target =
    if is_worn_word target.version call.view.generation
    then ends (once.Worn target.node target.version)
    else goes_to (at_node call target.node target.hops)
    (at.Lock (sighting_of target) (locked_word call.view.generation (kept_count target.version call.view.generation)))

abbrev pub came_to : Call → Target → Turn Lookup Looked
came_to call target = came_by call.limit call target

-- after a turn of the walk
abbrev pub walked_on : Call → Turn Walk Walked → Turn Lookup Looked
walked_on call (Go walk) = goes_to call (at.Walk walk)
walked_on call (Done (walked.Again why)) = ends (once.Again why)
walked_on call (Done (walked.Target target)) = came_to call target

abbrev pub tried_lock : Call → ℕ → ℕ → ℕ → Turn Lookup Looked
tried_lock call version locked found =
    if found == version then goes_to call (at.Clock locked) else ends (once.Again (Moved call.node version found))

-- the clock has reached the limit, if there is one
abbrev pub is_spent : Option ℕ → ℕ → Bool
is_spent None clock = false
is_spent (Some limit) clock = nat_le limit clock

abbrev pub saw_clock : Call → Hold → Turn Lookup Looked
saw_clock call hold =
    if is_spent call.limit hold.clock then goes_to call (at.Spent hold) else goes_to call (at.Bitmap hold)

abbrev pub candidate_turned : Call → Hold → Directory → ℕ → Option ℕ → Turn Lookup Looked
candidate_turned call hold directory left None = finds hold directory None
candidate_turned call hold directory left (Some slot) = goes_to call (at.Name hold directory left slot 0)

-- on to the lowest of the slots that are left
abbrev pub next_candidate : Call → Hold → Directory → ℕ → Turn Lookup Looked
next_candidate call hold directory left = candidate_turned call hold directory left (lowest_live left)

-- all fingerprints are loaded
abbrev pub saw_directory : Call → Hold → Directory → Turn Lookup Looked
saw_directory call hold directory =
    next_candidate call hold directory (candidate_bits directory.bitmap directory.prints call.print
    call.view.layout.slots)

abbrev pub saw_prints : Call → Hold → ℕ → List ℕ → ℕ → ℕ → Turn Lookup Looked
saw_prints call hold bitmap prints k word =
    if nat_lt (k + 1) PRINT_WORDS
    then goes_to call (at.Prints hold bitmap (slice_set prints k word) (k + 1))
    else saw_directory call hold (record { bitmap = bitmap; prints = slice_set prints k word })

abbrev pub saw_name : Call → Hold → Directory → ℕ → ℕ → ℕ → ℕ → Turn Lookup Looked
saw_name call hold directory left slot k word =
    if word == slice_index call.name k
    then (if nat_lt (k + 1) WORDS
    then goes_to call (at.Name hold directory left slot (k + 1))
    else goes_to call (at.Value hold directory slot))
    else next_candidate call hold directory (without_live left slot)

abbrev pub lookup_at_turned : Call → LookupAt → ℕ → Turn Lookup Looked
lookup_at_turned call (at.Floor floor) got = floored call (floor_turned floor got)
lookup_at_turned call (at.Walk walk) got = walked_on call (walk_turned walk got)
lookup_at_turned call (at.Read seen) got = goes_to call (at.Bitmap (record { locked = seen.version; clock = got }))
lookup_at_turned call (at.Lock seen locked) got = tried_lock call seen.version locked got
lookup_at_turned call (at.Clock locked) got = saw_clock call (record { locked = locked; clock = got })
lookup_at_turned call (at.Spent hold) got = ends (once.Spent hold.clock)
lookup_at_turned call (at.Bitmap hold) got = goes_to call (at.Prints hold got (replicate 8 0) 0)
lookup_at_turned call (at.Prints hold bitmap prints k) got = saw_prints call hold bitmap prints k got
lookup_at_turned call (at.Name hold directory left slot k) got = saw_name call hold directory left slot k got
lookup_at_turned call (at.Value hold directory slot) got =
    finds hold directory (Some (record { slot = slot; value = got }))

abbrev pub lookup_turned : Lookup → ℕ → Turn Lookup Looked
lookup_turned lookup got = lookup_at_turned lookup.call lookup.at got

-- the free word that was seen, and the locked word made of it
pub record IsLocking (generation version word : ℕ) : Type 0 where
  pub known : generation_of version ≤ generation
  pub free : IsFree version generation
  pub unworn : IsWorn version generation → ⊥
  pub locked : word ≡ locked_word generation (kept_count version generation)

-- the words as they were loaded
pub record IsDirectory (directory : Directory) : Type 0 where
  pub bitmap : directory.bitmap < 2 ^ 64
  pub prints : length directory.prints ≡ 8

-- some of the live slots are still to be compared, and this is the lowest of them
pub record IsComparing (slots bitmap left slot : ℕ) : Type 0 where
  pub fits : left < 2 ^ 64
  pub live : (other : ℕ) → IsLive left other → (other < slots) × IsLive bitmap other
  pub lowest : lowest_live left ≡ Some slot

-- a live slot has the name
pub record IsHit (slots bitmap : ℕ) (hit : Hit) : Type 0 where
  pub within : hit.slot < slots
  pub live : IsLive bitmap hit.slot
  pub fits : hit.value < 2 ^ 64

-- the version word of a write's node is locked; a read has the one that it saw
abbrev pub IsHeldBy : Option ℕ → ℕ → Type 0
IsHeldBy None word = Unit {0}
IsHeldBy (Some limit) word = IsLockWord word

pub record IsFoundIn (limit : Option ℕ) (slots : ℕ) (found : Found) : Type 0 where
  pub locked : IsHeldBy limit found.hold.locked
  pub directory : IsDirectory found.directory
  pub hit : IfSome found.hit (IsHit slots found.directory.bitmap)

-- what a write found
pub record IsFoundBy (slots : ℕ) (found : Found) : Type 0 where
  pub locked : IsLockWord found.hold.locked
  pub directory : IsDirectory found.directory
  pub hit : IfSome found.hit (IsHit slots found.directory.bitmap)

-- it takes the floor of its name
pub record IsFlooring (call : Call) (floor : Floor) : Type 0 where
  pub sound : IsFloor floor
  pub layout : floor.layout ≡ call.view.layout
  pub key : floor.key ≡ call.name

-- it walks to the node of its name
pub record IsWalking (call : Call) (walk : Walk) : Type 0 where
  pub sound : IsWalk walk
  pub layout : walk.layout ≡ call.view.layout
  pub generation : walk.generation ≡ call.view.generation
  pub key : walk.key ≡ call.name

-- it is at its target, and locks it
pub record IsAtTarget (call : Call) (seen : Sighting) (locked : ℕ) : Type 0 where
  pub locking : IsLocking call.view.generation seen.version locked
  pub is : IsSighting call.view.generation call.name seen
  pub leads : IfSome seen.next (λ next. next.node ≢ 0)

-- it is at its target, of which it takes no lock
pub record IsAtSeen (call : Call) (seen : Sighting) : Type 0 where
  pub reads : call.limit ≡ None
  pub is : IsSighting call.view.generation call.name seen
  pub leads : IfSome seen.next (λ next. next.node ≢ 0)

abbrev pub IsLookupAt : Call → LookupAt → Type 0
IsLookupAt call (at.Floor floor) = IsFlooring call floor
IsLookupAt call (at.Walk walk) = IsWalking call walk
IsLookupAt call (at.Read seen) = IsAtSeen call seen
IsLookupAt call (at.Lock seen locked) = IsSome call.limit × IsAtTarget call seen locked
IsLookupAt call (at.Clock locked) = IsSome call.limit × IsLockWord locked
IsLookupAt call (at.Spent hold) = IsLockWord hold.locked × IsTrue (is_spent call.limit hold.clock)
IsLookupAt call (at.Bitmap hold) = IsHeldBy call.limit hold.locked
IsLookupAt call (at.Prints hold bitmap prints k) = IsHeldBy call.limit hold.locked ×
    IsDirectory (record { bitmap = bitmap; prints = prints }) × (k < PRINT_WORDS)
IsLookupAt call (at.Name hold directory left slot k) =
    IsHeldBy call.limit hold.locked × IsDirectory directory ×
    IsComparing call.view.layout.slots directory.bitmap left slot ×
    (k < WORDS)
IsLookupAt call (at.Value hold directory slot) =
    IsHeldBy call.limit hold.locked × IsDirectory directory × (slot < call.view.layout.slots) ×
    IsLive directory.bitmap slot

-- what the fields of a look-up keep
pub record IsLookup (lookup : Lookup) : Type 0 where
  pub call : IsCall lookup.call
  pub here : IsLookupAt lookup.call lookup.at

abbrev pub lookup_takes : Lookup → ℕ → Type 0
lookup_takes lookup got = IsLookup lookup × IsToldOf lookup.call (lookup_asks lookup) got

-- a walk hops to twice as many nodes at most as there are, with ten actions at each; each candidate takes three actions
-- at most, and the value one more
abbrev pub lookup_at_left : ℕ → LookupAt → ℕ
lookup_at_left slots (at.Floor floor) = floor_left floor + 20 * floor.layout.nodes + (3 * slots + 13)
lookup_at_left slots (at.Walk walk) = walk_left walk + (3 * slots + 13)
lookup_at_left slots (at.Read seen) = 3 * slots + 11
lookup_at_left slots (at.Lock seen locked) = 3 * slots + 12
lookup_at_left slots (at.Clock locked) = 3 * slots + 11
lookup_at_left slots (at.Spent hold) = 1
lookup_at_left slots (at.Bitmap hold) = 3 * slots + 10
lookup_at_left slots (at.Prints hold bitmap prints k) = 3 * slots + 9 - k
lookup_at_left slots (at.Name hold directory left slot k) = 3 * (slots - slot) + 1 - k
lookup_at_left slots (at.Value hold directory slot) = 1

abbrev pub lookup_left : Lookup → ℕ
lookup_left lookup = lookup_at_left lookup.call.view.layout.slots lookup.at
