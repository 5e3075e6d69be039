-- How many actions a call makes, with no other in flight, from where the search layer leads it near its node.
use Rattle.std.specs.Prelude.{ℕ, ◌+◌, ◌*◌, ◌≤◌}
use Rattle.pm_words.specs.Layouts.{IsLayout}
use Rattle.pm_words.specs.declared.layout.Layout.{Layout}
use Rattle.lone_hops_law.specs.lone_call_law.specs.LoneCalls.{FindsFull}
use Rattle.lone_hops_law.specs.lone_updater_law.specs.CallLogs.{ready_lines}
use Rattle.node_ops.specs.search_layer.specs.Floors.{floor_most}
use Rattle.index_core.specs.declared.party.CoreCall.{CoreCall}
use Rattle.index_core.specs.declared.party.CoreCall.TheVariants as call
use Rattle.index_core.specs.CoreCalls.{op_of}
use Rattle.index_core.specs.Indexes.{Index, world}
use Rattle.index_core.specs.Lone.{HasShortWays, NeedsNoTurn}

-- Those of a look-up, whose walk makes so many hops: those of the floor in the search layer, ten for each hop, three
-- for each slot, and a few more.
abbrev pub look_actions : Layout → ℕ → ℕ
look_actions l hops = floor_most l + 3 * l.slots + 10 * hops + 23

-- Those of a put into its node, and of one that splits its node; those of a delete, which may merge two; and those of a
-- part at its node.
abbrev pub fill_actions : ℕ
fill_actions = 57

abbrev pub split_actions : ℕ
split_actions = 30057

abbrev pub merge_actions : ℕ
merge_actions = 30052

abbrev pub list_actions : Layout → ℕ
list_actions l = 4 * l.slots + 2

-- Those of one try behind its look-up, of which a put makes so many.
abbrev pub try_actions : ℕ → Layout → CoreCall → ℕ
try_actions put l (call.Put name value limit) = put
try_actions put l (call.Get name) = 1
try_actions put l (call.Del name limit) = merge_actions
try_actions put l (call.Part low count) = list_actions l
try_actions put l (call.Recheck node version) = 1
try_actions put l (call.Turn stamp release) = 1

-- Those of any such try, whatever it is answered; and where a put's node has room for its name, so that it isn't split.
abbrev pub behind_actions : Layout → CoreCall → ℕ
behind_actions l c = try_actions split_actions l c

abbrev pub room_actions : Layout → CoreCall → ℕ
room_actions l c = try_actions fill_actions l c

-- Those of a whole call that needs no turn of the updater, as so many log lines are READY: a put may split its node,
-- and is made again then.
abbrev pub most_actions : Layout → CoreCall → ℕ → ℕ
most_actions l (call.Put name value limit) lines =
    look_actions l lines + split_actions + (look_actions l (lines + 1) + fill_actions)
most_actions l (call.Get name) lines = look_actions l lines + 1
most_actions l (call.Del name limit) lines = look_actions l lines + merge_actions
most_actions l (call.Part low count) lines = look_actions l lines + list_actions l
most_actions l (call.Recheck node version) lines = look_actions l lines + 1
most_actions l (call.Turn stamp release) lines = look_actions l lines + 1

-- Those of a turn of the updater: so many for each log line, most of them in the walk to the node of its anchor and in
-- the search layer, and six for each node.
abbrev pub turn_actions : Layout → ℕ
turn_actions l = 120000 * (8 * l.callers) + 6 * l.nodes

-- One try, whatever it is answered, which has counted from the first number of actions to the second.
abbrev pub TriesWithin : Index → CoreCall → ℕ → ℕ → Type 0
TriesWithin s c before after = HasShortWays s →
    (after ≤ before + (look_actions s.layout (ready_lines (world s)) + behind_actions s.layout c)) ×
    (¬ FindsFull (world s) (op_of c) →
    after ≤ before + (look_actions s.layout (ready_lines (world s)) + room_actions s.layout c))

-- This holds of the most actions that the call makes, if it needs no turn and the index has short ways.
abbrev pub WithMost : Index → ℕ → CoreCall → (ℕ → Type 0) → Type 0
WithMost s caller c P = HasShortWays s → NeedsNoTurn caller c s → P (most_actions s.layout c (ready_lines (world s)))

-- So a whole call, whatever it is answered.
abbrev pub ActsWithin : Index → ℕ → CoreCall → ℕ → ℕ → Type 0
ActsWithin s caller c before after = WithMost s caller c (λ most. after ≤ before + most)

-- In plain numbers, for any layout: at most 16384 for a get or a part of a scan, 65536 for a put or a delete, and 32 or
-- 64 more for each line that is READY.
abbrev pub AreFewActions : CoreCall → ℕ → ℕ → Type 0
AreFewActions (call.Put name value limit) lines actions = actions ≤ 65536 + 64 * lines
AreFewActions (call.Del name limit) lines actions = actions ≤ 65536 + 64 * lines
AreFewActions _ lines actions = actions ≤ 16384 + 32 * lines

abbrev pub ActionsAreFew : Type 0
ActionsAreFew = (l : Layout) (c : CoreCall) (lines : ℕ) → IsLayout l → AreFewActions c lines (most_actions l c lines)
