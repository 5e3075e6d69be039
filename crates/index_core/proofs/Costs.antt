-- How many actions a lone call makes.
use Rattle.std.proofs.Common.{◌⊎◌, inl, inr, ◌≡◌, ℕ, ◌+◌, ◌*◌, ◌≤◌, true, false, Option, Some, None}
use Rattle.std.proofs.Common.{List, length, ap, ◌∙◌, arith}
use Rattle.std.proofs.lemmas.Bool.{false_from_ne_true}
use mathlib.Core.Option.{some}
use lib.ListN.{get_elem?}
use Rattle.pm_words.specs.declared.layout.Layout.{Layout}
use Rattle.call_stages.specs.declared.once.Once.{Once}
use Rattle.call_stages.specs.declared.once.Placed.{Placed}
use Rattle.call_stages.specs.declared.view.View.{View}
use Rattle.node_ops.specs.declared.call.Call.{Call}
use Rattle.node_ops.specs.declared.lookup.LookupAt.{LookupAt}
use Rattle.node_ops.specs.declared.lookup.LookupAt.TheVariants as look
use Rattle.node_ops.specs.declared.get.Get.TheVariants as get
use Rattle.node_ops.specs.declared.put.Put.TheVariants as put
use Rattle.node_ops.specs.declared.single_put.SinglePut.TheVariants as single_put
use Rattle.node_ops.specs.declared.del.Del.TheVariants as del
use Rattle.node_ops.specs.declared.single_del.SingleDel.TheVariants as single_del
use Rattle.node_ops.specs.declared.part.Part.TheVariants as part
use Rattle.node_ops.specs.declared.part.Way.{Way}
use Rattle.node_ops.specs.declared.part.Way.TheVariants as ways
use Rattle.node_ops.specs.declared.running.Running.{Running}
use Rattle.node_ops.specs.declared.running.Running.TheVariants.{Getting, Putting, Deleting, Parting}
use Rattle.node_ops.specs.Calls.{name_in}
use Rattle.node_ops.specs.Costs.{has_landed, lookup_landed, spared}
use Rattle.node_ops.specs.RunningSteps.{running_call, running_left}
use Rattle.index_law.specs.Worlds.{World}
use Rattle.index_law.proofs.Parties.{set_here}
use Rattle.lone_hops_law.specs.lone_call_law.specs.LoneCalls.{IsThere, WayIsThere}
use Rattle.lone_hops_law.specs.lone_call_law.specs.There.{HasCome, LookupStands, WalksBy}
use Rattle.lone_hops_law.specs.lone_updater_law.specs.CallLogs.{LeavesLines, ready_lines}
use Rattle.node_ops.specs.search_layer.specs.Floors.{floor_most}
use Rattle.index_core.specs.declared.party.CoreCall.{CoreCall}
use Rattle.index_core.specs.declared.party.CoreCall.TheVariants as call
use Rattle.index_core.specs.CoreCalls.{machine_of}
use Rattle.index_core.specs.Costs.{ActionsAreFew, behind_actions}
use Rattle.index_core.specs.Indexes.{Index, IsIndex, Starts, view_of}
use Rattle.index_core.specs.Lone.{HasNoCalls, NeedsNoTurn, TriesAlone, lacks_line, lacks_node, needs_split}
use Rattle.index_core.specs.PartyStates.{state_with}
use Rattle.lone_hops_law.specs.lone_updater_law.proofs.ReadyCounts.{ready_are_counted}
use Rattle.index_core.proofs.Retrying.{turned_back}
use Rattle.index_core.proofs.SplitAnswers.{split_is_ready}
use Rattle.index_core.proofs.Tries.{Lone, cost_at, cost_in, lone_there}

pub lone_cost : (s0 s : Index) (i : ℕ) (c : CoreCall) (o : Lone s0 s i c) → cost_at s i ≡ running_left o.machine + spared o.machine
lone_cost s0 s i c o = ap cost_in (lone_there s0 s i c o)

-- as it begins
abbrev pub first_left : Layout → CoreCall → ℕ
first_left l c = floor_most l + 20 * l.nodes + 3 * l.slots + 12 + behind_actions l c

begun_left : (v : View) (c : CoreCall) → running_left (machine_of v c) + spared (machine_of v c) ≤ first_left v.layout c
begun_left v (call.Put name value limit) = omega arith
begun_left v (call.Get name) = omega arith
begun_left v (call.Del name limit) = omega arith
begun_left v (call.Part low count) = omega arith
begun_left v (call.Recheck node version) = omega arith
begun_left v (call.Turn stamp release) = omega arith

pub cost_begins : (s0 s : Index) (i : ℕ) (c : CoreCall) → Starts s0 i c s → cost_at s i ≤ first_left s0.layout c
cost_begins s0 s i c t =
    let m = machine_of (view_of s0 i) c in
    let there : get_elem? s.states i ≡ some (state_with t.state (length s0.history) m) =
    ap (λ (v : Index). get_elem? v.states i) t.is ∙ set_here s0.states i (state_with t.state (length s0.history) m) t.state t.there in
    let is : cost_at s i ≡ running_left m + spared m = ap cost_in there in
    let few = begun_left (view_of s0 i) c in
    omega arith

-- a call whose walk has ended is at the node of its name, by a way of so many hops
node_walks : (l : Layout) (words0 words : List ℕ) (limit : Option ℕ) (call : Call) (word : ℕ) → HasCome limit l words0 words call word → WalksBy l words0 (name_in call) call.hops
node_walks l words0 words None call word come = come.0.hops
node_walks l words0 words (Some most) call word come = come.0.hops

-- so is a part, whichever way it has its node
way_walks : (l : Layout) (words0 words : List ℕ) (call : Call) (word : ℕ) (way : Way) → WayIsThere l words0 words call word way → WalksBy l words0 (name_in call) call.hops
way_walks l words0 words call word (ways.Served order) there = there.0.0.hops
way_walks l words0 words call word (ways.Held order) there = there.0.0.hops
way_walks l words0 words call word ways.Alone there = there.0.0.hops

pub look_walks : (l : Layout) (words0 words : List ℕ) (call : Call) (at : LookupAt) → LookupStands l words0 words call at → lookup_landed at ≡ true → WalksBy l words0 (name_in call) call.hops
look_walks l words0 words call (look.Floor floor) stands landed = absurd (cc)
look_walks l words0 words call (look.Walk walk) stands landed = absurd (cc)
look_walks l words0 words call (look.Read seen) stands landed = stands.1.hops
look_walks l words0 words call (look.Lock seen locked) stands landed = stands.1.hops
look_walks l words0 words call (look.Clock locked) stands landed = stands.0.hops
look_walks l words0 words call (look.Spent hold) stands landed = stands.0.hops
look_walks l words0 words call (look.Bitmap hold) stands landed = node_walks l words0 words call.limit call hold.locked stands
look_walks l words0 words call (look.Prints hold bitmap prints k) stands landed = node_walks l words0 words call.limit call hold.locked stands
look_walks l words0 words call (look.Name hold directory left slot k) stands landed = node_walks l words0 words call.limit call hold.locked stands
look_walks l words0 words call (look.Value hold directory slot) stands landed = node_walks l words0 words call.limit call hold.locked stands

pub landed_walks : (l : Layout) (words0 words : List ℕ) (m : Running) → IsThere l words0 words m → has_landed m ≡ true → WalksBy l words0 (name_in (running_call m)) (running_call m).hops
landed_walks l words0 words (Getting (get.Looking lookup)) there landed = look_walks l words0 words lookup.call lookup.at there landed
landed_walks l words0 words (Getting (get.Checking call hold old)) there landed = there.0.hops
landed_walks l words0 words (Putting (put.Single (single_put.Looking lookup value))) there landed = look_walks l words0 words lookup.call lookup.at there landed
landed_walks l words0 words (Putting (put.Single (single_put.Filling fill))) there landed = there.hops
landed_walks l words0 words (Putting (put.Single (single_put.Replacing call hold bitmap hit value))) there landed = there.hops
landed_walks l words0 words (Putting (put.Single (single_put.Finishing finish))) there landed = there.hops
landed_walks l words0 words (Putting (put.Splitting call hold bitmap value split)) there landed = there.0.hops
landed_walks l words0 words (Deleting (del.Single (single_del.Looking lookup))) there landed = look_walks l words0 words lookup.call lookup.at there landed
landed_walks l words0 words (Deleting (del.Single (single_del.Next call hold bitmap hit))) there landed = there.0.hops
landed_walks l words0 words (Deleting (del.Single (single_del.Taking call hold bitmap hit take))) there landed = there.0.hops
landed_walks l words0 words (Deleting (del.Single (single_del.Refusing call hold bitmap hit))) there landed = there.0.hops
landed_walks l words0 words (Deleting (del.Single (single_del.Clearing call hold bitmap hit line))) there landed = there.0.hops
landed_walks l words0 words (Deleting (del.Single (single_del.Finishing finish line))) there landed = there.0.hops
landed_walks l words0 words (Deleting (del.Merging call hold old place merge)) there landed = there.0.hops
landed_walks l words0 words (Parting (part.Looking lookup count)) there landed = look_walks l words0 words lookup.call lookup.at there landed
landed_walks l words0 words (Parting (part.Ordering call seen count load)) there landed = there.0.0.hops
landed_walks l words0 words (Parting (part.Locking call seen count locked)) there landed = there.0.0.hops
landed_walks l words0 words (Parting (part.Dating call seen count way)) there landed = way_walks l words0 words call seen.version way there
landed_walks l words0 words (Parting (part.Reading reading)) there landed = way_walks l words0 words reading.call reading.hold.locked reading.way there

pub actions_are_few : ActionsAreFew
actions_are_few l (call.Put name value limit) lines is = let nodes = is.nodes.1 in let slots = is.slots.1 in omega arith
actions_are_few l (call.Get name) lines is = let nodes = is.nodes.1 in let slots = is.slots.1 in omega arith
actions_are_few l (call.Del name limit) lines is = let nodes = is.nodes.1 in let slots = is.slots.1 in omega arith
actions_are_few l (call.Part low count) lines is = let nodes = is.nodes.1 in let slots = is.slots.1 in omega arith
actions_are_few l (call.Recheck node version) lines is = let nodes = is.nodes.1 in let slots = is.slots.1 in omega arith
actions_are_few l (call.Turn stamp release) lines is = let nodes = is.nodes.1 in let slots = is.slots.1 in omega arith

-- ---- whole calls

-- a call that needs no turn isn't turned back for want of a line, or of a node
pub needs_none : (s s1 : Index) (i : ℕ) (c : CoreCall) (r : Once Placed) → IsIndex s → HasNoCalls s → TriesAlone s i c s1 r → NeedsNoTurn i c s → (lacks_line r ≡ false) × (lacks_node r ≡ false)
needs_none s s1 i c r is idle t none = (
  false_from_ne_true (lacks_line r) (λ lacks. back (inl lacks)),
  false_from_ne_true (lacks_node r) (λ lacks. back (inr lacks)),
)
  where
    back : (lacks_line r ≡ true) ⊎ (lacks_node r ≡ true) → ⊥
    back lacks = (turned_back s s1 i c is idle t.state (is.states i t.state t.there).caller r lacks t.answered).waits.turned none

-- a try that has split its node leaves one line more READY
pub split_lines : (name : List ℕ) (caller : ℕ) (w0 w : World) (r : Once Placed) → w.layout ≡ w0.layout → LeavesLines name caller w0 w r → needs_split r ≡ true → ready_lines w ≡ ready_lines w0 + 1
split_lines name caller w0 w r layout made is = (ready_are_counted caller w0 w layout).1 (split_is_ready name caller w0 w r made is)
