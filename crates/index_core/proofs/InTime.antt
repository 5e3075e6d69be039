-- How many actions a lone call has made, where it is in flight and where it ends, and what they are of a budget.
use Rattle.std.proofs.Common.{◌≡◌, ℕ, ◌+◌, ◌-◌, ◌*◌, ◌≤◌, Bool, true, cond, List, refl, sym, ap, ◌∙◌, subst, arith}
use Rattle.std.specs.Prelude.{Option, Some, None}
use Rattle.pm_words.specs.declared.layout.Layout.{Layout}
use Rattle.cat_history.specs.Maps.{map_of}
use Rattle.cat_history.specs.Writes.{after_all}
use Rattle.call_stages.specs.declared.once.Once.{Once}
use Rattle.call_stages.specs.declared.once.Placed.{Placed}
use Rattle.node_ops.specs.declared.call.Call.{Call}
use Rattle.node_ops.specs.declared.lookup.LookupAt.{LookupAt}
use Rattle.node_ops.specs.declared.lookup.LookupAt.TheVariants as look
use Rattle.node_ops.specs.declared.get.Get.TheVariants as get
use Rattle.node_ops.specs.declared.put.Put.TheVariants as put
use Rattle.node_ops.specs.declared.single_put.SinglePut.TheVariants as single_put
use Rattle.node_ops.specs.declared.del.Del.TheVariants as del
use Rattle.node_ops.specs.declared.single_del.SingleDel.TheVariants as single_del
use Rattle.node_ops.specs.declared.part.Part.TheVariants as part
use Rattle.node_ops.specs.declared.running.Running.{Running}
use Rattle.node_ops.specs.declared.running.Running.TheVariants.{Getting, Putting, Deleting, Parting}
use Rattle.node_ops.specs.Asked.{IsOf, name_asked}
use Rattle.node_ops.specs.Calls.{name_in}
use Rattle.node_ops.specs.Costs.{has_landed, hops_spared, lookup_landed, spared, split_spared}
use Rattle.node_ops.specs.LookupSteps.{IsLookupAt, lookup_at_left}
use Rattle.node_ops.specs.RunningSteps.{IsRunning, running_call, running_left}
use Rattle.index_law.specs.Worlds.{World}
use Rattle.lone_hops_law.specs.lone_call_law.specs.LoneCalls.{FindsFull, Foresees, IsThere}
use Rattle.lone_hops_law.specs.lone_call_law.specs.There.{LookupStands, WalksBy}
use Rattle.lone_hops_law.specs.lone_updater_law.specs.CallLogs.{ready_lines}
use Rattle.lone_hops_law.proofs.Short.{short_stays}
use Rattle.index_core.specs.declared.party.CoreCall.{CoreCall}
use Rattle.index_core.specs.declared.party.CoreCall.TheVariants as call
use Rattle.index_core.specs.CoreCalls.{limit_of, op_of}
use Rattle.index_core.specs.Costs.{TriesWithin, behind_actions, look_actions, most_actions, room_actions}
use Rattle.index_core.specs.Indexes.{Index, IsIndex, world}
use Rattle.index_core.specs.Lone.{HasNoCalls, HasShortWays, TriesAlone, needs_split}
use Rattle.index_core.specs.PartyStates.{party_of}
use Rattle.index_core.specs.Withins.{ComesInTime, TriesInTime}
use Rattle.index_core.proofs.Alone.{split_has_room, walk_is_short}
use Rattle.index_core.proofs.Costs.{first_left, landed_walks, look_walks, lone_cost, split_lines}
use Rattle.index_core.proofs.Quiet.{rests}
use Rattle.index_core.proofs.Retrying.{split_is_full}
use Rattle.index_core.proofs.SplitAnswers.{split_told}
use Rattle.index_core.proofs.Tries.{Lone, cost_at}

-- the split that a put may still make, or has spared
abbrev not_split : Running → ℕ
not_split (Putting (put.Single single)) = 30000
not_split _ = 0

-- a look-up has so much left, or has spared it
module _ (l : Layout) (words0 words : List ℕ) (call : Call) (lines : ℕ) (nodes : call.view.layout.nodes ≡ l.nodes) (few : (hops : ℕ) → WalksBy l words0 (name_in call) hops → hops ≤ lines) where
  abbrev Left : LookupAt → Type 0
  Left at = 20 * l.nodes ≤ lookup_at_left call.view.layout.slots at + cond (lookup_landed at) (hops_spared call) 0 + 10 * (lines + 1)

  landed : (at : LookupAt) → lookup_landed at ≡ true → LookupStands l words0 words call at → Left at
  landed at is stands =
      let short = few call.hops (look_walks l words0 words call at stands is) in
      let spares : cond (lookup_landed at) (hops_spared call) 0 ≡ 10 * (2 * l.nodes - (call.hops + 1)) =
      ap (λ (b : Bool). cond b (hops_spared call) 0) is ∙ ap (λ n. 10 * (2 * n - (call.hops + 1))) nodes in
      omega (arith, short, spares)

  look_left : (at : LookupAt) → IsLookupAt call at → LookupStands l words0 words call at → Left at
  look_left (look.Floor floor) here stands =
      let same : floor.layout.nodes ≡ l.nodes = ap (λ (v : Layout). v.nodes) here.layout ∙ nodes in
      omega (arith, same)
  look_left (look.Walk walk) here stands =
      let same : walk.layout.nodes ≡ l.nodes = ap (λ (v : Layout). v.nodes) here.layout ∙ nodes in
      let short = few stands.1.hops stands.1.walks in
      let all = stands.1.way.all in
      omega (arith, same, short, all)
  look_left at here stands = landed at refl stands

-- and so has any call
module _ (l : Layout) (words0 words : List ℕ) (lines : ℕ) where
  abbrev IsShort : Running → Type 0
  IsShort m = (hops : ℕ) → WalksBy l words0 (name_in (running_call m)) hops → hops ≤ lines

  -- one whose walk has ended spares the hops that it didn't make
  has_spared : (m : Running) → has_landed m ≡ true → IsThere l words0 words m → (running_call m).view.layout.nodes ≡ l.nodes → IsShort m
      → 20 * l.nodes + split_spared m ≤ spared m + 10 * (lines + 1)
  has_spared m is there nodes few =
      let short = few (running_call m).hops (landed_walks l words0 words m there is) in
      let spares : spared m ≡ 10 * (2 * l.nodes - ((running_call m).hops + 1)) + split_spared m =
      ap (λ (b : Bool). cond b (hops_spared (running_call m)) 0 + split_spared m) is ∙ ap (λ n. 10 * (2 * n - ((running_call m).hops + 1)) + split_spared m) nodes in
      omega (arith, short, spares)

  call_left : (m : Running) → IsRunning m → IsThere l words0 words m → (running_call m).view.layout.nodes ≡ l.nodes → IsShort m
      → 20 * l.nodes + not_split m ≤ running_left m + spared m + 10 * (lines + 1)
  call_left (Getting (get.Looking lookup)) here there nodes few =
      let left = look_left l words0 words lookup.call lines nodes few lookup.at here.0.here there in omega (arith, left)
  call_left (Getting (get.Checking call hold old)) here there nodes few =
      let left = has_spared (Getting (get.Checking call hold old)) refl there nodes few in omega (arith, left)
  call_left (Putting (put.Single (single_put.Looking lookup value))) here there nodes few =
      let left = look_left l words0 words lookup.call lines nodes few lookup.at here.0.here there in omega (arith, left)
  call_left (Putting (put.Single (single_put.Filling fill))) here there nodes few =
      let left = has_spared (Putting (put.Single (single_put.Filling fill))) refl there nodes few in omega (arith, left)
  call_left (Putting (put.Single (single_put.Replacing call hold bitmap hit value))) here there nodes few =
      let left = has_spared (Putting (put.Single (single_put.Replacing call hold bitmap hit value))) refl there nodes few in omega (arith, left)
  call_left (Putting (put.Single (single_put.Finishing finish))) here there nodes few =
      let left = has_spared (Putting (put.Single (single_put.Finishing finish))) refl there nodes few in omega (arith, left)
  call_left (Putting (put.Splitting call hold bitmap value split)) here there nodes few =
      let left = has_spared (Putting (put.Splitting call hold bitmap value split)) refl there nodes few in omega (arith, left)
  call_left (Deleting (del.Single (single_del.Looking lookup))) here there nodes few =
      let left = look_left l words0 words lookup.call lines nodes few lookup.at here.0.here there in omega (arith, left)
  call_left (Deleting (del.Single (single_del.Next call hold bitmap hit))) here there nodes few =
      let left = has_spared (Deleting (del.Single (single_del.Next call hold bitmap hit))) refl there nodes few in omega (arith, left)
  call_left (Deleting (del.Single (single_del.Taking call hold bitmap hit take))) here there nodes few =
      let left = has_spared (Deleting (del.Single (single_del.Taking call hold bitmap hit take))) refl there nodes few in omega (arith, left)
  call_left (Deleting (del.Single (single_del.Refusing call hold bitmap hit))) here there nodes few =
      let left = has_spared (Deleting (del.Single (single_del.Refusing call hold bitmap hit))) refl there nodes few in omega (arith, left)
  call_left (Deleting (del.Single (single_del.Clearing call hold bitmap hit line))) here there nodes few =
      let left = has_spared (Deleting (del.Single (single_del.Clearing call hold bitmap hit line))) refl there nodes few in omega (arith, left)
  call_left (Deleting (del.Single (single_del.Finishing finish line))) here there nodes few =
      let left = has_spared (Deleting (del.Single (single_del.Finishing finish line))) refl there nodes few in omega (arith, left)
  call_left (Deleting (del.Merging call hold old place merge)) here there nodes few =
      let left = has_spared (Deleting (del.Merging call hold old place merge)) refl there nodes few in omega (arith, left)
  call_left (Parting (part.Looking lookup count)) here there nodes few =
      let left = look_left l words0 words lookup.call lines nodes few lookup.at here.0.here there in omega (arith, left)
  call_left (Parting (part.Ordering call seen count load)) here there nodes few =
      let left = has_spared (Parting (part.Ordering call seen count load)) refl there nodes few in omega (arith, left)
  call_left (Parting (part.Locking call seen count locked)) here there nodes few =
      let left = has_spared (Parting (part.Locking call seen count locked)) refl there nodes few in omega (arith, left)
  call_left (Parting (part.Dating call seen count way)) here there nodes few =
      let left = has_spared (Parting (part.Dating call seen count way)) refl there nodes few in omega (arith, left)
  call_left (Parting (part.Reading reading)) here there nodes few =
      let left = has_spared (Parting (part.Reading reading)) refl there nodes few in omega (arith, left)

-- a put whose node has room makes no split
splits_none : (w : World) (c : CoreCall) (m : Running) → IsOf (op_of c) m → Foresees w (op_of c) m → (FindsFull w (op_of c) → ⊥) → behind_actions w.layout c ≤ room_actions w.layout c + not_split m
splits_none w (call.Put name value limit) (Putting (put.Single single)) of foresees room = omega arith
splits_none w (call.Put name value limit) (Putting (put.Splitting call hold bitmap value' split)) of foresees room = absurd (room foresees)
splits_none w (call.Put name value limit) (Getting machine) of foresees room = absurd of
splits_none w (call.Put name value limit) (Deleting machine) of foresees room = absurd of
splits_none w (call.Put name value limit) (Parting machine) of foresees room = absurd of
splits_none w (call.Get name) m of foresees room = omega arith
splits_none w (call.Del name limit) m of foresees room = omega arith
splits_none w (call.Part low count) m of foresees room = omega arith
splits_none w (call.Recheck node version) m of foresees room = omega arith
splits_none w (call.Turn stamp release) m of foresees room = omega arith

-- so the next action of one in flight is one of those that it makes at most
module _ (s0 s : Index) (i : ℕ) (c : CoreCall) (o : Lone s0 s i c) (before now : ℕ) (kept : now + cost_at s i ≤ before + first_left s0.layout c) (short : HasShortWays s0) where
  has_left : 20 * s0.layout.nodes + not_split o.machine ≤ cost_at s i + 10 * (ready_lines (world s0) + 1)
  has_left =
      let was = lone_cost s0 s i c o in
      let nodes : (running_call o.machine).view.layout.nodes ≡ s0.layout.nodes = ap (λ (l : Layout). l.nodes) (o.call.sound.layout ∙ o.call.trying.start.layout) in
      let of_call = call_left s0.layout s0.words s.words (ready_lines (world s0)) o.machine o.call.sound.here o.call.stands nodes
      (λ hops walks. walk_is_short s0 o.start.before o.start.still.calls (name_in (running_call o.machine)) hops short walks) in
      omega (arith, was, of_call)

  next_in_time : now + 1 ≤ before + (look_actions s0.layout (ready_lines (world s0)) + behind_actions s0.layout c)
  next_in_time = let few = has_left in omega (arith, kept, few)

  next_with_room : (FindsFull (world s0) (op_of c) → ⊥) → now + 1 ≤ before + (look_actions s0.layout (ready_lines (world s0)) + room_actions s0.layout c)
  next_with_room room =
      let few = has_left in
      let none = splits_none (world s0) c o.machine o.call.of o.call.foresees room in
      omega (arith, kept, few, none)

-- where it is cut off, and where it is answered
pub cut_in_time : (T : Type 0) (s0 s : Index) (i : ℕ) (c : CoreCall) → Lone s0 s i c → (budget before now : ℕ) → now + cost_at s i ≤ before + first_left s0.layout c → now ≡ before + budget → TriesInTime {T = T} s0 c None budget before now
cut_in_time T s0 s i c o budget before now kept spent short =
    let next = next_in_time s0 s i c o before now kept short in (
      omega (arith, next, spent),
      (λ room. let next = next_with_room s0 s i c o before now kept short room in omega (arith, next, spent)),
    )

pub end_in_time : {T : Type 0} (s0 s : Index) (i : ℕ) (c : CoreCall) → Lone s0 s i c → (budget before now after : ℕ) → now + cost_at s i ≤ before + first_left s0.layout c → after ≡ now + 1 → (answer : T) → TriesInTime s0 c (Some answer) budget before after
end_in_time s0 s i c o budget before now after kept tick answer short =
    let next = next_in_time s0 s i c o before now kept short in (
      omega (arith, next, tick),
      (λ room. let next = next_with_room s0 s i c o before now kept short room in omega (arith, next, tick)),
    )

-- ---- whole calls

-- a try is one of those
try_most : (l : Layout) (c : CoreCall) (lines : ℕ) → look_actions l lines + behind_actions l c ≤ most_actions l c lines
try_most l (call.Put name value limit) lines = omega arith
try_most l (call.Get name) lines = omega arith
try_most l (call.Del name limit) lines = omega arith
try_most l (call.Part low count) lines = omega arith
try_most l (call.Recheck node version) lines = omega arith
try_most l (call.Turn stamp release) lines = omega arith

in_less_time : {T : Type 0} (result : Option T) (budget before after least most : ℕ) → least ≤ most → ComesInTime result budget before after least → ComesInTime result budget before after most
in_less_time (Some answer) budget before after least most less few = omega (arith, less, few)
in_less_time None budget before after least most less few = omega (arith, less, few)

pub try_in_time : (T : Type 0) (s0 : Index) (c : CoreCall) (result : Option T) (budget before after : ℕ) → HasShortWays s0 → TriesInTime s0 c result budget before after → ComesInTime result budget before after (most_actions s0.layout c (ready_lines (world s0)))
try_in_time T s0 c result budget before after short tries =
    in_less_time result budget before after (look_actions s0.layout (ready_lines (world s0)) + behind_actions s0.layout c) (most_actions s0.layout c (ready_lines (world s0))) (try_most s0.layout c (ready_lines (world s0))) (tries short).0

-- a put that has split its node has room there
split_room : (s0 s1 : Index) (i : ℕ) (c : CoreCall) (first : Once Placed) → IsIndex s1 → HasNoCalls s1 → (t : TriesAlone s0 i c s1 first) → needs_split first ≡ true → FindsFull (world s1) (op_of c) → ⊥
split_room s0 s1 i c first is idle t made =
    let known = split_told (world s0) (op_of c) (limit_of c) (world s1) (party_of t.state) first t.answered made in
    split_has_room s0 s1 c (rests s1 is idle) (λ k. after_all (map_of (t.base k)) (known.5 k)) known.6

-- and it has made these and those
split_most : (l : Layout) (c : CoreCall) (lines : ℕ) (w : World) → FindsFull w (op_of c) → (look_actions l lines + behind_actions l c) + (look_actions l (lines + 1) + room_actions l c) ≤ most_actions l c lines
split_most l (call.Put name value limit) lines w full = omega arith
split_most l (call.Get name) lines w full = absurd full
split_most l (call.Del name limit) lines w full = absurd full
split_most l (call.Part low count) lines w full = absurd full
split_most l (call.Recheck node version) lines w full = absurd full
split_most l (call.Turn stamp release) lines w full = absurd full

-- both tries of such a put
pub again_in_time : (T : Type 0) (s0 s1 : Index) (i : ℕ) (c : CoreCall) (first : Once Placed) (result : Option T) (budget left before between after : ℕ) → IsIndex s1 → HasNoCalls s1 → (t : TriesAlone s0 i c s1 first) → needs_split first ≡ true
    → TriesInTime s0 c (Some first) budget before between → TriesInTime s1 c result left between after → between + left ≡ before + budget → HasShortWays s0
    → ComesInTime result budget before after (most_actions s0.layout c (ready_lines (world s0)))
again_in_time T s0 s1 i c first result budget left before between after is idle t again one two spent short =
    at result ((two (short_stays (world s0) (world s1) t.layer t.ways short)).1 (split_room s0 s1 i c first is idle t again))
  where
    lines : ready_lines (world s1) ≡ ready_lines (world s0) + 1
    lines = split_lines (name_asked (op_of c)) t.state.caller (world s0) (world s1) first t.layout t.lines again

    same : look_actions s1.layout (ready_lines (world s1)) + room_actions s1.layout c ≡ look_actions s0.layout (ready_lines (world s0) + 1) + room_actions s0.layout c
    same = λ k. look_actions (t.layout k) (lines k) + room_actions (t.layout k) c

    all : (look_actions s0.layout (ready_lines (world s0)) + behind_actions s0.layout c) + (look_actions s0.layout (ready_lines (world s0) + 1) + room_actions s0.layout c) ≤ most_actions s0.layout c (ready_lines (world s0))
    all = split_most s0.layout c (ready_lines (world s0)) (world s0) (split_is_full (world s0) (world s1) c (party_of t.state) first t.answered again)

    at : (result : Option T) → ComesInTime result left between after (look_actions s1.layout (ready_lines (world s1)) + room_actions s1.layout c) → ComesInTime result budget before after (most_actions s0.layout c (ready_lines (world s0)))
    at (Some answer) few = let first_few = (one short).0 in omega (arith, few, first_few, same, all)
    at None few = let first_few = (one short).0 in omega (arith, few, first_few, same, all, spent)

-- as a whole call has it that needs no turn, and so stands as its first try left it
pub again_so : (T : Type 0) (s0 s1 s : Index) (i : ℕ) (c : CoreCall) (first answer : Once Placed) (result : Option T) (budget left1 left before steps1 steps after : ℕ) → IsIndex s1 → HasNoCalls s1 → TriesAlone s0 i c s1 first
    → TriesInTime s0 c (Some first) budget before steps1 → steps1 + left1 ≡ before + budget → (s ≡ s1) × (answer ≡ first) × (steps ≡ steps1) × (left ≡ left1) → needs_split answer ≡ true → TriesInTime s c result left steps after → HasShortWays s0
    → ComesInTime result budget before after (most_actions s0.layout c (ready_lines (world s0)))
again_so T s0 s1 s i c first answer result budget left1 left before steps1 steps after is idle t one spent same made two short =
    again_in_time T s0 s1 i c first result budget left1 before steps1 after is idle t (sym (ap needs_split same.1) ∙ made) one
    (subst (λ (q : Index × ℕ × ℕ). TriesInTime q.0 c result q.2 q.1 after) (λ k. (same.0 k, same.2 k, same.3 k)) two) spent short

-- so where both were answered
pub again_acts : (s0 s1 : Index) (i : ℕ) (c : CoreCall) (first then : Once Placed) (before between after : ℕ) → IsIndex s1 → HasNoCalls s1 → TriesAlone s0 i c s1 first → needs_split first ≡ true → before ≤ between
    → TriesWithin s0 c before between → TriesWithin s1 c between after → HasShortWays s0 → after ≤ before + most_actions s0.layout c (ready_lines (world s0))
again_acts s0 s1 i c first then before between after is idle t again later one two short =
    again_in_time (Once Placed) s0 s1 i c first (Some then) (between - before) 0 before between after is idle t again one two (omega (arith, later)) short
