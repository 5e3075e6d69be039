-- A whole try of any call, with no other in flight.
use Rattle.std.specs.Prelude.{◌≡◌, ℕ, ◌+◌, ◌<◌, ◌≤◌, ◌^◌, Bool, false, List, ◌++◌, length, Option, Some, IsSome}
use Rattle.std.specs.Prelude.{None, IfSome, IsTrue}
use mathlib.Core.Option.{some}
use lib.ListN.{get_elem?}
use Rattle.pm_words.specs.declared.layout.Layout.{Layout}
use Rattle.pm_words.specs.declared.again.Again.TheVariants as again
use Rattle.pm_words.specs.declared.machine.Turn.{Turn}
use Rattle.pm_words.specs.declared.machine.Turn.TheVariants.{Go, Done}
use Rattle.pm_words.specs.Rows.{got, acted}
use Rattle.pm_words.specs.Offsets.{state_offset}
use Rattle.version_lock.specs.Versions.{IsWorn}
use Rattle.cat_history.specs.Maps.{at}
use Rattle.cat_history.specs.Records.{change_of}
use Rattle.cat_history.specs.declared.op.NameOp.{NameOp}
use Rattle.cat_history.specs.declared.op.NameOp.TheVariants as op
use Rattle.call_stages.specs.declared.once.Once.{Once}
use Rattle.call_stages.specs.declared.once.Once.TheVariants as once
use Rattle.call_stages.specs.declared.once.Placed.{Placed}
use Rattle.call_stages.specs.Stages.{Idle}
use Rattle.cat_key.specs.Names.{IsName}
use Rattle.call_stages.specs.declared.view.View.{View}
use Rattle.node_ops.specs.Calls.{new_call}
use Rattle.node_ops.specs.declared.call.Call.{Call}
use Rattle.smo_log.specs.Laws.{HasLooked}
use Rattle.index_law.specs.Lines.{line_in}
use Rattle.index_law.specs.Anchors.{members_most}
use Rattle.call_stages.specs.Views.{IsView}
use Rattle.node_ops.specs.declared.get.Get.{Get}
use Rattle.node_ops.specs.declared.get.Get.TheVariants as get
use Rattle.node_ops.specs.declared.put.Put.{Put}
use Rattle.node_ops.specs.declared.put.Put.TheVariants as put
use Rattle.node_ops.specs.declared.single_put.SinglePut.TheVariants as single_put
use Rattle.node_ops.specs.declared.del.Del.{Del}
use Rattle.node_ops.specs.declared.del.Del.TheVariants as del
use Rattle.node_ops.specs.declared.single_del.SingleDel.TheVariants as single_del
use Rattle.node_ops.specs.declared.part.Part.{Part}
use Rattle.node_ops.specs.declared.part.Part.TheVariants as part
use Rattle.node_ops.specs.declared.part.PartWords.{PartWords}
use Rattle.node_ops.specs.declared.part.Way.{Way}
use Rattle.node_ops.specs.declared.part.Way.TheVariants as ways
use Rattle.permutation.specs.Loads.{load_read}
use Rattle.node_ops.specs.permutation_law.specs.Permuted.{made_at}
use Rattle.node_ops.specs.declared.running.Running.{Running}
use Rattle.node_ops.specs.declared.running.Running.TheVariants.{Getting, Putting, Deleting, Parting}
use Rattle.node_ops.specs.Asked.{IsOf, name_asked}
use Rattle.node_ops.specs.LookupSteps.{starts, is_spent}
use Rattle.node_ops.specs.PartSteps.{part_asks, part_turned}
use Rattle.node_ops.specs.RunningSteps.{Sound, running_call, running_asks, running_turned}
use Rattle.node_ops.specs.CallStages.{stage_of}
use Rattle.index_law.specs.Facts.{map_now, version_in}
use Rattle.index_law.specs.Worlds.{Party, World, facts, stepped, started, moved_on, written}
use Rattle.index_law.specs.Laws.{IsAtRest}
use Rattle.lone_call_law.specs.There.{CanWalk, WalksBy, IsAtNode, IsUnmoved, HasCome, LookupStands}
use Rattle.lone_call_law.specs.Locks.{locks_of, HasLocked}
use Rattle.lone_call_law.specs.Merging.{KeepsFew, TriesMerge, HasKeptList, LeavesShape}
use Rattle.lone_call_law.specs.MergeStands.{merge_leaves, MergeForesees}
use Rattle.lone_call_law.specs.Tries.{Trying, Says, IsHalvedSince}
use Rattle.split_merge.specs.declared.splitting.SplitAt.{SplitAt}
use Rattle.split_merge.specs.declared.splitting.SplitAt.TheVariants as split_at
use Rattle.lone_call_law.specs.Splitting.{HasLine, LacksLine, HasFree, LacksFree, SplitStands}
use Rattle.lone_call_law.specs.Rooms.{target_node, target_names}

-- Where a get stands.
abbrev pub GetIsThere : Layout → List ℕ → List ℕ → Get → Type 0
GetIsThere l words0 words (get.Looking lookup) = LookupStands l words0 words lookup.call lookup.at
GetIsThere l words0 words (get.Checking call hold old) = HasCome None l words0 words call hold.locked

abbrev pub PutIsThere : Layout → List ℕ → List ℕ → Put → Type 0
PutIsThere l words0 words (put.Single (single_put.Looking lookup value)) =
    LookupStands l words0 words lookup.call lookup.at
PutIsThere l words0 words (put.Single (single_put.Filling fill)) = IsAtNode l words0 fill.call
PutIsThere l words0 words (put.Single (single_put.Replacing call hold bitmap hit value)) = IsAtNode l words0 call
PutIsThere l words0 words (put.Single (single_put.Finishing finish)) = IsAtNode l words0 finish.call
PutIsThere l words0 words (put.Splitting call hold bitmap value split) = IsAtNode l words0 call ×
    SplitStands l call.view.generation words0 words call.node hold.locked call.view.caller split.at

-- Where a delete goes on with a log line, its caller had one that was EMPTY.
abbrev pub HasFoundLine : Layout → List ℕ → Call → Option ℕ → Type 0
HasFoundLine l words0 call line = IfSome line (λ number. HasLine l words0 call.view.caller)

-- Until it has looked for a line nothing but the lock has changed.
abbrev pub DelIsThere : Layout → List ℕ → List ℕ → Del → Type 0
DelIsThere l words0 words (del.Single (single_del.Looking lookup)) = LookupStands l words0 words lookup.call lookup.at
DelIsThere l words0 words (del.Single (single_del.Next call hold bitmap hit)) = IsAtNode l words0 call ×
    IsUnmoved l words0 words call.node
DelIsThere l words0 words (del.Single (single_del.Taking call hold bitmap hit take)) =
    IsAtNode l words0 call × IsUnmoved l words0 words call.node ×
    HasLooked (λ index. line_in l words0 call.view.caller index state_offset) take.index take.at
DelIsThere l words0 words (del.Single (single_del.Refusing call hold bitmap hit)) =
    IsAtNode l words0 call × IsUnmoved l words0 words call.node × LacksLine l words0 call.view.caller
DelIsThere l words0 words (del.Single (single_del.Clearing call hold bitmap hit line)) =
    IsAtNode l words0 call × HasFoundLine l words0 call line
DelIsThere l words0 words (del.Single (single_del.Finishing finish line)) =
    IsAtNode l words0 finish.call × HasFoundLine l words0 finish.call line
DelIsThere l words0 words (del.Merging call hold old place merge) =
    IsAtNode l words0 call × HasLine l words0 call.view.caller

-- The permutation of the call's node was made at the node's version word, as it was before the call.
abbrev pub IsMadeNow : Layout → List ℕ → Call → Type 0
IsMadeNow l words0 call = made_at l words0 call.node ≡ version_in l words0 call.node

-- It has come to its node: by a permutation that was made at the node's version word, as which nothing has changed; or,
-- where there is none such, with the lock, as which the node's version word and permutation alone have changed; or with
-- neither, since no lock can be taken.
abbrev pub WayIsThere : Layout → List ℕ → List ℕ → Call → ℕ → Way → Type 0
WayIsThere l words0 words call word (ways.Served order) =
    HasCome None l words0 words call word × IsMadeNow l words0 call
WayIsThere l words0 words call word (ways.Held order) =
    (IsAtNode l words0 call × IsUnmoved l words0 words call.node) × ¬ IsMadeNow l words0 call
WayIsThere l words0 words call word ways.Alone = HasCome None l words0 words call word × ¬ IsMadeNow l words0 call

-- A part of a range scan comes to its node as a get of its low name does.
abbrev pub PartIsThere : Layout → List ℕ → List ℕ → Part → Type 0
PartIsThere l words0 words (part.Looking lookup count) = LookupStands l words0 words lookup.call lookup.at
PartIsThere l words0 words (part.Ordering call seen count load) = HasCome None l words0 words call seen.version ×
    IfSome (load_read load) (λ read. IsMadeNow l words0 call)
PartIsThere l words0 words (part.Locking call seen count locked) = HasCome None l words0 words call seen.version ×
    ¬ IsMadeNow l words0 call
PartIsThere l words0 words (part.Dating call seen count way) = WayIsThere l words0 words call seen.version way
PartIsThere l words0 words (part.Reading reading) =
    WayIsThere l words0 words reading.call reading.hold.locked reading.way

abbrev pub IsThere : Layout → List ℕ → List ℕ → Running → Type 0
IsThere l words0 words (Getting machine) = GetIsThere l words0 words machine
IsThere l words0 words (Putting machine) = PutIsThere l words0 words machine
IsThere l words0 words (Deleting machine) = DelIsThere l words0 words machine
IsThere l words0 words (Parting machine) = PartIsThere l words0 words machine

-- It is a put that splits, and has claimed a node.
abbrev pub HasClaimed : SplitAt → Type 0
HasClaimed (split_at.Read share full count) = Unit {0}
HasClaimed (split_at.Move moving) = Unit {0}
HasClaimed _ = ⊥

abbrev pub IsPast : Running → Type 0
IsPast (Putting (put.Splitting call hold bitmap value split)) = HasClaimed split.at
IsPast _ = ⊥

-- The history is as long as its limit, if it has one.
abbrev pub IsLate : World → Option ℕ → Type 0
IsLate w limit = IsTrue (is_spent limit (length w.history))

-- It is a put of a name that the map lacks, and the target of the name has as many names as slots.
abbrev pub FindsFull : World → NameOp → Type 0
FindsFull w (op.Put name value) = (at (map_now (facts w)) name ≡ None) × (target_names w name ≡ w.layout.slots)
FindsFull w (op.Get name) = ⊥
FindsFull w (op.Del name) = ⊥

-- It takes a log line: it is a put that finds its node full, or a delete that tries to merge.
abbrev pub NeedsLine : World → NameOp → Type 0
NeedsLine w (op.Put name value) = FindsFull w (op.Put name value)
NeedsLine w (op.Del name) = TriesMerge w name
NeedsLine w (op.Get name) = ⊥

-- The name had a value.
abbrev pub HadValue : Option ℕ → Type 0
HadValue old = (value : ℕ) × (old ≡ Some value)

-- A delete looks for a line exactly where it tries to merge. One that has its place with a line has taken a name out,
-- and what its merge has found out is so.
abbrev pub DelForesees : World → List ℕ → Del → Type 0
DelForesees w name (del.Single (single_del.Looking lookup)) = Unit {0}
DelForesees w name (del.Single (single_del.Next call hold bitmap hit)) = KeepsFew w name
DelForesees w name (del.Single (single_del.Taking call hold bitmap hit take)) = TriesMerge w name
DelForesees w name (del.Single (single_del.Refusing call hold bitmap hit)) = TriesMerge w name
DelForesees w name (del.Single (single_del.Clearing call hold bitmap hit None)) = ¬ TriesMerge w name
DelForesees w name (del.Single (single_del.Clearing call hold bitmap hit (Some line))) = Unit {0}
DelForesees w name (del.Single (single_del.Finishing finish None)) = ¬ TriesMerge w name
DelForesees w name (del.Single (single_del.Finishing finish (Some line))) = HadValue finish.old
DelForesees w name (del.Merging call hold old place merge) = HadValue old × MergeForesees w name merge.at

-- A put that splits has found its node full.
abbrev pub PutForesees : World → NameOp → Put → Type 0
PutForesees w asked (put.Single single) = Unit {0}
PutForesees w asked (put.Splitting call hold bitmap value split) = FindsFull w asked

abbrev pub Foresees : World → NameOp → Running → Type 0
Foresees w asked (Getting machine) = Unit {0}
Foresees w asked (Putting machine) = PutForesees w asked machine
Foresees w asked (Deleting machine) = DelForesees w (name_asked asked) machine
Foresees w asked (Parting machine) = Unit {0}

-- It merges two nodes, and holds both or has nothing more to do than to give its own back.
abbrev pub del_leaves : Del → Bool
del_leaves (del.Merging call hold old place merge) = merge_leaves merge.at
del_leaves _ = false

abbrev pub is_leaving : Running → Bool
is_leaving (Getting machine) = false
is_leaving (Putting machine) = false
is_leaving (Deleting machine) = del_leaves machine
is_leaving (Parting machine) = false

-- A write has a limit, and a read has none.
abbrev pub HasLimit : NameOp → Option ℕ → Type 0
HasLimit (op.Get name) limit = limit ≡ None
HasLimit (op.Put name value) limit = IsSome limit
HasLimit (op.Del name) limit = IsSome limit

-- A call of this op and limit is in flight, which the party makes as its own, as the index was w0 when it began, and no
-- other.
pub record LoneCall (w0 : World) (i : ℕ) (asked : NameOp) (limit : Option ℕ) (w : World) (p : Party)
    (machine : Running) : Type 0 where
  pub trying : Trying (name_asked asked) (change_of asked) w0 i w p
  pub walks : CanWalk w0.layout w0.generation w0.words
  pub stage : p.stage ≡ stage_of machine
  pub sound : Sound w.layout w.generation machine
  pub of : IsOf asked machine
  pub limited : (running_call machine).limit ≡ limit
  pub limits : HasLimit asked limit
  pub own : (running_call machine).view.caller ≡ p.caller
  pub stands : IsThere w0.layout w0.words w.words machine
  pub foresees : Foresees w0 asked machine
  pub locks : HasLocked w.generation (facts w0).version (facts w).version (is_leaving machine) (stage_of machine)
  pub timely : IsPast machine → IsLate w0 limit → ⊥

-- It is a write, and no lock can be taken any more from the version word of the target of its name.
abbrev pub FindsWorn : World → NameOp → Type 0
FindsWorn w (op.Get name) = ⊥
FindsWorn w (op.Put name value) = IsWorn ((facts w).version (target_node w name)) w.generation
FindsWorn w (op.Del name) = IsWorn ((facts w).version (target_node w name)) w.generation

-- How a try is answered, by its cause in the index before it, and what it leaves: of the causes exactly one holds.
abbrev pub IsAnswered : World → NameOp → Option ℕ → World → Party → Once Placed → Type 0
IsAnswered w0 asked limit w p (once.Worn node word) =
    FindsWorn w0 asked × (node ≡ target_node w0 (name_asked asked)) × (word ≡ (facts w0).version node)
    × (w.history ≡ w0.history) × HasKeptList w0 w
IsAnswered w0 asked limit w p (once.Spent clock) =
    ¬ FindsWorn w0 asked × IsLate w0 limit × (clock ≡ length w0.history) × (w.history ≡ w0.history) × HasKeptList w0 w
IsAnswered w0 asked limit w p (once.Again again.LogFull) =
    ¬ FindsWorn w0 asked × ¬ IsLate w0 limit × NeedsLine w0 asked × LacksLine w0.layout w0.words p.caller ×
    (w.history ≡ w0.history) × HasKeptList w0 w ×
    IsUnmoved w0.layout w0.words w.words (target_node w0 (name_asked asked))
IsAnswered w0 asked limit w p (once.Again again.NoFree) =
    ¬ FindsWorn w0 asked × ¬ IsLate w0 limit × FindsFull w0 asked × HasLine w0.layout w0.words p.caller ×
    LacksFree w0.layout w0.generation w0.words × (w.history ≡ w0.history) × HasKeptList w0 w ×
    IsUnmoved w0.layout w0.words w.words (target_node w0 (name_asked asked))
IsAnswered w0 asked limit w p (once.Again (again.NeedsSplit node)) =
    ¬ FindsWorn w0 asked × ¬ IsLate w0 limit × FindsFull w0 asked × HasLine w0.layout w0.words p.caller ×
    HasFree w0.layout w0.generation w0.words × (w.history ≡ w0.history) × IsHalvedSince (name_asked asked) w0 w ×
    (members_most w ≡ members_most w0)
IsAnswered w0 asked limit w p (once.Done placed) =
    (¬ FindsWorn w0 asked × ¬ IsLate w0 limit × ¬ FindsFull w0 asked ×
    (NeedsLine w0 asked → HasLine w0.layout w0.words p.caller))
    × (placed.old ≡ at (map_now (facts w0)) (name_asked asked)) × (placed.place ≡ length w0.history)
    × WalksBy w0.layout w0.words (name_asked asked) placed.hops
    × (w.history ≡ w0.history ++ written p.caller p.index (change_of asked)) × LeavesShape w0 asked w
IsAnswered w0 asked limit w p (once.Again why) = ⊥

-- Each node has lost one lock at most.
abbrev pub LosesLocks : World → World → Type 0
LosesLocks w0 w = (n : ℕ) → locks_of w0.generation ((facts w0).version n) ≤
    locks_of w0.generation ((facts w).version n) + 1

-- So it is at each moment of a try, however far it has come.
abbrev pub LoneCallsLose : Type 0
LoneCallsLose = (w0 : World) (i : ℕ) (asked : NameOp) (limit : Option ℕ) (w : World) (p : Party) (machine : Running) →
    LoneCall w0 i asked limit w p machine → LosesLocks w0 w

abbrev pub AfterCall : World → ℕ → NameOp → Option ℕ → World → Party → Running → Turn Running (Once Placed) → Type 0
AfterCall w0 i asked limit w p machine (Go next) =
    LoneCall w0 i asked limit (stepped w i p (running_asks machine) (stage_of next)) (moved_on p (stage_of next)) next
AfterCall w0 i asked limit w p machine (Done answer) =
    IsAtRest (stepped w i p (running_asks machine) Idle) ×
    IsAnswered w0 asked limit (stepped w i p (running_asks machine) Idle) p answer ×
    LosesLocks w0 (stepped w i p (running_asks machine) Idle) ×
    Says w0 (stepped w i p (running_asks machine) Idle) (name_asked asked) (change_of asked) p.stage answer

abbrev pub LoneCallsGo : Type 0
LoneCallsGo = (w0 : World) (i : ℕ) (asked : NameOp) (limit : Option ℕ) (w : World) (p : Party) (machine : Running)
    (x : ℕ) → LoneCall w0 i asked limit w p machine → IsAtRest w0 →
    x ≡ got w.layout w.words (running_asks machine) → length w.history < 2 ^ 63 →
    AfterCall w0 i asked limit w p machine (running_turned machine x)

-- The machine of a call as it begins.
abbrev pub machine_for : NameOp → View → Option ℕ → Running
machine_for (op.Get name) view limit = Getting (get.Looking (starts (new_call view name limit)))
machine_for (op.Put name value) view limit =
    Putting (put.Single (single_put.Looking (starts (new_call view name limit)) value))
machine_for (op.Del name) view limit = Deleting (del.Single (single_del.Looking (starts (new_call view name limit))))

abbrev pub ValueFits : NameOp → Type 0
ValueFits (op.Get name) = Unit {0}
ValueFits (op.Put name value) = value < 2 ^ 64
ValueFits (op.Del name) = Unit {0}

-- The party of a call as it begins.
abbrev pub begun_party : World → Party → ℕ → Party
begun_party w0 p index = record { caller = p.caller; index = index; since = length w0.history; stage = Idle }

-- A call of a party of an index in which nothing is in flight, as it begins.
abbrev pub LoneCallsBegin : Type 0
LoneCallsBegin = (w0 : World) (i : ℕ) (asked : NameOp) (limit : Option ℕ) (p : Party) (index : ℕ) (view : View) →
    IsAtRest w0 → CanWalk w0.layout w0.generation w0.words → get_elem? w0.parties i ≡ some p →
    IsView view → view.layout ≡ w0.layout → view.generation ≡ w0.generation → view.caller ≡ p.caller →
    IsName (name_asked asked) →
    IfSome limit (λ most. most ≤ 2 ^ 62) → HasLimit asked limit → ValueFits asked →
    LoneCall w0 i asked limit (started w0 i p index) (begun_party w0 p index) (machine_for asked view limit)

-- So does a part of a range scan, which is a call of a get of its low name.
abbrev pub LonePartsBegin : Type 0
LonePartsBegin = (w0 : World) (i : ℕ) (low : List ℕ) (count : ℕ) (p : Party) (index : ℕ) (view : View) →
    IsAtRest w0 → CanWalk w0.layout w0.generation w0.words → get_elem? w0.parties i ≡ some p →
    IsView view → view.layout ≡ w0.layout → view.generation ≡ w0.generation → view.caller ≡ p.caller → IsName low →
    LoneCall w0 i (op.Get low) None (started w0 i p index) (begun_party w0 p index)
    (Parting (part.Looking (starts (new_call view low None)) count))

-- A lone part whose node has a permutation of its version word changes no word, and compares nothing.
pub record GoesServed (w0 w : World) (machine : Part) : Type 0 where
  pub still : w.words ≡ w0.words
  pub ends : (x : ℕ) (answer : PartWords) → part_turned machine x ≡ Done (once.Done answer) →
      (answer.compared ≡ 0) × (acted w.layout w.words (part_asks machine) ≡ w0.words)

abbrev pub LonePartsAreServed : Type 0
LonePartsAreServed = (w0 : World) (i : ℕ) (asked : NameOp) (limit : Option ℕ) (w : World) (p : Party)
    (machine : Part) → LoneCall w0 i asked limit w p (Parting machine) →
    made_at w0.layout w0.words (target_node w0 (name_asked asked)) ≡
    (facts w0).version (target_node w0 (name_asked asked)) →
    GoesServed w0 w machine
