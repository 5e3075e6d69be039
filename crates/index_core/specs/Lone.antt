-- A call that is made with no other in flight.
use Rattle.std.specs.Prelude.{◌≡◌, ◌≢◌, ℕ, ◌+◌, ◌<◌, ◌≤◌, ◌==◌, ◌⊎◌, Bool, true, false, List, [], ◌++◌, length}
use Rattle.std.specs.Prelude.{slice_set, Option, Some, None, IsSomeAnd}
use Rattle.std.specs.FinMap.{keys}
use Rattle.std.specs.List.{filter}
use mathlib.Core.Option.{some}
use lib.ListN.{get_elem?}
use Rattle.cat_history.specs.Maps.{at}
use Rattle.cat_key.specs.Names.{IsName}
use Rattle.cat_history.specs.declared.op.Write.{Write}
use Rattle.pm_words.specs.Codes.{free_status, gone_status}
use Rattle.pm_words.specs.declared.again.Again.TheVariants as again
use Rattle.call_stages.specs.declared.once.Once.{Once}
use Rattle.call_stages.specs.declared.once.Once.TheVariants as once
use Rattle.call_stages.specs.declared.once.Placed.{Placed}
use Rattle.cat_history.specs.Records.{change_of}
use Rattle.node_ops.specs.declared.part.PartWords.{PartWords}
use Rattle.node_ops.specs.declared.running.Running.{Running}
use Rattle.node_ops.specs.Asked.{name_asked}
use Rattle.node_ops.specs.RunningSteps.{listed_in}
use Rattle.shapes.specs.Anchors.{next_of, names_at, splits, put_anchors, merges, del_anchors}
use Rattle.version_lock.specs.Versions.{IsWorn}
use Rattle.index_law.specs.Facts.{version_in}
use Rattle.index_law.specs.Anchors.{anchors_in, gone_nodes}
use Rattle.index_law.specs.Worlds.{facts, written}
use Rattle.permutation_law.specs.Permuted.{made_at}
use Rattle.lone_hops_law.specs.lone_call_law.specs.Rooms.{target_node}
use Rattle.lone_hops_law.specs.lone_call_law.specs.Merging.{NextIsWorn, TriesMerge}
use Rattle.lone_hops_law.specs.lone_call_law.specs.LoneCalls.{FindsWorn, IsAnswered}
use Rattle.lone_hops_law.specs.lone_call_law.specs.There.{WalksBy}
use Rattle.lone_hops_law.specs.lone_call_law.specs.Splitting.{HasFree, HasLine, LacksLine}
use Rattle.lone_hops_law.specs.lone_call_law.specs.Locks.{locks_of, locks_in}
use Rattle.lone_hops_law.specs.lone_updater_law.specs.CallLogs.{KeepsLayer, KeepsLines, MakesReady, LeavesLines}
use Rattle.lone_hops_law.specs.lone_updater_law.specs.CallLogs.{ready_lines}
use Rattle.lone_hops_law.specs.lone_updater_law.specs.LoneTurns.{stamp_in}
use Rattle.lone_hops_law.specs.LoneNodes.{LengthenWithin}
use Rattle.lone_hops_law.specs.Short.{WaysAreShort}
use Rattle.updater.specs.declared.making.MakeTurn.{MakeTurn}
use Rattle.updater.specs.declared.making.MakeTurn.TheVariants.{Taking, Working}
use Rattle.updater.specs.declared.terms.Turned.{Turned}
use Rattle.index_core.specs.declared.party.CoreCall.{CoreCall}
use Rattle.index_core.specs.declared.party.CoreCall.TheVariants as call
use Rattle.index_core.specs.declared.party.PartyState.{PartyState}
use Rattle.index_core.specs.declared.party.Whole.{Whole}
use Rattle.index_core.specs.declared.party.Whole.TheVariants as whole
use Rattle.index_core.specs.CoreCalls.{IsGetCall, IsRecheckAnd, IsTurnAnd, MayBegin, op_of, limit_of, count_of}
use Rattle.index_core.specs.Listings.{ListsRange}
use Rattle.index_core.specs.PartyStates.{party_of, next_index, index_after, state_counted}
use Rattle.index_core.specs.Indexes.{Index, IsIndex, KeepsWords, map_of_index, world}
use Rattle.index_core.specs.Turns.{TurnsAlone}
use Rattle.index_core.specs.Weights.{weight_of, added_by, added_whole}

-- No call on a name is in flight.
abbrev pub HasNoCalls : Index → Type 0
HasNoCalls s = (i : ℕ) (state : PartyState) → get_elem? s.states i ≡ some state → state.machine ≡ None

-- Nor is a turn of the updater; nor a recheck.
abbrev pub HasNoTurns : Index → Type 0
HasNoTurns s = (i : ℕ) (state : PartyState) → get_elem? s.states i ≡ some state → state.turn ≡ None

abbrev pub HasNoRechecks : Index → Type 0
HasNoRechecks s = (i : ℕ) (state : PartyState) → get_elem? s.states i ≡ some state → state.recheck ≡ None

-- Nothing is in flight: no call on a name, no turn of the updater, and no recheck.
pub record IsQuiet (s : Index) : Type 0 where
  pub calls : HasNoCalls s
  pub turns : HasNoTurns s
  pub rechecks : HasNoRechecks s

-- What a party may call with nothing else in flight: what it may start, and of rechecks those that find the version
-- word.
abbrev pub MayRunAlone : Index → ℕ → CoreCall → Type 0
MayRunAlone s party c = ((party < s.layout.callers) × MayBegin c) ⊎
    (IsTurnAnd c (λ stamp release. (party ≤ s.layout.callers) × (1 ≤ stamp)) ⊎
    IsRecheckAnd c (λ node version. (party < s.layout.callers) × (node < s.layout.nodes) ×
    (version_in s.layout s.words node ≡ version)))

-- The turn has the updater lock, which it takes by its first event.
abbrev pub HoldsLock : Option MakeTurn → Type 0
HoldsLock None = ⊥
HoldsLock (Some (Taking terms)) = ⊥
HoldsLock (Some (Working work)) = Unit {0}

-- No call is in flight, and no turn of the updater but, maybe, one of another party than this, which has stopped
-- under the updater lock. A quiet index is still for each party.
pub record IsStill (party : ℕ) (s : Index) : Type 0 where
  pub calls : HasNoCalls s
  pub turns : (i : ℕ) (state : PartyState) → get_elem? s.states i ≡ some state →
      (state.turn ≡ None) ⊎ ((i ≢ party) × HoldsLock state.turn)
  pub rechecks : HasNoRechecks s

-- How many more times its nodes can be locked in this run of the index: the fewest of any node. Each try of a call
-- takes one of each node at most.
abbrev pub locks_left : Index → ℕ
locks_left s = locks_in (world s)

-- The listed node to which a name belongs.
abbrev pub node_for : Index → List ℕ → ℕ
node_for s name = target_node (world s) name

-- The names of the map that belong to the same node as this one.
abbrev pub names_beside : Index → List ℕ → List (List ℕ)
names_beside s name = filter (λ other. node_for s other == node_for s name) (keys (map_of_index s))

-- No lock can be taken any more of the node to which its name belongs.
abbrev pub FindsWornNode : CoreCall → Index → Type 0
FindsWornNode c s = FindsWorn (world s) (op_of c)

-- A turn of the updater with stamp 1 and release 1 leaves the node FREE, if it can be locked: it is FREE, or it is GONE
-- and has no stamp above 1.
abbrev pub ComesFree : Index → ℕ → Type 0
ComesFree s n = ((facts (world s)).status n ≡ free_status) ⊎
    (((facts (world s)).status n ≡ gone_status) × (stamp_in (world s) n ≤ 1))

-- None of these nodes can be locked any more.
abbrev pub LacksNode : Index → Type 0
LacksNode s = (n : ℕ) → n < s.layout.nodes → ComesFree s n → IsWorn (version_in s.layout s.words n) s.generation

-- The map lacks the name, and beside it belong as many names to its node as that has slots.
abbrev pub FindsFullNode : List ℕ → Index → Type 0
FindsFullNode name s = (at (map_of_index s) name ≡ None) × (length (names_beside s name) ≡ s.layout.slots)

-- The call may be tried more than once: it is a put that finds its node full, or a delete that tries to merge and whose
-- caller has no EMPTY log line.
abbrev pub IsMadeAgain : ℕ → CoreCall → Index → Type 0
IsMadeAgain caller (call.Put name value limit) s = FindsFullNode name s
IsMadeAgain caller (call.Del name limit) s = TriesMerge (world s) name × LacksLine s.layout s.words caller
IsMadeAgain caller _ s = ⊥

-- How often a call is tried at most. A put may be turned back for want of a log line, and of a node, each time with a
-- turn of the updater behind it, and may split its node then; a delete may be turned back for want of a log line.
abbrev pub most_tries : CoreCall → ℕ
most_tries (call.Put name value limit) = 4
most_tries (call.Del name limit) = 2
most_tries _ = 1

-- The call has a limit, and the history is as long.
abbrev pub IsOver : CoreCall → Index → Type 0
IsOver c s = IsSomeAnd (limit_of c) (λ limit. limit ≤ length s.history)

-- It is a put that finds its node full, and no node that is FREE, or that a turn makes FREE, can be locked.
abbrev pub FindsNoRoom : CoreCall → Index → Type 0
FindsNoRoom (call.Put name value limit) s = FindsFullNode name s × LacksNode s
FindsNoRoom _ s = ⊥

-- The same nodes are listed.
abbrev pub HasSameList : Index → Index → Type 0
HasSameList s new = (facts (world new)).list ≡ (facts (world s)).list

-- It is a put that splits the node of its name, and leaves the shape that such a put leaves.
abbrev pub SplitsFor : CoreCall → Index → Index → Type 0
SplitsFor (call.Put name value limit) s new =
    (splits s.layout.slots (map_of_index s) (anchors_in (world s)) name ≡ true) ×
    (anchors_in (world new) ≡ put_anchors s.layout.slots (map_of_index s) (anchors_in (world s)) name)
SplitsFor _ s new = ⊥

-- It is no put that would split the node of its name.
abbrev pub SplitsNothing : CoreCall → Index → Type 0
SplitsNothing (call.Put name value limit) s =
    splits s.layout.slots (map_of_index s) (anchors_in (world s)) name ≡ false
SplitsNothing _ s = Unit {0}

-- It is a delete that merges the node of its name with the next one, which can be locked, and leaves the shape that
-- such a delete leaves.
abbrev pub MergesFor : CoreCall → Index → Index → Type 0
MergesFor (call.Del name limit) s new =
    ((merges s.layout.slots (map_of_index s) (anchors_in (world s)) name ≡ true) × ¬ NextIsWorn (world s) name) ×
    (anchors_in (world new) ≡ del_anchors s.layout.slots (map_of_index s) (anchors_in (world s)) name)
MergesFor _ s new = ⊥

-- It is no delete that would merge the node of its name with the next one, or that one can't be locked any more.
abbrev pub MergesNothing : CoreCall → Index → Type 0
MergesNothing (call.Del name limit) s =
    (merges s.layout.slots (map_of_index s) (anchors_in (world s)) name ≡ false) ⊎ NextIsWorn (world s) name
MergesNothing _ s = Unit {0}

-- Each node's stamp is as it was, or is 1 at most.
abbrev pub KeepsStamps : Index → Index → Type 0
KeepsStamps s new = (n : ℕ) → n < s.layout.nodes →
    (stamp_in (world new) n ≡ stamp_in (world s) n) ⊎ (stamp_in (world new) n ≤ 1)

-- The node is that of the name, with this version word, from which no lock can be taken any more. So it was before the
-- call; or the call was made again, and its own tries, of which it makes fewer than so many before the last one, took
-- the last locks of some node.
abbrev pub IsWornNode : ℕ → Index → ℕ → CoreCall → Index → ℕ → ℕ → Type 0
IsWornNode tries s caller c new node word =
    (FindsWornNode c s × (node ≡ node_for s (name_asked (op_of c))) × (word ≡ version_in s.layout s.words node) ×
    HasSameList s new)
    ⊎ (IsMadeAgain caller c s × (locks_left s < tries) × (HasSameList s new ⊎ SplitsFor c s new) ×
    (node ≡ node_for new (name_asked (op_of c))) × IsWorn word s.generation)

-- A part of a scan of this node sorts none of its names and changes no word, where the node's permutation was made at
-- its version word; and else it sorts them all.
pub record SortsIfStale (s new : Index) (node names : ℕ) (words : PartWords) : Type 0 where
  pub served : made_at s.layout s.words node ≡ version_in s.layout s.words node →
      (words.compared ≡ 0) × (new.words ≡ s.words)
  pub sorted : (made_at s.layout s.words node ≡ version_in s.layout s.words node → ⊥) → words.compared ≡ names

-- A part of a scan from this low name on lists the names of the map that belong to the low one's node, up to the next
-- node's anchor.
pub record IsWholePart (s : Index) (low : List ℕ) (count : ℕ) (new : Index) (words : PartWords) : Type 0 where
  pub node : words.node ≡ node_for s low
  pub version : version_in new.layout new.words words.node ≡ words.version
  pub place : words.place ≡ length s.history
  pub hops : WalksBy s.layout s.words low words.hops
  pub old : words.old ≡ at (map_of_index s) low
  pub high : words.high ≡ next_of (anchors_in (world s)) low
  pub lists : ListsRange (map_of_index s) low count words
  pub compared : SortsIfStale s new words.node (length (names_at (map_of_index s) (anchors_in (world s)) low)) words

-- The call needs no turn of the updater: it is a get or a part of a scan, or its caller has a log line that is EMPTY
-- and, for a put, some node is FREE that can be locked.
abbrev pub NeedsNoTurn : ℕ → CoreCall → Index → Type 0
NeedsNoTurn caller (call.Put name value limit) s =
    HasLine s.layout s.words caller × HasFree s.layout s.generation s.words
NeedsNoTurn caller (call.Del name limit) s = HasLine s.layout s.words caller
NeedsNoTurn caller _ s = Unit {0}

-- The party once a try of its call is answered.
abbrev pub state_tried : PartyState → ℕ → Once Placed → PartyState
state_tried state since answer =
    record state { index = index_after state.index answer; since = since; machine = None }

-- What one try of a call answers and leaves.
pub record TriesAlone (old : Index) (caller : ℕ) (c : CoreCall) (new : Index) (answer : Once Placed) : Type 0 where
  pub state : PartyState
  pub there : get_elem? old.states caller ≡ some state
  pub named : IsName (name_asked (op_of c))
  pub answered : IsAnswered (world old) (op_of c) (limit_of c) (world new) (party_of state) answer
  pub states : new.states ≡ slice_set old.states caller (state_tried state (length old.history) answer)
  pub reads : IsGetCall c → KeepsWords old new
  pub layout : new.layout ≡ old.layout
  pub generation : new.generation ≡ old.generation
  pub base : new.base ≡ old.base
  pub stamps : stamp_in (world new) ≡ stamp_in (world old)
  pub layer : KeepsLayer (world old) (world new)
  pub lines : LeavesLines (name_asked (op_of c)) state.caller (world old) (world new) answer
  pub ways : LengthenWithin (world old) (world new)
  pub weighs : weight_of new ≤ weight_of old + added_by (op_of c) answer

-- From the node to which the search layer leads a name, the way to the name's node is no longer than log lines are
-- READY. So it is of an index that was recovered, or behind a turn of the updater that was made alone, and stays so
-- behind lone calls, where a word becomes durable, and where another round begins.
abbrev pub HasShortWays : Index → Type 0
HasShortWays s = WaysAreShort (world s)

-- The last try of a call that took place began as the index was `last`: that was s, or the call was made again, and
-- had written nothing before. So many hops its walk made there.
pub record LandsIn (s : Index) (caller : ℕ) (c : CoreCall) (new : Index) (placed : Placed) : Type 0 where
  pub last : Index
  pub began : (last ≡ s) ⊎ IsMadeAgain caller c s
  pub index : IsIndex last
  pub quiet : IsQuiet s → IsQuiet last
  pub still : IsStill caller last
  pub layout : last.layout ≡ s.layout
  pub generation : last.generation ≡ s.generation
  pub base : last.base ≡ s.base
  pub history : last.history ≡ s.history
  -- where the call made no turn of the updater, the search layer leads each key where it led
  pub layer : NeedsNoTurn caller c s → KeepsLayer (world s) (world last)
  pub short : HasShortWays s → HasShortWays last
  pub tries : TriesAlone last caller c new (once.Done placed)
  pub hops : WalksBy last.layout last.words (name_asked (op_of c)) placed.hops

-- The answer by its cause, of a call on a name that is tried so many times at most: of these five, exactly one holds
-- where as many locks are left of each node. None is answered as a recheck or a turn of the updater is.
abbrev pub IsWholeAnswer : ℕ → Index → ℕ → CoreCall → Index → Whole → Type 0
IsWholeAnswer tries s caller c new (whole.Same place) = ⊥
IsWholeAnswer tries s caller c new (whole.Turned turned) = ⊥
IsWholeAnswer tries s caller c new (whole.Worn node word) = IsWornNode tries s caller c new node word
IsWholeAnswer tries s caller c new (whole.Spent clock) =
    ¬ FindsWornNode c s × IsOver c s × (clock ≡ length s.history)
IsWholeAnswer tries s caller c new whole.Full = ¬ FindsWornNode c s × ¬ IsOver c s × FindsNoRoom c s
IsWholeAnswer tries s caller c new (whole.Part words) =
    ¬ FindsWornNode c s × IsSomeAnd (count_of c) (λ count. IsWholePart s (name_asked (op_of c)) count new words)
IsWholeAnswer tries s caller c new (whole.Placed placed) =
    (count_of c ≡ None) × (¬ FindsWornNode c s × ¬ IsOver c s × ¬ FindsNoRoom c s)
    × (placed.old ≡ at (map_of_index s) (name_asked (op_of c))) × (placed.place ≡ length s.history) ×
    LandsIn s caller c new placed

-- A walk makes no more hops than log lines are READY: as the call ends for a put or a delete, and as it begins for
-- others.
abbrev pub HopsAreFew : CoreCall → Index → Index → ℕ → Type 0
HopsAreFew (call.Put name value limit) s new hops = hops ≤ ready_lines (world new)
HopsAreFew (call.Del name limit) s new hops = hops ≤ ready_lines (world new)
HopsAreFew _ s new hops = hops ≤ ready_lines (world s)

-- So does that of a call which took place.
abbrev pub WalksShort : CoreCall → Index → Index → Whole → Type 0
WalksShort c s new (whole.Placed placed) = HopsAreFew c s new placed.hops
WalksShort c s new (whole.Part words) = HopsAreFew c s new words.hops
WalksShort c s new _ = Unit {0}

-- A call that took place split the node of its name, or merged it with the next one, exactly where the shape says so;
-- one that was refused or found no room did neither. Of a worn node its cause says it.
abbrev pub LeavesList : CoreCall → Whole → Index → Index → Type 0
LeavesList c (whole.Placed placed) s new =
    (HasSameList s new × SplitsNothing c s × MergesNothing c s) ⊎ (SplitsFor c s new ⊎ MergesFor c s new)
LeavesList c (whole.Part words) s new = HasSameList s new
LeavesList c (whole.Spent clock) s new = HasSameList s new
LeavesList c whole.Full s new = HasSameList s new
LeavesList c (whole.Worn node word) s new = Unit {0}
LeavesList c (whole.Same place) s new = ⊥
LeavesList c (whole.Turned turned) s new = ⊥

-- How many nodes are listed or GONE. With nothing in flight the others are FREE.
abbrev pub taken_nodes : Index → ℕ
taken_nodes s = length (anchors_in (world s)) + gone_nodes s.layout.nodes (facts (world s))

-- The search layer leads each key where it led. The same nodes are listed, and each log line has the state that it had;
-- or the call splits or merges by the shape, and one line of its caller, which was EMPTY, is READY, and each other line
-- has the state that it had.
pub record LeavesLog (caller : ℕ) (c : CoreCall) (s new : Index) : Type 0 where
  pub layer : KeepsLayer (world s) (world new)
  pub lines : (HasSameList s new × KeepsLines (world s) (world new)) ⊎
      ((SplitsFor c s new ⊎ MergesFor c s new) × MakesReady caller (world s) (world new))
  -- as many nodes are listed or GONE, or one more where it splits
  pub taken : (taken_nodes new ≡ taken_nodes s) ⊎ (SplitsFor c s new × (taken_nodes new ≡ taken_nodes s + 1))

-- How many more times one node can be locked.
abbrev pub node_locks : Index → ℕ → ℕ
node_locks s n = locks_of s.generation (version_in s.layout s.words n)

-- Each node has lost so many locks at most.
abbrev pub LoseAtMost : ℕ → Index → Index → Type 0
LoseAtMost most s new = (n : ℕ) → node_locks s n ≤ node_locks new n + most

-- Of each node one lock is taken at most, or as many as there are tries where the call was made again.
abbrev pub TakesEachLock : ℕ → CoreCall → Index → Index → Type 0
TakesEachLock caller c s new = LoseAtMost 1 s new ⊎ (IsMadeAgain caller c s × LoseAtMost (most_tries c) s new)

-- So do the fewest fall that are left of any node.
abbrev pub TakesLocks : ℕ → CoreCall → Index → Index → Type 0
TakesLocks caller c s new = (locks_left s ≤ locks_left new + 1) ⊎
    (IsMadeAgain caller c s × (locks_left s ≤ locks_left new + most_tries c))

-- Each word is as it was, and each node can be locked as often.
pub record OnlyReads (s new : Index) : Type 0 where
  pub words : KeepsWords s new
  pub locks : (n : ℕ) → node_locks new n ≡ node_locks s n

-- The write that it placed, if it is one and took place.
abbrev pub alone_writes : ℕ → ℕ → CoreCall → Whole → List Write
alone_writes caller index c (whole.Placed placed) = written caller index (change_of (op_of c))
alone_writes caller index c _ = []

abbrev pub whole_of : Once Placed → Whole
whole_of (once.Done placed) = whole.Placed placed
whole_of (once.Spent clock) = whole.Spent clock
whole_of (once.Worn node word) = whole.Worn node word
whole_of (once.Again why) = whole.Full

abbrev pub part_whole : Once PartWords → Whole
part_whole (once.Done words) = whole.Part words
part_whole (once.Spent clock) = whole.Spent clock
part_whole (once.Worn node word) = whole.Worn node word
part_whole (once.Again why) = whole.Full

-- The party's call is a part of a scan that gives its node back next, and has listed these words.
pub record HasListed (s : Index) (party : ℕ) (words : PartWords) : Type 0 where
  pub state : PartyState
  pub machine : Running
  pub there : get_elem? s.states party ≡ some state
  pub flies : state.machine ≡ Some machine
  pub listed : listed_in machine ≡ Some words

abbrev pub HasListing : Index → ℕ → Type 0
HasListing s party = (words : PartWords) × HasListed s party words

-- The call is to be made again, since its node was full.
abbrev pub needs_split : Once Placed → Bool
needs_split (once.Again (again.NeedsSplit node)) = true
needs_split _ = false

-- The call was turned back, since none of its caller's log lines is EMPTY; or since there is no node to split its own
-- with.
abbrev pub lacks_line : Once Placed → Bool
lacks_line (once.Again again.LogFull) = true
lacks_line _ = false

abbrev pub lacks_node : Once Placed → Bool
lacks_node (once.Again again.NoFree) = true
lacks_node _ = false

-- The party once its whole call is answered. It counts whatever it is answered.
abbrev pub state_done : PartyState → ℕ → PartyState
state_done state since = record state { index = next_index state.index; since = since; machine = None }

-- One call more of the party is counted, and nothing else changes.
pub record CountsCall (old : Index) (party : ℕ) (new : Index) : Type 0 where
  pub state : PartyState
  pub there : get_elem? old.states party ≡ some state
  pub is : new ≡ record old { states = slice_set old.states party (state_counted state) }

-- A turn of the updater with stamp 1 and release 1, and one try of the call behind it.
pub record TriesBehindTurn (old : Index) (caller : ℕ) (c : CoreCall) (new : Index) (answer : Once Placed) : Type 0 where
  pub between : Index
  pub turned : Turned
  pub turn : TurnsAlone old 1 1 turned between
  pub quiet : IsQuiet between
  pub index : IsIndex between
  pub tries : TriesAlone between caller c new answer
  pub each_lock : LoseAtMost 1 between new
  pub locks : locks_left between ≤ locks_left new + 1

-- What a whole call answers and leaves.
pub record RunsAlone (old : Index) (caller : ℕ) (c : CoreCall) (new : Index) (result : Whole) : Type 0 where
  pub state : PartyState
  pub there : get_elem? old.states caller ≡ some state
  pub named : IsName (name_asked (op_of c))
  pub answer : IsWholeAnswer (most_tries c) old caller c new result
  pub history : new.history ≡ old.history ++ alone_writes caller state.index c result
  pub states : new.states ≡ slice_set old.states caller (state_done state (length old.history))
  pub reads : IsGetCall c → OnlyReads old new
  pub layout : new.layout ≡ old.layout
  pub generation : new.generation ≡ old.generation
  pub base : new.base ≡ old.base
  pub list : LeavesList c result old new
  pub stamps : KeepsStamps old new
  pub log : NeedsNoTurn caller c old → LeavesLog caller c old new
  pub short : HasShortWays old → HasShortWays new × WalksShort c old new result
  -- it weighs one more at most, and that only where it adds a name
  pub weighs : weight_of new ≤ weight_of old + added_whole (op_of c) result
