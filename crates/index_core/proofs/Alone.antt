-- A whole call, with no other in flight: one try, or one that split and another.
use Rattle.std.proofs.Common.{◌≡◌, ℕ, ◌+◌, ◌<◌, ◌≤◌, ◌⊎◌, inl, inr, ⊎_elim, List, ◌++◌, length, set, slice_set, refl}
use Rattle.std.proofs.Common.{sym, ap, ◌∙◌, subst, arith}
use Rattle.std.specs.Prelude.{Option, Some, None, IsSome, IsSomeAnd, IsTrue, true, false}
use Rattle.std.proofs.lemmas.Bool.{leb-true, le-leb, cases_lt}
use Rattle.std.proofs.lemmas.List.{append-nil}
use mathlib.Core.Option.{some, some-injective}
use lib.ListN.{get_elem?}
use Rattle.pm_words.specs.Codes.{free_status}
use Rattle.pm_words.specs.declared.again.Again.{Again}
use Rattle.pm_words.specs.declared.again.Again.TheVariants as again
use Rattle.cat_key.specs.Names.{IsName}
use Rattle.version_lock.specs.Versions.{IsWorn, is_worn_word}
use Rattle.version_lock.proofs.WordTests.{worn_word, fresh_word}
use Rattle.cat_history.specs.Maps.{Map, at, map_of}
use Rattle.cat_history.specs.Writes.{after_all}
use Rattle.cat_history.specs.declared.op.NameOp.TheVariants as op
use Rattle.data_node.specs.Lists.{ListNode, target_from, key_of}
use Rattle.data_node.proofs.RangeNames.{range_names}
use Rattle.data_node.proofs.ListLemmas.{target_in}
use Rattle.call_stages.specs.declared.once.Once.{Once}
use Rattle.call_stages.specs.declared.once.Once.TheVariants as once
use Rattle.call_stages.specs.declared.once.Placed.{Placed}
use Rattle.node_ops.specs.Asked.{name_asked}
use Rattle.node_ops.specs.declared.part.PartWords.{PartWords}
use Rattle.node_ops.specs.LookupSteps.{is_spent}
use Rattle.node_ops.specs.Parts.{HasCompared}
use Rattle.node_ops.specs.Permuting.{PermutationRead}
use Rattle.node_ops.specs.PartSteps.{IsEarly, early_of, words_placed}
use Rattle.index_law.specs.Facts.{range_of, version_in}
use Rattle.index_law.specs.Worlds.{World, facts}
use Rattle.index_law.specs.Laws.{IsAtRest}
use Rattle.index_law.specs.Anchors.{anchors_of, anchors_in, members_most}
use Rattle.shapes.specs.Anchors.{merges}
use Rattle.index_law.proofs.Parties.{set_here}
use Rattle.index_law.proofs.Starts.{listed_within}
use Rattle.lone_hops_law.specs.lone_call_law.specs.LoneCalls.{FindsFull, NeedsLine, FindsWorn, IsLate, IsAnswered}
use Rattle.lone_hops_law.specs.lone_call_law.specs.Splitting.{HasFree, LacksFree, LacksLine}
use Rattle.lone_hops_law.specs.lone_call_law.specs.Tries.{IsHalvedSince}
use Rattle.lone_hops_law.specs.lone_call_law.specs.Locks.{locks_of}
use Rattle.lone_hops_law.specs.lone_call_law.specs.Rooms.{target_node, target_names}
use Rattle.lone_hops_law.specs.lone_call_law.specs.Merging.{FindsMerge, HasKeptList, IsMergedSince, LeavesShape}
use Rattle.lone_hops_law.specs.lone_call_law.specs.Merging.{NextIsWorn, next_node}
use Rattle.lone_hops_law.specs.lone_call_law.proofs.Locks.{worn_has_none}
use Rattle.lone_hops_law.specs.lone_call_law.proofs.Rooms.{names_most, cut_has_room}
use Rattle.lone_hops_law.specs.lone_call_law.proofs.Shapes.{room_is_no_split, cut_is_split}
use Rattle.index_core.specs.declared.party.PartyState.{PartyState}
use Rattle.index_core.specs.declared.party.CoreCall.{CoreCall}
use Rattle.index_core.specs.declared.party.CoreCall.TheVariants as call
use Rattle.index_core.specs.declared.party.Whole.{Whole}
use Rattle.index_core.specs.declared.party.Whole.TheVariants as whole
use Rattle.index_core.specs.CoreCalls.{IsGetCall, op_of, limit_of, count_of}
use Rattle.index_core.specs.PartyStates.{party_of, state_counted}
use Rattle.index_core.specs.Indexes.{Index, KeepsWords, world, map_of_index, IsIndex}
use Rattle.index_core.specs.Lone.{HasNoCalls, IsQuiet, IsStill, SortsIfStale, FindsNoRoom, HasSameList, SplitsFor}
use Rattle.index_core.specs.Lone.{SplitsNothing, MergesFor, MergesNothing, LeavesList, TakesLocks, LoseAtMost}
use Rattle.index_core.specs.Lone.{TakesEachLock, names_beside, locks_left, IsWholeAnswer, TriesAlone, RunsAlone}
use Rattle.index_core.specs.Lone.{CountsCall, ComesFree, KeepsStamps, IsMadeAgain, NeedsNoTurn, LandsIn, HasShortWays}
use Rattle.index_core.specs.Lone.{OnlyReads}
use Rattle.index_core.specs.Lone.{HopsAreFew, WalksShort, LeavesLog, most_tries, alone_writes, lacks_line, lacks_node}
use Rattle.index_core.specs.Lone.{needs_split, node_for, part_whole, taken_nodes, whole_of, state_tried, state_done}
use Rattle.index_core.specs.Weights.{weight_of, added_by, added_if, added_whole}
use Rattle.index_core.specs.Listings.{IsPartAt}
use Rattle.lone_hops_law.specs.lone_call_law.specs.There.{WalksBy}
use Rattle.lone_hops_law.specs.lone_updater_law.specs.CallLogs.{KeepsLines, MakesReady, LeavesLines, ready_lines}
use Rattle.lone_hops_law.specs.lone_updater_law.proofs.ReadyCounts.{ready_are_counted}
use Rattle.lone_hops_law.proofs.Short.{short_stays, short_walks}
use Rattle.index_core.proofs.WornNodes.{worn_target}
use Rattle.index_core.proofs.Lists.{set_twice}
use Rattle.index_core.proofs.SplitAnswers.{split_is_ready, split_told}
use Rattle.index_core.proofs.Taken.{taken_kept, taken_merged, taken_split}
use Rattle.index_core.proofs.Tries.{ready_with_parties}
use Rattle.index_core.proofs.PartsAlone.{whole_part}
use Rattle.index_core.proofs.Quiet.{quiet_then, quiet_was, rests, still_then, walks_come}

-- to the node of a name belong as many names of the map as the node has
pub target_has : (s : Index) → IsAtRest (world s) → (name : List ℕ) → target_names (world s) name ≡ length (names_beside s name)
target_has s rest name =
    let w = world s in
    range_names s.layout.slots (range_of s.layout (facts w) (target_node w name)) ((facts w).now (target_node w name)) (map_of_index s)
    (rest.settled (target_node w name) (target_in 0 (facts w).list (key_of name))).means rest.named

-- a put that finds its node full is made again
pub full_again_if : (s : Index) (i : ℕ) (c : CoreCall) → IsAtRest (world s) → FindsFull (world s) (op_of c) → IsMadeAgain i c s
full_again_if s i (call.Put name value limit) rest full = (full.0, sym (target_has s rest name) ∙ full.1)
full_again_if s i c rest full = absurd full

-- As a turn leaves it: no log line of a caller is in use, and what a turn makes FREE is FREE.
pub record IsSwept (s : Index) : Type 0 where
  pub lines : (caller : ℕ) → caller < s.layout.callers → LacksLine s.layout s.words caller → ⊥
  pub freed : (n : ℕ) → n < s.layout.nodes → ComesFree s n → ((facts (world s)).status n ≡ free_status) ⊎ IsWorn (version_in s.layout s.words n) s.generation

no_room_is : (s : Index) (c : CoreCall) → IsAtRest (world s) → IsSwept s → FindsFull (world s) (op_of c) → LacksFree s.layout s.generation s.words → FindsNoRoom c s
no_room_is s (call.Put name value limit) rest swept full lacks = (
  (full.0, sym (target_has s rest name) ∙ full.1),
  (λ n here comes. ⊎_elim
      (λ (free : (facts (world s)).status n ≡ free_status). lacks n here free)
      (λ (worn : IsWorn (version_in s.layout s.words n) s.generation). worn)
      (swept.freed n here comes)),
)
no_room_is s c rest swept full lacks = absurd full

no_room_was : (s : Index) (c : CoreCall) → IsAtRest (world s) → FindsNoRoom c s → FindsFull (world s) (op_of c)
no_room_was s (call.Put name value limit) rest none = (none.0.0, target_has s rest name ∙ none.0.1)
no_room_was s c rest none = absurd none

-- a call is late where its limit is reached
late_is : (o : Option ℕ) (n : ℕ) → IsTrue (is_spent o n) → IsSomeAnd o (λ limit. limit ≤ n)
late_is None n late = absurd (cc)
late_is (Some limit) n late = leb-true limit n late

pub late_was : (o : Option ℕ) (n : ℕ) → IsSomeAnd o (λ limit. limit ≤ n) → IsTrue (is_spent o n)
late_was None n over = absurd over
late_was (Some limit) n over = le-leb limit n over

-- to count a call of a quiet index is no call in flight
pub count_quiet : (s : Index) (i : ℕ) (new : Index) → IsQuiet s → CountsCall s i new → IsQuiet new
count_quiet s i new quiet t = quiet_then s new i t.state (state_counted t.state) t.there (ap (λ (v : Index). v.states) t.is) (quiet.calls i t.state t.there) refl refl quiet

-- nor is one try
pub tried_quiet : (s new : Index) (i : ℕ) (c : CoreCall) (answer : Once Placed) → TriesAlone s i c new answer → IsQuiet s → IsQuiet new
tried_quiet s new i c answer t = quiet_then s new i t.state (state_tried t.state (length s.history) answer) t.there t.states refl refl refl

pub tried_was : (s new : Index) (i : ℕ) (c : CoreCall) (answer : Once Placed) → TriesAlone s i c new answer → HasNoCalls s → IsQuiet new → IsQuiet s
tried_was s new i c answer t = quiet_was s new i t.state (state_tried t.state (length s.history) answer) t.there t.states refl refl refl

pub tried_still : (s new : Index) (i : ℕ) (c : CoreCall) (answer : Once Placed) → TriesAlone s i c new answer → (party : ℕ) → IsStill party s → IsStill party new
tried_still s new i c answer t = still_then s new i t.state (state_tried t.state (length s.history) answer) t.there t.states refl refl refl

-- nor is a whole call
pub ran_quiet : (s new : Index) (i : ℕ) (c : CoreCall) (r : Whole) → RunsAlone s i c new r → IsQuiet s → IsQuiet new
ran_quiet s new i c r t = quiet_then s new i t.state (state_done t.state (length s.history)) t.there t.states refl refl refl

pub ran_still : (s new : Index) (i : ℕ) (c : CoreCall) (r : Whole) → RunsAlone s i c new r → (party : ℕ) → IsStill party s → IsStill party new
ran_still s new i c r t = still_then s new i t.state (state_done t.state (length s.history)) t.there t.states refl refl refl

-- What so many tries of a whole call answer and leave, before it is counted where it was turned back.
pub record Ran (s0 s : Index) (i : ℕ) (c : CoreCall) (answer : Once Placed) (tries : ℕ) : Type 0 where
  pub state : PartyState
  pub there : get_elem? s0.states i ≡ some state
  pub named : IsName (name_asked (op_of c))
  pub cause : IsWholeAnswer tries s0 i c s (whole_of answer)
  pub history : s.history ≡ s0.history ++ alone_writes i state.index c (whole_of answer)
  pub states : s.states ≡ slice_set s0.states i (state_tried state (length s0.history) answer)
  pub reads : IsGetCall c → KeepsWords s0 s
  pub layout : s.layout ≡ s0.layout
  pub generation : s.generation ≡ s0.generation
  pub base : s.base ≡ s0.base
  pub list : LeavesList c (whole_of answer) s0 s
  pub stamps : KeepsStamps s0 s
  pub log : NeedsNoTurn i c s0 → LeavesLog i c s0 s
  pub again : (tries ≤ 1) ⊎ IsMadeAgain i c s0
  pub each_lock : LoseAtMost tries s0 s
  pub locks : locks_left s0 ≤ locks_left s + tries
  pub short : HasShortWays s0 → HasShortWays s
  pub weighs : weight_of s ≤ weight_of s0 + added_whole (op_of c) (whole_of answer)

-- a walk there makes no more hops than lines are READY
pub walk_is_short : (s : Index) → IsIndex s → HasNoCalls s → (name : List ℕ) (hops : ℕ) → HasShortWays s → WalksBy s.layout s.words name hops → hops ≤ ready_lines (world s)
walk_is_short s is none name hops short walks =
    let can = walks_come s is none in
    short_walks (world s) (key_of name) walks.start hops can.quiet can.order short walks.begins walks.comes

-- a call that took place leaves no fewer lines READY
pub ready_rises : (w0 w : World) (name : List ℕ) (caller : ℕ) (placed : Placed) → w.layout ≡ w0.layout → LeavesLines name caller w0 w (once.Done placed) → ready_lines w0 ≤ ready_lines w
ready_rises w0 w name caller placed layout = ⊎_elim
    (λ (kept : HasKeptList w0 w × KeepsLines w0 w). let same = (ready_are_counted caller w0 w layout).0 kept.1 in omega arith)
    (λ (made : IsMergedSince name w0 w × MakesReady caller w0 w). let one = (ready_are_counted caller w0 w layout).1 made.1 in omega arith)

lands_short : (s0 s : Index) (i : ℕ) (c : CoreCall) (placed : Placed) → LandsIn s0 i c s placed → HasShortWays s0 → HopsAreFew c s0 s placed.hops
lands_short s0 s i c placed lands short = of c lands.began
  where
    few : placed.hops ≤ ready_lines (world lands.last)
    few = walk_is_short lands.last lands.index lands.still.calls (name_asked (op_of c)) placed.hops (lands.short short) lands.hops

    more : ready_lines (world lands.last) ≤ ready_lines (world s)
    more = ready_rises (world lands.last) (world s) (name_asked (op_of c)) lands.tries.state.caller placed lands.tries.layout lands.tries.lines

    first : (last : Index) → last ≡ s0 → placed.hops ≤ ready_lines (world last) → placed.hops ≤ ready_lines (world s0)
    first last same = subst (λ (v : Index). placed.hops ≤ ready_lines (world v)) same

    of : (d : CoreCall) → (lands.last ≡ s0) ⊎ IsMadeAgain i d s0 → HopsAreFew d s0 s placed.hops
    of (call.Put name value limit) began = let a = few in let b = more in omega arith
    of (call.Del name limit) began = let a = few in let b = more in omega arith
    of (call.Get name) began = ⊎_elim (λ (same : lands.last ≡ s0). first lands.last same few) (λ (again : ⊥). absurd again) began
    of (call.Part low count) began = ⊎_elim (λ (same : lands.last ≡ s0). first lands.last same few) (λ (again : ⊥). absurd again) began
    of (call.Recheck node version) began = ⊎_elim (λ (same : lands.last ≡ s0). first lands.last same few) (λ (again : ⊥). absurd again) began
    of (call.Turn stamp release) began = ⊎_elim (λ (same : lands.last ≡ s0). first lands.last same few) (λ (again : ⊥). absurd again) began

few_then : (s0 s : Index) (states : List PartyState) (c : CoreCall) (hops : ℕ) → HopsAreFew c s0 s hops → HopsAreFew c s0 (record s { states = states }) hops
few_then s0 s states (call.Put name value limit) hops few = few
few_then s0 s states (call.Del name limit) hops few = few
few_then s0 s states (call.Get name) hops few = few
few_then s0 s states (call.Part low count) hops few = few
few_then s0 s states (call.Recheck node version) hops few = few
few_then s0 s states (call.Turn stamp release) hops few = few

-- where no word changes, no node is locked
only_reads : (s0 s : Index) → s.layout ≡ s0.layout → s.generation ≡ s0.generation → KeepsWords s0 s → OnlyReads s0 s
only_reads s0 s layout generation words =
    record { words = words; locks = λ n k. locks_of (generation k) (version_in (layout k) (words k) n) }

-- nor is a get made again
pub gets_once : (i : ℕ) (s : Index) (c : CoreCall) → IsGetCall c → IsMadeAgain i c s → ⊥
gets_once i s (call.Get name) get again = again
gets_once i s (call.Put name value limit) get again = get
gets_once i s (call.Del name limit) get again = get
gets_once i s (call.Part low count) get again = get
gets_once i s (call.Recheck node version) get again = get
gets_once i s (call.Turn stamp release) get again = get

-- where its party is as a whole call leaves it
counted_runs : (s0 s : Index) (i : ℕ) (c : CoreCall) (answer : Once Placed) (tries : ℕ) (ran : Ran s0 s i c answer tries) → tries ≤ most_tries c → (states : List PartyState) → states ≡ slice_set s0.states i (state_done ran.state (length s0.history))
    → ((placed : Placed) → answer ≡ once.Done placed → states ≡ s.states) → RunsAlone s0 i c (record s { states = states }) (whole_of answer)
counted_runs s0 s i c answer tries ran few states are kept = record {
  state = ran.state;
  there = ran.there;
  named = ran.named;
  answer = same_cause answer refl ran.cause;
  history = ran.history;
  states = are;
  reads = λ get. only_reads s0 (record s { states = states }) ran.layout ran.generation (ran.reads get);
  layout = ran.layout;
  generation = ran.generation;
  base = ran.base;
  list = same_list answer ran.list;
  stamps = ran.stamps;
  log = λ none. let left = ran.log none in record { layer = left.layer; lines = same_lines left.lines; taken = same_taken left.taken };
  short = λ short. (ran.short short, few_hops answer ran.cause short);
  weighs = ran.weighs;
}
  where
    few_hops : (r : Once Placed) → IsWholeAnswer tries s0 i c s (whole_of r) → HasShortWays s0 → WalksShort c s0 (record s { states = states }) (whole_of r)
    few_hops (once.Worn node word) cause short = tt
    few_hops (once.Spent clock) cause short = tt
    few_hops (once.Again why) cause short = tt
    few_hops (once.Done placed) cause short = few_then s0 s states c placed.hops (lands_short s0 s i c placed cause.4 short)

    same_split : (c : CoreCall) → SplitsFor c s0 s → SplitsFor c s0 (record s { states = states })
    same_split (call.Put name value limit) cut = cut
    same_split c cut = absurd cut

    same_merge : (c : CoreCall) → MergesFor c s0 s → MergesFor c s0 (record s { states = states })
    same_merge (call.Del name limit) merge = merge
    same_merge c merge = absurd merge

    same_taken : (taken_nodes s ≡ taken_nodes s0) ⊎ (SplitsFor c s0 s × (taken_nodes s ≡ taken_nodes s0 + 1)) →
        (taken_nodes (record s { states = states }) ≡ taken_nodes s0) ⊎ (SplitsFor c s0 (record s { states = states }) × (taken_nodes (record s { states = states }) ≡ taken_nodes s0 + 1))
    same_taken (inl kept) = inl kept
    same_taken (inr cut) = inr (same_split c cut.0, cut.1)

    same_lines : (HasSameList s0 s × KeepsLines (world s0) (world s)) ⊎ ((SplitsFor c s0 s ⊎ MergesFor c s0 s) × MakesReady i (world s0) (world s))
        → (HasSameList s0 (record s { states = states }) × KeepsLines (world s0) (world (record s { states = states }))) ⊎ ((SplitsFor c s0 (record s { states = states }) ⊎ MergesFor c s0 (record s { states = states })) × MakesReady i (world s0) (world (record s { states = states })))
    same_lines = ⊎_elim
        (λ (kept : HasSameList s0 s × KeepsLines (world s0) (world s)). inl kept)
        (λ (made : (SplitsFor c s0 s ⊎ MergesFor c s0 s) × MakesReady i (world s0) (world s)).
        inr (⊎_elim (λ (cut : SplitsFor c s0 s). inl (same_split c cut)) (λ (merge : MergesFor c s0 s). inr (same_merge c merge)) made.0, ready_with_parties made.1))

    same_cause : (r : Once Placed) → answer ≡ r → IsWholeAnswer tries s0 i c s (whole_of r) → IsWholeAnswer (most_tries c) s0 i c (record s { states = states }) (whole_of r)
    same_cause (once.Worn node word) is cause = ⊎_elim (λ first. inl first) (λ (later : IsMadeAgain i c s0 × (locks_left s0 < tries) × (HasSameList s0 s ⊎ SplitsFor c s0 s) × (node ≡ target_node (world s) (name_asked (op_of c))) × IsWorn word s0.generation).
        let less = later.1 in
        inr (later.0, omega arith, ⊎_elim (λ (same : HasSameList s0 s). inl same) (λ (cut : SplitsFor c s0 s). inr (same_split c cut)) later.2, later.3, later.4)) cause
    same_cause (once.Spent clock) is cause = cause
    same_cause (once.Again why) is cause = cause
    same_cause (once.Done placed) is (name, causes, old, place, lands) = (name, causes, old, place, subst (λ (l : List PartyState). LandsIn s0 i c (record s { states = l }) placed) (sym (kept placed is)) lands)

    same_list : (r : Once Placed) → LeavesList c (whole_of r) s0 s → LeavesList c (whole_of r) s0 (record s { states = states })
    same_list (once.Worn node word) list = list
    same_list (once.Spent clock) list = list
    same_list (once.Again why) list = list
    same_list (once.Done placed) list =
        ⊎_elim
        (λ (same : HasSameList s0 s × SplitsNothing c s0 × MergesNothing c s0). inl same)
        (λ (changed : SplitsFor c s0 s ⊎ MergesFor c s0 s). inr (⊎_elim (λ (cut : SplitsFor c s0 s). inl (same_split c cut)) (λ (merge : MergesFor c s0 s). inr (same_merge c merge)) changed))
        list

-- the locks that so many tries take
pub ran_each : (s0 s : Index) (i : ℕ) (c : CoreCall) (answer : Once Placed) (tries : ℕ) → Ran s0 s i c answer tries → tries ≤ most_tries c → TakesEachLock i c s0 s
ran_each s0 s i c answer tries ran few = ⊎_elim
    (λ (one : tries ≤ 1). inl (λ n. let lost = ran.each_lock n in omega arith))
    (λ (again : IsMadeAgain i c s0). inr (again, (λ n. let lost = ran.each_lock n in omega arith)))
    ran.again

pub ran_locks : (s0 s : Index) (i : ℕ) (c : CoreCall) (answer : Once Placed) (tries : ℕ) → Ran s0 s i c answer tries → tries ≤ most_tries c → TakesLocks i c s0 s
ran_locks s0 s i c answer tries ran few =
    let lost = ran.locks in
    ⊎_elim (λ (one : tries ≤ 1). inl (omega arith)) (λ (again : IsMadeAgain i c s0). inr (again, omega arith)) ran.again

-- a try counts the call unless it was turned back
try_counts : (answer : Once Placed) (state : PartyState) (since : ℕ) → (whole_of answer ≡ whole.Full → ⊥) → state_tried state since answer ≡ state_done state since
try_counts (once.Done placed) state since other = refl
try_counts (once.Spent clock) state since other = refl
try_counts (once.Worn node word) state since other = refl
try_counts (once.Again why) state since other = absurd (other refl)

-- and one that was turned back is counted then
full_counts : (answer : Once Placed) (state : PartyState) (since : ℕ) → whole_of answer ≡ whole.Full → state_counted (state_tried state since answer) ≡ state_done state since
full_counts (once.Done placed) state since full = absurd cc
full_counts (once.Spent clock) state since full = absurd cc
full_counts (once.Worn node word) state since full = absurd cc
full_counts (once.Again why) state since full = refl

placed_not_full : (answer : Once Placed) (placed : Placed) → answer ≡ once.Done placed → whole_of answer ≡ whole.Full → ⊥
placed_not_full answer placed is full = let no : whole.Placed placed ≡ whole.Full = sym (ap whole_of is) ∙ full in cc

pub full_again : (answer : Once Placed) → whole_of answer ≡ whole.Full → (why : Again) × (answer ≡ once.Again why)
full_again (once.Done placed) full = absurd cc
full_again (once.Spent clock) full = absurd cc
full_again (once.Worn node word) full = absurd cc
full_again (once.Again why) full = (why, refl)

pub ran_runs : (s0 s : Index) (i : ℕ) (c : CoreCall) (answer : Once Placed) (tries : ℕ) → Ran s0 s i c answer tries → tries ≤ most_tries c → (whole_of answer ≡ whole.Full → ⊥) → RunsAlone s0 i c s (whole_of answer)
ran_runs s0 s i c answer tries ran few other = counted_runs s0 s i c answer tries ran few s.states (ran.states ∙ ap (slice_set s0.states i) (try_counts answer ran.state (length s0.history) other)) (λ placed is. refl)

pub full_runs : (s0 s : Index) (i : ℕ) (c : CoreCall) (answer : Once Placed) (tries : ℕ) → Ran s0 s i c answer tries → tries ≤ most_tries c → whole_of answer ≡ whole.Full → (new : Index) → CountsCall s i new → RunsAlone s0 i c new (whole_of answer)
full_runs s0 s i c answer tries ran few full new t =
    let tried = state_tried ran.state (length s0.history) answer in
    let here = ap (λ (l : List PartyState). get_elem? l i) ran.states ∙ set_here s0.states i tried ran.state ran.there in
    let state : t.state ≡ tried = some-injective _ _ (sym t.there ∙ here) in
    subst (λ (v : Index). RunsAlone s0 i c v (whole_of answer)) (sym t.is)
    (counted_runs s0 s i c answer tries ran few (slice_set s.states i (state_counted t.state))
    ((λ k. set (ran.states k) i (state_counted (state k))) ∙ set_twice s0.states i tried (state_counted tried) ∙ ap (slice_set s0.states i) (full_counts answer ran.state (length s0.history) full))
    (λ placed is. absurd (placed_not_full answer placed is full)))

-- the locks left are those of an index that differs in the states of its parties alone
pub counted_each : (s0 s : Index) (i : ℕ) (c : CoreCall) (new : Index) → CountsCall s i new → TakesEachLock i c s0 s → TakesEachLock i c s0 new
counted_each s0 s i c new t each = subst (TakesEachLock i c s0) (sym t.is) each

pub counted_locks : (s0 s : Index) (i : ℕ) (c : CoreCall) (new : Index) → CountsCall s i new → TakesLocks i c s0 s → TakesLocks i c s0 new
counted_locks s0 s i c new t locks = subst (TakesLocks i c s0) (sym t.is) locks

-- what an answer adds
adds : (c : CoreCall) (answer : Once Placed) → added_by (op_of c) answer ≡ added_whole (op_of c) (whole_of answer)
adds c (once.Done placed) = refl
adds c (once.Spent clock) = refl
adds c (once.Worn node word) = refl
adds c (once.Again why) = refl

has_room : (o : Option ℕ) (n most : ℕ) → n ≤ most → ((o ≡ None) × (n ≡ most) → ⊥) → IsSome o ⊎ (n < most)
has_room (Some value) n most few not_full = inl refl
has_room None n most few not_full = inr (⊎_elim (λ (less : n < most). less) (λ (as_many : most ≤ n). absurd (not_full (refl, omega arith))) (cases_lt n most))

-- the cause of an answer, and what it leaves of the history and of the list
record Ends (s0 s : Index) (i index : ℕ) (c : CoreCall) (r : Once Placed) (tries : ℕ) : Type 0 where
  cause : IsWholeAnswer tries s0 i c s (whole_of r)
  history : s.history ≡ s0.history ++ alone_writes i index c (whole_of r)
  list : LeavesList c (whole_of r) s0 s

-- a call that finds nothing to merge is no delete that merges by the shape, or the next node is worn
merges_nothing : (s : Index) (c : CoreCall) → (FindsMerge (world s) (op_of c) → ⊥) → MergesNothing c s
merges_nothing s (call.Del name limit) none =
    let word = (facts (world s)).version (next_node (world s) name) in
    elim (merges s.layout.slots (map_of_index s) (anchors_in (world s)) name)
    as (λ shape. merges s.layout.slots (map_of_index s) (anchors_in (world s)) name ≡ shape → (shape ≡ false) ⊎ NextIsWorn (world s) name) [
      | false ↦ λ _. inl refl
      | true ↦ λ shape. elim (is_worn_word word s.generation)
          as (λ worn. is_worn_word word s.generation ≡ worn → (true ≡ false) ⊎ NextIsWorn (world s) name) [
            | true ↦ λ worn. inr (worn_word word s.generation worn)
            | false ↦ λ unworn. absurd (none (shape, fresh_word word s.generation unworn))
          ] refl
    ] refl
merges_nothing s c none = tt

-- the shape that a call leaves which took place
abbrev Leaves : Index → Index → CoreCall → Type 0
Leaves s0 s c = (HasSameList s0 s × SplitsNothing c s0 × MergesNothing c s0) ⊎ (SplitsFor c s0 s ⊎ MergesFor c s0 s)

-- A call that took place is one on a name, and no part of a scan, which lists names besides.
abbrev IsOnName : CoreCall → Once Placed → Type 0
IsOnName c (once.Done placed) = count_of c ≡ None
IsOnName c _ = Unit {0}

pub on_name : (c : CoreCall) (r : Once Placed) → count_of c ≡ None → IsOnName c r
on_name c (once.Done placed) none = none
on_name c (once.Spent clock) none = tt
on_name c (once.Worn node word) none = tt
on_name c (once.Again why) none = tt

-- a try that didn't split is the whole call
module _ (s0 s : Index) (i : ℕ) (c : CoreCall) (is0 : IsIndex s0) (still0 : IsStill i s0) (answer : Once Placed) (t : TriesAlone s0 i c s answer)
    (each : LoseAtMost 1 s0 s) (locks : locks_left s0 ≤ locks_left s + 1) where
  rest0 : IsAtRest (world s0)
  rest0 = rests s0 is0 still0.calls

  -- where it had room its put splits nothing
  splits_nothing : (c : CoreCall) → IsName (name_asked (op_of c)) → (FindsFull (world s0) (op_of c) → ⊥) → SplitsNothing c s0
  splits_nothing (call.Put name value limit) named not_full =
      (room_is_no_split (world s0) name rest0 named
      (has_room (at (map_of_index s0) name) (target_names (world s0) name) s0.layout.slots (names_most s0.layout.slots (range_of s0.layout (facts (world s0)) (target_node (world s0) name)) ((facts (world s0)).now (target_node (world s0) name))) not_full)).0
  splits_nothing c named not_full = tt

  merged : (c : CoreCall) → FindsMerge (world s0) (op_of c) → IsMergedSince (name_asked (op_of c)) (world s0) (world s) → Leaves s0 s c
  merged (call.Del name limit) finds since =
      let merge : MergesFor (call.Del name limit) s0 s = (finds, since.anchors) in
      inr (inr merge)
  merged c finds since = absurd finds

  leaves : IsName (name_asked (op_of c)) → (FindsFull (world s0) (op_of c) → ⊥) → LeavesShape (world s0) (op_of c) (world s) → Leaves s0 s c
  leaves named not_full = ⊎_elim
      (λ (kept : (FindsMerge (world s0) (op_of c) → ⊥) × HasKeptList (world s0) (world s)). inl (kept.1.0, splits_nothing c named not_full, merges_nothing s0 c kept.0))
      (λ (since : FindsMerge (world s0) (op_of c) × IsMergedSince (name_asked (op_of c)) (world s0) (world s)). merged c since.0 since.1)

  -- where it lacked a node, a turn was made before it
  ends : (r : Once Placed) → answer ≡ r → needs_split r ≡ false → lacks_line r ≡ false → (lacks_node r ≡ true → IsSwept s0) → IsOnName c r
      → IsAnswered (world s0) (op_of c) (limit_of c) (world s) (party_of t.state) r → Ends s0 s i t.state.index c r 1
  ends (once.Worn node word) is one lined swept on_name (worn, node_is, word_is, same, kept) = record {
    cause = inl (worn, node_is, word_is, kept.0);
    history = same ∙ sym (append-nil s0.history);
    list = tt;
  }
  ends (once.Spent clock) is one lined swept on_name (unworn, late, clock_is, same, kept) = record {
    cause = (unworn, late_is (limit_of c) (length s0.history) late, clock_is);
    history = same ∙ sym (append-nil s0.history);
    list = kept.0;
  }
  ends (once.Again again.NoFree) is one lined swept on_name (unworn, below, full, has, lacks, same, kept, unmoved) = record {
    cause = (unworn, (λ over. below (late_was (limit_of c) (length s0.history) over)), no_room_is s0 c rest0 (swept refl) full lacks);
    history = same ∙ sym (append-nil s0.history);
    list = kept.0;
  }
  ends (once.Again (again.NeedsSplit n)) is one lined swept on_name end = absurd (cc)
  ends (once.Again (again.Locked n word)) is one lined swept on_name end = absurd end
  ends (once.Again (again.Moved n first second)) is one lined swept on_name end = absurd end
  ends (once.Again (again.Hops count)) is one lined swept on_name end = absurd end
  ends (once.Again again.LogFull) is one lined swept on_name end = absurd (cc)
  ends (once.Again (again.Held word)) is one lined swept on_name end = absurd end
  ends (once.Again (again.Epoch first second)) is one lined swept on_name end = absurd end
  ends (once.Done placed) is one lined swept on_name ((unworn, below, not_full, line), old, place, hops, write, shape) =
      record {
        cause = (
          on_name,
          (unworn, (λ over. below (late_was (limit_of c) (length s0.history) over)), (λ none. not_full (no_room_was s0 c rest0 none))),
          old,
          place,
          record {
            last = s0;
            began = inl refl;
            index = is0;
            quiet = λ quiet. quiet;
            still = still0;
            layout = refl;
            generation = refl;
            base = refl;
            history = refl;
            layer = λ none. refl;
            short = λ short. short;
            tries = subst (TriesAlone s0 i c s) is t;
            hops = hops;
          },
        );
        history = write ∙ ap (λ (j : ℕ). s0.history ++ alone_writes j t.state.index c (whole.Placed placed)) (is0.states i t.state t.there).caller;
        list = leaves t.named not_full shape;
      }

  merges_for : (c : CoreCall) → FindsMerge (world s0) (op_of c) → IsMergedSince (name_asked (op_of c)) (world s0) (world s) → MergesFor c s0 s
  merges_for (call.Del name limit) finds since = (finds, since.anchors)
  merges_for c finds since = absurd finds

  own_caller : t.state.caller ≡ i
  own_caller = (is0.states i t.state t.there).caller

  -- what it leaves of the log lines
  lines_of : (r : Once Placed) → needs_split r ≡ false → lacks_line r ≡ false → IsAnswered (world s0) (op_of c) (limit_of c) (world s) (party_of t.state) r → LeavesLines (name_asked (op_of c)) t.state.caller (world s0) (world s) r
      → (HasSameList s0 s × KeepsLines (world s0) (world s)) ⊎ ((SplitsFor c s0 s ⊎ MergesFor c s0 s) × MakesReady i (world s0) (world s))
  lines_of (once.Worn node word) one lined (worn, node_is, word_is, same, kept) lines = inl (kept.0, lines)
  lines_of (once.Spent clock) one lined (unworn, late, clock_is, same, kept) lines = inl (kept.0, lines)
  lines_of (once.Again again.NoFree) one lined (unworn, below, full, has, lacks, same, kept, unmoved) lines = inl (kept.0, lines)
  lines_of (once.Again (again.NeedsSplit n)) one lined end lines = absurd (cc)
  lines_of (once.Again (again.Locked n word)) one lined end lines = absurd end
  lines_of (once.Again (again.Moved n first second)) one lined end lines = absurd end
  lines_of (once.Again (again.Hops count)) one lined end lines = absurd end
  lines_of (once.Again again.LogFull) one lined end lines = absurd (cc)
  lines_of (once.Again (again.Held word)) one lined end lines = absurd end
  lines_of (once.Again (again.Epoch first second)) one lined end lines = absurd end
  lines_of (once.Done placed) one lined (causes, old, place, hops, write, shape) lines = ⊎_elim
      (λ (kept : HasKeptList (world s0) (world s) × KeepsLines (world s0) (world s)). inl (kept.0.0, kept.1))
      (λ (made : IsMergedSince (name_asked (op_of c)) (world s0) (world s) × MakesReady t.state.caller (world s0) (world s)).
      ⊎_elim
      (λ (none : (FindsMerge (world s0) (op_of c) → ⊥) × HasKeptList (world s0) (world s)). let most = made.0.most in let same = none.1.1 in absurd (omega arith))
      (λ (since : FindsMerge (world s0) (op_of c) × IsMergedSince (name_asked (op_of c)) (world s0) (world s)).
      inr (inr (merges_for c since.0 since.1), subst (λ (caller : ℕ). MakesReady caller (world s0) (world s)) own_caller made.1))
      shape)
      lines

  merged_taken : (c : CoreCall) → FindsMerge (world s0) (op_of c) → IsMergedSince (name_asked (op_of c)) (world s0) (world s) → taken_nodes s ≡ taken_nodes s0
  merged_taken (call.Del name limit) finds since = taken_merged s0 s t.layout name finds.0 since
  merged_taken c finds since = absurd finds

  -- and of the nodes: none is taken
  taken_of : (r : Once Placed) → needs_split r ≡ false → lacks_line r ≡ false → IsAnswered (world s0) (op_of c) (limit_of c) (world s) (party_of t.state) r → taken_nodes s ≡ taken_nodes s0
  taken_of (once.Worn node word) one lined (worn, node_is, word_is, same, kept) = taken_kept s0 s t.layout kept
  taken_of (once.Spent clock) one lined (unworn, late, clock_is, same, kept) = taken_kept s0 s t.layout kept
  taken_of (once.Again again.NoFree) one lined (unworn, below, full, has, lacks, same, kept, unmoved) = taken_kept s0 s t.layout kept
  taken_of (once.Again (again.NeedsSplit n)) one lined end = absurd (cc)
  taken_of (once.Again (again.Locked n word)) one lined end = absurd end
  taken_of (once.Again (again.Moved n first second)) one lined end = absurd end
  taken_of (once.Again (again.Hops count)) one lined end = absurd end
  taken_of (once.Again again.LogFull) one lined end = absurd (cc)
  taken_of (once.Again (again.Held word)) one lined end = absurd end
  taken_of (once.Again (again.Epoch first second)) one lined end = absurd end
  taken_of (once.Done placed) one lined (causes, old, place, hops, write, shape) = ⊎_elim
      (λ (none : (FindsMerge (world s0) (op_of c) → ⊥) × HasKeptList (world s0) (world s)). taken_kept s0 s t.layout none.1)
      (λ (since : FindsMerge (world s0) (op_of c) × IsMergedSince (name_asked (op_of c)) (world s0) (world s)). merged_taken c since.0 since.1)
      shape

  pub one_try : needs_split answer ≡ false → lacks_line answer ≡ false → (lacks_node answer ≡ true → IsSwept s0) → IsOnName c answer → Ran s0 s i c answer 1
  one_try one lined swept on_name =
      let end = ends answer refl one lined swept on_name t.answered in
      let added = adds c answer in
      let before = t.weighs in
      record {
        state = t.state;
        there = t.there;
        named = t.named;
        cause = end.cause;
        history = end.history;
        states = t.states;
        reads = t.reads;
        layout = t.layout;
        generation = t.generation;
        base = t.base;
        list = end.list;
        stamps = λ n here. inl (ap (λ (stamp : ℕ → ℕ). stamp n) t.stamps);
        log = λ _. record { layer = t.layer; lines = lines_of answer one lined t.answered t.lines; taken = inl (taken_of answer one lined t.answered) };
        short = short_stays (world s0) (world s) t.layer t.ways;
        again = inl (omega arith);
        each_lock = each;
        locks = locks;
        weighs = omega arith;
      }

-- a split leaves the shape of its put, and whatever leaves the list then leaves that
split_for : (s0 s1 : Index) (c : CoreCall) → IsAtRest (world s0) → s1.layout ≡ s0.layout → IsName (name_asked (op_of c)) → FindsFull (world s0) (op_of c) → IsHalvedSince (name_asked (op_of c)) (world s0) (world s1) → SplitsFor c s0 s1
split_for s0 s1 (call.Put name value limit) rest layout named full halved = cut_is_split (world s0) (world s1) name rest layout named halved
split_for s0 s1 c rest layout named full halved = absurd full

split_on : (s0 s1 s : Index) (c : CoreCall) → (facts (world s)).list ≡ (facts (world s1)).list → SplitsFor c s0 s1 → SplitsFor c s0 s
split_on s0 s1 s (call.Put name value limit) list cut = (cut.0, ap anchors_of list ∙ cut.1)
split_on s0 s1 s c list cut = absurd cut

-- then the put has room
pub split_has_room : (s0 s1 : Index) (c : CoreCall) → IsAtRest (world s1) → map_of_index s1 ≡ map_of_index s0 → IsHalvedSince (name_asked (op_of c)) (world s0) (world s1) → FindsFull (world s1) (op_of c) → ⊥
split_has_room s0 s1 (call.Put name value limit) rest map halved full =
    let less = cut_has_room (world s0) (world s1) name rest map halved in
    let most = full.1 in
    omega arith
split_has_room s0 s1 c rest map halved full = absurd full

-- and where a node was free it had room before
free_is_room : (s : Index) (c : CoreCall) → HasFree s.layout s.generation s.words → FindsNoRoom c s → ⊥
free_is_room s (call.Put name value limit) free none = free.unworn (none.1 free.node free.within (inl free.free))
free_is_room s c free none = absurd none

-- what a try says that split
record Split (s0 s1 : Index) (c : CoreCall) : Type 0 where
  unworn : FindsWorn (world s0) (op_of c) → ⊥
  below : IsLate (world s0) (limit_of c) → ⊥
  full : FindsFull (world s0) (op_of c)
  free : HasFree s0.layout s0.generation s0.words
  history : s1.history ≡ s0.history
  halved : IsHalvedSince (name_asked (op_of c)) (world s0) (world s1)
  most : members_most (world s1) ≡ members_most (world s0)

-- a call that finds no room is a put, and merges nothing
put_keeps : (c : CoreCall) (w0 w1 w : World) → FindsFull w0 (op_of c) → LeavesShape w1 (op_of c) w → HasKeptList w1 w
put_keeps (call.Put name value limit) w0 w1 w full =
    ⊎_elim (λ (kept : ¬ ⊥ × HasKeptList w1 w). kept.1) (λ (merge : ⊥ × IsMergedSince name w1 w). absurd merge.0)
put_keeps c w0 w1 w full = absurd full

-- and one that looked for a log line found its node full
put_needs : (c : CoreCall) (w0 w1 : World) → FindsFull w0 (op_of c) → NeedsLine w1 (op_of c) → FindsFull w1 (op_of c)
put_needs (call.Put name value limit) w0 w1 full needs = needs
put_needs c w0 w1 full needs = absurd full

-- a try that split, and another
module _ (s0 s1 s : Index) (i : ℕ) (c : CoreCall) (is0 : IsIndex s0) (still0 : IsStill i s0) (is1 : IsIndex s1) (first answer : Once Placed)
    (none : count_of c ≡ None) (t : TriesAlone s0 i c s1 first) (u : TriesAlone s1 i c s answer)
    (each : LoseAtMost 1 s0 s1) (each_then : LoseAtMost 1 s1 s) (locks : locks_left s0 ≤ locks_left s1 + 1) (locks_then : locks_left s1 ≤ locks_left s + 1) where
  rest_before : IsAtRest (world s0)
  rest_before = rests s0 is0 still0.calls

  rest_between : IsAtRest (world s1)
  rest_between = rests s1 is1 (tried_still s0 s1 i c first t i still0).calls

  splits_first : (r : Once Placed) → needs_split r ≡ true → IsAnswered (world s0) (op_of c) (limit_of c) (world s1) (party_of t.state) r → Split s0 s1 c
  splits_first r again end =
      let known = split_told (world s0) (op_of c) (limit_of c) (world s1) (party_of t.state) r end again in
      record { unworn = known.0; below = known.1; full = known.2; free = known.4; history = known.5; halved = known.6; most = known.7 }

  module _ (cut : Split s0 s1 c) where
    same_map : map_of_index s1 ≡ map_of_index s0
    same_map = λ k. after_all (map_of (t.base k)) (cut.history k)

    split : SplitsFor c s0 s1
    split = split_for s0 s1 c rest_before t.layout t.named cut.full cut.halved

    not_full : FindsFull (world s1) (op_of c) → ⊥
    not_full = split_has_room s0 s1 c rest_between same_map cut.halved

    no_locks : FindsWorn (world s1) (op_of c) → locks_left s1 ≡ 0
    no_locks worn =
        let n = target_node (world s1) (name_asked (op_of c)) in
        worn_has_none s1.generation (facts (world s1)).version n s1.layout.nodes
        (listed_within s1.layout (facts (world s1)) rest_between.list rest_between.row.layout n (target_in 0 (facts (world s1)).list (key_of (name_asked (op_of c))))) (worn_target (world s1) (op_of c) worn)

    ends_then : (r : Once Placed) → answer ≡ r → IsAnswered (world s1) (op_of c) (limit_of c) (world s) (party_of u.state) r → Ends s0 s i u.state.index c r 2 × SplitsFor c s0 s
    ends_then (once.Worn node word) is (worn, node_is, word_is, same, kept) =
        let no_lock = no_locks worn in
        let split_now = split_on s0 s1 s c kept.0 split in (
          record {
            cause = inr (
              full_again_if s0 i c rest_before cut.full,
              omega arith,
              inr split_now,
              node_is ∙ ap (λ (l : List ListNode). target_from 0 l (key_of (name_asked (op_of c)))) (sym kept.0),
              subst (λ (q : ℕ × ℕ). IsWorn q.0 q.1) (λ k. ((sym word_is) k, t.generation k)) (subst (λ (n : ℕ). IsWorn ((facts (world s1)).version n) s1.generation) (sym node_is) (worn_target (world s1) (op_of c) worn)),
            );
            history = same ∙ cut.history ∙ sym (append-nil s0.history);
            list = tt;
          },
          split_now,
        )
    ends_then (once.Spent clock) is (unworn, late, clock_is, same, kept) =
        absurd (cut.below (subst (λ (n : ℕ). IsTrue (is_spent (limit_of c) n)) (ap length cut.history) late))
    ends_then (once.Again again.NoFree) is (unworn, below, full, has, lacks, same, kept, unmoved) = absurd (not_full full)
    ends_then (once.Again (again.NeedsSplit n)) is (unworn, below, full, has, free, same, halved, most) = absurd (not_full full)
    ends_then (once.Again (again.Locked n word)) is end = absurd end
    ends_then (once.Again (again.Moved n one two)) is end = absurd end
    ends_then (once.Again (again.Hops count)) is end = absurd end
    ends_then (once.Again again.LogFull) is (unworn, below, needs, lacks, same, kept, unmoved) = absurd (not_full (put_needs c (world s0) (world s1) cut.full needs))
    ends_then (once.Again (again.Held word)) is end = absurd end
    ends_then (once.Again (again.Epoch one two)) is end = absurd end
    ends_then (once.Done placed) is ((unworn, below, has_room_now, line), old, place, hops, write, shape) =
        let kept = put_keeps c (world s0) (world s1) (world s) cut.full shape in
        let split_now = split_on s0 s1 s c kept.0 split in (
          record {
            cause = (
              none,
              (cut.unworn, (λ over. cut.below (late_was (limit_of c) (length s0.history) over)), (λ none. free_is_room s0 c cut.free none)),
              old ∙ ap (λ (m : Map). at m (name_asked (op_of c))) same_map,
              place ∙ ap length cut.history,
              record {
                last = s1;
                began = inr (full_again_if s0 i c rest_before cut.full);
                index = is1;
                quiet = tried_quiet s0 s1 i c first t;
                still = tried_still s0 s1 i c first t i still0;
                layout = t.layout;
                generation = t.generation;
                base = t.base;
                history = cut.history;
                layer = λ none. t.layer;
                short = short_stays (world s0) (world s1) t.layer t.ways;
                tries = subst (TriesAlone s1 i c s) is u;
                hops = hops;
              },
            );
            history = write ∙ (λ k. cut.history k ++ alone_writes ((is1.states i u.state u.there).caller k) u.state.index c (whole.Placed placed));
            list = inr (inl split_now);
          },
          split_now,
        )

  -- the party keeps its index at the first try
  keeps_index : (r : Once Placed) → needs_split r ≡ true → (state : PartyState) → state_tried (state_tried state (length s0.history) r) (length s1.history) answer ≡ state_tried state (length s1.history) answer
  keeps_index (once.Worn node word) again state = absurd (cc)
  keeps_index (once.Spent clock) again state = absurd (cc)
  keeps_index (once.Done placed) again state = absurd (cc)
  keeps_index (once.Again why) again state = refl

  same_index : (r : Once Placed) → needs_split r ≡ true → (state : PartyState) → (state_tried state (length s0.history) r).index ≡ state.index
  same_index (once.Worn node word) again state = absurd (cc)
  same_index (once.Spent clock) again state = absurd (cc)
  same_index (once.Done placed) again state = absurd (cc)
  same_index (once.Again why) again state = refl

  adds_nothing : (r : Once Placed) → needs_split r ≡ true → added_by (op_of c) r ≡ 0
  adds_nothing (once.Worn node word) again = absurd (cc)
  adds_nothing (once.Spent clock) again = absurd (cc)
  adds_nothing (once.Done placed) again = absurd (cc)
  adds_nothing (once.Again why) again = refl

  -- the first made a line READY, and the other left the lines
  kept_then : Split s0 s1 c → (r : Once Placed) → IsAnswered (world s1) (op_of c) (limit_of c) (world s) (party_of u.state) r → LeavesLines (name_asked (op_of c)) u.state.caller (world s1) (world s) r → KeepsLines (world s1) (world s)
  kept_then cut (once.Worn node word) end lines = lines
  kept_then cut (once.Spent clock) end lines = lines
  kept_then cut (once.Again again.NoFree) end lines = lines
  kept_then cut (once.Again (again.NeedsSplit n)) (unworn, below, full, has, free, same, halved, most) lines = absurd (not_full cut full)
  kept_then cut (once.Again (again.Locked n word)) end lines = lines
  kept_then cut (once.Again (again.Moved n one two)) end lines = lines
  kept_then cut (once.Again (again.Hops count)) end lines = lines
  kept_then cut (once.Again again.LogFull) end lines = lines
  kept_then cut (once.Again (again.Held word)) end lines = lines
  kept_then cut (once.Again (again.Epoch one two)) end lines = lines
  kept_then cut (once.Done placed) (causes, old, place, hops, write, shape) lines = ⊎_elim
      (λ (kept : HasKeptList (world s1) (world s) × KeepsLines (world s1) (world s)). kept.1)
      (λ (made : IsMergedSince (name_asked (op_of c)) (world s1) (world s) × MakesReady u.state.caller (world s1) (world s)).
      let kept = (put_keeps c (world s0) (world s1) (world s) cut.full shape).1 in
      let most = made.0.most in
      absurd (omega arith))
      lines

  -- and the list that the first one left
  list_then : Split s0 s1 c → (r : Once Placed) → IsAnswered (world s1) (op_of c) (limit_of c) (world s) (party_of u.state) r → HasKeptList (world s1) (world s)
  list_then cut (once.Worn node word) (worn, node_is, word_is, same, kept) = kept
  list_then cut (once.Spent clock) (unworn, late, clock_is, same, kept) = kept
  list_then cut (once.Again again.NoFree) (unworn, below, full, has, lacks, same, kept, unmoved) = kept
  list_then cut (once.Again (again.NeedsSplit n)) (unworn, below, full, has, free, same, halved, most) = absurd (not_full cut full)
  list_then cut (once.Again (again.Locked n word)) end = absurd end
  list_then cut (once.Again (again.Moved n one two)) end = absurd end
  list_then cut (once.Again (again.Hops count)) end = absurd end
  list_then cut (once.Again again.LogFull) (unworn, below, needs, lacks, same, kept, unmoved) = kept
  list_then cut (once.Again (again.Held word)) end = absurd end
  list_then cut (once.Again (again.Epoch one two)) end = absurd end
  list_then cut (once.Done placed) (causes, old, place, hops, write, shape) = put_keeps c (world s0) (world s1) (world s) cut.full shape

  -- the other one isn't turned back
  pub answered_then : needs_split first ≡ true → (why : Again) → answer ≡ once.Again why → ⊥
  answered_then made why is = by_cause why (subst (IsAnswered (world s1) (op_of c) (limit_of c) (world s) (party_of u.state)) is u.answered)
    where
      cut : Split s0 s1 c
      cut = splits_first first made t.answered

      by_cause : (why : Again) → IsAnswered (world s1) (op_of c) (limit_of c) (world s) (party_of u.state) (once.Again why) → ⊥
      by_cause again.NoFree (unworn, below, full, has, lacks, same, kept, unmoved) = not_full cut full
      by_cause (again.NeedsSplit n) (unworn, below, full, has, free, same, halved, most) = not_full cut full
      by_cause again.LogFull (unworn, below, needs, lacks, same, kept, unmoved) = not_full cut (put_needs c (world s0) (world s1) cut.full needs)
      by_cause (again.Locked n word) end = end
      by_cause (again.Moved n one two) end = end
      by_cause (again.Hops count) end = end
      by_cause (again.Held word) end = end
      by_cause (again.Epoch one two) end = end

  -- both tries take two locks of a node at most
  each_two : LoseAtMost 2 s0 s
  each_two n =
      let one = each n in
      let another = each_then n in
      omega arith

  pub two_tries : needs_split first ≡ true → Ran s0 s i c answer 2
  two_tries again =
      let cut = splits_first first again t.answered in
      let end = ends_then cut answer refl u.answered in
      let tried = state_tried t.state (length s0.history) first in
      let now : u.state ≡ tried = some-injective _ _ (sym u.there ∙ ap (λ (l : List PartyState). get_elem? l i) t.states ∙ set_here s0.states i tried t.state t.there) in
      let index : u.state.index ≡ t.state.index = ap (λ (d : PartyState). d.index) now ∙ same_index first again t.state in
      let added = adds c answer in
      let nothing = adds_nothing first again in
      let before = t.weighs in
      let after = u.weighs in
      record {
        state = t.state;
        there = t.there;
        named = t.named;
        cause = end.0.cause;
        history = end.0.history ∙ ap (λ (j : ℕ). s0.history ++ alone_writes i j c (whole_of answer)) index;
        states = u.states ∙ (λ k. slice_set (t.states k) i (state_tried (now k) (length s1.history) answer))
            ∙ set_twice s0.states i tried (state_tried tried (length s1.history) answer)
            ∙ ap (slice_set s0.states i) (keeps_index first again t.state)
            ∙ ap (λ (n : ℕ). slice_set s0.states i (state_tried t.state n answer)) (ap length cut.history);
        reads = λ get. absurd (gets_once i s0 c get (full_again_if s0 i c rest_before cut.full));
        layout = u.layout ∙ t.layout;
        generation = u.generation ∙ t.generation;
        base = u.base ∙ t.base;
        list = end.0.list;
        stamps = λ n here. inl (ap (λ (stamp : ℕ → ℕ). stamp n) (u.stamps ∙ t.stamps));
        log = λ _.
            let made = subst (λ (caller : ℕ). MakesReady caller (world s0) (world s1)) (is0.states i t.state t.there).caller (split_is_ready (name_asked (op_of c)) t.state.caller (world s0) (world s1) first t.lines again) in
            record {
              layer = u.layer ∙ t.layer;
              lines = inr (inl end.1, record { line = made.line; within = made.within; own = made.own; was_empty = made.was_empty; is = kept_then cut answer u.answered u.lines ∙ made.is });
              taken = inr (end.1, taken_kept s1 s u.layout (list_then cut answer u.answered) ∙ taken_split s0 s1 t.layout c (split cut) cut.most);
            };
        short = λ short. short_stays (world s1) (world s) u.layer u.ways (short_stays (world s0) (world s1) t.layer t.ways short);
        again = inr (full_again_if s0 i c rest_before cut.full);
        each_lock = each_two;
        locks = omega arith;
        weighs = omega arith;
      }

-- a get adds no name
gets_add_nothing : (name : List ℕ) (old : Option ℕ) → added_if (op.Get name) old ≡ 0
gets_add_nothing name None = refl
gets_add_nothing name (Some value) = refl

-- the whole call of a part of a scan is one try
module _ (s0 s : Index) (i : ℕ) (low : List ℕ) (count : ℕ) (is0 : IsIndex s0) (still0 : IsStill i s0) where
  abbrev c : CoreCall
  c = call.Part low count

  -- one that ended early is worn
  pub part_early : (r : Once Placed) → IsEarly r → TriesAlone s0 i c s r → LoseAtMost 1 s0 s → locks_left s0 ≤ locks_left s + 1 → RunsAlone s0 i c s (part_whole (early_of r))
  part_early (once.Worn node word) early t each locks =
      ran_runs s0 s i c (once.Worn node word) 1 (one_try s0 s i c is0 still0 (once.Worn node word) t each locks refl refl (λ e. cc) tt) (omega arith) (λ full. cc)
  part_early (once.Spent clock) early t each locks = absurd (let late = t.answered.1 in cc)
  part_early (once.Again again.NoFree) early t each locks = absurd t.answered.2
  part_early (once.Again (again.NeedsSplit n)) early t each locks = absurd t.answered.2
  part_early (once.Again (again.Locked n word)) early t each locks = absurd t.answered
  part_early (once.Again (again.Moved n one two)) early t each locks = absurd t.answered
  part_early (once.Again (again.Hops hops)) early t each locks = absurd t.answered
  part_early (once.Again again.LogFull) early t each locks = absurd t.answered.2
  part_early (once.Again (again.Held word)) early t each locks = absurd t.answered
  part_early (once.Again (again.Epoch one two)) early t each locks = absurd t.answered
  part_early (once.Done placed) early t each locks = absurd early

  -- and one that lists its names takes place
  pub part_done : (words : PartWords) → TriesAlone s0 i c s (once.Done (words_placed words)) → words.node ≡ node_for s0 low → (reading : Option PermutationRead) → IsPartAt s.layout (facts (world s)) reading low count words
      → ((names : ℕ) → HasCompared reading names words → SortsIfStale s0 s words.node names words) → RunsAlone s0 i c s (whole.Part words)
  part_done words t node reading is sorts =
      let kept : HasKeptList (world s0) (world s) = ⊎_elim
      (λ (same : ¬ ⊥ × HasKeptList (world s0) (world s)). same.1)
      (λ (merge : ⊥ × IsMergedSince low (world s0) (world s)). absurd merge.0)
      t.answered.5 in
      let lines : KeepsLines (world s0) (world s) = ⊎_elim
      (λ (same : HasKeptList (world s0) (world s) × KeepsLines (world s0) (world s)). same.1)
      (λ (made : IsMergedSince low (world s0) (world s) × MakesReady t.state.caller (world s0) (world s)). let most = made.0.most in let same = kept.1 in absurd (omega arith))
      t.lines in
      let history : s.history ≡ s0.history = t.answered.4 ∙ append-nil s0.history in
      let added = gets_add_nothing low words.old in
      let before = t.weighs in
      record {
        state = t.state;
        there = t.there;
        named = t.named;
        answer = (t.answered.0.0, whole_part s0 s reading low count words is0 still0.calls t.base history kept.0 t.named node t.answered.2 t.answered.3 t.answered.1 is sorts);
        history = t.answered.4;
        states = t.states;
        reads = λ get. absurd get;
        layout = t.layout;
        generation = t.generation;
        base = t.base;
        list = kept.0;
        stamps = λ n here. inl (ap (λ (stamp : ℕ → ℕ). stamp n) t.stamps);
        log = λ _. record { layer = t.layer; lines = inl (kept.0, lines); taken = inl (taken_kept s0 s t.layout kept) };
        short = λ short. (short_stays (world s0) (world s) t.layer t.ways short, walk_is_short s0 is0 still0.calls low words.hops short t.answered.3);
        weighs = omega arith;
      }
