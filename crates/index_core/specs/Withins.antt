-- Calls that are made with no other in flight, within a budget of events, and what is in flight where one is cut off. A
-- turn of the updater may be, which has stopped under the updater lock.
use Rattle.std.specs.Prelude.{◌≡◌, ℕ, ◌+◌, ◌<◌, ◌≤◌, ◌⊎◌, [], ◌∷◌, ◌++◌, length, slice_set, Option, Some, None, IfSome}
use mathlib.Core.Option.{some}
use lib.ListN.{get_elem?}
use Rattle.cat_history.specs.Records.{change_of}
use Rattle.cat_history.specs.declared.op.Change.{Change}
use Rattle.call_stages.specs.Stages.{placed_in}
use Rattle.call_stages.specs.declared.once.Once.{Once}
use Rattle.call_stages.specs.declared.once.Placed.{Placed}
use Rattle.node_ops.specs.declared.running.Running.{Running}
use Rattle.node_ops.specs.Asked.{op_in}
use Rattle.node_ops.specs.CallStages.{stage_of}
use Rattle.index_law.specs.Anchors.{anchors_in}
use Rattle.index_law.specs.Weights.{weight_sum}
use Rattle.lone_hops_law.specs.lone_call_law.specs.LoneCalls.{FindsFull}
use Rattle.lone_hops_law.specs.lone_updater_law.specs.CallLogs.{ready_lines}
use Rattle.updater.specs.declared.making.MakeTurn.{MakeTurn}
use Rattle.index_core.specs.declared.party.CoreCall.{CoreCall}
use Rattle.index_core.specs.declared.party.PartyState.{PartyState}
use Rattle.index_core.specs.declared.party.Whole.{Whole}
use Rattle.index_core.specs.declared.party.Whole.TheVariants as whole
use Rattle.index_core.specs.declared.party.Within.{Within}
use Rattle.index_core.specs.declared.party.Within.TheVariants as within
use Rattle.index_core.specs.CoreCalls.{op_of}
use Rattle.index_core.specs.Costs.{behind_actions, look_actions, room_actions}
use Rattle.index_core.specs.Crashes.{cut_change, cut_changes}
use Rattle.index_core.specs.Indexes.{Index, IsBusy, world}
use Rattle.index_core.specs.Lone.{HasShortWays, IsQuiet, IsStill, LoseAtMost, RunsAlone}
use Rattle.index_core.specs.Lone.{TakesEachLock, TakesLocks, TriesAlone, TriesBehindTurn, locks_left}
use Rattle.index_core.specs.Weights.{put_count, weight_of}

-- The place of the write of a call in flight, if it has one.
abbrev pub flight_place : Option Running → Option ℕ
flight_place None = None
flight_place (Some machine) = placed_in (stage_of machine)

-- The call has written nothing, and its flight has no place; or it has written its change, at the end of the history,
-- and its flight has that place.
abbrev pub HasWritten : Index → ℕ → ℕ → CoreCall → Option Running → Index → Type 0
HasWritten old caller index c flight new =
    ((flight_place flight ≡ None) × (new.history ≡ old.history))
    ⊎ ((change : Change) × (change_of (op_of c) ≡ Some change) × (flight_place flight ≡ Some (length old.history)) ×
    (new.history ≡ old.history ++ record { caller = caller; index = index; change = change } ∷ []))

-- A call of this party is cut off: it is in flight, or a turn is that it wanted, and nothing else is.
pub record CutsOff (old : Index) (caller : ℕ) (c : CoreCall) (new : Index) : Type 0 where
  pub state : PartyState
  pub there : get_elem? old.states caller ≡ some state
  pub cut : PartyState
  pub states : new.states ≡ slice_set old.states caller cut
  pub own : cut.caller ≡ state.caller
  pub index : cut.index ≡ state.index
  pub makes : IfSome cut.machine (λ machine. op_in machine ≡ op_of c)
  pub writes : HasWritten old state.caller state.index c cut.machine new
  pub layout : new.layout ≡ old.layout
  pub generation : new.generation ≡ old.generation
  pub base : new.base ≡ old.base
  pub busy : IsBusy new caller
  -- with what deletes that aren't counted yet have lowered it by, it weighs one more at most, and that for a put
  pub weighs : weight_sum (world new) ≤ weight_of old + put_count (op_of c)
  -- it has taken no more locks than if it were answered
  pub each_lock : TakesEachLock caller c old new
  pub locks : TakesLocks caller c old new

-- One try of a call is cut off, or the turn is behind which it was to be made: of each node one lock is taken at most.
pub record CutsTryOff (old : Index) (caller : ℕ) (c : CoreCall) (new : Index) : Type 0 where
  pub off : CutsOff old caller c new
  pub each_lock : LoseAtMost 1 old new
  pub locks : locks_left old ≤ locks_left new + 1

-- A turn of this party is cut off. The map and the list are as they were, and so are the locks that nodes have left.
pub record CutsTurnOff (old : Index) (party : ℕ) (new : Index) : Type 0 where
  pub state : PartyState
  pub there : get_elem? old.states party ≡ some state
  pub making : MakeTurn
  pub states : new.states ≡ slice_set old.states party (record state { turn = Some making })
  pub history : new.history ≡ old.history
  pub layout : new.layout ≡ old.layout
  pub generation : new.generation ≡ old.generation
  pub base : new.base ≡ old.base
  pub spare : new.spare ≡ old.spare
  pub anchors : anchors_in (world new) ≡ anchors_in (world old)
  pub each_lock : LoseAtMost 0 old new
  pub locks : locks_left old ≤ locks_left new
  pub weighs : weight_sum (world new) ≤ weight_of old

-- A try that was answered leaves room, and takes few locks.
pub record TriedAlone (old : Index) (caller : ℕ) (c : CoreCall) (new : Index) (answer : Once Placed) : Type 0 where
  pub tries : TriesAlone old caller c new answer
  pub quiet : IsQuiet old → IsQuiet new
  pub still : (party : ℕ) → IsStill party old → IsStill party new
  pub spare : old.spare + length old.history ≤ new.spare + length new.history
  pub each_lock : LoseAtMost 1 old new
  pub locks : locks_left old ≤ locks_left new + 1

-- The same behind a turn, which was made with nothing else in flight.
pub record TriedBehindTurn (old : Index) (caller : ℕ) (c : CoreCall) (new : Index) (answer : Once Placed) : Type 0 where
  pub tries : TriesBehindTurn old caller c new answer
  pub before : IsQuiet old
  pub quiet : IsQuiet new
  pub spare : old.spare + length old.history ≤ new.spare + length new.history

-- And of a whole call, which is answered that there is no room only behind a turn of its own.
pub record RanAlone (old : Index) (caller : ℕ) (c : CoreCall) (new : Index) (result : Whole) : Type 0 where
  pub runs : RunsAlone old caller c new result
  pub full : result ≡ whole.Full → IsQuiet old
  pub quiet : IsQuiet old → IsQuiet new
  pub still : (party : ℕ) → IsStill party old → IsStill party new
  pub spare : old.spare + length old.history ≤ new.spare + length new.history
  pub each_lock : TakesEachLock caller c old new
  pub locks : TakesLocks caller c old new

-- What a call comes to within a budget: the first holds of its answer, or the second where it was cut off.
abbrev pub ComesTo : {T : Type 0} → Option T → (T → Type 0) → Type 0 → Type 0
ComesTo (Some answer) answered cut = answered answer
ComesTo None answered cut = cut

-- The same of a whole call of any kind, of which nothing holds but the third where it wasn't begun.
abbrev pub EndsWithin : Within → (Whole → Type 0) → Type 0 → Type 0 → Type 0
EndsWithin (within.Answered result) answered cut unstarted = answered result
EndsWithin within.Cut answered cut unstarted = cut
EndsWithin within.Unstarted answered cut unstarted = unstarted

-- It takes so many events at most: where it was answered it has made no more of them, from the first number to the
-- second, and where it was cut off the budget was below that.
abbrev pub ComesInTime : {T : Type 0} → Option T → ℕ → ℕ → ℕ → ℕ → Type 0
ComesInTime result budget before after most = ComesTo result (λ _. after ≤ before + most) (budget < most)

abbrev pub EndsInTime : Within → ℕ → ℕ → ℕ → ℕ → Type 0
EndsInTime result budget before after most =
    EndsWithin result (λ _. after ≤ before + most) (budget < most) (Unit {0})

-- So one try of a call, on an index whose ways are short, also of a put whose node has room for its name.
abbrev pub TriesInTime : {T : Type 0} → Index → CoreCall → Option T → ℕ → ℕ → ℕ → Type 0
TriesInTime s c result budget before after = HasShortWays s →
    ComesInTime result budget before after
    (look_actions s.layout (ready_lines (world s)) + behind_actions s.layout c) ×
    (¬ FindsFull (world s) (op_of c) → ComesInTime result budget before after
    (look_actions s.layout (ready_lines (world s)) + room_actions s.layout c))

-- A crash behind a call that was cut off may find that call's own change, where it has no place yet, and behind a turn
-- none.
abbrev pub CutLeavesOne : Type 0
CutLeavesOne = (old new : Index) (i : ℕ) (c : CoreCall) → IsStill i old → (t : CutsOff old i c new) →
    cut_changes new.states ≡ cut_change t.cut.machine

abbrev pub CutTurnLeavesNone : Type 0
CutTurnLeavesNone = (old new : Index) (i : ℕ) → IsStill i old → CutsTurnOff old i new → cut_changes new.states ≡ []
