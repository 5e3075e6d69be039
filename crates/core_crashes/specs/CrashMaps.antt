-- The index, called by one caller within budgets of events, up to a call that is cut off, as a map of names. A turn of
-- the updater may be cut off before.
use Rattle.std.specs.Prelude.{◌≡◌, ℕ, ◌+◌, ◌<◌, ◌≤◌, ◌^◌, Bool, true, false, if◌then◌else◌, List}
use Rattle.std.specs.Prelude.{[], ◌∷◌, length, Option, Some, None, Result, Ok, Err, MatchResult}
use Rattle.version_lock.specs.declared.TheConstants.{LAST_COUNT}
use Rattle.cat_history.specs.Maps.{Map, map_of, at}
use Rattle.cat_history.specs.Records.{as_op, change_of}
use Rattle.cat_history.specs.Writes.{changed}
use Rattle.cat_history.specs.declared.op.CallerOp.{CallerOp}
use Rattle.cat_history.specs.declared.op.Change.{Change}
use Rattle.cat_history.specs.declared.op.Change.TheVariants.{Put, Del}
use Rattle.cat_history.specs.declared.op.NameOp.{NameOp}
use Rattle.cat_history.specs.declared.op.Write.{Write}
use Rattle.call_stages.specs.Stages.{pended}
use Rattle.core_rounds.specs.node_ops.specs.Asked.{name_asked}
use Rattle.shapes.specs.Anchors.{Anchors, put_anchors, del_anchors}
use Rattle.shapes.specs.ShapeRounds.{PutsFull}
use Rattle.shapes.specs.Weights.{IsShape}
use Rattle.shapes.specs.declared.map.Full.{Full}
use Rattle.index_law.specs.Anchors.{anchors_in}
use Rattle.core_rounds.specs.index_core.specs.declared.party.CoreCall.{CoreCall}
use Rattle.core_rounds.specs.index_core.specs.CoreCalls.{op_of}
use Rattle.core_rounds.specs.index_core.specs.Crashes.{cut_changes}
use Rattle.core_rounds.specs.index_core.specs.Fulls.{HasLowStamps}
use Rattle.core_rounds.specs.index_core.specs.Indexes.{Index, IsIndex, map_of_index, world}
use Rattle.core_rounds.specs.index_core.specs.Lone.{HasShortWays, IsQuiet, IsStill}
use Rattle.core_rounds.specs.index_core.specs.Weights.{added_if, put_count}
use Rattle.index_law.specs.Weights.{weight_sum}
use Rattle.core_rounds.specs.CoreMaps.{Waits, calls_left_of, writes_left_of}
use Rattle.core_rounds.specs.Waiting.{puts_among, writes_among}
use Rattle.stopped_rounds.specs.Bounded.{MapState, IsSame, WasCut}
use Rattle.stopped_rounds.specs.declared.bounded_map.Bounded.{Bounded}
use Rattle.stopped_rounds.specs.declared.bounded_map.Bounded.TheVariants as bounded

-- Where the members begin once a change is made, and once all the writes are.
abbrev pub anchors_changed : ℕ → Map → Anchors → Change → Anchors
anchors_changed slots m anchors (Put name value) = put_anchors slots m anchors name
anchors_changed slots m anchors (Del name) = del_anchors slots m anchors name

abbrev pub anchors_by : ℕ → Map → Anchors → List Write → Anchors
anchors_by slots m anchors [] = anchors
anchors_by slots m anchors (w ∷ ws) =
    anchors_by slots (changed m w.change) (anchors_changed slots m anchors w.change) ws

-- Where the members begin by the writes of the index, if they began so before those.
abbrev pub members_by : Anchors → Index → Anchors
members_by first s = anchors_by s.layout.slots (map_of s.base) first s.history

-- The index, whether a call was cut off, and is in flight; whether a turn of the updater was; and whether the call has
-- its place. Where it has, the members begin where the listed nodes do.
pub record Stoppable : Type 0 where
  pub index : Index
  pub stopped : Bool
  pub turning : Bool
  pub placed : Bool

abbrev pub members_of : Anchors → Stoppable → Anchors
members_of first m = if m.placed then anchors_in (world m.index) else members_by first m.index

-- The map of all placed writes, and what was cut off without a place.
abbrev pub state_of : Anchors → Stoppable → MapState
state_of first m = record {
  contents = map_of_index m.index;
  anchors = members_of first m;
  cut = cut_changes m.index.states;
}

-- How many more calls it can have, and how many of them can be puts and deletes. Behind a call that was cut off the
-- next ones are cut off at once.
abbrev pub calls_of : Stoppable → ℕ
calls_of m = if m.stopped then LAST_COUNT else calls_left_of m.index

abbrev pub writes_of : Stoppable → ℕ
writes_of m = if m.stopped then 2 ^ 62 else writes_left_of m.index

-- What it weighs, with what deletes that aren't counted yet have lowered it by. A crash leaves no more.
abbrev pub weighs_of : Stoppable → ℕ
weighs_of m = weight_sum (world m.index)

-- None of these calls, made one after another by any one caller, makes a turn of the updater itself: ways are short,
-- for each put and delete there is an EMPTY log line of each caller, and for each put a FREE node; and when all are
-- made no more than eight lines are READY.
pub record MakeNoTurns (s : Index) (asked : List CallerOp) : Type 0 where
  pub short : HasShortWays s
  pub changes : ℕ
  pub few : changes + writes_among asked ≤ 8
  pub waits : Waits s changes (writes_among asked) (puts_among asked)

-- So it is where no call was cut off. A turn of the updater may have been.
pub record IsTurnless (m : Stoppable) (asked : List CallerOp) : Type 0 where
  pub going : m.stopped ≡ false
  pub turnless : MakeNoTurns m.index asked

-- There is room for these calls, made one after another with turns of the updater between: no turn was cut off, there
-- are as many more nodes as there are puts among them, and as many calls are left.
pub record FindRoom (first : Anchors) (m : Stoppable) (asked : List CallerOp) : Type 0 where
  pub turns : m.turning ≡ false
  pub nodes : length (members_of first m) + puts_among asked < m.index.layout.nodes
  pub calls : length asked ≤ calls_of m

-- Behind a turn of the updater so many calls make no turns, as many as a caller has log lines.
abbrev pub most_between : ℕ
most_between = 8

-- No call is in flight, and for each caller no turn but one that has stopped under the updater lock. The members begin
-- where the writes say.
pub record IsGoing (first : Anchors) (s : Index) : Type 0 where
  pub still : (caller : ℕ) → caller < s.layout.callers → IsStill caller s
  pub anchors : anchors_in (world s) ≡ members_by first s

-- A turn can be made: no other one is in flight either, and no node has a stamp that turns don't release.
pub record CanTurn (s : Index) : Type 0 where
  pub quiet : IsQuiet s
  pub stamps : HasLowStamps s

-- The one is so until a call is cut off, and the other until a turn is, which then is in flight. The members are always
-- of a shape that they can have.
pub record IsStoppable (first : Anchors) (m : Stoppable) : Type 0 where
  pub index : IsIndex m.index
  pub going : m.stopped ≡ false → IsGoing first m.index
  pub can_turn : m.stopped ≡ false → m.turning ≡ false → CanTurn m.index
  pub turns : m.stopped ≡ false → m.turning ≡ true → IsQuiet m.index → ⊥
  pub unplaced : m.stopped ≡ false → m.placed ≡ false
  pub shape : IsShape m.index.layout.slots m.index.layout.nodes (map_of_index m.index) (members_of first m)

-- Where the members begin behind a call that took place.
abbrev pub anchors_left : ℕ → MapState → Option Change → Anchors
anchors_left slots s None = s.anchors
anchors_left slots s (Some change) = anchors_changed slots s.contents s.anchors change

-- A call on a name was answered: it is full exactly where it is so in the shape, and then nothing has changed; else it
-- was told the number that the name had, and made its change.
abbrev pub Gave : ℕ → ℕ → MapState → CoreCall → Result (Option ℕ) Full → MapState → Type 0
Gave slots most s c answer new = MatchResult answer
    (λ old. (PutsFull slots most s.contents s.anchors (as_op (op_of c)) → ⊥) ×
    (old ≡ at s.contents (name_asked (op_of c))) ×
    (new.contents ≡ pended (change_of (op_of c)) s.contents) ×
    (new.anchors ≡ anchors_left slots s (change_of (op_of c))) × (new.cut ≡ s.cut))
    (λ _. PutsFull slots most s.contents s.anchors (as_op (op_of c)) × IsSame s new)

-- One for a put that added a name, or may have added it, since it was cut off.
abbrev pub added_within : NameOp → Bounded (Result (Option ℕ) Full) → ℕ
added_within asked (bounded.Answered (Ok old)) = added_if asked old
added_within asked (bounded.Answered (Err full)) = 0
added_within asked (bounded.Cut placed) = put_count asked

-- It was cut off. One that changes nothing leaves all as it was.
abbrev pub WasCutBy : MapState → Option Change → Bool → MapState → Type 0
WasCutBy s None placed new = IsSame s new
WasCutBy s (Some change) placed new = WasCut s change placed new
