-- What a call leaves of the log lines and of the search layer that is made with nothing else in flight.
use Rattle.std.specs.Prelude.{◌≡◌, ◌≢◌, ℕ, ◌+◌, ◌*◌, ◌/◌, ◌<◌, ◌==◌, ◌⊎◌, Bool, true, false, List, Option, Some, None}
use Rattle.call_stages.specs.declared.once.Once.{Once}
use Rattle.call_stages.specs.declared.once.Once.TheVariants as once
use Rattle.call_stages.specs.declared.once.Placed.{Placed}
use Rattle.pm_words.specs.Codes.{empty_state, ready_state, open_state}
use Rattle.pm_words.specs.declared.again.Again.TheVariants as again
use Rattle.call_stages.specs.Stages.{Stage, Idle, Tells}
use Rattle.call_stages.specs.Lines.{HeldLine}
use Rattle.call_stages.specs.Footings.{Footing, FootStep}
use Rattle.call_stages.specs.Prevs.{Debt}
use Rattle.cat_history.specs.declared.op.Change.{Change}
use Rattle.data_node.specs.Spots.{Spot}
use Rattle.pm_words.specs.Rows.{got}
use Rattle.pm_words.specs.declared.action.Action.{Action}
use Rattle.pm_words.specs.Offsets.{state_offset}
use mathlib.Core.Option.{some}
use lib.ListN.{get_elem?}
use Rattle.lone_call_law.specs.node_ops.specs.CallStages.{footing_of}
use Rattle.lone_call_law.specs.node_ops.specs.declared.running.Running.{Running}
use Rattle.index_layer_law.specs.Layers.{Layered, IsLayered}
use Rattle.index_law.specs.LoneShapes.{has_merged}
use Rattle.index_law.specs.Worlds.{Party, World, stepped, moved_on}
use Rattle.index_layer_law.specs.search_layer.specs.Kept.{layer_of}
use Rattle.updater_law.specs.Covers.{set_at}
use Rattle.index_layer_law.specs.updater_row_law.specs.Columns.{line_count}
use Rattle.index_layer_law.specs.Turnings.{line_number}
use Rattle.lone_call_law.specs.Merging.{HasKeptList, IsMergedSince}
use Rattle.lone_call_law.specs.Tries.{Trying, Says, is_cut}
use Rattle.lone_updater_law.specs.LoneTurns.{line_state, is_ready}
use Rattle.updater.specs.Events.{how_many}

-- The search layer leads each key where it led.
abbrev pub KeepsLayer : World → World → Type 0
KeepsLayer w0 w = layer_of w.layout w.words ≡ layer_of w0.layout w0.words

-- Each log line has the state that it had.
abbrev pub KeepsLines : World → World → Type 0
KeepsLines w0 w = line_state w ≡ line_state w0

-- One log line of this caller, which was EMPTY, is READY, and each other line has the state that it had.
pub record MakesReady (caller : ℕ) (w0 w : World) : Type 0 where
  pub line : ℕ
  pub within : line < line_count w0.layout
  pub own : line / 8 ≡ caller
  pub was_empty : line_state w0 line ≡ empty_state
  pub is : line_state w ≡ set_at (line_state w0) line ready_state

-- How many log lines are READY.
abbrev pub ready_lines : World → ℕ
ready_lines w = how_many (is_ready w) (line_count w.layout)

-- How many of this caller's log lines are EMPTY.
abbrev pub is_own_empty : ℕ → World → ℕ → Bool
is_own_empty caller w j = line_state w (8 * caller + j) == empty_state

abbrev pub empty_lines : ℕ → World → ℕ
empty_lines caller w = how_many (is_own_empty caller w) 8

-- The READY ones are one more, or as many,
abbrev pub ReadyAreCounted : Type 0
ReadyAreCounted = (caller : ℕ) (w0 w : World) → w.layout ≡ w0.layout →
    (KeepsLines w0 w → ready_lines w ≡ ready_lines w0) × (MakesReady caller w0 w → ready_lines w ≡ ready_lines w0 + 1)

-- and the EMPTY ones one fewer.
abbrev pub EmptyAreCounted : Type 0
EmptyAreCounted = (caller : ℕ) (w0 w : World) →
    (KeepsLines w0 w → empty_lines caller w ≡ empty_lines caller w0) ×
    (MakesReady caller w0 w → empty_lines caller w + 1 ≡ empty_lines caller w0)

-- The call has made the switch of its split or of its merge, or it hasn't.
abbrev pub HasSwitched : Stage → Type 0
HasSwitched s = (is_cut s ≡ true) ⊎ (has_merged s ≡ true)

abbrev pub HasNotSwitched : Stage → Type 0
HasNotSwitched s = (is_cut s ≡ false) × (has_merged s ≡ false)

-- What a call has made of its line, which was EMPTY: by the switch it is OPEN, and READY only behind that.
pub record IsOwnLine (caller : ℕ) (w0 w : World) (s : Stage) (e : HeldLine) : Type 0 where
  pub own : e.caller ≡ caller
  pub was_empty : line_state w0 (line_number e) ≡ empty_state
  pub others : (j : ℕ) → j ≢ line_number e → line_state w j ≡ line_state w0 j
  pub readied : e.ready ≡ true → (line_state w (line_number e) ≡ ready_state) × HasSwitched s
  pub opened : e.ready ≡ false → HasSwitched s → line_state w (line_number e) ≡ open_state

abbrev pub StandsSo : ℕ → World → World → Stage → Option HeldLine → Type 0
StandsSo caller w0 w s None = (HasNotSwitched s × KeepsLines w0 w) ⊎ (HasSwitched s × MakesReady caller w0 w)
StandsSo caller w0 w s (Some e) = IsOwnLine caller w0 w s e

-- How far a call of this caller is with the log, by its stage and its line.
pub record LogStands (caller : ℕ) (w0 w : World) (f : Footing) : Type 0 where
  pub layer : KeepsLayer w0 w
  pub lines : StandsSo caller w0 w f.stage f.line

-- What a try leaves of the lines, by its answer: one that split its node or merged two has made one line READY.
abbrev pub LeavesLines : List ℕ → ℕ → World → World → Once Placed → Type 0
LeavesLines name caller w0 w (once.Again (again.NeedsSplit node)) = MakesReady caller w0 w
LeavesLines name caller w0 w (once.Done placed) = (HasKeptList w0 w × KeepsLines w0 w)
    ⊎ (IsMergedSince name w0 w × MakesReady caller w0 w)
LeavesLines name caller w0 w answer = KeepsLines w0 w

-- A call's line is READY only behind its switch, and OPEN at least from there on.
abbrev pub IsInStep : Stage → Option HeldLine → Type 0
IsInStep s None = Unit {0}
IsInStep s (Some e) = ((e.ready ≡ true) × HasSwitched s)
    ⊎ (((e.ready ≡ false) × HasNotSwitched s)
    ⊎ ((e.ready ≡ false) × ((t : Spot) → Tells e.seen t → t state_offset ≡ open_state)))

-- So it is of each call in flight.
abbrev pub CallsAreInStep : Type 0
CallsAreInStep = (machine : Running) → IsInStep (footing_of machine).stage (footing_of machine).line

-- Each step of a lone call leaves the log so,
abbrev pub LogGoes : Type 0
LogGoes = (name : List ℕ) (own : Option Change) (w0 : World) (z : Layered) (i : ℕ) (p : Party) (foot next : Footing)
    (action : Action) (x : ℕ) → IsLayered z → Trying name own w0 i z.whole.world p →
    Trying name own w0 i (stepped z.whole.world i p action next.stage) (moved_on p next.stage) →
    get_elem? z.whole.lines i ≡ some foot.line → get_elem? z.whole.debts i ≡ some foot.debt → p.stage ≡ foot.stage →
    LogStands p.caller w0 z.whole.world foot →
    FootStep z.whole.world.layout z.whole.world.generation p.caller foot action x next None →
    x ≡ got z.whole.world.layout z.whole.world.words action → IsInStep next.stage next.line →
    LogStands p.caller w0 (stepped z.whole.world i p action next.stage) next

-- and its last step, which gives an answer.
abbrev pub LogEnds : Type 0
LogEnds = (name : List ℕ) (own : Option Change) (w0 : World) (z : Layered) (i : ℕ) (p : Party) (foot : Footing)
    (debt : Debt) (action : Action) (x : ℕ) (answer : Once Placed) → IsLayered z →
    Trying name own w0 i z.whole.world p →
    get_elem? z.whole.lines i ≡ some foot.line → p.stage ≡ foot.stage → LogStands p.caller w0 z.whole.world foot →
    FootStep z.whole.world.layout z.whole.world.generation p.caller foot action x
    (record { stage = Idle; line = None; debt = debt }) (Some answer) →
    Says w0 (stepped z.whole.world i p action Idle) name own p.stage answer →
    KeepsLayer w0 (stepped z.whole.world i p action Idle) ×
    LeavesLines name p.caller w0 (stepped z.whole.world i p action Idle) answer
