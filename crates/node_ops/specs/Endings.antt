-- What an answer says of the call that it ends: the place, the limit and the op.
use Rattle.std.specs.Prelude.{◌≡◌, ◌≢◌, ℕ, ◌≤◌, Option, Some, None, IsSomeAnd}
use Rattle.pm_words.specs.declared.layout.Layout.{Layout}
use Rattle.pm_words.specs.declared.action.Action.{Action}
use Rattle.pm_words.specs.declared.action.Action.TheVariants.{Add}
use Rattle.pm_words.specs.declared.again.Again.TheVariants.{NoFree}
use Rattle.pm_words.specs.declared.machine.Turn.TheVariants.{Go, Done}
use Rattle.cat_history.specs.declared.op.Change.{Change}
use Rattle.cat_history.specs.declared.op.NameOp.{NameOp}
use Rattle.cat_history.specs.declared.op.NameOp.TheVariants as op
use Rattle.cat_history.specs.Records.{change_of}
use Rattle.call_stages.specs.declared.once.Once.{Once}
use Rattle.call_stages.specs.declared.once.Once.TheVariants as once
use Rattle.call_stages.specs.declared.once.Placed.{Placed}
use Rattle.call_stages.specs.Kinds.{clock_address}
use Rattle.call_stages.specs.Stages.{Stage, Reads, Holds, Eyes, Meets, Joins, counted, placed_in}
use Rattle.node_ops.specs.declared.running.Running.{Running}
use Rattle.node_ops.specs.RunningSteps.{IsRunning, running_call, running_asks, running_turned}
use Rattle.node_ops.specs.Asked.{op_in}
use Rattle.node_ops.specs.CallStages.{stage_of}

-- The place that the clock gave to a change; where nothing changes there is none.
abbrev pub place_for : Option Change → ℕ → Option ℕ
place_for None place = None
place_for (Some change) place = Some place

-- The limit that a call holding its node knows its clock to be below.
abbrev pub limit_in : Stage → Option ℕ
limit_in (Holds n w h) = h.limit
limit_in (Reads n v k (Some h)) = h.limit
limit_in (Eyes n w h m v u free) = h.limit
limit_in (Meets n w h right) = h.limit
limit_in (Joins h left right pace) = h.limit
limit_in _ = None

abbrev pub IsPutOp : NameOp → Type 0
IsPutOp (op.Put name value) = Unit {0}
IsPutOp _ = ⊥

-- A call that is done: a write was counted at the place that it tells, a read was not counted; its clock was below its
-- own limit; and the hops are those of its walk.
pub record IsDone (running : Running) (placed : Placed) : Type 0 where
  pub place : placed_in (stage_of running) ≡ place_for (change_of (op_in running)) placed.place
  pub limit : limit_in (stage_of running) ≡ (running_call running).limit
  pub hops : placed.hops ≡ (running_call running).hops

abbrev pub DoneIsCounted : Type 0
DoneIsCounted = (running : Running) (x : ℕ) (placed : Placed) → IsRunning running →
    running_turned running x ≡ Done (once.Done placed) → IsDone running placed

-- A call that came too late was not counted, and has a limit, which the clock that it tells had reached.
pub record IsSpent (running : Running) (clock : ℕ) : Type 0 where
  pub unplaced : placed_in (stage_of running) ≡ None
  pub reached : IsSomeAnd (running_call running).limit (λ most. most ≤ clock)

abbrev pub SpentIsLate : Type 0
SpentIsLate = (running : Running) (x clock : ℕ) → IsRunning running →
    running_turned running x ≡ Done (once.Spent clock) → IsSpent running clock

-- Only a put is turned back because no node is free.
abbrev pub NoFreeIsOfPuts : Type 0
NoFreeIsOfPuts = (running : Running) (x : ℕ) → IsRunning running → running_turned running x ≡ Done (once.Again NoFree) →
    IsPutOp (op_in running)

-- A call that is worn or turned back was not counted.
abbrev pub WasUncounted : Once Placed → Type 0
WasUncounted (once.Done placed) = ⊥
WasUncounted (once.Spent clock) = ⊥
WasUncounted (once.Worn node word) = Unit {0}
WasUncounted (once.Again why) = Unit {0}

abbrev pub RefusedIsUncounted : Type 0
RefusedIsUncounted = (running : Running) (x : ℕ) (answer : Once Placed) → WasUncounted answer → IsRunning running →
    running_turned running x ≡ Done answer →
    placed_in (stage_of running) ≡ None

-- A turn that counts no change leaves the place as it is; one that counts a change adds to the clock, and the number
-- that this gives is the call's place, which had none.
abbrev pub GoesOn : Layout → Stage → Action → ℕ → Stage → Option Change → Type 0
GoesOn l stage action x next None = placed_in next ≡ placed_in stage
GoesOn l stage action x next (Some change) = (action ≡ Add (clock_address l)) × (placed_in stage ≡ None) ×
    (placed_in next ≡ Some x)

abbrev pub TurnsKeepPlace : Type 0
TurnsKeepPlace = (running next : Running) (x : ℕ) → IsRunning running → running_turned running x ≡ Go next →
    GoesOn (running_call running).view.layout (stage_of running) (running_asks running) x (stage_of next)
    (counted (stage_of running))

-- The last turn of a call counts nothing.
abbrev pub LastCountsNothing : Type 0
LastCountsNothing = (running : Running) (x : ℕ) (answer : Once Placed) → IsRunning running →
    running_turned running x ≡ Done answer → counted (stage_of running) ≡ None

-- Where a call has a place, its clock was below its own limit.
abbrev pub PlacedIsInTime : Type 0
PlacedIsInTime = (running : Running) → placed_in (stage_of running) ≢ None →
    limit_in (stage_of running) ≡ (running_call running).limit
