-- Bursts: turns of a call one after another, with nothing between.
use Rattle.std.specs.Prelude.{◌≡◌, ℕ, zero, suc, ◌+◌, ◌≤◌, Option, None}
use Rattle.pm_words.specs.declared.machine.Turn.{Turn}
use Rattle.pm_words.specs.Images.{Row}
use Rattle.pm_words.specs.Turns.{GoesBelow, turn_of}
use Rattle.machine_runs.specs.Runs.{AddsNothing, Bursts, MayGo}
use Rattle.call_stages.specs.declared.once.Once.{Once}
use Rattle.call_stages.specs.declared.once.Placed.{Placed}
use Rattle.node_ops.specs.declared.running.Running.{Running}
use Rattle.node_ops.specs.CallStages.{reply_of}
use Rattle.node_ops.specs.RunningSteps.{running_asks, running_left, running_takes, running_turned}
use Rattle.index_core.specs.Indexes.{Index, IsIndex, IsInFlight, room_of, stepped_index, told}

-- One turn of the party's call and its answer, if that ends it: of `TurnsTo` what a call needs that is alone.
pub record TurnsOn (old : Index) (party : ℕ) (new : Index) (result : Option (Once Placed)) : Type 0 where
  pub of : IsInFlight old party
  pub is : new ≡ stepped_index old party of.state of.machine new.spare
  pub answers : result ≡ reply_of (running_turned of.machine (told old of.machine))
  -- it has fewer actions left
  pub fewer : GoesBelow running_left (running_left of.machine) (running_turned of.machine (told old of.machine))
  pub index : IsIndex new
  pub room : room_of old ≤ room_of new  -- no room is lost

-- So many turns of the party's call that go on, one after another.
pub data TurnsAlong (old : Index) (party : ℕ) : Index → ℕ → Type 0 where
  at_first : TurnsAlong old party old zero
  one_more : {now next : Index} {turns : ℕ} → TurnsAlong old party now turns → TurnsOn now party next None →
      TurnsAlong old party next (suc turns)

-- A burst of the party's call: turns that go on, and one more, with its answer, if that ends the call. Each takes one
-- event.
pub record BurstsTo (old : Index) (party : ℕ) (new : Index) (result : Option (Once Placed)) (begun ended : ℕ) :
    Type 0 where
  pub last : Index
  pub turns : ℕ
  pub before : TurnsAlong old party last turns
  pub turn : TurnsOn last party new result
  pub steps : ended ≡ begun + (turns + 1)

-- What a burst of a call in flight needs: wherever it comes to, its action can be done, and the first adds to no word.
abbrev pub MayBurst : Row → Running → Type 0
MayBurst row machine = MayGo running_asks running_turned running_left running_takes row.layout row.words machine ×
    AddsNothing (running_asks machine)

-- A burst of this machine in place, which is the next one then, and has answered so, if it has.
abbrev pub BurstsInPlace : Row → Row → Running → Running → Option (Once Placed) → ℕ → ℕ → Type 0
BurstsInPlace old new machine next result begun ended =
    Bursts running_asks running_turned running_left old new machine (turn_of next result) begun ended

-- A burst of this machine, of whose end this holds.
pub record BurstsSo (old new : Row) (first : Running) (begun ended : ℕ)
    (comes : Turn Running (Once Placed) → Type 0) : Type 0 where
  pub end : Turn Running (Once Placed)
  pub bursts : Bursts running_asks running_turned running_left old new first end begun ended
  pub so : comes end
