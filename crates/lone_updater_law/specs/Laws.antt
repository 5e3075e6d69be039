-- A turn of the updater with nothing else in flight: how it begins, and each turn of its machine, to its answer.
use Rattle.std.specs.Prelude.{◌≡◌, ◌≢◌, ℕ, ◌^◌, ◌<◌, ◌≤◌, List}
use mathlib.Core.Option.{some}
use lib.ListN.{get_elem?}
use Rattle.pm_words.specs.declared.layout.Layout.{Layout}
use Rattle.pm_words.specs.declared.machine.Turn.{Turn}
use Rattle.pm_words.specs.declared.machine.Turn.TheVariants.{Go, Done}
use Rattle.pm_words.specs.Rows.{CanAct, got}
use Rattle.call_stages.specs.Watches.{Nothing}
use Rattle.data_list.specs.declared.target.Target.{Target}
use Rattle.data_list.specs.declared.target.Walked.TheVariants as walked
use Rattle.data_list.specs.Still.{IsOnWay}
use Rattle.index_law.specs.Facts.{version_in}
use Rattle.index_law.specs.Worlds.{World, facts}
use Rattle.smo_log.specs.declared.line.Entry.{Entry}
use Rattle.index_layer_law.specs.updater_row_law.specs.RowStages.{Between}
use Rattle.index_layer_law.specs.updater_row_law.specs.Turnings.{Turning}
use Rattle.updater.specs.declared.taking.Took.TheVariants.{Taken}
use Rattle.updater.specs.declared.terms.Terms.{Terms}
use Rattle.updater.specs.declared.terms.Turned.{Turned}
use Rattle.updater.specs.declared.work.Work.{Work}
use Rattle.updater.specs.declared.work.WorkAt.{WorkAt}
use Rattle.updater.specs.declared.work.WorkAt.TheVariants as at
use Rattle.updater.specs.Takings.{taking_asks, took_of}
use Rattle.updater.specs.Works.{IsWork, work_from, work_asks, work_turned, work_takes}
use Rattle.updater.specs.Events.{Heard, HasHeard}
use Rattle.updater.specs.Steps.{row_terms, work_stage}
use Rattle.updater.specs.Watches.{turning_at, work_turning, turning_after}
use Rattle.lone_call_law.specs.There.{nodes_in}
use Rattle.index_layer_law.specs.Layers.{Layered, IsLayered}
use Rattle.index_layer_law.specs.Laws.{IsAtRest, turned}
use Rattle.lone_updater_law.specs.LoneTurns.{line_state, stamp_then, status_then, IsIdle, KeepsNodes, IsLoneTurn}
use Rattle.lone_updater_law.specs.Marks.{marks_in, HasDone}

-- The terms of a turn in this world.
abbrev pub terms_in : World → ℕ → ℕ → Terms
terms_in w stamp release = record {
  layout = w.layout;
  generation = w.generation;
  stamp = stamp;
  release = release;
}

-- Whatever else is in flight, the action of a turn can be done, what that gives may be told, and the index keeps its
-- search layer.
pub record TurnActs (z : Layered) (i : ℕ) (work : Work) (x : ℕ) : Type 0 where
  pub can : CanAct z.whole.world.layout z.whole.world.words (work_asks work)
  pub takes : work_takes work x
  pub kept : IsLayered (turned z i (work_asks work) (turning_after work.terms (work_turned work x)))

abbrev pub TurnsAct : Type 0
TurnsAct = (z : Layered) (i : ℕ) (work : Work) (x : ℕ) → IsLayered z → get_elem? z.turns i ≡ some (work_turning work) →
    work.terms ≡ terms_in z.whole.world work.terms.stamp work.terms.release → work.terms.stamp < 2 ^ 64 →
    IsWork work → x ≡ got z.whole.world.layout z.whole.world.words (work_asks work) → TurnActs z i work x

-- Where its walk is: on its way to the target of the line's anchor; and that target's version word is as it was seen.
abbrev pub WalkStands : Layout → List ℕ → WorkAt → Type 0
WalkStands l words (at.Walking line entry walk) = (hops : ℕ) × IsOnWay l (nodes_in l words) hops walk
WalkStands l words (at.Seeing line entry found) = found.version ≡ version_in l words found.node
WalkStands l words _ = Unit {0}

-- What it is told follows from the index as it began, but for what the line at hand says, and the target of its walk.
abbrev pub heard_from : World → ℕ → ℕ → Entry → Target → Heard
heard_from w stamp release entry target = record {
  state = line_state w;
  entry = λ line. entry;
  walked = λ line. walked.Target target;
  second = λ line. target.version;
  status = (facts w).status;
  stamp = stamp_then w stamp;
  version = (facts w).version;
  last = status_then w stamp release;
}

pub record Hears (before : World) (stamp release : ℕ) (work : Work) : Type 0 where
  pub entry : Entry
  pub target : Target
  pub heard : HasHeard work.terms (heard_from before stamp release entry target) work.tally work.at

-- The party i is in a turn that began as the index was `before`, and nothing else is in flight.
pub record LoneTurning (before : Layered) (stamp release i : ℕ) (work : Work) (now : Layered) : Type 0 where
  pub began : IsIdle before
  pub layered : IsLayered now
  pub kept : KeepsNodes before now
  pub there : get_elem? now.turns i ≡ some (work_turning work)
  pub others : (j : ℕ) (t : Turning) → get_elem? now.turns j ≡ some t → j ≢ i → IsAtRest t
  pub terms : work.terms ≡ terms_in now.whole.world stamp release
  pub small : stamp < 2 ^ 64
  pub sound : IsWork work
  pub done : HasDone before.whole.world stamp release (marks_in now.whole.world) (work_stage work)
  pub walk : WalkStands now.whole.world.layout now.whole.world.words work.at
  pub hears : Hears before.whole.world stamp release work

-- The index once a party whose turn rests has taken the updater lock for another one.
abbrev pub turn_taken : Layered → ℕ → ℕ → ℕ → Layered
turn_taken z i stamp release =
    turned z i (taking_asks z.whole.world.layout)
    (turning_at (row_terms (terms_in z.whole.world stamp release)) (Between 0) Nothing)

-- With nothing in flight a party takes the updater lock, and is in its turn then.
pub record TurnBegins (z : Layered) (stamp release i : ℕ) : Type 0 where
  pub can : CanAct z.whole.world.layout z.whole.world.words (taking_asks z.whole.world.layout)
  pub takes : got z.whole.world.layout z.whole.world.words (taking_asks z.whole.world.layout) < 2 ^ 64
  pub taken : took_of (got z.whole.world.layout z.whole.world.words (taking_asks z.whole.world.layout)) ≡ Taken
  pub turning : LoneTurning z stamp release i
      (work_from z.whole.world.layout z.whole.world.generation stamp release) (turn_taken z i stamp release)

abbrev pub TurnsBegin : Type 0
TurnsBegin = (z : Layered) (i : ℕ) (t : Turning) (stamp release : ℕ) → IsIdle z → get_elem? z.turns i ≡ some t →
    1 ≤ stamp → stamp < 2 ^ 64 → TurnBegins z stamp release i

-- Then each of its actions can be done, what that gives may be told, and it goes on, or is done.
abbrev pub GoesOn : Layered → ℕ → ℕ → ℕ → Turn Work Turned → Layered → Type 0
GoesOn before stamp release i (Go work) now = LoneTurning before stamp release i work now
GoesOn before stamp release i (Done answer) now = IsLoneTurn before stamp release answer now

pub record TurnGoes (before : Layered) (stamp release i : ℕ) (work : Work) (z : Layered) (x : ℕ) : Type 0 where
  pub can : CanAct z.whole.world.layout z.whole.world.words (work_asks work)
  pub takes : work_takes work x
  pub on : GoesOn before stamp release i (work_turned work x)
      (turned z i (work_asks work) (turning_after work.terms (work_turned work x)))

abbrev pub TurnsGo : Type 0
TurnsGo = (before : Layered) (stamp release i : ℕ) (work : Work) (z : Layered) (x : ℕ) →
    LoneTurning before stamp release i work z → x ≡ got z.whole.world.layout z.whole.world.words (work_asks work) →
    TurnGoes before stamp release i work z x
