-- A map of names that an updater keeps in order, as its calls change it.
use Rattle.std.specs.Prelude.{◌≡◌, ℕ, ◌+◌, ◌≤◌, List, All}
use Rattle.std.specs.FinMap.{len}
use Rattle.cat_history.specs.LoneRounds.{writes_of}
use Rattle.cat_history.specs.Maps.{Map}
use Rattle.cat_history.specs.Writes.{after_all}
use Rattle.cat_history.specs.declared.op.Op.{Op}
use Rattle.cat_history.specs.declared.plan.RoundPlan.{RoundPlan}
use Rattle.cat_history.specs.declared.record.Record.{Record}
use Rattle.cat_history.specs.declared.record.Reply.{Reply}
use Rattle.cat_text.specs.ReportGrammar.{IsReportRound}
use Rattle.cat_text.specs.declared.report.RoundReport.{RoundReport}
use Rattle.shapes.specs.Anchors.{Anchors}
use Rattle.shapes.specs.ShapeRounds.{PutsFull, anchors_after, anchors_end, one_added, puts_added}
use Rattle.shapes.specs.Weights.{IsShape, weight}
use Rattle.stopped_rounds.specs.Replies.{IsLeftBy}
use Rattle.core_rounds.specs.Rounds.{ArePlayed, IsPlayedRound, added_in}
use Rattle.core_rounds.specs.Waiting.{changes_in, changes_made, one_change}

-- The map, however it is kept, and where its members begin; how many names a member can have, how many members there
-- can be, and how many callers it has, each of which leaves what it has changed to the updater in lines of its own; how
-- many more calls can be made of it, and how many more of them can be puts and removals; and what it weighs.
pub record UpdatedState : Type 0 where
  pub contents : Map
  pub anchors : Anchors
  pub slots : ℕ
  pub most : ℕ
  pub callers : ℕ
  pub calls_left : ℕ
  pub writes_left : ℕ
  pub weighs : ℕ

-- Its members are of a shape that they can have, with room for two names each, and weigh no more than it does.
pub record IsInShape (s : UpdatedState) : Type 0 where
  pub shape : IsShape s.slots s.most s.contents s.anchors
  pub enough : 2 ≤ s.slots
  pub light : weight s.slots s.contents s.anchors ≤ s.weighs

-- It holds what it held, in the same members, and is no heavier.
pub record HoldsSame (s new : UpdatedState) : Type 0 where
  pub contents : new.contents ≡ s.contents
  pub anchors : new.anchors ≡ s.anchors
  pub weighs : new.weighs ≤ s.weighs

-- No call changes how many names a member can have, how many members there can be and how many callers it has.
pub record KeepsBounds (s new : UpdatedState) : Type 0 where
  pub slots : new.slots ≡ s.slots
  pub most : new.most ≡ s.most
  pub callers : new.callers ≡ s.callers

-- So many calls at most are used up, and so many puts and removals, and nothing else that it has room for.
pub record UsesUp (s new : UpdatedState) (calls writes : ℕ) : Type 0 where
  pub bounds : KeepsBounds s new
  pub calls_left : s.calls_left ≤ new.calls_left + calls
  pub writes_left : s.writes_left ≤ new.writes_left + writes

-- ---- what waits for the updater

-- The two say before and after how many changes of the members wait, and how many more puts and removals each caller
-- can make, of which so many are puts, before a call makes a turn itself. What waited waits, and there is as much room.
abbrev pub WaitOn : (ℕ → ℕ → ℕ → Type 0) → (ℕ → ℕ → ℕ → Type 0) → Type 0
WaitOn was now = (changes writes puts : ℕ) → was changes writes puts → now changes writes puts

-- So many changes more wait, behind so many puts and removals, of which so many are puts.
abbrev pub WaitBehind : (ℕ → ℕ → ℕ → Type 0) → (ℕ → ℕ → ℕ → Type 0) → ℕ → ℕ → ℕ → Type 0
WaitBehind was now made asked asked_puts = (changes writes puts : ℕ) →
    was changes (writes + asked) (puts + asked_puts) → now (changes + made) writes puts

-- ---- calls and rounds of one caller

-- A call was answered so: the map and its members are what that leaves, and it is heavier by one at most, and only
-- where the call added a name.
pub record IsLeftAs (s : UpdatedState) (op : Op) (reply : Reply) (new : UpdatedState) : Type 0 where
  pub contents : IsLeftBy s.contents op reply new.contents
  pub anchors : new.anchors ≡ anchors_after s.slots s.contents s.anchors op reply
  pub weighs : new.weighs ≤ s.weighs + one_added op reply

-- Such calls were answered one after another: the same, and it is heavier by no more than the puts that added a name.
pub record IsLeftAfter (s : UpdatedState) (records : List Record) (new : UpdatedState) : Type 0 where
  pub contents : new.contents ≡ after_all s.contents (writes_of records)
  pub anchors : new.anchors ≡ anchors_end s.slots s.contents s.anchors records
  pub weighs : new.weighs ≤ s.weighs + puts_added records

-- The call is a put that is full.
abbrev pub IsFullIn : UpdatedState → Op → Type 0
IsFullIn s op = PutsFull s.slots s.most s.contents s.anchors op

-- The round of the plan was played and reported so, from this state on, with the writes that its records tell.
abbrev pub IsPlayedFrom : UpdatedState → RoundPlan → RoundReport → Type 0
IsPlayedFrom s plan report =
    IsPlayedRound s.slots s.most s.contents s.anchors plan report (writes_of report.records)

-- Rounds of the plans were played and reported so, one after another, from this state to that one.
abbrev pub ArePlayedFrom : UpdatedState → List RoundPlan → List RoundReport → UpdatedState → Type 0
ArePlayedFrom s plans reports new = ArePlayed s.slots s.most s.weighs (len s.contents) s.contents s.anchors plans
    reports new.contents new.anchors

-- They are those of a report, and it is heavier, and has more names, by no more than the puts that added a name.
pub record AreReportedFrom (s : UpdatedState) (plans : List RoundPlan) (reports : List RoundReport)
    (new : UpdatedState) : Type 0 where
  pub played : ArePlayedFrom s plans reports new
  pub told : All IsReportRound reports
  pub weighs : new.weighs ≤ s.weighs + added_in reports
  pub names : len new.contents ≤ len s.contents + added_in reports

-- How many changes of the members are an answer to a call, the answers of records, and those of rounds.
abbrev pub change_by : UpdatedState → Op → Reply → ℕ
change_by s op reply = one_change s.slots s.contents s.anchors op reply

abbrev pub changes_by : UpdatedState → List Record → ℕ
changes_by s records = changes_in s.slots s.contents s.anchors records

abbrev pub changes_of_rounds : UpdatedState → List RoundReport → ℕ
changes_of_rounds s reports = changes_made s.slots s.contents s.anchors reports
