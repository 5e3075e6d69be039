-- What the calls of rounds leave to the updater: the changes of the shape that they make.
use Rattle.std.specs.Prelude.{◌≡◌, ℕ, ◌+◌, Bool, if◌then◌else◌, List, [], ◌∷◌, All}
use Rattle.std.specs.List.{sum_by}
use Rattle.cat_history.specs.Maps.{Map}
use Rattle.cat_history.specs.Writes.{after_all}
use Rattle.cat_history.specs.LoneRounds.{write_of, writes_of}
use Rattle.cat_history.specs.declared.op.CallerOp.{CallerOp}
use Rattle.cat_history.specs.declared.op.Op.{Op}
use Rattle.cat_history.specs.declared.op.Op.TheVariants.{Put, Get, Del, Scan}
use Rattle.cat_history.specs.declared.plan.RoundPlan.{RoundPlan}
use Rattle.cat_history.specs.declared.record.Record.{Record}
use Rattle.cat_history.specs.declared.record.Reply.{Reply}
use Rattle.cat_history.specs.declared.record.Reply.TheVariants.{Old}
use Rattle.cat_text.specs.declared.report.RoundReport.{RoundReport}
use Rattle.shapes.specs.Anchors.{Anchors, merges, splits}
use Rattle.shapes.specs.ShapeRounds.{anchors_after, anchors_end}

-- One for a put, and one for a put or a delete.
abbrev pub one_put : Op → ℕ
one_put (Put name value) = 1
one_put (Get name) = 0
one_put (Del name) = 0
one_put (Scan from count) = 0

abbrev pub one_write : Op → ℕ
one_write (Put name value) = 1
one_write (Get name) = 0
one_write (Del name) = 1
one_write (Scan from count) = 0

-- How many calls are puts, and how many are puts or deletes.
abbrev pub puts_among : List CallerOp → ℕ
puts_among asked = sum_by (λ (a : CallerOp). one_put a.op) asked

abbrev pub writes_among : List CallerOp → ℕ
writes_among asked = sum_by (λ (a : CallerOp). one_write a.op) asked

-- The same of the calls of rounds.
abbrev pub puts_asked : List RoundPlan → ℕ
puts_asked plans = sum_by (λ (plan : RoundPlan). puts_among plan.ops) plans

abbrev pub writes_asked : List RoundPlan → ℕ
writes_asked plans = sum_by (λ (plan : RoundPlan). writes_among plan.ops) plans

-- In none of the rounds the updater makes a turn.
abbrev pub HaveNoTurns : List RoundPlan → Type 0
HaveNoTurns plans = All (λ (plan : RoundPlan). plan.updater ≡ 0) plans

-- One where it is so.
abbrev pub one_if : Bool → ℕ
one_if b = if b then 1 else 0

-- One for a call that was answered so and changes the shape: a put that splits, or a delete that merges.
abbrev pub one_change : ℕ → Map → Anchors → Op → Reply → ℕ
one_change slots m anchors (Put name value) (Old old place) = one_if (splits slots m anchors name)
one_change slots m anchors (Del name) (Old old place) = one_if (merges slots m anchors name)
one_change slots m anchors op reply = 0

-- How many of the records are of such a call,
abbrev pub changes_in : ℕ → Map → Anchors → List Record → ℕ
changes_in slots m anchors [] = 0
changes_in slots m anchors (r ∷ records) = one_change slots m anchors r.op r.reply +
    changes_in slots (after_all m (write_of r)) (anchors_after slots m anchors r.op r.reply) records

-- and how many are of rounds, one after another.
abbrev pub changes_made : ℕ → Map → Anchors → List RoundReport → ℕ
changes_made slots m anchors [] = 0
changes_made slots m anchors (report ∷ reports) = changes_in slots m anchors report.records +
    changes_made slots (after_all m (writes_of report.records)) (anchors_end slots m anchors report.records) reports
