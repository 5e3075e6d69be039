-- Rounds in which one caller alone has calls, in the shape of the index: which puts are full, and what the calls make
-- of the anchors; and how the shape goes on from round to round.
use Rattle.std.specs.Prelude.{◌≡◌, ℕ, ◌+◌, ◌*◌, ◌/◌, ◌≤◌, ◌↔◌, Bool, MatchBool, ◌&&◌, List, [], ◌∷◌, All, None}
use Rattle.std.specs.FinMap.{len}
use Rattle.cat_history.specs.Maps.{Map}
use Rattle.cat_history.specs.Writes.{after_all}
use Rattle.cat_history.specs.LoneRounds.{write_of, writes_of, IsLoneRound}
use Rattle.cat_history.specs.Rounds.{answered_records}
use Rattle.cat_history.specs.declared.op.Op.{Op}
use Rattle.cat_history.specs.declared.op.Op.TheVariants.{Put, Get, Del, Scan}
use Rattle.cat_history.specs.declared.record.Record.{Record}
use Rattle.cat_history.specs.declared.record.Reply.{Reply}
use Rattle.cat_history.specs.declared.record.Reply.TheVariants.{Old, Parts, Full, Spent, Cut, Unstarted}
use Rattle.shapes.specs.Anchors.{Anchors, next_of, IsFullPut, put_anchors, del_anchors}
use Rattle.shapes.specs.Weights.{IsShape, weight}

-- The anchors after a call that was answered so: a call that reads or is refused leaves them.
abbrev pub anchors_after : ℕ → Map → Anchors → Op → Reply → Anchors
anchors_after slots m anchors (Put name value) (Old old place) = put_anchors slots m anchors name
anchors_after slots m anchors (Del name) (Old old place) = del_anchors slots m anchors name
anchors_after slots m anchors op reply = anchors

-- The fact P holds of each record, with the map and the anchors that the records before it leave.
abbrev pub HoldsInShape : ℕ → (Map → Anchors → Record → Type 0) → Map → Anchors → List Record → Type 0
HoldsInShape slots P m anchors [] = Unit {0}
HoldsInShape slots P m anchors (r ∷ records) =
    P m anchors r × HoldsInShape slots P (after_all m (write_of r)) (anchors_after slots m anchors r.op r.reply) records

-- The anchors that the records leave.
abbrev pub anchors_end : ℕ → Map → Anchors → List Record → Anchors
anchors_end slots m anchors [] = anchors
anchors_end slots m anchors (r ∷ records) =
    anchors_end slots (after_all m (write_of r)) (anchors_after slots m anchors r.op r.reply) records

-- A put that is full.
abbrev pub PutsFull : ℕ → ℕ → Map → Anchors → Op → Type 0
PutsFull slots nodes m anchors (Put name value) = IsFullPut slots nodes m anchors name
PutsFull slots nodes m anchors (Get name) = ⊥
PutsFull slots nodes m anchors (Del name) = ⊥
PutsFull slots nodes m anchors (Scan from count) = ⊥

-- A call is answered full exactly where it is a put that is full in the shape that the earlier calls left.
abbrev pub IsFullByShape : ℕ → ℕ → Map → Anchors → List Record → Type 0
IsFullByShape slots nodes base anchors records =
    HoldsInShape slots (λ m shape r. (r.reply ≡ Full) ↔ PutsFull slots nodes m shape r.op) base anchors records

-- Each part of a scan ends with a member: where the one behind that of its low name begins, or nowhere, where there is
-- none.
abbrev pub EndsWithMembers : Anchors → Reply → Type 0
EndsWithMembers anchors (Old old place) = Unit {0}
EndsWithMembers anchors (Parts parts cut) = All (λ part. part.high ≡ next_of anchors part.low) parts
EndsWithMembers anchors Full = Unit {0}
EndsWithMembers anchors (Spent clock) = Unit {0}
EndsWithMembers anchors (Cut mark) = Unit {0}
EndsWithMembers anchors Unstarted = Unit {0}

-- The parts of each scan are bounded by the shape that the earlier calls left.
abbrev pub IsBoundedByShape : ℕ → Map → Anchors → List Record → Type 0
IsBoundedByShape slots base anchors records =
    HoldsInShape slots (λ m shape r. EndsWithMembers shape r.reply) base anchors records

-- One for the record of a put that added a name, or was cut off: that one may have added it.
abbrev pub one_added : Op → Reply → ℕ
one_added (Put name value) (Old None place) = 1
one_added (Put name value) (Cut mark) = 1
one_added op reply = 0

-- How many puts of the records added a name, those that were cut off among them.
abbrev pub puts_added : List Record → ℕ
puts_added [] = 0
puts_added (r ∷ records) = one_added r.op r.reply + puts_added records

-- A call is answered full only where the nodes are paid for by this weight, and the slots of one by so many names.
abbrev pub FullIsPaid : ℕ → ℕ → ℕ → ℕ → Record → Type 0
FullIsPaid slots nodes weighs names r = r.reply ≡ Full → (nodes * (slots / 2) ≤ weighs) × (slots ≤ names)

-- What such a round comes to: its end is a shape that the nodes can hold, it weighs no more than the opening and the
-- puts that added a name, and those pay for each full answer.
pub record RoundInShape (slots nodes : ℕ) (base : Map) (anchors : Anchors) (records : List Record) : Type 0 where
  pub shape : IsShape slots nodes (after_all base (writes_of records)) (anchors_end slots base anchors records)
  pub weighs : weight slots (after_all base (writes_of records)) (anchors_end slots base anchors records) ≤ weight
      slots base anchors + puts_added records
  pub names : len (after_all base (writes_of records)) ≤ len base + puts_added records
  pub paid : All (FullIsPaid slots nodes (weight slots base anchors + puts_added records)
      (len base + puts_added records)) records

abbrev pub LoneRoundsKeepShape : Type 0
LoneRoundsKeepShape = (slots nodes : ℕ) (base : Map) (anchors : Anchors) (records : List Record) → 2 ≤ slots →
    IsShape slots nodes base anchors →
    IsLoneRound base records → IsFullByShape slots nodes base anchors records →
    RoundInShape slots nodes base anchors records

-- ---- from round to round

-- What a report tells of a round, as far as shapes go: whether one caller at most has calls in it, whether it was
-- joined, its records, and the map that it leaves.
pub record ToldRound : Type 0 where
  pub lone : Bool
  pub joined : Bool
  pub records : List Record
  pub end : Map

-- A shape with so many names, and no heavier than this.
pub record IsShapeWithin (slots nodes weighs names : ℕ) (m : Map) (anchors : Anchors) : Type 0 where
  pub shape : IsShape slots nodes m anchors
  pub light : weight slots m anchors ≤ weighs
  pub few : len m ≤ names

-- Where one caller at most has calls, joined or not, those that were answered are so by the map and the shape; in any
-- other round the full ones are paid for.
abbrev pub AnswersInShape : ℕ → ℕ → ℕ → ℕ → Map → Anchors → ToldRound → Type 0
AnswersInShape slots nodes weighs names m anchors round =
    MatchBool round.lone
    (IsLoneRound m (answered_records round.records) ×
    IsFullByShape slots nodes m anchors (answered_records round.records))
    (All (FullIsPaid slots nodes weighs names) round.records)

-- Where that round was joined, the next shape is what its calls made of this one. After any other round the next one
-- only has its bounds.
abbrev pub LeavesShape : ℕ → ℕ → ℕ → ℕ → Map → Anchors → ToldRound → Anchors → Type 0
LeavesShape slots nodes weighs names m anchors round next =
    MatchBool (round.lone && round.joined)
    ((round.end ≡ after_all m (writes_of (answered_records round.records)))
    × (next ≡ anchors_end slots m anchors (answered_records round.records)))
    (IsShapeWithin slots nodes weighs names round.end next)

-- One round from an opening shape to the next.
abbrev pub GoesOnFrom : ℕ → ℕ → ℕ → ℕ → Map → Anchors → ToldRound → Anchors → Type 0
GoesOnFrom slots nodes weighs names m anchors round next =
    AnswersInShape slots nodes weighs names m anchors round × LeavesShape slots nodes weighs names m anchors round next

-- All rounds, each from the shape that the one before left. The weight and the names at the opening rise by the puts
-- that added a name, up to the end of each round.
abbrev pub GoOn : ℕ → ℕ → ℕ → ℕ → Map → Anchors → List ToldRound → Type 0
GoOn slots nodes weighs names m anchors [] = Unit {0}
GoOn slots nodes weighs names m anchors (round ∷ rounds) =
    (next : Anchors) × GoesOnFrom slots nodes (weighs + puts_added round.records) (names + puts_added round.records) m
    anchors round next
    × GoOn slots nodes (weighs + puts_added round.records) (names + puts_added round.records) round.end next rounds

-- In every round, lone or not, a full answer is paid for by the opening weight and names and the puts that added a name
-- up to its end.
abbrev pub ArePaid : ℕ → ℕ → ℕ → ℕ → List ToldRound → Type 0
ArePaid slots nodes weighs names [] = Unit {0}
ArePaid slots nodes weighs names (round ∷ rounds) =
    All (FullIsPaid slots nodes (weighs + puts_added round.records) (names + puts_added round.records)) round.records
    × ArePaid slots nodes (weighs + puts_added round.records) (names + puts_added round.records) rounds

abbrev pub RoundsArePaid : Type 0
RoundsArePaid = (slots nodes weighs names : ℕ) (m : Map) (anchors : Anchors) (rounds : List ToldRound) → 2 ≤ slots →
    IsShapeWithin slots nodes weighs names m anchors → GoOn slots nodes weighs names m anchors rounds →
    ArePaid slots nodes weighs names rounds
