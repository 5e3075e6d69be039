-- One definition for all that is said along the records of a lone round: of the map and the place, and of the shape.
use Rattle.std.specs.Prelude.{◌≡◌, ℕ, ◌+◌, ◌≤◌, ◌↔◌, List, [], ◌∷◌, length}
use Rattle.cat_history.specs.Maps.{Map}
use Rattle.cat_history.specs.Writes.{after_all}
use Rattle.cat_history.specs.LoneRounds.{write_of, IsLoneRound, IsFullExactly, IsSpentExactly}
use Rattle.cat_history.specs.declared.op.Op.{Op}
use Rattle.cat_history.specs.declared.op.Op.TheVariants.{Put, Get, Del, Scan}
use Rattle.cat_history.specs.declared.record.Record.{Record}
use Rattle.cat_history.specs.declared.record.Reply.TheVariants.{Full}
use Rattle.shapes.specs.Anchors.{Anchors}
use Rattle.shapes.specs.Weights.{IsShape}
use Rattle.shapes.specs.ShapeRounds.{anchors_after, PutsFull, IsFullByShape, RoundInShape}

-- The fact P holds of each record, with what the records before it leave; next says what one record leaves.
abbrev pub HoldsFrom : {S : Type 0} → (S → Record → S) → (S → Record → Type 0) → S → List Record → Type 0
HoldsFrom next P s [] = Unit {0}
HoldsFrom next P s (r ∷ records) = P s r × HoldsFrom next P (next s r) records

-- Where an index stands between two calls of a lone caller: its map, its anchors, and how many writes of the round have
-- a place.
pub record Standing : Type 0 where
  pub map : Map
  pub anchors : Anchors
  pub place : ℕ

-- Where it stands as a round begins.
abbrev pub opening : Map → Anchors → Standing
opening base anchors = record { map = base; anchors = anchors; place = 0 }

-- Where it stands after a record.
abbrev pub stands_after : ℕ → Standing → Record → Standing
stands_after slots s r =
    record {
      map = after_all s.map (write_of r);
      anchors = anchors_after slots s.map s.anchors r.op r.reply;
      place = s.place + length (write_of r);
    }

-- A call of an op that writes comes at or past the limit; so it is refused, whatever the shape is.
abbrev pub ComesLate : ℕ → Standing → Op → Type 0
ComesLate limit s (Put name value) = limit ≤ s.place
ComesLate limit s (Get name) = ⊥
ComesLate limit s (Del name) = limit ≤ s.place
ComesLate limit s (Scan from count) = ⊥

-- A call is answered full exactly where it comes in time and is a put that is full in the shape as it stands. Nodes
-- that merges take away come back, so that there can be as many members as nodes at each call.
abbrev pub IsFullInTime : (slots nodes limit : ℕ) → Standing → List Record → Type 0
IsFullInTime slots nodes limit s records =
    HoldsFrom (stands_after slots) (λ s r. (r.reply ≡ Full) ↔ ((ComesLate limit s r.op → ⊥) ×
    PutsFull slots nodes s.map s.anchors r.op)) s records

-- What a lone round under a limit comes to: the calls that are refused leave map and shape, so it is the same as
-- without a limit.
abbrev pub TimelyRoundsArePaid : Type 0
TimelyRoundsArePaid = (slots nodes limit : ℕ) (base : Map) (anchors : Anchors) (records : List Record) → 2 ≤ slots →
    IsShape slots nodes base anchors → IsLoneRound base records → IsSpentExactly limit base records →
    IsFullInTime slots nodes limit (opening base anchors) records → RoundInShape slots nodes base anchors records

-- On one node, full by the shape is full by the room.
abbrev pub OneNodeRounds : Type 0
OneNodeRounds = (slots : ℕ) (base : Map) (records : List Record) → 2 ≤ slots → IsShape slots 1 base ([] ∷ []) →
    IsLoneRound base records →
    IsFullExactly slots base records ↔ IsFullByShape slots 1 base ([] ∷ []) records
