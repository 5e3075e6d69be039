-- Rounds in which one caller alone has calls: each is answered by the map as the earlier ones left it.
use Rattle.std.specs.Prelude.{◌≡◌, ℕ, ◌+◌, ◌≤◌, ◌↔◌, false, List, [], ◌∷◌, All, map, length}
use Rattle.std.specs.Option.{option_to_list}
use Rattle.cat_history.specs.Maps.{Map, LacksRoom}
use Rattle.cat_history.specs.Writes.{after_all}
use Rattle.cat_history.specs.Records.{placed_write, placed_writes, numbered, call_of}
use Rattle.cat_history.specs.Rounds.{IsPut, IsWriter, IsOld, AreItsParts, IsJoinedRound}
use Rattle.cat_history.specs.declared.op.CallerOp.{CallerOp}
use Rattle.cat_history.specs.declared.op.Op.{Op}
use Rattle.cat_history.specs.declared.op.Op.TheVariants.{Put, Get, Del, Scan}
use Rattle.cat_history.specs.declared.op.Write.{Write}
use Rattle.cat_history.specs.declared.record.Record.{Record}
use Rattle.cat_history.specs.declared.record.Reply.{Reply}
use Rattle.cat_history.specs.declared.record.Reply.TheVariants.{Old, Parts, Full, Spent, Cut, Unstarted}

-- The write of a record that has a place: one or none.
abbrev pub write_of : Record → List Write
write_of r = map (λ (w : ℕ × Write). w.1) (option_to_list (placed_write r))

-- The writes of the records that have a place, in the order of the records.
abbrev pub writes_of : List Record → List Write
writes_of records = map (λ (w : ℕ × Write). w.1) (placed_writes records)

-- The fact P holds of each record, with the map and the number of writes that the records before it leave.
abbrev pub HoldsAlong : (Map → ℕ → Record → Type 0) → Map → ℕ → List Record → Type 0
HoldsAlong P m place [] = Unit {0}
HoldsAlong P m place (r ∷ records) =
    P m place r × HoldsAlong P (after_all m (write_of r)) (place + length (write_of r)) records

-- A reply that is given at once: the number or the names that the map has now, at the place where the history ends now.
-- A put or a delete that finds the limit reached saw just that place.
abbrev pub IsAnswerNow : Map → ℕ → Op → Reply → Type 0
IsAnswerNow m place op (Old old at_place) = IsOld m op old × (at_place ≡ place)
IsAnswerNow m place op (Parts parts cut) =
    (cut ≡ false) × AreItsParts (λ _. m) op cut parts × All (λ part. part.place ≡ place) parts
IsAnswerNow m place op Full = IsPut op
IsAnswerNow m place op (Spent clock) = IsWriter op × (clock ≡ place)
IsAnswerNow m place op (Cut mark) = ⊥
IsAnswerNow m place op Unstarted = ⊥

-- Each call is answered by the map as the earlier ones left it.
abbrev pub IsLoneRound : Map → List Record → Type 0
IsLoneRound base records = HoldsAlong (λ m place r. IsAnswerNow m place r.op r.reply) base 0 records

-- A put for which there is no room.
abbrev pub PutsWithoutRoom : ℕ → Map → Op → Type 0
PutsWithoutRoom room m (Put name value) = LacksRoom room m name
PutsWithoutRoom room m (Get name) = ⊥
PutsWithoutRoom room m (Del name) = ⊥
PutsWithoutRoom room m (Scan from count) = ⊥

-- A call is answered full exactly where it is a put of a name that the map lacks while it has as many names as there
-- is room for.
abbrev pub IsFullExactly : ℕ → Map → List Record → Type 0
IsFullExactly room base records =
    HoldsAlong (λ m place r. (r.reply ≡ Full) ↔ PutsWithoutRoom room m r.op) base 0 records

abbrev pub IsSpent : Reply → Type 0
IsSpent (Old old place) = ⊥
IsSpent (Parts parts cut) = ⊥
IsSpent Full = ⊥
IsSpent (Spent clock) = Unit {0}
IsSpent (Cut mark) = ⊥
IsSpent Unstarted = ⊥

-- A call is answered spent exactly where it is a put or a delete and the placed writes before it reach the limit.
abbrev pub IsSpentExactly : ℕ → Map → List Record → Type 0
IsSpentExactly limit base records =
    HoldsAlong (λ m place r. IsSpent r.reply ↔ (IsWriter r.op × (limit ≤ place))) base 0 records

-- Whoever alone has calls, and however they are full: a round whose calls are answered at once, and spent exactly by
-- the limit, is legal, and each call of it was answered.
abbrev pub LoneRoundsAreLegal : Type 0
LoneRoundsAreLegal = (base : Map) (caller : ℕ) (asked : List CallerOp) (limit : ℕ) (records : List Record) →
    All (λ a. a.caller ≡ caller) asked → map call_of records ≡ numbered asked → IsLoneRound base records →
    IsSpentExactly limit base records →
    IsJoinedRound base (numbered asked) limit records (writes_of records) (after_all base (writes_of records))
