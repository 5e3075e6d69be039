-- Rounds in which one caller alone has calls, and which a crash ends.
use Rattle.std.specs.Prelude.{◌≡◌, ◌≢◌, ℕ, ◌<◌, ◌⊎◌, true, List, [], ◌∷◌, ◌++◌, All, map, length, slice_get, Some}
use Rattle.cat_history.specs.Maps.{Map}
use Rattle.cat_history.specs.Writes.{after_all}
use Rattle.cat_history.specs.Records.{numbered, call_of}
use Rattle.cat_history.specs.Rounds.{IsWriter, IsItsMark, AreItsParts, answered_records}
use Rattle.cat_history.specs.LoneRounds.{writes_of, IsLoneRound, IsSpentExactly}
use Rattle.cat_history.specs.CrashRounds.{IsMarkNow, IsStoppedRound}
use Rattle.cat_history.specs.declared.op.CallerOp.{CallerOp}
use Rattle.cat_history.specs.declared.op.Op.{Op}
use Rattle.cat_history.specs.declared.record.Record.{Record}
use Rattle.cat_history.specs.declared.record.Reply.{Reply}
use Rattle.cat_history.specs.declared.record.Reply.TheVariants.{Old, Parts, Full, Spent, Cut, Unstarted}

-- What is said of a call that was cut off as the history is so long: of a write that it has this place, or that it has
-- none, and only of one that began below the limit; of a scan the parts that it had listed of the map as it is.
abbrev pub IsCutNow : ℕ → Map → ℕ → Op → Reply → Type 0
IsCutNow limit m place op (Old old at_place) = ⊥
IsCutNow limit m place op (Parts parts cut) =
    (cut ≡ true) × AreItsParts (λ _. m) op cut parts × All (λ part. part.place ≡ place) parts
IsCutNow limit m place op Full = ⊥
IsCutNow limit m place op (Spent clock) = ⊥
IsCutNow limit m place op (Cut mark) = IsItsMark op mark × IsMarkNow place mark × (IsWriter op → place < limit)
IsCutNow limit m place op Unstarted = ⊥

abbrev pub AreUnstarted : List Record → Type 0
AreUnstarted records = All (λ r. r.reply ≡ Unstarted) records

-- One that was cut off, or not begun, and none behind it was begun.
abbrev pub IsStop : ℕ → Map → ℕ → List Record → Type 0
IsStop limit m place [] = Unit {0}
IsStop limit m place (r ∷ rs) = ((r.reply ≡ Unstarted) ⊎ IsCutNow limit m place r.op r.reply) × AreUnstarted rs

-- Some first calls were answered at once, by the map as the earlier ones left it and spent exactly by the limit, and
-- there the others stopped.
pub record IsLoneStop (limit : ℕ) (base : Map) (records : List Record) : Type 0 where
  pub done : List Record
  pub rest : List Record
  pub is : records ≡ done ++ rest
  pub answers : IsLoneRound base done
  pub spent : IsSpentExactly limit base done
  pub stops : IsStop limit (after_all base (writes_of done)) (length (writes_of done)) rest

-- The first call was begun, if there is one.
abbrev pub BeginsFirst : List Record → Type 0
BeginsFirst [] = Unit {0}
BeginsFirst (r ∷ rs) = r.reply ≢ Unstarted

-- With this budget: none was begun without one, and the first was begun with one.
pub record IsWithin (budget : ℕ) (records : List Record) : Type 0 where
  pub none : budget ≡ 0 → AreUnstarted records
  pub first : 0 < budget → BeginsFirst records

-- Such a round is a legal one that stopped.
abbrev pub LoneStopsAreStoppedRounds : Type 0
LoneStopsAreStoppedRounds = (base : Map) (caller budget : ℕ) (asked : List CallerOp) (limit : ℕ) (budgets : List ℕ)
    (records : List Record) → All (λ a. a.caller ≡ caller) asked → map call_of records ≡ numbered asked →
    slice_get budgets caller ≡ Some budget → IsWithin budget records → IsLoneStop limit base records →
    IsStoppedRound base (numbered asked) limit budgets records (writes_of records)

-- The answered calls of such a round are those first ones.
abbrev pub AnsweredAreDone : Type 0
AnsweredAreDone = (limit : ℕ) (base : Map) (records : List Record) → (stop : IsLoneStop limit base records) →
    answered_records records ≡ stop.done
