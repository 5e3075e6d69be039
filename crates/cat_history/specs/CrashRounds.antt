-- Rounds that a crash ends: how far each caller came, what the crash leaves, and what the records say of it.
use Rattle.std.specs.Prelude.{◌≡◌, ◌≢◌, ℕ, ◌<◌, ◌⊎◌, Bool, true, false, if◌then◌else◌, Option, Some, None, List}
use Rattle.std.specs.Prelude.{All, Contains, IfSome, map, slice_get}
use Rattle.std.specs.List.{filter_map}
use Rattle.cat_history.specs.Maps.{Map}
use Rattle.cat_history.specs.Writes.{after_all}
use Rattle.cat_history.specs.Records.{Call, change_asked}
use Rattle.cat_history.specs.Rounds.{IsLegalRound, IsAnswered}
use Rattle.cat_history.specs.CrashEnds.{IsFound, is_found, IsCrashEnd}
use Rattle.cat_history.specs.declared.op.Change.{Change}
use Rattle.cat_history.specs.declared.op.Op.{Op}
use Rattle.cat_history.specs.declared.op.Write.{Write}
use Rattle.cat_history.specs.declared.record.CutMark.{CutMark}
use Rattle.cat_history.specs.declared.record.CutMark.TheVariants.{At, Open, Found, Lost, Read}
use Rattle.cat_history.specs.declared.record.Record.{Record}
use Rattle.cat_history.specs.declared.record.Reply.{Reply}
use Rattle.cat_history.specs.declared.record.Reply.TheVariants.{Old, Parts, Full, Spent, Cut, Unstarted}

-- Each caller's records are answered ones, then at most one that was cut off, then unstarted ones: behind one that
-- isn't answered all are unstarted.
abbrev pub StopsOnce : List Record → Type 0
StopsOnce records = (r s : Record) → Contains records r → Contains records s → r.caller ≡ s.caller →
    r.index < s.index → IsAnswered r.reply ⊎ (s.reply ≡ Unstarted)

-- A caller with budget 0 begins no call, and one with more begins its first.
pub record KeepsBudget (budgets : List ℕ) (r : Record) : Type 0 where
  pub none : slice_get budgets r.caller ≡ Some 0 → r.reply ≡ Unstarted
  pub first : (budget : ℕ) → slice_get budgets r.caller ≡ Some budget → 0 < budget → r.index ≡ 0 →
      r.reply ≢ Unstarted

-- The reply has an open mark.
abbrev pub is_open : Reply → Bool
is_open (Cut Open) = true
is_open _ = false

-- The mark of a write that was cut off without a place.
abbrev pub is_unplaced : CutMark → Bool
is_unplaced (At place) = false
is_unplaced Open = true
is_unplaced Found = true
is_unplaced Lost = true
is_unplaced Read = false

-- A mark that tells no other place than this one, and isn't settled.
abbrev pub IsMarkNow : ℕ → CutMark → Type 0
IsMarkNow place (At at_place) = at_place ≡ place
IsMarkNow place Open = Unit {0}
IsMarkNow place Found = ⊥
IsMarkNow place Lost = ⊥
IsMarkNow place Read = Unit {0}

-- The change that was cut off without a place, if there was one.
abbrev pub change_cut : Op → Reply → Option Change
change_cut op (Old old place) = None
change_cut op (Parts parts cut) = None
change_cut op Full = None
change_cut op (Spent clock) = None
change_cut op (Cut mark) = if is_unplaced mark then change_asked op else None
change_cut op Unstarted = None

-- The changes that were cut off without a place, in the order of the records.
abbrev pub changes_cut : List Record → List Change
changes_cut records = filter_map (λ r. change_cut r.op r.reply) records

-- What a mark says of a change by the map that was found after the crash. An open mark says nothing yet.
abbrev pub Says : Map → Change → CutMark → Type 0
Says end change (At place) = Unit {0}
Says end change Open = ⊥
Says end change Found = IsFound end change
Says end change Lost = IsFound end change → ⊥
Says end change Read = Unit {0}

-- What a reply says of the change of its call, if that was cut off.
abbrev pub ReplySays : Map → Op → Reply → Type 0
ReplySays end op (Old old place) = Unit {0}
ReplySays end op (Parts parts cut) = Unit {0}
ReplySays end op Full = Unit {0}
ReplySays end op (Spent clock) = Unit {0}
ReplySays end op (Cut mark) = IfSome (change_asked op) (λ change. Says end change mark)
ReplySays end op Unstarted = Unit {0}

-- The mark is open or tells no more than the call itself knows.
abbrev pub IsUnsettled : Reply → Type 0
IsUnsettled (Old old place) = Unit {0}
IsUnsettled (Parts parts cut) = Unit {0}
IsUnsettled Full = Unit {0}
IsUnsettled (Spent clock) = Unit {0}
IsUnsettled (Cut mark) = (mark ≢ Found) × (mark ≢ Lost)
IsUnsettled Unstarted = Unit {0}

-- A legal round that stopped at a crash, as far as its callers know: each came as far as its budget let it, and what
-- became of a write that was cut off without a place is open.
pub record IsStoppedRound (base : Map) (calls : List Call) (limit : ℕ) (budgets : List ℕ) (records : List Record)
    (writes : List Write) : Type 0 where
  pub legal : IsLegalRound base calls limit records writes
  pub once : StopsOnce records
  pub budget : All (KeepsBudget budgets) records
  pub unsettled : All (λ r. IsUnsettled r.reply) records

-- A crash round, once its map was found again: that is the map after all placed writes and after those of the changes
-- cut off without a place that are found in it, and each mark says whether its own is. Of one name all that are found
-- leave the same, so it doesn't matter in which order they come.
pub record IsCrashRound (base : Map) (calls : List Call) (limit : ℕ) (budgets : List ℕ) (records : List Record)
    (writes : List Write) (end : Map) : Type 0 where
  pub legal : IsLegalRound base calls limit records writes
  pub once : StopsOnce records
  pub budget : All (KeepsBudget budgets) records
  pub leaves : IsCrashEnd (after_all base writes) (changes_cut records) end
  pub says : All (λ r. ReplySays end r.op r.reply) records

-- Whether the map shows the change of a call; one that changes nothing is not shown.
abbrev pub is_shown : Map → Option Change → Bool
is_shown end None = false
is_shown end (Some change) = is_found end change

-- The mark once the map was asked: an open one is found or lost, every other stays.
abbrev pub settled_mark : Map → Option Change → CutMark → CutMark
settled_mark end change (At place) = At place
settled_mark end change Open = if is_shown end change then Found else Lost
settled_mark end change Found = Found
settled_mark end change Lost = Lost
settled_mark end change Read = Read

abbrev pub settled_reply : Map → Op → Reply → Reply
settled_reply end op (Old old place) = Old old place
settled_reply end op (Parts parts cut) = Parts parts cut
settled_reply end op Full = Full
settled_reply end op (Spent clock) = Spent clock
settled_reply end op (Cut mark) = Cut (settled_mark end (change_asked op) mark)
settled_reply end op Unstarted = Unstarted

-- The record with its mark settled by this map.
abbrev pub settled : Map → Record → Record
settled end r = record { caller = r.caller; index = r.index; op = r.op; reply = settled_reply end r.op r.reply }

abbrev pub all_settled : Map → List Record → List Record
all_settled end records = map (settled end) records

-- A round that stopped at a crash is a crash round once its marks are settled by the map that was found, if that is one
-- that the crash may leave.
abbrev pub SettledIsCrashRound : Type 0
SettledIsCrashRound = (base : Map) (calls : List Call) (limit : ℕ) (budgets : List ℕ) (records : List Record)
    (writes : List Write) (end : Map) → IsStoppedRound base calls limit budgets records writes →
    IsCrashEnd (after_all base writes) (changes_cut records) end →
    IsCrashRound base calls limit budgets (all_settled end records) writes end
