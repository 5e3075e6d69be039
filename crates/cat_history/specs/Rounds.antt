-- Which rounds are legal.
use Rattle.std.specs.Prelude.{◌≡◌, ◌≢◌, ℕ, ◌<◌, ◌≤◌, Bool, true, false, not, List, ◌++◌, All, Contains, Option, IfSome}
use Rattle.std.specs.Prelude.{length, map}
use Rattle.std.specs.List.{enumerate_from, filter}
use Rattle.std.specs.List.Sorted.{IsPermutation}
use Rattle.cat_history.specs.Callers.{PlacesKeepLimit}
use Rattle.cat_history.specs.Maps.{Map, at}
use Rattle.cat_history.specs.Scans.{IsLegalScan}
use Rattle.cat_history.specs.Writes.{after, after_all}
use Rattle.cat_history.specs.Records.{Call, call_of, placed_writes, interval}
use Rattle.cat_history.specs.declared.op.Op.{Op}
use Rattle.cat_history.specs.declared.op.Op.TheVariants.{Put, Get, Del, Scan}
use Rattle.cat_history.specs.declared.op.Write.{Write}
use Rattle.cat_history.specs.declared.record.CutMark.{CutMark}
use Rattle.cat_history.specs.declared.record.CutMark.TheVariants.{Read}
use Rattle.cat_history.specs.declared.record.Record.{Record}
use Rattle.cat_history.specs.declared.record.Reply.{Reply}
use Rattle.cat_history.specs.declared.record.Reply.TheVariants.{Old, Parts, Full, Spent, Cut, Unstarted}
use Rattle.cat_history.specs.declared.record.ScanPart.{ScanPart}

-- There is one record for each call, with its caller, index and op, and no other record.
abbrev pub RecordsEachCall : List Call → List Record → Type 0
RecordsEachCall calls records = IsPermutation calls (map call_of records)

-- The writes by place: the records' places are 0, 1, 2 and so on, each once.
abbrev pub AreWritesByPlace : List Record → List Write → Type 0
AreWritesByPlace records writes = IsPermutation (placed_writes records) (enumerate_from 0 writes)

abbrev pub IsPut : Op → Type 0
IsPut (Put name value) = Unit {0}
IsPut (Get name) = ⊥
IsPut (Del name) = ⊥
IsPut (Scan from count) = ⊥

-- The op asks for a write.
abbrev pub IsWriter : Op → Type 0
IsWriter (Put name value) = Unit {0}
IsWriter (Get name) = ⊥
IsWriter (Del name) = Unit {0}
IsWriter (Scan from count) = ⊥

-- The op is on one name.
abbrev pub IsOnName : Op → Type 0
IsOnName (Put name value) = Unit {0}
IsOnName (Get name) = Unit {0}
IsOnName (Del name) = Unit {0}
IsOnName (Scan from count) = ⊥

abbrev pub IsScan : Op → Type 0
IsScan (Put name value) = ⊥
IsScan (Get name) = ⊥
IsScan (Del name) = ⊥
IsScan (Scan from count) = Unit {0}

-- The number that a call on one name is told is that of its name in this map.
abbrev pub IsOld : Map → Op → Option ℕ → Type 0
IsOld m (Put name value) old = old ≡ at m name
IsOld m (Get name) old = old ≡ at m name
IsOld m (Del name) old = old ≡ at m name
IsOld m (Scan from count) old = ⊥

-- The parts are those of a scan, where map_at gives the map at each place.
abbrev pub AreItsParts : (ℕ → Map) → Op → Bool → List ScanPart → Type 0
AreItsParts map_at (Put name value) cut parts = ⊥
AreItsParts map_at (Get name) cut parts = ⊥
AreItsParts map_at (Del name) cut parts = ⊥
AreItsParts map_at (Scan from count) cut parts = IsLegalScan map_at from count cut parts

-- What is said of a call that was cut off: of a write whether it has its place or what became of it, of a get no more
-- than that. Of a scan its parts tell.
abbrev pub IsItsMark : Op → CutMark → Type 0
IsItsMark (Put name value) mark = mark ≢ Read
IsItsMark (Get name) mark = mark ≡ Read
IsItsMark (Del name) mark = mark ≢ Read
IsItsMark (Scan from count) mark = ⊥

-- What a reply may be, the writes by place being these: the number of the name after as many writes as its place
-- says, or the parts of a scan, each from the map at its place. Only a put may find no room, and only a put or a delete
-- the limit reached.
abbrev pub IsAnswer : Map → List Write → ℕ → Op → Reply → Type 0
IsAnswer base writes limit op (Old old place) = IsOld (after base writes place) op old
IsAnswer base writes limit op (Parts parts cut) = AreItsParts (after base writes) op cut parts
IsAnswer base writes limit op Full = IsPut op
IsAnswer base writes limit op (Spent clock) = IsWriter op × (limit ≤ clock)
IsAnswer base writes limit op (Cut mark) = IsItsMark op mark
IsAnswer base writes limit op Unstarted = Unit {0}

-- Of two records of one caller, the earlier call ends before the later one starts.
abbrev pub KeepsCallersOrder : List Record → Type 0
KeepsCallersOrder records = (r s : Record) → Contains records r → Contains records s → r.caller ≡ s.caller →
    r.index < s.index →
    IfSome (interval r) (λ first. IfSome (interval s) (λ second. first.end ≤ second.start))

-- A legal round from a base map, under a limit: each call has its record, each write its place, each reply is that of
-- the map at its place, no call ends after the last write, each caller's calls took effect in order, and past the limit
-- there is at most one write for each caller that has calls but one.
pub record IsLegalRound (base : Map) (calls : List Call) (limit : ℕ) (records : List Record) (writes : List Write) :
    Type 0 where
  pub each_call : RecordsEachCall calls records
  pub by_place : AreWritesByPlace records writes
  pub answers : All (λ r. IsAnswer base writes limit r.op r.reply) records
  pub within : All (λ r. IfSome (interval r) (λ i. i.end ≤ length writes)) records
  pub in_order : KeepsCallersOrder records
  pub in_time : PlacesKeepLimit limit (map (λ c. c.caller) calls) writes

-- The call was answered: it was neither cut off nor left unstarted.
abbrev pub IsAnswered : Reply → Type 0
IsAnswered (Old old place) = Unit {0}
IsAnswered (Parts parts cut) = cut ≡ false
IsAnswered Full = Unit {0}
IsAnswered (Spent clock) = Unit {0}
IsAnswered (Cut mark) = ⊥
IsAnswered Unstarted = ⊥

-- The same as a test, and those of the records whose calls were answered.
abbrev pub is_answered : Reply → Bool
is_answered (Old old place) = true
is_answered (Parts parts cut) = not cut
is_answered Full = true
is_answered (Spent clock) = true
is_answered (Cut mark) = false
is_answered Unstarted = false

abbrev pub answered_records : List Record → List Record
answered_records records = filter (λ r. is_answered r.reply) records

-- Where each call was answered those are all; and where the first calls were answered and none of the others, the
-- first.
abbrev pub AnsweredAreAll : Type 0
AnsweredAreAll = (records : List Record) → All (λ r. IsAnswered r.reply) records → answered_records records ≡ records

abbrev pub AnsweredComeFirst : Type 0
AnsweredComeFirst = (done rest : List Record) → All (λ r. IsAnswered r.reply) done →
    All (λ r. IsAnswered r.reply → ⊥) rest → answered_records (done ++ rest) ≡ done

-- A legal round whose callers were joined at its end: each call was answered, and the map is that after all writes.
pub record IsJoinedRound (base : Map) (calls : List Call) (limit : ℕ) (records : List Record) (writes : List Write)
    (end : Map) : Type 0 where
  pub legal : IsLegalRound base calls limit records writes
  pub answered : All (λ r. IsAnswered r.reply) records
  pub leaves : end ≡ after_all base writes
