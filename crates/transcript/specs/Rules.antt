-- The eight rules by which a round is judged, each by itself, and which one is the first that a round breaks.
use Rattle.std.specs.Prelude.{◌≡◌, ℕ, ◌<◌, ◌≤◌, Bool, true, false, Option, List, All, IfSome, length, map}
use Rattle.std.specs.FinMap.{len}
use Rattle.cat_key.specs.declared.Pair.{Pair}
use Rattle.cat_history.specs.Callers.{PlacesKeepLimit}
use Rattle.cat_history.specs.CrashEnds.{IsCrashEnd}
use Rattle.cat_history.specs.CrashRounds.{StopsOnce, KeepsBudget, ReplySays, changes_cut}
use Rattle.cat_history.specs.Maps.{Map, at, map_of}
use Rattle.cat_history.specs.Records.{Call, interval, numbered}
use Rattle.cat_history.specs.Rounds.{RecordsEachCall, AreWritesByPlace, IsPut, IsWriter, IsItsMark, IsAnswered}
use Rattle.cat_history.specs.Rounds.{IsOnName, IsScan, KeepsCallersOrder}
use Rattle.cat_history.specs.Scans.{IsLegalScan}
use Rattle.cat_history.specs.Writes.{after, after_all}
use Rattle.cat_history.specs.declared.op.CallerOp.{CallerOp}
use Rattle.cat_history.specs.declared.op.Op.{Op}
use Rattle.cat_history.specs.declared.op.Op.TheVariants.{Put, Get, Del, Scan}
use Rattle.cat_history.specs.declared.op.Write.{Write}
use Rattle.cat_history.specs.declared.record.Record.{Record}
use Rattle.cat_history.specs.declared.record.Reply.{Reply}
use Rattle.cat_history.specs.declared.record.Reply.TheVariants.{Old, Parts, Full, Spent, Cut, Unstarted}
use Rattle.cat_history.specs.declared.record.ScanPart.{ScanPart}
use Rattle.transcript.specs.declared.asking.RoundEnd.{RoundEnd}

-- A round as it was told: the map that it begins with, the calls that were asked, its records, and how it ended.
pub record Case : Type 0 where
  pub base : Map
  pub calls : List Call
  pub told : List Record
  pub end : RoundEnd

abbrev pub case_of : List Pair → List CallerOp → List Record → RoundEnd → Case
case_of base asked told end = record { base = map_of base; calls = numbered asked; told = told; end = end }

-- 1. There is one record for each call, with its caller, index and op, and no other record.
abbrev pub EachCallIsTold : Case → Type 0
EachCallIsTold c = RecordsEachCall c.calls c.told

-- These are the writes by place: the records' places are 0, 1, 2 and so on, each once, as many as this.
pub record AreCounted (told : List Record) (count : ℕ) (writes : List Write) : Type 0 where
  pub by_place : AreWritesByPlace told writes
  pub as_many : length writes ≡ count

-- 2. The writes have their places, each once, and there are as many as the round's end says.
abbrev pub PlacesAreCounted : Case → Type 0
PlacesAreCounted c = (writes : List Write) × AreCounted c.told c.end.writes writes

-- The number told to a call on one name is that of its name in this map.
abbrev pub IsItsNumber : Map → Op → Option ℕ → Type 0
IsItsNumber m (Put name value) old = old ≡ at m name
IsItsNumber m (Get name) old = old ≡ at m name
IsItsNumber m (Del name) old = old ≡ at m name
IsItsNumber m (Scan from count) old = Unit {0}

-- The same of a reply, where map_at gives the map at each place.
abbrev pub TellsItsNumber : (ℕ → Map) → Op → Reply → Type 0
TellsItsNumber map_at op (Old old place) = IsItsNumber (map_at place) op old
TellsItsNumber map_at op (Parts parts cut) = Unit {0}
TellsItsNumber map_at op Full = Unit {0}
TellsItsNumber map_at op (Spent clock) = Unit {0}
TellsItsNumber map_at op (Cut mark) = Unit {0}
TellsItsNumber map_at op Unstarted = Unit {0}

-- 3. Each call on one name that tells a number tells the one that the map at its place has.
abbrev pub NumbersAgree : Case → List Write → Type 0
NumbersAgree c writes = All (λ r. TellsItsNumber (after c.base writes) r.op r.reply) c.told

-- The parts told to a scan are legal ones.
abbrev pub AreLegalParts : (ℕ → Map) → Op → Bool → List ScanPart → Type 0
AreLegalParts map_at (Put name value) cut parts = Unit {0}
AreLegalParts map_at (Get name) cut parts = Unit {0}
AreLegalParts map_at (Del name) cut parts = Unit {0}
AreLegalParts map_at (Scan from count) cut parts = IsLegalScan map_at from count cut parts

-- The same of a reply.
abbrev pub TellsItsParts : (ℕ → Map) → Op → Reply → Type 0
TellsItsParts map_at op (Old old place) = Unit {0}
TellsItsParts map_at op (Parts parts cut) = AreLegalParts map_at op cut parts
TellsItsParts map_at op Full = Unit {0}
TellsItsParts map_at op (Spent clock) = Unit {0}
TellsItsParts map_at op (Cut mark) = Unit {0}
TellsItsParts map_at op Unstarted = Unit {0}

-- 4. Each scan's parts are legal.
abbrev pub ScansAgree : Case → List Write → Type 0
ScansAgree c writes = All (λ r. TellsItsParts (after c.base writes) r.op r.reply) c.told

-- 5. No call ends after the last write, and each caller's calls took effect in their order.
pub record CallersKeepOrder (told : List Record) (writes : List Write) : Type 0 where
  pub within : All (λ r. IfSome (interval r) (λ i. i.end ≤ length writes)) told
  pub in_order : KeepsCallersOrder told

-- A call that was told that the limit is reached saw at least as many writes.
abbrev pub ReachesLimit : ℕ → Reply → Type 0
ReachesLimit limit (Old old place) = Unit {0}
ReachesLimit limit (Parts parts cut) = Unit {0}
ReachesLimit limit Full = Unit {0}
ReachesLimit limit (Spent clock) = limit ≤ clock
ReachesLimit limit (Cut mark) = Unit {0}
ReachesLimit limit Unstarted = Unit {0}

-- 6. Who was told that the limit is reached saw it so, and past it there is at most one write for each caller that has
-- calls but one.
pub record LimitIsKept (limit : ℕ) (calls : List Call) (told : List Record) (writes : List Write) : Type 0 where
  pub reached : All (λ r. ReachesLimit limit r.reply) told
  pub in_time : PlacesKeepLimit limit (map (λ call. call.caller) calls) writes

-- The reply is of a form that there is for the call: a number for a call on one name, parts for a scan, full for a put
-- alone, spent for a put or a delete, the mark of a call that was cut off by what it asks.
abbrev pub HasForm : Op → Reply → Type 0
HasForm op (Old old place) = IsOnName op
HasForm op (Parts parts cut) = IsScan op
HasForm op Full = IsPut op
HasForm op (Spent clock) = IsWriter op
HasForm op (Cut mark) = IsItsMark op mark
HasForm op Unstarted = Unit {0}

-- A crash may leave this map: it is the one after all placed writes and after those of the changes cut off without a
-- place that are found in it, and each mark says whether its own is.
pub record IsLeft (base : Map) (told : List Record) (writes : List Write) (end : Map) : Type 0 where
  pub leaves : IsCrashEnd (after_all base writes) (changes_cut told) end
  pub says : All (λ r. ReplySays end r.op r.reply) told

-- A round that stopped at a crash: each caller stopped once, came as far as its budget let it, and the crash left a
-- map.
pub record StopsAtCrash (base : Map) (told : List Record) (budgets : List ℕ) (writes : List Write) : Type 0 where
  pub once : StopsOnce told
  pub budget : All (KeepsBudget budgets) told
  pub left : (end : Map) × IsLeft base told writes end

-- 7. Each reply has its form. Where the callers were joined each call was answered, and where a crash ended the round
-- they stopped as at a crash.
pub record EndsAsSaid (base : Map) (told : List Record) (end : RoundEnd) (writes : List Write) : Type 0 where
  pub forms : All (λ r. HasForm r.op r.reply) told
  pub joined : end.crashed ≡ false → All (λ r. IsAnswered r.reply) told
  pub crashed : end.crashed ≡ true → StopsAtCrash base told end.budgets writes

-- The map with which the round ends.
pub record IsItsEnd (base : Map) (told : List Record) (end : RoundEnd) (writes : List Write) (m : Map) : Type 0 where
  pub joined : end.crashed ≡ false → m ≡ after_all base writes
  pub crashed : end.crashed ≡ true → IsLeft base told writes m

-- 8. The map with which the round ends has as many names as its end says.
abbrev pub NamesAreCounted : Case → List Write → Type 0
NamesAreCounted c writes = (m : Map) → IsItsEnd c.base c.told c.end writes m → len m ≡ c.end.names

-- The rule holds, whatever the writes by place are. Where the second rule holds there is one such list.
abbrev pub OfItsWrites : Case → (Case → List Write → Type 0) → Type 0
OfItsWrites c Rule = (writes : List Write) → AreWritesByPlace c.told writes → Rule c writes

-- The round keeps the rule of this number.
pub data Keeps (c : Case) : ℕ → Type 0 where
  each_call : EachCallIsTold c → Keeps c 1
  places : PlacesAreCounted c → Keeps c 2
  numbers : OfItsWrites c NumbersAgree → Keeps c 3
  scans : OfItsWrites c ScansAgree → Keeps c 4
  order : OfItsWrites c (λ d writes. CallersKeepOrder d.told writes) → Keeps c 5
  limit : OfItsWrites c (λ d writes. LimitIsKept d.end.limit d.calls d.told writes) → Keeps c 6
  ends : OfItsWrites c (λ d writes. EndsAsSaid d.base d.told d.end writes) → Keeps c 7
  names : OfItsWrites c NamesAreCounted → Keeps c 8

-- It keeps each rule before this one, which is one of the eight, and not this one.
pub record IsFirstBroken (c : Case) (rule : ℕ) : Type 0 where
  pub first : 1 ≤ rule
  pub last : rule ≤ 8
  pub before : (earlier : ℕ) → 1 ≤ earlier → earlier < rule → Keeps c earlier
  pub broken : Keeps c rule → ⊥
