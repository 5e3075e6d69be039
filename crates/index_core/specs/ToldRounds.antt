-- What may be told of a schedule's answers: of calls one by one, and of the parts of a scan together.
use Rattle.std.specs.Prelude.{◌≡◌, ◌≢◌, ℕ, ◌+◌, ◌-◌, ◌<◌, ◌≤◌, ◌⊎◌, List, [], ◌∷◌, length, map, All, Contains, Some}
use Rattle.std.specs.Prelude.{None, false, option_map}
use mathlib.Core.Option.{some}
use lib.ListN.{get_elem?}
use Rattle.pm_words.specs.declared.again.Again.TheVariants as again
use Rattle.cat_history.specs.Maps.{map_of}
use Rattle.cat_history.specs.Records.{as_op, call_of, change_of}
use Rattle.cat_history.specs.Rounds.{IsLegalRound}
use Rattle.cat_history.specs.Scans.{IsLastPart}
use Rattle.cat_history.specs.declared.op.NameOp.TheVariants as name_op
use Rattle.cat_history.specs.declared.op.Op.TheVariants.{Scan}
use Rattle.cat_history.specs.declared.record.Record.{Record}
use Rattle.cat_history.specs.declared.record.Reply.{Reply}
use Rattle.cat_history.specs.declared.record.Reply.TheVariants.{Parts, Full, Spent}
use Rattle.cat_history.specs.declared.record.ScanPart.{ScanPart}
use Rattle.call_stages.specs.declared.once.Once.TheVariants as once
use Rattle.call_stages.specs.declared.once.Placed.{Placed}
use Rattle.node_ops.specs.declared.part.PartWords.{PartWords}
use Rattle.node_ops.specs.Parts.{pairs_of}
use Rattle.index_core.specs.Indexes.{Index}
use Rattle.index_core.specs.LegalRounds.{placed_record}
use Rattle.index_core.specs.Lone.{HasNoCalls}
use Rattle.index_core.specs.Schedules.{BegunCall, AnsweredCall, IsLegalHistory}

-- A record, and the numbers of the answered calls that it tells of, in their order.
pub record Told : Type 0 where
  pub what : Record
  pub numbers : List ℕ

-- The record of a call with this reply.
abbrev pub replied_record : BegunCall → Reply → Record
replied_record call reply = record { caller = call.caller; index = call.index; op = as_op call.op; reply = reply }

-- What is told of one call: its old number and its place, that it found its limit reached, or that it found no room. A
-- worn node is told in no record, nor what else turned a call back.
pub data IsToldOf (c : AnsweredCall) (r : Record) : Type 0 where
  took_place : (placed : Placed) → c.answer ≡ once.Done placed → r ≡ placed_record c.call placed → IsToldOf c r
  was_spent : (clock : ℕ) → c.answer ≡ once.Spent clock → r ≡ replied_record c.call (Spent clock) → IsToldOf c r
  was_full : c.answer ≡ once.Again again.NoFree → r ≡ replied_record c.call Full → IsToldOf c r

pub record IsToldCall (calls : List AnsweredCall) (t : Told) : Type 0 where
  pub number : ℕ
  pub answered : AnsweredCall
  pub there : get_elem? calls number ≡ some answered
  pub alone : t.numbers ≡ number ∷ []
  pub is : IsToldOf answered t.what

-- The part of a scan that was read from this name on, by what it listed.
abbrev pub part_told : List ℕ → PartWords → ScanPart
part_told low words = record { low = low; high = words.high; place = words.place; pairs = pairs_of words }

-- The call of this number, which is no less than the first one, is this caller's part from this name on, with so many
-- names left, and that is what it listed.
pub record IsScanCall (calls : List AnsweredCall) (caller least : ℕ) (low : List ℕ) (left number : ℕ)
    (part : ScanPart) : Type 0 where
  pub answered : AnsweredCall
  pub there : get_elem? calls number ≡ some answered
  pub later : least ≤ number
  pub by_caller : answered.call.caller ≡ caller
  pub asks : answered.call.op ≡ name_op.Get low
  pub so_many : answered.call.count ≡ Some left
  pub words : PartWords
  pub listed : answered.part ≡ Some words
  pub is : part ≡ part_told low words

-- The calls of these numbers are this caller's parts of a scan from this name on, with so many names left: each was
-- made behind the one before it, goes on where that ended, and asks for what that left; the last reaches the count, or
-- nothing lies above it.
abbrev pub AreScanCalls : List AnsweredCall → ℕ → ℕ → List ℕ → ℕ → List ℕ → List ScanPart → Type 0
AreScanCalls calls caller least low left [] parts = ⊥
AreScanCalls calls caller least low left (number ∷ numbers) [] = ⊥
AreScanCalls calls caller least low left (number ∷ numbers) (part ∷ parts) =
    IsScanCall calls caller least low left number part ×
    ((IsLastPart left part × (numbers ≡ []) × (parts ≡ [])) ⊎
    ((high : List ℕ) × (length part.pairs < left) × (part.high ≡ Some high) ×
    AreScanCalls calls caller (number + 1) high (left - length part.pairs) numbers parts))

-- What is told of the parts of a scan together; its index is that of the first part.
pub record IsToldScan (calls : List AnsweredCall) (t : Told) : Type 0 where
  pub from : List ℕ
  pub count : ℕ
  pub parts : List ScanPart
  pub asks : t.what.op ≡ Scan from count
  pub tells : t.what.reply ≡ Parts parts false
  pub read : AreScanCalls calls t.what.caller 0 from count t.numbers parts
  pub first : ℕ
  pub rest : List ℕ
  pub begins : t.numbers ≡ first ∷ rest
  pub answered : AnsweredCall
  pub there : get_elem? calls first ≡ some answered
  pub index : t.what.index ≡ answered.call.index

-- Of one caller no call that one record tells of stands between two that another tells of, or is one of them.
abbrev pub AreApart : List Told → Type 0
AreApart told = (i j : ℕ) (t u : Told) → get_elem? told i ≡ some t → get_elem? told j ≡ some u → i ≢ j →
    t.what.caller ≡ u.what.caller → (m n p : ℕ) → Contains t.numbers m → Contains u.numbers n →
    Contains t.numbers p → m ≤ n → n ≤ p → ⊥

-- Each put and delete that took place is told, and with them as many as one likes of the reads, alone or as the parts
-- of scans, and of the calls that were spent or found no room: a put that goes on trying tells only its end.
pub record AreTold (calls : List AnsweredCall) (told : List Told) : Type 0 where
  pub each : (i : ℕ) (t : Told) → get_elem? told i ≡ some t → IsToldCall calls t ⊎ IsToldScan calls t
  pub apart : AreApart told
  pub writes : (i : ℕ) (c : AnsweredCall) (placed : Placed) → get_elem? calls i ≡ some c →
      c.answer ≡ once.Done placed → change_of c.call.op ≢ None →
      (j : ℕ) × (t : Told) × (get_elem? told j ≡ some t) × Contains t.numbers i

abbrev pub records_told : List Told → List Record
records_told told = map (λ t. t.what) told

-- All puts and deletes carry this limit, and other calls none.
abbrev pub CarryOneLimit : ℕ → List BegunCall → Type 0
CarryOneLimit limit begun = All (λ c. c.limit ≡ option_map (λ change. limit) (change_of c.op)) begun

-- Once no call is in flight, what is told so is a legal round under that limit, whose writes are the history.
abbrev pub LegalHistoryIsToldRound : Type 0
LegalHistoryIsToldRound = (first : Index) (begun : List BegunCall) (calls : List AnsweredCall) (s : Index)
    (limit : ℕ) (told : List Told) → IsLegalHistory first begun calls s → HasNoCalls s → CarryOneLimit limit begun →
    AreTold calls told →
    IsLegalRound (map_of first.base) (map call_of (records_told told)) limit (records_told told) s.history
