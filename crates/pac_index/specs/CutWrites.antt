-- Puts and deletes that were cut off, and what one of their tries comes to.
use Rattle.std.specs.Prelude.{◌≡◌, ◌⊎◌, ℕ, ◌+◌, ◌≤◌, Bool, Option, Some, None, length}
use Rattle.pm_words.specs.declared.again.Again.TheVariants.{LogFull, NoFree}
use Rattle.call_stages.specs.declared.once.Once.{Once}
use Rattle.call_stages.specs.declared.once.Once.TheVariants as once
use Rattle.call_stages.specs.declared.once.Placed.{Placed}
use Rattle.epochs.specs.declared.rule.PinMember.{PinMember}
use Rattle.updater.specs.declared.terms.Turned.{Turned}
use Rattle.index_core.specs.declared.party.CoreCall.{CoreCall}
use Rattle.pac_index.specs.declared.caller.Caller.{Caller}
use Rattle.pac_index.specs.declared.ended.Ended.TheVariants as ended
use Rattle.pac_index.specs.declared.rule.Member.{Member}
use Rattle.pac_index.specs.declared.tried.Tried.{Tried}
use Rattle.pac_index.specs.declared.tried.Tried.TheVariants as tried
use Rattle.pac_index.specs.declared.writes.WriteNext.{WriteNext}
use Rattle.pac_index.specs.declared.writes.WriteNext.TheVariants as next
use Rattle.pac_index.specs.declared.writes.WriteTry.{WriteTry}
use Rattle.pac_index.specs.declared.writes.WriteTry.TheVariants as write
use Rattle.pac_index.specs.Cuts.{IsCutTry, IsCutWithin, own_cut}
use Rattle.pac_index.specs.Callers.{IsAtRest, pins_of, seen_by, spare_of}
use Rattle.pac_index.specs.Calls.{Answers, counted_index, own_of}
use Rattle.pac_index.specs.CutTurns.{TurnCutsOff}
use Rattle.pac_index.specs.Ends.{AtLast, HasOnlyRead}
use Rattle.pac_index.specs.Turns.{FoundHeld, HasMadeTurn}
use Rattle.pac_index.specs.Writes.{TurnedForRoom, WriteBack}

-- What comes behind a try.
abbrev pub next_of : Tried Placed → WriteNext
next_of tried.Cut = next.End ended.Cut
next_of (tried.Answered (once.Done placed)) = next.End (ended.Done placed)
next_of (tried.Answered (once.Spent clock)) = next.End (ended.Spent clock)
next_of (tried.Answered (once.Worn node word)) = next.Retry
next_of (tried.Answered (once.Again LogFull)) = next.TurnForLine
next_of (tried.Answered (once.Again NoFree)) = next.TurnForNode
next_of (tried.Answered (once.Again _)) = next.Retry

-- A turn of the updater was cut off behind a try that found none of its caller's log lines EMPTY, or no node to split
-- its own with. The call has placed nothing.
pub record CutInTurn (parties : ℕ) (call : CoreCall) (index : ℕ) (old new : Member) : Type 0 where
  pub answer : Once Placed
  pub wants : (answer ≡ once.Again LogFull) ⊎ (answer ≡ once.Again NoFree)
  pub tried : Member
  pub told : Answers call index old answer tried
  pub pins : PinMember
  pub pins_now : PinMember
  pub cut : AtLast FoundHeld (λ before after. TurnCutsOff parties before pins after pins_now) tried new

-- So it was behind tries that were turned back. Nothing of the call is in flight, and it has read alone.
pub record IsCutBehind (parties : ℕ) (call : CoreCall) (old new : Caller) : Type 0 where
  pub last : AtLast (WriteBack call old.index) (CutInTurn parties call old.index) (seen_by old) (seen_by new)
  pub uncut : new.cut ≡ None
  pub reads : HasOnlyRead (seen_by old) (seen_by new)

-- A put or a delete was cut off. Its caller has no step left: as the call began, so that nothing has changed, or within
-- a try, or within the turn of the updater behind one.
pub record IsCutWrite (parties : ℕ) (call : CoreCall) (old new : Caller) : Type 0 where
  pub spent : new.left ≡ Some 0
  pub index : new.index ≡ old.index
  pub cut : (new ≡ old) ⊎ IsCutWithin (WriteBack call old.index) call old new ⊎ IsCutBehind parties call old new
  pub spare : spare_of old ≤ spare_of new + length (own_cut old call new)

-- What one try of a put or a delete leaves of its caller: where it was answered,
pub record TryAnswered (call : CoreCall) (old : Caller) (answer : Once Placed) (new : Caller) : Type 0 where
  pub rests : IsAtRest new
  pub index : new.index ≡ counted_index old.index answer
  pub answers : Answers call old.index (seen_by old) answer (seen_by new)
  pub spare : spare_of old ≤ spare_of new + length (own_of old call answer)

-- where it is made again, with what came behind it,
pub record TryBack (call : CoreCall) (old new : Caller) : Type 0 where
  pub rests : IsAtRest new
  pub index : new.index ≡ old.index
  pub back : WriteBack call old.index (seen_by old) (seen_by new)
  pub spare : spare_of old ≤ spare_of new

-- where it found no node, with a turn behind it,
pub record TryRoom (call : CoreCall) (old : Caller) (none_free : Bool) (new : Caller) : Type 0 where
  pub rests : IsAtRest new
  pub index : new.index ≡ old.index
  pub room : TurnedForRoom call old.index none_free (seen_by old) (seen_by new)
  pub spare : spare_of old ≤ spare_of new

-- and where it, or the turn behind it, was cut off.
pub record TryCutInTurn (parties : ℕ) (call : CoreCall) (old new : Caller) : Type 0 where
  pub spent : new.left ≡ Some 0
  pub index : new.index ≡ old.index
  pub uncut : new.cut ≡ None
  pub cut : CutInTurn parties call old.index (seen_by old) (seen_by new)
  pub spare : spare_of old ≤ spare_of new

-- A turn within a call: it was made, after tries that found the updater lock taken, or it was cut off.
abbrev pub HasTurnedWithin : ℕ → Caller → Option Turned → Caller → Type 0
HasTurnedWithin parties old (Some turned) new = IsAtRest new × HasMadeTurn turned (seen_by old) (seen_by new)
HasTurnedWithin parties old None new = (new.left ≡ Some 0) × AtLast FoundHeld (λ before after.
    TurnCutsOff parties before (pins_of old) after (pins_of new)) (seen_by old) (seen_by new)

abbrev pub TryCut : ℕ → CoreCall → Caller → Caller → Type 0
TryCut parties call old new = IsCutTry call old new ⊎ TryCutInTurn parties call old new

abbrev pub NextSo : CoreCall → Caller → WriteNext → Caller → Type 0
NextSo call old (next.End (ended.Done placed)) new = TryAnswered call old (once.Done placed) new
NextSo call old (next.End (ended.Spent clock)) new = TryAnswered call old (once.Spent clock) new
NextSo call old (next.End ended.Full) new = ⊥
NextSo call old (next.End ended.Cut) new = IsCutTry call old new
NextSo call old next.Retry new = TryBack call old new
NextSo call old next.TurnForLine new = TryAnswered call old (once.Again LogFull) new
NextSo call old next.TurnForNode new = TryAnswered call old (once.Again NoFree) new

abbrev pub WriteSo : ℕ → CoreCall → Caller → WriteTry → Caller → Type 0
WriteSo parties call old (write.Ended (ended.Done placed)) new = TryAnswered call old (once.Done placed) new
WriteSo parties call old (write.Ended (ended.Spent clock)) new = TryAnswered call old (once.Spent clock) new
WriteSo parties call old (write.Ended ended.Full) new = ⊥
WriteSo parties call old (write.Ended ended.Cut) new = TryCut parties call old new
WriteSo parties call old write.Back new = TryBack call old new
WriteSo parties call old (write.NoRoom none_free) new = TryRoom call old none_free new
