-- What a call comes to that its caller makes until it is answered, or cut off.
use Rattle.std.specs.Prelude.{◌≡◌, ◌≢◌, ◌⊎◌, ℕ, ◌+◌, ◌≤◌, true, false, ◌++◌, length, Option, Some, None}
use Rattle.std.specs.Option.{option_to_list}
use Rattle.cat_history.specs.CrashRounds.{IsUnsettled, change_cut}
use Rattle.cat_history.specs.Maps.{map_of}
use Rattle.cat_history.specs.Records.{placed_write}
use Rattle.cat_history.specs.Rounds.{IsAnswered}
use Rattle.cat_history.specs.declared.op.Op.{Op}
use Rattle.cat_history.specs.declared.record.CutMark.{CutMark}
use Rattle.cat_history.specs.declared.record.CutMark.TheVariants.{At, Open}
use Rattle.cat_history.specs.declared.record.Record.{Record}
use Rattle.cat_history.specs.declared.record.Reply.{Reply}
use Rattle.cat_history.specs.declared.record.Reply.TheVariants.{Old, Parts, Full, Spent, Cut, Unstarted}
use Rattle.call_stages.specs.declared.once.Placed.{Placed}
use Rattle.pac_index.specs.index_core.specs.PartyStates.{next_index}
use Rattle.shapes.specs.ShapeRounds.{one_added}
use Rattle.stopped_rounds.specs.MoreCuts.{AreAmong}
use Rattle.caller_rounds.specs.CallerRounds.{IsRepliedSince, HadManyNames}
use Rattle.pac_index.specs.declared.caller.Caller.{Caller}
use Rattle.pac_index.specs.declared.caller.CutCall.{CutCall}
use Rattle.pac_index.specs.declared.ended.Ended.{Ended}
use Rattle.pac_index.specs.declared.ended.Ended.TheVariants as ended
use Rattle.pac_index.specs.declared.rule.Member.{Member}
use Rattle.pac_index.specs.declared.scans.Scanned.{Scanned}
use Rattle.pac_index.specs.declared.scans.Scanned.TheVariants as scanned
use Rattle.pac_index.specs.Callers.{IsAtRest, seen_by}
use Rattle.pac_index.specs.CrashMeetings.{change_in_flight, put_in_flight}
use Rattle.pac_index.specs.Kept.{Begins, placed_by}

-- The mark of a write that was cut off: its place, if it has one.
abbrev pub write_mark : Option ℕ → CutMark
write_mark None = Open
write_mark (Some place) = At place

-- What is told of a call on one name that ended so, where it is marked so if it was cut off.
abbrev pub reply_told : CutMark → Ended Placed → Reply
reply_told mark (ended.Done placed) = Old placed.old placed.place
reply_told mark ended.Full = Full
reply_told mark (ended.Spent clock) = Spent clock
reply_told mark ended.Cut = Cut mark

-- What is told of a scan: its parts, or those that were answered before it was cut off.
abbrev pub scan_told : Scanned → Reply
scan_told (scanned.Done parts) = Parts parts false
scan_told (scanned.Cut parts) = Parts parts true

-- The record of a call.
abbrev pub made : ℕ → ℕ → Op → Reply → Record
made caller index op reply = record { caller = caller; index = index; op = op; reply = reply }

-- A caller has made its call of this index between two views, or come so far with it as its record says. What that
-- tells is the map's at a place of that time, and of its own writes just the one that the record tells is added. Where
-- the call was full, the caller has noted that no node was FREE. What it tells now as cut off is this call: the record
-- says so of its change, if that has no place, and counts its put as one that may have added a name.
pub record IsMade (limit caller index : ℕ) (op : Op) (reply : Reply) (old new : Member) (cut : Option CutCall) :
    Type 0 where
  pub about : new.about ≡ old.about
  pub seen : Begins old.seen new.seen
  pub replied : IsRepliedSince (map_of old.about.base) limit (length old.seen) new.seen (made caller index op reply)
  pub own : placed_by caller new.seen ≡ placed_by caller old.seen ++ option_to_list (placed_write (made caller index op
      reply))
  pub added : new.added + put_in_flight cut ≤ old.added + one_added op reply
  pub none_free : old.none_free ≡ true → new.none_free ≡ true
  pub full : reply ≡ Full → (new.none_free ≡ true) × HadManyNames old.about.layout.slots (map_of old.about.base)
      new.seen
  pub tells : AreAmong (change_in_flight cut) (option_to_list (change_cut op reply))
  pub unsettled : IsUnsettled reply

-- The call was answered, and its caller is at rest and counts the next one.
pub record WasAnswered (reply : Reply) (old new : Caller) : Type 0 where
  pub answered : IsAnswered reply
  pub rests : IsAtRest new
  pub next : new.index ≡ next_index old.index

-- It was begun and cut off, and its caller has no step left.
pub record WasCut (reply : Reply) (new : Caller) : Type 0 where
  pub begun : reply ≢ Unstarted
  pub spent : new.left ≡ Some 0

abbrev pub AnsweredOrCut : Reply → Caller → Caller → Type 0
AnsweredOrCut reply old new = WasAnswered reply old new ⊎ WasCut reply new

-- A caller was to make this call. It had no step left, and didn't begin it; or it made it, as far as its steps went.
pub record WasUnstarted (reply : Reply) (old new : Caller) : Type 0 where
  pub spent : old.left ≡ Some 0
  pub unstarted : reply ≡ Unstarted
  pub same : new ≡ old

pub record WasBegun (limit : ℕ) (op : Op) (reply : Reply) (old new : Caller) : Type 0 where
  pub steps : old.left ≢ Some 0
  pub made : IsMade limit old.number old.index op reply (seen_by old) (seen_by new) new.cut
  pub ends : AnsweredOrCut reply old new

abbrev pub HasGone : ℕ → Op → Reply → Caller → Caller → Type 0
HasGone limit op reply old new = WasUnstarted reply old new ⊎ WasBegun limit op reply old new
