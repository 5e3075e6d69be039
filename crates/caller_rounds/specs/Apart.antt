-- Callers whose calls are about different names.
use Rattle.std.specs.Prelude.{◌≡◌, ℕ, ◌<◌, List, All, Contains, Some, length, map}
use Rattle.std.specs.List.{filter_map}
use Rattle.cat_history.specs.Maps.{Map}
use Rattle.cat_history.specs.CrashEnds.{after_changes}
use Rattle.cat_history.specs.Writes.{after_all, name_of}
use Rattle.cat_history.specs.LoneRounds.{writes_of, IsLoneRound}
use Rattle.cat_history.specs.Records.{call_of, change_asked, numbered}
use Rattle.cat_history.specs.declared.op.CallerOp.{CallerOp}
use Rattle.cat_history.specs.declared.op.Change.{Change}
use Rattle.cat_history.specs.declared.op.Write.{Write}
use Rattle.cat_history.specs.declared.record.Record.{Record}
use Rattle.cat_history.specs.declared.record.Reply.{Reply}
use Rattle.cat_history.specs.declared.record.Reply.TheVariants.{Old, Parts, Full, Spent, Cut, Unstarted}
use Rattle.caller_rounds.specs.CallerRounds.{EachHasReplies, by_caller}

-- The changes that the script asks for, in its order.
abbrev pub changes_asked : List CallerOp → List Change
changes_asked asked = filter_map (λ (a : CallerOp). change_asked a.op) asked

-- Calls of different callers that change something are about different names.
abbrev pub AreApart : List CallerOp → Type 0
AreApart asked = (a b : CallerOp) (c d : Change) → Contains asked a → Contains asked b → change_asked a.op ≡ Some c →
    change_asked b.op ≡ Some d → name_of c ≡ name_of d → a.caller ≡ b.caller

-- The call took place: it wasn't refused, nor cut off.
abbrev pub TookPlace : Reply → Type 0
TookPlace (Old old place) = Unit {0}
TookPlace (Parts parts cut) = Unit {0}
TookPlace Full = ⊥
TookPlace (Spent clock) = ⊥
TookPlace (Cut mark) = ⊥
TookPlace Unstarted = ⊥

-- Where the callers' names are apart and no call was refused, the map is that of the calls done in the script's order.
abbrev pub ApartIsInOrder : Type 0
ApartIsInOrder = (base : Map) (limit : ℕ) (asked : List CallerOp) (history : List Write) (told : List (List Record)) →
    EachHasReplies base limit asked history told → All (λ w. w.caller < length told) history →
    All (λ a. a.caller < length told) asked → AreApart asked →
    All (λ r. TookPlace r.reply) (by_caller told) →
    after_all base history ≡ after_changes base (changes_asked asked)

-- So it is where one caller alone has calls, each of which took place.
abbrev pub LoneIsInOrder : Type 0
LoneIsInOrder = (base : Map) (asked : List CallerOp) (records : List Record) → IsLoneRound base records →
    map call_of records ≡ numbered asked → All (λ r. TookPlace r.reply) records →
    after_all base (writes_of records) ≡ after_changes base (changes_asked asked)
