-- What one caller's answers say of its calls, and which round callers make that meet in one history.
use Rattle.std.specs.Prelude.{◌≡◌, ℕ, ◌+◌, ◌*◌, ◌/◌, ◌<◌, ◌≤◌, ◌==◌, Bool, true, List, [], ◌∷◌, ◌++◌, All, Contains}
use Rattle.std.specs.Prelude.{IfSome, length, map}
use Rattle.std.specs.FinMap.{len}
use Rattle.std.specs.List.{enumerate_from, filter, flat_map}
use Rattle.std.specs.Option.{option_to_list}
use mathlib.Core.Option.{some}
use lib.ListN.{get_elem?}
use Rattle.cat_history.specs.Maps.{Map}
use Rattle.cat_history.specs.Writes.{after, after_all}
use Rattle.cat_history.specs.Records.{Call, call_of, numbered, placed_write, placed_writes, interval}
use Rattle.cat_history.specs.CrashEnds.{IsCrashEnd}
use Rattle.cat_history.specs.CrashRounds.{changes_cut}
use Rattle.cat_history.specs.Rounds.{IsAnswer, IsAnswered, KeepsCallersOrder, IsJoinedRound, IsLegalRound}
use Rattle.cat_history.specs.declared.op.CallerOp.{CallerOp}
use Rattle.cat_history.specs.declared.op.Op.{Op}
use Rattle.cat_history.specs.declared.op.Write.{Write}
use Rattle.cat_history.specs.declared.record.Record.{Record}
use Rattle.cat_history.specs.declared.record.Reply.TheVariants.{Full}
use Rattle.shapes.specs.ShapeRounds.{puts_added, one_added, FullIsPaid}

-- The second list begins with the first.
abbrev pub Begins : List Write → List Write → Type 0
Begins xs ys = (rest : List Write) × (xs ++ rest ≡ ys)

-- The writes of a caller in a history, each with its place.
abbrev pub own_writes : ℕ → List Write → List (ℕ × Write)
own_writes caller history = filter (λ (e : ℕ × Write). e.1.caller == caller) (enumerate_from 0 history)

-- What this caller is asked, in the order of the script.
abbrev pub asked_of : ℕ → List CallerOp → List Op
asked_of caller asked = map (λ (a : CallerOp). a.op) (filter (λ (a : CallerOp). a.caller == caller) asked)

-- The calls of a caller that is asked these, the first of which has this index.
abbrev pub calls_from : ℕ → ℕ → List Op → List Call
calls_from caller index [] = []
calls_from caller index (op ∷ ops) =
    record { caller = caller; index = index; op = op } ∷ calls_from caller (index + 1) ops

-- A call came to its reply by a caller that had seen so many writes as the call began, and has seen these writes now:
-- what the reply tells is the map's at a place of that time, and a write that has its place began below the limit.
pub record IsRepliedSince (base : Map) (limit since : ℕ) (seen : List Write) (r : Record) : Type 0 where
  pub answer : IsAnswer base seen limit r.op r.reply
  pub later : IfSome (interval r) (λ i. since ≤ i.start)
  pub within : IfSome (interval r) (λ i. i.end ≤ length seen)
  pub below : IfSome (placed_write r) (λ _. since < limit)

-- Of two writes of a caller, each with its place, the earlier one ended below the limit.
abbrev pub AreInTime : ℕ → List (ℕ × Write) → Type 0
AreInTime limit writes = (p q : ℕ × Write) → Contains writes p → Contains writes q → p.0 < q.0 → p.0 + 1 < limit

-- A caller that was asked these has come so far with its calls, each behind the one before, and has seen these writes
-- now. Its own among them are just those that its records tell. A call that was not begun has a record too.
pub record HasReplies (base : Map) (limit caller : ℕ) (asked : List Op) (seen : List Write) (records : List Record) :
    Type 0 where
  pub calls : map call_of records ≡ calls_from caller 0 asked
  pub answers : All (λ r. IsAnswer base seen limit r.op r.reply) records
  pub within : All (λ r. IfSome (interval r) (λ i. i.end ≤ length seen)) records
  pub in_order : KeepsCallersOrder records
  pub own : own_writes caller seen ≡ placed_writes records
  pub begun : All (λ (w : ℕ × Write). 0 < limit) (placed_writes records)
  pub in_time : AreInTime limit (placed_writes records)

-- Each of its calls was answered.
pub record HasAnswers (base : Map) (limit caller : ℕ) (asked : List Op) (seen : List Write) (records : List Record) :
    Type 0 where
  pub replies : HasReplies base limit caller asked seen records
  pub answered : All (λ r. IsAnswered r.reply) records

-- The next call of a caller that was asked these came to its reply meanwhile, and what the caller has written since is
-- the write of that call.
pub record IsNextReply (base : Map) (limit caller : ℕ) (asked : List Op) (old new : List Write) (r : Record) : Type 0
  where
    pub more : Begins old new
    pub call : call_of r ≡ record { caller = caller; index = length asked; op = r.op }
    pub replied : IsRepliedSince base limit (length old) new r
    pub own : own_writes caller new ≡ own_writes caller old ++ option_to_list (placed_write r)

-- One call more.
abbrev pub RepliesFollow : Type 0
RepliesFollow = (base : Map) (limit caller : ℕ) (asked : List Op) (old new : List Write) (records : List Record)
    (r : Record) → HasReplies base limit caller asked old records → IsNextReply base limit caller asked old new r →
    HasReplies base limit caller (asked ++ r.op ∷ []) new (records ++ r ∷ [])

-- More writes, of others.
abbrev pub RepliesStay : Type 0
RepliesStay = (base : Map) (limit caller : ℕ) (asked : List Op) (old new : List Write) (records : List Record) →
    HasReplies base limit caller asked old records → Begins old new → own_writes caller new ≡ own_writes caller old →
    HasReplies base limit caller asked new records

-- All records, those of the first caller first.
abbrev pub by_caller : List (List Record) → List Record
by_caller told = flat_map (λ records. records) told

-- Each caller's records, at the place of its number, tell how far it came with its calls of the script in this history.
abbrev pub EachHasReplies : Map → ℕ → List CallerOp → List Write → List (List Record) → Type 0
EachHasReplies base limit asked history told = (i : ℕ) (records : List Record) → get_elem? told i ≡ some records →
    HasReplies base limit i (asked_of i asked) history records

-- And they are answers.
abbrev pub EachHasAnswers : Map → ℕ → List CallerOp → List Write → List (List Record) → Type 0
EachHasAnswers base limit asked history told = (i : ℕ) (records : List Record) → get_elem? told i ≡ some records →
    HasAnswers base limit i (asked_of i asked) history records

abbrev pub RepliesMakeRound : Type 0
RepliesMakeRound = (base : Map) (limit : ℕ) (asked : List CallerOp) (history : List Write)
    (told : List (List Record)) → EachHasReplies base limit asked history told →
    All (λ w. w.caller < length told) history → All (λ a. a.caller < length told) asked →
    IsLegalRound base (numbered asked) limit (by_caller told) history

abbrev pub CallersMakeRound : Type 0
CallersMakeRound = (base : Map) (limit : ℕ) (asked : List CallerOp) (history : List Write)
    (told : List (List Record)) → EachHasAnswers base limit asked history told →
    All (λ w. w.caller < length told) history → All (λ a. a.caller < length told) asked →
    IsJoinedRound base (numbered asked) limit (by_caller told) history (after_all base history)

-- At each place of a legal round there are at most as many names as at its start and the puts that added one, or may
-- have added one as they were cut off.
abbrev pub NamesRise : Type 0
NamesRise = (base : Map) (calls : List Call) (limit : ℕ) (records : List Record) (history : List Write)
    (place : ℕ) → IsLegalRound base calls limit records history → place ≤ length history →
    len (after base history place) ≤ len base + puts_added records

-- And so it is in what a crash leaves behind the round.
abbrev pub CrashNamesRise : Type 0
CrashNamesRise = (base : Map) (calls : List Call) (limit : ℕ) (records : List Record) (history : List Write)
    (end : Map) → IsLegalRound base calls limit records history →
    IsCrashEnd (after_all base history) (changes_cut records) end → len end ≤ len base + puts_added records

-- ---- room

-- After some of these writes the map had at least as many names as a node has slots.
abbrev pub HadManyNames : ℕ → Map → List Write → Type 0
HadManyNames slots base seen = (place : ℕ) × (place ≤ length seen) × (slots ≤ len (after base seen place))

-- What a caller knows of room that has seen these writes: how many names its puts have added, of which its records
-- tell; and where one of its calls was full, that no node was FREE, which it has noted, and that there were many names.
pub record KnowsRoom (slots : ℕ) (base : Map) (seen : List Write) (noted : Bool) (added : ℕ) (records : List Record) :
    Type 0 where
  pub told : added ≤ puts_added records
  pub full : All (λ r. r.reply ≡ Full → (noted ≡ true) × HadManyNames slots base seen) records

-- One call more.
abbrev pub RoomFollows : Type 0
RoomFollows = (slots : ℕ) (base : Map) (old new : List Write) (noted notes : Bool) (added adds : ℕ)
    (records : List Record) (r : Record) → KnowsRoom slots base old noted added records → Begins old new →
    (noted ≡ true → notes ≡ true) → adds ≤ added + one_added r.op r.reply →
    (r.reply ≡ Full → (notes ≡ true) × HadManyNames slots base new) →
    KnowsRoom slots base new notes adds (records ++ r ∷ [])

-- What one of several callers knows at the end.
pub record CallerRoom : Type 0 where
  pub seen : List Write
  pub noted : Bool
  pub added : ℕ
  pub records : List Record

abbrev pub records_of_all : List CallerRoom → List (List Record)
records_of_all rooms = map (λ (room : CallerRoom). room.records) rooms

abbrev pub added_of_all : List CallerRoom → ℕ
added_of_all [] = 0
added_of_all (room ∷ rooms) = room.added + added_of_all rooms

pub record EachKnowsRoom (slots nodes weighs : ℕ) (base : Map) (history : List Write) (rooms : List CallerRoom) :
    Type 0 where
  pub knows : (i : ℕ) (room : CallerRoom) → get_elem? rooms i ≡ some room →
      KnowsRoom slots base room.seen room.noted room.added room.records
  pub begins : (i : ℕ) (room : CallerRoom) → get_elem? rooms i ≡ some room → Begins room.seen history
  pub paid : (i : ℕ) (room : CallerRoom) → get_elem? rooms i ≡ some room → room.noted ≡ true →
      nodes * (slots / 2) ≤ weighs + added_of_all rooms

-- In a legal round of callers that know so much the puts that their records tell are at least those that have added a
-- name; and each full answer is paid for by the weight at the start, the names then, and those puts.
abbrev pub FullRoundsArePaid : Type 0
FullRoundsArePaid = (slots nodes weighs : ℕ) (base : Map) (calls : List Call) (limit : ℕ) (history : List Write)
    (rooms : List CallerRoom) → EachKnowsRoom slots nodes weighs base history rooms →
    IsLegalRound base calls limit (by_caller (records_of_all rooms)) history →
    (added_of_all rooms ≤ puts_added (by_caller (records_of_all rooms)))
    × All (FullIsPaid slots nodes (weighs + puts_added (by_caller (records_of_all rooms)))
    (len base + puts_added (by_caller (records_of_all rooms)))) (by_caller (records_of_all rooms))
