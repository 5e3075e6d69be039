-- Schedules of the core, and what is legal of all that they answer.
use Rattle.std.specs.Prelude.{◌≡◌, ℕ, ◌+◌, ◌^◌, ◌<◌, ◌≤◌, ◌⊎◌, List, [], ◌∷◌, ◌++◌, length, slice_get, Option, Some}
use Rattle.std.specs.Prelude.{None, IfSome, IsSomeAnd, All, map, take, Bool, true, false, if◌then◌else◌, ◌==◌}
use Rattle.std.specs.List.Sorted.{IsPermutation}
use mathlib.Core.Option.{some}
use lib.ListN.{get_elem?}
use Rattle.pm_words.specs.Locations.{image_words}
use Rattle.pm_words.specs.declared.again.Again.{Again}
use Rattle.pm_words.specs.declared.again.Again.TheVariants as again
use Rattle.cat_history.specs.Callers.{PlacesKeepLimit}
use Rattle.cat_history.specs.Maps.{Map, map_of}
use Rattle.cat_history.specs.Writes.{after}
use Rattle.cat_history.specs.Records.{Interval, interval_at, change_of}
use Rattle.cat_history.specs.declared.op.Change.{Change}
use Rattle.cat_history.specs.declared.op.NameOp.{NameOp}
use Rattle.cat_history.specs.declared.op.Write.{Write}
use Rattle.call_stages.specs.declared.once.Once.{Once}
use Rattle.call_stages.specs.declared.once.Once.TheVariants as once
use Rattle.call_stages.specs.declared.once.Placed.{Placed}
use Rattle.call_stages.specs.Stages.{placed_in}
use Rattle.node_ops.specs.declared.part.PartWords.{PartWords}
use Rattle.node_ops.specs.declared.recheck.Same.{Same}
use Rattle.node_ops.specs.declared.running.Running.{Running}
use Rattle.node_ops.specs.Asked.{op_in, name_asked}
use Rattle.node_ops.specs.RunningSteps.{running_call, count_in}
use Rattle.node_ops.specs.CallStages.{stage_of}
use Rattle.node_ops.specs.PartSteps.{words_placed}
use Rattle.node_ops.specs.Endings.{IsPutOp}
use Rattle.index_core.specs.declared.party.CoreCall.{CoreCall}
use Rattle.index_core.specs.declared.party.CoreReply.{CoreReply}
use Rattle.index_core.specs.declared.party.PartyState.{PartyState}
use Rattle.index_core.specs.declared.party.Stepped.TheVariants.{Going, Answered}
use Rattle.index_core.specs.declared.party.Whole.{Whole}
use Rattle.index_core.specs.declared.party.Whole.TheVariants as whole
use Rattle.index_core.specs.Answers.{TookPlace, WasReached, FoundNoRoom}
use Rattle.index_core.specs.CoreCalls.{op_of, limit_of, count_of}
use Rattle.index_core.specs.Listings.{ListsRange}
use Rattle.index_core.specs.PartyStates.{next_index, index_after, answer_in, idle_states, listed_by}
use Rattle.index_core.specs.Indexes.{Index, IsBusy, IsInFlight, IsIndex, Starts, StepsTo, parties_of}
use Rattle.index_core.specs.Crashes.{evicted_index}
use Rattle.updater.specs.declared.making.TurnReply.{TurnReply}
use Rattle.updater.specs.declared.terms.Turned.{Turned}
use Rattle.index_core.specs.Rechecks.{RecheckSteps, StartsRecheck}
use Rattle.index_core.specs.Turns.{StartsTurn, TurnSteps, TurnsAlone}
use Rattle.index_core.specs.Lone.{HasNoCalls, IsQuiet, RunsAlone}

-- A call that was begun.
pub record BegunCall : Type 0 where
  pub caller : ℕ
  pub index : ℕ  -- how many of its caller's calls before it were answered other than by being turned back
  pub op : NameOp
  pub limit : Option ℕ  -- the clock at which it is refused, if there is one
  pub count : Option ℕ  -- how many names it lists at most, if it is a part of a scan
  pub since : ℕ  -- how long the history was as it began

-- A call that was answered.
pub record AnsweredCall : Type 0 where
  pub call : BegunCall
  pub until : ℕ  -- how long the history was as it was answered
  pub answer : Once Placed
  pub part : Option PartWords  -- what it listed, if it was a part that took place
  pub whole : Bool  -- whether it was made whole, with no other in flight
  pub next : ℕ  -- the index of its caller's next call

-- The call that the party begins as the history is so long.
abbrev pub begun_call : PartyState → ℕ → CoreCall → BegunCall
begun_call state since call = record {
  caller = state.caller;
  index = state.index;
  op = op_of call;
  limit = limit_of call;
  count = count_of call;
  since = since;
}

-- The party's call in flight.
abbrev pub flying_call : PartyState → Running → BegunCall
flying_call state machine =
    record {
      caller = state.caller;
      index = state.index;
      op = op_in machine;
      limit = (running_call machine).limit;
      count = count_in machine;
      since = state.since;
    }

-- What a whole call on a name that was alone is answered, as one try of it is: only a full node turns it back. None is
-- answered as a recheck or a turn of the updater is (`IsWholeAnswer`).
abbrev pub once_of : Whole → Once Placed
once_of (whole.Placed placed) = once.Done placed
once_of (whole.Part words) = once.Done (words_placed words)
once_of (whole.Same place) = once.Again again.LogFull
once_of (whole.Turned turned) = once.Again again.LogFull
once_of whole.Full = once.Again again.NoFree
once_of (whole.Spent clock) = once.Spent clock
once_of (whole.Worn node word) = once.Worn node word

-- What it listed, if it was a part of a scan that took place.
abbrev pub listed_of : Whole → Option PartWords
listed_of (whole.Placed placed) = None
listed_of (whole.Part words) = Some words
listed_of (whole.Same place) = None
listed_of (whole.Turned turned) = None
listed_of whole.Full = None
listed_of (whole.Spent clock) = None
listed_of (whole.Worn node word) = None

-- A schedule of the core from this index to another: calls of the core one after another, each with what its contract
-- says. The first list has the calls that were begun on the way, in their order, the second those that were answered,
-- in the order of their answers. One that a step turned back isn't counted for its caller's next index; a whole call is
-- counted whatever it is answered. It is made with no other call in flight, maybe beside turns of the updater.
pub data Runs (first : Index) : List BegunCall → List AnsweredCall → Index → Type 0 where
  begins : Runs first [] [] first
  starts : {begun : List BegunCall} {calls : List AnsweredCall} {old new : Index} {party : ℕ} {call : CoreCall} →
      Runs first begun calls old →
      (IsInFlight old party → ⊥) → (start : Starts old party call new) → IsIndex new →
      Runs first (begun ++ begun_call start.state (length old.history) call ∷ []) calls new
  goes_on : {begun : List BegunCall} {calls : List AnsweredCall} {old new : Index} {party : ℕ} →
      Runs first begun calls old →
      StepsTo old party new Going → IsIndex new → Runs first begun calls new
  answers : {begun : List BegunCall} {calls : List AnsweredCall} {old new : Index} {party : ℕ} {reply : CoreReply} →
      Runs first begun calls old →
      (step : StepsTo old party new (Answered reply)) → IsIndex new →
      Runs first begun
      (calls ++ record {
        call = flying_call step.turned.state step.turned.machine;
        until = length new.history;
        answer = answer_in reply;
        part = listed_by reply;
        whole = false;
        next = index_after step.turned.state.index (answer_in reply);
      } ∷ []) new
  alone : {begun : List BegunCall} {calls : List AnsweredCall} {old new : Index} {caller : ℕ} {call : CoreCall}
      {result : Whole} →
      Runs first begun calls old → HasNoCalls old → (run : RunsAlone old caller call new result) → IsIndex new →
      Runs first (begun ++ begun_call run.state (length old.history) call ∷ [])
      (calls ++ record {
        call = begun_call run.state (length old.history) call;
        until = length new.history;
        answer = once_of result;
        part = listed_of result;
        whole = true;
        next = next_index run.state.index;
      } ∷ []) new
  evicts : {begun : List BegunCall} {calls : List AnsweredCall} {old new : Index} {word : ℕ} →
      Runs first begun calls old →
      word < image_words old.layout → new ≡ evicted_index old word → IsIndex new → Runs first begun calls new
  reserves : {begun : List BegunCall} {calls : List AnsweredCall} {old new : Index} → Runs first begun calls old →
      new ≡ record old { spare = new.spare } → Runs first begun calls new
  -- and rechecks, which aren't counted: they change no word and place no write
  begins_recheck : {begun : List BegunCall} {calls : List AnsweredCall} {old new : Index} {party node version : ℕ} →
      Runs first begun calls old → (IsBusy old party → ⊥) → StartsRecheck old party node version new → IsIndex new →
      Runs first begun calls new
  steps_recheck : {begun : List BegunCall} {calls : List AnsweredCall} {old new : Index} {party : ℕ}
      {result : Option (Once Same)} → Runs first begun calls old → RecheckSteps old party new result → IsIndex new →
      Runs first begun calls new
  -- and turns of the updater, step by step or alone
  begins_turn : {begun : List BegunCall} {calls : List AnsweredCall} {old new : Index} {party stamp release : ℕ} →
      Runs first begun calls old → (IsBusy old party → ⊥) → StartsTurn old party stamp release new → IsIndex new →
      Runs first begun calls new
  steps_turn : {begun : List BegunCall} {calls : List AnsweredCall} {old new : Index} {party : ℕ}
      {result : Option TurnReply} → Runs first begun calls old → TurnSteps old party new result → IsIndex new →
      Runs first begun calls new
  turns_alone : {begun : List BegunCall} {calls : List AnsweredCall} {old new : Index} {stamp release : ℕ}
      {answer : Turned} → Runs first begun calls old → IsQuiet old → TurnsAlone old stamp release answer new →
      IsIndex new → Runs first begun calls new

-- No write of the history is of this caller's call of this index.
abbrev pub StandsNowhere : List Write → ℕ → ℕ → Type 0
StandsNowhere history caller index =
    (place : ℕ) (write : Write) → slice_get history place ≡ Some write → write.caller ≡ caller → write.index ≡ index → ⊥

-- The change of this caller's call of this index stands at the place; a call that changes nothing stands nowhere.
abbrev pub StandsAt : List Write → ℕ → ℕ → ℕ → Option Change → Type 0
StandsAt history caller index place None = StandsNowhere history caller index
StandsAt history caller index place (Some change) =
    slice_get history place ≡ Some (record { caller = caller; index = index; change = change })

-- A call took place within its time, and with its own change.
pub record IsPlacedCall (base : Map) (history : List Write) (c : BegunCall) (ends : ℕ) (placed : Placed) : Type 0 where
  pub took : TookPlace base history c.caller c.index c.since c.op c.limit placed
  pub ended : (interval_at c.op placed.place).end ≤ ends
  pub stands : StandsAt history c.caller c.index placed.place (change_of c.op)

-- A clock of the call's time had reached its limit, and it stands nowhere.
pub record IsSpentCall (history : List Write) (c : BegunCall) (ends clock : ℕ) : Type 0 where
  pub reached : WasReached c.since ends c.limit clock
  pub nowhere : StandsNowhere history c.caller c.index

-- No write of its caller was placed in the call's time.
abbrev pub WroteNothing : List Write → BegunCall → ℕ → Type 0
WroteNothing history c until =
    (place : ℕ) (write : Write) → slice_get history place ≡ Some write → write.caller ≡ c.caller → c.since ≤ place →
    place < until → ⊥

-- A call was turned back: its caller wrote nothing in its time, and where it counts all the same, it stands nowhere.
-- For want of room that is only a put, whose name the map lacked in its time while it had as many names as a node has
-- slots.
pub record IsTurnedBack (slots : ℕ) (base : Map) (history : List Write) (c : BegunCall) (ends next : ℕ) (why : Again) :
    Type 0 where
  pub wrote_nothing : WroteNothing history c ends
  pub nowhere : c.index < next → StandsNowhere history c.caller c.index
  pub room : why ≡ again.NoFree → IsPutOp c.op × FoundNoRoom slots base history c.since ends (name_asked c.op)

-- The answer of a call that ended as the history was so long, and left its caller this index for the next, on nodes of
-- so many slots.
abbrev pub IsLegalAnswer : ℕ → Map → List Write → BegunCall → ℕ → ℕ → Once Placed → Type 0
IsLegalAnswer slots base history c until next (once.Done placed) = IsPlacedCall base history c until placed
IsLegalAnswer slots base history c until next (once.Spent clock) = IsSpentCall history c until clock
IsLegalAnswer slots base history c until next (once.Worn node word) = StandsNowhere history c.caller c.index
IsLegalAnswer slots base history c until next (once.Again why) = IsTurnedBack slots base history c until next why

-- One where a call that is so answered uses up its index: a step that turns it back leaves it, a whole call uses it up
-- whatever it is answered.
abbrev pub uses_index : Bool → Once Placed → ℕ
uses_index whole (once.Again why) = if whole then 1 else 0
uses_index whole _ = 1

-- The index of its caller's next call.
abbrev pub IsNext : ℕ → ℕ → Bool → Once Placed → Type 0
IsNext index next whole answer = next ≡ index + uses_index whole answer

-- How many of these calls were this caller's and used up their index.
abbrev pub used_by : ℕ → AnsweredCall → ℕ
used_by caller c = if c.call.caller == caller then uses_index c.whole c.answer else 0

abbrev pub indexes_used : ℕ → List AnsweredCall → ℕ
indexes_used caller [] = 0
indexes_used caller (c ∷ calls) = used_by caller c + indexes_used caller calls

-- The index of this caller's next call, once these are answered: what it was at first, and one more for each of them
-- that was the caller's and used up its index.
pub record IsNextIndex (first : Index) (calls : List AnsweredCall) (caller index : ℕ) : Type 0 where
  pub state : PartyState
  pub there : get_elem? first.states caller ≡ some state
  pub is : index ≡ state.index + indexes_used caller calls

-- So each answered call has its index from the calls that were answered before it,
abbrev pub IndexesCount : Index → List AnsweredCall → Type 0
IndexesCount first calls = (i : ℕ) (c : AnsweredCall) → get_elem? calls i ≡ some c →
    IsNextIndex first (take i calls) c.call.caller c.call.index

-- and each party has that of its call in flight, or of its next one, from all of them.
abbrev pub StatesCount : Index → List AnsweredCall → List PartyState → Type 0
StatesCount first calls states = (i : ℕ) (state : PartyState) → get_elem? states i ≡ some state →
    IsNextIndex first calls i state.index

-- These words are the answer of a part that took place so: they list the map as it was at its place.
pub record IsListing (base : Map) (history : List Write) (low : List ℕ) (count : ℕ) (placed : Placed)
    (words : PartWords) : Type 0 where
  pub placed_so : words_placed words ≡ placed
  pub lists : ListsRange (after base history words.place) low count words

-- What a call lists that has a count, by its answer: as a part that took place, and else nothing.
abbrev pub PartLists : Map → List Write → List ℕ → ℕ → Once Placed → Option PartWords → Type 0
PartLists base history low count (once.Done placed) part = IsSomeAnd part (IsListing base history low count placed)
PartLists base history low count (once.Spent clock) part = part ≡ None
PartLists base history low count (once.Worn node word) part = part ≡ None
PartLists base history low count (once.Again why) part = part ≡ None

-- The same of any call: one without a count lists nothing.
abbrev pub CallLists : Map → List Write → NameOp → Option ℕ → Once Placed → Option PartWords → Type 0
CallLists base history op None answer part = part ≡ None
CallLists base history op (Some count) answer part = PartLists base history (name_asked op) count answer part

-- A call is answered legally.
pub record IsLegalCall (slots : ℕ) (base : Map) (history : List Write) (c : AnsweredCall) : Type 0 where
  pub answer : IsLegalAnswer slots base history c.call c.until c.next c.answer
  pub lists : CallLists base history c.call.op c.call.count c.answer c.part
  pub within : c.until ≤ length history
  pub next : IsNext c.call.index c.next c.whole c.answer

-- The places between which a call took effect, if it did.
abbrev pub interval_of : NameOp → Once Placed → Option Interval
interval_of op (once.Done placed) = Some (interval_at op placed.place)
interval_of op _ = None

-- The interval of the one ends before that of the other starts.
abbrev pub TakesEffectBefore : AnsweredCall → AnsweredCall → Type 0
TakesEffectBefore a b = IfSome (interval_of a.call.op a.answer)
    (λ first. IfSome (interval_of b.call.op b.answer) (λ second. first.end ≤ second.start))

-- A call that was answered before another began takes effect before it. How long the history was tells when that was.
abbrev pub KeepsTime : List AnsweredCall → Type 0
KeepsTime calls = (i j : ℕ) (a b : AnsweredCall) → get_elem? calls i ≡ some a → get_elem? calls j ≡ some b →
    a.until ≤ b.call.since →
    TakesEffectBefore a b

-- A call that was answered before its caller began another.
pub record Precedes (a b : AnsweredCall) : Type 0 where
  pub index : a.next ≤ b.call.index
  pub ended : a.until ≤ b.call.since
  pub in_order : TakesEffectBefore a b

-- Of two calls of one caller the one that was answered first precedes the other.
abbrev pub AnswersKeepOrder : List AnsweredCall → Type 0
AnswersKeepOrder calls = (i j : ℕ) (a b : AnsweredCall) → get_elem? calls i ≡ some a → get_elem? calls j ≡ some b →
    i < j →
    a.call.caller ≡ b.call.caller → Precedes a b

-- Each answered call of its caller was answered before the call in flight began.
abbrev pub ComesLast : List AnsweredCall → BegunCall → Type 0
ComesLast calls c = (i : ℕ) (a : AnsweredCall) → get_elem? calls i ≡ some a → a.call.caller ≡ c.caller →
    (a.next ≤ c.index) × (a.until ≤ c.since)

abbrev pub AreLegalInFlight : List AnsweredCall → List PartyState → Type 0
AreLegalInFlight calls states = (i : ℕ) (state : PartyState) (machine : Running) → get_elem? states i ≡ some state →
    state.machine ≡ Some machine →
    ComesLast calls (flying_call state machine)

-- The calls in flight, by party.
abbrev pub flying_in : PartyState → Option Running → List BegunCall
flying_in state None = []
flying_in state (Some machine) = flying_call state machine ∷ []

abbrev pub calls_in_flight : List PartyState → List BegunCall
calls_in_flight [] = []
calls_in_flight (state ∷ states) = flying_in state state.machine ++ calls_in_flight states

-- The calls that were begun are those that were answered and those in flight, each as often.
abbrev pub EachIsAnsweredOrFlies : List BegunCall → List AnsweredCall → List PartyState → Type 0
EachIsAnsweredOrFlies begun calls states = IsPermutation begun (map (λ c. c.call) calls ++ calls_in_flight states)

-- No two writes are of one call.
abbrev pub EachWritesOnce : List Write → Type 0
EachWritesOnce history = (i j : ℕ) (v w : Write) → slice_get history i ≡ Some v → slice_get history j ≡ Some w →
    v.caller ≡ w.caller →
    v.index ≡ w.index → i ≡ j

-- The write, which stands at this place, is that of a call that was answered.
pub record IsAnsweredWrite (calls : List AnsweredCall) (stands : ℕ) (write : Write) : Type 0 where
  pub number : ℕ
  pub answered : AnsweredCall
  pub placed : Placed
  pub there : get_elem? calls number ≡ some answered
  pub answer : answered.answer ≡ once.Done placed
  pub place : placed.place ≡ stands
  pub caller : write.caller ≡ answered.call.caller
  pub index : write.index ≡ answered.call.index
  pub change : change_of answered.call.op ≡ Some write.change

-- Or that of a call in flight, which has this place.
pub record IsWriteInFlight (states : List PartyState) (stands : ℕ) (write : Write) : Type 0 where
  pub party : ℕ
  pub state : PartyState
  pub machine : Running
  pub there : get_elem? states party ≡ some state
  pub flies : state.machine ≡ Some machine
  pub place : placed_in (stage_of machine) ≡ Some stands
  pub caller : write.caller ≡ state.caller
  pub index : write.index ≡ state.index
  pub change : change_of (op_in machine) ≡ Some write.change

abbrev pub EachWriteIsOfACall : List AnsweredCall → List PartyState → List Write → Type 0
EachWriteIsOfACall calls states history = (place : ℕ) (write : Write) → slice_get history place ≡ Some write →
    IsAnsweredWrite calls place write ⊎ IsWriteInFlight states place write

-- The callers of these calls.
abbrev pub callers_of : List BegunCall → List ℕ
callers_of begun = map (λ c. c.caller) begun

-- The puts and deletes among the calls all have this limit.
abbrev pub CarryLimit : ℕ → List BegunCall → Type 0
CarryLimit limit begun = All (λ c. IfSome (change_of c.op) (λ change. c.limit ≡ Some limit)) begun

-- The history of the index is the one legal history of these calls, since the first index.
pub record IsLegalHistory (first : Index) (begun : List BegunCall) (calls : List AnsweredCall) (s : Index) :
    Type 0 where
  pub base_is : map_of s.base ≡ map_of first.base
  pub each_call : EachIsAnsweredOrFlies begun calls s.states
  pub answers : (i : ℕ) (c : AnsweredCall) → get_elem? calls i ≡ some c →
      IsLegalCall s.layout.slots (map_of first.base) s.history c
  pub in_time : KeepsTime calls
  pub in_order : AnswersKeepOrder calls
  pub in_flight : AreLegalInFlight calls s.states
  pub indexes : IndexesCount first calls
  pub next_indexes : StatesCount first calls s.states
  pub once : EachWritesOnce s.history
  pub writes : EachWriteIsOfACall calls s.states s.history
  -- under one limit, each place of a write is below it plus the number of callers that have calls, minus one
  pub places : (limit : ℕ) → CarryLimit limit begun → PlacesKeepLimit limit (callers_of begun) s.history

-- Even if one caller began all these calls, its index, which has 64 bits, wouldn't come to its end.
abbrev pub AreCounted : Index → List BegunCall → Type 0
AreCounted first begun = (i : ℕ) (state : PartyState) → get_elem? first.states i ≡ some state →
    state.index + length begun < 2 ^ 64

-- However the calls were scheduled from an index with no call in flight and no write, their answers are those of one
-- legal history.
abbrev pub OneLegalHistory : Type 0
OneLegalHistory = (first last : Index) (begun : List BegunCall) (calls : List AnsweredCall) → IsIndex first →
    IsQuiet first → first.history ≡ [] →
    Runs first begun calls last → AreCounted first begun → IsLegalHistory first begun calls last

-- Where no party has made a call, as of an image that was just opened, each schedule of fewer than 2^64 calls is so.
abbrev pub IdleAreCounted : Type 0
IdleAreCounted = (first : Index) (begun : List BegunCall) → first.states ≡ idle_states (parties_of first.layout) →
    length begun < 2 ^ 64 → AreCounted first begun
