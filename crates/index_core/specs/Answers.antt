-- What an answer says of the map and the history.
use Rattle.std.specs.Prelude.{◌≡◌, ◌≢◌, ℕ, ◌<◌, ◌≤◌, List, length, slice_get, Option, Some, None, IfSome, IsSomeAnd}
use Rattle.std.specs.FinMap.{len}
use Rattle.pm_words.specs.declared.again.Again.TheVariants.{NoFree}
use Rattle.cat_history.specs.Maps.{Map, at}
use Rattle.cat_history.specs.Writes.{after}
use Rattle.cat_history.specs.Records.{interval_at, change_of}
use Rattle.cat_history.specs.declared.op.Change.{Change}
use Rattle.cat_history.specs.declared.op.NameOp.{NameOp}
use Rattle.cat_history.specs.declared.op.Write.{Write}
use Rattle.call_stages.specs.declared.once.Once.{Once}
use Rattle.call_stages.specs.declared.once.Once.TheVariants as once
use Rattle.call_stages.specs.declared.once.Placed.{Placed}
use Rattle.node_ops.specs.Asked.{name_asked}
use Rattle.node_ops.specs.Endings.{IsPutOp}
use Rattle.index_core.specs.declared.party.PartyState.{PartyState}

-- The write of the call stands at this place, with the change of the call; one that changes nothing has none.
abbrev pub HasOwnWrite : List Write → ℕ → ℕ → Option Change → ℕ → Type 0
HasOwnWrite history caller index change place =
    IfSome change (λ c. slice_get history place ≡ Some (record { caller = caller; index = index; change = c }))

-- A call of this op and limit, begun as the history was so long, took place: its interval lies in its time, which began
-- below the limit if there is one, its old number is that of its name in the map at its place, and if it writes, its
-- write stands there.
pub record TookPlace (base : Map) (history : List Write) (caller index since : ℕ) (op : NameOp) (limit : Option ℕ)
    (placed : Placed) : Type 0 where
  pub later : since ≤ placed.place
  pub within : (interval_at op placed.place).end ≤ length history
  pub below : IfSome limit (λ most. since < most)
  pub old : placed.old ≡ at (after base history placed.place) (name_asked op)
  pub write : HasOwnWrite history caller index (change_of op) placed.place

-- The limit of a call was reached by a clock of its time, which is told by how long the history was as it began and
-- ended.
pub record WasReached (since ends : ℕ) (limit : Option ℕ) (clock : ℕ) : Type 0 where
  pub reached : IsSomeAnd limit (λ most. most ≤ clock)
  pub later : since ≤ clock
  pub within : clock ≤ ends

-- A name that found no room: after as many writes as a clock of the call's time says, the map lacked it, and had at
-- least as many names as a node has slots.
pub record FoundNoRoom (slots : ℕ) (base : Map) (history : List Write) (since ends : ℕ) (name : List ℕ) : Type 0 where
  pub clock : ℕ
  pub later : since ≤ clock
  pub within : clock ≤ ends
  pub lacked : at (after base history clock) name ≡ None
  pub many : slots ≤ len (after base history clock)

-- The answer of the party's call of this op and limit, on nodes of so many slots. Only a put is turned back for want of
-- room.
abbrev pub IsAnswerOf : ℕ → Map → List Write → PartyState → NameOp → Option ℕ → Once Placed → Type 0
IsAnswerOf slots base history state op limit (once.Done placed) =
    TookPlace base history state.caller state.index state.since op limit placed
IsAnswerOf slots base history state op limit (once.Spent clock) = WasReached state.since (length history) limit clock
IsAnswerOf slots base history state op limit (once.Worn node word) = Unit {0}
IsAnswerOf slots base history state op limit (once.Again why) =
    why ≡ NoFree → IsPutOp op × FoundNoRoom slots base history state.since (length history) (name_asked op)

-- Only a put or a delete is answered that its node is worn.
abbrev pub WornIfWrites : NameOp → Option (Once Placed) → Type 0
WornIfWrites op (Some (once.Worn node word)) = change_of op ≢ None
WornIfWrites op _ = Unit {0}

-- What a step of it is answered, if it is.
abbrev pub SaysOf : ℕ → Map → List Write → PartyState → NameOp → Option ℕ → Option (Once Placed) → Type 0
SaysOf slots base history state op limit None = Unit {0}
SaysOf slots base history state op limit (Some answer) = IsAnswerOf slots base history state op limit answer
