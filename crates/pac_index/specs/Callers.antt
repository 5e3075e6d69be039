-- A caller of a shared index.
use Rattle.std.specs.Prelude.{◌≡◌, ◌≢◌, ◌⊎◌, Option, ℕ, ◌+◌, ◌-◌, ◌*◌, ◌/◌, ◌<◌, ◌≤◌, true, false, List, []}
use Rattle.std.specs.Prelude.{◌∷◌, ◌++◌, length, map, slice_get, None, Some}
use Rattle.std.specs.Prelude.{vec_len, vec_capacity}
use mathlib.Core.Option.{some}
use lib.ListN.{get_elem?}
use Rattle.call_stages.specs.Stages.{placed_in}
use Rattle.node_ops.specs.declared.running.Running.{Running}
use Rattle.node_ops.specs.Asked.{op_in}
use Rattle.node_ops.specs.CallStages.{stage_of}
use Rattle.index_core.specs.declared.party.PartyState.{PartyState}
use Rattle.index_core.specs.CoreCalls.{op_of}
use Rattle.index_core.specs.Indexes.{Index}
use Rattle.pac_index.specs.declared.caller.CutCall.{CutCall}
use Rattle.pac_index.specs.declared.rule.About.{About}
use Rattle.cat_history.specs.declared.op.Write.{Write}
use Rattle.pac_index.specs.declared.rule.Member.{Member}
use Rattle.pac_index.specs.declared.caller.Caller.{Caller}
use Rattle.pac_index.specs.declared.caller.PlacedWrite.{PlacedWrite}
use Rattle.pac_index.specs.declared.shared.Shared.{Shared}
use Rattle.pm_words.specs.Locations.{Clock, at}
use Rattle.index_core.specs.Indexes.{IsIndex, parties_of}
use Rattle.index_core.specs.Lone.{IsQuiet}
use Rattle.pac_index.specs.Stamps.{stamp_in}
use Rattle.pac_index.specs.Kept.{IsLone, party, placed_by, Begins, opening_weight}
use Rattle.index_core.specs.Weights.{weight_of}
use Rattle.epochs.specs.declared.rule.PinMember.{PinMember}
use Rattle.epochs.specs.Seats.{AreNumbered, IsSeatOf, IsUnpinned, known_by}

-- What it knows.
abbrev pub seen_by : Caller → Member
seen_by c = party c.seat.me

-- What it knows of the epoch and the pins.
abbrev pub pins_of : Caller → PinMember
pins_of c = known_by c.pins

-- For how many more writes it has room.
abbrev pub spare_of : Caller → ℕ
spare_of c = vec_capacity c.kept - vec_len c.kept

abbrev pub pair_of : PlacedWrite → ℕ × Write
pair_of p = (p.place, p.write)

abbrev pub pairs : List PlacedWrite → List (ℕ × Write)
pairs l = map {B = ℕ × Write} pair_of l

-- It has no call and no turn in flight, and tells of none that was cut off.
abbrev pub IsAtRest : Caller → Type 0
IsAtRest c = ((seen_by c).state.machine ≡ None) × ((seen_by c).state.turn ≡ None) × (c.cut ≡ None)

-- This call is in flight: its machine asks what the call asks, its write has this place, if it has one, and this is the
-- index of the call.
pub record IsInFlight (cut : CutCall) (state : PartyState) : Type 0 where
  pub machine : Running
  pub flies : state.machine ≡ Some machine
  pub op : op_in machine ≡ op_of cut.call
  pub index : state.index ≡ cut.index
  pub place : cut.place ≡ placed_in (stage_of machine)

-- What a caller tells of a call that was cut off is so: that one is in flight, or none.
abbrev pub TellsCut : Option CutCall → PartyState → Type 0
TellsCut None state = state.machine ≡ None
TellsCut (Some cut) state = IsInFlight cut state

-- The caller is one of this index, and keeps the writes that it placed. It is at rest, or has no step left: only a call
-- or a turn that was cut off is in flight.
pub record IsCallerOf (s : Shared) (c : Caller) : Type 0 where
  pub table : c.seat.table_id ≡ s.table.shared.table_id
  pub lone : IsLone c.seat.me
  pub about : (party c.seat.me).about ≡ s.about
  pub rests : IsAtRest c ⊎ (c.left ≡ Some 0)
  pub tells : TellsCut c.cut (seen_by c).state
  pub number : (party c.seat.me).state.caller ≡ c.number
  pub within : c.number < parties_of s.about.layout
  pub kept : pairs c.kept.items ≡ placed_by c.number (party c.seat.me).seen
  -- between its calls it has no pin
  pub pins : IsSeatOf s.epochs c.pins
  pub unpinned : IsUnpinned c.pins
  pub pinning : c.pins.party ≡ c.number

-- It may make calls: it is a caller of this index, and not the last one, which is the updater's.
abbrev pub MayCall : Shared → Caller → Type 0
MayCall s c = IsCallerOf s c × (c.number < s.about.layout.callers)

-- It is a caller of this index still, of the same number.
abbrev pub StaysCaller : Shared → Caller → Caller → Type 0
StaysCaller s old new = IsCallerOf s new × (new.number ≡ old.number)

-- It has counted no call, kept no write and tells of no other call that was cut off.
abbrev pub HasMadeNone : Caller → Caller → Type 0
HasMadeNone old new = (new.index ≡ old.index) × (new.kept ≡ old.kept) × (new.cut ≡ old.cut)

-- The callers of this index from number 0 on, each at the place of its number.
abbrev pub HasCallers : Shared → ℕ → List Caller → Type 0
HasCallers s n callers = AreNumbered (IsCallerOf s) (λ (c : Caller). c.number) n callers

-- None of them has a call or a turn in flight.
abbrev pub AreAtRest : List Caller → Type 0
AreAtRest callers = (i : ℕ) (c : Caller) → get_elem? callers i ≡ some c → IsAtRest c

-- Each of them has a step left.
abbrev pub HaveSteps : List Caller → Type 0
HaveSteps callers = (i : ℕ) (c : Caller) → get_elem? callers i ≡ some c → c.left ≢ Some 0

-- One of them has none left.
abbrev pub SomeIsSpent : List Caller → Type 0
SomeIsSpent callers = (i : ℕ) × (c : Caller) × (get_elem? callers i ≡ some c) × (c.left ≡ Some 0)

-- They have made no call yet, and have no bound on their steps.
abbrev pub AreNew : List Caller → Type 0
AreNew callers = (i : ℕ) (c : Caller) → get_elem? callers i ≡ some c → ((seen_by c).seen ≡ []) × (c.index ≡ 0) ×
    ((seen_by c).taken ≡ 0) × ((seen_by c).added ≡ 0) × ((seen_by c).none_free ≡ false) × (c.left ≡ None)

abbrev pub about_in : Index → About
about_in core = record {
  layout = core.layout;
  generation = core.generation;
  base = core.base;
  opened =
      record { layout = core.layout; words = core.words };
}

-- What a core is made into: its callers and the updater's, which is the last, none of which has made a call.
pub record Opened (core : Index) (s : Shared) (callers : List Caller) : Type 0 where
  pub about : s.about ≡ about_in core
  pub callers_of : HasCallers s (parties_of core.layout) callers
  pub fresh : AreNew callers

-- All that the callers have kept.
abbrev pub kept_by : List Caller → List PlacedWrite
kept_by [] = []
kept_by (c ∷ cs) = c.kept.items ++ kept_by cs

-- These are the writes of the history, each with its place.
pub record AreWritesOf (kept : List PlacedWrite) (history : List Write) : Type 0 where
  pub right : (k : ℕ) (p : PlacedWrite) → get_elem? kept k ≡ some p → slice_get history p.place ≡ Some p.write
  pub all : (place : ℕ) (w : Write) → slice_get history place ≡ Some w → (k : ℕ) ×
      (get_elem? kept k ≡ some (record { place = place; write = w }))

-- How many names their puts have added.
abbrev pub added_by_all : List Caller → ℕ
added_by_all [] = 0
added_by_all (c ∷ cs) = (seen_by c).added + added_by_all cs

-- What all callers meet in: an index with no call in flight, whose history begins with what each has seen and has of
-- each just the writes that it has seen itself place, each once and in this order.
pub record Meeting (s : Shared) (callers : List Caller) (core : Index) : Type 0 where
  pub layout : core.layout ≡ s.about.layout
  pub generation : core.generation ≡ s.about.generation
  pub base : core.base ≡ s.about.base
  -- it weighs no more than as it was opened and the puts that added a name
  pub weight : weight_of core ≤ opening_weight s.about + added_by_all callers
  -- and where a caller has found no node FREE, that is at least half of all slots
  pub full : (i : ℕ) (c : Caller) → get_elem? callers i ≡ some c → (seen_by c).none_free ≡ true →
      s.about.layout.nodes * (s.about.layout.slots / 2) ≤ opening_weight s.about + added_by_all callers
  pub index : IsIndex core
  pub quiet : IsQuiet core
  pub seen : (i : ℕ) (c : Caller) → get_elem? callers i ≡ some c → Begins (seen_by c).seen core.history
  pub own : (i : ℕ) (c : Caller) → get_elem? callers i ≡ some c →
      placed_by i core.history ≡ placed_by i (seen_by c).seen
  pub writers : (place : ℕ) (w : Write) → slice_get core.history place ≡ Some w → w.caller < length callers
  pub clock : at core.layout core.words Clock ≡ length core.history
  pub stamps : (n : ℕ) → n < core.layout.nodes → stamp_in core.layout core.words n ≤ 1
