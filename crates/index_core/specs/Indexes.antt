-- The index as contracts see it.
use Rattle.std.specs.Prelude.{◌≡◌, ◌≢◌, ℕ, ◌+◌, ◌<◌, ◌≤◌, ◌^◌, ◌⊎◌, List, ◌++◌, length, map, slice_get, slice_set, Some}
use Rattle.std.specs.Prelude.{IfSome, IsSomeAnd, Option}
use Rattle.cat_history.specs.Records.{change_of}
use mathlib.Core.Option.{some}
use lib.ListN.{get_elem?}
use Rattle.cat_key.specs.declared.Pair.{Pair}
use Rattle.pm_words.specs.Codes.{free_status}
use Rattle.pm_words.specs.declared.layout.Layout.{Layout}
use Rattle.pm_words.specs.Images.{Row}
use Rattle.pm_words.specs.Rows.{acted, got}
use Rattle.cat_history.specs.Maps.{Map, map_of}
use Rattle.cat_history.specs.Writes.{after, after_all}
use Rattle.cat_history.specs.declared.op.Write.{Write}
use Rattle.call_stages.specs.Stages.{counted}
use Rattle.call_stages.specs.Stages.{placed_in}
use Rattle.call_stages.specs.AnySteps.{AnyStep}
use Rattle.call_stages.specs.declared.view.View.{View}
use Rattle.node_ops.specs.declared.running.Running.{Running}
use Rattle.node_ops.specs.declared.running.Running.TheVariants.{Getting}
use Rattle.pm_words.specs.declared.machine.Turn.{Turn}
use Rattle.pm_words.specs.declared.machine.Turn.TheVariants.{Go, Done}
use Rattle.pm_words.specs.Turns.{GoesBelow}
use Rattle.call_stages.specs.declared.once.Once.{Once}
use Rattle.call_stages.specs.declared.once.Placed.{Placed}
use Rattle.cat_history.specs.declared.op.NameOp.{NameOp}
use Rattle.node_ops.specs.declared.call.Call.{Call}
use Rattle.node_ops.specs.Calls.{IsSame}
use Rattle.node_ops.specs.Asked.{IsOf, IsOfAfter, op_in}
use Rattle.node_ops.specs.RunningSteps.{running_asks, running_turned, running_call, running_left}
use Rattle.node_ops.specs.CallStages.{stage_of, stage_after, reply_of}
use Rattle.index_law.specs.Worlds.{World, facts, written}
use Rattle.index_law.specs.Lawful.{HasNames, Lawful}
use Rattle.index_law.specs.Laws.{IsLegal}
use Rattle.index_law.specs.Whole.{Whole, IsWhole}
use Rattle.index_law.specs.Footings.{AreTended}
use Rattle.index_law.specs.Weights.{AddsName, RisesBy, weight_sum}
use Rattle.index_image_law.specs.index_layer_law.specs.Layers.{Layered, IsLayered}
use Rattle.permutation_law.specs.Permuted.{Permuted, IsPermuted}
use Rattle.index_core.specs.declared.party.CoreCall.{CoreCall}
use Rattle.index_core.specs.declared.party.PartyState.{PartyState}
use Rattle.index_core.specs.declared.party.Stepped.{Stepped}
use Rattle.index_core.specs.Answers.{SaysOf, WornIfWrites}
use Rattle.index_core.specs.Heard.{HearsOn}
use Rattle.index_core.specs.CoreCalls.{machine_of, op_of}
use Rattle.index_core.specs.Listings.{ListsAt}
use Rattle.index_core.specs.Permuting.{AreRelying, sortings_of}
use Rattle.index_core.specs.PartyStates.{machine_footing, turning_of, party_of, state_with, state_after, stepped_of}
use Rattle.index_core.specs.PartyStates.{owed}
use Rattle.index_core.specs.PartyStates.{answered_by, AreRechecksOf, IsPartyState}

pub record Index : Type 0 where
  pub layout : Layout
  pub generation : ℕ  -- the number of this run of the index
  pub words : List ℕ  -- the row
  pub states : List PartyState  -- the parties, each at the place of its number
  pub base : List Pair  -- the map as the run began
  pub history : List Write  -- the writes since, in the order in which they were placed
  pub spare : ℕ  -- for how many more writes there is room, beside those of the calls in flight

-- The index of this row in this run, with these parties, this base and this history.
abbrev pub index_made : Row → ℕ → List PartyState → List Pair → List Write → ℕ → Index
index_made row generation states base history spare = record {
  layout = row.layout;
  generation = generation;
  words = row.words;
  states = states;
  base = base;
  history = history;
  spare = spare;
}

-- What the law of the index is about.
abbrev pub world : Index → World
world s = record {
  layout = s.layout;
  generation = s.generation;
  words = s.words;
  parties = map party_of s.states;
  base = map_of s.base;
  history = s.history;
}

-- With what each party has of log lines and prevs.
abbrev pub footed : Index → Whole
footed s = record {
  world = world s;
  lines = map (λ (state : PartyState). (machine_footing state.machine).line) s.states;
  debts = map (λ (state : PartyState). (machine_footing state.machine).debt) s.states;
}

-- With its search layer, and the turns that its parties make.
abbrev pub layered : Index → Layered
layered s = record { whole = footed s; turns = map (λ (state : PartyState). turning_of state.turn) s.states }

-- With what each party has made of the permutation of the node that it holds.
abbrev pub permuted : Index → Permuted
permuted s = record { world = world s; sortings = sortings_of s.states }

-- The map as it is.
abbrev pub map_of_index : Index → Map
map_of_index s = after_all (map_of s.base) s.history

-- The write is that of the party's call in flight, at the place that the call has.
pub record IsOwnWrite (state : PartyState) (machine : Running) (place : ℕ) (write : Write) : Type 0 where
  pub placed : placed_in (stage_of machine) ≡ Some place
  pub index : write.index ≡ state.index
  pub change : change_of (op_in machine) ≡ Some write.change

-- Of a party whose call is in flight, each write that stands in the history was placed before that call began, or is
-- the call's own.
abbrev pub AreOrdered : List PartyState → List Write → Type 0
AreOrdered states history = (i place : ℕ) (state : PartyState) (machine : Running) (write : Write) →
    get_elem? states i ≡ some state →
    state.machine ≡ Some machine → slice_get history place ≡ Some write → write.caller ≡ state.caller →
    (place < state.since) ⊎ IsOwnWrite state machine place write

-- A call that writes has a limit, of at most 2^62.
abbrev pub HasLimit : Running → Type 0
HasLimit m = IfSome (change_of (op_in m)) (λ _. IsSomeAnd (running_call m).limit (λ most. most ≤ 2 ^ 62))

-- How many writes there can be: each is by one of the parties, calls that write have limits, and past the greatest
-- limit no party has written twice.
pub record IsBounded (parties : ℕ) (states : List PartyState) (history : List Write) : Type 0 where
  pub limits : (i : ℕ) (e : PartyState) (m : Running) → get_elem? states i ≡ some e → e.machine ≡ Some m → HasLimit m
  pub writers : (p : ℕ) (w : Write) → slice_get history p ≡ Some w → w.caller < parties
  pub late : (p q : ℕ) (v w : Write) → slice_get history p ≡ Some v → slice_get history q ≡ Some w → p < q →
      2 ^ 62 ≤ p + 1 → v.caller ≢ w.caller

-- The callers and the updater, whose number is the last.
abbrev pub parties_of : Layout → ℕ
parties_of l = l.callers + 1

-- The index is lawful, each party's machine makes its call, and a party's writes come in order.
pub record IsIndex (s : Index) : Type 0 where
  pub lawful : Lawful (world s)
  pub whole : IsWhole (footed s)  -- so are its log lines and prevs
  pub tended : AreTended (footed s)
  pub layered : IsLayered (layered s)  -- and its search layer
  pub parties : length s.states ≡ parties_of s.layout
  pub states : (i : ℕ) (state : PartyState) → get_elem? s.states i ≡ some state →
      IsPartyState s.layout s.generation i state
  pub ordered : AreOrdered s.states s.history
  pub bounded : IsBounded (parties_of s.layout) s.states s.history
  pub named : (place : ℕ) → HasNames (after (map_of s.base) s.history place)  -- the map at each place, too
  pub rechecks : AreRechecksOf s.layout s.generation s.history s.states
  -- where a permutation's version is its free node's version word, it has the node's live slots in order
  pub permuted : IsPermuted (permuted s)
  pub relying : AreRelying s.layout s.generation (facts (world s)) s.words s.states  -- and each party's reading stands

-- What the party has in flight, read off its state, and the party that has it.
pub record HasInFlight {A : Type 0} (held : PartyState → Option A) (s : Index) (party : ℕ) : Type 0 where
  pub state : PartyState
  pub machine : A
  pub there : get_elem? s.states party ≡ some state
  pub flies : held state ≡ Some machine

-- That is a call, a turn of the updater or a recheck.
abbrev pub IsInFlight : Index → ℕ → Type 0
IsInFlight s party = HasInFlight (λ (state : PartyState). state.machine) s party

abbrev pub IsTurning : Index → ℕ → Type 0
IsTurning s party = HasInFlight (λ (state : PartyState). state.turn) s party

abbrev pub IsRechecking : Index → ℕ → Type 0
IsRechecking s party = HasInFlight (λ (state : PartyState). state.recheck) s party

-- The party's last call isn't answered.
abbrev pub IsBusy : Index → ℕ → Type 0
IsBusy s party = IsInFlight s party ⊎ (IsTurning s party ⊎ IsRechecking s party)

abbrev pub view_of : Index → ℕ → View
view_of s party = record { layout = s.layout; generation = s.generation; caller = party }

-- The index once this party has begun the call.
abbrev pub started_index : Index → ℕ → PartyState → CoreCall → ℕ → Index
started_index s party state call spare =
    record s {
      states = slice_set s.states party (state_with state (length s.history)
          (machine_of (view_of s party) call));
      spare = spare;
    }

pub record Starts (old : Index) (party : ℕ) (call : CoreCall) (new : Index) : Type 0 where
  pub state : PartyState
  pub there : get_elem? old.states party ≡ some state
  pub is : new ≡ started_index old party state call new.spare
  pub of : IsOf (op_of call) (machine_of (view_of old party) call)

-- The number that the machine's action gives.
abbrev pub told : Index → Running → ℕ
told s machine = got s.layout s.words (running_asks machine)

-- The index once this party's machine has done its action.
abbrev pub stepped_index : Index → ℕ → PartyState → Running → ℕ → Index
stepped_index s party state machine spare = record s {
  words = acted s.layout s.words (running_asks machine);
  states = slice_set s.states party (state_after state (running_turned machine (told s machine)));
  history = s.history ++ written state.caller state.index (counted (stage_of machine));
  spare = spare;
}

-- All the room for writes: of those that are written, of those that the calls in flight may still place, and what is
-- spare.
abbrev pub room_of : Index → ℕ
room_of s = length s.history + (owed s.states + s.spare)

-- No room is lost. So a put or delete that is answered without a place gives its one back.
pub record KeepsRoom (old new : Index) : Type 0 where
  pub spare : old.spare ≤ new.spare
  pub all : room_of old ≤ room_of new

-- What goes on makes this call, maybe at another node.
abbrev pub MakesCall : Call → Turn Running (Once Placed) → Type 0
MakesCall c (Go machine) = IsSame c (running_call machine)
MakesCall c (Done answer) = Unit {0}

-- What is in flight is a get.
abbrev pub IsGetting : Running → Type 0
IsGetting (Getting get) = Unit {0}
IsGetting _ = ⊥

-- Each word of the row is as it was.
abbrev pub KeepsWords : Index → Index → Type 0
KeepsWords old new = new.words ≡ old.words

-- No node becomes FREE.
abbrev pub FreesNone : Index → Index → Type 0
FreesNone old new = (n : ℕ) → (facts (world new)).status n ≡ free_status → (facts (world old)).status n ≡ free_status

-- What the law on steps says of a machine's turn from one index to the next.
pub record IsTurn (old new : Index) (state : PartyState) (machine : Running) : Type 0 where
  -- it goes on with the call of the same op, name and limit
  pub keeps_op : (asked : NameOp) → IsOf asked machine → IsOfAfter asked (running_turned machine (told old machine))
  pub keeps_call : MakesCall (running_call machine) (running_turned machine (told old machine))
  -- it is a step of one of the kinds, or one beside nodes
  pub kind : AnyStep old.layout old.generation (stage_of machine) (running_asks machine) (told old machine)
      (stage_after (running_turned machine (told old machine))) (reply_of (running_turned machine (told old machine)))
  -- the index, with what deletes that aren't counted yet have lowered it by, weighs one more at most, and that only
  -- where a put adds a name
  pub weighs : RisesBy (AddsName old.layout (stage_of machine) (running_asks machine)
      (stage_after (running_turned machine (told old machine)))) (weight_sum (world old)) (weight_sum (world new))
  -- an answer is legal in the words of stages, too: the version word that turned it back or was worn
  pub legal : IsLegal new.layout new.generation (facts (world new)) state.caller state.index state.since
      (stage_of machine) (reply_of (running_turned machine (told old machine)))
  pub frees_none : FreesNone old new
  -- with what the call was told so far, and this number, an answer that turns it back has its cause
  pub hears : HearsOn old.layout old.generation machine (told old machine)

-- One turn of the party's call, and its answer, if that ends it.
pub record TurnsTo (old : Index) (party : ℕ) (new : Index) (result : Option (Once Placed)) : Type 0 where
  pub state : PartyState
  pub machine : Running
  pub there : get_elem? old.states party ≡ some state
  pub flies : state.machine ≡ Some machine
  pub is : new ≡ stepped_index old party state machine new.spare
  pub answers : result ≡ reply_of (running_turned machine (told old machine))
  pub reads : IsGetting machine → KeepsWords old new  -- a get changes no word
  -- an answer is the map's, a write that took place stands in the history, and a refusal has its cause
  pub says : SaysOf new.layout.slots (map_of new.base) new.history state (op_in machine) (running_call machine).limit
      result
  pub worn : WornIfWrites (op_in machine) result
  -- where it has a listing, and is told its version word again, that is the map's as it was at its place
  pub lists : ListsAt new.layout (facts (world new)) machine (told old machine)
  -- it has fewer actions left
  pub fewer : GoesBelow running_left (running_left machine) (running_turned machine (told old machine))
  pub turn : IsTurn old new state machine

-- One step of the party's call, and what it comes to: a part that is answered tells its listing.
pub record StepsTo (old : Index) (party : ℕ) (new : Index) (result : Stepped) : Type 0 where
  pub turned : TurnsTo old party new (answered_by result)
  pub comes_to : result ≡ stepped_of turned.machine (running_turned turned.machine (told old turned.machine))
