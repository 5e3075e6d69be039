-- What the table keeps, and what one step tells.
use Rattle.std.specs.Prelude.{◌*◌, ◌/◌, ◌≡◌, ℕ, ◌+◌, ◌<◌, ◌≤◌, ◌^◌, ◌==◌, true, false, if◌then◌else◌, List, []}
use Rattle.std.specs.Prelude.{◌∷◌, ◌++◌}
use Rattle.std.specs.Prelude.{length, map, Some, None, IfSome}
use mathlib.Core.Option.{some}
use lib.ListN.{get_elem?}
use Rattle.cat_history.specs.Maps.{Map, map_of}
use Rattle.cat_history.specs.Writes.{after}
use Rattle.cat_history.specs.declared.op.Write.{Write}
use Rattle.pm_words.specs.declared.action.Action.{Action}
use Rattle.pm_words.specs.Rows.{given, action_address, word_after, CanChange}
use Rattle.call_stages.specs.Stages.{counted}
use Rattle.call_stages.specs.declared.once.Once.TheVariants as once
use Rattle.pm_words.specs.declared.machine.Turn.{Turn}
use Rattle.pm_words.specs.declared.machine.Turn.TheVariants.{Go, Done}
use Rattle.call_stages.specs.declared.once.Once.{Once}
use Rattle.call_stages.specs.declared.once.Placed.{Placed}
use Rattle.call_stages.specs.declared.view.View.{View}
use Rattle.node_ops.specs.declared.part.Part.{Part}
use Rattle.node_ops.specs.declared.part.PartWords.{PartWords}
use Rattle.node_ops.specs.declared.running.Running.{Running}
use Rattle.node_ops.specs.declared.running.Running.TheVariants.{Parting}
use Rattle.node_ops.specs.Asked.{IsOfAfter, op_in, name_asked}
use Rattle.node_ops.specs.RunningSteps.{running_asks, running_turned, running_takes, running_call, count_in, listed_in}
use Rattle.node_ops.specs.CallStages.{stage_of, reply_of}
use Rattle.node_ops.specs.Calls.{name_in}
use Rattle.node_ops.specs.Parts.{Confirms}
use Rattle.node_ops.specs.PartSteps.{part_call, part_count, part_turned}
use Rattle.node_ops.specs.Rechecks.{KnownPart}
use Rattle.index_law.specs.Worlds.{written}
use Rattle.index_core.specs.declared.party.PartyState.{PartyState}
use Rattle.index_core.specs.declared.party.CoreCall.{CoreCall}
use Rattle.index_core.specs.Answers.{SaysOf}
use Rattle.index_core.specs.Listings.{ListsRange}
use Rattle.index_core.specs.CoreCalls.{machine_of}
use Rattle.index_core.specs.PartyStates.{idle_states, state_with, state_after}
use Rattle.index_core.specs.Indexes.{Index, IsIndex, MakesCall, world, parties_of}
use Rattle.index_core.specs.MachineLaws.{IsNoEpoch, ReadyAfter, showing}
use Rattle.index_core.specs.Rechecks.{Knows}
use Rattle.index_core.specs.CrashLaws.{TimelyIn}
use Rattle.index_core.specs.Weights.{added_by}
use Rattle.index_law.specs.Facts.{facts_of}
use Rattle.index_law.specs.Weights.{index_weight, weight_sum}
use Rattle.cat_history.specs.declared.op.NameOp.{NameOp}
use Rattle.atomic_table.specs.Table.{State, Me, Allows}
use Rattle.epochs.specs.Views.{one_if, in_view, in_views}
use Rattle.pac_index.specs.declared.rule.About.{About}
use Rattle.pac_index.specs.declared.rule.AnsweredPart.{AnsweredPart}
use Rattle.pac_index.specs.declared.rule.Member.{Member}

-- The index of which these are the words, the parties and the history.
abbrev pub index_of : About → List ℕ → List PartyState → List Write → Index
index_of about words states history =
    record {
      layout = about.layout;
      generation = about.generation;
      words = words;
      states = states;
      base = about.base;
      history = history;
      spare = 0;
    }

-- The writes of a caller, each with its place, where the first of the list stands at this one.
abbrev pub placed_from : ℕ → ℕ → List Write → List (ℕ × Write)
placed_from caller place [] = []
placed_from caller place (w ∷ ws) =
    if w.caller == caller then (place, w) ∷ placed_from caller (place + 1) ws else placed_from caller (place + 1) ws

abbrev pub placed_by : ℕ → List Write → List (ℕ × Write)
placed_by caller history = placed_from caller 0 history

-- Writes, each with this place.
abbrev pub noted : ℕ → List Write → List (ℕ × Write)
noted place [] = []
noted place (w ∷ ws) = (place, w) ∷ noted place ws

-- The second list begins with the first.
abbrev pub Begins : List Write → List Write → Type 0
Begins xs ys = (rest : List Write) × (xs ++ rest ≡ ys)

-- What a seat knows of one of its parties holds: the party stands at its number, what it has seen is a beginning of the
-- history, and the history has no other writes of it than those that it has seen.
pub record Fits (about : About) (states : List PartyState) (history : List Write) (m : Member) : Type 0 where
  pub same : m.about ≡ about
  pub there : get_elem? states m.state.caller ≡ some m.state
  pub seen : Begins m.seen history
  pub own : placed_by m.state.caller history ≡ placed_by m.state.caller m.seen

abbrev pub AllFit : About → List PartyState → List Write → List Member → Type 0
AllFit about states history view = (k : ℕ) (m : Member) → get_elem? view k ≡ some m → Fits about states history m

-- One for the party of this number.
abbrev pub one_of : ℕ → Member → ℕ
one_of n m = one_if (m.state.caller == n)

-- How often a number stands among the parties of a view, and of all views.
abbrev pub times_in : ℕ → List Member → ℕ
times_in n v = in_view (one_of n) v

abbrev pub times_in_all : ℕ → List (List Member) → ℕ
times_in_all n vs = in_views (one_of n) vs

-- How many names a party has added, with one that its call in flight shows; and those of a view, and of all views.
abbrev pub added_of : Member → ℕ
added_of m = m.added + showing m.state.machine

abbrev pub added_in : List Member → ℕ
added_in v = in_view added_of v

abbrev pub added_in_all : List (List Member) → ℕ
added_in_all vs = in_views added_of vs

-- What the index weighed as the run began.
abbrev pub opening_weight : About → ℕ
opening_weight about = index_weight about.layout (facts_of about.layout about.opened.words (map_of about.base) [])

-- What the index weighed as the run began, and the puts that the views count, are together at least half of all slots.
abbrev pub IsHalfPaid : About → List (List Member) → Type 0
IsHalfPaid about views = about.layout.nodes * (about.layout.slots / 2) ≤ opening_weight about + added_in_all views

-- So it is where a party of this view has found no node FREE.
abbrev pub AllPaid : About → List (List Member) → List Member → Type 0
AllPaid about views view = (k : ℕ) (m : Member) → get_elem? view k ≡ some m → m.none_free ≡ true →
    IsHalfPaid about views

-- A part as the core knows it.
abbrev pub known_part : AnsweredPart → KnownPart
known_part a = record { low = a.low; count = a.count; words = a.words }

-- It is known in the index: while its node's version word is the one that it tells, the map on the node's range as it
-- was has been the same at each place from the part's on. It sorted no more names than a node has slots.
abbrev pub IsPartKnown : Index → AnsweredPart → Type 0
IsPartKnown s a = Knows s (known_part a) × (a.words.compared ≤ s.layout.slots)

abbrev pub KnowsParts : Index → Member → Type 0
KnowsParts s m = (j : ℕ) (a : AnsweredPart) → get_elem? m.known j ≡ some a → IsPartKnown s a

abbrev pub AllKnow : Index → List Member → Type 0
AllKnow s view = (k : ℕ) (m : Member) → get_elem? view k ≡ some m → KnowsParts s m

-- There are parties and a history with which the words are an index, as the core has it, and each view fits them. No
-- party stands in two views, nor twice in one.
pub record Kept (about : About) (s : State (Unit {0}) (List Member)) : Type 0 where
  pub states : List PartyState
  pub history : List Write
  pub index : IsIndex (index_of about s.words states history)
  pub fits : (i : ℕ) (view : List Member) → get_elem? s.views i ≡ some view → AllFit about states history view
  pub once : (n : ℕ) → times_in_all n s.views ≤ 1
  -- it weighs no more than as it was opened and the puts that the views count as having added a name
  pub weight : weight_sum (world (index_of about s.words states history)) ≤ opening_weight about + added_in_all s.views
  -- and where a party has found no node FREE, that is at least half of all slots
  pub full : (i : ℕ) (view : List Member) → get_elem? s.views i ≡ some view → AllPaid about s.views view
  -- each part that a party of a view was answered is known
  pub known : (i : ℕ) (view : List Member) → get_elem? s.views i ≡ some view →
      AllKnow (index_of about s.words states history) view

-- The first view has all parties, which are idle.
abbrev pub member_of : About → PartyState → Member
member_of about state =
    record { about = about; state = state; seen = []; told = []; taken = 0; added = 0; none_free = false; known = [] }

abbrev pub first_view : About → List Member
first_view about = map (member_of about) (idle_states (parties_of about.layout))

-- The party of a seat that has one.
abbrev pub nobody : Member
nobody = record {
  about = record {
    layout = record { nodes = 1; slots = 4; callers = 1 };
    generation = 0;
    base = [];
    opened =
        record { layout = record { nodes = 1; slots = 4; callers = 1 }; words = [] };
  };
  state = record { caller = 0; index = 0; since = 0; machine = None; turn = None; recheck = None };
  seen = [];
  told = [];
  taken = 0;
  added = 0;
  none_free = false;
  known = [];
}

abbrev pub head_of : List Member → Member
head_of [] = nobody
head_of (m ∷ ms) = m

abbrev pub rest_of : List Member → List Member
rest_of [] = []
rest_of (m ∷ ms) = ms

-- a view is cut behind its first party
abbrev pub first_of : List Member → List Member
first_of [] = []
first_of (m ∷ ms) = m ∷ []

abbrev pub party : Me (Unit {0}) (List Member) → Member
party me = head_of me.0

-- The seat has one party, and no slot.
abbrev pub IsLone : Me (Unit {0}) (List Member) → Type 0
IsLone me = me ≡ (party me ∷ [], [])

-- One where a turn ends a put that added its name.
abbrev pub added_now : NameOp → Turn Running (Once Placed) → ℕ
added_now op (Go m) = 0
added_now op (Done answer) = added_by op answer

-- What the machine lists, which is a part of a range scan, is the map's at its place, if its action, which gives this
-- number now, gives the version word that it tells.
abbrev pub ListsNow : Map → List Write → Running → ℕ → Type 0
ListsNow base history m x = IfSome (listed_in m) (λ words. IfSome (count_in m) (λ count. Confirms m x words →
    ListsRange (after base history words.place) (name_asked (op_in m)) count words))

-- The part that a turn answers, if it is done.
abbrev pub part_answered : Part → Turn Part (Once PartWords) → List AnsweredPart
part_answered p (Done (once.Done words)) =
    record { low = name_in (part_call p); count = part_count p; words = words } ∷ []
part_answered p _ = []

-- The part that the machine answers that is told this number now, if it is one of a range scan.
abbrev pub answered_now : Running → ℕ → List AnsweredPart
answered_now (Parting p) x = part_answered p (part_turned p x)
answered_now _ x = []

-- Of the parts that were answered each is so still.
abbrev pub KnowsStill : List AnsweredPart → List AnsweredPart → Type 0
KnowsStill old new = (j : ℕ) (a : AnsweredPart) → get_elem? old j ≡ some a → get_elem? new j ≡ some a

-- The part is one of them.
abbrev pub HasPart : List AnsweredPart → AnsweredPart → Type 0
HasPart known a = (j : ℕ) × (get_elem? known j ≡ some a)

-- It goes on so that a write which has its place began below its limit.
abbrev pub GoesTimely : ℕ → Turn Running (Once Placed) → Type 0
GoesTimely since (Go machine) = TimelyIn since machine
GoesTimely since (Done answer) = Unit {0}

-- What a step of a party leaves of it, which is told this number, be it of a call or of a turn.
pub record LeftByStep (v : Member) (x : ℕ) (w : Member) : Type 0 where
  pub about : w.about ≡ v.about
  pub told : w.told ≡ v.told ++ x ∷ []
  pub taken : w.taken ≡ v.taken + 1
  pub seen : Begins v.seen w.seen

-- What the steps of a turn leave of their party, which place no write and count no call.
pub record PlacesNone (old new : Member) : Type 0 where
  pub about : new.about ≡ old.about
  pub taken : new.taken ≡ old.taken + length new.told
  pub added : new.added ≡ old.added
  pub known : new.known ≡ old.known
  pub seen : Begins old.seen new.seen
  pub own : placed_by old.state.caller new.seen ≡ placed_by old.state.caller old.seen

-- What a party's step with its machine, which is told this number, leaves and shows.
pub record Goes (m : Running) (v : Member) (x : ℕ) (w : Member) : Type 0 where
  pub takes : running_takes m x
  pub stepped : LeftByStep v x w
  pub state : w.state ≡ state_after v.state (running_turned m x)
  pub added : w.added ≡ v.added + added_now (op_in m) (running_turned m x)
  pub none_free : w.none_free ≡ v.none_free
  pub known : w.known ≡ v.known ++ answered_now m x
  -- of its writes just the one that the step counts is added, if it counts one, and at the place that it was told
  pub own : placed_by v.state.caller w.seen ≡ placed_by v.state.caller v.seen ++ noted x
      (written v.state.caller v.state.index (counted (stage_of m)))
  pub says : SaysOf v.about.layout.slots (map_of v.about.base) w.seen v.state (op_in m) (running_call m).limit
      (reply_of (running_turned m x))
  pub no_epoch : IsNoEpoch (reply_of (running_turned m x))
  pub lists : ListsNow (map_of v.about.base) w.seen m x
  -- it goes on with the same call
  pub op_on : IsOfAfter (op_in m) (running_turned m x)
  pub call_on : MakesCall (running_call m) (running_turned m x)
  pub ready : ReadyAfter v.about.layout v.about.generation (running_turned m x)
  pub timely : GoesTimely v.state.since (running_turned m x)

-- The step of the machine that is in flight.
abbrev pub Tells : Me (Unit {0}) (List Member) → ℕ → Me (Unit {0}) (List Member) → Type 0
Tells me found after = (m : Running) → (party me).state.machine ≡ Some m → IsLone after ×
    Goes m (party me) (given (running_asks m) found) (party after)

-- The machine of a party's call, before its first action.
abbrev pub view_in : Member → View
view_in v = record { layout = v.about.layout; generation = v.about.generation; caller = v.state.caller }

abbrev pub machine_in : Member → CoreCall → Running
machine_in v call = machine_of (view_in v) call

-- The party once it has begun its call.
abbrev pub calling : Member → CoreCall → ℕ → ℕ → Member
calling v call index since = record v {
  state = state_with (record v.state { index = index }) since (machine_in v call);
  told = [];
}

-- The first step of a call.
pub record Starts (call : CoreCall) (index : ℕ) (me : Me (Unit {0}) (List Member)) (found : ℕ)
    (after : Me (Unit {0}) (List Member)) : Type 0 where
  pub since : ℕ
  pub later : length (party me).seen ≤ since
  pub lone : IsLone after
  pub goes : Goes (machine_in (party me) call) (calling (party me) call index since)
      (given (running_asks (machine_in (party me) call)) found) (party after)

-- Whatever the table is, the seat may do the action, in whatever form the table has it, and is told this.
abbrev pub May : About → ℕ → ℕ → ℕ → Me (Unit {0}) (List Member) → Action →
    (Me (Unit {0}) (List Member) → ℕ → Me (Unit {0}) (List Member) → Type 0) → Type 0
May about words slots id me action tells =
    (action_address about.layout action < words)
    × ((f told : ℕ → ℕ) → ((n : ℕ) → n < 2 ^ 64 → CanChange action n → f n ≡ word_after action n) →
    ((n : ℕ) → given action (told n) ≡ given action n)
    → Allows (Kept about) slots id me (action_address about.layout action) f (λ n. tells me (told n)))

-- What the seat was told at an action that gave this number.
pub record WasTold (tells : Me (Unit {0}) (List Member) → ℕ → Me (Unit {0}) (List Member) →
    Type 0) (me : Me (Unit {0}) (List Member)) (action : Action) (x : ℕ) (after : Me (Unit {0}) (List Member)) : Type 0
  where
    pub found : ℕ
    pub is : x ≡ given action found
    pub heard : tells me found after
