-- The laws on the parties of an index and their machines, over plain data. Whoever keeps the words, in a core or in a
-- table that threads share, rests on these and on no other.
use Rattle.std.specs.Prelude.{◌≡◌, ℕ, ◌+◌, ◌≤◌, List, length, Option, Some, None, IfSome}
use mathlib.Core.Option.{some}
use lib.ListN.{get_elem?}
use Rattle.cat_history.specs.Maps.{map_of}
use Rattle.cat_history.specs.Records.{change_of}
use Rattle.cat_history.specs.declared.op.Change.{Change}
use Rattle.pm_words.specs.declared.again.Again.TheVariants as again
use Rattle.pm_words.specs.declared.layout.Layout.{Layout}
use Rattle.pm_words.specs.declared.machine.Turn.{Turn}
use Rattle.pm_words.specs.declared.machine.Turn.TheVariants.{Go, Done}
use Rattle.pm_words.specs.Rows.{CanAct, MayName}
use Rattle.call_stages.specs.declared.once.Once.{Once}
use Rattle.call_stages.specs.declared.once.Once.TheVariants as once
use Rattle.call_stages.specs.declared.once.Placed.{Placed}
use Rattle.call_stages.specs.Stages.{Stage, Idle, Saw, Wears, Reads, Holds, Eyes, Splits, Leaves, Meets, Joins, counted}
use Rattle.call_stages.specs.Stages.{placed_in}
use Rattle.cat_history.specs.declared.op.NameOp.{NameOp}
use Rattle.cat_history.specs.declared.op.NameOp.TheVariants as op
use Rattle.index_core.specs.Weights.{added_by, weight_of}
use Rattle.call_stages.specs.declared.view.View.{View}
use Rattle.node_ops.specs.declared.running.Running.{Running}
use Rattle.node_ops.specs.Asked.{IsOfAfter, op_in}
use Rattle.node_ops.specs.RunningSteps.{running_asks, running_turned, running_takes, running_call, IsRunning, Sound}
use Rattle.node_ops.specs.CallStages.{stage_of, reply_of}
use Rattle.node_ops.specs.Endings.{place_for}
use Rattle.index_law.specs.Laws.{Counts, IsLegal}
use Rattle.index_law.specs.Worlds.{facts}
use Rattle.index_law.specs.Weights.{weight_sum}
use Rattle.index_core.specs.declared.party.CoreCall.{CoreCall}
use Rattle.index_core.specs.declared.party.PartyState.{PartyState}
use Rattle.index_core.specs.Answers.{SaysOf, WornIfWrites}
use Rattle.index_core.specs.Heard.{HearsOn}
use Rattle.index_core.specs.Listings.{ListsAt}
use Rattle.index_core.specs.CoreCalls.{machine_of}
use Rattle.index_core.specs.Indexes.{Index, IsIndex, MakesCall, view_of, started_index, stepped_index, told, world}
use Rattle.index_core.specs.Indexes.{FreesNone, IsGetting, KeepsWords, parties_of}
use Rattle.index_core.specs.Lone.{HasNoCalls, HasNoTurns}

-- A machine is sound, and its next action names a place that an action may name, whatever the words are.
pub record IsReady (l : Layout) (g : ℕ) (m : Running) : Type 0 where
  pub sound : Sound l g m
  pub names : MayName l (running_asks m)

abbrev pub ReadyAfter : Layout → ℕ → Turn Running (Once Placed) → Type 0
ReadyAfter l g (Go m) = IsReady l g m
ReadyAfter l g (Done answer) = Unit {0}

-- One where a name that wasn't there is changed in the node, or in the history already.
abbrev pub shown_by : Option (Option ℕ) → Option Change → Option ℕ → ℕ
shown_by (Some None) (Some change) placed = 1
shown_by (Some None) None (Some place) = 1
shown_by (Some None) None None = 0
shown_by (Some (Some value)) pending placed = 0
shown_by None pending placed = 0

abbrev pub shows : Stage → ℕ
shows Idle = 0
shows (Saw n v w k) = 0
shows (Wears n v) = 0
shows (Reads n v sight told) = 0
shows (Holds n w h) = shown_by h.old h.pending h.placed
shows (Eyes n w h m v u free) = shown_by h.old None h.placed
shows (Splits left fresh phase) = 0
shows (Leaves left) = 0
shows (Meets n w h right) = shown_by h.old None h.placed
shows (Joins h left right pace) = shown_by h.old None h.placed

-- The same of a put alone.
abbrev pub put_shows : NameOp → ℕ → ℕ
put_shows (op.Put name value) shown = shown
put_shows _ shown = 0

-- One for a put in flight whose new name its node shows.
abbrev pub showing : Option Running → ℕ
showing None = 0
showing (Some m) = put_shows (op_in m) (shows (stage_of m))

-- What a turn of a call of this op comes to: one where its new name shows, or was added.
abbrev pub showing_after : NameOp → Turn Running (Once Placed) → ℕ
showing_after op (Go m) = showing (Some m)
showing_after op (Done answer) = added_by op answer

-- A step isn't answered that the epoch has moved.
abbrev pub IsNoEpoch : Option (Once Placed) → Type 0
IsNoEpoch (Some (once.Again (again.Epoch first second))) = ⊥
IsNoEpoch _ = Unit {0}

-- What a step of a party with its machine needs and leaves.
pub record MachineLaw (s : Index) (party : ℕ) (state : PartyState) (machine : Running) : Type 0 where
  pub can : CanAct s.layout s.words (running_asks machine)
  pub takes : running_takes machine (told s machine)
  -- the action, done on its word, and the machine, told what the word gave, leave an index, longer by what the step
  -- counts
  pub kept : IsIndex (stepped_index s party state machine s.spare)
  -- that of a get changes no word
  pub reads : IsGetting machine → KeepsWords s (stepped_index s party state machine s.spare)
  -- it counts just where it adds to the clock, at the place that it is told
  pub counts : Counts s.layout (length s.history) (running_asks machine) (told s machine) (counted (stage_of machine))
  -- an answer is the map's at its place, or has its cause
  pub says : SaysOf s.layout.slots (map_of s.base) (stepped_index s party state machine s.spare).history state
      (op_in machine) (running_call machine).limit
      (reply_of (running_turned machine (told s machine)))
  pub worn : WornIfWrites (op_in machine) (reply_of (running_turned machine (told s machine)))
  -- an answer is legal in the words of stages, too: the version word that turned it back or was worn
  pub legal : IsLegal s.layout s.generation (facts (world (stepped_index s party state machine s.spare))) state.caller
      state.index state.since (stage_of machine) (reply_of (running_turned machine (told s machine)))
  -- with what the call was told so far, and this number, an answer that turns it back has its cause
  pub hears : HearsOn s.layout s.generation machine (told s machine)
  -- no machine is turned back by the epoch, which it doesn't load
  pub no_epoch : IsNoEpoch (reply_of (running_turned machine (told s machine)))
  -- the listing of a part, if it has one now and is told its version word again, is that of the map at its place
  pub lists : ListsAt s.layout (facts (world (stepped_index s party state machine s.spare))) machine (told s machine)
  pub frees_none : FreesNone s (stepped_index s party state machine s.spare)
  -- it goes on with the same call
  pub keeps_op : IsOfAfter (op_in machine) (running_turned machine (told s machine))
  pub keeps_call : MakesCall (running_call machine) (running_turned machine (told s machine))
  pub ready : ReadyAfter s.layout s.generation (running_turned machine (told s machine))
  -- the weight rises by one at most, and only where a put begins to show its new name
  pub weighs : weight_sum (world (stepped_index s party state machine s.spare)) + showing (Some machine) ≤
      weight_sum (world s) + showing_after (op_in machine) (running_turned machine (told s machine))
  -- a put that shows its new name goes on to, until it is answered so
  pub shows_on : showing (Some machine) ≤ showing_after (op_in machine) (running_turned machine (told s machine))

abbrev pub MachineKeeps : Type 0
MachineKeeps = (s : Index) (party : ℕ) (state : PartyState) (machine : Running) → IsIndex s →
    get_elem? s.states party ≡ some state → state.machine ≡ Some machine →
    MachineLaw s party state machine

-- The start of an idle party's call, of whatever index, leaves an index of the same weight, and shows nothing.
pub record BeginLaw (s : Index) (party : ℕ) (state : PartyState) (index : ℕ) (c : CoreCall) : Type 0 where
  pub kept : IsIndex (started_index s party (record state { index = index }) c s.spare)
  pub weighs : weight_sum (world (started_index s party (record state {
    index = index;
  }) c s.spare)) ≡ weight_sum (world s)
  pub shows_none : showing (Some (machine_of (view_of s party) c)) ≡ 0

abbrev pub BeginKeeps : Type 0
BeginKeeps = (s : Index) (party : ℕ) (state : PartyState) (index : ℕ) (c : CoreCall) → IsIndex s →
    get_elem? s.states party ≡ some state → state.machine ≡ None →
    IsRunning (machine_of (view_of s party) c) → BeginLaw s party state index c

-- The machine of a call that begins is ready, whatever the words are.
abbrev pub FirstIsReady : Type 0
FirstIsReady = (v : View) (c : CoreCall) → IsRunning (machine_of v c) → IsReady v.layout v.generation (machine_of v c)

-- So many idle parties, each at the place of its number, which have made no call in this history.
pub record AreIdle (states : List PartyState) (n : ℕ) : Type 0 where
  pub count : length states ≡ n
  pub numbers : (i : ℕ) (e : PartyState) → get_elem? states i ≡ some e → e.caller ≡ i
  pub idle : (i : ℕ) (e : PartyState) → get_elem? states i ≡ some e → e.machine ≡ None
  pub resting : (i : ℕ) (e : PartyState) → get_elem? states i ≡ some e → e.turn ≡ None
  pub unchecked : (i : ℕ) (e : PartyState) → get_elem? states i ≡ some e → e.recheck ≡ None
  pub begun : (i : ℕ) (e : PartyState) → get_elem? states i ≡ some e → e.since ≡ 0

-- An index with no call on a name in flight, and no turn, is one with any such parties.
abbrev pub IdleKeep : Type 0
IdleKeep = (s : Index) (states : List PartyState) → IsIndex s → HasNoCalls s → HasNoTurns s →
    AreIdle states (parties_of s.layout) → IsIndex (record s { states = states })

-- Where no call is in flight, the sum is the weight.
abbrev pub IdleWeigh : Type 0
IdleWeigh = (s : Index) → HasNoCalls s → weight_sum (world s) ≡ weight_of s

-- The place of a call's write, if it has one, by its turn: only a write that took place is answered one.
abbrev pub place_told : Option Change → Once Placed → Option ℕ
place_told change (once.Done placed) = place_for change placed.place
place_told change _ = None

abbrev pub place_now : Option Change → Turn Running (Once Placed) → Option ℕ
place_now change (Go m) = placed_in (stage_of m)
place_now change (Done answer) = place_told change answer

abbrev pub place_next : Option ℕ → ℕ → Option Change → Option ℕ
place_next before x None = before
place_next before x (Some change) = Some x

-- A turn that counts takes the place that it is told, and had none; each other turn keeps it, to the answer.
abbrev pub PlacesFollow : Type 0
PlacesFollow = (m : Running) (x : ℕ) → IsRunning m →
    (place_now (change_of (op_in m)) (running_turned m x) ≡ place_next (placed_in (stage_of m)) x
    (counted (stage_of m)))
    × IfSome (counted (stage_of m)) (λ c. placed_in (stage_of m) ≡ None)
