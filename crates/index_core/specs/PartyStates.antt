-- The parties of the core, each with its call in flight.
use Rattle.std.specs.Prelude.{◌≡◌, ℕ, zero, suc, ◌+◌, ◌-◌, ◌<◌, ◌^◌, ◌||◌, Bool, is_some, min, List, [], ◌∷◌, ◌++◌}
use Rattle.std.specs.Prelude.{Option, Some, None, IfSome}
use mathlib.Core.Option.{some}
use lib.ListN.{get_elem?}
use Rattle.cat_history.specs.declared.op.Write.{Write}
use Rattle.pm_words.specs.declared.again.Again.TheVariants as again
use Rattle.pm_words.specs.declared.layout.Layout.{Layout}
use Rattle.pm_words.specs.declared.machine.Turn.{Turn}
use Rattle.pm_words.specs.declared.machine.Turn.TheVariants.{Go, Done}
use Rattle.call_stages.specs.declared.once.Once.{Once}
use Rattle.call_stages.specs.declared.once.Once.TheVariants as once
use Rattle.call_stages.specs.declared.once.Placed.{Placed}
use Rattle.call_stages.specs.Stages.{Stage, Idle}
use Rattle.call_stages.specs.Prevs.{no_debt}
use Rattle.call_stages.specs.Watches.{Nothing}
use Rattle.call_stages.specs.Footings.{Footing}
use Rattle.node_ops.specs.declared.finish.FinishAt.{FinishAt}
use Rattle.node_ops.specs.declared.finish.FinishAt.TheVariants as finish_at
use Rattle.node_ops.specs.declared.put.Put.{Put}
use Rattle.node_ops.specs.declared.put.Put.TheVariants as put
use Rattle.node_ops.specs.declared.single_put.SinglePut.TheVariants as single_put
use Rattle.node_ops.specs.declared.del.Del.{Del}
use Rattle.node_ops.specs.declared.del.Del.TheVariants as del
use Rattle.node_ops.specs.declared.single_del.SingleDel.TheVariants as single_del
use Rattle.node_ops.specs.declared.part.PartWords.{PartWords}
use Rattle.node_ops.specs.declared.recheck.Recheck.{Recheck}
use Rattle.node_ops.specs.declared.recheck.Same.{Same}
use Rattle.node_ops.specs.declared.running.Running.{Running}
use Rattle.node_ops.specs.declared.running.Running.TheVariants.{Getting, Putting, Deleting, Parting}
use Rattle.node_ops.specs.CallStages.{stage_of, footing_of}
use Rattle.node_ops.specs.PartSteps.{early_of, placed_of}
use Rattle.node_ops.specs.RunningSteps.{Sound, running_call, count_in, listed_in}
use Rattle.node_ops.specs.RecheckSteps.{IsRecheck, recheck_view}
use Rattle.node_ops.specs.Rechecks.{RecheckSure}
use Rattle.node_ops.specs.Asked.{IsOf, op_in}
use Rattle.updater.specs.updater_row_law.specs.RowStages.{Resting}
use Rattle.updater.specs.updater_row_law.specs.Turnings.{Turning}
use Rattle.updater.specs.declared.making.MakeTurn.{MakeTurn}
use Rattle.updater.specs.declared.making.TurnReply.{TurnReply}
use Rattle.updater.specs.Makings.{IsMaking, making_terms, making_turning}
use Rattle.index_law.specs.Worlds.{Party}
use Rattle.index_core.specs.declared.party.PartyState.{PartyState}
use Rattle.index_core.specs.declared.party.Rechecking.{Rechecking}
use Rattle.index_core.specs.declared.party.CoreReply.{CoreReply}
use Rattle.index_core.specs.declared.party.CoreReply.TheVariants as reply
use Rattle.index_core.specs.declared.party.Stepped.{Stepped}
use Rattle.index_core.specs.declared.party.Stepped.TheVariants.{Going, Answered}

-- What a call in flight relies on.
abbrev pub machine_stage : Option Running → Stage
machine_stage None = Idle
machine_stage (Some machine) = stage_of machine

-- With its log line, and what it knows and owes of prevs.
abbrev pub machine_footing : Option Running → Footing
machine_footing None = record { stage = Idle; line = None; debt = no_debt }
machine_footing (Some machine) = footing_of machine

-- The party as the law of the index knows it.
abbrev pub party_of : PartyState → Party
party_of state = record {
  caller = state.caller;
  index = state.index;
  since = state.since;
  stage = machine_stage state.machine;
}

-- It has made no call.
abbrev pub idle_state : ℕ → PartyState
idle_state caller = record { caller = caller; index = 0; since = 0; machine = None; turn = None; recheck = None }

-- Its last call isn't answered.
abbrev pub is_busy : PartyState → Bool
is_busy state = (is_some state.machine || is_some state.turn) || is_some state.recheck

-- So many of them, each at the place of its number.
abbrev pub idle_states : ℕ → List PartyState
idle_states zero = []
idle_states (suc callers) = idle_states callers ++ idle_state callers ∷ []

-- It begins this call, under the index that is its next.
abbrev pub state_with : PartyState → ℕ → Running → PartyState
state_with state since machine = record state { since = since; machine = Some machine }

-- One higher, as far as 64 bits go.
abbrev pub next_index : ℕ → ℕ
next_index index = min (index + 1) (2 ^ 64 - 1)

-- The index of a party's next call, once its call of this index is answered: one that is turned back uses up none.
abbrev pub index_after : ℕ → Once Placed → ℕ
index_after index (once.Again why) = index
index_after index _ = next_index index

-- One call more of the party is counted.
abbrev pub state_counted : PartyState → PartyState
state_counted state = record state { index = next_index state.index }

-- The call in flight after its turn.
abbrev pub flight_after : Turn Running (Once Placed) → Option Running
flight_after (Go machine) = Some machine
flight_after (Done answer) = None

-- After its call's turn.
abbrev pub state_after : PartyState → Turn Running (Once Placed) → PartyState
state_after state (Go machine) = record state { machine = Some machine }
state_after state (Done answer) = record state { index = index_after state.index answer; machine = None }

-- What a part is answered: its listing, if it has one and is done, and else why it ended early.
abbrev pub done_part : PartWords → Once Placed → Once PartWords
done_part words (once.Done placed) = once.Done words
done_part words answer = early_of answer

abbrev pub part_answer : Option PartWords → Once Placed → Once PartWords
part_answer None answer = early_of answer
part_answer (Some words) answer = done_part words answer

-- What a call is answered. One with a count is a part of a scan.
abbrev pub reply_with : Option ℕ → Option PartWords → Once Placed → CoreReply
reply_with None listed answer = reply.Placed answer
reply_with (Some count) listed answer = reply.Part (part_answer listed answer)

-- What a machine's turn comes to.
abbrev pub stepped_of : Running → Turn Running (Once Placed) → Stepped
stepped_of machine (Go next) = Going
stepped_of machine (Done answer) = Answered (reply_with (count_in machine) (listed_in machine) answer)

-- What the try of a call on a name was answered, which of a part is the answer of a get of its low name. No such call
-- is answered as a recheck or a turn of the updater is (`stepped_of`), so what stands for those says nothing.
abbrev pub answer_in : CoreReply → Once Placed
answer_in (reply.Placed answer) = answer
answer_in (reply.Part answer) = placed_of answer
answer_in (reply.Same answer) = once.Again again.LogFull
answer_in (reply.Turn turned) = once.Again again.LogFull

-- What a part listed, if it took place.
abbrev pub words_told : Once PartWords → Option PartWords
words_told (once.Done words) = Some words
words_told (once.Spent clock) = None
words_told (once.Worn node word) = None
words_told (once.Again why) = None

abbrev pub listed_by : CoreReply → Option PartWords
listed_by (reply.Placed answer) = None
listed_by (reply.Part answer) = words_told answer
listed_by (reply.Same answer) = None
listed_by (reply.Turn turned) = None

-- What a step's call is answered, if it is.
abbrev pub answered_by : Stepped → Option (Once Placed)
answered_by Going = None
answered_by (Answered reply) = Some (answer_in reply)

-- How many writes a call in flight may still place.
abbrev finish_owes : FinishAt → ℕ
finish_owes (finish_at.Fence line fence) = 1
finish_owes finish_at.Add = 1
finish_owes (finish_at.Unlock place) = 0

abbrev put_owes : Put → ℕ
put_owes (put.Single (single_put.Finishing finish)) = finish_owes finish.at
put_owes _ = 1

abbrev del_owes : Del → ℕ
del_owes (del.Single (single_del.Finishing finish line)) = finish_owes finish.at
del_owes (del.Merging call hold old place merge) = 0
del_owes _ = 1

abbrev pub owes : Running → ℕ
owes (Getting get) = 0
owes (Putting put) = put_owes put
owes (Deleting del) = del_owes del
owes (Parting part) = 0

abbrev pub machine_owes : Option Running → ℕ
machine_owes None = 0
machine_owes (Some machine) = owes machine

-- How many writes all the calls in flight may still place.
abbrev pub owed : List PartyState → ℕ
owed [] = 0
owed (state ∷ states) = machine_owes state.machine + owed states

-- The turn that a party makes, as the law of turns has it: one that rests, if it makes none.
abbrev pub resting : Turning
resting = record { stamp = 1; release = 0; stage = Resting; watch = Nothing }

abbrev pub turning_of : Option MakeTurn → Turning
turning_of None = resting
turning_of (Some making) = making_turning making

-- The turn in flight after a turn of its machine, and its answer, if that ends it.
abbrev pub turn_after : Turn MakeTurn TurnReply → Option MakeTurn
turn_after (Go making) = Some making
turn_after (Done reply) = None

abbrev pub turn_reply : Turn MakeTurn TurnReply → Option TurnReply
turn_reply (Go making) = None
turn_reply (Done reply) = Some reply

-- What a step of a turn comes to, by what answers the turn, if that ends it.
abbrev pub turn_stepped : Option TurnReply → Stepped
turn_stepped None = Going
turn_stepped (Some turned) = Answered (reply.Turn turned)

abbrev pub state_turned : PartyState → Turn MakeTurn TurnReply → PartyState
state_turned state turn = record state { turn = turn_after turn }

-- The recheck in flight after a turn of its machine, which began as the history was so long, and its answer, if that
-- ends it.
abbrev pub recheck_after : ℕ → Turn Recheck (Once Same) → Option Rechecking
recheck_after since (Go recheck) = Some (record { since = since; machine = recheck })
recheck_after since (Done answer) = None

abbrev pub recheck_reply : Turn Recheck (Once Same) → Option (Once Same)
recheck_reply (Go recheck) = None
recheck_reply (Done answer) = Some answer

-- What a step of a recheck comes to, by what answers it, if that ends it.
abbrev pub recheck_stepped : Option (Once Same) → Stepped
recheck_stepped None = Going
recheck_stepped (Some answer) = Answered (reply.Same answer)

abbrev pub state_rechecked : PartyState → ℕ → Turn Recheck (Once Same) → PartyState
state_rechecked state since turn = record state { recheck = recheck_after since turn }

-- The recheck is one of this index, and relies on no more than the history has.
pub record IsRecheckingOf (l : Layout) (g : ℕ) (history : List Write) (r : Rechecking) : Type 0 where
  pub sound : IsRecheck r.machine
  pub layout : (recheck_view r.machine).layout ≡ l
  pub generation : (recheck_view r.machine).generation ≡ g
  pub sure : RecheckSure r.since history r.machine

-- So is each party's, if it has one.
abbrev pub AreRechecksOf : Layout → ℕ → List Write → List PartyState → Type 0
AreRechecksOf l g history states = (i : ℕ) (state : PartyState) → get_elem? states i ≡ some state →
    IfSome state.recheck (IsRecheckingOf l g history)

-- The turn is one of this index.
pub record IsTurnOf (l : Layout) (g : ℕ) (making : MakeTurn) : Type 0 where
  pub sound : IsMaking making
  pub layout : (making_terms making).layout ≡ l
  pub generation : (making_terms making).generation ≡ g
  pub stamp : (making_terms making).stamp < 2 ^ 64

-- The party stands at the place of its number.
pub record IsPartyState (l : Layout) (g : ℕ) (i : ℕ) (state : PartyState) : Type 0 where
  pub caller : state.caller ≡ i
  pub machine : IfSome state.machine (Sound l g)  -- its call is one of this index
  pub op : IfSome state.machine (λ machine. IsOf (op_in machine) machine)  -- and is made for one op
  pub own : IfSome state.machine (λ machine. (running_call machine).view.caller ≡ i)  -- by this party
  pub turn : IfSome state.turn (IsTurnOf l g)
