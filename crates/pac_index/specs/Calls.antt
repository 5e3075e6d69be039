-- What a call of a caller is answered, and how far it is on the way.
use Rattle.std.specs.Prelude.{◌≡◌, ℕ, suc, ◌+◌, ◌<◌, ◌≤◌, List, [], ◌∷◌, ◌++◌, length, Option, Some, None, IfSome}
use Rattle.cat_history.specs.Maps.{map_of}
use Rattle.cat_history.specs.Writes.{after}
use Rattle.cat_history.specs.Records.{change_of}
use Rattle.cat_history.specs.declared.op.Change.{Change}
use Rattle.cat_history.specs.declared.op.Write.{Write}
use Rattle.pm_words.specs.declared.machine.Turn.{Turn}
use Rattle.pm_words.specs.declared.machine.Turn.TheVariants.{Go, Done}
use Rattle.pm_words.specs.Turns.{AdvancesTo, turn_of}
use Rattle.call_stages.specs.declared.once.Once.{Once}
use Rattle.call_stages.specs.declared.once.Once.TheVariants as once
use Rattle.call_stages.specs.declared.once.Placed.{Placed}
use Rattle.node_ops.specs.declared.part.Part.{Part}
use Rattle.node_ops.specs.declared.part.Part.TheVariants as part
use Rattle.node_ops.specs.declared.part.PartWords.{PartWords}
use Rattle.node_ops.specs.declared.running.Running.{Running}
use Rattle.node_ops.specs.Asked.{IsOfAfter}
use Rattle.node_ops.specs.CallStages.{reply_of}
use Rattle.node_ops.specs.Calls.{new_call}
use Rattle.node_ops.specs.LookupSteps.{starts}
use Rattle.node_ops.specs.PartSteps.{part_turned, placed_of}
use Rattle.node_ops.specs.RunningSteps.{running_call, running_left, running_turned}
use Rattle.index_law.specs.Worlds.{written}
use Rattle.index_core.specs.declared.party.CoreCall.{CoreCall}
use Rattle.index_core.specs.declared.party.CoreCall.TheVariants as call
use Rattle.index_core.specs.declared.party.PartyState.{PartyState}
use Rattle.index_core.specs.Answers.{IsAnswerOf, SaysOf}
use Rattle.index_core.specs.CoreCalls.{op_of, limit_of}
use Rattle.index_core.specs.Listings.{ListsRange}
use Rattle.index_core.specs.PartyStates.{state_with, state_after, next_index, words_told}
use Rattle.index_core.specs.Indexes.{MakesCall}
use Rattle.index_core.specs.MachineLaws.{IsNoEpoch, ReadyAfter, place_told, place_now}
use Rattle.pac_index.specs.declared.tried.Tried.{Tried}
use Rattle.pac_index.specs.declared.tried.Tried.TheVariants as tried
use Rattle.pac_index.specs.declared.caller.Caller.{Caller}
use Rattle.pac_index.specs.declared.rule.Member.{Member}
use Rattle.index_core.specs.Causes.{HasCauseIn}
use Rattle.index_core.specs.Heard.{RunningTold}
use Rattle.pac_index.specs.Kept.{Begins, HasPart, KnowsStill, placed_by, noted, view_in, machine_in, added_now, Goes}
use Rattle.pac_index.specs.Kept.{GoesTimely}
use Rattle.index_core.specs.Weights.{added_by}

-- What holds of the answer of a try, or where it was cut off.
abbrev pub OnTried : {T : Type 0} → Tried T → (Once T → Type 0) → Type 0 → Type 0
OnTried (tried.Answered answer) answered cut = answered answer
OnTried tried.Cut answered cut = cut

-- The index of a caller's next call: one that is made again uses up none.
abbrev pub counted_index : {T : Type 0} → ℕ → Once T → ℕ
counted_index index (once.Again why) = index
counted_index index (once.Worn node word) = index
counted_index index _ = next_index index

-- The writes of a call of this change, by whether it has a place.
abbrev pub own_at : ℕ → ℕ → Option Change → Option ℕ → List (ℕ × Write)
own_at caller index change None = []
own_at caller index change (Some place) = noted place (written caller index change)

-- The write of a caller's call, with its place, if it was placed.
abbrev pub own_of : Caller → CoreCall → Once Placed → List (ℕ × Write)
own_of caller call answer =
    own_at caller.number caller.index (change_of (op_of call)) (place_told (change_of (op_of call)) answer)

-- What a machine comes to that is told these numbers one after another.
abbrev pub run_of : {M A : Type 0} → (M → ℕ → Turn M A) → Turn M A → List ℕ → Turn M A
run_of turned (Done answer) told = Done answer
run_of turned (Go m) [] = Go m
run_of turned (Go m) (x ∷ xs) = run_of turned (turned m x) xs

-- What a call of a caller is answered: what its machine ends with on the numbers that its steps on the table gave, of
-- which the caller's count of steps tells how many there were. It has seen a longer history, in which of its own writes
-- just that of this call is added, where it took place; the answer is the map's on the longer history, at a place
-- between the two lengths. Where it was turned back, the numbers that its steps gave say why; none says that the epoch
-- has moved, of which its machine knows nothing.
pub record Answers (call : CoreCall) (index : ℕ) (old : Member) (answer : Once Placed) (new : Member) : Type 0 where
  pub about : new.about ≡ old.about
  pub idle : new.state.machine ≡ None
  pub turn : new.state.turn ≡ old.state.turn
  pub caller : new.state.caller ≡ old.state.caller
  pub ran : run_of running_turned (Go (machine_in old call)) new.told ≡ Done answer
  pub taken : new.taken ≡ old.taken + length new.told
  pub added : new.added ≡ old.added + added_by (op_of call) answer
  pub none_free : new.none_free ≡ old.none_free
  pub known : KnowsStill old.known new.known
  pub seen : Begins old.seen new.seen
  pub own : placed_by old.state.caller new.seen ≡ placed_by old.state.caller old.seen ++ own_at old.state.caller index
      (change_of (op_of call)) (place_told (change_of (op_of call)) answer)
  pub says : IsAnswerOf old.about.layout.slots (map_of old.about.base) new.seen (record old.state {
    index = index;
    since = length old.seen;
  }) (op_of call) (limit_of call) answer
  pub no_epoch : IsNoEpoch (Some answer)
  -- where it was turned back, the numbers that it was told say why
  pub why : HasCauseIn old.about.layout old.about.generation new.told answer

-- The machine of a part of a range scan, before its first action.
abbrev pub part_in : Member → List ℕ → ℕ → Part
part_in v low count = part.Looking (starts (new_call (view_in v) low None)) count

-- What a part of a range scan is answered: as a call that looks its low name up, what its own machine ends with, and
-- what it lists is the map's on the longer history, at its place. Its caller knows it from then on.
pub record PartAnswers (low : List ℕ) (count index : ℕ) (old : Member) (answer : Once PartWords) (new : Member) :
    Type 0 where
  pub looks : Answers (call.Part low count) index old (placed_of answer) new
  pub ran : run_of part_turned (Go (part_in old low count)) new.told ≡ Done answer
  pub lists : IfSome (words_told answer)
      (λ words. ListsRange (after (map_of old.about.base) new.seen words.place) low count words)
  pub known : IfSome (words_told answer)
      (λ words. HasPart new.known (record { low = low; count = count; words = words }))

-- The state as the call began.
abbrev pub began : CoreCall → ℕ → Member → ℕ → PartyState
began call index old since = state_with (record old.state { index = index }) since (machine_in old call)

-- How far a call is.
pub record Runs (call : CoreCall) (index : ℕ) (old : Member) (turn : Turn Running (Once Placed)) (new : Member) : Type
    0 where
  pub since : ℕ
  pub later : length old.seen ≤ since
  pub about : new.about ≡ old.about
  pub state : new.state ≡ state_after (began call index old since) turn
  pub ran : run_of running_turned (Go (machine_in old call)) new.told ≡ turn
  pub taken : new.taken ≡ old.taken + length new.told
  pub added : new.added ≡ old.added + added_now (op_of call) turn
  pub none_free : new.none_free ≡ old.none_free
  pub known : KnowsStill old.known new.known
  pub op : IsOfAfter (op_of call) turn
  pub call_is : MakesCall (running_call (machine_in old call)) turn
  pub seen : Begins old.seen new.seen
  pub own : placed_by old.state.caller new.seen ≡ placed_by old.state.caller old.seen ++ own_at old.state.caller index
      (change_of (op_of call)) (place_now (change_of (op_of call)) turn)
  pub says : SaysOf old.about.layout.slots (map_of old.about.base) new.seen (began call index old since) (op_of call)
      (limit_of call) (reply_of turn)
  pub no_epoch : IsNoEpoch (reply_of turn)
  pub heard : RunningTold old.about.layout old.about.generation new.told turn
  pub ready : ReadyAfter old.about.layout old.about.generation turn
  pub timely : GoesTimely since turn

abbrev pub turn_left : Turn Running (Once Placed) → ℕ
turn_left (Go machine) = suc (running_left machine)
turn_left (Done answer) = 0

-- A machine is told a number, which leaves it so, or it was answered.
abbrev pub FirstTurn : Running → Running → Option (Once Placed) → Type 0
FirstTurn m next answer = (told : ℕ) × AdvancesTo (running_turned m told) next answer

-- A step of the call in flight leaves its machine so, or it was answered.
pub record StepsOn (m : Running) (v w : Member) (next : Running) (answer : Option (Once Placed)) : Type 0 where
  pub told : ℕ
  pub goes : Goes m v told w
  pub turned : AdvancesTo (running_turned m told) next answer
  pub fewer : turn_left (turn_of next answer) < turn_left (Go m)
