-- What a call comes to that is made again until it takes place.
use Rattle.std.specs.Prelude.{◌≡◌, ◌≢◌, ◌⊎◌, ℕ, ◌≤◌, true, Option, Some, None}
use Rattle.pm_words.specs.declared.again.Again.TheVariants as again
use Rattle.call_stages.specs.declared.once.Once.{Once}
use Rattle.call_stages.specs.declared.once.Once.TheVariants as once
use Rattle.pac_index.specs.declared.tried.Tried.{Tried}
use Rattle.pac_index.specs.declared.tried.Tried.TheVariants as tried
use Rattle.updater.specs.declared.terms.Turned.{Turned}
use Rattle.pac_index.specs.declared.tried.TriedTurn.{TriedTurn}
use Rattle.pac_index.specs.declared.tried.TriedTurn.TheVariants as turn
use Rattle.pac_index.specs.declared.ended.Ended.{Ended}
use Rattle.pac_index.specs.declared.ended.Ended.TheVariants as ended
use Rattle.pac_index.specs.declared.rule.Member.{Member}
use Rattle.pac_index.specs.Kept.{Begins, KnowsStill, placed_by}

-- How a call ends that is so answered, unless it is made again.
abbrev pub ended_of : {T : Type 0} → Once T → Option (Ended T)
ended_of (once.Done value) = Some (ended.Done value)
ended_of (once.Spent clock) = Some (ended.Spent clock)
ended_of (once.Worn node word) = None
ended_of (once.Again why) = None

abbrev pub ended_by : {T : Type 0} → Tried T → Option (Ended T)
ended_by (tried.Answered answer) = ended_of answer
ended_by tried.Cut = Some ended.Cut

-- How a turn of the updater ends, unless it is made again.
abbrev pub turn_ended_by : TriedTurn → Option (Ended Turned)
turn_ended_by (turn.Turned turned epoch advanced) = Some (ended.Done turned)
turn_ended_by (turn.Held word) = None
turn_ended_by turn.Cut = Some ended.Cut

-- It is done, and the first holds of what it gave, or it was cut off, where the second holds.
abbrev pub OnDone : {T : Type 0} → Ended T → (T → Type 0) → Type 0 → Type 0
OnDone (ended.Done value) done cut = done value
OnDone ended.Full done cut = ⊥
OnDone (ended.Spent clock) done cut = ⊥
OnDone ended.Cut done cut = cut

-- A caller that has placed no write since then: it has seen a longer history, with no more writes of its own.
pub record HasOnlyRead (old new : Member) : Type 0 where
  pub about : new.about ≡ old.about
  pub caller : new.state.caller ≡ old.state.caller
  pub taken : old.taken ≤ new.taken
  pub added : new.added ≡ old.added
  pub none_free : old.none_free ≡ true → new.none_free ≡ true
  pub known : KnowsStill old.known new.known
  pub seen : Begins old.seen new.seen
  pub own : placed_by old.state.caller new.seen ≡ placed_by old.state.caller old.seen

-- A try that the epoch turned back as it took its pin. It has seen nothing.
pub record MovedEpoch {T : Type 0} (old : Member) (answer : Once T) (new : Member) : Type 0 where
  pub first : ℕ
  pub second : ℕ
  pub is : answer ≡ once.Again (again.Epoch first second)
  pub apart : first ≢ second
  pub same : new ≡ old

-- A try between two views, of which this holds where it had its pin.
abbrev pub IsTry : {T : Type 0} → (Member → Once T → Member → Type 0) → Member → Once T → Member → Type 0
IsTry holds old answer new = holds old answer new ⊎ MovedEpoch old answer new

-- A try that is made again, since it was answered that it is turned back, or that its node is worn; and what its caller
-- did behind it.
pub record TurnedBack {T : Type 0} (holds : Member → Once T → Member → Type 0)
    (behind : Once T → Member → Member → Type 0) (old new : Member) : Type 0 where
  pub answer : Once T
  pub again : ended_of answer ≡ None
  pub tried : Member
  pub told : IsTry holds old answer tried
  pub next : behind answer tried new

-- Behind whatever try it did nothing.
abbrev pub DoesNothing : {T : Type 0} → Once T → Member → Member → Type 0
DoesNothing answer tried new = new ≡ tried

-- From one view to another each step, one behind another, is so. There may be none.
pub data EachIs (step : Member → Member → Type 0) (old : Member) : Member → Type 0 where
  no_step : EachIs step old old
  one_more : {before new : Member} → EachIs step old before → step before new → EachIs step old new

-- Of the tries of a call each one but the last was turned back, which is such a step, and none of these left anything.
-- Of the last this holds.
pub record AtLast (back_step holds : Member → Member → Type 0) (old new : Member) : Type 0 where
  pub before : Member
  pub tries : EachIs back_step old before
  pub back : HasOnlyRead old before
  pub last : holds before new
