-- Budgets of steps, and how far a call is that was cut off.
use Rattle.std.specs.Prelude.{◌≡◌, ◌⊎◌, ℕ, ◌+◌, ◌<◌, ◌++◌, length, Option, Some, None, IfSome}
use Rattle.cat_history.specs.Records.{change_of}
use Rattle.call_stages.specs.Stages.{placed_in}
use Rattle.call_stages.specs.declared.once.Once.{Once}
use Rattle.node_ops.specs.declared.running.Running.{Running}
use Rattle.node_ops.specs.Asked.{op_in}
use Rattle.node_ops.specs.CallStages.{stage_of}
use Rattle.node_ops.specs.RunningSteps.{running_turned}
use Rattle.pm_words.specs.declared.machine.Turn.TheVariants.{Go}
use Rattle.index_core.specs.declared.party.CoreCall.{CoreCall}
use Rattle.index_core.specs.CoreCalls.{op_of, limit_of}
use Rattle.pac_index.specs.declared.caller.CutCall.{CutCall}
use Rattle.pac_index.specs.declared.ran.Ran.{Ran}
use Rattle.pac_index.specs.declared.ran.Ran.TheVariants as ran
use Rattle.pac_index.specs.declared.rule.Member.{Member}
use Rattle.pac_index.specs.Calls.{own_at, run_of}
use Rattle.pac_index.specs.Ends.{DoesNothing, TurnedBack}
use Rattle.pac_index.specs.Kept.{Begins, KnowsStill, placed_by, machine_in}

-- A budget falls by as many steps as the view counts more; one without a bound stays so.
abbrev pub Pays : Option ℕ → Option ℕ → ℕ → ℕ → Type 0
Pays None None before after = Unit {0}
Pays None (Some left) before after = ⊥
Pays (Some left) None before after = ⊥
Pays (Some old) (Some new) before after = old + before ≡ new + after

-- A call is in flight: its machine was told the numbers that its steps gave, and goes on so. Its own write is added
-- just where it has its place.
pub record StopsAt (call : CoreCall) (index : ℕ) (old : Member) (place : Option ℕ) (new : Member) : Type 0 where
  pub machine : Running
  pub flies : new.state.machine ≡ Some machine
  pub about : new.about ≡ old.about
  pub turn : new.state.turn ≡ old.state.turn
  pub caller : new.state.caller ≡ old.state.caller
  pub index_is : new.state.index ≡ index
  pub ran : run_of running_turned (Go (machine_in old call)) new.told ≡ Go machine
  pub taken : new.taken ≡ old.taken + length new.told
  pub added : new.added ≡ old.added
  pub none_free : new.none_free ≡ old.none_free
  pub known : KnowsStill old.known new.known
  pub op : op_in machine ≡ op_of call
  pub place_is : place ≡ placed_in (stage_of machine)
  pub seen : Begins old.seen new.seen
  -- a write that has its place began below the limit
  pub below : IfSome place (λ _. IfSome (limit_of call) (λ most. length old.seen < most))
  pub own : placed_by old.state.caller new.seen ≡ placed_by old.state.caller old.seen ++ own_at old.state.caller index
      (change_of (op_of call)) place

-- What the steps of one try come to: the first holds of the answer, the second of the place that the write of a call
-- has that was cut off behind a step.
abbrev pub OnRan : {T : Type 0} → Ran T → (Once T → Type 0) → (Option ℕ → Type 0) → Type 0
OnRan (ran.Answered answer) answered cut = answered answer
OnRan (ran.Cut place) answered cut = cut place

-- The place of the write that a caller tells of as cut off, if it has one.
abbrev pub place_in : Option CutCall → Option ℕ
place_in None = None
place_in (Some cut) = cut.place

-- A try that was turned back, with nothing behind it: of what is answered this holds, by the index of its call.
abbrev pub TriedBack : {T : Type 0} → (ℕ → Member → Once T → Member → Type 0) → ℕ → Member → Member → Type 0
TriedBack holds index old new = TurnedBack (holds index) DoesNothing old new

-- A call was cut off within its last try: before the first step of that, or behind one.
abbrev pub CutsOff : CoreCall → ℕ → Member → Option ℕ → Member → Type 0
CutsOff call index old place new = ((place ≡ None) × (new ≡ old)) ⊎ StopsAt call index old place new
