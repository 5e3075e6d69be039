use Rattle.std.proofs.Common.{refl, sym, ap, arith}
use Rattle.std.specs.Prelude.{is_some}
use Rattle.std.proofs.lemmas.Bool.{false≢true}
use Rattle.index_core.proofs.Bursting.{turns_on}
use Rattle.index_core.proofs.Busy.{still_is_idle}
use Rattle.call_stages.specs.declared.once.Once.{Once}
use Rattle.call_stages.specs.declared.once.Placed.{Placed}
use Rattle.index_core.proofs.Costs.{cost_begins}
use Rattle.index_core.proofs.InTime.{cut_in_time, end_in_time}
use Rattle.index_core.proofs.Tries.{lone_costs, lone_start, lone_flies, lone_goes, lone_none, lone_quiet, lone_still, lone_tries, lone_locks, lone_each, spare_left}
use Rattle.index_core.proofs.Withins.{lone_cut}
use Rattle.index_core.proofs.index.Core.try_within.Goals as goal

pub unreachable-requires : goal.unreachable-requires
unreachable-requires g c =
    absurd (still_is_idle c.args.self.now c.args.caller c.requires.still (c.in_default.ensures.in_flight.0 refl))

pub steps-init : goal.steps-init
steps-init g c = (
  lone_start c.args.self.now c.start_name.new.self c.args.caller c.args.call.now c.start_name.ensures.before c.requires.still c.in-Ok.ensures.started c.in-Ok.ensures.spare c.start_name.ensures.index,
  refl,
  (let begins = cost_begins c.args.self.now c.start_name.new.self c.args.caller c.args.call.now c.in-Ok.ensures.started in omega (arith, begins)),
)

pub returns-then-budget-eq0-clause-tries : goal.returns-then-budget-eq0-clause-tries
returns-then-budget-eq0-clause-tries g c = lone_cut c.args.self.now c.steps.self c.args.caller c.args.call.now c.steps.invariant.0

pub returns-then-budget-eq0-clause-in_time : goal.returns-then-budget-eq0-clause-in_time
returns-then-budget-eq0-clause-in_time g c =
    cut_in_time (Once Placed) c.args.self.now c.steps.self c.args.caller c.args.call.now c.steps.invariant.0 c.args.budget.now c.args.steps.now c.steps.steps c.steps.invariant.2 (omega (arith, c.steps.invariant.1, c.if-budget-eq0.true))

pub returns-then-budget-eq0-clause-reads : goal.returns-then-budget-eq0-clause-reads
returns-then-budget-eq0-clause-reads g c = c.steps.invariant.0.reads

pub step_call-requires : goal.step_call-requires
step_call-requires g c = record { flies = lone_flies _ _ _ _ c.steps.invariant.0 }

pub returns-in-Some-clause-tries : goal.returns-in-Some-clause-tries
returns-in-Some-clause-tries g c =
    let o = c.steps.invariant.0 in
    let t = c.step_call.ensures in
    let none = lone_none c.args.self.now c.steps.self c.step_call.new.self c.args.caller c.args.call.now c.step_call.result o (turns_on t.turned t.index t.spare.all) c.in-Some.answer c.in-Some.is in
    record {
      tries = lone_tries c.args.self.now c.steps.self c.step_call.new.self c.args.caller c.args.call.now c.step_call.result o (turns_on t.turned t.index t.spare.all) c.in-Some.answer c.in-Some.is;
      quiet = lone_quiet c.args.self.now c.steps.self c.step_call.new.self c.args.caller c.args.call.now c.step_call.result o (turns_on t.turned t.index t.spare.all) c.in-Some.answer c.in-Some.is;
      still = lone_still c.args.self.now c.steps.self c.step_call.new.self c.args.caller c.args.call.now c.step_call.result o (turns_on t.turned t.index t.spare.all) c.in-Some.answer c.in-Some.is;
      spare = spare_left c.args.self.now c.steps.self c.step_call.new.self c.args.caller c.args.call.now o t.spare.all none;
      each_lock = lone_each c.args.self.now c.steps.self c.step_call.new.self c.args.caller c.args.call.now c.step_call.result o (turns_on t.turned t.index t.spare.all) c.in-Some.answer c.in-Some.is;
      locks = lone_locks c.args.self.now c.steps.self c.step_call.new.self c.args.caller c.args.call.now c.step_call.result o (turns_on t.turned t.index t.spare.all) c.in-Some.answer c.in-Some.is;
    }

pub returns-in-Some-clause-reads : goal.returns-in-Some-clause-reads
returns-in-Some-clause-reads g c =
    let t = c.step_call.ensures in
    (lone_tries c.args.self.now c.steps.self c.step_call.new.self c.args.caller c.args.call.now c.step_call.result c.steps.invariant.0 (turns_on t.turned t.index t.spare.all) c.in-Some.answer c.in-Some.is).reads

pub returns-in-Some-clause-in_time : goal.returns-in-Some-clause-in_time
returns-in-Some-clause-in_time g c =
    end_in_time c.args.self.now c.steps.self c.args.caller c.args.call.now c.steps.invariant.0 c.args.budget.now c.args.steps.now c.steps.steps c.step_call.new.steps c.steps.invariant.2 c.step_call.ensures.tick c.in-Some.answer

pub steps-smaller : goal.steps-smaller
steps-smaller g c =
    (lone_goes c.args.self.now c.steps.self c.step_call.new.self c.args.caller c.args.call.now c.step_call.result c.steps.invariant.0 (turns_on c.step_call.ensures.turned c.step_call.ensures.index c.step_call.ensures.spare.all) c.in_default-step_call.is).1

pub steps-preserved : goal.steps-preserved
steps-preserved g c = (
  (lone_goes c.args.self.now c.steps.self c.step_call.new.self c.args.caller c.args.call.now c.step_call.result c.steps.invariant.0 (turns_on c.step_call.ensures.turned c.step_call.ensures.index c.step_call.ensures.spare.all) c.in_default-step_call.is).0,
  omega (arith, c.step_call.ensures.tick, c.steps.invariant.1, c.if-budget-eq0.false),
  (let costs = lone_costs c.args.self.now c.steps.self c.step_call.new.self c.args.caller c.args.call.now c.step_call.result c.steps.invariant.0 (turns_on c.step_call.ensures.turned c.step_call.ensures.index c.step_call.ensures.spare.all) c.in_default-step_call.is in
      omega (arith, costs, c.step_call.ensures.tick, c.steps.invariant.2)),
)

pub start_name-requires-clause-party : goal.start_name-requires-clause-party
start_name-requires-clause-party g c = c.requires.caller

pub start_name-requires-clause-begins : goal.start_name-requires-clause-begins
start_name-requires-clause-begins g c = c.requires.begins

pub start_name-requires-clause-spare : goal.start_name-requires-clause-spare
start_name-requires-clause-spare g c = c.requires.spare

pub overflow_sub-budget : goal.overflow_sub-budget
overflow_sub-budget g c = omega (arith, c.if-budget-eq0.false)

pub returns-in-Some-clause-before : goal.returns-in-Some-clause-before
returns-in-Some-clause-before g c = c.start_name.ensures.before

pub returns-in-Some-clause-events : goal.returns-in-Some-clause-events
returns-in-Some-clause-events g c = omega (arith, c.step_call.ensures.tick, c.steps.invariant.1, c.if-budget-eq0.false)

pub returns-in-Some-clause-index : goal.returns-in-Some-clause-index
returns-in-Some-clause-index g c = c.step_call.ensures.index

pub returns-in-Some-clause-spent : goal.returns-in-Some-clause-spent
returns-in-Some-clause-spent g c = λ none. absurd (false≢true (sym (ap is_some none)))

pub returns-then-budget-eq0-clause-before : goal.returns-then-budget-eq0-clause-before
returns-then-budget-eq0-clause-before g c = c.start_name.ensures.before

pub returns-then-budget-eq0-clause-events : goal.returns-then-budget-eq0-clause-events
returns-then-budget-eq0-clause-events g c = c.steps.invariant.1

pub returns-then-budget-eq0-clause-index : goal.returns-then-budget-eq0-clause-index
returns-then-budget-eq0-clause-index g c = c.steps.invariant.0.index

pub returns-then-budget-eq0-clause-spent : goal.returns-then-budget-eq0-clause-spent
returns-then-budget-eq0-clause-spent g c = λ none. omega (arith, c.if-budget-eq0.true)
