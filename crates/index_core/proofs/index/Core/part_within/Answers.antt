use Rattle.std.proofs.Common.{inl, refl, sym, ap, subst, arith}
use Rattle.std.specs.Prelude.{Some, None, is_some}
use Rattle.std.proofs.lemmas.Bool.{false≢true}
use Rattle.call_stages.specs.declared.once.Once.{Once}
use Rattle.call_stages.specs.declared.once.Once.TheVariants as once
use Rattle.node_ops.specs.declared.part.PartWords.{PartWords}
use Rattle.index_core.specs.Lone.{RunsAlone, part_whole}
use Rattle.index_core.specs.declared.party.CoreCall.TheVariants as call
use Rattle.index_core.proofs.Bursting.{turns_on}
use Rattle.index_core.proofs.Busy.{still_is_idle}
use Rattle.index_core.proofs.PartTries.{part_ends, part_is_early, part_is_not_full, part_stops}
use Rattle.index_core.proofs.Costs.{cost_begins}
use Rattle.index_core.proofs.InTime.{cut_in_time, end_in_time, try_in_time}
use Rattle.index_core.proofs.Tries.{lone_costs, lone_start, lone_flies, lone_goes}
use Rattle.index_core.proofs.Withins.{lone_cut}
use Rattle.index_core.proofs.index.Core.part_within.Goals as goal

pub unreachable-requires : goal.unreachable-requires
unreachable-requires g c =
    absurd (still_is_idle c.args.self.now c.args.caller c.requires.still (c.in_default.ensures.in_flight.0 refl))

pub steps-init : goal.steps-init
steps-init g c = (
  lone_start c.args.self.now c.start_name.new.self c.args.caller (call.Part c.args.low c.args.count) c.start_name.ensures.before c.requires.still c.in-Ok.ensures.started c.in-Ok.ensures.spare c.start_name.ensures.index,
  refl,
  (let begins = cost_begins c.args.self.now c.start_name.new.self c.args.caller (call.Part c.args.low c.args.count) c.in-Ok.ensures.started in omega (arith, begins)),
)

pub returns-then-budget-eq0-clause-runs : goal.returns-then-budget-eq0-clause-runs
returns-then-budget-eq0-clause-runs g c = (lone_cut c.args.self.now c.steps.self c.args.caller (call.Part c.args.low c.args.count) c.steps.invariant.0).off

pub returns-then-budget-eq0-clause-in_time : goal.returns-then-budget-eq0-clause-in_time
returns-then-budget-eq0-clause-in_time g c = λ short none.
    try_in_time (Once PartWords) c.args.self.now (call.Part c.args.low c.args.count) None c.args.budget.now c.args.steps.now c.steps.steps short
    (cut_in_time (Once PartWords) c.args.self.now c.steps.self c.args.caller (call.Part c.args.low c.args.count) c.steps.invariant.0 c.args.budget.now c.args.steps.now c.steps.steps c.steps.invariant.2 (omega (arith, c.steps.invariant.1, c.if-budget-eq0.true)))

pub has_listed-requires : goal.has_listed-requires
has_listed-requires g c = lone_flies _ _ _ _ c.steps.invariant.0

pub step_call-requires : goal.step_call-requires
step_call-requires g c = record { flies = lone_flies _ _ _ _ c.steps.invariant.0 }

pub returns-then-has_listed-clause-runs : goal.returns-then-has_listed-clause-runs
returns-then-has_listed-clause-runs g c =
    let t = c.step_call.ensures in
    let e = part_ends c.args.self.now c.steps.self c.step_call.new.self c.args.caller c.args.low c.args.count c.step_call.result c.steps.invariant.0 t.turned t.index t.spare.all c.listing-words.result c.listing-words.ensures in
    record { runs = e.runs; full = λ full. absurd (part_is_not_full c.args.self.now c.step_call.new.self c.args.caller c.args.low c.args.count (part_whole (once.Done c.listing-words.result)) e.runs full); quiet = e.quiet; still = e.still; spare = e.spare; each_lock = inl e.each_lock; locks = inl e.locks }

pub returns-then-has_listed-clause-in_time : goal.returns-then-has_listed-clause-in_time
returns-then-has_listed-clause-in_time g c = λ short none.
    try_in_time (Once PartWords) c.args.self.now (call.Part c.args.low c.args.count) (Some (once.Done c.listing-words.result)) c.args.budget.now c.args.steps.now c.step_call.new.steps short
    (end_in_time c.args.self.now c.steps.self c.args.caller (call.Part c.args.low c.args.count) c.steps.invariant.0 c.args.budget.now c.args.steps.now c.steps.steps c.step_call.new.steps c.steps.invariant.2 c.step_call.ensures.tick (once.Done c.listing-words.result))

pub step_call-requires-in-steps : goal.step_call-requires-in-steps
step_call-requires-in-steps g c = record { flies = lone_flies _ _ _ _ c.steps.invariant.0 }

pub early-requires : goal.early-requires
early-requires g c = part_is_early c.args.self.now c.steps.self c.step_call-in-steps.new.self c.args.caller c.args.low c.args.count c.step_call-in-steps.result c.steps.invariant.0 c.step_call-in-steps.ensures.turned c.step_call-in-steps.ensures.index c.step_call-in-steps.ensures.spare.all c.in-Some.answer _ c.has_listed.ensures.1 c.if-has_listed.false c.in-Some.is

pub returns-in-Some-clause-runs : goal.returns-in-Some-clause-runs
returns-in-Some-clause-runs g c =
    let t = c.step_call-in-steps.ensures in
    let e = part_stops c.args.self.now c.steps.self c.step_call-in-steps.new.self c.args.caller c.args.low c.args.count c.step_call-in-steps.result c.steps.invariant.0 t.turned t.index t.spare.all c.in-Some.answer
    _ c.has_listed.ensures.1 c.if-has_listed.false c.in-Some.is in
    let runs = subst (λ (r : Once PartWords). RunsAlone c.args.self.now c.args.caller (call.Part c.args.low c.args.count) c.step_call-in-steps.new.self (part_whole r)) (sym c.early.ensures) e.runs in
    record {
      runs = runs;
      full = λ full. absurd (part_is_not_full c.args.self.now c.step_call-in-steps.new.self c.args.caller c.args.low c.args.count (part_whole c.early.result) runs full);
      quiet = e.quiet;
      still = e.still;
      spare = e.spare;
      each_lock = inl e.each_lock;
      locks = inl e.locks;
    }

pub returns-in-Some-clause-in_time : goal.returns-in-Some-clause-in_time
returns-in-Some-clause-in_time g c = λ short none.
    try_in_time (Once PartWords) c.args.self.now (call.Part c.args.low c.args.count) (Some c.early.result) c.args.budget.now c.args.steps.now c.step_call-in-steps.new.steps short
    (end_in_time c.args.self.now c.steps.self c.args.caller (call.Part c.args.low c.args.count) c.steps.invariant.0 c.args.budget.now c.args.steps.now c.steps.steps c.step_call-in-steps.new.steps c.steps.invariant.2 c.step_call-in-steps.ensures.tick c.early.result)

pub steps-preserved : goal.steps-preserved
steps-preserved g c =
    let t = c.step_call-in-steps.ensures in (
      (lone_goes c.args.self.now c.steps.self c.step_call-in-steps.new.self c.args.caller (call.Part c.args.low c.args.count) c.step_call-in-steps.result c.steps.invariant.0 (turns_on t.turned t.index t.spare.all) c.in_default-step_call.is).0,
      omega (arith, t.tick, c.steps.invariant.1, c.if-budget-eq0.false),
      (let costs = lone_costs c.args.self.now c.steps.self c.step_call-in-steps.new.self c.args.caller (call.Part c.args.low c.args.count) c.step_call-in-steps.result c.steps.invariant.0 (turns_on t.turned t.index t.spare.all) c.in_default-step_call.is in
          omega (arith, costs, t.tick, c.steps.invariant.2)),
    )

pub steps-smaller : goal.steps-smaller
steps-smaller g c =
    let t = c.step_call-in-steps.ensures in
    (lone_goes c.args.self.now c.steps.self c.step_call-in-steps.new.self c.args.caller (call.Part c.args.low c.args.count) c.step_call-in-steps.result c.steps.invariant.0 (turns_on t.turned t.index t.spare.all) c.in_default-step_call.is).1

pub start_name-requires-clause-party : goal.start_name-requires-clause-party
start_name-requires-clause-party g c = c.requires.caller

pub start_name-requires-clause-begins : goal.start_name-requires-clause-begins
start_name-requires-clause-begins g c = tt

pub start_name-requires-clause-spare : goal.start_name-requires-clause-spare
start_name-requires-clause-spare g c = omega arith

pub listing-words-requires : goal.listing-words-requires
listing-words-requires g c = c.has_listed.ensures.0 c.if-has_listed.true

pub overflow_sub-budget : goal.overflow_sub-budget
overflow_sub-budget g c = omega (arith, c.if-budget-eq0.false)

pub returns-then-has_listed-clause-events : goal.returns-then-has_listed-clause-events
returns-then-has_listed-clause-events g c = omega (arith, c.step_call.ensures.tick, c.steps.invariant.1, c.if-budget-eq0.false)

pub returns-then-has_listed-clause-index : goal.returns-then-has_listed-clause-index
returns-then-has_listed-clause-index g c = c.step_call.ensures.index

pub returns-then-has_listed-clause-spent : goal.returns-then-has_listed-clause-spent
returns-then-has_listed-clause-spent g c = λ none. absurd (false≢true (sym (ap is_some none)))

pub returns-in-Some-clause-events : goal.returns-in-Some-clause-events
returns-in-Some-clause-events g c = omega (arith, c.step_call-in-steps.ensures.tick, c.steps.invariant.1, c.if-budget-eq0.false)

pub returns-in-Some-clause-index : goal.returns-in-Some-clause-index
returns-in-Some-clause-index g c = c.step_call-in-steps.ensures.index

pub returns-in-Some-clause-spent : goal.returns-in-Some-clause-spent
returns-in-Some-clause-spent g c = λ none. absurd (false≢true (sym (ap is_some none)))

pub returns-then-budget-eq0-clause-events : goal.returns-then-budget-eq0-clause-events
returns-then-budget-eq0-clause-events g c = c.steps.invariant.1

pub returns-then-budget-eq0-clause-index : goal.returns-then-budget-eq0-clause-index
returns-then-budget-eq0-clause-index g c = c.steps.invariant.0.index

pub returns-then-budget-eq0-clause-spent : goal.returns-then-budget-eq0-clause-spent
returns-then-budget-eq0-clause-spent g c = λ none. omega (arith, c.if-budget-eq0.true)
