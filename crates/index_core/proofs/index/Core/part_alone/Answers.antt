use Rattle.std.proofs.Common.{suc, ◌≤◌, refl, sym, subst, arith}
use Rattle.std.specs.Prelude.{Some}
use Rattle.call_stages.specs.declared.once.Once.{Once}
use Rattle.node_ops.specs.declared.part.PartWords.{PartWords}
use Rattle.index_core.specs.Lone.{RunsAlone, part_whole}
use Rattle.index_core.specs.declared.party.CoreCall.TheVariants as call
use Rattle.call_stages.specs.declared.once.Once.TheVariants as once
use Rattle.index_core.proofs.Bursting.{turns_on}
use Rattle.index_core.proofs.Busy.{quiet_is_idle}
use Rattle.index_core.proofs.Costs.{cost_begins}
use Rattle.index_core.proofs.InTime.{end_in_time, try_in_time}
use Rattle.index_core.proofs.Quiet.{quiet_is_still}
use Rattle.index_core.proofs.PartTries.{part_ends, part_is_early, part_stops}
use Rattle.index_core.proofs.Tries.{Lone, left_at, lone_costs, lone_start, lone_flies, lone_goes}
use Rattle.index_core.proofs.index.Core.part_alone.Goals as goal
use Rattle.index_core.proofs.index.Core.part_alone.Goals.{In_default-step_call}

pub unreachable-requires : goal.unreachable-requires
unreachable-requires g c =
    absurd (quiet_is_idle c.args.self.now c.args.caller c.requires.quiet (c.in_default.ensures.in_flight.0 refl))

pub steps-init : goal.steps-init
steps-init g c = (
  lone_start c.args.self.now c.start_name.new.self c.args.caller (call.Part c.args.low c.args.count) c.start_name.ensures.before (quiet_is_still c.args.caller c.args.self.now c.requires.quiet) c.in-Ok.ensures.started c.in-Ok.ensures.spare c.start_name.ensures.index,
  omega arith,
  (let begins = cost_begins c.args.self.now c.start_name.new.self c.args.caller (call.Part c.args.low c.args.count) c.in-Ok.ensures.started in omega (arith, begins)),
)

pub has_listed-requires : goal.has_listed-requires
has_listed-requires g c = lone_flies _ _ _ _ c.steps.invariant.0

pub step_call-requires : goal.step_call-requires
step_call-requires g c = record { flies = lone_flies _ _ _ _ c.steps.invariant.0 }

pub returns-then-has_listed : goal.returns-then-has_listed
returns-then-has_listed g c =
    let t = c.step_call.ensures in
    let e = part_ends c.args.self.now c.steps.self c.step_call.new.self c.args.caller c.args.low c.args.count c.step_call.result c.steps.invariant.0 t.turned t.index t.spare.all c.listing-words.result c.listing-words.ensures in
    record {
      runs = e.runs;
      quiet = e.quiet c.requires.quiet;
      spare = e.spare;
      each_lock = e.each_lock;
      locks = e.locks;
      acts = omega (arith, t.tick, c.steps.invariant.1);
      events = λ short none.
          try_in_time (Once PartWords) c.args.self.now (call.Part c.args.low c.args.count) (Some (once.Done c.listing-words.result)) 0 c.args.steps.now c.step_call.new.steps short
          (end_in_time c.args.self.now c.steps.self c.args.caller (call.Part c.args.low c.args.count) c.steps.invariant.0 0 c.args.steps.now c.steps.steps c.step_call.new.steps c.steps.invariant.2 t.tick (once.Done c.listing-words.result));
      index = t.index;
    }

pub step_call-requires-in-steps : goal.step_call-requires-in-steps
step_call-requires-in-steps g c = record { flies = lone_flies _ _ _ _ c.steps.invariant.0 }

pub early-requires : goal.early-requires
early-requires g c = part_is_early c.args.self.now c.steps.self c.step_call-in-steps.new.self c.args.caller c.args.low c.args.count c.step_call-in-steps.result c.steps.invariant.0 c.step_call-in-steps.ensures.turned c.step_call-in-steps.ensures.index c.step_call-in-steps.ensures.spare.all c.in-Some.answer _ c.has_listed.ensures.1 c.if-has_listed.false c.in-Some.is

pub returns-in-Some : goal.returns-in-Some
returns-in-Some g c =
    let t = c.step_call-in-steps.ensures in
    let e = part_stops c.args.self.now c.steps.self c.step_call-in-steps.new.self c.args.caller c.args.low c.args.count c.step_call-in-steps.result c.steps.invariant.0 t.turned t.index t.spare.all c.in-Some.answer
    _ c.has_listed.ensures.1 c.if-has_listed.false c.in-Some.is in
    record {
      runs = subst (λ (r : Once PartWords). RunsAlone c.args.self.now c.args.caller (call.Part c.args.low c.args.count) c.step_call-in-steps.new.self (part_whole r)) (sym c.early.ensures) e.runs;
      quiet = e.quiet c.requires.quiet;
      spare = e.spare;
      each_lock = e.each_lock;
      locks = e.locks;
      acts = omega (arith, t.tick, c.steps.invariant.1);
      events = λ short none.
          try_in_time (Once PartWords) c.args.self.now (call.Part c.args.low c.args.count) (Some c.early.result) 0 c.args.steps.now c.step_call-in-steps.new.steps short
          (end_in_time c.args.self.now c.steps.self c.args.caller (call.Part c.args.low c.args.count) c.steps.invariant.0 0 c.args.steps.now c.steps.steps c.step_call-in-steps.new.steps c.steps.invariant.2 t.tick c.early.result);
      index = t.index;
    }

-- a step that goes on
gone : (g : _) (c : In_default-step_call g) → Lone c.args.self.now c.step_call-in-steps.new.self c.args.caller (call.Part c.args.low c.args.count) × (suc (left_at c.step_call-in-steps.new.self c.args.caller) ≤ left_at c.steps.self c.args.caller)
gone g c =
    let t = c.step_call-in-steps.ensures in
    lone_goes c.args.self.now c.steps.self c.step_call-in-steps.new.self c.args.caller (call.Part c.args.low c.args.count) c.step_call-in-steps.result c.steps.invariant.0 (turns_on t.turned t.index t.spare.all) c.in_default-step_call.is

pub steps-preserved : goal.steps-preserved
steps-preserved g c = (
  (gone g c).0,
  omega (arith, c.step_call-in-steps.ensures.tick, c.steps.invariant.1),
  (let t = c.step_call-in-steps.ensures in
      let costs = lone_costs c.args.self.now c.steps.self c.step_call-in-steps.new.self c.args.caller (call.Part c.args.low c.args.count) c.step_call-in-steps.result c.steps.invariant.0 (turns_on t.turned t.index t.spare.all) c.in_default-step_call.is in
      omega (arith, costs, t.tick, c.steps.invariant.2)),
)

pub steps-smaller : goal.steps-smaller
steps-smaller g c = (gone g c).1

pub start_name-requires-clause-party : goal.start_name-requires-clause-party
start_name-requires-clause-party g c = c.requires.caller

pub start_name-requires-clause-begins : goal.start_name-requires-clause-begins
start_name-requires-clause-begins g c = tt

pub start_name-requires-clause-spare : goal.start_name-requires-clause-spare
start_name-requires-clause-spare g c = omega arith

pub listing-words-requires : goal.listing-words-requires
listing-words-requires g c = c.has_listed.ensures.0 c.if-has_listed.true
