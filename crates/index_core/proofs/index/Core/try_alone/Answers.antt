use Rattle.std.proofs.Common.{suc, ◌+◌, ◌≤◌, refl, arith}
use Rattle.index_core.proofs.Busy.{quiet_is_idle}
use Rattle.index_core.proofs.Quiet.{quiet_is_still}
use Rattle.index_core.proofs.Costs.{cost_begins, first_left}
use Rattle.index_core.proofs.LoneBursts.{burst_ends, burst_goes}
use Rattle.index_core.proofs.Tries.{Lone, cost_at, left_at, lone_start, lone_flies}
use Rattle.index_core.proofs.index.Core.try_alone.Goals as goal
use Rattle.index_core.proofs.index.Core.try_alone.Goals.{In_default-burst}

pub unreachable-requires : goal.unreachable-requires
unreachable-requires g c =
    absurd (quiet_is_idle c.args.self.now c.args.caller c.requires.quiet (c.in_default.ensures.in_flight.0 refl))

pub steps-init : goal.steps-init
steps-init g c = (
  lone_start c.args.self.now c.start_name.new.self c.args.caller c.args.call.now c.start_name.ensures.before
      (quiet_is_still c.args.caller c.args.self.now c.requires.quiet)
      c.in-Ok.ensures.started c.in-Ok.ensures.spare c.start_name.ensures.index,
  omega arith,
  (let started = c.in-Ok.ensures.started in
      let begins = cost_begins c.args.self.now c.start_name.new.self c.args.caller c.args.call.now started in
      omega (arith, begins)),
)

pub burst-requires : goal.burst-requires
burst-requires g c = record { flies = lone_flies _ _ _ _ c.steps.invariant.0 }

-- a burst that goes on
gone : (g : _) (c : In_default-burst g) → Lone c.args.self.now c.burst.new.self c.args.caller c.args.call.now
    × (suc (left_at c.burst.new.self c.args.caller) ≤ left_at c.steps.self c.args.caller)
    × (c.burst.new.steps + cost_at c.burst.new.self c.args.caller
    ≤ c.args.steps.now + first_left c.args.self.now.layout c.args.call.now)
gone g c =
    burst_goes c.args.self.now c.steps.self c.burst.new.self c.args.caller c.args.call.now c.burst.result
    c.steps.steps c.burst.new.steps c.steps.invariant.0 c.burst.ensures.bursts c.in_default-burst.is
    c.args.steps.now c.steps.invariant.2

pub steps-preserved : goal.steps-preserved
steps-preserved g c =
    let e = gone g c in (e.0, omega (arith, c.burst.ensures.bursts.steps, c.steps.invariant.1), e.2)

pub steps-smaller : goal.steps-smaller
steps-smaller g c = (gone g c).1

pub returns-in-Some : goal.returns-in-Some
returns-in-Some g c =
    let e = burst_ends c.args.self.now c.steps.self c.burst.new.self c.args.caller c.args.call.now c.burst.result
    c.steps.steps c.burst.new.steps c.steps.invariant.0 c.burst.ensures.bursts c.in-Some.answer c.in-Some.is
    c.args.steps.now c.steps.invariant.2 in
    record {
      tries = e.tries;
      before = c.steps.invariant.0.start.before;
      quiet = e.quiet c.requires.quiet;
      spare = e.spare;
      each_lock = e.each_lock;
      locks = e.locks;
      acts = omega (arith, c.burst.ensures.bursts.steps, c.steps.invariant.1);
      events = e.events;
      index = c.burst.ensures.index;
    }
