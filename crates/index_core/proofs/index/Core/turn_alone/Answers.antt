use Rattle.std.proofs.Common.{◌≡◌, refl, sym, ◌∙◌, subst, arith}
use Rattle.updater.specs.declared.terms.Turned.{Turned}
use Rattle.index_core.specs.Turns.{TurnsAlone}
use Rattle.index_core.proofs.Busy.{quiet_is_idle}
use Rattle.index_core.proofs.LoneTurning.{turn_left_begins, lone_turn_begins, lone_turn_flies, lone_turn_goes, lone_turn_ends, lone_turn_passes, turned_same}
use Rattle.index_core.proofs.Retrying.{turned_short}
use Rattle.index_core.proofs.index.Core.turn_alone.Goals as goal

pub unreachable-requires : goal.unreachable-requires
unreachable-requires g c =
    absurd (quiet_is_idle c.args.self.now c.args.party c.requires.quiet (c.in_default.ensures.in_flight.0 refl))

pub steps-init : goal.steps-init
steps-init g c = (
  lone_turn_begins c.args.self.now c.start_turn.new.self c.args.party c.args.stamp c.args.release c.start_turn.ensures.before c.requires.quiet c.requires.stamp c.ranges.stamp.fits c.in-Ok.ensures.started c.start_turn.ensures.index,
  omega arith,
  (let begins = turn_left_begins c.args.self.now c.start_turn.new.self c.args.party c.args.stamp c.args.release c.start_turn.ensures.before.lawful.row.layout.callers.0 c.in-Ok.ensures.started in omega (arith, begins)),
)

pub pass_nodes-requires : goal.pass_nodes-requires
pass_nodes-requires g c = record { turns = lone_turn_flies _ _ _ _ _ c.steps.invariant.0 }

pub step_turn-requires : goal.step_turn-requires
step_turn-requires g c =
    let on = lone_turn_passes c.steps.invariant.0 c.pass_nodes.ensures.passes.along in
    record { turns = lone_turn_flies _ _ _ _ _ on.0 }

pub steps-preserved : goal.steps-preserved
steps-preserved g c =
    let on = lone_turn_passes c.steps.invariant.0 c.pass_nodes.ensures.passes.along in
    let go = lone_turn_goes c.args.self.now c.pass_nodes.new.self c.step_turn.new.self c.args.party c.args.stamp c.args.release on.0 c.step_turn.result c.step_turn.ensures.stepped c.step_turn.ensures.index c.in_default-step_turn.is in
    let steps = c.pass_nodes.ensures.passes.steps in (
      go.0,
      omega (arith, steps, c.step_turn.ensures.tick, c.steps.invariant.1),
      omega (arith, steps, on.1, go.1, c.step_turn.ensures.tick, c.steps.invariant.2),
    )

pub steps-smaller : goal.steps-smaller
steps-smaller g c =
    let on = lone_turn_passes c.steps.invariant.0 c.pass_nodes.ensures.passes.along in
    let go = lone_turn_goes c.args.self.now c.pass_nodes.new.self c.step_turn.new.self c.args.party c.args.stamp c.args.release on.0 c.step_turn.result c.step_turn.ensures.stepped c.step_turn.ensures.index c.in_default-step_turn.is in
    omega (arith, on.1, go.1)

pub unreachable-requires-in_default-reply : goal.unreachable-requires-in_default-reply
unreachable-requires-in_default-reply g c =
    let on = lone_turn_passes c.steps.invariant.0 c.pass_nodes.ensures.passes.along in
    let ended = lone_turn_ends c.args.self.now c.pass_nodes.new.self c.step_turn.new.self c.args.party c.args.stamp c.args.release on.0 c.step_turn.result c.step_turn.ensures.stepped c.step_turn.ensures.index c.in-Some.reply c.in-Some.is in
    c.in_default-reply.not-Turned ended.0 ended.1

pub returns-in-Some-clause-turns : goal.returns-in-Some-clause-turns
returns-in-Some-clause-turns g c =
    let on = lone_turn_passes c.steps.invariant.0 c.pass_nodes.ensures.passes.along in
    let ended = lone_turn_ends c.args.self.now c.pass_nodes.new.self c.step_turn.new.self c.args.party c.args.stamp c.args.release on.0 c.step_turn.result c.step_turn.ensures.stepped c.step_turn.ensures.index c.in-Some.reply c.in-Some.is in
    let same : ended.0 ≡ c.in-Turned.turned = turned_same (sym ended.1 ∙ c.in-Turned.is) in
    subst (λ (answer : Turned). TurnsAlone c.args.self.now c.args.stamp c.args.release answer c.step_turn.new.self) same ended.2

pub returns-in-Some-clause-quiet : goal.returns-in-Some-clause-quiet
returns-in-Some-clause-quiet g c =
    let on = lone_turn_passes c.steps.invariant.0 c.pass_nodes.ensures.passes.along in
    (lone_turn_ends c.args.self.now c.pass_nodes.new.self c.step_turn.new.self c.args.party c.args.stamp c.args.release on.0 c.step_turn.result c.step_turn.ensures.stepped c.step_turn.ensures.index c.in-Some.reply c.in-Some.is).3

pub returns-in-Some-clause-short : goal.returns-in-Some-clause-short
returns-in-Some-clause-short g c =
    let on = lone_turn_passes c.steps.invariant.0 c.pass_nodes.ensures.passes.along in
    let ended = lone_turn_ends c.args.self.now c.pass_nodes.new.self c.step_turn.new.self c.args.party c.args.stamp c.args.release on.0 c.step_turn.result c.step_turn.ensures.stepped c.step_turn.ensures.index c.in-Some.reply c.in-Some.is in
    turned_short c.args.self.now c.step_turn.new.self c.args.stamp c.args.release ended.0 ended.2 c.step_turn.ensures.index ended.3

pub returns-in-Some-clause-acts : goal.returns-in-Some-clause-acts
returns-in-Some-clause-acts g c =
    let steps = c.pass_nodes.ensures.passes.steps in
    omega (arith, steps, c.step_turn.ensures.tick, c.steps.invariant.1)

pub returns-in-Some-clause-events : goal.returns-in-Some-clause-events
returns-in-Some-clause-events g c =
    let on = lone_turn_passes c.steps.invariant.0 c.pass_nodes.ensures.passes.along in
    let steps = c.pass_nodes.ensures.passes.steps in
    omega (arith, steps, on.1, c.step_turn.ensures.tick, c.steps.invariant.2)
