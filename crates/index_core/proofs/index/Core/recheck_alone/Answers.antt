use Rattle.std.proofs.Common.{refl, ◌∙◌, ap, arith}
use Rattle.std.specs.Prelude.{Some}
use Rattle.call_stages.specs.declared.once.Once.{Once}
use Rattle.node_ops.specs.declared.recheck.Same.{Same}
use Rattle.index_core.proofs.Busy.{quiet_is_idle}
use Rattle.index_core.proofs.LoneRechecks.{lone_recheck_begins, lone_recheck_finds, lone_recheck_flies, lone_recheck_goes, lone_recheck_last, lone_recheck_left, lone_recheck_same}
use Rattle.index_core.proofs.index.Core.recheck_alone.Goals as goal

pub unreachable-requires : goal.unreachable-requires
unreachable-requires g c =
    absurd (quiet_is_idle c.args.self.now c.args.caller c.requires.quiet (c.in_default.ensures.in_flight.0 refl))

pub steps-init : goal.steps-init
steps-init g c = (2, lone_recheck_begins c.args.self.now c.start_recheck.new.self c.args.caller c.args.node c.args.version c.requires.quiet.rechecks c.in-Ok.ensures.started c.start_recheck.ensures.index, refl)

pub step_recheck-requires : goal.step_recheck-requires
step_recheck-requires g c = record { checks = lone_recheck_flies _ _ _ _ _ _ c.steps.invariant.1 }

pub steps-preserved : goal.steps-preserved
steps-preserved g c =
    let i = c.steps.invariant in
    let next = lone_recheck_goes c.args.self.now c.steps.self c.args.caller c.args.node c.args.version i.0 i.1 c.step_recheck.new.self c.step_recheck.result c.step_recheck.ensures.stepped c.step_recheck.ensures.index c.in_default-step_recheck.is in
    let less = next.1 in
    (next.0, next.2, omega (arith, less, c.step_recheck.ensures.tick, i.2))

pub steps-smaller : goal.steps-smaller
steps-smaller g c =
    let i = c.steps.invariant in
    let some = lone_recheck_left c.args.self.now c.steps.self c.args.caller c.args.node c.args.version i.0 i.1 in
    omega (arith, some, c.step_recheck.ensures.tick, i.2)

pub unreachable-requires-in_default-answer : goal.unreachable-requires-in_default-answer
unreachable-requires-in_default-answer g c =
    let i = c.steps.invariant in
    let found = lone_recheck_finds c.args.self.now c.steps.self c.args.caller c.args.node c.args.version i.0 i.1 c.step_recheck.new.self c.step_recheck.result c.step_recheck.ensures.stepped c.requires.version c.in-Some.answer c.in-Some.is in
    c.in_default-answer.not-Done found.0 found.1

pub returns-in-Some-clause-alone : goal.returns-in-Some-clause-alone
returns-in-Some-clause-alone g c =
    let i = c.steps.invariant in
    lone_recheck_same c.args.self.now c.steps.self c.args.caller c.args.node c.args.version i.0 i.1 c.step_recheck.new.self c.step_recheck.result c.step_recheck.ensures.stepped c.in-Done.same
    (c.in-Some.is ∙ ap (λ (a : Once Same). Some a) c.in-Done.is)

pub returns-in-Some-clause-tick : goal.returns-in-Some-clause-tick
returns-in-Some-clause-tick g c =
    let i = c.steps.invariant in
    let last = lone_recheck_last c.args.self.now c.steps.self c.args.caller c.args.node c.args.version i.0 i.1 c.step_recheck.new.self c.step_recheck.result c.step_recheck.ensures.stepped c.in-Some.answer c.in-Some.is in
    omega (arith, last, c.step_recheck.ensures.tick, i.2)
