use Rattle.std.proofs.Common.{◌≡◌, ℕ, ◌+◌, ◌≤◌, subst, arith}
use Rattle.pm_words.specs.Locations.{node_words}
use Rattle.machine_runs.specs.Runs.{IsOnRun}
use Rattle.node_ops.specs.FinishSteps.{finish_asks, finish_turned, finish_left}
use Rattle.node_ops.proofs.Flushing.{flush_begins, flush_call, flush_within, flushed, run_bursts, word_drains}
use Rattle.node_ops.proofs.Flushing.{word_flushed, word_loads}
use Rattle.node_ops.proofs.finish.Finish.flush.Goals as goal

pub loop-word-init : goal.loop-word-init
loop-word-init g c =
    (flush_begins c.args.self.now c.args.line c.requires.begins c.requires.may c.args.steps.now, omega arith)

pub address-address-requires-clause-sound : goal.address-address-requires-clause-sound
address-address-requires-clause-sound g c = flush_call c.args.self.now c.args.line c.requires.begins c.requires.may

pub address-address-requires-clause-within : goal.address-address-requires-clause-within
address-address-requires-clause-within g c =
    let within : c.args.line + 8 ≤ node_words c.args.self.now.call.view.layout =
    flush_within c.args.self.now c.args.line c.requires.begins c.requires.may in
    omega arith

pub act-value-requires : goal.act-value-requires
act-value-requires g c =
    word_loads c.args.self.now c.args.line c.requires.begins c.requires.may c.loop-word.word (omega arith)
    c.loop-word.invariant.0 c.address-address.ensures

pub act-requires : goal.act-requires
act-requires g c =
    word_drains c.args.self.now c.args.line c.requires.begins c.requires.may c.loop-word.word (omega arith)
    c.loop-word.invariant.0 c.address-address.ensures c.act-value.ensures.row c.act-value.ensures.got
    c.act-value.ensures.tick

pub loop-word-preserved : goal.loop-word-preserved
loop-word-preserved g c = (
  word_flushed c.args.self.now c.args.line c.requires.begins c.requires.may c.loop-word.word (omega arith)
      c.loop-word.invariant.0 c.address-address.ensures c.act-value.ensures.row c.act-value.ensures.got
      c.act-value.ensures.tick c.act.ensures.row c.act.ensures.got c.act.ensures.tick,
  omega (arith, c.loop-word.invariant.1, c.act-value.ensures.tick, c.act.ensures.tick),
)

pub returns-clause-bursts : goal.returns-clause-bursts
returns-clause-bursts g c =
    let whole : c.loop-word.word ≡ 8 = omega arith in
    run_bursts
    (subst (λ (n : ℕ). IsOnRun finish_asks finish_turned finish_left c.args.memory.now c.loop-word.memory
    c.args.self.now (flushed c.args.self.now c.args.line n) c.args.steps.now c.loop-word.steps) whole
    c.loop-word.invariant.0)
    (omega (arith, c.loop-word.invariant.1))
