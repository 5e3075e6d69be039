use Rattle.std.proofs.Common.{◌≡◌, ℕ, take, sym, ◌∙◌, subst, arith}
use Rattle.core_crashes.specs.core_rounds.specs.LoneCalls.{restarts}
use Rattle.crowd_rounds.proofs.Segmenting.{one-first}
use Rattle.crowd_rounds.proofs.playing.plain_at_first.Goals as goal

pub loop-count-preserved : goal.loop-count-preserved
loop-count-preserved c =
    one-first c.args.plans.now c.loop-count.count c.index-plans-count.result c.loop-count-test.true c.index-plans-count.is
    (sym c.has_restart.ensures ∙ c.if-has_restart.false) c.loop-count.invariant

pub returns : goal.returns
returns c = record {
  few = omega arith;
  none = subst (λ (k : ℕ). restarts (take k c.args.plans.now) ≡ 0) (omega (arith, c.loop-count-test.false, c.loop-count.auto.count-end)) c.loop-count.invariant;
  next = λ plan less. absurd (omega (arith, less));
}
