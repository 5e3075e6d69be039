use Rattle.std.proofs.Common.{◌≡◌, ◌+◌, drop}
use Rattle.core_rounds.specs.LoneCalls.{restarts}
use Rattle.core_rounds.proofs.playing.restarts.Given as goal

-- those so far, and those to come
abbrev pub invariant-loop-plan : goal.invariant-loop-plan
invariant-loop-plan l = l.restarts + restarts (drop l.plan-index l.plans) ≡ restarts l.plans
