use Rattle.std.proofs.Common.{◌≡◌, take}
use Rattle.core_rounds.specs.LoneCalls.{calls_in}
use Rattle.core_rounds.proofs.playing.calls_in.Given as goal

abbrev pub invariant-loop-plan : goal.invariant-loop-plan
invariant-loop-plan l = l.calls ≡ calls_in (take l.plan-index l.plans)
