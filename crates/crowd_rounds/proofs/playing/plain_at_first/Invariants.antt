use Rattle.std.proofs.Common.{◌≡◌, take}
use Rattle.core_crashes.specs.core_rounds.specs.LoneCalls.{restarts}
use Rattle.crowd_rounds.proofs.playing.plain_at_first.Given as goal

-- behind none of those so far it is opened again
abbrev pub invariant-loop-count : goal.invariant-loop-count
invariant-loop-count l = restarts (take l.count l.plans) ≡ 0
