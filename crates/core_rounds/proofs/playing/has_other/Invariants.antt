use Rattle.std.proofs.Common.{◌≡◌, drop}
use Rattle.core_rounds.specs.LoneCalls.{has_other}
use Rattle.core_rounds.proofs.playing.has_other.Given as goal

-- the calls so far are the caller's
abbrev pub invariant-loop-call : goal.invariant-loop-call
invariant-loop-call l = has_other l.caller (drop l.call-index l.asked) ≡ has_other l.caller l.asked
