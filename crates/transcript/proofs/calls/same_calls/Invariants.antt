use Rattle.std.proofs.Common.{◌≡◌, take}
use Rattle.transcript.proofs.calls.same_calls.Given as goal

-- the calls so far are the same
abbrev pub invariant-loop-at : goal.invariant-loop-at
invariant-loop-at l = take l.at l.one ≡ take l.at l.other
