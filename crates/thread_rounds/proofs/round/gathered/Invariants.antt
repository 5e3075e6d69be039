use Rattle.std.proofs.Common.{length}
use Rattle.thread_rounds.proofs.Gathering.{Takes}
use Rattle.thread_rounds.proofs.round.gathered.Given as goal

abbrev pub invariant-loop-played : goal.invariant-loop-played
invariant-loop-played l = Takes l.fn.played.items l.left.items l.callers.items l.records.items

abbrev pub decreases-loop-played : goal.decreases-loop-played
decreases-loop-played l = length l.left.items
