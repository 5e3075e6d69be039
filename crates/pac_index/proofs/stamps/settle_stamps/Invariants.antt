use Rattle.std.proofs.Common.{◌≡◌}
use Rattle.pac_index.proofs.Settling.{Settling}
use Rattle.pac_index.proofs.stamps.settle_stamps.Given as goal

abbrev pub invariant-loop-node : goal.invariant-loop-node
invariant-loop-node l = (l.memory.layout ≡ l.fn.memory.layout) × Settling l.fn.memory.layout l.node l.fn.memory.words l.memory.words
