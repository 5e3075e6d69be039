use Rattle.std.proofs.Common.{◌≢◌, ℕ, ◌+◌, ◌<◌}
use Rattle.radix_nodes.specs.Cells.{words_of}
use Rattle.radix_nodes.proofs.changes.free_entry.Given as goal

abbrev pub invariant-loop-offset : goal.invariant-loop-offset
invariant-loop-offset l = (i : ℕ) → i < l.count → l.first + i < l.offset → words_of l.cell (l.first + i) ≢ 0
