use Rattle.std.proofs.Common.{◌≢◌, ℕ, ◌+◌, ◌<◌}
use Rattle.radix_nodes.specs.Cells.{words_of, index_of}
use Rattle.radix_nodes.proofs.changes.is_taken.Given as goal

abbrev pub invariant-loop-byte : goal.invariant-loop-byte
invariant-loop-byte l = (b : ℕ) → b < l.byte → index_of (words_of l.cell) b ≢ l.place + 1
