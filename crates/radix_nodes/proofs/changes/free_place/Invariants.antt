use Rattle.std.proofs.Common.{ℕ, ◌<◌}
use Rattle.radix_nodes.specs.Cells.{words_of}
use Rattle.radix_nodes.specs.Changes.{IsTaken}
use Rattle.radix_nodes.proofs.changes.free_place.Given as goal

abbrev pub invariant-loop-place : goal.invariant-loop-place
invariant-loop-place l = (place : ℕ) → place < l.place → IsTaken (words_of l.cell) place
