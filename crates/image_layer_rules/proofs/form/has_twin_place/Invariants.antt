use Rattle.std.proofs.Common.{◌≢◌, ℕ, ◌<◌}
use Rattle.radix_nodes.specs.Cells.{words_of, index_of}
use Rattle.image_layer_rules.proofs.form.has_twin_place.Given as goal

-- no byte that the loop has passed has the place
abbrev pub invariant-loop-other : goal.invariant-loop-other
invariant-loop-other l = (o : ℕ) → o < l.other → index_of (words_of l.cell) o ≢ index_of (words_of l.cell) l.byte
