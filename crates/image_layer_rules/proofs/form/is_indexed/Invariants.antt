use Rattle.std.proofs.Common.{ℕ, ◌<◌}
use Rattle.radix_nodes.specs.Cells.{words_of}
use Rattle.image_layer_rules.specs.Forms.{IsPlaceIn}
use Rattle.image_layer_rules.proofs.form.is_indexed.Given as goal

-- the index bytes that the loop has passed are in order
abbrev pub invariant-loop-byte : goal.invariant-loop-byte
invariant-loop-byte l = (b : ℕ) → b < l.byte → IsPlaceIn (words_of l.cell) b
