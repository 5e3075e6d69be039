use Rattle.std.proofs.Common.{ℕ, ◌<◌}
use Rattle.radix_nodes.specs.Cells.{words_of}
use Rattle.image_layer_rules.specs.Forms.{IsEntryIn}
use Rattle.image_layer_rules.proofs.form.are_entries.Given as goal

-- the entries that the loop has passed are in order
abbrev pub invariant-loop-entry : goal.invariant-loop-entry
invariant-loop-entry l = (i : ℕ) → i < l.entry → IsEntryIn (words_of l.cell) l.first i
