use Rattle.std.proofs.Common.{◌≢◌, ℕ, ◌+◌, ◌<◌}
use Rattle.radix_nodes.specs.Cells.{words_of, entry_byte}
use Rattle.image_layer_rules.proofs.form.has_twin_entry.Given as goal

-- no entry that the loop has passed has the byte
abbrev pub invariant-loop-other : goal.invariant-loop-other
invariant-loop-other l = (o : ℕ) → o < l.other → words_of l.cell (l.first + o) ≢ 0 →
    entry_byte (words_of l.cell (l.first + o)) ≢ entry_byte (words_of l.cell (l.first + l.entry))
