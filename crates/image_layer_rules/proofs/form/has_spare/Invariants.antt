use Rattle.std.proofs.Common.{◌≡◌, ℕ, ◌<◌, ◌≤◌}
use Rattle.radix_nodes.specs.Cells.{words_of}
use Rattle.image_layer_rules.proofs.form.has_spare.Given as goal

-- the words that the loop has passed are 0
abbrev pub invariant-loop-offset : goal.invariant-loop-offset
invariant-loop-offset l = (o : ℕ) → 4 ≤ o → o < l.offset → words_of l.cell o ≡ 0
