use Rattle.std.proofs.Common.{◌≡◌}
use Rattle.tree_update.specs.Changes.{IsChange}
use Rattle.tests_words.proofs.tests.nodes.changes.run.Given as goal

abbrev pub invariant-turns : goal.invariant-turns
invariant-turns g l = record { layout : l.change.layout ≡ l.memory.layout; sound : IsChange l.change }
