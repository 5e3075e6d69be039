use Rattle.std.proofs.Common.{◌≡◌, ◌≤◌, ◌+◌}
use Rattle.tree_update.specs.Changes.{change_left, change_most}
use Rattle.tree_update.specs.Kinds.{KeepsOthers}
use Rattle.tree_update.specs.Stages.{aim_of}
use Rattle.tree_update.specs.Runs.{layer_in}
use Rattle.tree_update.proofs.RunLaw.{OnRun}
use Rattle.tree_update.proofs.alone.run_alone.Given as goal

abbrev pub invariant-turns : goal.invariant-turns
invariant-turns g l = record {
  layout : l.memory.layout ≡ l.fn.memory.layout;
  on : OnRun l.fn.memory.layout (layer_in l.fn.memory.layout l.fn.memory.words) (aim_of l.fn.change) l.change l.memory.words;
  others : KeepsOthers l.fn.memory.layout l.fn.memory.words l.memory.words;
  steps : l.steps + change_left l.change ≤ l.fn.steps + change_most l.fn.memory.layout;
}

abbrev pub decreases-turns : goal.decreases-turns
decreases-turns g l = change_left l.change
