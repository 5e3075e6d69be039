use Rattle.std.proofs.Common.{◌≡◌, ◌≤◌, ◌+◌}
use Rattle.pm_words.specs.Rows.{IsRow}
use Rattle.tree_floor.specs.Floors.{floor_left, floor_most}
use Rattle.tree_update.proofs.LoneFloor.{LoneFloor}
use Rattle.tree_update.proofs.alone.floor_alone.Given as goal

abbrev pub invariant-turns : goal.invariant-turns
invariant-turns g l = record {
  memory : l.memory ≡ l.fn.memory;
  row : IsRow l.fn.memory.layout l.fn.memory.words;
  lone : LoneFloor l.fn.memory.layout l.fn.key l.fn.memory.words l.floor;
  steps : l.steps + floor_left l.floor ≤ l.fn.steps + floor_most;
}

abbrev pub decreases-turns : goal.decreases-turns
decreases-turns g l = floor_left l.floor
