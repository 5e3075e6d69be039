use Rattle.std.proofs.Common.{◌≡◌, ◌-◌}
use Rattle.tree_marks.proofs.MarkLemmas.{IsPassing}
use Rattle.tree_marks.proofs.walk.+mark_from.Given as goal

abbrev pub decreases-mark_from : goal.decreases-mark_from
decreases-mark_from l = 24 - l.least

-- the cell's own mark is set, and those below the children that the loop has passed
abbrev pub invariant-loop-byte : goal.invariant-loop-byte
invariant-loop-byte l = record {
  layout : l.memory.layout ≡ l.fn.memory.layout;
  passing : IsPassing l.fn.memory.layout l.fn.memory.words l.reference l.memory.words l.byte;
}
