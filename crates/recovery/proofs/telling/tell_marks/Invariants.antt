use Rattle.std.proofs.Common.{◌≡◌}
use Rattle.recovery.proofs.NodeMarks.{IsTelling}
use Rattle.recovery.proofs.telling.tell_marks.Given as goal

-- the nodes up to this one are told
abbrev pub invariant-loop-position : goal.invariant-loop-position
invariant-loop-position l =
    (l.memory.layout ≡ l.fn.memory.layout) × (l.nodes ≡ l.fn.memory.layout.nodes) × IsTelling l.fn.memory.layout l.fn.memory.words l.memory.words l.node l._position
