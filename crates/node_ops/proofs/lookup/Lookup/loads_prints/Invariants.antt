use Rattle.std.proofs.Common.{ℕ}
use Rattle.node_ops.specs.declared.lookup.Hold.{Hold}
use Rattle.node_ops.specs.Looking.{LeadsTo, MayLookFrom, has_prints, loads_prints}
use Rattle.node_ops.proofs.lookup.Lookup.loads_prints.Given as goal

abbrev pub invariant-loop-at : goal.invariant-loop-at
invariant-loop-at g l =
    (hold : Hold) (bitmap : ℕ) → MayLookFrom l.fn.memory (loads_prints l.self.call hold bitmap) →
    LeadsTo l.fn.memory l.memory l.self.call (loads_prints l.self.call hold bitmap)
    (has_prints l.self.call hold bitmap l.prints l.at) l.fn.steps l.steps
