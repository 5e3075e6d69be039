use Rattle.node_ops.specs.declared.lookup.Hold.{Hold}
use Rattle.node_ops.specs.declared.lookup.Directory.{Directory}
use Rattle.node_ops.specs.LookupSteps.{next_candidate}
use Rattle.node_ops.specs.Looking.{LeadsTo, MayLookFrom}
use Rattle.node_ops.proofs.lookup.Lookup.compares.Given as goal

abbrev pub invariant-slots : goal.invariant-slots
invariant-slots g l =
    (hold : Hold) (directory : Directory) →
    MayLookFrom l.fn.memory (next_candidate l.self.call hold directory l.candidates) →
    LeadsTo l.fn.memory l.memory l.self.call (next_candidate l.self.call hold directory l.candidates)
    (next_candidate l.self.call hold directory l.left) l.fn.steps l.steps

abbrev pub decreases-slots : goal.decreases-slots
decreases-slots g l = l.left
