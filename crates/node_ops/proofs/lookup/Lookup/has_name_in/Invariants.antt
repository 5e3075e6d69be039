use Rattle.std.proofs.Common.{ℕ}
use Rattle.node_ops.specs.declared.lookup.Hold.{Hold}
use Rattle.node_ops.specs.declared.lookup.Directory.{Directory}
use Rattle.node_ops.specs.declared.lookup.LookupAt.TheVariants as at
use Rattle.node_ops.specs.LookupSteps.{goes_to}
use Rattle.node_ops.specs.Looking.{LeadsTo, MayLookFrom, has_words}
use Rattle.node_ops.proofs.lookup.Lookup.has_name_in.Given as goal

abbrev pub invariant-loop-at : goal.invariant-loop-at
invariant-loop-at g l =
    (hold : Hold) (directory : Directory) (left : ℕ) →
    MayLookFrom l.fn.memory (goes_to l.self.call (at.Name hold directory left l.slot 0)) →
    LeadsTo l.fn.memory l.memory l.self.call (goes_to l.self.call (at.Name hold directory left l.slot 0))
    (has_words l.self.call hold directory left l.slot l.at) l.fn.steps l.steps
