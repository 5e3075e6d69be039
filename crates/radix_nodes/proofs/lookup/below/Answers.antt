use Rattle.radix_nodes.specs.Cells.{children_of}
use Rattle.radix_nodes.proofs.Lookups.{below_passed}
use Rattle.radix_nodes.proofs.lookup.below.Goals as goal

pub loop-passed-preserved : goal.loop-passed-preserved
loop-passed-preserved c = below_passed (children_of c.args.cell.now) c.args.byte c.loop-passed.passed c.child_word-reference.result c.loop-passed-test.true c.child_word-reference.ensures c.if-reference-ne0.false c.loop-passed.invariant
