use Rattle.image_recovery.proofs.Walking.{anchored}
use Rattle.image_recovery.proofs.anchored.anchored_node.Goals as goal

pub returns : goal.returns
returns c = anchored c.args.image.now c.args.line c.line_anchor.result c.line_anchor.ensures c.node_with.result c.node_with.ensures
