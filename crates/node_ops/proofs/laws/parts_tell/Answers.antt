use Rattle.node_ops.proofs.PartTelling.{part_tells, parts_hear}
use Rattle.node_ops.proofs.laws.parts_tell.Goals as goal

pub returns-clause-tells : goal.returns-clause-tells
returns-clause-tells c = part_tells

pub returns-clause-hears : goal.returns-clause-hears
returns-clause-hears c = parts_hear
