use Rattle.data_node.proofs.Bitmaps.{live-set}
use Rattle.data_node.proofs.bits.with_live.Goals as goal

pub returns-clause-bits : goal.returns-clause-bits
returns-clause-bits c = live-set c.args.bitmap c.args.slot c.requires
