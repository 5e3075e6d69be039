use Rattle.std.proofs.Common.{◌<◌, ◌^◌, arith}
use Rattle.data_node.proofs.Bitmaps.{live-clear}
use Rattle.data_node.proofs.bits.without_live.Goals as goal

pub returns-clause-bits : goal.returns-clause-bits
returns-clause-bits c =
    let fits : c.args.bitmap < 2 ^ 64 = omega arith in
    live-clear c.args.bitmap c.args.slot fits c.requires
