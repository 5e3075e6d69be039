use Rattle.std.proofs.Common.{◌-◌}
use Rattle.image_layer_rules.proofs.look.+node_from.Given as goal

abbrev pub decreases-node_from : goal.decreases-node_from
decreases-node_from l = 24 - l.least
