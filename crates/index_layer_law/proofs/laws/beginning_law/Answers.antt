use Rattle.index_layer_law.proofs.Beginnings.{beginning_keeps_layer, other_turns_may_rest}
use Rattle.index_layer_law.proofs.Restamping.{stamp_keeps_layer}
use Rattle.index_layer_law.proofs.laws.beginning_law.Goals as goal

pub returns : goal.returns
returns c = record { calls = beginning_keeps_layer; turns = other_turns_may_rest; stamp = stamp_keeps_layer }
