use Rattle.index_core.proofs.Fulls.{no_room_is_full_put, no_room_lists_each}
use Rattle.index_core.proofs.WeightLaw.{weight_is_bounded}
use Rattle.index_core.proofs.laws.weight_law.Goals as goal

pub returns-clause-bounded : goal.returns-clause-bounded
returns-clause-bounded c = weight_is_bounded

pub returns-clause-full : goal.returns-clause-full
returns-clause-full c = no_room_is_full_put

pub returns-clause-each : goal.returns-clause-each
returns-clause-each c = no_room_lists_each
