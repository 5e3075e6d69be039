use Rattle.index_layer_law.proofs.TurnRests.{turn_start_keeps}
use Rattle.index_layer_law.proofs.TurnTerms.{terms_may_begin}
use Rattle.index_layer_law.proofs.laws.turn_start_law.Goals as goal

pub returns : goal.returns
returns c = record { starts = turn_start_keeps; terms = terms_may_begin }
