use Rattle.search_layer.proofs.StageLemmas.{change_is_backed, stage_evicts}
use Rattle.search_layer.proofs.StepLaw.{step_can_act, change_step_keeps}
use Rattle.search_layer.proofs.laws.change_law.Goals as goal

pub returns : goal.returns
returns c = record { acts = step_can_act; keeps = change_step_keeps; backed = change_is_backed; evicts = stage_evicts }
