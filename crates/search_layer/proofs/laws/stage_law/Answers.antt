use Rattle.search_layer.proofs.StageLemmas.{change_begins, change_ends, layer_is_either, mix_is_either, step_is_either}
use Rattle.search_layer.proofs.laws.stage_law.Goals as goal

pub returns : goal.returns
returns c = record { begins = change_begins; ends = change_ends; layer = layer_is_either; mix = mix_is_either; step = step_is_either }
