use Rattle.search_layer.proofs.StageLemmas.{unset_keeps_zero, layer_stays_rooted, mix_stays_rooted, rooted_begins}
use Rattle.search_layer.proofs.laws.zero_law.Goals as goal

pub returns : goal.returns
returns c = record { zero = unset_keeps_zero; layer = layer_stays_rooted; mix = mix_stays_rooted; begins = rooted_begins }
