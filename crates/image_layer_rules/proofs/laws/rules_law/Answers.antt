use Rattle.image_layer_rules.proofs.LayerLaws.{sound_is_kept}
use Rattle.image_layer_rules.proofs.laws.rules_law.Goals as goal

pub returns : goal.returns
returns c = sound_is_kept
