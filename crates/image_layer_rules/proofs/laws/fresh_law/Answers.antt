use Rattle.image_layer_rules.proofs.FreshLaw.{fresh_is_sound_by_all}
use Rattle.image_layer_rules.proofs.laws.fresh_law.Goals as goal

pub returns : goal.returns
returns c = fresh_is_sound_by_all
