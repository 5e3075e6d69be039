use Rattle.image_rules.proofs.MapLemmas.{sound_has_map, has_one_map}
use Rattle.image_rules.proofs.laws.map_law.Goals as goal

pub returns : goal.returns
returns c = record { some = sound_has_map; one = has_one_map }
