use Rattle.image_rules.proofs.WordLemmas.{crash_keeps_spot, start_caches_spot}
use Rattle.image_rules.proofs.laws.spot_law.Goals as goal

pub returns : goal.returns
returns c = record { crash = crash_keeps_spot; start = start_caches_spot }
