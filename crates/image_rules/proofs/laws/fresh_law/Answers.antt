use Rattle.image_rules.proofs.FreshLemmas.{fresh_is_sound}
use Rattle.image_rules.proofs.laws.fresh_law.Goals as goal

pub returns : goal.returns
returns c = fresh_is_sound
