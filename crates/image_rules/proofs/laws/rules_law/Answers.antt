use Rattle.image_rules.proofs.TidyLemmas.{sound_keeps, keeps_sound}
use Rattle.image_rules.proofs.laws.rules_law.Goals as goal

pub returns : goal.returns
returns c = record { keeps = sound_keeps; sound = keeps_sound }
