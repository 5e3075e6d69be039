use Rattle.image_recovery_law.proofs.Rest.{broken_is_sound, broken_then_whole}
use Rattle.image_recovery_law.proofs.laws.broken_law.Goals as goal

pub returns : goal.returns
returns c = record { sound = broken_is_sound; whole = broken_then_whole }
