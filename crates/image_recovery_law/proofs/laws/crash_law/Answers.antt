use Rattle.image_recovery_law.proofs.Mixes.{crash_mends}
use Rattle.image_recovery_law.proofs.Mended.{mended_is_sound}
use Rattle.image_recovery_law.proofs.Weighs.{mended_weighs}
use Rattle.image_recovery_law.proofs.laws.crash_law.Goals as goal

pub returns : goal.returns
returns c = record { mends = crash_mends; sound = mended_is_sound; weighs = mended_weighs }
