use Rattle.image_recovery.proofs.CrashLemmas.{crash_leaves_sound, crash_between_leaves_sound, stop_leaves_sound}
use Rattle.image_recovery.proofs.laws.crash_law.Goals as goal

pub returns : goal.returns
returns c = record { during = crash_leaves_sound; between = crash_between_leaves_sound; stops = stop_leaves_sound }
