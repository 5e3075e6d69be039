use Rattle.recovery.proofs.Crashed.{crash_is_undamaged}
use Rattle.recovery.proofs.laws.crash_law.Goals as goal

pub returns : goal.returns
returns c = crash_is_undamaged
