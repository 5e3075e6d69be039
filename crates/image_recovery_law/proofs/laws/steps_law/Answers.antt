use Rattle.image_recovery_law.proofs.Steps.{starts, steps_keep}
use Rattle.image_recovery_law.proofs.Mixes.{evictions_keep}
use Rattle.image_recovery_law.proofs.laws.steps_law.Goals as goal

pub returns : goal.returns
returns c = record { starts = starts; steps = steps_keep; evictions = evictions_keep }
