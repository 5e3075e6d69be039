use Rattle.updater.proofs.TakingLaw.{takings_heed}
use Rattle.updater.proofs.StepLaw.{takings_are_steps}
use Rattle.updater.proofs.FootLaw.{takings_are_feet}
use Rattle.updater.proofs.laws.taking_law.Goals as goal

pub returns-clause-heeds : goal.returns-clause-heeds
returns-clause-heeds c = takings_heed

pub returns-clause-steps : goal.returns-clause-steps
returns-clause-steps c = takings_are_steps

pub returns-clause-feet : goal.returns-clause-feet
returns-clause-feet c = takings_are_feet
