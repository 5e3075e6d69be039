use Rattle.updater.proofs.MakingLaw.{makings_stay_sound, makings_are_feet}
use Rattle.updater.proofs.laws.making_law.Goals as goal

pub returns-clause-sound : goal.returns-clause-sound
returns-clause-sound c = makings_stay_sound

pub returns-clause-feet : goal.returns-clause-feet
returns-clause-feet c = makings_are_feet
