use Rattle.updater.proofs.WorkSound.{works_stay_sound}
use Rattle.updater.proofs.WorkLaw.{works_begin, works_heed, works_leave}
use Rattle.updater.proofs.DoingLaw.{works_do}
use Rattle.updater.proofs.laws.work_law.Goals as goal

pub returns-clause-sound : goal.returns-clause-sound
returns-clause-sound c = works_stay_sound

pub returns-clause-begins : goal.returns-clause-begins
returns-clause-begins c = works_begin

pub returns-clause-heeds : goal.returns-clause-heeds
returns-clause-heeds c = works_heed

pub returns-clause-leaves : goal.returns-clause-leaves
returns-clause-leaves c = works_leave

pub returns-clause-does : goal.returns-clause-does
returns-clause-does c = works_do
