use Rattle.updater.proofs.StepLaw.{works_start, works_are_steps}
use Rattle.updater.proofs.WatchLaw.{works_are_watches, targets_are_seen, keys_have_one_number, walks_are_told}
use Rattle.updater.proofs.FootLaw.{works_are_feet}
use Rattle.updater.proofs.laws.turn_law.Goals as goal

pub returns-clause-starts : goal.returns-clause-starts
returns-clause-starts c = works_start

pub returns-clause-steps : goal.returns-clause-steps
returns-clause-steps c = works_are_steps

pub returns-clause-watches : goal.returns-clause-watches
returns-clause-watches c = works_are_watches

pub returns-clause-targets : goal.returns-clause-targets
returns-clause-targets c = targets_are_seen

pub returns-clause-keys : goal.returns-clause-keys
returns-clause-keys c = keys_have_one_number

pub returns-clause-told : goal.returns-clause-told
returns-clause-told c = walks_are_told

pub returns-clause-feet : goal.returns-clause-feet
returns-clause-feet c = works_are_feet
