use Rattle.stopped_rounds.proofs.MoreCutsLemmas.{more_cuts_are_crash_ends}
use Rattle.stopped_rounds.proofs.laws.more_cuts_law.Goals as goal

pub returns : goal.returns
returns c = more_cuts_are_crash_ends
