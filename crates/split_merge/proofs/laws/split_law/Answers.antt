use Rattle.split_merge.proofs.MoveLaw.{moves_are_steps}
use Rattle.split_merge.proofs.SplitLaw.{plans_cut, splits_are_steps}
use Rattle.split_merge.proofs.SplitStaying.{splits_stay}
use Rattle.split_merge.proofs.OfSplits.{stages_are_of_splits}
use Rattle.split_merge.proofs.FullSplits.{splits_are_of_full}
use Rattle.split_merge.proofs.Heeding.{splits_heed, fulls_heed}
use Rattle.split_merge.proofs.laws.split_law.Goals as goal

pub returns-clause-cuts : goal.returns-clause-cuts
returns-clause-cuts c = plans_cut

pub returns-clause-moves : goal.returns-clause-moves
returns-clause-moves c = moves_are_steps

pub returns-clause-steps : goal.returns-clause-steps
returns-clause-steps c = splits_are_steps

pub returns-clause-stays : goal.returns-clause-stays
returns-clause-stays c = splits_stay

pub returns-clause-holds : goal.returns-clause-holds
returns-clause-holds c = stages_are_of_splits

pub returns-clause-knows : goal.returns-clause-knows
returns-clause-knows c = splits_are_of_full

pub returns-clause-heeds : goal.returns-clause-heeds
returns-clause-heeds c = splits_heed

pub returns-clause-full : goal.returns-clause-full
returns-clause-full c = fulls_heed
