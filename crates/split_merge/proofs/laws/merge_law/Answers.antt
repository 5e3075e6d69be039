use Rattle.split_merge.proofs.JoinLaw.{joins_are_steps}
use Rattle.split_merge.proofs.MergeLaw.{merges_are_steps}
use Rattle.split_merge.proofs.MergeStaying.{merges_stay}
use Rattle.split_merge.proofs.FullSplits.{merges_split_none}
use Rattle.split_merge.proofs.MergeHeeding.{merges_heed}
use Rattle.split_merge.proofs.laws.merge_law.Goals as goal

pub returns-clause-joins : goal.returns-clause-joins
returns-clause-joins c = joins_are_steps

pub returns-clause-steps : goal.returns-clause-steps
returns-clause-steps c = merges_are_steps

pub returns-clause-stays : goal.returns-clause-stays
returns-clause-stays c = merges_stay

pub returns-clause-splits : goal.returns-clause-splits
returns-clause-splits c = merges_split_none

pub returns-clause-heeds : goal.returns-clause-heeds
returns-clause-heeds c = merges_heed
