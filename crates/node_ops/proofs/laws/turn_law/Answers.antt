use Rattle.node_ops.proofs.CallLaw.{turns_are_foot_steps, turns_are_steps, leads_are_taken}
use Rattle.node_ops.proofs.CallSound.{turns_stay_sound}
use Rattle.node_ops.proofs.FullSplits.{splits_are_of_full_nodes}
use Rattle.node_ops.proofs.PermutingLaw.{turns_permute, turns_reread}
use Rattle.node_ops.proofs.laws.turn_law.Goals as goal

pub returns-clause-feet : goal.returns-clause-feet
returns-clause-feet c = turns_are_foot_steps

pub returns-clause-steps : goal.returns-clause-steps
returns-clause-steps c = turns_are_steps

pub returns-clause-taken : goal.returns-clause-taken
returns-clause-taken c = leads_are_taken

pub returns-clause-sound : goal.returns-clause-sound
returns-clause-sound c = turns_stay_sound

pub returns-clause-full : goal.returns-clause-full
returns-clause-full c = splits_are_of_full_nodes

pub returns-clause-stores : goal.returns-clause-stores
returns-clause-stores c = turns_permute

pub returns-clause-reads : goal.returns-clause-reads
returns-clause-reads c = turns_reread
