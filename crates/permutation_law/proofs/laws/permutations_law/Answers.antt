use Rattle.permutation_law.proofs.Steps as steps
use Rattle.permutation_law.proofs.Sorting as sorting
use Rattle.permutation_law.proofs.Frames as frames
use Rattle.permutation_law.proofs.laws.permutations_law.Goals as goal

pub returns : goal.returns
returns c = record { steps = steps.steps_permute; sorts = sorting.sorts_permute; frames = frames.frames_permute; leave = frames.evictions_leave; evict = frames.evictions_permute; rest = frames.rest_permuted; idle = frames.idle_may_change }
