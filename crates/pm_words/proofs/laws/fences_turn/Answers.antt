use Rattle.pm_words.proofs.Fencing as fencing
use Rattle.pm_words.proofs.laws.fences_turn.Goals as goal

pub returns : goal.returns
returns c = record { turn = fencing.fence_turns; stay = fencing.fence_stays }
