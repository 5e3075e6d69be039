use Rattle.index_core.proofs.FreedRuns.{freed_were_released, steps_free_released}
use Rattle.index_core.proofs.SteppedTurns.{stepped_turn_is_whole}
use Rattle.index_core.proofs.Turning.{turns_keep, turn_begins, terms_may_be_set}
use Rattle.index_core.proofs.laws.turn_law.Goals as goal

pub returns-clause-keeps : goal.returns-clause-keeps
returns-clause-keeps c = turns_keep

pub returns-clause-begins : goal.returns-clause-begins
returns-clause-begins c = turn_begins

pub returns-clause-terms : goal.returns-clause-terms
returns-clause-terms c = terms_may_be_set

pub returns-clause-released : goal.returns-clause-released
returns-clause-released c = freed_were_released

pub returns-clause-frees : goal.returns-clause-frees
returns-clause-frees c = steps_free_released

pub returns-clause-whole : goal.returns-clause-whole
returns-clause-whole c = stepped_turn_is_whole
