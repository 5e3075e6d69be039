use Rattle.tree_change.proofs.FinishStays.{finish_stays}
use Rattle.tree_change.proofs.FinishTurns.{finish_turns}
use Rattle.tree_change.proofs.EndingLaw.{end_step_keeps, ending_drains, ending_mixes, switch_begins}
use Rattle.tree_change.proofs.laws.finish_law.Goals as goal

pub returns : goal.returns
returns c = record {
  stays = finish_stays;
  turns = finish_turns;
  keeps = end_step_keeps;
  drains = ending_drains;
  mixes = ending_mixes;
  begins = switch_begins;
}
