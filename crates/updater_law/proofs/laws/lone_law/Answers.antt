use Rattle.updater_law.proofs.LoneTurn.{lone_turn}
use Rattle.updater_law.proofs.laws.lone_law.Goals as goal

pub returns : goal.returns
returns c = lone_turn
