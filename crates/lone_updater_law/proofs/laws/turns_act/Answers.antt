use Rattle.lone_updater_law.proofs.Acting as lemma
use Rattle.lone_updater_law.proofs.laws.turns_act.Goals as goal

pub returns : goal.returns
returns c = lemma.turns_act
