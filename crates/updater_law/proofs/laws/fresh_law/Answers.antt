use Rattle.updater_law.proofs.Crash.{fresh_is_lawful}
use Rattle.updater_law.proofs.laws.fresh_law.Goals as goal

pub returns : goal.returns
returns c = fresh_is_lawful
