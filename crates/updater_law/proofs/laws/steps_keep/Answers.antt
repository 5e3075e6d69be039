use Rattle.updater_law.proofs.TurnLaw.{turn_keeps}
use Rattle.updater_law.proofs.Others.{other_keeps}
use Rattle.updater_law.proofs.Crash.{layer_evicts}
use Rattle.updater_law.proofs.Traces.{traces_keep}
use Rattle.updater_law.proofs.laws.steps_keep.Goals as goal

pub returns : goal.returns
returns c = record { turn = turn_keeps; others = other_keeps; evictions = layer_evicts; traces = traces_keep }
