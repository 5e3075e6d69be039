use Rattle.updater_law.proofs.Crash.{freed_are_released, stamp_was_released}
use Rattle.updater_law.proofs.Others.{others_free_none}
use Rattle.updater_law.proofs.Traces.{freed_were_stamped}
use Rattle.updater_law.proofs.laws.freed_law.Goals as goal

pub returns : goal.returns
returns c = record { turn = freed_are_released; stamp = stamp_was_released; others = others_free_none; traces = freed_were_stamped }
