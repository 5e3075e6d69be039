use Rattle.index_core.proofs.Crashing.{evict_keeps}
use Rattle.index_core.proofs.CrashLaws.{chosen_keep, chosen_weighs}
use Rattle.index_core.proofs.laws.evict_law.Goals as goal

pub returns : goal.returns
returns c = record { keeps = λ s word is within. evict_keeps s word is within; chosen = chosen_keep; weighs = chosen_weighs }
