use Rattle.index_law.specs.Anchors.{anchors_in}
use Rattle.core_rounds.specs.index_core.specs.Indexes.{world}
use Rattle.core_crashes.proofs.round.crash_round.Given as goal

-- the ledger of the steps is a blank one
abbrev pub ghosts-stop_on_core-L-Ledger : goal.ghosts-stop_on_core-L-Ledger
ghosts-stop_on_core-L-Ledger a = record { name = a.blank.name; parts = a.blank.parts }

-- and the run is that of the core, with its members
abbrev pub ghosts-stop_on_core-K-CrashRun : goal.ghosts-stop_on_core-K-CrashRun
ghosts-stop_on_core-K-CrashRun a = record { layout = a.core.layout; generation = a.core.generation; anchors = anchors_in (world a.core) }
