use Rattle.core_rounds.proofs.playing.play_lone.Given as goal

-- the ledger of the steps is a blank one
abbrev pub ghosts-play_on_core-L-Ledger : goal.ghosts-play_on_core-L-Ledger
ghosts-play_on_core-L-Ledger a = record { name = a.blank.name; parts = a.blank.parts }

-- and the run is that of the core
abbrev pub ghosts-play_on_core-K-RunOf : goal.ghosts-play_on_core-K-RunOf
ghosts-play_on_core-K-RunOf a = record { layout = a.core.layout; generation = a.core.generation }
