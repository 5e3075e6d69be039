use Rattle.thread_trial.proofs.alone.filled.Given as goal

-- the ledger of the steps is the blank one
abbrev pub ghosts-fill : goal.ghosts-fill
ghosts-fill a = record { name = a.blank.name; parts = a.blank.parts }
