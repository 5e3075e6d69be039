use Rattle.pac_index.proofs.shared.Shared.try_at_pace.Given as goal

abbrev pub ghosts-run : goal.ghosts-run
ghosts-run g a = record { call = a.call; index = a.index }
