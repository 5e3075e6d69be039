use Rattle.pac_index.proofs.shared.Shared.recheck_once.Given as goal

abbrev pub ghosts-run_recheck : goal.ghosts-run_recheck
ghosts-run_recheck a = record { node = a.node }
