use Rattle.recovery.proofs.opening.recover.Given as goal

-- the ledger of the steps is the blank one
abbrev pub ghosts-recover_on : goal.ghosts-recover_on
ghosts-recover_on a = record { name = a.blank.name; parts = a.blank.parts }
