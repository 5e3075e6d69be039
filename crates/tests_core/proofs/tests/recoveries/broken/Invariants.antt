use Rattle.tests_core.proofs.tests.recoveries.broken.Given as goal

abbrev pub ghosts-broken_on : goal.ghosts-broken_on
ghosts-broken_on a = record { name = a.blank.name; parts = a.blank.parts }
