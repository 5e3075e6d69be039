use Rattle.tests_core.proofs.tests.calls.alone.Given as goal

abbrev pub ghosts-alone_on : goal.ghosts-alone_on
ghosts-alone_on a = record { name = a.blank.name; parts = a.blank.parts }
