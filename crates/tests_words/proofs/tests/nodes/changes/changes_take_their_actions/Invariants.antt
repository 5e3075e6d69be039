use Rattle.tests_words.proofs.tests.nodes.changes.changes_take_their_actions.Given as goal

abbrev pub ghosts-taken : goal.ghosts-taken
ghosts-taken g a = record { name = a.blank.name; parts = a.blank.parts }
