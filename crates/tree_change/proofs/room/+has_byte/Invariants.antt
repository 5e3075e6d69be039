use Rattle.tree_change.proofs.room.+has_byte.Given as goal

-- proposed from what the function passes where it calls itself
abbrev pub decreases-has_byte : goal.decreases-has_byte
decreases-has_byte l = l.limit
