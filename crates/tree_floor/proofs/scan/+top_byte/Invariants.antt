use Rattle.tree_floor.proofs.scan.+top_byte.Given as goal

-- proposed from what the function passes where it calls itself
abbrev pub decreases-top_byte : goal.decreases-top_byte
decreases-top_byte l = l.limit
