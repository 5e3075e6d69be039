use Rattle.std.proofs.Common.{rules, slice_index, ◌∙◌}
use Rattle.tree_floor.proofs.KeyNumbers.{byte_is_of_number}
use Rattle.tree_floor.proofs.words.byte_of.Goals as goal

pub returns-clause-byte : goal.returns-clause-byte
returns-clause-byte c = c.key_byte.ensures ∙ byte_is_of_number (slice_index c.args.key) c.args.depth (search rules) c.requires
