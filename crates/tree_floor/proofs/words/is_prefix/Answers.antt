use Rattle.std.proofs.Common.{rules, ◌==◌, slice_index, ap, ◌∙◌}
use Rattle.tree_row.specs.layer_map.specs.Keys.{key_number}
use Rattle.tree_floor.proofs.KeyNumbers.{prefix_is_of_number}
use Rattle.tree_floor.proofs.words.is_prefix.Goals as goal

pub returns : goal.returns
returns c = c.is_same.ensures
    ∙ ap (λ n. n == key_number c.args.prefix) (prefix_is_of_number c.args.depth (slice_index c.args.key) (slice_index c.prefix_of.result) (search rules) (search rules) c.requires c.prefix_of.ensures.prefix)
