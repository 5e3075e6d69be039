use Rattle.std.proofs.Common.{rules, ◌∙◌}
use Rattle.tree_row.specs.layer_map.proofs.KeyLemmas.{key_order}
use Rattle.tree_floor.proofs.words.is_at_most.Goals as goal

pub returns : goal.returns
returns c = c.le.ensures ∙ key_order c.args.low c.args.high (record { whole = search rules; fits = search rules }) (record { whole = search rules; fits = search rules })
