use Rattle.image_layer_rules.proofs.RightLemmas.{rule_on_tree}
use Rattle.image_layer_rules.proofs.CountLemmas.{rule_on_count}
use Rattle.image_layer_rules.proofs.CoverLaw.{rule_on_cover, cover_tells_keys}
use Rattle.image_layer_rules.proofs.laws.tree_law.Goals as goal

pub returns : goal.returns
returns c = record { order = rule_on_tree; count = rule_on_count; cover = rule_on_cover; keys = cover_tells_keys }
