use Rattle.std.proofs.Common.{◌∙◌, ap}
use Rattle.cat_history.specs.Maps.{map_of}
use Rattle.cat_history.proofs.ReplayLemmas.{map_of-pairs_of}
use Rattle.image_rules.specs.Sound.{image_map}
use Rattle.image_pairs.proofs.pairs.image_pairs.Goals as goal

pub returns-clause-map : goal.returns-clause-map
returns-clause-map c =
    ap map_of (c.of.ensures ∙ c.in_ok-push_nodes.ensures) ∙ map_of-pairs_of (image_map c.args.image.now.layout c.args.image.now.words)
