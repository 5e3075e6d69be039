use Rattle.std.proofs.Common.{slice_index, ◌∙◌}
use Rattle.radix_nodes.specs.Making.{prefix_word}
use Rattle.radix_nodes.proofs.PairCells.{pairs_alike}
use Rattle.tree_update.proofs.setting.pair.Goals as goal

pub returns : goal.returns
returns c = c.paired.ensures.is ∙ pairs_alike c.args.depth (slice_index c.prefix_of.result) (prefix_word c.args.depth (slice_index c.args.key)) c.args.old c.args.new c.prefix_of.ensures.words
