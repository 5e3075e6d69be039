use Rattle.std.proofs.Common.{◌<◌}
use Rattle.image_pairs.proofs.PairWalks.{TakesPairs}
use Rattle.image_pairs.proofs.pairs.push_nodes.Given as goal

abbrev pub invariant-loop-position : goal.invariant-loop-position
invariant-loop-position l = record {
  here : l.node < l.image.layout.nodes;
  takes : TakesPairs l.image.layout l.image.words l._position l.node l.pairs.items;
}
