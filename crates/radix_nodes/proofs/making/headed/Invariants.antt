use Rattle.std.proofs.Common.{◌≡◌, slice_index}
use Rattle.radix_nodes.specs.Making.{headed_words}
use Rattle.radix_nodes.proofs.making.headed.Given as goal

abbrev pub invariant-loop-at : goal.invariant-loop-at
invariant-loop-at l = l.words ≡ headed_words l.depth (slice_index l.prefix) l.at
