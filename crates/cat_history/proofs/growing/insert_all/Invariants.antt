use Rattle.std.proofs.Common.{◌≡◌, drop, take, length}
use Rattle.std.specs.FinMap.{entries}
use Rattle.cat_history.specs.Maps.{map_of}
use Rattle.cat_history.proofs.growing.insert_all.Given as goal

-- the pairs behind those that are left are in the tree
abbrev pub invariant-loop-pair : goal.invariant-loop-pair
invariant-loop-pair l =
    record {
      left : l.pair-iterator.iter.rest.now ≡ take (length l.pair-iterator.iter.rest.now) l.pairs;
      in_tree : l.names.entries ≡ entries (map_of (drop (length l.pair-iterator.iter.rest.now) l.pairs));
    }
