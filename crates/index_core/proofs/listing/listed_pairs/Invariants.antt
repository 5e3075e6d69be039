use Rattle.std.proofs.Common.{◌≡◌, ◌<◌, ◌≤◌, ◌^◌, All, length, map, take, vec_len}
use Rattle.std.specs.Vec.{vec_capacity}
use Rattle.cat_key.specs.Names.{IsName}
use Rattle.cat_key.specs.declared.Pair.{Pair}
use Rattle.node_ops.specs.Parts.{pair_of}
use Rattle.index_core.proofs.listing.listed_pairs.Given as goal

-- the pairs so far are those of the entries so far
abbrev pub invariant-loop-entry : goal.invariant-loop-entry
invariant-loop-entry l =
    record {
      pairs : l.pairs.items ≡ map pair_of (take l.entry-index l.entries);
      named : All (λ (pair : Pair). IsName pair.name × (pair.value < 2 ^ 64)) l.pairs.items;
      made : vec_len l.pairs ≡ l.entry-index;
      reserved : length l.entries ≤ vec_capacity l.pairs;
    }
