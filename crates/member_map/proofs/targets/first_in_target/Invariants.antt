use Rattle.std.proofs.Common.{◌≡◌, ◌<◌, ◌^◌, All, take}
use Rattle.cat_key.specs.Names.{IsName}
use Rattle.cat_key.specs.declared.Pair.{Pair}
use Rattle.member_map.proofs.OrderedPairs.{lying}
use Rattle.member_map.proofs.targets.first_in_target.Given as goal

-- what is listed is the first of the pairs so far
abbrev pub invariant-loop-pair : goal.invariant-loop-pair
invariant-loop-pair l =
    record {
      first : l.first.items ≡ take l.count (lying l.low l.high (take l.pair-index l.pairs));
      named : All (λ (pair : Pair). IsName pair.name × (pair.value < 2 ^ 64)) l.first.items;
    }
