use Rattle.std.proofs.Common.{◌≡◌, ◌<◌, ◌^◌, All, not, take}
use Rattle.std.specs.List.{filter}
use Rattle.cat_key.specs.Names.{IsName}
use Rattle.cat_key.specs.declared.Pair.{Pair}
use Rattle.cat_history.specs.Scans.{is_below}
use Rattle.shapes.proofs.plain.first_from.Given as goal

-- what is listed is the first of the pairs so far
abbrev pub invariant-loop-pair : goal.invariant-loop-pair
invariant-loop-pair l =
    record {
      first : l.first.items ≡ take l.count (filter (λ (pair : Pair). not (is_below pair.name l.low)) (take l.pair-index l.pairs));
      named : All (λ (pair : Pair). IsName pair.name × (pair.value < 2 ^ 64)) l.first.items;
    }
