use Rattle.std.proofs.Common.{◌∙◌, ◌≡◌, length}
use Rattle.std.specs.List.{filter}
use Rattle.cat_key.specs.declared.Pair.{Pair}
use Rattle.cat_history.specs.Maps.{map_of}
use Rattle.shapes.specs.Anchors.{below}
use Rattle.member_map.proofs.OrderedPairs.{inserted-pairs}
use Rattle.member_map.proofs.pairs.insert_pair.Goals as goal

pub returns-clause-items : goal.returns-clause-items
returns-clause-items c =
    let items = c.args.pairs.now.items in
    let name = c.args.name.now in
    let place : c.count_below-place.result ≡ length (filter (λ (pair : Pair). below pair.name name) items) = rw c.deref.ensures.value at c.count_below-place.ensures.many in
    c.insert_pair_at.ensures.items ∙ inserted-pairs (map_of items) items c.count_below-place.result name c.args.value c.requires.in_order c.requires.lacks place
