use Rattle.std.proofs.Common.{◌≡◌, ◌≤◌, ◌<◌, ◌/◌, ◌+◌, [], length, get_or, unwrap_or, refl, sym, ap, ◌∙◌, arith}
use Rattle.std.proofs.lemmas.Bool.{false≢true}
use Rattle.cat_history.specs.Maps.{map_of}
use Rattle.shapes.specs.Anchors.{target_of, next_of, IsFullPut}
use Rattle.member_map.specs.Members.{anchors_of}
use Rattle.member_map.proofs.BoundLemmas.{bound-inserted, place_of}
use Rattle.member_map.proofs.OrderedPairs.{lying, nameless}
use Rattle.member_map.proofs.ShapeLemmas.{below_low, room-splits-none, room-is-not-full, whole-target, whole-splits, middle-within}
use Rattle.member_map.proofs.targets.split_target.Goals.{After-count_between, Then-count_between-slots}
use Rattle.member_map.proofs.targets.split_target.Goals as goal

-- where the target begins and ends
bounds_are : (c : After-count_between) → (unwrap_or c.target_bound-low.result [] ≡ target_of (anchors_of c.args.bounds.now.items) c.args.name.now) × (c.next_bound-high.result ≡ next_of (anchors_of c.args.bounds.now.items) c.args.name.now)
bounds_are c = (rw c.deref.ensures.value at c.target_bound-low.ensures, rw c.deref-2.ensures.value at c.next_bound-high.ensures)

few_lie : (c : Then-count_between-slots) → length (lying (unwrap_or c.target_bound-low.result []) c.next_bound-high.result c.args.pairs.now) < c.args.slots
few_lie c = omega (arith, c.count_between.ensures, c.if-count_between-slots.true)

-- a target with room isn't full, and stays whole
pub returns-then-count_between-slots-clause-full : goal.returns-then-count_between-slots-clause-full
returns-then-count_between-slots-clause-full c =
    let at = goal.at.returns-then-count_between-slots-clause-full c in
    let is = bounds_are at.After-count_between in (
      λ is. absurd (false≢true (sym is)),
      λ full. absurd (room-is-not-full c.args.slots (map_of c.args.pairs.now) (anchors_of c.args.bounds.now.items) c.args.name.now _ _ c.args.pairs.now c.requires.members.in_order is.0 is.1 c.args.nodes (few_lie at.Then-count_between-slots) full),
    )

pub returns-then-count_between-slots-clause-splits : goal.returns-then-count_between-slots-clause-splits
returns-then-count_between-slots-clause-splits c =
    let at = goal.at.returns-then-count_between-slots-clause-splits c in
    let is = bounds_are at.After-count_between in
    λ _. sym (room-splits-none c.args.slots (map_of c.args.pairs.now) (anchors_of c.args.bounds.now.items) c.args.name.now _ _ c.args.pairs.now c.requires.members.in_order is.0 is.1 (few_lie at.Then-count_between-slots))

-- one without room is full where there can be no more members
pub returns-then-len-nodes-clause-full : goal.returns-then-len-nodes-clause-full
returns-then-len-nodes-clause-full c =
    let bounds = c.args.bounds.now in
    let anchors = anchors_of bounds.items in
    let pairs = c.args.pairs.now in
    let low = unwrap_or c.target_bound-low.result [] in
    let high = c.next_bound-high.result in
    let is = bounds_are (goal.at.returns-then-len-nodes-clause-full c).After-count_between in
    let whole : c.args.slots ≤ length (lying low high pairs) = omega (arith, c.count_between.ensures, c.if-count_between-slots.false) in
    let all : length anchors ≡ c.args.nodes = omega (arith, bounds.ok.0, c.len.ensures, c.if-len-nodes.true) in
    let full : IsFullPut c.args.slots c.args.nodes (map_of pairs) anchors c.args.name.now =
    record {
      lacks = c.requires.lacks;
      whole = whole-target c.args.slots (map_of pairs) anchors c.args.name.now low high pairs c.requires.members.in_order is.0 is.1 whole;
      no_node = all;
    } in
    (λ _. full, λ _. refl)

-- and else it is split at its middle
pub name_behind-middle-requires : goal.name_behind-middle-requires
name_behind-middle-requires c =
    middle-within (map_of c.args.pairs.now) (unwrap_or c.target_bound-low.result []) c.next_bound-high.result c.args.pairs.now _ c.requires.members.in_order
    (omega (arith, c.count_between.ensures, c.if-count_between-slots.false, c.requires.members.halves))

pub returns-clause-splits : goal.returns-clause-splits
returns-clause-splits c =
    let bounds = c.args.bounds.now.items in
    let name = c.args.name.now in
    let pairs = c.args.pairs.now in
    let low = unwrap_or c.target_bound-low.result [] in
    let high = c.next_bound-high.result in
    let is = bounds_are (goal.at.returns-clause-splits c).After-count_between in
    let whole : c.args.slots ≤ length (lying low high pairs) = omega (arith, c.count_between.ensures, c.if-count_between-slots.false) in
    let middle : c.name_behind-middle.result ≡ (get_or pairs (below_low low pairs + c.args.slots / 2) nameless).name = c.name_behind-middle.ensures nameless in
    let place : c.number_of-place.result ≡ place_of bounds name = rw c.deref-3.ensures.value at c.number_of-place.ensures.number in
    λ _. ap anchors_of (rw (place, middle) at c.insert_bound.ensures.items)
    ∙ bound-inserted bounds name (get_or pairs (below_low low pairs + c.args.slots / 2) nameless).name c.requires.members.shape.ordered
    ∙ sym (whole-splits c.args.slots (map_of pairs) (anchors_of bounds) name low high pairs c.requires.members.in_order is.0 is.1 c.requires.lacks whole c.requires.members.halves)
