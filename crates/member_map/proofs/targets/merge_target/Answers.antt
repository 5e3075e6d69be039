use Rattle.std.proofs.Common.{◌≡◌, ◌≤◌, ◌<◌, ◌/◌, Bool, true, [], length, slice_get, unwrap_or, is_some, sym, ap, ◌∙◌, arith}
use Rattle.cat_history.specs.Replays.{pairs_of}
use Rattle.shapes.specs.Anchors.{target_of, next_of, past}
use Rattle.member_map.specs.Members.{anchors_of}
use Rattle.member_map.proofs.BoundLemmas.{bound-removed, next-within, place_of}
use Rattle.member_map.proofs.OrderedPairs.{lying}
use Rattle.member_map.proofs.ShapeLemmas.{many-merge-none, few-merge}
use Rattle.member_map.proofs.targets.merge_target.Goals.{After-count_between, After-number_of-place}
use Rattle.member_map.proofs.targets.merge_target.Goals as goal

-- where the target and the next member begin and end
bounds_are : (c : After-count_between) → (unwrap_or c.target_bound-low.result [] ≡ target_of (anchors_of c.args.bounds.now.items) c.args.name.now) × (c.second_bound-high.result ≡ slice_get (past (anchors_of c.args.bounds.now.items) c.args.name.now) 1)
bounds_are c = (rw c.deref-2.ensures.value at c.target_bound-low.ensures, rw c.deref-3.ensures.value at c.second_bound-high.ensures)

-- both together have too many names
pub returns-then-count_between-slots-clause-merges : goal.returns-then-count_between-slots-clause-merges
returns-then-count_between-slots-clause-merges c =
    let anchors = anchors_of c.args.bounds.now.items in
    let pairs = c.args.pairs.now in
    let low = unwrap_or c.target_bound-low.result [] in
    let high = c.second_bound-high.result in
    let is = bounds_are (goal.at.returns-then-count_between-slots-clause-merges c).After-count_between in
    let more : c.args.slots / 2 < length (lying low high pairs) = omega (arith, c.count_between.ensures, c.if-count_between-slots.true) in
    λ m had after.
    sym (many-merge-none c.args.slots m anchors c.args.name.now low high pairs (c.requires.in_order ∙ ap pairs_of after) is.0 is.1 more)

-- there is a next member, and its bound goes
next_goes : (c : After-number_of-place) → (is_some (next_of (anchors_of c.args.bounds.now.items) c.args.name.now) ≡ true) × (c.number_of-place.result ≡ place_of c.args.bounds.now.items c.args.name.now)
next_goes c = (ap {B = Bool} is_some (sym (rw c.deref.ensures.value at c.next_bound.ensures)) ∙ c.if-is_none.ensures, rw c.deref-4.ensures.value at c.number_of-place.ensures.number)

pub remove-requires : goal.remove-requires
remove-requires c =
    let bounds = c.args.bounds.now in
    let goes = next_goes (goal.at.remove-requires c).After-number_of-place in
    let place = goes.1 in
    omega (arith, place, next-within bounds.items c.args.name.now c.requires.rise goes.0, bounds.ok.0)

pub returns-clause-merges : goal.returns-clause-merges
returns-clause-merges c =
    let bounds = c.args.bounds.now.items in
    let name = c.args.name.now in
    let pairs = c.args.pairs.now in
    let at = goal.at.returns-clause-merges c in
    let is = bounds_are at.After-count_between in
    let goes = next_goes at.After-number_of-place in
    let few : length (lying (unwrap_or c.target_bound-low.result []) c.second_bound-high.result pairs) ≤ c.args.slots / 2 =
    omega (arith, c.count_between.ensures, c.if-count_between-slots.false) in
    λ m had after.
    ap anchors_of (rw goes.1 at c.remove.ensures.items)
    ∙ bound-removed bounds name c.requires.rise
    ∙ sym (few-merge c.args.slots m (anchors_of bounds) name _ _ pairs (c.requires.in_order ∙ ap pairs_of after) is.0 is.1 had goes.0 few)
