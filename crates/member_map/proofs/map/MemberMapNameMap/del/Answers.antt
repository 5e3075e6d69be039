use Rattle.std.proofs.Common.{◌≡◌, ◌<◌, Some, None, is_some, Bool, length, get_or, sym, ap, ◌∙◌}
use Rattle.std.specs.FinMap.{remove}
use Rattle.cat_key.specs.declared.Pair.{Pair}
use Rattle.cat_history.specs.Maps.{at, map_of}
use Rattle.cat_history.specs.Replays.{pairs_of}
use Rattle.cat_history.proofs.PairLemmas.{at-lacking}
use Rattle.shapes.specs.Anchors.{del_anchors}
use Rattle.shapes.proofs.PlainMapLemmas.{removed-lacking}
use Rattle.member_map.proofs.OrderedPairs.{nameless, removed-pairs, at-pair}
use Rattle.member_map.proofs.Keeping.{pairs-map, pairs-in-order, del-members, lacking-merges-none}
use Rattle.member_map.proofs.map.MemberMapNameMap.del.Goals.{After-remove-old, In_err-position, In_ok-position}
use Rattle.member_map.proofs.map.MemberMapNameMap.del.Goals as goal

-- ---- the name isn't there

lacks : (c : In_err-position) → at (map_of c.self.inside.pairs.items) c.args.name.now ≡ None
lacks c = at-lacking c.self.inside.pairs.items c.args.name.now (rw c.deref.ensures.value at c.in_err-position.ensures.none)

pub returns-in_err-position-clause-old : goal.returns-in_err-position-clause-old
returns-in_err-position-clause-old c = c.from_residual.ensures ∙ sym (lacks (goal.at.returns-in_err-position-clause-old c).In_err-position) ∙ ap (λ m. at m.contents c.args.name.now) c.self.view_is

pub returns-in_err-position-clause-after : goal.returns-in_err-position-clause-after
returns-in_err-position-clause-after c =
    sym (removed-lacking c.args.self.now.contents c.args.name.now
    (ap (λ m. at m.contents c.args.name.now) (sym c.self.view_is) ∙ lacks (goal.at.returns-in_err-position-clause-after c).In_err-position))

pub returns-in_err-position-clause-anchors : goal.returns-in_err-position-clause-anchors
returns-in_err-position-clause-anchors c =
    let now = c.args.self.now in
    sym (lacking-merges-none now.slots now.contents now.anchors c.args.name.now
    (ap (λ m. at m.contents c.args.name.now) (sym c.self.view_is) ∙ lacks (goal.at.returns-in_err-position-clause-anchors c).In_err-position))

-- ---- it is

-- the pair at its position has it
there : (c : In_ok-position) → (c.in_ok-position.position < length c.self.inside.pairs.items) × ((get_or c.self.inside.pairs.items c.in_ok-position.position nameless).name ≡ c.args.name.now)
there c = (rw c.deref.ensures.value at c.in_ok-position.ensures.within, (rw c.deref.ensures.value at c.in_ok-position.ensures.named) nameless)

has : (c : In_ok-position) (d : Pair) → at (map_of c.self.inside.pairs.items) c.args.name.now ≡ Some (get_or c.self.inside.pairs.items c.in_ok-position.position d).value
has c d =
    let is = there c in
    at-pair (map_of c.self.inside.pairs.items) c.self.inside.pairs.items c.in_ok-position.position c.args.name.now d c.self.invariant.0.in_order is.0 is.1

-- without it the others are left
left : (c : After-remove-old) → c.remove-old.new.self.items ≡ pairs_of (remove (map_of c.self.inside.pairs.items) c.args.name.now)
left c =
    let pairs = c.self.inside.pairs.items in
    let within = rw c.deref.ensures.value at c.in_ok-position.ensures.within in
    let named = rw c.deref.ensures.value at c.in_ok-position.ensures.named in
    c.remove-old.ensures.items ∙ removed-pairs (map_of pairs) pairs c.in_ok-position.position c.args.name.now c.self.invariant.0.in_order within (named nameless)

pub merge_target-requires-clause-in_order : goal.merge_target-requires-clause-in_order
merge_target-requires-clause-in_order c =
    rw c.deref-2.ensures.value
    (pairs-in-order (remove (map_of c.self.inside.pairs.items) c.args.name.now) c.remove-old.new.self.items (left (goal.at.merge_target-requires-clause-in_order c).After-remove-old))

pub invariant_of-self : goal.invariant_of-self
invariant_of-self c =
    let pairs = c.self.inside.pairs.items in
    let rest = left (goal.at.invariant_of-self c).After-remove-old in
    let had = ap {B = Bool} is_some (has (goal.at.invariant_of-self c).In_ok-position nameless) in
    let kept = ap map_of c.deref-2.ensures.value ∙ pairs-map (remove (map_of pairs) c.args.name.now) c.remove-old.new.self.items rest in (
      del-members c.self.inside.slots c.self.inside.nodes pairs c.remove-old.new.self.items c.self.inside.bounds.items c.merge_target.new.bounds.items c.args.name.now
          c.self.invariant.0 rest (c.merge_target.ensures.merges (map_of pairs) had kept),
      rw (c.remove-old.ensures.capacity, c.merge_target.ensures.capacity) c.self.invariant.1,
    )

pub returns-clause-old : goal.returns-clause-old
returns-clause-old c =
    ap (λ (p : Pair). Some p.value) c.remove-old.ensures.value ∙ sym (has (goal.at.returns-clause-old c).In_ok-position c.remove-old.result)
    ∙ ap (λ m. at m.contents c.args.name.now) c.self.view_is

pub returns-clause-after : goal.returns-clause-after
returns-clause-after c =
    pairs-map (remove (map_of c.self.inside.pairs.items) c.args.name.now) c.remove-old.new.self.items (left (goal.at.returns-clause-after c).After-remove-old)
    ∙ ap (λ m. remove m.contents c.args.name.now) c.self.view_is

pub returns-clause-anchors : goal.returns-clause-anchors
returns-clause-anchors c =
    let m = map_of c.self.inside.pairs.items in
    let name = c.args.name.now in
    let had = ap {B = Bool} is_some (has (goal.at.returns-clause-anchors c).In_ok-position nameless) in
    c.merge_target.ensures.merges m had
    (ap map_of c.deref-2.ensures.value ∙ pairs-map (remove m name) c.remove-old.new.self.items (left (goal.at.returns-clause-anchors c).After-remove-old))
    ∙ ap (λ m. del_anchors m.slots m.contents m.anchors name) c.self.view_is
