use Rattle.std.proofs.Common.{◌≡◌, Some, get_or, set, sym, ap, ◌∙◌, arith}
use Rattle.std.proofs.lemmas.Bool.{false≢true}
use Rattle.std.specs.FinMap.{insert}
use Rattle.cat_key.specs.declared.Pair.{Pair}
use Rattle.cat_history.specs.Maps.{at, map_of}
use Rattle.cat_history.specs.Replays.{pairs_of}
use Rattle.cat_history.proofs.PairLemmas.{at-lacking}
use Rattle.shapes.specs.Anchors.{put_anchors}
use Rattle.member_map.specs.Members.{anchors_of}
use Rattle.member_map.proofs.OrderedPairs.{nameless, written-pairs, at-pair, many-pairs}
use Rattle.member_map.proofs.Keeping.{pairs-map, put-members, there-is-not-full, there-splits-none, room-for-one}
use Rattle.member_map.proofs.map.MemberMapNameMap.put.Goals.{After-index_mut, In-Some}
use Rattle.member_map.proofs.map.MemberMapNameMap.put.Goals as goal

-- ---- the name is there

has : (c : In-Some) (d : Pair) → at (map_of c.self.inside.pairs.items) c.args.name.now ≡ Some (get_or c.self.inside.pairs.items c.in-Some.position d).value
has c d =
    let within = rw c.deref.ensures.value at c.in-Some.ensures.within in
    let named = rw c.deref.ensures.value at c.in-Some.ensures.named in
    at-pair (map_of c.self.inside.pairs.items) c.self.inside.pairs.items c.in-Some.position c.args.name.now d c.self.invariant.0.in_order within (named nameless)

-- with another number in its pair the map has that
written : (c : In-Some) → set c.self.inside.pairs.items c.in-Some.position (record { name = c.args.name.now; value = c.args.value }) ≡ pairs_of (insert (map_of c.self.inside.pairs.items) c.args.name.now c.args.value)
written c =
    let within = rw c.deref.ensures.value at c.in-Some.ensures.within in
    let named = rw c.deref.ensures.value at c.in-Some.ensures.named in
    written-pairs (map_of c.self.inside.pairs.items) c.self.inside.pairs.items c.in-Some.position c.args.name.now c.args.value c.self.invariant.0.in_order within (named nameless)

name_is : (c : After-index_mut) → c.index_mut.result.now.name ≡ c.args.name.now
name_is c =
    let named = rw c.deref.ensures.value at c.in-Some.ensures.named in
    ap (λ (p : Pair). p.name) c.index_mut.ensures.value ∙ named c.index_mut.result.now

pub invariant_of-self : goal.invariant_of-self
invariant_of-self c =
    let slots = c.self.inside.slots in
    let pairs = c.self.inside.pairs.items in
    let bounds = c.self.inside.bounds.items in
    let at = goal.at.invariant_of-self c in
    let had = has at.In-Some nameless in (
      rw (name_is at.After-index_mut, c.replace-old.ensures.after)
          (put-members slots c.self.inside.nodes pairs _ bounds bounds c.args.name.now c.args.value c.self.invariant.0
          (there-is-not-full slots c.self.inside.nodes (map_of pairs) (anchors_of bounds) c.args.name.now _ had) (written at.In-Some)
          (sym (there-splits-none slots (map_of pairs) (anchors_of bounds) c.args.name.now _ had))),
      c.self.invariant.1,
    )

pub returns-in-Some-clause-old : goal.returns-in-Some-clause-old
returns-in-Some-clause-old c =
    ap Some (c.replace-old.ensures.value ∙ ap (λ (p : Pair). p.value) c.index_mut.ensures.value)
    ∙ sym (has (goal.at.returns-in-Some-clause-old c).In-Some c.index_mut.result.now)
    ∙ ap (λ m. at m.contents c.args.name.now) c.self.view_is

pub returns-in-Some-clause-ok : goal.returns-in-Some-clause-ok
returns-in-Some-clause-ok c =
    let name = c.args.name.now in
    rw (name_is (goal.at.returns-in-Some-clause-ok c).After-index_mut, c.replace-old.ensures.after)
    (pairs-map (insert (map_of c.self.inside.pairs.items) name c.args.value) _ (written (goal.at.returns-in-Some-clause-ok c).In-Some)
    ∙ ap (λ m. insert m.contents name c.args.value) c.self.view_is)

pub returns-in-Some-clause-splits : goal.returns-in-Some-clause-splits
returns-in-Some-clause-splits c =
    sym (there-splits-none c.self.inside.slots (map_of c.self.inside.pairs.items) (anchors_of c.self.inside.bounds.items) c.args.name.now _ (has (goal.at.returns-in-Some-clause-splits c).In-Some nameless))
    ∙ ap (λ m. put_anchors m.slots m.contents m.anchors c.args.name.now) c.self.view_is

pub returns-in-Some-clause-full : goal.returns-in-Some-clause-full
returns-in-Some-clause-full c =
    let now = c.args.self.now in
    let had = ap (λ m. at m.contents c.args.name.now) (sym c.self.view_is) ∙ has (goal.at.returns-in-Some-clause-full c).In-Some nameless in
    (λ e. absurd (false≢true e), λ full. absurd (there-is-not-full now.slots now.nodes now.contents now.anchors c.args.name.now _ had full))

-- ---- it isn't

pub split_target-requires-clause-lacks : goal.split_target-requires-clause-lacks
split_target-requires-clause-lacks c =
    rw c.deref-2.ensures.value (at-lacking c.self.inside.pairs.items c.args.name.now (rw c.deref.ensures.value at c.in_default.ensures.none))

pub insert_pair-requires-clause-lacks : goal.insert_pair-requires-clause-lacks
insert_pair-requires-clause-lacks c = at-lacking c.self.inside.pairs.items c.args.name.now (rw c.deref.ensures.value at c.in_default.ensures.none)

pub insert_pair-requires-clause-reserved : goal.insert_pair-requires-clause-reserved
insert_pair-requires-clause-reserved c =
    let pairs = c.self.inside.pairs in
    let was = c.self.invariant.0 in
    let lacks = at-lacking pairs.items c.args.name.now (rw c.deref.ensures.value at c.in_default.ensures.none) in
    let full = rw c.deref-2.ensures.value at c.split_target.ensures.full in
    let one = room-for-one c.self.inside.slots c.self.inside.nodes (map_of pairs.items) (anchors_of c.self.inside.bounds.items) c.args.name.now was.halves was.shape lacks
    (λ none. false≢true (sym (full.1 none) ∙ c.if-not-split_target.false)) in
    omega (arith, one, many-pairs (map_of pairs.items) pairs.items was.in_order, pairs.ok.0, c.self.invariant.1.for_pairs)

pub invariant_of-self-2 : goal.invariant_of-self-2
invariant_of-self-2 c =
    let full = rw c.deref-2.ensures.value at c.split_target.ensures.full in
    let splits = rw c.deref-2.ensures.value at c.split_target.ensures.splits in (
      put-members c.self.inside.slots c.self.inside.nodes c.self.inside.pairs.items c.insert_pair.new.pairs.items c.self.inside.bounds.items c.split_target.new.bounds.items
          c.args.name.now c.args.value c.self.invariant.0 (λ none. false≢true (sym (full.1 none) ∙ c.if-not-split_target.false)) c.insert_pair.ensures.items
          (splits c.if-not-split_target.false),
      rw (c.insert_pair.ensures.capacity, c.split_target.ensures.capacity) c.self.invariant.1,
    )

pub returns-clause-old : goal.returns-clause-old
returns-clause-old c =
    sym (ap (λ m. at m.contents c.args.name.now) (sym c.self.view_is)
    ∙ at-lacking c.self.inside.pairs.items c.args.name.now (rw c.deref.ensures.value at c.in_default.ensures.none))

pub returns-clause-ok : goal.returns-clause-ok
returns-clause-ok c =
    pairs-map (insert (map_of c.self.inside.pairs.items) c.args.name.now c.args.value) c.insert_pair.new.pairs.items c.insert_pair.ensures.items
    ∙ ap (λ m. insert m.contents c.args.name.now c.args.value) c.self.view_is
