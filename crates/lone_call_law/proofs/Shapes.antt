-- The tries of a lone put, and the shape.
use Rattle.std.proofs.Common.{◌≡◌, ℕ, true, List, length, refl, sym, ap, ◌∙◌, subst, arith}
use Rattle.std.specs.Prelude.{Some}
use Rattle.std.proofs.lemmas.Bool.{eq-eqb}
use Rattle.cat_key.specs.Names.{IsName}
use Rattle.cat_history.specs.Maps.{Map, at}
use Rattle.cat_history.specs.declared.op.NameOp.TheVariants.{Put}
use Rattle.shapes.specs.Anchors.{Anchors, names_at, put_anchors, splits}
use Rattle.shapes.specs.Weights.{IsShape}
use Rattle.data_node.specs.Spots.{Means}
use Rattle.data_node.specs.Lists.{key_of}
use Rattle.data_node.proofs.ListLemmas.{target_in}
use Rattle.data_node.proofs.RangeNames.{range_names}
use Rattle.pm_words.specs.declared.layout.Layout.{Layout}
use Rattle.index_law.specs.Facts.{map_now, range_of, IsListed}
use Rattle.index_law.specs.Worlds.{World, facts}
use Rattle.index_law.specs.Laws.{IsAtRest}
use Rattle.index_law.specs.Lawful.{IsList}
use Rattle.index_law.specs.Shapes.{IsHalved}
use Rattle.index_law.specs.Anchors.{anchors_of, anchors_in, members_most}
use Rattle.index_law.proofs.Cutting.{range-names, cuts_member}
use Rattle.index_law.proofs.Holding.{idle_has_shape}
use Rattle.index_law.proofs.LoneCuts.{switch_is_put, no_switch_is_put}
use Rattle.index_law.proofs.Sizes.{nodes_are_counted, no_free_is_each, free_is_room}
use Rattle.index_law.proofs.Starts.{rest_law}
use Rattle.lone_call_law.specs.Rooms.{target_node, target_names}
use Rattle.lone_call_law.specs.Shapes.{RoomIsNoSplit, CutIsSplit, FullIsNoRoom, NoRoomIsFull}
use Rattle.lone_call_law.proofs.Rooms.{names_most}

module _ (w : World) (name : List ℕ) (rest : IsAtRest w) (named : IsName name) where
  abbrev n : ℕ
  n = target_node w name

  inside : range_of w.layout (facts w) n name ≡ true
  inside = eq-eqb n n refl

  listed : IsListed (facts w) n
  listed = target_in 0 (facts w).list (key_of name)

  means : Means w.layout.slots (range_of w.layout (facts w) n) ((facts w).now n) (map_now (facts w))
  means = (rest.settled n listed).means

  -- the target has as many names as the member
  member_names : target_names w name ≡ length (names_at (map_now (facts w)) (anchors_in w) name)
  member_names =
      range_names w.layout.slots (range_of w.layout (facts w) n) ((facts w).now n) (map_now (facts w)) means rest.named
      ∙ ap length (range-names w.layout (facts w) rest.list rest.named n name named inside)

pub room_is_no_split : RoomIsNoSplit
room_is_no_split w name rest named why =
    no_switch_is_put w.layout (facts w) name (target_node w name) rest.list rest.named named (inside w name rest named) (means w name rest named) why

pub full_is_no_room : FullIsNoRoom
full_is_no_room w name value rest named lacks full none =
    let lawful = rest_law w rest in
    let same = member_names w name rest named in
    record {
      lacks = lacks;
      whole = omega arith;
      no_node = (nodes_are_counted w lawful).all (no_free_is_each w lawful rest.idle none);
    }

pub no_room_is_full : NoRoomIsFull
no_room_is_full w name value rest named finds =
    let same = member_names w name rest named in
    let whole = finds.whole in
    let most = names_most w.layout.slots (range_of w.layout (facts w) (target_node w name)) ((facts w).now (target_node w name)) in
    (finds.lacks, omega arith, λ k below free. free_is_room w (Put name value) k (rest_law w rest) below free finds)

-- the switch was made while the map was as before
pub cut_is_split : CutIsSplit
cut_is_split w0 w name rest0 layout named cut =
    let l = w0.layout in
    let f = cut.before in
    let slots = rest0.row.layout.slots in
    let halved : IsHalved l f (facts w).list = subst (λ (k : Layout). IsHalved k f (facts w).list) layout cut.halved in
    let chain : IsList l f = subst (λ (k : Layout). IsList k f) layout cut.chain in
    let names : (other : List ℕ) (value : ℕ) → at (map_now f) other ≡ Some value → IsName other =
    λ other value is. rest0.named other value (ap (λ (m : Map). at m other) (sym cut.map) ∙ is) in
    let member = cuts_member l f (facts w) (omega arith) chain names halved in
    let anchors : anchors_of f.list ≡ anchors_in w0 = ap anchors_of cut.list in
    let shape : IsShape l.slots (members_most w0) (map_now f) (anchors_of f.list) =
    subst (λ (q : Map × Anchors). IsShape l.slots (members_most w0) q.0 q.1) (λ k. (sym cut.map k, sym anchors k)) (idle_has_shape w0 (rest_law w0 rest0) rest0.idle).0 in
    let inside : range_of l f member.0.node name ≡ true =
    subst (λ (n : ℕ). range_of l f n name ≡ true) (sym member.1) (subst (λ (k : Layout). range_of k f cut.halved.node name ≡ true) layout cut.inside) in
    let put = switch_is_put l (members_most w0) f (anchors_of (facts w).list) name member.0 chain shape slots.0 slots.2 named inside cut.lacks in (
      (λ k. splits l.slots (sym cut.map k) (sym anchors k) name) ∙ put.0,
      put.1 ∙ (λ k. put_anchors l.slots (cut.map k) (anchors k) name),
    )
