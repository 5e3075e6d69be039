-- What a try of a lone call, wherever it stands, knows of the index as it began.
use Rattle.std.proofs.Common.{◌≡◌, ◌≢◌, ℕ, ◌+◌, ◌/◌, ◌<◌, ◌⊎◌, inr, ⊎_elim, not, ◌||◌, Bool, true, false, List, [], ◌∷◌, ◌++◌, length, refl, sym, ap, ◌∙◌, subst, arith, eqb-true}
use Rattle.std.proofs.lemmas.Bool.{and_parts, leb-true}
use Rattle.std.proofs.lemmas.List.{length-append}
use Rattle.std.specs.Prelude.{◌&&◌, nat_le, is_some, IsSome, Option, Some, None, IfSome, slice_get}
use Rattle.std.specs.FinMap.{remove}
use Rattle.cat_key.specs.Names.{IsName}
use Rattle.cat_history.specs.Maps.{Map, at}
use Rattle.cat_history.specs.Writes.{after_all}
use Rattle.cat_history.specs.declared.op.Change.{Change}
use Rattle.cat_history.specs.declared.op.Change.TheVariants.{Del as Deletes}
use Rattle.shapes.specs.Anchors.{below, Anchors, AreAnchors, AnchorsRise, names_between, names_at, past, target_of, next_of, merges}
use Rattle.shapes.specs.Members.{is_among, without_name}
use Rattle.shapes.proofs.Keys.{rise-between, del-between}
use Rattle.shapes.proofs.NameLists.{all_by, filter-keeps, filter-drops, filter-all}
use Rattle.shapes.proofs.Orders.{same, true_or_false, clash, not_back, same-is, below-differs}
use Rattle.shapes.proofs.Targets.{part, names_at-is, has-name, names-joined}
use Rattle.pm_words.specs.Offsets.{bitmap_offset, next_offset}
use Rattle.data_node.specs.Slots.{AreAllLive}
use Rattle.data_node.specs.Spots.{Spot}
use Rattle.data_node.specs.Lists.{ListNode, target_from, key_of, IsMember, IsIn, IsChain}
use Rattle.data_node.proofs.RangeNames.{range_names}
use Rattle.call_stages.specs.Stages.{Held, Grip, Holds, Meets, placed_in}
use Rattle.index_law.specs.Facts.{map_now, range_of, IsListed}
use Rattle.index_law.specs.Worlds.{Party, World, facts, written}
use Rattle.index_law.specs.Lawful.{IsList, IsSettled, Sure, SureHolds, SureMeets, map_before}
use Rattle.index_law.specs.Laws.{IsAtRest}
use Rattle.index_law.specs.Anchors.{anchors_of, anchors_in}
use Rattle.index_law.specs.LoneShapes.{has_merged, live_in}
use Rattle.index_law.proofs.Anchored.{list_has_anchors}
use Rattle.index_law.proofs.Cutting.{range-names}
use Rattle.index_law.proofs.Dropping.{neighbour, no_next, has_next}
use Rattle.index_law.proofs.LoneCuts.{no_switch_is_delete}
use Rattle.index_law.proofs.Maps.{after_all-push}
use Rattle.index_law.proofs.Meeting.{names_live, meets_crowded}
use Rattle.index_law.proofs.Own.{clean_means}
use Rattle.index_law.proofs.Switch.{inside_listed}
use Rattle.lone_call_law.specs.Merging.{next_node, ShapeMerges, TriesMerge}
use Rattle.lone_call_law.specs.Rooms.{target_names}
use Rattle.lone_call_law.specs.Tries.{is_cut, HasDeleted, HasShape, is_same, was_cut, was_joined, Trying}
use Rattle.lone_call_law.proofs.Rooms.{target_was_full}

pub both : {b : Bool} → b ≡ true → b ≡ false → ⊥
both is not = let no : true ≡ false = sym is ∙ not in cc

-- a list says where its nodes lead
same_next : (now now' : ℕ → Spot) (here : ℕ) (list : List ListNode) → IsChain now here list → IsChain now' here list → (n : ℕ) → (n ≡ here) ⊎ IsMember list n → now n next_offset ≡ now' n next_offset
same_next now now' here [] chain chain' n among =
    ⊎_elim (λ (e : n ≡ here). ap (λ k. now k next_offset) e ∙ chain ∙ sym chain' ∙ ap (λ k. now' k next_offset) (sym e)) (λ no. absurd no) among
same_next now now' here (m ∷ behind) chain chain' n among = ⊎_elim
    (λ (e : n ≡ here). ap (λ k. now k next_offset) e ∙ chain.0 ∙ sym chain'.0 ∙ ap (λ k. now' k next_offset) (sym e))
    (λ later. same_next now now' m.node behind chain.3 chain'.3 n later)
    among

-- ---- what a delete leaves of the names of its target

-- without one of them they are one fewer
without-one : (name : List ℕ) (names : List (List ℕ)) → AnchorsRise names → is_among name names ≡ true → length (without_name name names) + 1 ≡ length names
without-one name [] rise among = clash among refl
without-one name (x ∷ xs) rise among = ⊎_elim
    (λ (here : same name x ≡ true).
    let rest = filter-all (λ y. not (same name y)) xs
    (all_by (λ y. below x y ≡ true) (λ y. not (same name y) ≡ true) (λ y above. ap not (below-differs name y (subst (λ k. below k y ≡ true) (sym (same-is name x here)) above))) xs rise.0) in
    let size = ap length (filter-drops (λ y. not (same name y)) x xs (ap not here) ∙ rest) in
    omega arith)
    (λ (other : same name x ≡ false).
    let first = ap length (filter-keeps (λ y. not (same name y)) x xs (ap not other)) in
    let rest = without-one name xs rise.1 (sym (ap (λ b. b || is_among name xs) other) ∙ among) in
    omega arith)
    (true_or_false (same name x))

left-at : (m : Map) (anchors : Anchors) (name : List ℕ) → AreAnchors anchors → IsSome (at m name) → length (names_at (remove m name) anchors name) + 1 ≡ length (names_at m anchors name)
left-at m anchors name are has =
    let p = part anchors name are in
    let high : Option (List ℕ) = slice_get p.after 0 in
    let less = without-one name (names_between m p.low high) (rise-between m p.low high) (has-name m anchors name p ∙ has) in
    let before = ap length (names_at-is m anchors name p) in
    let after = ap length (names_at-is (remove m name) anchors name p ∙ del-between m p.low high name) in
    omega arith

some_of : (o : Option (List ℕ)) → is_some o ≡ true → (x : List ℕ) × (o ≡ Some x)
some_of None is = clash is refl
some_of (Some x) is = (x, refl)

-- where the shape merges, a merge is tried
pub shape_tries : (w : World) (name : List ℕ) → IsList w.layout (facts w) → ShapeMerges w name → TriesMerge w name
shape_tries w name list shape =
    let m : Map = remove (map_now (facts w)) name in
    let a : Anchors = anchors_in w in
    let low : List ℕ = target_of a name in
    let high : Option (List ℕ) = slice_get (past a name) 1 in
    let has = and_parts (is_some (at (map_now (facts w)) name)) (is_some (next_of a name) && nat_le (length (names_between m low high)) (w.layout.slots / 2)) shape in
    let both_few = and_parts (is_some (next_of a name)) (nat_le (length (names_between m low high)) (w.layout.slots / 2)) has.1 in
    let few = leb-true (length (names_between m low high)) (w.layout.slots / 2) both_few.1 in
    let next = some_of (next_of a name) both_few.0 in
    let beside = neighbour a name next.0 (list_has_anchors w.layout (facts w) list) next.1 in
    let whole = ap length (names-joined low next.0 high (not_back low next.0 beside.above) beside.under m) in
    let size = length-append (names_between m low (Some next.0)) (names_between m next.0 high) in
    let first = ap (λ (o : Option (List ℕ)). length (names_between m low o)) next.1 in
    ((has.0, omega arith), both_few.0)

module _ (name : List ℕ) (own : Option Change) (w0 : World) (i : ℕ) (w : World) (p : Party) (o : Trying name own w0 i w p) where
  -- where nothing merged the list is as it was, if it isn't cut
  pub list_uncut : is_cut p.stage ≡ false → has_merged p.stage ≡ false → (facts w).list ≡ (facts w0).list
  list_uncut uncut unmerged = at_shape o.shape
    where
      at_shape : HasShape name own w0 w p.stage → (facts w).list ≡ (facts w0).list
      at_shape (is_same clean none list) = list
      at_shape (was_cut is halved before) = absurd (both is uncut)
      at_shape (was_joined clean merged given deletes joined) = absurd (both merged unmerged)

  -- what has no place has not merged
  pub unplaced_unmerged : placed_in p.stage ≡ None → is_cut p.stage ≡ false → has_merged p.stage ≡ false
  unplaced_unmerged none uncut = at_shape o.shape
    where
      at_shape : HasShape name own w0 w p.stage → has_merged p.stage ≡ false
      at_shape (is_same clean unmerged list) = unmerged
      at_shape (was_cut is halved before) = absurd (both is uncut)
      at_shape (was_joined clean merged given deletes joined) = absurd (given none)

  -- and where nothing has a place yet the map is as it was
  pub unplaced : placed_in p.stage ≡ None → w.history ≡ w0.history
  unplaced none = ⊎_elim
      (λ (was : (placed_in p.stage ≡ None) × (w.history ≡ w0.history)). was.1)
      (λ (was : (change : Change) × (w.history ≡ w0.history ++ written p.caller p.index (Some change)) × (placed_in p.stage ≢ None) × (own ≡ Some change)). absurd (was.2 none))
      o.written

  pub unplaced_map : placed_in p.stage ≡ None → map_now (facts w) ≡ map_now (facts w0)
  unplaced_map none k = after_all (o.start.base k) (unplaced none k)

  -- a delete that is counted is what it wrote
  pub deleted_history : (h : Held) → HasDeleted name own h → placed_in p.stage ≡ h.placed → w.history ≡ w0.history ++ written p.caller p.index (Some (Deletes name))
  deleted_history h deleted placed = ⊎_elim
      (λ (was : (placed_in p.stage ≡ None) × (w.history ≡ w0.history)). absurd (deleted.placed (sym placed ∙ was.0)))
      (λ (was : (change : Change) × (w.history ≡ w0.history ++ written p.caller p.index (Some change)) × (placed_in p.stage ≢ None) × (own ≡ Some change)).
      was.1 ∙ ap (λ (c : Option Change). w0.history ++ written p.caller p.index c) (sym was.3 ∙ deleted.deletes))
      o.written

  pub deleted_map : (h : Held) → HasDeleted name own h → placed_in p.stage ≡ h.placed → map_now (facts w) ≡ remove (map_now (facts w0)) name
  deleted_map h deleted placed =
      (λ k. after_all (o.start.base k) (deleted_history h deleted placed k)) ∙ after_all-push w0.base w0.history (record { caller = p.caller; index = p.index; change = Deletes name })

  -- a node in whose range the name is leads where the target led
  pub leads_there : (n r : ℕ) (other : List ℕ) → other ≡ name → (facts w).list ≡ (facts w0).list → range_of w.layout (facts w) n other ≡ true → IsListed (facts w) n → (facts w).now n next_offset ≡ r → r ≡ next_node w0 name
  leads_there n r other named list inside listed leads =
      let node : target_from 0 (facts w).list (key_of other) ≡ n = eqb-true (target_from 0 (facts w).list (key_of other)) n inside in
      let left : n ≡ target_from 0 (facts w0).list (key_of name) = sym node ∙ (λ k. target_from 0 (list k) (key_of (named k))) in
      sym leads
      ∙ same_next (facts w).now (facts w0).now 0 (facts w0).list (subst (IsChain (facts w).now 0) list o.lawful.list.chain) o.start.began.chain n (subst (λ (q : List ListNode). IsIn q n) list listed)
      ∙ ap (λ (m : ℕ). (facts w0).now m next_offset) left

  -- what is merged by the shape as it was, by the layout and the anchors as they are
  shape_now : (facts w).list ≡ (facts w0).list → ShapeMerges w0 name → merges w.layout.slots (map_now (facts w0)) (anchors_of (facts w).list) name ≡ true
  shape_now list shape = (λ k. merges (o.start.layout k).slots (map_now (facts w0)) (anchors_of (list k)) name) ∙ shape

  -- what it knows that holds a node
  abbrev Knows : ℕ → ℕ → Held → Type 0
  Knows n lock h = SureHolds w.layout w.generation (facts w) p.caller p.index p.since n lock h

  knows_of : (n lock : ℕ) (h : Held) → p.stage ≡ Holds n lock h → Knows n lock h
  knows_of n lock h stage = subst (Sure w.layout w.generation (facts w) p.caller p.index p.since) stage (o.lawful.sure i p o.there)

  -- where its node leads to none, no node was listed behind the target, and where it leads to one, one was
  pub no_next_was : (n lock : ℕ) (h : Held) → p.stage ≡ Holds n lock h → h.merged ≡ false → h.name ≡ name → (facts w).now n next_offset ≡ 0 → next_of (anchors_in w0) name ≡ None
  no_next_was n lock h stage unmerged named ends =
      let knows = knows_of n lock h stage in
      (λ k. next_of (anchors_of (sym (list_uncut (ap is_cut stage) (ap has_merged stage ∙ unmerged)) k)) (sym named k)) ∙ no_next w.layout (facts w) o.lawful.list h.name knows.named n knows.inside ends

  pub next_was : (n lock : ℕ) (h : Held) → p.stage ≡ Holds n lock h → h.merged ≡ false → h.name ≡ name → (facts w).now n next_offset ≢ 0 → IsSome (next_of (anchors_in w0) name)
  next_was n lock h stage unmerged named leads =
      let knows = knows_of n lock h stage in
      let next = has_next w.layout (facts w) o.lawful.list h.name knows.named n ((facts w).now n next_offset) knows.inside (inside_listed w.layout (facts w) o.lawful.list n h.name knows.inside) refl leads in
      ap is_some ((λ k. next_of (anchors_of (sym (list_uncut (ap is_cut stage) (ap has_merged stage ∙ unmerged)) k)) (sym named k)) ∙ next.is_next)

  -- so there is nothing to merge where it leads to none
  pub alone_unmerged : (n lock : ℕ) (h : Held) → p.stage ≡ Holds n lock h → h.merged ≡ false → h.name ≡ name → (facts w).now n next_offset ≡ 0 → ShapeMerges w0 name → ⊥
  alone_unmerged n lock h stage unmerged named ends shape =
      clash (shape_tries w0 name o.start.began shape).1 (ap is_some (no_next_was n lock h stage unmerged named ends))

  -- nor where both nodes have more names than half a node's slots
  pub crowded_unmerged : (n lock : ℕ) (h : Held) (right : Grip) → p.stage ≡ Meets n lock h right → HasDeleted name own h
      → w.layout.slots / 2 < live_in w.layout.slots ((facts w).now n) + live_in w.layout.slots ((facts w).now right.node) → ShapeMerges w0 name → ⊥
  crowded_unmerged n lock h right stage deleted many shape =
      let l = w.layout in
      let f = facts w in
      let knows : SureHolds l w.generation f p.caller p.index p.since n lock h × SureMeets l w.generation f n h right = subst (Sure l w.generation f p.caller p.index p.since) stage (o.lawful.sure i p o.there) in
      let list = list_uncut (ap is_cut stage) (ap has_merged stage ∙ knows.1.unmerged) in
      let met = meets_crowded w i p n lock h right o.lawful o.there stage many in
      let is = no_switch_is_delete l f (map_now (facts w0)) name n o.lawful.list o.lawful.named (subst IsName deleted.named knows.0.named)
      (subst (λ (x : List ℕ). range_of l f n x ≡ true) deleted.named knows.0.inside) (deleted_map h deleted (ap placed_in stage)) (inr met.0) in
      both (shape_now list shape) is.0

  -- what the name had
  pub had_was : (n lock : ℕ) (h : Held) (old : Option ℕ) → p.stage ≡ Holds n lock h → h.name ≡ name → h.placed ≡ None → h.old ≡ Some old → at (map_now (facts w0)) name ≡ old
  had_was n lock h old stage named placed is =
      let was = subst (λ (q : Option (Option ℕ)). IfSome q (λ old. at (map_before (facts w) h.placed) h.name ≡ old)) is (knows_of n lock h stage).old in
      (λ k. at (sym (unplaced_map (ap placed_in stage ∙ placed)) k) (sym named k)) ∙ subst (λ (q : Option ℕ). at (map_before (facts w) q) h.name ≡ old) placed was

  list_was : (n lock : ℕ) (h : Held) → p.stage ≡ Holds n lock h → h.placed ≡ None → (facts w).list ≡ (facts w0).list
  list_was n lock h stage placed = list_uncut (ap is_cut stage) (unplaced_unmerged (ap placed_in stage ∙ placed) (ap is_cut stage))

  settled_now : (n lock : ℕ) (h : Held) → p.stage ≡ Holds n lock h → h.pending ≡ None → IsSettled w.layout (facts w) n
  settled_now n lock h stage pending =
      let knows = knows_of n lock h stage in
      record { means = clean_means (facts w) p.caller p.index p.since n lock h knows pending; stays = knows.stays }

  -- what a delete of the name leaves of the target, by the live slots of its node
  pub left_was : (n lock : ℕ) (h : Held) (value : ℕ) → p.stage ≡ Holds n lock h → h.name ≡ name → h.placed ≡ None → h.pending ≡ None → h.old ≡ Some (Some value)
      → length (names_at (remove (map_now (facts w0)) name) (anchors_in w0) name) + 1 ≡ live_in w.layout.slots ((facts w).now n)
  left_was n lock h value stage named placed pending old =
      let l = w.layout in
      let f = facts w in
      let knows = knows_of n lock h stage in
      let settled = settled_now n lock h stage pending in
      let inside : range_of l f n name ≡ true = subst (λ (x : List ℕ). range_of l f n x ≡ true) named knows.inside in
      let names = range_names l.slots (range_of l f n) (f.now n) (map_now f) settled.means o.lawful.named ∙ ap length (range-names l f o.lawful.list o.lawful.named n name (subst IsName named knows.named) inside) in
      let own_live = names_live l.slots l.slots (range_of l f n) (f.now n) (omega arith) settled.means.tidy settled.stays in
      let same : length (names_at (map_now f) (anchors_of f.list) name) ≡ length (names_at (map_now (facts w0)) (anchors_in w0) name) =
      λ k. length (names_at (unplaced_map (ap placed_in stage ∙ placed) k) (anchors_of (list_was n lock h stage placed k)) name) in
      let less = left-at (map_now (facts w0)) (anchors_in w0) name (list_has_anchors w0.layout (facts w0) o.start.began) (ap is_some (had_was n lock h (Some value) stage named placed old)) in
      omega arith

  -- where its node lacks the name and each of its slots is live, the target was full
  pub full_was : (n lock : ℕ) (h : Held) → IsAtRest w0 → p.stage ≡ Holds n lock h → h.name ≡ name → h.placed ≡ None → h.pending ≡ None → h.old ≡ Some None
      → AreAllLive ((facts w).now n bitmap_offset) w.layout.slots → (at (map_now (facts w0)) name ≡ None) × (target_names w0 name ≡ w0.layout.slots)
  full_was n lock h rest stage named placed pending old live = (
    had_was n lock h None stage named placed old,
    target_was_full w0 w name n rest o.start.layout (list_was n lock h stage placed) (unplaced_map (ap placed_in stage ∙ placed))
        (subst (λ (x : List ℕ). range_of w.layout (facts w) n x ≡ true) named (knows_of n lock h stage).inside) (settled_now n lock h stage pending) live,
  )
