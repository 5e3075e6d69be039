-- The switch of a lone put is the split of its shape.
use Rattle.std.proofs.Common.{◌≡◌, ℕ, ◌+◌, ◌/◌, ◌%◌, ◌<◌, ◌≤◌, inl, inr, ⊎_elim, Bool, true, false, not, ◌&&◌, nat_le, if◌then◌else◌, is_none, is_some, IsSome, IfSome, Option, Some, None, List, [], ◌∷◌, ◌++◌, length, slice_get, refl, sym, ap, ◌∙◌, subst, arith, le-leb}
use Rattle.std.proofs.lemmas.Bool.{lt-leb}
use Rattle.std.specs.FinMap.{remove}
use Rattle.std.specs.List.{AllByRecursion}
use Rattle.pm_words.specs.declared.layout.Layout.{Layout}
use Rattle.cat_history.specs.Maps.{Map, at}
use Rattle.cat_history.specs.Writes.{after, after_all, changed}
use Rattle.shapes.specs.Anchors.{below, AnchorsRise, Anchors, AreAnchors, is_under, is_between, names_between, names_at, up_to, middle_of, past, target_of, next_of, IsFullPut, splits, put_anchors, merges, del_anchors}
use Rattle.shapes.specs.Members.{Member, members}
use Rattle.shapes.specs.Laws.{CutsInHalf}
use Rattle.shapes.specs.Weights.{IsShape}
use Rattle.shapes.proofs.Orders.{clash, below-chain}
use Rattle.shapes.proofs.NameLists.{all_by}
use Rattle.shapes.proofs.Targets.{part, target-is, next-is, names_at-is, rise-second, members_before, member_of, members-parts, is-target, members-above}
use Rattle.shapes.proofs.Turns.{Parts, one_target}
use Rattle.shapes.proofs.Agreements.{and-first, and-second}
use Rattle.shapes.proofs.Shapes.{split_is_enough, del-stays}
use Rattle.shapes.proofs.Switches.{half_is_split, drop_is_merge}
use Rattle.index_law.specs.Facts.{Facts, map_now, range_of}
use Rattle.call_stages.specs.Stages.{Held, Filling, Gathered}
use Rattle.index_law.specs.Worlds.{facts, stepped}
use Rattle.index_law.specs.Lawful.{IsList, map_before, SureSplits, SureCounted, SureJoins, Sure}
use Rattle.index_law.specs.Anchors.{anchors_of, anchors_in, members_most, DropsMember}
use Rattle.index_law.specs.LoneShapes.{SwitchIsPut, SwitchIsDelete, NoSwitchIsPut, NoSwitchIsDelete, IsCrowded, HasLastDeleted, Merges, DelStands, has_merged, IsOut, StepSplits, StepKeepsPut, StepKeepsDel, PutEnds, PutEndsFull, DelEnds}
use Rattle.call_stages.specs.Prevs.{IsJoin}
use Rattle.index_law.proofs.MergedOnce.{step_merges_once}
use Rattle.index_law.proofs.Dropping.{step_moves_anchors, no_next, has_next, names_of_both}
use Rattle.index_law.proofs.Anchored.{ranges_are_members, list_has_anchors, and_false}
use Rattle.index_law.proofs.Cutting.{range-names}
use Rattle.data_node.proofs.RangeNames.{range_names}
use Rattle.index_law.proofs.Maps.{after_all-push, after-longer, after-whole}

not-is : (b : Bool) → not b ≡ true → b ≡ false
not-is true is = clash is refl
not-is false is = refl

under-all : (after : Anchors) (x : List ℕ) → AnchorsRise after → is_under (slice_get after 0) x ≡ true → AllByRecursion (λ a. below x a ≡ true) after
under-all [] x rise is = tt
under-all (a ∷ rest) x rise is = (is, all_by (λ b. below a b ≡ true) (λ b. below x b ≡ true) (λ b more. below-chain x a b is more) rest rise.0)

-- a text between the target of a name and the next anchor is of the same member
same-member : (m : Map) (anchors : Anchors) (name other : List ℕ) (are : AreAnchors anchors) → is_between (target_of anchors name) (next_of anchors name) other ≡ true
    → member_of m (part anchors name are).low (slice_get (part anchors name are).after 0) ≡ member_of m (part anchors other are).low (slice_get (part anchors other are).after 0)
same-member m anchors name other are inside =
    let p = part anchors name are in
    let q = part anchors other are in
    let high : Option (List ℕ) = slice_get p.after 0 in
    let here : is_between p.low high other ≡ true = subst (λ low. is_between low high other ≡ true) (target-is anchors name p) (subst (λ next. is_between (target_of anchors name) next other ≡ true) (next-is anchors name p) inside) in
    let from : below other p.low ≡ false = not-is (below other p.low) (and-first (not (below other p.low)) (is_under high other) here) in
    let above = under-all p.after other (rise-second p.before (p.low ∷ p.after) (subst AnchorsRise p.is are.rise)).1 (and-second (not (below other p.low)) (is_under high other) here) in
    let same = one_target other (members m anchors) (members_before m p.before p.low) (member_of m p.low high) (members m p.after) (members_before m q.before q.low) (member_of m q.low (slice_get q.after 0)) (members m q.after)
    (record { place = ap (members m) p.is ∙ members-parts m p.before p.low p.after; at_most = from; last = members-above m other p.after above }) (is-target m anchors other q) in
    ap (λ (x : Parts). x.target) same

-- so it has this target, too, and as many names beside it
pub same-target : (m : Map) (anchors : Anchors) (name other : List ℕ) → AreAnchors anchors → is_between (target_of anchors name) (next_of anchors name) other ≡ true → target_of anchors other ≡ target_of anchors name
same-target m anchors name other are inside =
    target-is anchors other (part anchors other are) ∙ sym (ap (λ (x : Member). x.anchor) (same-member m anchors name other are inside)) ∙ sym (target-is anchors name (part anchors name are))

pub same-next : (m : Map) (anchors : Anchors) (name other : List ℕ) → AreAnchors anchors → is_between (target_of anchors name) (next_of anchors name) other ≡ true → names_at m anchors other ≡ names_at m anchors name
same-next m anchors name other are inside =
    names_at-is m anchors other (part anchors other are) ∙ sym (ap (λ (x : Member). x.names) (same-member m anchors name other are inside)) ∙ sym (names_at-is m anchors name (part anchors name are))

pub switch_is_put : SwitchIsPut
switch_is_put l nodes f anchors name cut list shape slots even named inside lacks =
    let m : Map = map_now f in
    let now : Anchors = anchors_of f.list in
    let between : is_between (target_of now name) (next_of now name) cut.cut ≡ true = sym (ranges_are_members l f cut.node name cut.cut list named cut.named inside) ∙ cut.inside in
    let target : target_of now cut.cut ≡ target_of now name = same-target m now name cut.cut shape.ordered between in
    let its : length (names_at m now name) ≡ l.slots = ap length (sym (same-next m now name cut.cut shape.ordered between)) ∙ cut.full in
    let whole : splits l.slots m now name ≡ true = ap (λ o. is_none o && nat_le l.slots (length (names_at m now name))) lacks ∙ le-leb l.slots (length (names_at m now name)) (omega arith) in
    let halved : CutsInHalf l.slots m now name cut.cut =
    record { inside = between; had = cut.had; half = subst (λ low. length (names_between m low (Some cut.cut)) ≡ l.slots / 2) target cut.half } in
    let is : anchors ≡ put_anchors l.slots m now name = cut.more ∙ half_is_split l.slots nodes m now name cut.cut (omega arith) shape whole halved in
    let enough = split_is_enough l.slots nodes m now name (omega arith) even shape whole in
    (whole, is, ap (λ a. splits l.slots m a name) is ∙ enough.no_second)

some-is : (o : Option ℕ) → IsSome o → is_some o ≡ true
some-is None has = absurd (let wrong : false ≡ true = has in cc)
some-is (Some x) has = refl

pub switch_is_delete : SwitchIsDelete
switch_is_delete slots m anchors name next are had here few =
    let is : merges slots m anchors name ≡ true =
    ap (λ b. b && (is_some (next_of anchors name) && nat_le (length (names_between (remove m name) (target_of anchors name) (slice_get (past anchors name) 1))) (slots / 2))) (some-is (at m name) had)
    ∙ ap (λ o. is_some o && nat_le (length (names_between (remove m name) (target_of anchors name) (slice_get (past anchors name) 1))) (slots / 2)) here
    ∙ le-leb (length (names_between (remove m name) (target_of anchors name) (slice_get (past anchors name) 1))) (slots / 2) few in
    (is, drop_is_merge slots m anchors name next are is here)

pub no_switch_is_put : NoSwitchIsPut
no_switch_is_put l f name n list named is_name inside means why =
    let a : Anchors = anchors_of f.list in
    let m : Map = map_now f in
    let isnt : splits l.slots m a name ≡ false = ⊎_elim
    (λ has. ap (λ b. b && nat_le l.slots (length (names_at m a name))) (there (at m name) has))
    (λ fewer.
    let names = range_names l.slots (range_of l f n) (f.now n) m means named ∙ ap length (range-names l f list named n name is_name inside) in
    let size : length (names_at m a name) < l.slots = omega arith in
    ap (λ b. is_none (at m name) && b) (lt-leb l.slots (length (names_at m a name)) size) ∙ and_false (is_none (at m name)))
    why in
    (isnt, ap (λ b. if b then up_to a name ++ middle_of l.slots m a name ∷ past a name else a) isnt)
  where
    there : (o : Option ℕ) → IsSome o → is_none o ≡ false
    there None has = absurd (let wrong : false ≡ true = has in cc)
    there (Some x) has = refl

pub no_switch_is_delete : NoSwitchIsDelete
no_switch_is_delete l f before name n list named is_name inside same why =
    let a : Anchors = anchors_of f.list in
    let few : Option (List ℕ) → Bool → Bool = λ o b. is_some (at before name) && (is_some o && b) in
    let size : Bool = nat_le (length (names_between (remove before name) (target_of a name) (slice_get (past a name) 1))) (l.slots / 2) in
    let isnt : merges l.slots before a name ≡ false = ⊎_elim
    (λ alone. ap (λ o. few o size) (no_next l f list name is_name n inside alone.1) ∙ and_false (is_some (at before name)))
    (λ (crowded : IsCrowded l f n).
    let has = has_next l f list name is_name n crowded.right inside crowded.listed crowded.leads crowded.nonzero in
    let count = names_of_both l f list named name is_name n crowded.right inside has crowded.means crowded.means_right in
    let many = crowded.many in
    let more : l.slots / 2 < length (names_between (map_now f) (target_of a name) (slice_get (past a name) 1)) = omega arith in
    ap (few (next_of a name))
    (lt-leb (length (names_between (remove before name) (target_of a name) (slice_get (past a name) 1))) (l.slots / 2)
    (subst (λ m. l.slots / 2 < length (names_between m (target_of a name) (slice_get (past a name) 1))) same more))
    ∙ ap (λ b. is_some (at before name) && b) (and_false (is_some (next_of a name))) ∙ and_false (is_some (at before name)))
    why in
    (isnt, del-stays l.slots before a name isnt)

-- a member that goes is the merge of the delete of its name
join_merges : (l : Layout) (f : Facts) (anchors : Anchors) (drop : DropsMember l f anchors) → IsList l f → (name : List ℕ) → drop.name ≡ name → (before : Map) → IsSome (at before name) →
    map_now f ≡ remove before name → Merges l.slots before (anchors_of f.list) name anchors
join_merges l f anchors drop list name e before had same =
    let a : Anchors = anchors_of f.list in
    let is_next : next_of a name ≡ Some drop.next = ap (next_of a) (sym e) ∙ drop.is_next in
    let few : length (names_between (remove before name) (target_of a name) (slice_get (past a name) 1)) ≤ l.slots / 2 =
    subst (λ m. length (names_between m (target_of a name) (slice_get (past a name) 1)) ≤ l.slots / 2) same
    (subst (λ x. length (names_between (map_now f) (target_of a x) (slice_get (past a x) 1)) ≤ l.slots / 2) e drop.few) in
    let done = switch_is_delete l.slots before a name drop.next (list_has_anchors l f list) had is_next few in
    (done.0, drop.less ∙ done.1)

-- the map before the last change, where that is the delete of a call that is counted
module _ (l : Layout) (f : Facts) (caller index since n : ℕ) (h : Held) (knows : SureCounted l f caller index since n h) (last : HasLastDeleted f h) where
  abbrev before : Map
  before = after_all f.base last.earlier

  pub last-had : IsSome (at (after_all f.base last.earlier) h.name)
  last-had =
      let k : ℕ = length last.earlier in
      let back : map_before f (Some k) ≡ after_all f.base last.earlier =
      ap (λ ws. after f.base ws k) last.history ∙ after-longer f.base last.earlier (last.write ∷ []) k (omega arith) ∙ after-whole f.base last.earlier k refl in
      let was : at (map_before f (Some k)) h.name ≡ Some last.value =
      subst (λ p. at (map_before f p) h.name ≡ Some last.value) last.placed (subst (λ o. IfSome o (λ old. at (map_before f h.placed) h.name ≡ old)) last.old knows.old) in
      ap is_some (ap (λ m. at m h.name) (sym back) ∙ was)

  pub last-gone : map_now f ≡ remove (after_all f.base last.earlier) h.name
  last-gone = ap (after_all f.base) last.history ∙ after_all-push f.base last.earlier last.write ∙ ap (changed (after_all f.base last.earlier)) last.deletes

pub step_splits : StepSplits
step_splits w i p a x t r lawful nodes shape there k told =
    let l = w.layout in
    let f = facts w in
    ⊎_elim
    (λ stays. inl stays)
    (λ moved. inr (⊎_elim
    (λ cut.
    let switch = cut.0 in
    let knows : SureSplits l w.generation f switch.left switch.fresh (Filling true) = subst (Sure l w.generation f p.caller p.index p.since) switch.was (lawful.sure i p there) in
    let asked = knows.at.asked in
    let inside : range_of l f cut.1.node switch.left.name ≡ true = subst (λ n. range_of l f n switch.left.name ≡ true) (sym cut.2) asked.inside in
    let lacks : at (map_now f) switch.left.name ≡ None = subst (λ o. IfSome o (λ old. at (map_now f) switch.left.name ≡ old)) asked.lacked asked.had in
    let done = switch_is_put l nodes f (anchors_of (facts (stepped w i p a t)).list) switch.left.name cut.1 lawful.list shape lawful.row.layout.slots.0 lawful.row.layout.slots.2 asked.named inside lacks in
    inl (switch, done.0, done.1, done.2))
    (λ drop.
    let join = drop.0 in
    let knows : SureJoins l w.generation f p.caller p.index p.since join.held join.left join.right Gathered = subst (Sure l w.generation f p.caller p.index p.since) join.was (lawful.sure i p there) in
    let done : (before : Map) → IsSome (at before join.held.name) → map_now f ≡ remove before join.held.name → Merges l.slots before (anchors_in w) join.held.name (anchors_in (stepped w i p a t)) =
    join_merges l f (anchors_in (stepped w i p a t)) drop.1 lawful.list join.held.name drop.3 in
    inr (
      join,
      done,
      λ last.
          done (after_all w.base last.earlier) (last-had l f p.caller p.index p.since join.left.node join.held knows.call last)
          (last-gone l f p.caller p.index p.since join.left.node join.held knows.call last),
    ))
    moved))
    (step_moves_anchors w i p a x t r lawful there k told)

pub step_keeps_put : StepKeepsPut
step_keeps_put w i p a x t r lawful nodes anchors name shape stands there k told about unjoined =
    let slots = w.layout.slots in
    let m : Map = map_now (facts w) in
    let four : 4 ≤ slots = lawful.row.layout.slots.0 in
    let even : slots % 2 ≡ 0 = lawful.row.layout.slots.2 in
    let two : 2 ≤ slots = omega arith in
    ⊎_elim
    (λ (same : anchors_in w ≡ anchors).
    ⊎_elim
    (λ stays. inl (stays ∙ same))
    (λ moved. ⊎_elim
    (λ cut.
    let is = about cut.0 in
    inr (
      (λ j. splits slots m (sym same j) (sym is j)) ∙ cut.1,
      cut.2 ∙ (λ j. put_anchors slots m (same j) (is j)),
    ))
    (λ drop. absurd (unjoined drop.0))
    moved)
    (step_splits w i p a x t r lawful nodes (subst (IsShape slots nodes m) (sym same) shape) there k told))
    (λ (done : (splits slots m anchors name ≡ true) × (anchors_in w ≡ put_anchors slots m anchors name)).
    let enough = split_is_enough slots nodes m anchors name two even shape done.0 in
    ⊎_elim
    (λ stays. inr (done.0, stays ∙ done.1))
    (λ moved. ⊎_elim
    (λ cut.
    let is = about cut.0 in
    let again : splits slots m (put_anchors slots m anchors name) name ≡ true = (λ j. splits slots m (sym done.1 j) (sym is j)) ∙ cut.1 in
    clash again enough.no_second)
    (λ drop. absurd (unjoined drop.0))
    moved)
    (step_splits w i p a x t r lawful (nodes + 1) (subst (IsShape slots (nodes + 1) m) (sym done.1) enough.shape) there k told))
    stands

pub step_keeps_del : StepKeepsDel
step_keeps_del w i p a x t r lawful before anchors name had gone stands there k told unsplit about =
    let slots = w.layout.slots in
    let now : Anchors = anchors_in (stepped w i p a t) in
    let goes = step_merges_once w i p a x t r lawful there k in
    let never : has_merged t ≡ true → has_merged t ≡ false → now ≡ anchors = λ is isnt. absurd (let no : true ≡ false = sym is ∙ isnt in cc) in
    ⊎_elim
    (λ (same : now ≡ anchors_in w). (
      subst (DelStands slots before anchors name) (sym same) stands.1,
      ⊎_elim
          (λ out. inl out)
          (λ held. inr (⊎_elim
          (λ (quiet : (IsJoin p.stage t → ⊥) × (has_merged t ≡ has_merged p.stage)). λ isnt. same ∙ stands.0 (sym quiet.1 ∙ isnt))
          (λ (one : IsJoin p.stage t × (has_merged p.stage ≡ false) × (has_merged t ≡ true)). never one.2)
          held))
          goes,
    ))
    (λ moved. ⊎_elim
    (λ cut. absurd (unsplit cut.0))
    (λ drop.
    let flag : (has_merged p.stage ≡ false) × (has_merged t ≡ true) = ⊎_elim
    (λ out. absurd (subst IsOut drop.0.is out))
    (λ held. ⊎_elim
    (λ (quiet : (IsJoin p.stage t → ⊥) × (has_merged t ≡ has_merged p.stage)). absurd (quiet.0 drop.0))
    (λ (one : IsJoin p.stage t × (has_merged p.stage ≡ false) × (has_merged t ≡ true)). (one.1, one.2))
    held)
    goes in
    let done : Merges slots before (anchors_in w) name now =
    join_merges w.layout (facts w) now drop.1 lawful.list name (subst (λ x. drop.1.name ≡ x) (about drop.0) drop.3) before had gone in
    (inr (subst (λ was. Merges slots before was name now) (stands.0 flag.0) done), inr (never flag.1)))
    moved)
    (step_moves_anchors w i p a x t r lawful there k told)

pub put_ends : PutEnds
put_ends w anchors name n lawful is_name stands inside means why =
    let l = w.layout in
    let f = facts w in
    ⊎_elim
    (λ (same : anchors_in w ≡ anchors).
    sym (no_switch_is_put l f name n lawful.list lawful.named is_name inside means why).1 ∙ ap (λ a. put_anchors l.slots (map_now f) a name) same)
    (λ (done : (splits l.slots (map_now f) anchors name ≡ true) × (anchors_in w ≡ put_anchors l.slots (map_now f) anchors name)). done.1)
    stands

pub put_ends_full : PutEndsFull
put_ends_full w nodes anchors name value lawful shape stands full =
    let slots = w.layout.slots in
    let m : Map = map_now (facts w) in
    let four : 4 ≤ slots = lawful.row.layout.slots.0 in
    ⊎_elim
    (λ (same : anchors_in w ≡ anchors). same)
    (λ (done : (splits slots m anchors name ≡ true) × (anchors_in w ≡ put_anchors slots m anchors name)).
    let enough = split_is_enough slots nodes m anchors name (omega arith) lawful.row.layout.slots.2 shape done.0 in
    absurd (enough.room (members_most w) (subst (λ a. IsFullPut slots (members_most w) m a name) done.1 full)))
    stands

pub del_ends : DelEnds
del_ends w before anchors name n lawful is_name gone stands inside why =
    let l = w.layout in
    let f = facts w in
    ⊎_elim
    (λ (same : anchors_in w ≡ anchors).
    sym (no_switch_is_delete l f before name n lawful.list lawful.named is_name inside gone (why same)).1 ∙ ap (λ a. del_anchors l.slots before a name) same)
    (λ (done : Merges l.slots before anchors name (anchors_in w)). done.1)
    stands
