-- One try of a call, with no other in flight.
use Rattle.std.proofs.Common.{◌≡◌, ◌≢◌, ℕ, zero, suc, ◌+◌, ◌-◌, ◌/◌, ◌<◌, ◌≤◌, ◌==◌, ◌⊎◌, inl, inr, ⊎_elim, Bool, true, false, cond, List, [], ◌∷◌, ◌++◌, length, set, refl, sym, ap, ◌∙◌, subst, arith, eqb-true}
use Rattle.std.proofs.lemmas.Bool.{cases_eq, eq-eqb, ne_eqb}
use Rattle.std.specs.Prelude.{Option, Some, None, IfSome, IsSome, slice_get}
use Rattle.std.specs.FinMap.{remove}
use Rattle.std.proofs.lemmas.List.{append-nil, length-append}
use mathlib.Core.Option.{some}
use lib.ListN.{get_elem?}
use Rattle.pm_words.specs.Codes.{gone_status}
use Rattle.pm_words.specs.declared.layout.Layout.{Layout}
use Rattle.pm_words.specs.declared.action.Action.{Action}
use Rattle.pm_words.specs.declared.again.Again.TheVariants as again
use Rattle.pm_words.specs.Rows.{got}
use Rattle.cat_history.specs.Maps.{Map, at}
use Rattle.cat_history.specs.Writes.{after, after_all}
use Rattle.cat_history.specs.declared.op.Change.{Change}
use Rattle.cat_history.specs.declared.op.Change.TheVariants.{Del as Deletes}
use Rattle.shapes.specs.Anchors.{Anchors, names_between, past, target_of, next_of}
use Rattle.shapes.specs.Members.{without_name}
use Rattle.shapes.specs.Weights.{one_if}
use Rattle.cat_history.specs.declared.op.Write.{Write}
use Rattle.call_stages.specs.declared.once.Once.{Once}
use Rattle.call_stages.specs.declared.once.Once.TheVariants as once
use Rattle.call_stages.specs.declared.once.Placed.{Placed}
use Rattle.call_stages.specs.Stages.{Stage, Idle, Saw, Wears, Reads, Holds, Eyes, Splits, Leaves, Meets, Joins, counted, placed_in}
use Rattle.call_stages.specs.Stages.{Gathered, Joined, Gone}
use Rattle.data_node.specs.Lists.{ListNode, IsMember, without_member}
use Rattle.call_stages.specs.Kinds.{Step}
use Rattle.call_stages.specs.Prevs.{IsSwitch, IsJoin, IsRetire}
use Rattle.node_ops.specs.Asked.{IsAbout}
use Rattle.index_law.specs.Facts.{Facts, map_now, range_of}
use Rattle.index_law.specs.Worlds.{Party, World, facts, stepped, moved_on, written}
use Rattle.index_law.specs.Lawful.{Lawful, Sure, SureJoins, IsPlaced, HasWriteAt, map_before}
use Rattle.index_law.specs.Anchors.{anchors_of, gone_nodes, members_most, CutsMember, DropsMember}
use Rattle.index_law.specs.LoneShapes.{has_merged, IsOut}
use Rattle.index_law.specs.Laws.{IsLegal}
use Rattle.call_stages.specs.AnySteps.{on_nodes, beside}
use Rattle.index_law.proofs.AnySteps.{beside_keeps}
use Rattle.index_law.proofs.Law.{step_law}
use Rattle.index_law.proofs.Moves.{facts_step}
use Rattle.index_law.proofs.Starts.{idle_law}
use Rattle.index_law.proofs.Parties.{set_here, set_else, each_set}
use Rattle.index_law.proofs.Maps.{after-whole, after-longer}
use Rattle.index_law.proofs.Anchored.{list_has_anchors}
use Rattle.index_law.proofs.Dropping.{step_moves_anchors}
use Rattle.index_law.proofs.GoneCounts.{step_counts_gone}
use Rattle.index_law.proofs.LoneCuts.{switch_is_delete}
use Rattle.index_law.proofs.Sizes.{nodes_are_counted}
use Rattle.index_law.proofs.Loose.{out_unmerged, out_unplaced}
use Rattle.lone_call_law.specs.Merging.{next_node, HasKeptList}
use Rattle.lone_call_law.specs.Tries.{is_cut, has_retired, HasDeleted, IsFor, IsCutSince, IsHalvedSince, IsJoinedSince, HasWritten, HasShape, is_same, was_cut, was_joined, HasGone, Trying, LeavesHistory, HasKeptOrMerged, Says, TriesGo, TriesEnd}
use Rattle.lone_call_law.proofs.Cuts.{cut_unretired}
use Rattle.lone_call_law.proofs.Standing.{both}
use Rattle.lone_call_law.proofs.Standing as standing
use Rattle.lone_call_law.proofs.Effects.{IsDone, Cuts, Keeps, Buries, Effect, stays, adds, cuts, drops, buries, ends, is_done, step_does, answers_idle}

-- what a legal answer that tells a place says
pub record Tells (f : Facts) (since : ℕ) (name : List ℕ) (placed : Placed) : Type 0 where
  pub later : since ≤ placed.place
  pub within : placed.place ≤ length f.history
  pub old : placed.old ≡ at (after f.base f.history placed.place) name

pub legal_tells : (l : Layout) (g : ℕ) (f : Facts) (caller index since : ℕ) (name : List ℕ) (s : Stage) (placed : Placed) → IsAbout name s
    → IsLegal l g f caller index since s (Some (once.Done placed)) → Tells f since name placed
legal_tells l g f caller index since name Idle placed about legal = absurd legal
legal_tells l g f caller index since name (Saw n v w k) placed about legal = absurd legal
legal_tells l g f caller index since name (Wears n v) placed about legal = absurd legal
legal_tells l g f caller index since name (Reads n v k None) placed about legal = absurd legal
legal_tells l g f caller index since name (Reads n v k (Some h)) placed about legal =
    record { later = legal.later; within = legal.within; old = legal.old ∙ ap (at (after f.base f.history placed.place)) about }
legal_tells l g f caller index since name (Holds n w h) placed about legal =
    record { later = legal.later; within = legal.within; old = legal.old ∙ ap (at (after f.base f.history placed.place)) about }
legal_tells l g f caller index since name (Eyes n w h m v u free) placed about legal = absurd legal
legal_tells l g f caller index since name (Splits left fresh phase) placed about legal = absurd legal
legal_tells l g f caller index since name (Meets n w h right) placed about legal = absurd legal
legal_tells l g f caller index since name (Joins h left right pace) placed about legal = absurd legal
legal_tells l g f caller index since name (Leaves left) placed about legal = absurd (cc)

-- Some answers are the same only if what is answered is
some_same : {a b : Once Placed} → Some b ≡ Some a → a ≡ b
some_same e = cc

-- after its switch a call is answered only that it was split
cut_answer : (l : Layout) (g : ℕ) (f : Facts) (caller index since : ℕ) (s : Stage) (answer : Once Placed) → is_cut s ≡ true → IsLegal l g f caller index since s (Some answer)
    → (n : ℕ) × (answer ≡ once.Again (again.NeedsSplit n))
cut_answer l g f caller index since Idle answer cut legal = absurd (cc)
cut_answer l g f caller index since (Saw n v w k) answer cut legal = absurd (cc)
cut_answer l g f caller index since (Wears n v) answer cut legal = absurd (cc)
cut_answer l g f caller index since (Reads n v sight told) answer cut legal = absurd (cc)
cut_answer l g f caller index since (Holds n w h) answer cut legal = absurd (cc)
cut_answer l g f caller index since (Eyes n w h m v u free) answer cut legal = absurd (cc)
cut_answer l g f caller index since (Splits left fresh phase) answer cut legal = absurd legal
cut_answer l g f caller index since (Meets n w h right) answer cut legal = absurd legal
cut_answer l g f caller index since (Joins h left right pace) answer cut legal = absurd legal
cut_answer l g f caller index since (Leaves left) answer cut legal = (left.node, legal)

-- and before it never
uncut_answer : (l : Layout) (g : ℕ) (f : Facts) (caller index since : ℕ) (s : Stage) (n : ℕ) → is_cut s ≡ false
    → IsLegal l g f caller index since s (Some (once.Again (again.NeedsSplit n))) → ⊥
uncut_answer l g f caller index since Idle n cut legal = legal
uncut_answer l g f caller index since (Saw m v w k) n cut legal = legal
uncut_answer l g f caller index since (Wears m v) n cut legal = legal
uncut_answer l g f caller index since (Reads m v k None) n cut legal = legal
uncut_answer l g f caller index since (Reads m v k (Some h)) n cut legal = legal
uncut_answer l g f caller index since (Holds m w h) n cut legal = ⊎_elim (λ no. let e = no.0 in absurd (cc)) (λ no. no) legal.1
uncut_answer l g f caller index since (Eyes m w h k v u free) n cut legal = legal
uncut_answer l g f caller index since (Splits left fresh phase) n cut legal = legal
uncut_answer l g f caller index since (Meets m w h right) n cut legal = legal
uncut_answer l g f caller index since (Joins h left right pace) n cut legal = legal
uncut_answer l g f caller index since (Leaves left) n cut legal = absurd (cc)

spent_tells : (l : Layout) (g : ℕ) (f : Facts) (caller index since : ℕ) (s : Stage) (clock : ℕ) → IsLegal l g f caller index since s (Some (once.Spent clock))
    → (since ≤ clock) × (clock ≤ length f.history)
spent_tells l g f caller index since Idle clock legal = absurd legal
spent_tells l g f caller index since (Saw n v w k) clock legal = absurd legal
spent_tells l g f caller index since (Wears n v) clock legal = absurd legal
spent_tells l g f caller index since (Reads n v k None) clock legal = absurd legal
spent_tells l g f caller index since (Reads n v k (Some h)) clock legal = absurd legal
spent_tells l g f caller index since (Holds n w h) clock legal = (legal.later, legal.within)
spent_tells l g f caller index since (Eyes n w h m v u free) clock legal = absurd legal
spent_tells l g f caller index since (Splits left fresh phase) clock legal = absurd legal
spent_tells l g f caller index since (Meets n w h right) clock legal = absurd legal
spent_tells l g f caller index since (Joins h left right pace) clock legal = absurd legal
spent_tells l g f caller index since (Leaves left) clock legal = absurd (cc)

-- a write's place is one of the history
place_within : (l : Layout) (g : ℕ) (f f' : Facts) (caller index since : ℕ) (s : Stage) (placed : Placed) → Sure l g f caller index since s → placed_in s ≢ None
    → IsLegal l g f' caller index since s (Some (once.Done placed)) → placed.place < length f.history
place_within l g f f' caller index since Idle placed knows there legal = absurd legal
place_within l g f f' caller index since (Saw n v w k) placed knows there legal = absurd legal
place_within l g f f' caller index since (Wears n v) placed knows there legal = absurd legal
place_within l g f f' caller index since (Reads n v k h) placed knows there legal = absurd (there refl)
place_within l g f f' caller index since (Holds n w h) placed knows there legal = within h.placed knows.placed legal.write there
  where
    within : (o : Option ℕ) → IfSome o (IsPlaced f.history caller index since h.name) → IfSome o (λ place. (placed.place ≡ place) × HasWriteAt f'.history caller index h.name place)
        → o ≢ None → placed.place < length f.history
    within None is write there = absurd (there refl)
    within (Some place) is write there = let same = write.0 in let inside = is.within in omega arith
place_within l g f f' caller index since (Eyes n w h m v u free) placed knows there legal = absurd legal
place_within l g f f' caller index since (Splits left fresh phase) placed knows there legal = absurd legal
place_within l g f f' caller index since (Meets n w h right) placed knows there legal = absurd legal
place_within l g f f' caller index since (Joins h left right pace) placed knows there legal = absurd legal
place_within l g f f' caller index since (Leaves left) placed knows there legal = absurd (cc)

-- ---- stages

-- what has merged none has made none GONE
unmerged_unretired : (s : Stage) → has_merged s ≡ false → has_retired s ≡ false
unmerged_unretired Idle none = refl
unmerged_unretired (Saw n v w k) none = refl
unmerged_unretired (Wears n v) none = refl
unmerged_unretired (Reads n v sight told) none = refl
unmerged_unretired (Holds n w h) none = none
unmerged_unretired (Eyes n w h m v u free) none = none
unmerged_unretired (Splits left fresh phase) none = refl
unmerged_unretired (Leaves left) none = refl
unmerged_unretired (Meets n w h right) none = none
unmerged_unretired (Joins h left right Gathered) none = refl
unmerged_unretired (Joins h left right Joined) none = refl
unmerged_unretired (Joins h left right Gone) none = none

out_unretired : (s : Stage) → IsOut s → has_retired s ≡ false
out_unretired s out = unmerged_unretired s (out_unmerged s out)

-- what is answered that has merged has made one GONE
done_retired : (l : Layout) (g : ℕ) (f : Facts) (caller index since : ℕ) (s : Stage) (placed : Placed) → IsLegal l g f caller index since s (Some (once.Done placed)) → has_retired s ≡ has_merged s
done_retired l g f caller index since Idle placed legal = refl
done_retired l g f caller index since (Saw n v w k) placed legal = refl
done_retired l g f caller index since (Wears n v) placed legal = refl
done_retired l g f caller index since (Reads n v sight told) placed legal = refl
done_retired l g f caller index since (Holds n w h) placed legal = refl
done_retired l g f caller index since (Eyes n w h m v u free) placed legal = refl
done_retired l g f caller index since (Splits left fresh phase) placed legal = refl
done_retired l g f caller index since (Leaves left) placed legal = refl
done_retired l g f caller index since (Meets n w h right) placed legal = refl
done_retired l g f caller index since (Joins h left right pace) placed legal = absurd legal

-- ---- the list

-- it has one member less
shorter : (r : ℕ) (list : List ListNode) → IsMember list r → length (anchors_of (without_member r list)) + 1 ≡ length (anchors_of list)
shorter r [] among = absurd among
shorter r (m ∷ behind) among = elim (m.node == r) as (λ b. (m.node == r) ≡ b → length (anchors_of (cond b behind (m ∷ without_member r behind))) + 1 ≡ length (anchors_of (m ∷ behind))) [
  | true ↦ λ is. omega arith
  | false ↦ λ isnt.
      let later : IsMember behind r = ⊎_elim (λ (e : r ≡ m.node). absurd (both (eq-eqb m.node r (sym e)) isnt)) (λ is. is) among in
      let rest = shorter r behind later in
      omega arith
] refl

some_anchor : (list : List ListNode) → 1 ≤ length (anchors_of list)
some_anchor list = omega arith

-- with one more GONE there are more
gone_within : (n : ℕ) (f f' : Facts) → ((k : ℕ) → k < n → f.status k ≡ gone_status → f'.status k ≡ gone_status) → gone_nodes n f ≤ gone_nodes n f'
gone_within zero f f' stay = omega arith
gone_within (suc n) f f' stay =
    let rest = gone_within n f f' (λ k below. stay k (omega arith)) in
    elim (f.status n == gone_status) as (λ b. (f.status n == gone_status) ≡ b → cond b 1 0 + gone_nodes n f ≤ gone_nodes (suc n) f') [
      | true ↦ λ is. subst (λ b. 1 + gone_nodes n f ≤ cond b 1 0 + gone_nodes n f') (sym (eq-eqb (f'.status n) gone_status (stay n (omega arith) (eqb-true (f.status n) gone_status is)))) (omega arith)
      | false ↦ λ isnt. omega arith
    ] refl

gone_rises : (n m : ℕ) (f f' : Facts) → m < n → ((k : ℕ) → k ≢ m → f'.status k ≡ f.status k) → f'.status m ≡ gone_status → f.status m ≢ gone_status → gone_nodes n f < gone_nodes n f'
gone_rises zero m f f' below others is wasnt = absurd (omega arith)
gone_rises (suc n) m f f' below others is wasnt = ⊎_elim
    (λ (last : n ≡ m).
    let rest = gone_within n f f' (λ k under gone. others k (λ e. omega arith) ∙ gone) in
    subst (λ (q : Bool × Bool). cond q.0 1 0 + gone_nodes n f < cond q.1 1 0 + gone_nodes n f')
    (λ j. (sym (ne_eqb (f.status n) gone_status (λ e. wasnt (sym (ap f.status last) ∙ e))) j, sym (eq-eqb (f'.status n) gone_status (ap f'.status last ∙ is)) j)) (omega arith))
    (λ (other : n ≢ m).
    let rest = gone_rises n m f f' (omega arith) others is wasnt in
    subst (λ (s : ℕ). cond (f.status n == gone_status) 1 0 + gone_nodes n f < cond (s == gone_status) 1 0 + gone_nodes n f') (sym (others n other)) (omega arith))
    (cases_eq n m)

module _ (name : List ℕ) (own : Option Change) (w0 : World) (i : ℕ) (w : World) (p : Party) (action : Action) (x : ℕ) (next : Stage) (o : Trying name own w0 i w p) where
  abbrev w' : World
  w' = stepped w i p action next

  -- the history after a step that counts nothing
  unwritten : counted p.stage ≡ None → w'.history ≡ w.history
  unwritten none = ap (λ (c : Option Change). w.history ++ written p.caller p.index c) none ∙ append-nil w.history

  others_after : (j : ℕ) (q : Party) → j ≢ i → get_elem? (set w.parties i (moved_on p next)) j ≡ some q → q.stage ≡ Idle
  others_after j q other at = o.others j q other (sym (set_else w.parties i j (moved_on p next) other) ∙ at)

  -- what was written stays so
  kept_written : counted p.stage ≡ None → placed_in next ≡ placed_in p.stage → HasWritten own w0 w' (moved_on p next)
  kept_written none placed = ⊎_elim
      (λ (was : (placed_in p.stage ≡ None) × (w.history ≡ w0.history)). inl (placed ∙ was.0, unwritten none ∙ was.1))
      (λ (was : (change : Change) × (w.history ≡ w0.history ++ written p.caller p.index (Some change)) × (placed_in p.stage ≢ None) × (own ≡ Some change)).
      inr (was.0, unwritten none ∙ was.1, (λ e. was.2 (sym placed ∙ e)), was.3))
      o.written

  unplaced : placed_in p.stage ≡ None → w.history ≡ w0.history
  unplaced = standing.unplaced name own w0 i w p o

  -- of another list that is the same
  cut_on : (facts w').list ≡ (facts w).list → IsHalvedSince name w0 w → IsHalvedSince name w0 w'
  cut_on same was = subst (IsCutSince name w0 w.layout) (sym same) was

  joined_on : (facts w').list ≡ (facts w).list → IsJoinedSince name w0 w → IsJoinedSince name w0 w'
  joined_on same was = record { shape = was.shape; list = same ∙ was.list; anchors = ap anchors_of same ∙ was.anchors }

  kept_shape : w'.history ≡ w.history → (facts w').list ≡ (facts w).list → is_cut next ≡ is_cut p.stage → placed_in next ≡ placed_in p.stage → Keeps p.stage next → HasShape name own w0 w p.stage
      → HasShape name own w0 w' next
  kept_shape history same cut placed kept (is_same uncut unmerged list) =
      is_same (cut ∙ uncut) (⊎_elim (λ out. out_unmerged next out) (λ (k : (has_merged next ≡ has_merged p.stage) × (has_retired next ≡ has_retired p.stage)). k.0 ∙ unmerged) kept) (same ∙ list)
  kept_shape history same cut placed kept (was_cut is halved before) = was_cut (cut ∙ is) (cut_on same halved) (history ∙ before)
  kept_shape history same cut placed kept (was_joined uncut merged given deletes joined) = was_joined
      (cut ∙ uncut)
      (⊎_elim
      (λ out. absurd (given (sym placed ∙ out_unplaced next out)))
      (λ (k : (has_merged next ≡ has_merged p.stage) × (has_retired next ≡ has_retired p.stage)). k.0 ∙ merged)
      kept)
      (λ e. given (sym placed ∙ e))
      deletes
      (joined_on same joined)

  -- how many nodes are GONE after the step
  abbrev Counts : Type 0
  Counts = (gone_nodes w.layout.nodes (facts w') ≡ gone_nodes w.layout.nodes (facts w))
      ⊎ (IsRetire p.stage next × (gone_nodes w.layout.nodes (facts w') ≡ gone_nodes w.layout.nodes (facts w) + 1))

  abbrev gone_first : ℕ
  gone_first = gone_nodes w0.layout.nodes (facts w0)

  kept_gone : has_retired next ≡ has_retired p.stage → Counts → HasGone w0 w' next
  kept_gone same counts = ⊎_elim
      (λ (e : gone_nodes w.layout.nodes (facts w') ≡ gone_nodes w.layout.nodes (facts w)). e ∙ o.gone ∙ ap (λ (b : Bool). gone_first + one_if b) (sym same))
      (λ (one : IsRetire p.stage next × (gone_nodes w.layout.nodes (facts w') ≡ gone_nodes w.layout.nodes (facts w) + 1)).
      absurd (both (ap has_retired one.0.is) (same ∙ ap has_retired one.0.was)))
      counts

  -- a step that isn't the last of a merge leaves whether a node became GONE
  same_retired : Keeps p.stage next → placed_in next ≡ placed_in p.stage → has_retired next ≡ has_retired p.stage
  same_retired kept placed = ⊎_elim
      (λ out. out_unretired next out ∙ sym (was_not (out_unplaced next out) o.shape))
      (λ (k : (has_merged next ≡ has_merged p.stage) × (has_retired next ≡ has_retired p.stage)). k.1)
      kept
    where
      was_not : placed_in next ≡ None → HasShape name own w0 w p.stage → has_retired p.stage ≡ false
      was_not none (is_same uncut unmerged list) = unmerged_unretired p.stage unmerged
      was_not none (was_cut is halved before) = cut_unretired p.stage is
      was_not none (was_joined uncut merged given deletes joined) = absurd (given (sym placed ∙ none))

  buried : (retire : IsRetire p.stage next) → Buries w.layout.nodes (facts w) (facts w') → Counts → HasGone w0 w' next
  buried retire more counts =
      let before : has_retired p.stage ≡ false = ap has_retired retire.was in
      let now : has_retired next ≡ true = ap has_retired retire.is in
      ⊎_elim
      (λ (e : gone_nodes w.layout.nodes (facts w') ≡ gone_nodes w.layout.nodes (facts w)). absurd (let rises = gone_rises w.layout.nodes more.node (facts w) (facts w') more.within more.others more.is more.wasnt in omega arith))
      (λ (one : IsRetire p.stage next × (gone_nodes w.layout.nodes (facts w') ≡ gone_nodes w.layout.nodes (facts w) + 1)).
      let was : gone_nodes w.layout.nodes (facts w) ≡ gone_first + 0 = o.gone ∙ ap (λ (b : Bool). gone_first + one_if b) before in
      let more_one = one.1 in
      let sum : gone_nodes w.layout.nodes (facts w') ≡ gone_first + 1 = omega arith in
      sum ∙ ap (λ (b : Bool). gone_first + one_if b) (sym now))
      counts

  -- what becomes of the anchors
  abbrev Moved : Type 0
  Moved = (anchors_of (facts w').list ≡ anchors_of (facts w).list)
      ⊎ (((switch : IsSwitch p.stage next) × (cut : CutsMember w.layout (facts w) (anchors_of (facts w').list)) × (cut.node ≡ switch.left.node))
      ⊎ ((join : IsJoin p.stage next) × (drop : DropsMember w.layout (facts w) (anchors_of (facts w').list)) × (drop.node ≡ join.left.node) × (drop.name ≡ join.held.name)))

  -- ---- the switch of a merge
  module _ (join : IsJoin p.stage next) (dropped : (facts w').list ≡ without_member join.right.node (facts w).list) (for : IsFor name own p.stage) where
    knows : SureJoins w.layout w.generation (facts w) p.caller p.index p.since join.held join.left join.right Gathered
    knows = subst (Sure w.layout w.generation (facts w) p.caller p.index p.since) join.was (o.lawful.sure i p o.there)

    deleted : HasDeleted name own join.held
    deleted = subst (IsFor name own) join.was for

    joins_list : (facts w).list ≡ (facts w0).list
    joins_list = standing.list_uncut name own w0 i w p o (ap is_cut join.was) (ap has_merged join.was)

    joins_history : w.history ≡ w0.history ++ written p.caller p.index (Some (Deletes name))
    joins_history = standing.deleted_history name own w0 i w p o join.held deleted (ap placed_in join.was)

    map_is : map_now (facts w) ≡ remove (map_now (facts w0)) name
    map_is = standing.deleted_map name own w0 i w p o join.held deleted (ap placed_in join.was)

    -- and the name had something
    had : IsSome (at (map_now (facts w0)) name)
    had =
        let is_placed : join.held.placed ≡ Some (length w0.history) = at_end join.held.placed knows.call.placed deleted.placed in
        let old : at (map_before (facts w) join.held.placed) join.held.name ≡ Some deleted.value =
        subst (λ (q : Option (Option ℕ)). IfSome q (λ old. at (map_before (facts w) join.held.placed) join.held.name ≡ old)) deleted.old knows.call.old in
        let now : at (after w.base w.history (length w0.history)) name ≡ Some deleted.value =
        subst (λ (n : List ℕ). at (after w.base w.history (length w0.history)) n ≡ Some deleted.value) deleted.named
        (subst (λ (q : Option ℕ). at (map_before (facts w) q) join.held.name ≡ Some deleted.value) is_placed old) in
        let before : after w.base w.history (length w0.history) ≡ map_now (facts w0) =
        (λ k. after (o.start.base k) (joins_history k) (length w0.history))
        ∙ after-longer w0.base w0.history (written p.caller p.index (Some (Deletes name))) (length w0.history) (omega arith) ∙ after-whole w0.base w0.history (length w0.history) refl in
        subst IsSome (sym (ap (λ m. at m name) (sym before) ∙ now)) refl
      where
        at_end : (q : Option ℕ) → IfSome q (IsPlaced w.history p.caller p.index p.since join.held.name) → q ≢ None → q ≡ Some (length w0.history)
        at_end None is given = absurd (given refl)
        at_end (Some place) is given =
            let size = ap length joins_history ∙ length-append w0.history (written p.caller p.index (Some (Deletes name))) in
            let since = o.start.since in
            let later = is.later in
            let within = is.within in
            let same : place ≡ length w0.history = omega arith in
            ap (λ (n : ℕ). Some n) same

    -- the node that goes is the one behind the target
    right_is : join.right.node ≡ next_node w0 name
    right_is = standing.leads_there name own w0 i w p o join.left.node join.right.node join.held.name deleted.named joins_list knows.call.inside knows.at.linked.listed knows.at.linked.leads

    joins_so : Moved → IsJoinedSince name w0 w'
    joins_so moved =
        let list : (facts w').list ≡ without_member (next_node w0 name) (facts w0).list = dropped ∙ (λ k. without_member (right_is k) (joins_list k)) in
        let layout : w.layout.slots ≡ w0.layout.slots = ap (λ (l : Layout). l.slots) o.start.layout in
        ⊎_elim
        (λ (same : anchors_of (facts w').list ≡ anchors_of (facts w).list). absurd (
        let among : IsMember (facts w).list join.right.node = ⊎_elim (λ (e : join.right.node ≡ 0). absurd (knows.nonzero e)) (λ is. is) knows.at.linked.listed_fresh in
        let less = shorter join.right.node (facts w).list among in
        let size = ap length (sym (ap anchors_of dropped) ∙ same) in
        omega arith
        ))
        (λ other. ⊎_elim
        (λ (cut : (switch : IsSwitch p.stage next) × (cut : CutsMember w.layout (facts w) (anchors_of (facts w').list)) × (cut.node ≡ switch.left.node)).
        absurd (let no = sym cut.0.was ∙ join.was in cc))
        (λ (drop : (join : IsJoin p.stage next) × (drop : DropsMember w.layout (facts w) (anchors_of (facts w').list)) × (drop.node ≡ join.left.node) × (drop.name ≡ join.held.name)).
        let before : Map = map_now (facts w0) in
        let a : Anchors = anchors_of (facts w0).list in
        let named : drop.1.name ≡ name = drop.3 ∙ (subst (IsFor name own) drop.0.was for).named in
        let anchors_same : anchors_of (facts w).list ≡ a = ap anchors_of joins_list in
        let is_next : next_of a name ≡ Some drop.1.next = (λ k. next_of (sym anchors_same k) (sym named k)) ∙ drop.1.is_next in
        let few : length (names_between (remove before name) (target_of a name) (slice_get (past a name) 1)) ≤ w0.layout.slots / 2 =
        subst (λ (q : ℕ). length (names_between (remove before name) (target_of a name) (slice_get (past a name) 1)) ≤ q / 2) layout
        (subst (λ (m : Map). length (names_between m (target_of a name) (slice_get (past a name) 1)) ≤ w.layout.slots / 2) map_is
        (subst (λ (q : Anchors × List ℕ). length (names_between (map_now (facts w)) (target_of q.0 q.1) (slice_get (past q.0 q.1) 1)) ≤ w.layout.slots / 2) (λ k. (anchors_same k, named k)) drop.1.few)) in
        let done = switch_is_delete w0.layout.slots before a name drop.1.next (list_has_anchors w0.layout (facts w0) o.start.began) had is_next few in
        record { shape = done.0; list = list; anchors = drop.1.less ∙ (λ k. without_name drop.1.next (anchors_same k)) ∙ done.1 })
        other)
        moved

  keeps : (kept : Lawful w') → HasWritten own w0 w' (moved_on p next) → HasShape name own w0 w' next → HasGone w0 w' next → Trying name own w0 i w' (moved_on p next)
  keeps kept wrote shape gone = record {
    lawful = kept;
    there = set_here w.parties i (moved_on p next) p o.there;
    start = o.start;
    others = others_after;
    written = wrote;
    shape = shape;
    gone = gone;
  }

  goes : (kept : Lawful w') → IsFor name own p.stage → IfSome (counted p.stage) (λ change. own ≡ Some change) → Counts → Moved → {r : Option (Once Placed)} → r ≡ None
      → Effect w.layout (facts w) (facts w') p.stage x next r → Trying name own w0 i w' (moved_on p next)
  goes kept for mine counts moved is (stays none placed cut alike same) =
      keeps kept (kept_written none placed) (kept_shape (unwritten none) same cut placed alike o.shape) (kept_gone (same_retired alike placed) counts)
  goes kept for mine counts moved is (adds {c = c} counted_is before given uncut still alike same) =
      let longer : w'.history ≡ w0.history ++ written p.caller p.index (Some c) =
      ap (λ (d : Option Change). w.history ++ written p.caller p.index d) counted_is ∙ ap (λ (h : List Write). h ++ written p.caller p.index (Some c)) (unplaced before) in
      let own_is : own ≡ Some c = subst (λ (d : Option Change). IfSome d (λ change. own ≡ Some change)) counted_is mine in
      let unmerged = standing.unplaced_unmerged name own w0 i w p o before uncut in
      let flags : (has_merged next ≡ false) × (has_retired next ≡ has_retired p.stage) = ⊎_elim
      (λ out. (out_unmerged next out, out_unretired next out ∙ sym (unmerged_unretired p.stage unmerged)))
      (λ (k : (has_merged next ≡ has_merged p.stage) × (has_retired next ≡ has_retired p.stage)). (k.0 ∙ unmerged, k.1))
      alike in
      keeps kept (inr (c, longer, (λ e. let no : Some x ≡ None = sym given ∙ e in cc), own_is)) (is_same still flags.0 (same ∙ standing.list_uncut name own w0 i w p o uncut unmerged)) (kept_gone flags.1 counts)
  goes kept for mine counts moved is (cuts none before after_it uncut cut alike halved) =
      let asks : (c : Cuts w.layout (facts w) (facts w').list p.stage) → (c.left.name ≡ name) × (c.left.old ≡ Some None) = λ c. subst (IsFor name own) c.is for in
      let history = unwritten none ∙ unplaced before in
      keeps kept (inl (after_it, history))
      (was_cut cut (record { before = facts w; chain = o.lawful.list; list = standing.list_uncut name own w0 i w p o uncut (standing.unplaced_unmerged name own w0 i w p o before uncut); map = λ k. after_all (o.start.base k) (unplaced before k); halved = halved.halved; lower = halved.lower; upper = halved.upper; inside = subst (λ n. range_of w.layout (facts w) halved.halved.node n ≡ true) (asks halved).0 halved.inside; lacks = ap (at (map_now (facts w))) (sym (asks halved).0) ∙ subst (λ (q : Option (Option ℕ)). IfSome q (λ old. at (map_now (facts w)) halved.left.name ≡ old)) (asks halved).1 halved.had }) history)
      (kept_gone (same_retired alike (after_it ∙ sym before)) counts)
  goes kept for mine counts moved is (drops join dropped) =
      let placed : placed_in next ≡ placed_in p.stage = ap placed_in join.is ∙ sym (ap placed_in join.was) in
      keeps kept (kept_written (ap counted join.was) placed)
      (was_joined (ap is_cut join.is) (ap has_merged join.is) (λ e. (deleted join dropped for).placed (sym (ap placed_in join.is) ∙ e)) (deleted join dropped for).deletes (joins_so join dropped for moved))
      (kept_gone (ap has_retired join.is ∙ sym (ap has_retired join.was)) counts)
  goes kept for mine counts moved is (buries retire same more) =
      let none : counted p.stage ≡ None = ap counted retire.was in
      let placed : placed_in next ≡ placed_in p.stage = ap placed_in retire.is ∙ sym (ap placed_in retire.was) in
      let cut : is_cut next ≡ is_cut p.stage = ap is_cut retire.is ∙ sym (ap is_cut retire.was) in
      keeps kept (kept_written none placed) (at_retire (unwritten none) same cut placed retire o.shape) (buried retire more counts)
    where
      at_retire : w'.history ≡ w.history → (facts w').list ≡ (facts w).list → is_cut next ≡ is_cut p.stage → placed_in next ≡ placed_in p.stage → IsRetire p.stage next → HasShape name own w0 w p.stage
          → HasShape name own w0 w' next
      at_retire history same cut placed retire (is_same uncut unmerged list) = absurd (both (ap has_merged retire.was) unmerged)
      at_retire history same cut placed retire (was_cut is halved before) = absurd (both is (ap is_cut retire.was))
      at_retire history same cut placed retire (was_joined uncut merged given deletes joined) = was_joined (cut ∙ uncut) (ap has_merged retire.is) (λ e. given (sym placed ∙ e)) deletes (joined_on same joined)
  goes kept for mine counts moved is (ends none other before same) = absurd (cc)
  goes kept for mine counts moved is (is_done none done same) = absurd (cc)

  -- what the step does, as of the index
  does : {r : Option (Once Placed)} → Step w.layout w.generation p.stage action x next r → x ≡ got w.layout w.words action → Effect w.layout (facts w) (facts w') p.stage x next r
  does {r = r} k told =
      let knows = o.lawful.sure i p o.there in
      subst (λ (φ : Facts). Effect w.layout (facts w) φ p.stage x next r) (sym (facts_step w.words w.base w.history p.caller p.index p.since k o.lawful.row o.lawful.list told knows))
      (step_does (facts w) o.lawful.list p.caller p.index p.since k knows)

  history_left : counted p.stage ≡ None → LeavesHistory own w0 w' p
  history_left none = (
    (λ before. unwritten none ∙ unplaced before),
    (λ given. unwritten none ∙ ⊎_elim
        (λ (was : (placed_in p.stage ≡ None) × (w.history ≡ w0.history)). absurd (given was.0))
        (λ (was : (change : Change) × (w.history ≡ w0.history ++ written p.caller p.index (Some change)) × (placed_in p.stage ≢ None) × (own ≡ Some change)).
        was.1 ∙ ap (λ (c : Option Change). w0.history ++ written p.caller p.index c) (sym was.3))
        o.written),
  )

  left_history : {answer : Once Placed} {r : Option (Once Placed)} → r ≡ Some answer → Effect w.layout (facts w) (facts w') p.stage x next r → LeavesHistory own w0 w' p
  left_history is (stays none placed cut alike same) = absurd (cc)
  left_history is (adds counted_is before given uncut still alike same) = absurd (cc)
  left_history is (cuts none before after_it uncut cut alike halved) = absurd (cc)
  left_history is (drops join dropped) = absurd (cc)
  left_history is (buries retire same more) = absurd (cc)
  left_history is (ends none other before same) = history_left none
  left_history is (is_done none done same) = history_left none

  -- what its answer says
  module _ (answer : Once Placed) (about : IsAbout name p.stage) (kept : Lawful w') (quiet : gone_nodes w.layout.nodes (facts w') ≡ gone_nodes w.layout.nodes (facts w))
      (legal : IsLegal w.layout w.generation (facts w') p.caller p.index p.since p.stage (Some answer)) where
    -- as many nodes are GONE as there were
    most_same : has_retired p.stage ≡ false → members_most w' ≡ members_most w0
    most_same unretired =
        let was : gone_nodes w.layout.nodes (facts w) ≡ gone_first + 0 = o.gone ∙ ap (λ (b : Bool). gone_first + one_if b) unretired in
        let now : gone_nodes w.layout.nodes (facts w') ≡ gone_first = omega arith in
        let nodes : w.layout.nodes ≡ w0.layout.nodes = ap (λ (l : Layout). l.nodes) o.start.layout in
        λ k. nodes k - now k

    -- or one more
    most_less : has_retired p.stage ≡ true → members_most w' + 1 ≡ members_most w0
    most_less retired =
        let was : gone_nodes w.layout.nodes (facts w) ≡ gone_first + 1 = o.gone ∙ ap (λ (b : Bool). gone_first + one_if b) retired in
        let nodes : w.layout.nodes ≡ w0.layout.nodes = ap (λ (l : Layout). l.nodes) o.start.layout in
        let few = (nodes_are_counted w' kept).few in
        let some = some_anchor (facts w').list in
        let room : gone_first + 1 < w.layout.nodes = omega arith in
        let here : w.layout.nodes - gone_nodes w.layout.nodes (facts w') + 1 ≡ w.layout.nodes - gone_first = omega arith in
        here ∙ ap (λ (n : ℕ). n - gone_first) nodes

    refused : counted p.stage ≡ None → placed_in p.stage ≡ None → (facts w').list ≡ (facts w).list → (IsDone answer → ⊥) → Says w0 w' name own p.stage answer
    refused none before same other = says answer legal other
      where
        history : w'.history ≡ w0.history
        history = unwritten none ∙ unplaced before

        list_is : (r : Once Placed) → IsLegal w.layout w.generation (facts w') p.caller p.index p.since p.stage (Some r) → ((n : ℕ) → r ≡ once.Again (again.NeedsSplit n) → ⊥) → HasKeptList w0 w'
        list_is r is_legal unsplit = at o.shape
          where
            at : HasShape name own w0 w p.stage → HasKeptList w0 w'
            at (is_same uncut unmerged list) = (same ∙ list, most_same (unmerged_unretired p.stage unmerged))
            at (was_cut is halved before_it) = let split = cut_answer w.layout w.generation (facts w') p.caller p.index p.since p.stage r is is_legal in absurd (unsplit split.0 split.1)
            at (was_joined uncut merged given deletes joined) = absurd (given before)

        says : (r : Once Placed) → IsLegal w.layout w.generation (facts w') p.caller p.index p.since p.stage (Some r) → (IsDone r → ⊥) → Says w0 w' name own p.stage r
        says (once.Done placed) is_legal not_done = absurd (not_done tt)
        says (once.Spent clock) is_legal not_done =
            let told = spent_tells w.layout w.generation (facts w') p.caller p.index p.since p.stage clock is_legal in
            let since = o.start.since in let later = told.0 in let within = told.1 in let longer = ap length history in
            (omega arith, history, list_is (once.Spent clock) is_legal (λ n e. cc))
        says (once.Worn node word) is_legal not_done = (history, list_is (once.Worn node word) is_legal (λ n e. cc))
        says (once.Again (again.NeedsSplit node)) is_legal not_done = let shape = at o.shape in (history, shape.0, shape.1)
          where
            at : HasShape name own w0 w p.stage → IsHalvedSince name w0 w' × (members_most w' ≡ members_most w0)
            at (is_same uncut unmerged list) = absurd (uncut_answer w.layout w.generation (facts w') p.caller p.index p.since p.stage node uncut is_legal)
            at (was_cut is halved before_it) = (cut_on same halved, most_same (cut_unretired p.stage is))
            at (was_joined uncut merged given deletes joined) = absurd (given before)
        says (once.Again (again.Locked n word)) is_legal not_done = (history, list_is _ is_legal (λ n e. cc))
        says (once.Again (again.Moved n first second)) is_legal not_done = (history, list_is _ is_legal (λ n e. cc))
        says (once.Again (again.Hops count)) is_legal not_done = (history, list_is _ is_legal (λ n e. cc))
        says (once.Again again.LogFull) is_legal not_done = (history, list_is _ is_legal (λ n e. cc))
        says (once.Again again.NoFree) is_legal not_done = (history, list_is _ is_legal (λ n e. cc))
        says (once.Again (again.Held word)) is_legal not_done = (history, list_is _ is_legal (λ n e. cc))
        says (once.Again (again.Epoch first second)) is_legal not_done = (history, list_is _ is_legal (λ n e. cc))

    took_effect : counted p.stage ≡ None → (facts w').list ≡ (facts w).list → IsDone answer → Says w0 w' name own p.stage answer
    took_effect none same done = says answer legal done
      where
        says : (r : Once Placed) → IsLegal w.layout w.generation (facts w') p.caller p.index p.since p.stage (Some r) → IsDone r → Says w0 w' name own p.stage r
        says (once.Spent clock) is_legal done_it = absurd done_it
        says (once.Worn node word) is_legal done_it = absurd done_it
        says (once.Again why) is_legal done_it = absurd done_it
        says (once.Done placed) is_legal done_it =
            let told = legal_tells w.layout w.generation (facts w') p.caller p.index p.since name p.stage placed about is_legal in
            let since = o.start.since in
            let later = told.later in
            ⊎_elim
            (λ (was : (placed_in p.stage ≡ None) × (w.history ≡ w0.history)).
            let longer = ap length (unwritten none ∙ was.1) in
            let within = told.within in
            let place : placed.place ≡ length w0.history = omega arith in (
              told.old ∙ (λ k. at (after (o.start.base k) ((unwritten none ∙ was.1) k) placed.place) name) ∙ ap (λ m. at m name) (after-whole w0.base w0.history placed.place place),
              place,
              shape_left o.shape,
            ))
            (λ (was : (change : Change) × (w.history ≡ w0.history ++ written p.caller p.index (Some change)) × (placed_in p.stage ≢ None) × (own ≡ Some change)).
            let within = place_within w.layout w.generation (facts w) (facts w') p.caller p.index p.since p.stage placed (o.lawful.sure i p o.there) was.2 is_legal in
            let longer = ap length was.1 ∙ length-append w0.history (written p.caller p.index (Some was.0)) in
            let place : placed.place ≡ length w0.history = omega arith in (
              told.old ∙ (λ k. at (after (o.start.base k) ((unwritten none ∙ was.1) k) placed.place) name)
                  ∙ ap (λ m. at m name) (after-longer w0.base w0.history (written p.caller p.index (Some was.0)) placed.place (omega arith) ∙ after-whole w0.base w0.history placed.place place),
              place,
              shape_left o.shape,
            ))
            o.written
          where
            shape_left : HasShape name own w0 w p.stage → HasKeptOrMerged w0 w' name own p.stage
            shape_left (is_same uncut unmerged list) = inl (unmerged, (same ∙ list, most_same (unmerged_unretired p.stage unmerged)))
            shape_left (was_cut is halved before) =
                let split = cut_answer w.layout w.generation (facts w') p.caller p.index p.since p.stage (once.Done placed) is is_legal in
                absurd (let no : once.Done placed ≡ once.Again (again.NeedsSplit split.0) = split.1 in cc)
            shape_left (was_joined uncut merged given deletes joined) =
                let retired = done_retired w.layout w.generation (facts w') p.caller p.index p.since p.stage placed is_legal ∙ merged in
                let now = joined_on same joined in
                inr (merged, deletes, joined.shape, record { list = now.list; anchors = now.anchors; most = most_less retired })

    says_so : {r : Option (Once Placed)} → r ≡ Some answer → Effect w.layout (facts w) (facts w') p.stage x next r → Says w0 w' name own p.stage answer
    says_so is (stays none placed cut alike same) = absurd (cc)
    says_so is (adds counted_is before given uncut still alike same) = absurd (cc)
    says_so is (cuts none before after_it uncut cut alike halved) = absurd (cc)
    says_so is (drops join dropped) = absurd (cc)
    says_so is (buries retire same more) = absurd (cc)
    says_so is (ends {r = r} none other before same) = refused none before same (λ done. other (subst IsDone (some_same is) done))
    says_so is (is_done {r = r} none done same) = took_effect none same (subst IsDone (sym (some_same is)) done)

pub tries_go : TriesGo
tries_go name own w0 i w p action x next o for mine (on_nodes step) told room = goes name own w0 i w p action x next o
    (step_law w i p action x next None o.lawful o.there step told room).kept for mine (step_counts_gone w i p action x next None o.lawful o.there step told)
    (step_moves_anchors w i p action x next None o.lawful o.there step told) refl (does name own w0 i w p action x next o step told)
tries_go name own w0 i w p action x next o for mine (beside none is) told room =
    let law = beside_keeps w i p action o.lawful o.there none is in
    goes name own w0 i w p action x p.stage o law.kept for mine (inl (ap (gone_nodes w.layout.nodes) law.facts)) (inl (ap (λ (f : Facts). anchors_of f.list) law.facts)) refl
    (stays none refl refl (inr (refl, refl)) (ap (λ (f : Facts). f.list) law.facts))

pub tries_end : TriesEnd
tries_end name own w0 i w p action x next answer o for about (on_nodes step) told room =
    let idle = answers_idle step refl in
    let law = step_law w i p action x next (Some answer) o.lawful o.there step told room in
    let quiet : gone_nodes w.layout.nodes (facts (stepped w i p action next)) ≡ gone_nodes w.layout.nodes (facts w) = ⊎_elim
    (λ same. same)
    (λ (one : IsRetire p.stage next × (gone_nodes w.layout.nodes (facts (stepped w i p action next)) ≡ gone_nodes w.layout.nodes (facts w) + 1)). absurd (subst IsOut (sym idle ∙ one.0.is) tt))
    (step_counts_gone w i p action x next (Some answer) o.lawful o.there step told) in (
      idle_law (stepped w i p action next) law.kept (each_set (λ (q : Party). q.stage ≡ Idle) w.parties i (moved_on p next) (λ j q other at. o.others j q other at) idle),
      says_so name own w0 i w p action x next o answer about law.kept quiet law.legal refl (does name own w0 i w p action x next o step told),
      left_history name own w0 i w p action x next o refl (does name own w0 i w p action x next o step told),
    )
