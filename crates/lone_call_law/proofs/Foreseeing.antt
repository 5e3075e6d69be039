-- What a lone call has found out of the index as it began, turn by turn: a put that its node is full, a delete that it
-- tries to merge.
use Rattle.std.proofs.Common.{◌≡◌, ◌≢◌, ℕ, ◌/◌, ◌<◌, ◌≤◌, ◌==◌, nat_lt, true, false, cond, List, refl, sym, ap, ◌∙◌, subst, arith, ltb-true, ltb-false, eqb-true}
use Rattle.std.proofs.lemmas.Bool.{eqb-false}
use Rattle.std.specs.Prelude.{is_some, Option, Some, None, IfSome, slice_index, length}
use Rattle.std.specs.FinMap.{remove}
use Rattle.pm_words.specs.declared.layout.Layout.{Layout}
use Rattle.pm_words.specs.declared.action.Action.{Action}
use Rattle.pm_words.specs.declared.action.Action.TheVariants.{Load}
use Rattle.pm_words.specs.declared.fence.Fence.{Fence}
use Rattle.pm_words.specs.declared.machine.Turn.{Turn}
use Rattle.pm_words.specs.declared.machine.Turn.TheVariants.{Go, Done}
use Rattle.pm_words.specs.Fences.{fence_next}
use Rattle.pm_words.specs.Rows.{got}
use Rattle.pm_words.specs.Offsets.{bitmap_offset, next_offset}
use Rattle.cat_history.specs.Maps.{at}
use Rattle.cat_history.specs.declared.op.Change.{Change}
use Rattle.cat_history.specs.declared.op.Change.TheVariants.{Del as Deletes}
use Rattle.cat_history.specs.declared.op.NameOp.{NameOp}
use Rattle.cat_history.specs.declared.op.NameOp.TheVariants as op
use Rattle.shapes.specs.Anchors.{names_at}
use Rattle.shapes.proofs.Orders.{clash}
use Rattle.data_node.specs.Slots.{AreAllLive}
use Rattle.data_node.specs.Bits.{live_count, lowest_clear}
use Rattle.data_node.proofs.LiveCounts.{live_without}
use Rattle.call_stages.specs.declared.once.Once.{Once}
use Rattle.call_stages.specs.declared.once.Once.TheVariants as once
use Rattle.call_stages.specs.declared.once.Placed.{Placed}
use Rattle.call_stages.specs.declared.view.View.{View}
use Rattle.call_stages.specs.Kinds.{word_address}
use Rattle.call_stages.specs.Stages.{Held, Stage, Holds, placed_in}
use Rattle.smo_log.specs.declared.take.Take.{Take}
use Rattle.smo_log.specs.declared.take.Taken.{Taken}
use Rattle.smo_log.specs.declared.take.Taken.TheVariants as taken
use Rattle.smo_log.specs.Takes.{take_from, take_turned}
use Rattle.split_merge.specs.declared.joining.Join.{Join}
use Rattle.split_merge.specs.declared.joining.JoinAt.{JoinAt}
use Rattle.split_merge.specs.declared.joining.JoinAt.TheVariants as join_at
use Rattle.split_merge.specs.declared.merging.Merge.{Merge}
use Rattle.split_merge.specs.declared.merging.MergeAt.{MergeAt}
use Rattle.split_merge.specs.declared.merging.MergeAt.TheVariants as merge_at
use Rattle.split_merge.specs.declared.merging.Merged.{Merged}
use Rattle.split_merge.specs.declared.splitting.Split.{Split}
use Rattle.split_merge.specs.declared.splitting.SplitDone.{SplitDone}
use Rattle.split_merge.specs.declared.splitting.SplitDone.TheVariants as done
use Rattle.split_merge.specs.JoinStages.{join_at_stage}
use Rattle.split_merge.specs.MergeStages.{merge_at_footing}
use Rattle.split_merge.specs.Merges.{merge_at_turned, merge_turned}
use Rattle.split_merge.specs.Splits.{split_turned}
use Rattle.node_ops.specs.declared.call.Call.{Call}
use Rattle.node_ops.specs.declared.del.Del.{Del}
use Rattle.node_ops.specs.declared.del.Del.TheVariants as del
use Rattle.node_ops.specs.declared.single_del.SingleDel.TheVariants as single_del
use Rattle.node_ops.specs.declared.put.Put.{Put}
use Rattle.node_ops.specs.declared.put.Put.TheVariants as put
use Rattle.node_ops.specs.declared.single_put.SinglePut.TheVariants as single_put
use Rattle.node_ops.specs.declared.fill.Fill.{Fill}
use Rattle.node_ops.specs.declared.finish.Finish.{Finish}
use Rattle.node_ops.specs.declared.finish.FinishAt.{FinishAt}
use Rattle.node_ops.specs.declared.finish.FinishAt.TheVariants as finish_at
use Rattle.node_ops.specs.declared.lookup.Found.{Found}
use Rattle.node_ops.specs.declared.lookup.Hit.{Hit}
use Rattle.node_ops.specs.declared.lookup.Hold.{Hold}
use Rattle.node_ops.specs.declared.lookup.Looked.{Looked}
use Rattle.node_ops.specs.declared.lookup.Looked.TheVariants as looked
use Rattle.node_ops.specs.declared.lookup.Lookup.{Lookup}
use Rattle.node_ops.specs.Calls.{name_in, call_address}
use Rattle.node_ops.specs.CallStages.{finish_at_held, knows, seen_hit, decided, found_in, found_full, put_stage, del_stage, has_place}
use Rattle.node_ops.specs.DelSteps.{IsDel, IsUnplaced, del_call, del_asks, del_turned, del_looked, del_slot, del_hit, names_left, saw_next, del_taken, cleared, goes_on, del_finished, del_merged}
use Rattle.node_ops.specs.PutSteps.{IsPut, put_call, put_asks, put_turned, put_looked, put_into, put_full, put_filled, put_finished, put_split}
use Rattle.node_ops.specs.FillSteps.{fill_turned}
use Rattle.node_ops.specs.FinishSteps.{finish_turned, finish_at_turned, finish_fenced}
use Rattle.node_ops.specs.LookupSteps.{IsHit, lookup_turned}
use Rattle.index_law.specs.Anchors.{anchors_in}
use Rattle.index_law.specs.Facts.{Facts, map_now}
use Rattle.index_law.specs.Lawful.{IsList, Sure, SureHolds}
use Rattle.index_law.specs.Laws.{IsLegal, IsAtRest}
use Rattle.index_law.specs.LoneShapes.{has_merged}
use Rattle.index_law.specs.Worlds.{Party, World, facts, stepped, moved_on}
use Rattle.index_law.proofs.Rows.{spot_in-here}
use Rattle.lone_call_law.specs.Locks.{HasLocked}
use Rattle.lone_call_law.specs.LoneCalls.{HadValue, DelIsThere, DelForesees, PutForesees, del_leaves}
use Rattle.lone_call_law.specs.Merging.{KeepsFew, TriesMerge, NextIsWorn}
use Rattle.lone_call_law.specs.MergeStands.{FindsNone, MergeForesees}
use Rattle.lone_call_law.specs.Splitting.{HasLine}
use Rattle.lone_call_law.specs.Tries.{HasDeleted, Trying}
use Rattle.lone_call_law.proofs.MergeStands.{live_is, ForeseesSo, merge_foresees}
use Rattle.lone_call_law.proofs.Standing.{both, shape_tries, no_next_was, next_was, had_was, left_was, full_was}
use Rattle.node_ops.proofs.Endings.{lookup_placed}
use Rattle.data_list.specs.WalkStages.{live_sight}
use Rattle.std.specs.Prelude.{[]}

-- where it is after a turn
abbrev pub DelForeseesSo : World → List ℕ → Turn Del (Once Placed) → Type 0
DelForeseesSo w0 name (Go next) = DelForesees w0 name next
DelForeseesSo w0 name (Done answer) = Unit {0}

-- it goes on to this state, which is in order, in a world in which the try goes on
abbrev pub GoesOnTo : List ℕ → Option Change → World → ℕ → World → Party → Action → Turn Del (Once Placed) → Type 0
GoesOnTo name own w0 i w p action turn = (next : Del) → turn ≡ Go next → IsDel next × Trying name own w0 i (stepped w i p action (del_stage next)) (moved_on p (del_stage next))

module _ (name : List ℕ) (w0 : World) (i : ℕ) (w : World) (p : Party) (o : Trying name (Some (Deletes name)) w0 i w p) (rest : IsAtRest w0) where
  abbrev own : Option Change
  own = Some (Deletes name)

  abbrev After : Action → Turn Del (Once Placed) → Type 0
  After action turn = GoesOnTo name own w0 i w p action turn

  -- whether it looks where its node leads, or clears the slot, it has found the name in it
  slot_stage : (call : Call) (hold : Hold) (bitmap : ℕ) (hit : Hit) → del_stage (del_slot call hold bitmap hit) ≡ found_in call hold bitmap hit
  slot_stage call hold bitmap hit =
      elim (nat_lt (call.view.layout.slots / 2) (names_left call bitmap hit)) as (λ b. del_stage (cond b (del.Single (single_del.Clearing call hold bitmap hit None)) (del.Single (single_del.Next call hold bitmap hit))) ≡ found_in call hold bitmap hit) [
        | true ↦ refl
        | false ↦ refl
      ]

  slot_hit : (call : Call) (hold : Hold) (bitmap : ℕ) (hit : Hit) → IsDel (del_slot call hold bitmap hit) → IsHit call.view.layout.slots bitmap hit
  slot_hit call hold bitmap hit =
      elim (nat_lt (call.view.layout.slots / 2) (names_left call bitmap hit)) as (λ b. IsDel (cond b (del.Single (single_del.Clearing call hold bitmap hit None)) (del.Single (single_del.Next call hold bitmap hit))) → IsHit call.view.layout.slots bitmap hit) [
        | true ↦ λ is. is.0.hit
        | false ↦ λ is. is.0.hit
      ]

  -- the name is in this slot: without it the target keeps as many names as its node
  module _ (call : Call) (hold : Hold) (bitmap : ℕ) (hit : Hit) (action : Action) (named : name_in call ≡ name) (layout : call.view.layout ≡ w.layout) (after : After action (Go (del_slot call hold bitmap hit))) where
    abbrev w' : World
    w' = stepped w i p action (del_stage (del_slot call hold bitmap hit))

    abbrev p' : Party
    p' = moved_on p (del_stage (del_slot call hold bitmap hit))

    abbrev held : Held
    held = decided call hold (Some hit.value) (knows (seen_hit call bitmap (Some hit)))

    trying : Trying name own w0 i w' p'
    trying = (after (del_slot call hold bitmap hit) refl).1

    sure : SureHolds w.layout w.generation (facts w') p.caller p.index p.since call.node hold.locked held
    sure = subst (Sure w.layout w.generation (facts w') p.caller p.index p.since) (slot_stage call hold bitmap hit) (trying.lawful.sure i p' trying.there)

    had : at (map_now (facts w0)) name ≡ Some hit.value
    had = had_was name own w0 i w' p' trying call.node hold.locked held (Some hit.value) (slot_stage call hold bitmap hit) named refl refl

    halves : call.view.layout.slots / 2 ≡ w0.layout.slots / 2
    halves = ap (λ (l : Layout). l.slots / 2) (layout ∙ o.start.layout)

    keeps : length (names_at (remove (map_now (facts w0)) name) (anchors_in w0) name) ≡ names_left call bitmap hit
    keeps =
        let left = left_was name own w0 i w' p' trying call.node hold.locked held hit.value (slot_stage call hold bitmap hit) named refl refl refl in
        let word : (facts w').now call.node bitmap_offset ≡ bitmap = sure.knows.seen.0 in
        let live = live_is w.layout.slots ((facts w').now call.node) ∙ (λ k. live_count (sym layout k).slots (word k)) in
        let is = slot_hit call hold bitmap hit (after (del_slot call hold bitmap hit) refl).0 in
        let slots = o.lawful.row.layout.slots in
        let small : call.view.layout.slots ≤ 64 = subst (λ (l : Layout). l.slots ≤ 64) (sym layout) (omega arith) in
        let one = live_without call.view.layout.slots bitmap hit.slot small is.within is.live in
        omega arith

    slot_foresees : DelForesees w0 name (del_slot call hold bitmap hit)
    slot_foresees =
        elim (nat_lt (call.view.layout.slots / 2) (names_left call bitmap hit)) as (λ b. nat_lt (call.view.layout.slots / 2) (names_left call bitmap hit) ≡ b
        → DelForesees w0 name (cond b (del.Single (single_del.Clearing call hold bitmap hit None)) (del.Single (single_del.Next call hold bitmap hit)))) [
          | true ↦ λ many. λ tries.
              let more = ltb-true (call.view.layout.slots / 2) (names_left call bitmap hit) many in
              let few = tries.0.1 in
              let same = keeps in
              let half = halves in
              omega arith
          | false ↦ λ few.
              let no_more = ltb-false (call.view.layout.slots / 2) (names_left call bitmap hit) few in
              let same = keeps in
              let half = halves in
              (ap is_some had, omega arith)
        ] refl

  -- the name is in no slot, or in this one
  found_foresees : (call : Call) (found : Found) (hit : Option Hit) (action : Action) → name_in call ≡ name → call.view.layout ≡ w.layout → After action (Go (del_hit call found.hold found.directory.bitmap hit))
      → DelForesees w0 name (del_hit call found.hold found.directory.bitmap hit)
  found_foresees call found None action named layout after = λ tries.
      let finish : Finish = record { call = call; hold = found.hold; old = None; new = None; at = finish_at.Add } in
      let next : Del = del.Single (single_del.Finishing finish None) in
      let none = had_was name own w0 i (stepped w i p action (del_stage next)) (moved_on p (del_stage next)) (after next refl).1 call.node found.hold.locked (finish_at_held finish finish_at.Add) None refl named refl refl in
      clash tries.0.0 (ap is_some none)
  found_foresees call found (Some hit) action named layout after = slot_foresees call found.hold found.directory.bitmap hit action named layout after

  looked_foresees : (call : Call) (turn : Turn Lookup Looked) (action : Action) → name_in call ≡ name → call.view.layout ≡ w.layout → After action (del_looked call turn) → DelForeseesSo w0 name (del_looked call turn)
  looked_foresees call (Go next) action named layout after = tt
  looked_foresees call (Done (looked.Early answer)) action named layout after = tt
  looked_foresees call (Done (looked.Found found)) action named layout after = found_foresees call found found.hit action named layout after

  -- its node leads to none, or it looks for a line
  next_foresees : (call : Call) (hold : Hold) (bitmap : ℕ) (hit : Hit) (x : ℕ) → p.stage ≡ del_stage (del.Single (single_del.Next call hold bitmap hit)) → name_in call ≡ name → call.node < w.layout.nodes → call.view.layout ≡ w.layout
      → KeepsFew w0 name → x ≡ got w.layout w.words (Load (call_address call next_offset)) → DelForesees w0 name (saw_next call hold bitmap hit x)
  next_foresees call hold bitmap hit x stage named within layout few told =
      elim (x == 0) as (λ b. (x == 0) ≡ b → DelForesees w0 name (cond b (del.Single (single_del.Clearing call hold bitmap hit None)) (del.Single (single_del.Taking call hold bitmap hit (take_from call.view.layout call.view.caller))))) [
        | true ↦ λ zero. λ tries. clash tries.1 (ap is_some (no_next_was name own w0 i w p o call.node hold.locked _ stage refl named (word ∙ eqb-true x 0 zero)))
        | false ↦ λ other. (few, next_was name own w0 i w p o call.node hold.locked _ stage refl named (λ zero. eqb-false x 0 other (sym word ∙ zero)))
      ] refl
    where
      word : (facts w).now call.node next_offset ≡ x
      word = spot_in-here w.layout w.words call.node next_offset (within, let slots = o.lawful.row.layout.slots.0 in omega arith) (omega arith)
          ∙ sym (told ∙ ap (λ (l : Layout). slice_index w.words (word_address l call.node next_offset)) layout)

  taken_foresees : (call : Call) (hold : Hold) (bitmap : ℕ) (hit : Hit) → TriesMerge w0 name → (turn : Turn Take Taken) → DelForeseesSo w0 name (del_taken call hold bitmap hit turn)
  taken_foresees call hold bitmap hit tries (Go take) = tries
  taken_foresees call hold bitmap hit tries (Done (taken.Line line)) = tt
  taken_foresees call hold bitmap hit tries (Done taken.Full) = tries

  -- the bit is clear
  cleared_foresees : (call : Call) (hold : Hold) (bitmap : ℕ) (hit : Hit) (line : Option ℕ) → DelForesees w0 name (del.Single (single_del.Clearing call hold bitmap hit line)) → DelForesees w0 name (del.Single (single_del.Finishing (cleared call hold hit) line))
  cleared_foresees call hold bitmap hit (Some line) so = (hit.value, refl)
  cleared_foresees call hold bitmap hit None so = so

  -- the end of a write keeps what was found out
  goes_foresees : (finish : Finish) (line : Option ℕ) → DelForesees w0 name (del.Single (single_del.Finishing finish line)) → (at : FinishAt) → DelForesees w0 name (goes_on (record finish { at = at }) line)
  goes_foresees finish None so at = so
  goes_foresees finish (Some number) so (finish_at.Fence first fence) = so
  goes_foresees finish (Some number) so finish_at.Add = so
  goes_foresees finish (Some number) so (finish_at.Unlock place) = (so, tt)

  finished_foresees : (finish : Finish) (line : Option ℕ) (x : ℕ) → DelForesees w0 name (del.Single (single_del.Finishing finish line)) → (at : FinishAt) → DelForeseesSo w0 name (del_finished line (finish_at_turned finish at x))
  finished_foresees finish line x so (finish_at.Fence first fence) = on (fence_next fence x)
    where
      on : (o : Option Fence) → DelForeseesSo w0 name (del_finished line (finish_fenced finish first o))
      on (Some next) = goes_foresees finish line so (finish_at.Fence first next)
      on None = goes_foresees finish line so finish_at.Add
  finished_foresees finish line x so finish_at.Add = goes_foresees finish line so (finish_at.Unlock x)
  finished_foresees finish line x so (finish_at.Unlock place) = tt

  merged_foresees : (call : Call) (hold : Hold) (old : Option ℕ) (place : ℕ) → HadValue old → (turn : Turn Merge Merged) → ForeseesSo w0 name turn → DelForeseesSo w0 name (del_merged call hold old place turn)
  merged_foresees call hold old place value (Go next) so = (value, so)
  merged_foresees call hold old place value (Done merged) so = tt

  -- each turn
  pub del_foresees : (machine : Del) (x : ℕ) → IsDel machine → name_in (del_call machine) ≡ name → (del_call machine).view.layout ≡ w.layout → (del_call machine).view.generation ≡ w.generation → p.stage ≡ del_stage machine
      → DelForesees w0 name machine → HasLocked w.generation (facts w0).version (facts w).version (del_leaves machine) (del_stage machine) → x ≡ got w.layout w.words (del_asks machine)
      → After (del_asks machine) (del_turned machine x) → DelForeseesSo w0 name (del_turned machine x)
  del_foresees (del.Single (single_del.Looking lookup)) x sound named layout generation stage so locks told after = looked_foresees lookup.call (lookup_turned lookup x) (del_asks (del.Single (single_del.Looking lookup))) named layout after
  del_foresees (del.Single (single_del.Next call hold bitmap hit)) x sound named layout generation stage so locks told after =
      next_foresees call hold bitmap hit x stage named (subst (λ (l : Layout). call.node < l.nodes) layout sound.0.call.node) layout so told
  del_foresees (del.Single (single_del.Taking call hold bitmap hit take)) x sound named layout generation stage so locks told after = taken_foresees call hold bitmap hit so (take_turned take x)
  del_foresees (del.Single (single_del.Refusing call hold bitmap hit)) x sound named layout generation stage so locks told after = tt
  del_foresees (del.Single (single_del.Clearing call hold bitmap hit line)) x sound named layout generation stage so locks told after =
      cleared_foresees call hold bitmap hit line so
  del_foresees (del.Single (single_del.Finishing finish line)) x sound named layout generation stage so locks told after = finished_foresees finish line x so finish.at
  del_foresees (del.Merging call hold old place merge) x sound named layout generation stage so locks told after =
      let own_layout : merge.view.layout ≡ w.layout = ap (λ (v : View). v.layout) sound.view ∙ layout in
      let own_generation : merge.view.generation ≡ w.generation = ap (λ (v : View). v.generation) sound.view ∙ generation in
      let deleted : HasDeleted name own (has_place call old place) = record { named = named; deletes = refl; placed = λ e. cc; value = so.0.0; old = ap (λ (q : Option ℕ). Some q) so.0.1 } in
      merged_foresees call hold old place so.0 (merge_turned merge x)
      (merge_foresees name own w0 i w p o rest merge (has_place call old place) deleted refl own_layout own_generation (subst (λ (l : Layout). merge.node < l.nodes) own_layout sound.here.node) x stage sound.here.here locks so.1 told)

-- ---- as it is answered

-- a delete that has merged could lock the next node, and one that hasn't has nothing to merge
abbrev pub EndsSo : World → List ℕ → Stage → Type 0
EndsSo w0 name s = (has_merged s ≡ false → FindsNone w0 name) × (has_merged s ≡ true → NextIsWorn w0 name → ⊥)

finish_unmerged : (finish : Finish) (at : FinishAt) → (finish_at_held finish at).merged ≡ false
finish_unmerged finish (finish_at.Fence line fence) = refl
finish_unmerged finish finish_at.Add = refl
finish_unmerged finish (finish_at.Unlock place) = refl

module _ (w0 : World) (name : List ℕ) (list : IsList w0.layout (facts w0)) (l : Layout) (g : ℕ) (f : Facts) (caller index since : ℕ) (placed : Placed) where
  abbrev Legal : Stage → Type 0
  Legal s = IsLegal l g f caller index since s (Some (once.Done placed))

  join_ends : (h : Held) (join : Join) (at : JoinAt) → Legal (join_at_stage h join.union at) → (NextIsWorn w0 name → ⊥) → EndsSo w0 name (join_at_stage h join.union at)
  join_ends h join (join_at.Open machine) legal fresh = absurd legal
  join_ends h join (join_at.Load left word) legal fresh = absurd legal
  join_ends h join (join_at.Copy left word value) legal fresh = absurd legal
  join_ends h join (join_at.Print word) legal fresh = absurd legal
  join_ends h join (join_at.FenceCopies first fence) legal fresh = absurd legal
  join_ends h join join_at.Bitmap legal fresh = absurd legal
  join_ends h join (join_at.FenceBitmap fence) legal fresh = absurd legal
  join_ends h join join_at.Switch legal fresh = absurd legal
  join_ends h join (join_at.FenceSwitch fence) legal fresh = absurd legal
  join_ends h join join_at.Retire legal fresh = absurd legal
  join_ends h join join_at.Prev legal fresh = absurd legal
  join_ends h join join_at.NextPrev legal fresh = absurd legal
  join_ends h join (join_at.Ready ready) legal fresh = absurd legal
  join_ends h join join_at.UnlockRight legal fresh = absurd legal
  join_ends h join join_at.Unlock legal fresh = ((λ not. absurd (both refl not)), λ _. fresh)

  merge_ends : (call : Call) (hold : Hold) (old : Option ℕ) (place : ℕ) (merge : Merge) (at : MergeAt) (x : ℕ) → Legal (merge_at_footing (has_place call old place) merge at).stage → MergeForesees w0 name at
      → del_merged call hold old place (merge_at_turned merge at x) ≡ Done (once.Done placed) → EndsSo w0 name (merge_at_footing (has_place call old place) merge at).stage
  merge_ends call hold old place merge merge_at.Bitmap x legal so done = absurd (cc)
  merge_ends call hold old place merge (merge_at.Next seen) x legal so done = absurd (cc)
  merge_ends call hold old place merge (merge_at.Version near) x legal so done = absurd (cc)
  merge_ends call hold old place merge (merge_at.Lock near version locked) x legal so done = absurd legal
  merge_ends call hold old place merge (merge_at.Head near locked head count) x legal so done = absurd legal
  merge_ends call hold old place merge (merge_at.Prints near locked head prints count) x legal so done = absurd legal
  merge_ends call hold old place merge (merge_at.Join join) x legal so done = join_ends (has_place call old place) join join.at legal so
  merge_ends call hold old place merge (merge_at.Part near locked bitmap) x legal so done = absurd legal
  merge_ends call hold old place merge (merge_at.Leave near) x legal so done = ((λ _. so), λ merged. absurd (both merged refl))

  -- the end of a write that merges nothing
  finish_ends : (finish : Finish) (line : Option ℕ) (at : FinishAt) → IfSome line (λ number. IsUnplaced at) → placed_in (Holds finish.call.node finish.hold.locked (finish_at_held finish at)) ≢ None → DelForesees w0 name (del.Single (single_del.Finishing finish line))
      → EndsSo w0 name (Holds finish.call.node finish.hold.locked (finish_at_held finish at))
  finish_ends finish None at free given so = ((λ _. λ merges. so (shape_tries w0 name list merges.0)), λ merged. absurd (both merged (finish_unmerged finish at)))
  finish_ends finish (Some line) (finish_at.Fence first fence) free given so = absurd (given refl)
  finish_ends finish (Some line) finish_at.Add free given so = absurd (given refl)
  finish_ends finish (Some line) (finish_at.Unlock place) free given so = absurd free

  pub del_ends : (machine : Del) (x : ℕ) → IsDel machine → DelForesees w0 name machine → Legal (del_stage machine) → placed_in (del_stage machine) ≢ None → del_turned machine x ≡ Done (once.Done placed) → EndsSo w0 name (del_stage machine)
  del_ends (del.Single (single_del.Looking lookup)) x sound so legal given done = absurd (given (lookup_placed (live_sight []) lookup.call lookup.at))
  del_ends (del.Single (single_del.Next call hold bitmap hit)) x sound so legal given done = absurd (given refl)
  del_ends (del.Single (single_del.Taking call hold bitmap hit take)) x sound so legal given done = absurd (given refl)
  del_ends (del.Single (single_del.Refusing call hold bitmap hit)) x sound so legal given done = absurd (given refl)
  del_ends (del.Single (single_del.Clearing call hold bitmap hit line)) x sound so legal given done = absurd (given refl)
  del_ends (del.Single (single_del.Finishing finish line)) x sound so legal given done = finish_ends finish line finish.at sound.1 given so
  del_ends (del.Merging call hold old place merge) x sound so legal given done = merge_ends call hold old place merge merge.at x legal so.1 done

-- a delete that was answered that it took place, and tried to merge, has its line
pub del_had_line : (w0 : World) (name : List ℕ) (l : Layout) (words0 words : List ℕ) (machine : Del) → DelIsThere l words0 words machine → DelForesees w0 name machine → placed_in (del_stage machine) ≢ None → TriesMerge w0 name
    → HasLine l words0 (del_call machine).view.caller
del_had_line w0 name l words0 words (del.Single (single_del.Looking lookup)) stands so given tries = absurd (given (lookup_placed (live_sight []) lookup.call lookup.at))
del_had_line w0 name l words0 words (del.Single (single_del.Next call hold bitmap hit)) stands so given tries = absurd (given refl)
del_had_line w0 name l words0 words (del.Single (single_del.Taking call hold bitmap hit take)) stands so given tries = absurd (given refl)
del_had_line w0 name l words0 words (del.Single (single_del.Refusing call hold bitmap hit)) stands so given tries = absurd (given refl)
del_had_line w0 name l words0 words (del.Single (single_del.Clearing call hold bitmap hit line)) stands so given tries = absurd (given refl)
del_had_line w0 name l words0 words (del.Single (single_del.Finishing finish None)) stands so given tries = absurd (so tries)
del_had_line w0 name l words0 words (del.Single (single_del.Finishing finish (Some line))) stands so given tries = stands.1
del_had_line w0 name l words0 words (del.Merging call hold old place merge) stands so given tries = stands.1

-- ---- of a put

-- where a put is after a turn
abbrev pub PutForeseesSo : World → NameOp → Turn Put (Once Placed) → Type 0
PutForeseesSo w0 asked (Go next) = PutForesees w0 asked next
PutForeseesSo w0 asked (Done answer) = Unit {0}

abbrev pub PutGoesOnTo : List ℕ → Option Change → World → ℕ → World → Party → Action → Turn Put (Once Placed) → Type 0
PutGoesOnTo name own w0 i w p action turn = (next : Put) → turn ≡ Go next → IsPut next × Trying name own w0 i (stepped w i p action (put_stage next)) (moved_on p (put_stage next))

module _ (name : List ℕ) (value : ℕ) (own : Option Change) (w0 : World) (i : ℕ) (w : World) (p : Party) (rest : IsAtRest w0) where
  abbrev Goes : Action → Turn Put (Once Placed) → Type 0
  Goes action turn = PutGoesOnTo name own w0 i w p action turn

  abbrev Full : Turn Put (Once Placed) → Type 0
  Full turn = PutForeseesSo w0 (op.Put name value) turn

  -- its node is full, and has the name or lacks it
  full_foresees : (call : Call) (found : Found) (hit : Option Hit) (number : ℕ) (action : Action) → name_in call ≡ name → call.view.layout ≡ w.layout → Goes action (Go (put_full call found.hold found.directory.bitmap hit number))
      → Full (Go (put_full call found.hold found.directory.bitmap hit number))
  full_foresees call found (Some hit) number action named layout goes = tt
  full_foresees call found None number action named layout goes =
      let next : Put = put_full call found.hold found.directory.bitmap None number in
      let w' : World = stepped w i p action (put_stage next) in
      let q : Party = moved_on p (put_stage next) in
      let o : Trying name own w0 i w' q = (goes next refl).1 in
      let h : Held = found_full call found.hold found.directory.bitmap in
      let sure : SureHolds w.layout w.generation (facts w') p.caller p.index p.since call.node found.hold.locked h = o.lawful.sure i q o.there in
      let word : (facts w').now call.node bitmap_offset ≡ found.directory.bitmap = sure.knows.seen.0 in
      full_was name own w0 i w' q o call.node found.hold.locked h rest refl named refl refl refl
      (subst (λ (r : ℕ × Layout). AreAllLive r.0 r.1.slots) (λ k. (sym word k, layout k)) (goes next refl).0.more)

  into_foresees : (call : Call) (found : Found) (number : ℕ) (clear : Option ℕ) (action : Action) → name_in call ≡ name → call.view.layout ≡ w.layout → Goes action (Go (put_into call found number clear)) → Full (Go (put_into call found number clear))
  into_foresees call found number (Some slot) action named layout goes = tt
  into_foresees call found number None action named layout goes = full_foresees call found found.hit number action named layout goes

  pub put_foresees : (machine : Put) (x : ℕ) → name_in (put_call machine) ≡ name → (put_call machine).view.layout ≡ w.layout → PutForesees w0 (op.Put name value) machine → Goes (put_asks machine) (put_turned machine x) → Full (put_turned machine x)
  put_foresees (put.Single (single_put.Looking lookup number)) x named layout so goes = at (lookup_turned lookup x) goes
    where
      at : (turn : Turn Lookup Looked) → Goes (put_asks (put.Single (single_put.Looking lookup number))) (put_looked lookup.call number turn) → Full (put_looked lookup.call number turn)
      at (Go next) goes = tt
      at (Done (looked.Early answer)) goes = tt
      at (Done (looked.Found found)) goes = into_foresees lookup.call found number (lowest_clear found.directory.bitmap lookup.call.view.layout.slots) (put_asks (put.Single (single_put.Looking lookup number))) named layout goes
  put_foresees (put.Single (single_put.Filling fill)) x named layout so goes = at (fill_turned fill x)
    where
      at : (turn : Turn Fill Finish) → Full (put_filled turn)
      at (Go next) = tt
      at (Done finish) = tt
  put_foresees (put.Single (single_put.Replacing call hold bitmap hit number)) x named layout so goes = tt
  put_foresees (put.Single (single_put.Finishing finish)) x named layout so goes = at (finish_turned finish x)
    where
      at : (turn : Turn Finish (Once Placed)) → Full (put_finished turn)
      at (Go next) = tt
      at (Done answer) = tt
  put_foresees (put.Splitting call hold bitmap number split) x named layout so goes = at (split_turned split x)
    where
      at : (turn : Turn Split SplitDone) → Full (put_split call hold bitmap number turn)
      at (Go next) = so
      at (Done (done.Done fresh)) = tt
      at (Done (done.Again why)) = tt
