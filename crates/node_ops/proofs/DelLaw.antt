-- Each turn of a delete is a step of a kind.
use Rattle.std.proofs.Common.{◌≡◌, ℕ, ◌/◌, ◌<◌, ◌^◌, ◌==◌, true, false, cond, ltb, [], ◌∷◌, Option, Some, None, IfSome, inl, refl, sym, subst, ap, ◌∙◌, arith}
use Rattle.std.specs.FinMap.{remove}
use Rattle.cat_history.specs.declared.op.Change.TheVariants as change
use Rattle.pm_words.specs.declared.layout.Layout.{Layout}
use Rattle.pm_words.specs.declared.action.Action.{Action}
use Rattle.pm_words.specs.declared.machine.Turn.{Turn}
use Rattle.pm_words.specs.declared.machine.Turn.TheVariants.{Go, Done}
use Rattle.data_node.specs.Bits.{without_live}
use Rattle.data_node.specs.Spots.{updated, Means}
use Rattle.data_node.proofs.BitLemmas.{without_live_below}
use Rattle.data_node.proofs.SpotLemmas.{remove_absent}
use Rattle.data_node.proofs.StoreLemmas.{means_cleared}
use Rattle.call_stages.specs.declared.once.Once.{Once}
use Rattle.call_stages.specs.declared.once.Placed.{Placed}
use Rattle.call_stages.specs.Stages.{Held, Stage}
use Rattle.call_stages.specs.declared.once.Once.TheVariants as once
use Rattle.call_stages.specs.declared.view.View.{View}
use Rattle.call_stages.specs.Footings.{Waits}
use Rattle.permutation.specs.Sparing.{IsLineOf, SparingStep, on_line}
use Rattle.call_stages.specs.Kinds.{Told, LeadsWithin, Step, looks, learns, commits, unlocks, refuses, word_address}
use Rattle.node_ops.specs.declared.call.Call.{Call}
use Rattle.node_ops.specs.declared.lookup.Hold.{Hold}
use Rattle.node_ops.specs.declared.lookup.Hit.{Hit}
use Rattle.node_ops.specs.declared.lookup.Found.{Found}
use Rattle.node_ops.specs.declared.lookup.Looked.{Looked}
use Rattle.node_ops.specs.declared.lookup.Looked.TheVariants as looked
use Rattle.node_ops.specs.declared.lookup.Lookup.{Lookup}
use Rattle.node_ops.specs.declared.finish.Finish.{Finish}
use Rattle.node_ops.specs.declared.del.Del.{Del}
use Rattle.node_ops.specs.declared.del.Del.TheVariants as del
use Rattle.node_ops.specs.declared.single_del.SingleDel.TheVariants as single_del
use Rattle.node_ops.specs.declared.running.Running.{Running}
use Rattle.node_ops.specs.declared.running.Running.TheVariants.{Deleting}
use Rattle.node_ops.specs.Calls.{IsCall, name_in}
use Rattle.pm_words.specs.Fences.{line_of, fence_start}
use Rattle.node_ops.specs.LookupSteps.{IsHit, lookup_turned}
use Rattle.node_ops.specs.FinishSteps.{finish_turned, finish_at_turned, finish_fenced}
use Rattle.call_stages.specs.Lines.{HeldLine, Notes}
use Rattle.smo_log.specs.declared.take.Take.{Take}
use Rattle.smo_log.specs.declared.take.TakeAt.{TakeAt}
use Rattle.smo_log.specs.declared.take.TakeAt.TheVariants as take_at
use Rattle.smo_log.specs.declared.take.Taken.{Taken}
use Rattle.smo_log.specs.declared.take.Taken.TheVariants.{Line, Full}
use Rattle.smo_log.specs.LogLines.{caller_of, index_of, empty_line, fenced}
use Rattle.smo_log.specs.Takes.{IsTake, take_from, take_line, take_asks, take_turned, take_at_held, take_held, TakeNotes}
use Rattle.smo_log.proofs.LineLaw.{takes_are_notes, index_within}
use Rattle.split_merge.specs.declared.merging.Merge.{Merge}
use Rattle.split_merge.specs.declared.merging.MergeAt.{MergeAt}
use Rattle.split_merge.specs.declared.merging.MergeAt.TheVariants as merge_at
use Rattle.split_merge.specs.declared.merging.Merged.{Merged}
use Rattle.split_merge.specs.JoinStages.{knowing}
use Rattle.split_merge.specs.Merges.{IsMergeAt, LeadsNear, merge_asks, merge_at_asks, merge_turned}
use Rattle.split_merge.specs.MergeStages.{knows_near, neighbour, head_before, merge_footing, merge_at_footing}
use Rattle.split_merge.specs.MergeLaws.{Answered, MayJoin, MergesSo}
use Rattle.split_merge.proofs.SplitLaw.{take_waits, take_unready}
use Rattle.split_merge.proofs.MergeLaw.{merges_are_steps}
use Rattle.node_ops.specs.declared.finish.FinishAt.{FinishAt}
use Rattle.node_ops.specs.declared.finish.FinishAt.TheVariants as finish_at
use Rattle.pm_words.specs.declared.fence.Fence.{Fence}
use Rattle.pm_words.specs.declared.action.Action.TheVariants.{Load}
use Rattle.pm_words.specs.Fences.{fence_next}
use Rattle.pm_words.specs.Codes.{empty_state}
use Rattle.pm_words.specs.Offsets.{bitmap_offset, state_offset}
use Rattle.node_ops.specs.DelSteps.{IsDel, IsTakeOf, IsUnplaced, IsMerging, names_left, del_call, del_asks, del_turned, del_looked, del_hit, del_taken, del_finished, del_merged, cleared}
use Rattle.node_ops.proofs.MergeFacts.{placed_still, goes_on_stage}
use Rattle.node_ops.specs.RunningSteps.{running_turned, wrapped}
use Rattle.node_ops.specs.CallStages.{nothing, knows, decided, fence_rest, seen_hit, del_stage, reply_of, finish_stage, has_place, found_in, line_taken, del_footing, footing_after}
use Rattle.node_ops.proofs.LookupLaw.{MachineLeads, steps, Writes_found, written_found, Leads, keeps_live, lookup_leads}
use Rattle.node_ops.proofs.FinishLaw.{Finishes, finish_leads}
use Rattle.node_ops.proofs.PlainSteps.{hit_words_known, part_hit, Plain, IsSingle, IsPlainAfter, plain, looks_single, wrapped_leads}
use Rattle.std.specs.Prelude.{IsSome}
use Rattle.data_list.specs.WalkStages.{live_sight}

-- the kind of step of a turn of a delete
abbrev Dels : Call → Stage → Action → ℕ → Turn Del (Once Placed) → Type 0
Dels = MachineLeads del_stage

module _ (call : Call) (sound : IsCall call) where
  abbrev slots : ℕ
  slots = call.view.layout.slots

  del_hit_leads : (stage : Stage) (action : Action) (x : ℕ) (found : Found) (hit : Option Hit)
      → Writes_found call stage action x (record found { hit = hit }) → Dels call stage action x (Go (del_hit call found.hold found.directory.bitmap hit))
  del_hit_leads stage action x found (Some hit) leads =
      let bitmap = found.directory.bitmap in
      let step = leads (knows (seen_hit call bitmap (Some hit))) None false tt
      (λ s known. record { seen = part_hit s call (record found { hit = Some hit }) known; left = tt }) (λ range s m in_range old means. means) in
      elim (ltb (slots / 2) (names_left call bitmap hit)) as (λ b. Dels call stage action x (Go (cond b (del.Single (single_del.Clearing call found.hold bitmap hit None)) (del.Single (single_del.Next call found.hold bitmap hit))))) [
        | true ↦ steps step
        | false ↦ steps step
      ]
  del_hit_leads stage action x found None leads =
      steps (leads nothing (Some (change.Del (name_in call))) true refl (λ s known. record { seen = tt; left = tt })
      (λ range s m in_range absent means. subst (Means slots range s) (sym (remove_absent m (name_in call) absent)) means))

  del_looked_leads : IsSome call.limit → (stage : Stage) (action : Action) (x : ℕ) (turn : Turn Lookup Looked) → Leads (live_sight []) call stage action x turn
      → Dels call stage action x (del_looked call turn)
  del_looked_leads writes stage action x (Go lookup) step = step
  del_looked_leads writes stage action x (Done (looked.Early answer)) step = step
  del_looked_leads writes stage action x (Done (looked.Found found)) leads = del_hit_leads stage action x found found.hit (written_found call.limit (live_sight []) call stage action x found writes leads)

  del_finished_leads : (stage : Stage) (action : Action) (x : ℕ) (line : Option ℕ) (turn : Turn Finish (Once Placed)) → Finishes call stage action x turn
      → Dels call stage action x (del_finished line turn)
  del_finished_leads stage action x line (Go finish) step =
      steps (subst (λ (next : Stage). Step call.view.layout call.view.generation stage action x next None) (sym (goes_on_stage finish line)) step)
  del_finished_leads stage action x line (Done answer) step = step

  -- it loads where its node leads
  next_leads : (hold : Hold) (bitmap : ℕ) (hit : Hit) (x : ℕ) → Dels call (found_in call hold bitmap hit) (del_asks (del.Single (single_del.Next call hold bitmap hit))) x (del_turned (del.Single (single_del.Next call hold bitmap hit)) x)
  next_leads hold bitmap hit x =
      let step : Step call.view.layout call.view.generation (found_in call hold bitmap hit) (del_asks (del.Single (single_del.Next call hold bitmap hit))) x (found_in call hold bitmap hit) None =
      looks (learns (sound.node, (omega arith)) (omega arith) refl (λ s tidy known is. known)) in
      elim (x == 0) as (λ b. Dels call (found_in call hold bitmap hit) (del_asks (del.Single (single_del.Next call hold bitmap hit))) x
      (Go (cond b (del.Single (single_del.Clearing call hold bitmap hit None)) (del.Single (single_del.Taking call hold bitmap hit (take_from call.view.layout call.view.caller)))))) [ true ↦ steps step | false ↦ steps step ]

  -- the store of the bitmap without the slot
  clearing_leads : (hold : Hold) (bitmap : ℕ) (hit : Hit) (line : Option ℕ) (x : ℕ) → bitmap < 2 ^ 64 → IsHit slots bitmap hit
      → Step call.view.layout call.view.generation (found_in call hold bitmap hit) (del_asks (del.Single (single_del.Clearing call hold bitmap hit line))) x
      (finish_stage (cleared call hold hit)) None
  clearing_leads hold bitmap hit line x fits is =
      commits {h = decided call hold (Some hit.value) (knows (seen_hit call bitmap (Some hit)))} {k = nothing}
      {dirty = fence_rest (line_of bitmap_offset) fence_start ∷ []} {old = Some hit.value} {c = change.Del (name_in call)}
      (sound.node, (omega arith)) (inl refl) (without_live_below 64 bitmap hit.slot fits) (record { pending = refl; ready = refl; placed = refl }) refl (inl (omega arith, omega arith)) refl refl
      (λ s tidy before. record { seen = tt; left = tt })
      (λ range s m in_range before old means.
      let here = hit_words_known s call bitmap hit sound before.seen is.live in
      subst (λ b. Means slots range (updated s bitmap_offset (without_live b hit.slot)) (remove m (name_in call))) before.seen.0
      (means_cleared slots range s m (name_in call) hit.slot sound.view.layout.slots.1 sound.packed.named here.0 here.1 means))

-- it neither looks for a line nor merges
abbrev IsPlain : Del → Type 0
IsPlain (del.Single (single_del.Taking call hold bitmap hit take)) = ⊥
IsPlain (del.Merging call hold old place merge) = ⊥
IsPlain _ = Unit {0}

del_leads : (del : Del) (x : ℕ) → IsPlain del → IsDel del → Told (del_call del).view.layout (del_call del).view.generation (del_asks del) x
    → Dels (del_call del) (del_stage del) (del_asks del) x (del_turned del x)
del_leads (del.Single (single_del.Looking lookup)) x is sound told = del_looked_leads lookup.call sound.0.call sound.1 _ _ x (lookup_turned lookup x)
    (lookup_leads (live_sight []) lookup.call sound.0.call lookup.at x sound.0.here (keeps_live lookup.at) told)
del_leads (del.Single (single_del.Next call hold bitmap hit)) x is sound told = next_leads call sound.0.call hold bitmap hit x
del_leads (del.Single (single_del.Taking call hold bitmap hit take)) x is sound told = absurd is
del_leads (del.Single (single_del.Refusing call hold bitmap hit)) x is sound told = unlocks refl refl refl refl (refuses refl tt)
del_leads (del.Single (single_del.Clearing call hold bitmap hit line)) x is sound told = steps (clearing_leads call sound.0.call hold bitmap hit line x sound.0.fits sound.0.hit)
del_leads (del.Single (single_del.Finishing finish line)) x is sound told = del_finished_leads finish.call sound.0.here.call _ _ x line (finish_turned finish x) (finish_leads finish x sound.0.here told.fits)
del_leads (del.Merging call hold old place merge) x is sound told = absurd is

del_single : (del : Del) → IsPlain del → IsSingle (del_stage del)
del_single (del.Single (single_del.Looking lookup)) is = looks_single (live_sight []) lookup.call lookup.at
del_single (del.Single (single_del.Next call hold bitmap hit)) is = tt
del_single (del.Single (single_del.Taking call hold bitmap hit take)) is = absurd is
del_single (del.Single (single_del.Refusing call hold bitmap hit)) is = tt
del_single (del.Single (single_del.Clearing call hold bitmap hit line)) is = tt
del_single (del.Single (single_del.Finishing finish line)) is = tt
del_single (del.Merging call hold old place merge) is = absurd is

-- the line of a delete that doesn't look for one
abbrev del_line : Del → Option HeldLine
del_line (del.Single (single_del.Clearing call hold bitmap hit line)) = line_taken line
del_line (del.Single (single_del.Finishing finish line)) = line_taken line
del_line _ = None

-- which it keeps
ends_plain : (finish : Finish) (line : Option ℕ) (x : ℕ) → IfSome line (λ number. IsUnplaced finish.at) → IsPlainAfter (line_taken line) (wrapped Deleting (del_finished line (finish_turned finish x)))
ends_plain finish None x unplaced = at (finish_turned finish x)
  where
    at : (turn : Turn Finish (Once Placed)) → IsPlainAfter None (wrapped Deleting (del_finished None turn))
    at (Go next) = refl
    at (Done answer) = refl
ends_plain finish (Some number) x unplaced = at finish.at unplaced
  where
    fenced : (first : ℕ) (o : Option Fence) → IsPlainAfter (Some (empty_line number)) (wrapped Deleting (del_finished (Some number) (finish_fenced finish first o)))
    fenced first (Some fence) = refl
    fenced first None = refl

    at : (at : FinishAt) → IsUnplaced at → IsPlainAfter (Some (empty_line number)) (wrapped Deleting (del_finished (Some number) (finish_at_turned finish at x)))
    at (finish_at.Fence first fence) un = fenced first (fence_next fence x)
    at finish_at.Add un = refl
    at (finish_at.Unlock place) un = absurd un

dels_plain : (del : Del) (x : ℕ) → IsPlain del → IsDel del → IsPlainAfter (del_line del) (wrapped Deleting (del_turned del x))
dels_plain (del.Single (single_del.Looking lookup)) x is sound = at (lookup_turned lookup x)
  where
    hits : (found : Found) (hit : Option Hit) → IsPlainAfter None (Go (Deleting (del_hit lookup.call found.hold found.directory.bitmap hit)))
    hits found (Some hit) =
        let bitmap = found.directory.bitmap in
        elim (ltb (lookup.call.view.layout.slots / 2) (names_left lookup.call bitmap hit)) as (λ b. IsPlainAfter None
        (Go (Deleting (cond b (del.Single (single_del.Clearing lookup.call found.hold bitmap hit None)) (del.Single (single_del.Next lookup.call found.hold bitmap hit)))))) [ true ↦ refl | false ↦ refl ]
    hits found None = refl

    at : (turn : Turn Lookup Looked) → IsPlainAfter None (wrapped Deleting (del_looked lookup.call turn))
    at (Go next) = refl
    at (Done (looked.Early answer)) = refl
    at (Done (looked.Found found)) = hits found found.hit
dels_plain (del.Single (single_del.Next call hold bitmap hit)) x is sound =
    elim (x == 0) as (λ b. IsPlainAfter None (Go (Deleting (cond b (del.Single (single_del.Clearing call hold bitmap hit None)) (del.Single (single_del.Taking call hold bitmap hit (take_from call.view.layout call.view.caller))))))) [
      | true ↦ refl
      | false ↦ refl
    ]
dels_plain (del.Single (single_del.Taking call hold bitmap hit take)) x is sound = absurd is
dels_plain (del.Single (single_del.Refusing call hold bitmap hit)) x is sound = refl
dels_plain (del.Single (single_del.Clearing call hold bitmap hit line)) x is sound = refl
dels_plain (del.Single (single_del.Finishing finish line)) x is sound = ends_plain finish line x sound.1
dels_plain (del.Merging call hold old place merge) x is sound = absurd is

-- the line that a look has is the one that it is at
of_take : (take : Take) (P : HeldLine → Type 0) → ((e : HeldLine) → e.caller ≡ caller_of (take_line take) → e.number ≡ index_of (take_line take) → P e) → IfSome (take_held take) P
of_take take P all = at take.at
  where
    at : (at : TakeAt) → IfSome (take_at_held (take_line take) at) P
    at take_at.State = tt
    at (take_at.Fence fence) = all (fenced false (take_line take) ((state_offset, empty_state) ∷ []) fence) refl refl

take_owner : (take : Take) → IsTake take → caller_of (take_line take) ≡ take.caller
take_owner take is = let index : take.index < 8 = is.index in omega arith

-- while it looks for a line, its turns are steps on a line of its caller
module _ (call : Call) (hold : Hold) (bitmap : ℕ) (hit : Hit) (take : Take) (sound : IsCall call) (is : IsTakeOf call.view take) (x : ℕ) where
  abbrev l : Layout
  l = call.view.layout

  abbrev Lines : Turn Running (Once Placed) → Type 0
  Lines turn = SparingStep l call.view.generation call.view.caller (del_footing (del.Single (single_del.Taking call hold bitmap hit take))) (take_asks take) x (footing_after turn) (reply_of turn)

  noted : (after : Option HeldLine) → Notes take.layout (take_held take) (take_asks take) x after → Notes l (take_held take) (take_asks take) x after
  noted after note = subst (λ k. Notes k (take_held take) (take_asks take) x after) is.layout_is note

  here : (e : HeldLine) → e.caller ≡ caller_of (take_line take) → e.number ≡ index_of (take_line take) → (e.caller < l.callers) × (e.number < 8)
  here e caller number =
      let index : take.index < 8 = is.here.index in
      let within : take.caller < l.callers = subst (λ (k : Layout). take.caller < k.callers) is.layout_is is.here.caller in
      (omega arith, subst (λ n. n < 8) (sym number) (index_within (take_line take)))

  own : IsLineOf l (take_held take)
  own = of_take take (λ e. (e.caller < l.callers) × (e.number < 8)) here

  waits : (after : Option HeldLine) → IfSome after (λ e. e.ready ≡ false) → Waits (del_footing (del.Single (single_del.Taking call hold bitmap hit take))).stage (take_held take) after
  waits after unready = take_waits (del_footing (del.Single (single_del.Taking call hold bitmap hit take))).stage (take_line take) take.at after unready

  takes_line : (turn : Turn Take Taken) → TakeNotes take.layout take.caller (take_held take) (take_asks take) x turn → Lines (wrapped Deleting (del_taken call hold bitmap hit turn))
  takes_line (Go next) note =
      on_line (waits (take_held next) (take_unready (take_line next) next.at)) refl own (noted (take_held next) note.0)
      (of_take next (λ e. e.caller ≡ call.view.caller) (λ e caller number. caller ∙ take_owner next note.1 ∙ note.3 ∙ is.caller_is))
  takes_line (Done (Line line)) note =
      on_line (waits (Some (empty_line line)) refl) refl own (noted (Some (empty_line line)) note.0) (note.1 ∙ is.caller_is)
  takes_line (Done Full) note = on_line (waits None tt) refl own (noted None note) tt

  taking_leads : x < 2 ^ 64 → Lines (running_turned (Deleting (del.Single (single_del.Taking call hold bitmap hit take))) x)
  taking_leads fits = takes_line (take_turned take x) (takes_are_notes take x is.here fits)

-- while it merges, its turns are those of the merge
module _ (call : Call) (hold : Hold) (old : Option ℕ) (place : ℕ) (merge : Merge) (sound : IsMerging call hold merge) (x : ℕ) where
  abbrev merges_held : Held
  merges_held = has_place call old place

  abbrev merged : Once Placed
  merged = once.Done (record { old = old; place = place; hops = call.hops })

  abbrev Merges : View → Turn Running (Once Placed) → Type 0
  Merges view turn = SparingStep view.layout view.generation view.caller (merge_footing merges_held merge) (merge_asks merge) x (footing_after turn) (reply_of turn)

  may_join : MayJoin merges_held
  may_join = record { still = placed_still call old place; durable = refl; unhanded = refl; may = record { untimed = refl; unmerged = refl } }

  answered : Answered merges_held merged
  answered = record { old = old; place = place; hops = call.hops; had = refl; placed = refl; is = refl }

  merges_so : (turn : Turn Merge Merged) → MergesSo merge merges_held merged x turn → Merges merge.view (wrapped Deleting (del_merged call hold old place turn))
  merges_so (Go next) so = so.0
  merges_so (Done done) so = so

  merging_leads : Told call.view.layout call.view.generation (merge_asks merge) x → LeadsWithin call.view.layout (merge_footing merges_held merge).stage (merge_asks merge) x
      → Merges call.view (running_turned (Deleting (del.Merging call hold old place merge)) x)
  merging_leads told leads =
      subst (λ (v : View). Merges v (running_turned (Deleting (del.Merging call hold old place merge)) x)) sound.view
      (merges_so (merge_turned merge x) (merges_are_steps merge merges_held merged x sound.here may_join answered
      (subst (λ (v : View). Told v.layout v.generation (merge_asks merge) x) (sym sound.view) told)
      (subst (λ (v : View). LeadsWithin v.layout (merge_footing merges_held merge).stage (merge_asks merge) x) (sym sound.view) leads)))

del_steps : (del : Del) (x : ℕ) → IsPlain del → IsDel del → Told (del_call del).view.layout (del_call del).view.generation (del_asks del) x
    → Plain (del_call del).view.layout (del_call del).view.generation (del_call del).view.caller (del_line del) (del_stage del) (del_asks del) x (running_turned (Deleting del) x)
del_steps del x is sound told =
    plain _ _ _ (del_line del) (del_stage del) _ x (running_turned (Deleting del) x) (del_single del is) (dels_plain del x is sound) (wrapped_leads del_stage Deleting (λ m. refl) (del_call del) _ _ x (del_turned del x) (del_leads del x is sound told))

pub dels_are_steps : (del : Del) (x : ℕ) → IsDel del → Told (del_call del).view.layout (del_call del).view.generation (del_asks del) x → LeadsWithin (del_call del).view.layout (del_stage del) (del_asks del) x
    → SparingStep (del_call del).view.layout (del_call del).view.generation (del_call del).view.caller (del_footing del) (del_asks del) x
    (footing_after (running_turned (Deleting del) x)) (reply_of (running_turned (Deleting del) x))
dels_are_steps (del.Single (single_del.Looking lookup)) x sound told leads = del_steps (del.Single (single_del.Looking lookup)) x tt sound told
dels_are_steps (del.Single (single_del.Next call hold bitmap hit)) x sound told leads = del_steps (del.Single (single_del.Next call hold bitmap hit)) x tt sound told
dels_are_steps (del.Single (single_del.Taking call hold bitmap hit take)) x sound told leads = taking_leads call hold bitmap hit take sound.0.call sound.2 x told.fits
dels_are_steps (del.Single (single_del.Refusing call hold bitmap hit)) x sound told leads = del_steps (del.Single (single_del.Refusing call hold bitmap hit)) x tt sound told
dels_are_steps (del.Single (single_del.Clearing call hold bitmap hit line)) x sound told leads = del_steps (del.Single (single_del.Clearing call hold bitmap hit line)) x tt sound told
dels_are_steps (del.Single (single_del.Finishing finish line)) x sound told leads = del_steps (del.Single (single_del.Finishing finish line)) x tt sound told
dels_are_steps (del.Merging call hold old place merge) x sound told leads = merging_leads call hold old place merge sound x told leads

-- a node that a merge holds leads to one of the layout's
pub merge_leads : (l : Layout) (call : Call) (hold : Hold) (old : Option ℕ) (place : ℕ) (merge : Merge) (x : ℕ) → IsMerging call hold merge → call.view.layout ≡ l
    → LeadsWithin l (merge_footing (has_place call old place) merge).stage (merge_asks merge) x → LeadsNear merge merge.at x
merge_leads l call hold old place merge x sound same leads = at merge.at refl sound.here.here
  where
    held : Held
    held = has_place call old place

    layout : merge.view.layout ≡ l
    layout = ap (λ (v : View). v.layout) sound.view ∙ same

    own : (at : MergeAt) → merge.at ≡ at → LeadsWithin merge.view.layout (merge_at_footing held merge at).stage (merge_at_asks merge at) x
    own at is = subst (λ (q : MergeAt). LeadsWithin merge.view.layout (merge_at_footing held merge q).stage (merge_at_asks merge q) x) is
        (subst (λ (k : Layout). LeadsWithin k (merge_footing held merge).stage (merge_asks merge) x) (sym layout) leads)

    at : (at : MergeAt) → merge.at ≡ at → IsMergeAt merge.view merge.node merge.word merge.line at → LeadsNear merge at x
    at merge_at.Bitmap is here = tt
    at (merge_at.Next own_bitmap) is here = (own (merge_at.Next own_bitmap) is).held merge.node merge.word (knowing ((bitmap_offset, own_bitmap) ∷ []) [] None held) sound.here.node refl refl
    at (merge_at.Version near) is here = tt
    at (merge_at.Lock near version locked) is here = tt
    at (merge_at.Head near locked head count) is here = λ second.
        (own (merge_at.Head near locked head count) is).met merge.node merge.word (knows_near near held) (neighbour near locked (head_before head count)) here.0.leads.right refl
        (ap (λ n. Load (word_address merge.view.layout near.right n)) second)
    at (merge_at.Prints near locked head prints count) is here = tt
    at (merge_at.Join join) is here = tt
    at (merge_at.Part near locked bitmap) is here = tt
    at (merge_at.Leave near) is here = tt
