-- A whole try of any call, with no other in flight.
use Rattle.std.proofs.Common.{◌≡◌, ◌≢◌, ℕ, ◌+◌, ◌<◌, ◌≤◌, ◌^◌, ◌⊎◌, inl, inr, ⊎_elim, Bool, true, false, cond, List}
use Rattle.std.proofs.Common.{[], ◌++◌, length, refl, sym, ap, ◌∙◌, subst, arith}
use Rattle.std.specs.Prelude.{Option, Some, None, IfSome, IsTrue, IsSome, is_some, IsSomeAnd}
use Rattle.std.specs.FinMap.{insert, get-insert}
use Rattle.std.proofs.lemmas.Bool.{leb-true}
use Rattle.std.proofs.lemmas.List.{append-nil}
use mathlib.Core.Option.{some}
use lib.ListN.{get_elem?}
use Rattle.pm_words.specs.declared.layout.Layout.{Layout}
use Rattle.pm_words.specs.declared.action.Action.{Action}
use Rattle.pm_words.specs.declared.again.Again.{Again}
use Rattle.pm_words.specs.declared.again.Again.TheVariants as again
use Rattle.pm_words.specs.declared.machine.Turn.{Turn}
use Rattle.pm_words.specs.declared.machine.Turn.TheVariants.{Go, Done}
use Rattle.pm_words.specs.Locations.{Cached}
use Rattle.pm_words.specs.Rows.{acted, got}
use Rattle.cat_key.specs.Names.{IsName, fingerprint_of}
use Rattle.cat_key.proofs.Packing.{packed_from_name, bytes_of-words_of}
use Rattle.version_lock.specs.Versions.{IsWorn, is_free_word, is_worn_word}
use Rattle.cat_history.specs.Maps.{Map, at}
use Rattle.cat_history.specs.declared.op.Change.TheVariants as change
use Rattle.cat_history.specs.Writes.{after_all}
use Rattle.std.specs.Cmp.Lexicographic.{nat_list_cmp_total}
use Rattle.cat_history.proofs.NameLemmas.{by_names}
use Rattle.cat_history.proofs.ChangeLemmas.{changed_found}
use Rattle.cat_history.specs.Records.{change_of}
use Rattle.cat_history.specs.declared.op.Change.{Change}
use Rattle.cat_history.specs.declared.op.NameOp.{NameOp}
use Rattle.cat_history.specs.declared.op.NameOp.TheVariants as op
use Rattle.call_stages.specs.declared.once.Once.{Once}
use Rattle.call_stages.specs.declared.once.Once.TheVariants as once
use Rattle.call_stages.specs.declared.once.Placed.{Placed}
use Rattle.call_stages.specs.Stages.{Held, Grip, Pace, Sight, Stage, Idle, Saw, Wears, Reads, Holds, Eyes, Splits, Leaves, Meets}
use Rattle.call_stages.specs.Stages.{Joins, IsLoose, counted, placed_in}
use Rattle.call_stages.specs.Kinds.{Told, LeadsWithin}
use Rattle.call_stages.specs.AnySteps.{AnyStep}
use Rattle.layer_map.specs.Layers.{IsFloorOf}
use Rattle.node_ops.specs.search_layer.specs.Rows.{LayerWords, layer_words}
use Rattle.node_ops.specs.search_layer.specs.Kept.{layer_of}
use Rattle.tree_floor.specs.Floors.{floor_starts}
use Rattle.node_ops.specs.search_layer.specs.Floors.{floor_most}
use Rattle.node_ops.specs.search_layer.specs.Floors.{answer_from}
use Rattle.node_ops.specs.search_layer.proofs.FloorLemmas.{exact as floor_is_exact}
use Rattle.node_ops.specs.search_layer.proofs.FloorLemmas.{named_starts_sound as floor_starts_sound}
use Rattle.tree_row.proofs.RowLaw.{reads_fit}
use Rattle.node_ops.specs.declared.call.Call.{Call}
use Rattle.node_ops.specs.declared.get.Get.{Get}
use Rattle.node_ops.specs.declared.get.Get.TheVariants as get
use Rattle.node_ops.specs.declared.del.Del.TheVariants as del
use Rattle.node_ops.specs.declared.single_del.SingleDel.TheVariants as single_del
use Rattle.node_ops.specs.declared.lookup.LookupAt.{LookupAt}
use Rattle.data_list.specs.WalkStages.{live_sight}
use Rattle.node_ops.proofs.PlainSteps.{each_look}
use Rattle.node_ops.specs.declared.put.Put.{Put}
use Rattle.node_ops.specs.declared.put.Put.TheVariants as put
use Rattle.node_ops.specs.declared.single_put.SinglePut.TheVariants as single_put
use Rattle.node_ops.specs.declared.del.Del.{Del}
use Rattle.node_ops.specs.declared.part.Part.{Part}
use Rattle.node_ops.specs.declared.part.Part.TheVariants as part
use Rattle.node_ops.specs.declared.part.PartWords.{PartWords}
use Rattle.node_ops.specs.declared.running.Running.{Running}
use Rattle.node_ops.specs.declared.running.Running.TheVariants.{Getting, Putting, Deleting, Parting}
use Rattle.node_ops.specs.Asked.{IsAbout, IsOf, IsOfAfter, name_asked}
use Rattle.call_stages.specs.declared.view.View.{View}
use Rattle.node_ops.specs.Calls.{new_call, name_in}
use Rattle.call_stages.specs.Views.{IsView}
use Rattle.node_ops.specs.LookupSteps.{starts, is_spent, IsLookup, lookup_turned}
use Rattle.node_ops.specs.GetSteps.{IsGet, get_call, get_turned}
use Rattle.node_ops.specs.PutSteps.{IsPut, put_call, put_turned, put_looked, put_into, put_full, put_filled}
use Rattle.node_ops.specs.PutSteps.{put_finished}
use Rattle.node_ops.specs.FillSteps.{fill_turned}
use Rattle.node_ops.specs.FinishSteps.{finish_turned}
use Rattle.node_ops.specs.declared.fill.Fill.{Fill}
use Rattle.node_ops.specs.declared.finish.Finish.{Finish}
use Rattle.node_ops.specs.declared.lookup.Found.{Found}
use Rattle.node_ops.specs.declared.lookup.Hit.{Hit}
use Rattle.node_ops.specs.declared.lookup.Lookup.{Lookup}
use Rattle.node_ops.specs.declared.lookup.Looked.{Looked}
use Rattle.node_ops.specs.declared.lookup.Looked.TheVariants as looked
use Rattle.data_node.specs.Bits.{lowest_clear}
use Rattle.pm_alloc.specs.declared.claim.ClaimAt.{ClaimAt}
use Rattle.pm_alloc.specs.declared.claim.ClaimAt.TheVariants as claim_at
use Rattle.pm_alloc.specs.Claims.{lock_of}
use Rattle.pm_alloc.specs.ClaimStages.{claim_stage, claim_at_stage}
use Rattle.split_merge.specs.declared.splitting.Split.{Split}
use Rattle.split_merge.specs.declared.splitting.SplitAt.{SplitAt}
use Rattle.split_merge.specs.declared.splitting.SplitAt.TheVariants as split_at
use Rattle.split_merge.specs.Splits.{IsSplitAt}
use Rattle.split_merge.specs.SplitStages.{led, split_footing, split_at_footing}
use Rattle.split_merge.specs.OfSplits.{IsOfSplit}
use Rattle.split_merge.proofs.OfSplits.{stages_are_of_splits}
use Rattle.node_ops.specs.DelSteps.{IsDel, del_call, del_turned, del_merged}
use Rattle.node_ops.specs.RunningSteps.{IsRunning, Sound, running_call, running_asks, running_turned, running_leads}
use Rattle.node_ops.specs.RunningSteps.{wrapped, wrapped_part}
use Rattle.node_ops.specs.PartSteps.{IsPart, part_call, part_turned, placed_turn}
use Rattle.node_ops.specs.declared.part.Reading.{Reading}
use Rattle.node_ops.specs.declared.part.Way.{Way}
use Rattle.node_ops.specs.declared.part.Way.TheVariants as ways
use Rattle.node_ops.specs.CallStages.{reading_at_held, stage_by, behind_sight, lookup_at_stage}
use Rattle.node_ops.specs.CallStages.{del_stage, has_place, stage_of, stage_after, reply_of, SoundAfter, found_full}
use Rattle.node_ops.proofs.CallLaw.{turns_are_steps, leads_are_taken}
use Rattle.node_ops.proofs.LookupSound.{Stays}
use Rattle.node_ops.proofs.CallSound.{get_stays, put_stays, del_stays, turns_stay_sound}
use Rattle.node_ops.proofs.PartSound.{part_stays}
use Rattle.node_ops.proofs.OpLaw.{counts_own_change, holds_own_name, turns_keep_op}
use Rattle.index_law.specs.Facts.{Facts, map_now}
use Rattle.index_law.specs.Worlds.{Party, World, facts, stepped, started, moved_on, written}
use Rattle.index_law.proofs.Starts.{start_law, rest_law}
use Rattle.index_law.proofs.Parties.{set_here, set_else}
use Rattle.index_law.specs.Lawful.{Sure}
use Rattle.index_law.specs.Laws.{ActionLaw, IsLegal, IsAtRest}
use Rattle.index_law.specs.AnySteps.{MayDo}
use Rattle.index_law.proofs.AnySteps.{any_allowed, any_can, any_keeps}
use Rattle.index_law.proofs.Actions.{some_told, some_leads}
use Rattle.index_law.proofs.Own.{sure_within}
use Rattle.index_law.proofs.Maps.{after_all-push}
use Rattle.index_law.proofs.Loose.{each_loose}
use Rattle.node_ops.proofs.LookupLaw.{key_is}
use Rattle.lone_call_law.specs.There.{CanWalk, StartsAt, WalksBy, IsAtNode, IsUnmoved, IsLanding}
use Rattle.lone_call_law.specs.Rooms.{target_node}
use Rattle.lone_call_law.specs.Locks.{locks_of, HasLocked, HoldsBoth, PartsOnce, AfterLocks}
use Rattle.lone_call_law.specs.Merging.{LeavesShape}
use Rattle.lone_call_law.specs.MergeStands.{merge_leaves}
use Rattle.lone_call_law.specs.Splitting.{HasLine, LacksLine, HoldsAlone}
use Rattle.lone_call_law.specs.Tries.{IsFor, is_same, Trying, HasKeptOrMerged, Says, LeavesHistory}
use Rattle.lone_call_law.specs.LoneCalls.{HasLimit, HasClaimed, IsPast, IsThere, Foresees, is_leaving, LoneCall}
use Rattle.lone_call_law.specs.LoneCalls.{FindsFull, NeedsLine, FindsWorn, IsLate, IsAnswered, AfterCall, LoneCallsGo}
use Rattle.lone_call_law.specs.LoneCalls.{LoneCallsLose, LoneCallsBegin, LonePartsBegin}
use Rattle.node_ops.specs.Endings.{limit_in, IsPutOp}
use Rattle.lone_call_law.proofs.Foreseeing.{DelForeseesSo, EndsSo, del_foresees, del_ends, del_had_line}
use Rattle.lone_call_law.proofs.Foreseeing.{PutForeseesSo, put_foresees}
use Rattle.lone_call_law.proofs.Locks.{locks_go, stages_lose}
use Rattle.lone_call_law.proofs.MergeStands.{merge_is_for, MergeParts, merge_parts}
use Rattle.lone_call_law.proofs.Standing.{both}
use Rattle.node_ops.proofs.MergeFacts.{merging_stage}
use Rattle.split_merge.specs.declared.merging.Merge.{Merge}
use Rattle.split_merge.specs.declared.merging.Merged.{Merged}
use Rattle.split_merge.specs.Merges.{merge_turned}
use Rattle.lone_call_law.proofs.Tries.{tries_go, tries_end}
use Rattle.lone_call_law.proofs.Rooms.{added_had_room}
use Rattle.lone_call_law.proofs.Went.{HasEnded, NeedsPlace, MayLackRoom, IsRefusing, MayLack, KnowsOwn, Went}
use Rattle.lone_call_law.proofs.Went.{machine_went}

-- the name that it is about
pub of_name : (asked : NameOp) (machine : Running) → IsOf asked machine → name_in (running_call machine) ≡ name_asked asked
of_name (op.Get name) (Getting get) is = is
of_name (op.Get name) (Putting put) is = absurd is
of_name (op.Get name) (Deleting del) is = absurd is
of_name (op.Get name) (Parting p) is = is
of_name (op.Put name value) (Getting get) is = absurd is
of_name (op.Put name value) (Putting put) is = is.0
of_name (op.Put name value) (Deleting del) is = absurd is
of_name (op.Put name value) (Parting p) is = absurd is
of_name (op.Del name) (Getting get) is = absurd is
of_name (op.Del name) (Putting put) is = absurd is
of_name (op.Del name) (Deleting del) is = is.0
of_name (op.Del name) (Parting p) is = absurd is

-- its limit and its view stay
abbrev KeepsCall : Call → Turn Running (Once Placed) → Type 0
KeepsCall call (Go next) = ((running_call next).limit ≡ call.limit) × ((running_call next).view ≡ call.view)
KeepsCall call (Done answer) = Unit {0}

keeps_call : {M : Type 0} (sound : M → Type 0) (of : M → Call) (wrap : M → Running) (call : Call) (turn : Turn M (Once Placed)) → ((machine : M) → running_call (wrap machine) ≡ of machine)
    → Stays sound of call turn → KeepsCall call (wrapped wrap turn)
keeps_call sound of wrap call (Go machine) same stays = (ap (λ (c : Call). c.limit) (same machine ∙ stays.1), ap (λ (c : Call). c.view) (same machine ∙ stays.1))
keeps_call sound of wrap call (Done answer) same stays = tt

call_kept : (machine : Running) (x : ℕ) → IsRunning machine → Told (running_call machine).view.layout (running_call machine).view.generation (running_asks machine) x
    → running_leads machine x → KeepsCall (running_call machine) (running_turned machine x)
call_kept (Getting m) x sound told leads = keeps_call IsGet get_call (λ (k : Get). Getting k) (get_call m) (get_turned m x) (λ k. refl) (get_stays m x sound told)
call_kept (Putting m) x sound told leads = keeps_call IsPut put_call (λ (k : Put). Putting k) (put_call m) (put_turned m x) (λ k. refl) (put_stays m x sound told leads)
call_kept (Deleting m) x sound told leads = keeps_call IsDel del_call (λ (k : Del). Deleting k) (del_call m) (del_turned m x) (λ k. refl) (del_stays m x sound told leads)
call_kept (Parting m) x sound told leads = keeps_call IsPart part_call (λ (k : Part). Parting k) (part_call m) (placed_turn (part_turned m x)) (λ k. refl) (part_stays m x sound told)

-- its clock was below its limit
sure_below : (l : Layout) (g : ℕ) (f : Facts) (caller index since : ℕ) (s : Stage) → Sure l g f caller index since s → IfSome (limit_in s) (λ most. since < most)
sure_below l g f caller index since Idle knows = tt
sure_below l g f caller index since (Saw n v w k) knows = tt
sure_below l g f caller index since (Wears n v) knows = tt
sure_below l g f caller index since (Reads n v k None) knows = tt
sure_below l g f caller index since (Reads n v k (Some h)) knows = subst (λ (o : Option ℕ). IfSome o (λ most. since < most)) (sym knows.reader.unlimited) tt
sure_below l g f caller index since (Holds n w h) knows = knows.below
sure_below l g f caller index since (Eyes n w h m v u free) knows = knows.0.below
sure_below l g f caller index since (Splits left fresh phase) knows = tt
sure_below l g f caller index since (Meets n w h right) knows = knows.0.below
sure_below l g f caller index since (Joins h left right pace) knows = knows.call.below
sure_below l g f caller index since (Leaves left) knows = tt

unspent : (limit : Option ℕ) (n : ℕ) → IfSome limit (λ most. n < most) → IsTrue (is_spent limit n) → ⊥
unspent None n below late = cc
unspent (Some most) n below late = let reached = leb-true most n late in omega arith

-- what it holds it holds for a name
named_by : (l : Layout) (g : ℕ) (f f' : Facts) (caller index since : ℕ) (name : List ℕ) (s : Stage) (placed : Placed) → Sure l g f caller index since s → IsAbout name s
    → IsLegal l g f' caller index since s (Some (once.Done placed)) → IsName name
named_by l g f f' caller index since name Idle placed knows about legal = absurd legal
named_by l g f f' caller index since name (Saw n v w k) placed knows about legal = absurd legal
named_by l g f f' caller index since name (Wears n v) placed knows about legal = absurd legal
named_by l g f f' caller index since name (Reads n v k None) placed knows about legal = absurd legal
named_by l g f f' caller index since name (Reads n v k (Some h)) placed knows about legal = subst IsName about knows.reader.named
named_by l g f f' caller index since name (Holds n w h) placed knows about legal = subst IsName about knows.named
named_by l g f f' caller index since name (Eyes n w h m v u free) placed knows about legal = absurd legal
named_by l g f f' caller index since name (Splits left fresh phase) placed knows about legal = absurd legal
named_by l g f f' caller index since name (Meets n w h right) placed knows about legal = absurd legal
named_by l g f f' caller index since name (Joins h left right pace) placed knows about legal = absurd legal
named_by l g f f' caller index since name (Leaves left) placed knows about legal = absurd (cc)

-- a put leaves each name that was there
still_there : (m : Map) (name : List ℕ) (value : ℕ) (other : List ℕ) (number : ℕ) → at m other ≡ Some number → IsSome (at (insert m name value) other)
still_there m name value other number is =
    subst IsSome (sym (get-insert nat_list_cmp_total m name value other))
    (by_names other name (λ b. IsSome (cond b (Some value) (at m other))) (λ _. refl) (λ _. subst IsSome (sym is) refl))

-- it holds one node at most
abbrev HoldsFew : Stage → Type 0
HoldsFew Idle = Unit {0}
HoldsFew (Saw n v w k) = Unit {0}
HoldsFew (Wears n v) = Unit {0}
HoldsFew (Reads n v sight told) = Unit {0}
HoldsFew (Holds n w h) = Unit {0}
HoldsFew _ = ⊥

loose_one : (s : Stage) → IsLoose s → HoldsFew s
loose_one = each_loose HoldsFew tt (λ n v w k. tt) (λ n v. tt) (λ n v sight told. tt)

looks_one : (kept : Sight) (call : Call) (at : LookupAt) → HoldsFew (lookup_at_stage kept call at)
looks_one = each_look HoldsFew loose_one (λ n word h. tt)

-- what splits is for its name
split_is_for : (h : Held) (name : List ℕ) (own : Option Change) (s : Stage) → h.name ≡ name → h.old ≡ Some None → IsOfSplit h s → IsFor name own s
split_is_for h name own Idle named lacked is = absurd is
split_is_for h name own (Saw n v w k) named lacked is = absurd is
split_is_for h name own (Wears n v) named lacked is = absurd is
split_is_for h name own (Reads n v sight told) named lacked is = absurd is
split_is_for h name own (Holds n w k) named lacked is = tt
split_is_for h name own (Eyes n w k m v u free) named lacked is = tt
split_is_for h name own (Splits left fresh phase) named lacked is = (is.0 ∙ named, is.1 ∙ lacked)
split_is_for h name own (Leaves left) named lacked is = tt
split_is_for h name own (Meets n w k right) named lacked is = absurd is
split_is_for h name own (Joins k left right pace) named lacked is = absurd is

-- what holds of each stage of a merge holds of one with both nodes
both_held : (P : Stage → Type 0) → ((n w : ℕ) (h : Held) (right : Grip) → P (Meets n w h right)) → ((h : Held) (left right : Grip) (pace : Pace) → P (Joins h left right pace)) → (s : Stage) → HoldsBoth s → P s
both_held P meets joins (Meets n w h right) two = meets n w h right
both_held P meets joins (Joins h left right pace) two = joins h left right pace
both_held P meets joins Idle two = absurd two
both_held P meets joins (Saw n v w k) two = absurd two
both_held P meets joins (Wears n v) two = absurd two
both_held P meets joins (Reads n v sight told) two = absurd two
both_held P meets joins (Holds n w h) two = absurd two
both_held P meets joins (Eyes n w h m v u free) two = absurd two
both_held P meets joins (Splits left fresh phase) two = absurd two
both_held P meets joins (Leaves left) two = absurd two

-- so what splits merges nothing
split_parts : (h : Held) (s : Stage) → IsOfSplit h s → HoldsBoth s → ⊥
split_parts h s is two = both_held (λ s. IsOfSplit h s → ⊥) (λ n w k right is. is) (λ k left right pace is. is) s two is

-- the stage of a call that doesn't split
abbrev HasOne : Running → Type 0
HasOne (Putting (put.Splitting call hold bitmap value split)) = ⊥
HasOne _ = Unit {0}

few_parts : (s : Stage) → HoldsFew s → HoldsBoth s → ⊥
few_parts s one two = both_held (λ s. HoldsFew s → ⊥) (λ n w h right one. one) (λ h left right pace one. one) s two one

-- a call that holds both nodes of no merge parts with none
abbrev pub leaves_after : Turn Running (Once Placed) → Bool
leaves_after (Go next) = is_leaving next
leaves_after (Done answer) = false

alone_parts : (s t : Stage) (after : Bool) (r : Option (Once Placed)) → (HoldsBoth s → ⊥) → PartsOnce s false t after r
alone_parts s t after r alone = record { parts = λ two. absurd (alone two); last = λ leaves. absurd (both leaves refl) }

-- a part at its node holds that or none
reading_few : (reading : Reading) (way : Way) → HoldsFew (stage_by way reading.call.node reading.hold.locked (behind_sight reading.behind) (reading_at_held reading reading.at))
reading_few reading (ways.Served words) = tt
reading_few reading (ways.Held words) = tt
reading_few reading ways.Alone = tt

-- each turn of a call parts with the node of its merge at last
parts_once : (m : Running) (x : ℕ) → PartsOnce (stage_of m) (is_leaving m) (stage_after (running_turned m x)) (leaves_after (running_turned m x)) (reply_of (running_turned m x))
parts_once (Getting (get.Looking lookup)) x = alone_parts _ _ _ _ (few_parts _ (looks_one (live_sight []) lookup.call lookup.at))
parts_once (Getting (get.Checking call hold old)) x = alone_parts _ _ _ _ (λ two. two)
parts_once (Putting (put.Single (single_put.Looking lookup value))) x = alone_parts _ _ _ _ (few_parts _ (looks_one (live_sight []) lookup.call lookup.at))
parts_once (Putting (put.Single (single_put.Filling fill))) x = alone_parts _ _ _ _ (λ two. two)
parts_once (Putting (put.Single (single_put.Replacing call hold bitmap hit value))) x = alone_parts _ _ _ _ (λ two. two)
parts_once (Putting (put.Single (single_put.Finishing finish))) x = alone_parts _ _ _ _ (λ two. two)
parts_once (Putting (put.Splitting call hold bitmap value split)) x = alone_parts _ _ _ _ (split_parts _ _ (stages_are_of_splits (found_full call hold bitmap) split))
parts_once (Deleting (del.Single (single_del.Looking lookup))) x = alone_parts _ _ _ _ (few_parts _ (looks_one (live_sight []) lookup.call lookup.at))
parts_once (Deleting (del.Single (single_del.Next call hold bitmap hit))) x = alone_parts _ _ _ _ (λ two. two)
parts_once (Deleting (del.Single (single_del.Taking call hold bitmap hit take))) x = alone_parts _ _ _ _ (λ two. two)
parts_once (Deleting (del.Single (single_del.Refusing call hold bitmap hit))) x = alone_parts _ _ _ _ (λ two. two)
parts_once (Deleting (del.Single (single_del.Clearing call hold bitmap hit line))) x = alone_parts _ _ _ _ (λ two. two)
parts_once (Deleting (del.Single (single_del.Finishing finish line))) x = alone_parts _ _ _ _ (λ two. two)
parts_once (Deleting (del.Merging call hold old place merge)) x = on (merge_turned merge x) (merge_parts (has_place call old place) merge x)
  where
    on : (turn : Turn Merge Merged) → MergeParts (has_place call old place) merge turn
        → PartsOnce (del_stage (del.Merging call hold old place merge)) (merge_leaves merge.at) (stage_after (wrapped Deleting (del_merged call hold old place turn)))
        (leaves_after (wrapped Deleting (del_merged call hold old place turn))) (reply_of (wrapped Deleting (del_merged call hold old place turn)))
    on (Go next) so = record { parts = so.0; last = λ leaves one. absurd (so.1 leaves one) }
    on (Done merged) so = record { parts = λ two one. absurd one; last = λ leaves one e. cc }
parts_once (Parting (part.Looking lookup count)) x = alone_parts _ _ _ _ (few_parts _ (looks_one (live_sight []) lookup.call lookup.at))
parts_once (Parting (part.Ordering call seen count load)) x = alone_parts _ _ _ _ (λ two. two)
parts_once (Parting (part.Locking call seen count locked)) x = alone_parts _ _ _ _ (λ two. two)
parts_once (Parting (part.Dating call seen count way)) x = alone_parts _ _ _ _ (λ two. two)
parts_once (Parting (part.Reading reading)) x = alone_parts _ _ _ _ (few_parts _ (reading_few reading reading.way))

one_for : (name : List ℕ) (own : Option Change) (s : Stage) → HoldsFew s → IsFor name own s
one_for name own Idle one = tt
one_for name own (Saw n v w k) one = tt
one_for name own (Wears n v) one = tt
one_for name own (Reads n v sight told) one = tt
one_for name own (Holds n w h) one = tt
one_for name own (Eyes n w h m v u free) one = absurd one
one_for name own (Splits left fresh phase) one = absurd one
one_for name own (Leaves left) one = absurd one
one_for name own (Meets n w h right) one = absurd one
one_for name own (Joins h left right pace) one = absurd one

-- what a call splits it splits for its name, and what it merges it merges for the delete of its name
machine_for : (w0 : World) (asked : NameOp) (m : Running) → IsOf asked m → Foresees w0 asked m → IsFor (name_asked asked) (change_of asked) (stage_of m)
machine_for w0 asked (Getting (get.Looking lookup)) of so = one_for _ _ _ (looks_one (live_sight []) lookup.call lookup.at)
machine_for w0 asked (Getting (get.Checking call hold old)) of so = tt
machine_for w0 asked (Putting (put.Single (single_put.Looking lookup value))) of so = one_for _ _ _ (looks_one (live_sight []) lookup.call lookup.at)
machine_for w0 asked (Putting (put.Single (single_put.Filling fill))) of so = tt
machine_for w0 asked (Putting (put.Single (single_put.Replacing call hold bitmap hit value))) of so = tt
machine_for w0 asked (Putting (put.Single (single_put.Finishing finish))) of so = tt
machine_for w0 (op.Put name number) (Putting (put.Splitting call hold bitmap value split)) of so =
    split_is_for (found_full call hold bitmap) name _ _ of.0 refl (stages_are_of_splits (found_full call hold bitmap) split)
machine_for w0 (op.Get name) (Putting (put.Splitting call hold bitmap value split)) of so = absurd of
machine_for w0 (op.Del name) (Putting (put.Splitting call hold bitmap value split)) of so = absurd of
machine_for w0 asked (Deleting (del.Single (single_del.Looking lookup))) of so = one_for _ _ _ (looks_one (live_sight []) lookup.call lookup.at)
machine_for w0 asked (Deleting (del.Single (single_del.Next call hold bitmap hit))) of so = tt
machine_for w0 asked (Deleting (del.Single (single_del.Taking call hold bitmap hit take))) of so = tt
machine_for w0 asked (Deleting (del.Single (single_del.Refusing call hold bitmap hit))) of so = tt
machine_for w0 asked (Deleting (del.Single (single_del.Clearing call hold bitmap hit line))) of so = tt
machine_for w0 asked (Deleting (del.Single (single_del.Finishing finish line))) of so = tt
machine_for w0 (op.Del name) (Deleting (del.Merging call hold old place merge)) of so =
    merge_is_for name (Some (change.Del name)) (has_place call old place) _ (merging_stage call old place merge)
    (record { named = of.0; deletes = refl; placed = λ e. cc; value = so.0.0; old = ap (λ (q : Option ℕ). Some q) so.0.1 })
machine_for w0 (op.Get name) (Deleting (del.Merging call hold old place merge)) of so = absurd of
machine_for w0 (op.Put name number) (Deleting (del.Merging call hold old place merge)) of so = absurd of
machine_for w0 asked (Parting (part.Looking lookup count)) of so = one_for _ _ _ (looks_one (live_sight []) lookup.call lookup.at)
machine_for w0 asked (Parting (part.Ordering call seen count load)) of so = tt
machine_for w0 asked (Parting (part.Locking call seen count locked)) of so = tt
machine_for w0 asked (Parting (part.Dating call seen count way)) of so = tt
machine_for w0 asked (Parting (part.Reading reading)) of so = one_for _ _ _ (reading_few reading reading.way)

-- whether it could merge, as it is answered that it took place
abbrev MergesEnd : World → NameOp → Stage → Type 0
MergesEnd w0 (op.Get name) s = Unit {0}
MergesEnd w0 (op.Put name value) s = Unit {0}
MergesEnd w0 (op.Del name) s = EndsSo w0 name s

-- what it has found out after a turn
abbrev ForeseesTurn : World → NameOp → Turn Running (Once Placed) → Type 0
ForeseesTurn w0 asked (Go next) = Foresees w0 asked next
ForeseesTurn w0 asked (Done answer) = Unit {0}

-- a turn leads to no split that has claimed a node
abbrev IsNotPast : Turn Running (Once Placed) → Type 0
IsNotPast (Go next) = IsPast next → ⊥
IsNotPast (Done answer) = Unit {0}

one_or_splits : (m : Running) → HasOne m ⊎ MayLackRoom m
one_or_splits (Getting m) = inl tt
one_or_splits (Deleting m) = inl tt
one_or_splits (Parting m) = inl tt
one_or_splits (Putting (put.Single (single_put.Looking lookup value))) = inl tt
one_or_splits (Putting (put.Single (single_put.Filling fill))) = inl tt
one_or_splits (Putting (put.Single (single_put.Replacing call hold bitmap hit value))) = inl tt
one_or_splits (Putting (put.Single (single_put.Finishing finish))) = inl tt
one_or_splits (Putting (put.Splitting call hold bitmap value split)) = inr tt

not_past : (m : Running) (x : ℕ) → HasOne m → IsNotPast (running_turned m x)
not_past (Getting m) x one = of (get_turned m x)
  where
    of : (turn : Turn Get (Once Placed)) → IsNotPast (wrapped Getting turn)
    of (Go next) = λ past. past
    of (Done answer) = tt
not_past (Deleting m) x one = of (del_turned m x)
  where
    of : (turn : Turn Del (Once Placed)) → IsNotPast (wrapped Deleting turn)
    of (Go next) = λ past. past
    of (Done answer) = tt
not_past (Parting m) x one = of (part_turned m x)
  where
    of : (turn : Turn Part (Once PartWords)) → IsNotPast (wrapped_part turn)
    of (Go next) = λ past. past
    of (Done answer) = tt
not_past (Putting (put.Single (single_put.Looking lookup value))) x one = of (lookup_turned lookup x)
  where
    full : (found : Found) (hit : Option Hit) → IsPast (Putting (put_full lookup.call found.hold found.directory.bitmap hit value)) → ⊥
    full found (Some hit) past = past
    full found None past = past

    into : (found : Found) (clear : Option ℕ) → IsPast (Putting (put_into lookup.call found value clear)) → ⊥
    into found (Some slot) past = past
    into found None past = full found found.hit past

    of : (turn : Turn Lookup Looked) → IsNotPast (wrapped Putting (put_looked lookup.call value turn))
    of (Go next) = λ past. past
    of (Done (looked.Early answer)) = tt
    of (Done (looked.Found found)) = into found (lowest_clear found.directory.bitmap lookup.call.view.layout.slots)
not_past (Putting (put.Single (single_put.Filling fill))) x one = of (fill_turned fill x)
  where
    of : (turn : Turn Fill Finish) → IsNotPast (wrapped Putting (put_filled turn))
    of (Go next) = λ past. past
    of (Done finish) = λ past. past
not_past (Putting (put.Single (single_put.Replacing call hold bitmap hit value))) x one = λ past. past
not_past (Putting (put.Single (single_put.Finishing finish))) x one = of (finish_turned finish x)
  where
    of : (turn : Turn Finish (Once Placed)) → IsNotPast (wrapped Putting (put_finished turn))
    of (Go next) = λ past. past
    of (Done answer) = tt
not_past (Putting (put.Splitting call hold bitmap value split)) x one = absurd one

-- a split that has claimed no node knows that its clock was below its limit
abbrev IsBelow : ℕ → Option ℕ → Type 0
IsBelow since limit = IfSome limit (λ most. since < most)

claims_below : (l : Layout) (g : ℕ) (f : Facts) (caller index since n w : ℕ) (k : Held) (m : ℕ) (at : ClaimAt) → Sure l g f caller index since (claim_at_stage g n w k m at) → IsBelow since k.limit
claims_below l g f caller index since n w k m claim_at.Nowhere knows = knows.below
claims_below l g f caller index since n w k m claim_at.Version knows = knows.below
claims_below l g f caller index since n w k m (claim_at.Status version) knows_so =
    elim (is_free_word version g) as (λ b. Sure l g f caller index since (cond b (cond (is_worn_word version g) (Holds n w k) (Eyes n w k m version (lock_of version g) false)) (Holds n w k)) → IsBelow since k.limit) [
      | true ↦ elim (is_worn_word version g) as (λ b. Sure l g f caller index since (cond b (Holds n w k) (Eyes n w k m version (lock_of version g) false)) → IsBelow since k.limit) [
        | true ↦ λ knows. knows.below
        | false ↦ λ knows. knows.0.below
      ]
      | false ↦ λ knows. knows.below
    ] knows_so
claims_below l g f caller index since n w k m (claim_at.Lock version locked) knows = knows.0.below

split_below : (l : Layout) (f : Facts) (caller index since : ℕ) (h : Held) (split : Split) (at : SplitAt) → IsSplitAt split.view split.node split.word at
    → Sure l split.view.generation f caller index since (split_at_footing h split at).stage → HasClaimed at ⊎ IsBelow since h.limit
split_below l f caller index since h split split_at.Next is knows = inr knows.below
split_below l f caller index since h split (split_at.Take next take) is knows = inr knows.below
split_below l f caller index since h split (split_at.Claim next line claim) is knows =
    inr (claims_below l claim.generation f caller index since split.node split.word (led next h) claim.node claim.at
    (subst (λ (g : ℕ). Sure l g f caller index since (claim_stage split.node split.word (led next h) claim)) (sym is.4) knows))
split_below l f caller index since h split (split_at.Read share full count) is knows = inl tt
split_below l f caller index since h split (split_at.Move moving) is knows = inl tt
split_below l f caller index since h split (split_at.Refuse next why) is knows = inr knows.below

-- and its node's version word is its own
split_mine : (l : Layout) (f : Facts) (caller index since : ℕ) (h : Held) (split : Split) (at : SplitAt) → IsSplitAt split.view split.node split.word at
    → Sure l split.view.generation f caller index since (split_at_footing h split at).stage → HoldsAlone at → f.version split.node ≡ split.word
split_mine l f caller index since h split (split_at.Claim next line claim) is knows alone =
    claims_mine l claim.generation f caller index since split.node split.word (led next h) claim.node claim.at
    (subst (λ (g : ℕ). Sure l g f caller index since (claim_stage split.node split.word (led next h) claim)) (sym is.4) knows)
  where
    claims_mine : (l : Layout) (g : ℕ) (f : Facts) (caller index since n w : ℕ) (k : Held) (m : ℕ) (at : ClaimAt) → Sure l g f caller index since (claim_at_stage g n w k m at) → f.version n ≡ w
    claims_mine l g f caller index since n w k m claim_at.Nowhere knows = knows.stands
    claims_mine l g f caller index since n w k m claim_at.Version knows = knows.stands
    claims_mine l g f caller index since n w k m (claim_at.Status version) knows_so =
        elim (is_free_word version g) as (λ b. Sure l g f caller index since (cond b (cond (is_worn_word version g) (Holds n w k) (Eyes n w k m version (lock_of version g) false)) (Holds n w k)) → f.version n ≡ w) [
          | true ↦ elim (is_worn_word version g) as (λ b. Sure l g f caller index since (cond b (Holds n w k) (Eyes n w k m version (lock_of version g) false)) → f.version n ≡ w) [
            | true ↦ λ knows. knows.stands
            | false ↦ λ knows. knows.0.stands
          ]
          | false ↦ λ knows. knows.stands
        ] knows_so
    claims_mine l g f caller index since n w k m (claim_at.Lock version locked) knows = knows.0.stands
split_mine l f caller index since h split split_at.Next is knows alone = absurd alone
split_mine l f caller index since h split (split_at.Take next take) is knows alone = absurd alone
split_mine l f caller index since h split (split_at.Read share full count) is knows alone = absurd alone
split_mine l f caller index since h split (split_at.Move moving) is knows alone = absurd alone
split_mine l f caller index since h split (split_at.Refuse next why) is knows alone = absurd alone

module _ (w0 : World) (i : ℕ) (asked : NameOp) (limit : Option ℕ) (w : World) (p : Party) (machine : Running) (x : ℕ) (o : LoneCall w0 i asked limit w p machine) (rest : IsAtRest w0)
    (told : x ≡ got w.layout w.words (running_asks machine)) (room : length w.history < 2 ^ 63) where
  open w use {layout as l, generation as g}

  abbrev a : Action
  a = running_asks machine

  abbrev own : Option Change
  own = change_of asked

  sure : Sure l g (facts w) p.caller p.index p.since (stage_of machine)
  sure = subst (Sure l g (facts w) p.caller p.index p.since) o.stage (o.trying.lawful.sure i p o.trying.there)

  may : MayDo l (stage_of machine) a
  may =
      let some = some_told l g a in
      any_allowed l g (stage_of machine) a some.0 _ _ (sure_within l g (facts w) p.caller p.index p.since (stage_of machine) sure)
      (turns_are_steps l g machine some.0 o.sound some.1 (some_leads l g (stage_of machine) a o.trying.lawful.row.layout.nodes.0))

  act : ActionLaw w p.stage a
  act = any_can w i p a o.trying.lawful o.trying.there (subst (λ (s : Stage). MayDo l s a) (sym o.stage) may) room

  tells : Told l g a x
  tells = subst (Told l g a) (sym told) act.told

  leads : LeadsWithin l (stage_of machine) a x
  leads = subst (λ (q : Stage × ℕ). LeadsWithin l q.0 a q.1) (λ k. (o.stage k, sym told k)) act.leads

  takes : running_leads machine x
  takes = leads_are_taken l g machine x o.sound leads

  step : AnyStep l g p.stage a x (stage_after (running_turned machine x)) (reply_of (running_turned machine x))
  step = subst (λ (s : Stage). AnyStep l g s a x (stage_after (running_turned machine x)) (reply_of (running_turned machine x))) (sym o.stage) (turns_are_steps l g machine x o.sound tells leads)

  mine : IfSome (counted p.stage) (λ change. own ≡ Some change)
  mine = subst (λ (s : Stage). IfSome (counted s) (λ change. own ≡ Some change)) (sym o.stage) (counts_own_change asked machine o.of)

  about : IsAbout (name_asked asked) p.stage
  about = subst (IsAbout (name_asked asked)) (sym o.stage) (holds_own_name asked machine o.of)

  is_for : IsFor (name_asked asked) own p.stage
  is_for = subst (IsFor (name_asked asked) own) (sym o.stage) (machine_for w0 asked machine o.of o.foresees)

  layout_is : (running_call machine).view.layout ≡ w0.layout
  layout_is = o.sound.layout ∙ o.trying.start.layout

  generation_is : (running_call machine).view.generation ≡ w0.generation
  generation_is = o.sound.generation ∙ o.trying.start.generation

  -- the version word of a node that it holds alone while it splits
  mine_word : KnowsOwn l w.words machine
  mine_word = of machine o.sound sure
    where
      of : (m : Running) → Sound l g m → Sure l g (facts w) p.caller p.index p.since (stage_of m) → KnowsOwn l w.words m
      of (Getting m) is knows = tt
      of (Deleting m) is knows = tt
      of (Parting m) is knows = tt
      of (Putting (put.Single (single_put.Looking lookup value))) is knows = tt
      of (Putting (put.Single (single_put.Filling fill))) is knows = tt
      of (Putting (put.Single (single_put.Replacing call hold bitmap hit value))) is knows = tt
      of (Putting (put.Single (single_put.Finishing finish))) is knows = tt
      of (Putting (put.Splitting call hold bitmap value split)) is knows = λ alone.
          subst (λ (q : ℕ × ℕ). (facts w).version q.0 ≡ q.1) (λ k. (is.here.node k, is.here.word k))
          (split_mine l (facts w) p.caller p.index p.since (found_full call hold bitmap) split split.at is.here.here.here
          (subst (λ (n : ℕ). Sure l n (facts w) p.caller p.index p.since (split_footing (found_full call hold bitmap) split).stage) (sym (ap (λ (v : View). v.generation) is.here.view ∙ is.generation)) knows) alone)

  went : Went w0.layout w0.generation w0.words (acted w.layout w.words a) machine (running_turned machine x)
  went =
      let still = subst (λ (q : Layout × ℕ). CanWalk q.0 q.1 w0.words) (λ k. (sym layout_is k, sym generation_is k)) o.walks in
      let stands = subst (λ (k : Layout). IsThere k w0.words w.words machine) (sym layout_is) o.stands in
      let own_told = subst (λ (k : Layout). x ≡ got k w.words a) (sym o.sound.layout) told in
      let own_tells = subst (λ (q : Layout × ℕ). Told q.0 q.1 a x) (λ k. (sym o.sound.layout k, sym o.sound.generation k)) tells in
      let own_mine = subst (λ (k : Layout). KnowsOwn k w.words machine) (sym o.sound.layout) mine_word in
      subst (λ (k : Layout). Went w0.layout w0.generation w0.words (acted k w.words a) machine (running_turned machine x)) o.sound.layout
      (subst (λ (q : Layout × ℕ). Went q.0 q.1 w0.words (acted (running_call machine).view.layout w.words a) machine (running_turned machine x)) (λ k. (layout_is k, generation_is k))
      (machine_went machine w0.words w.words x o.sound.here still own_tells own_mine stands own_told))

  name_is : name_in (running_call machine) ≡ name_asked asked
  name_is = of_name asked machine o.of

  abbrev w' : World
  w' = stepped w i p a Idle

  -- what it wrote
  wrote : (d : NameOp) (m : Running) → IsOf d m → (place : Option ℕ) → NeedsPlace m place → (place ≡ None → w'.history ≡ w0.history)
      → (place ≢ None → w'.history ≡ w0.history ++ written p.caller p.index (change_of d)) → w'.history ≡ w0.history ++ written p.caller p.index (change_of d)
  wrote (op.Get name) (Getting m) is None needs before given = before refl ∙ sym (append-nil w0.history)
  wrote (op.Get name) (Getting m) is (Some place) needs before given = given (λ e. cc)
  wrote (op.Get name) (Parting m) is None needs before given = before refl ∙ sym (append-nil w0.history)
  wrote (op.Get name) (Parting m) is (Some place) needs before given = given (λ e. cc)
  wrote (op.Get name) (Putting m) is place needs before given = absurd is
  wrote (op.Get name) (Deleting m) is place needs before given = absurd is
  wrote (op.Put name value) (Getting m) is place needs before given = absurd is
  wrote (op.Put name value) (Putting m) is place needs before given = given needs
  wrote (op.Put name value) (Deleting m) is place needs before given = absurd is
  wrote (op.Put name value) (Parting m) is place needs before given = absurd is
  wrote (op.Del name) (Getting m) is place needs before given = absurd is
  wrote (op.Del name) (Putting m) is place needs before given = absurd is
  wrote (op.Del name) (Deleting m) is place needs before given = given needs
  wrote (op.Del name) (Parting m) is place needs before given = absurd is

  -- what a put that splits has found
  full : (d : NameOp) (m : Running) → Foresees w0 d m → MayLackRoom m → FindsFull w0 d
  full d (Getting m) so splits = absurd splits
  full d (Putting (put.Single single)) so splits = absurd splits
  full d (Putting (put.Splitting call hold bitmap value split)) so splits = so
  full d (Deleting m) so splits = absurd splits
  full d (Parting m) so splits = absurd splits

  lacks_room : (why : Again) → (why ≡ again.LogFull → ⊥) → MayLack machine why → MayLackRoom machine
  lacks_room why other = ⊎_elim (λ (splits : MayLackRoom machine). splits) (λ (refuses : (why ≡ again.LogFull) × IsRefusing machine). absurd (other refuses.0))

  -- what needs a line
  full_needs : (d : NameOp) → FindsFull w0 d → NeedsLine w0 d
  full_needs (op.Get name) full = absurd full
  full_needs (op.Put name value) full = full
  full_needs (op.Del name) full = absurd full

  needs : (d : NameOp) (m : Running) → IsOf d m → Foresees w0 d m → MayLack m again.LogFull → NeedsLine w0 d
  needs d m is so = ⊎_elim
      (λ (splits : MayLackRoom m). full_needs d (full d m so splits))
      (λ (refuses : (again.LogFull ≡ again.LogFull) × IsRefusing m). refused d refuses.1 (subst (IsOf d) refuses.1.is is) (subst (Foresees w0 d) refuses.1.is so))
    where
      refused : (d : NameOp) (r : IsRefusing m) → IsOf d (Deleting (del.Single (single_del.Refusing r.call r.hold r.bitmap r.hit))) → Foresees w0 d (Deleting (del.Single (single_del.Refusing r.call r.hold r.bitmap r.hit))) → NeedsLine w0 d
      refused (op.Get name) r is so = absurd is
      refused (op.Put name value) r is so = absurd is
      refused (op.Del name) r is so = so

  -- as it was answered that it took place it had the line that it needs
  had_line : (d : NameOp) (m : Running) → IsOf d m → IsThere w0.layout w0.words w.words m → Foresees w0 d m → NeedsPlace m (placed_in (stage_of m)) → (FindsFull w0 d → ⊥) → NeedsLine w0 d
      → HasLine w0.layout w0.words (running_call m).view.caller
  had_line (op.Get name) m is stands so given room needs = absurd needs
  had_line (op.Put name value) m is stands so given room needs = absurd (room needs)
  had_line (op.Del name) (Deleting m) is stands so given room needs = del_had_line w0 name w0.layout w0.words w.words m stands so given needs
  had_line (op.Del name) (Getting m) is stands so given room needs = absurd is
  had_line (op.Del name) (Putting m) is stands so given room needs = absurd is
  had_line (op.Del name) (Parting m) is stands so given room needs = absurd is

  -- of the party's own lines
  own_line : HasLine w0.layout w0.words (running_call machine).view.caller → HasLine w0.layout w0.words p.caller
  own_line = subst (HasLine w0.layout w0.words) o.own

  since_is : p.since ≡ length w0.history
  since_is = o.trying.start.since

  -- once its clock was below its limit
  in_time : limit_in (stage_of machine) ≡ (running_call machine).limit → IsLate w0 limit → ⊥
  in_time same late =
      let below = sure_below l g (facts w) p.caller p.index p.since (stage_of machine) sure in
      let most : IfSome limit (λ most. length w0.history < most) = subst (λ (q : Option ℕ × ℕ). IfSome q.0 (λ most. q.1 < most)) (λ k. ((same ∙ o.limited) k, since_is k)) below in
      unspent limit (length w0.history) most late

  -- and so it was while it split
  split_late : (m : Running) → Sound l g m → Sure l g (facts w) p.caller p.index p.since (stage_of m) → (IsPast m → IsLate w0 limit → ⊥) → (running_call m).limit ≡ limit → MayLackRoom m
      → IsLate w0 limit → ⊥
  split_late (Putting (put.Splitting call hold bitmap value split)) is knows timely same splits late = ⊎_elim
      (λ claimed. timely claimed late)
      (λ below. unspent limit (length w0.history) (subst (λ (q : Option ℕ × ℕ). IfSome q.0 (λ most. q.1 < most)) (λ k. (same k, since_is k)) below) late)
      (split_below l (facts w) p.caller p.index p.since (found_full call hold bitmap) split split.at is.here.here.here
      (subst (λ (n : ℕ). Sure l n (facts w) p.caller p.index p.since (split_footing (found_full call hold bitmap) split).stage) (sym (ap (λ (v : View). v.generation) is.here.view ∙ is.generation)) knows))
  split_late (Getting m) is knows timely same splits late = splits
  split_late (Deleting m) is knows timely same splits late = splits
  split_late (Parting m) is knows timely same splits late = splits
  split_late (Putting (put.Single (single_put.Looking lookup value))) is knows timely same splits late = splits
  split_late (Putting (put.Single (single_put.Filling fill))) is knows timely same splits late = splits
  split_late (Putting (put.Single (single_put.Replacing call hold bitmap hit value))) is knows timely same splits late = splits
  split_late (Putting (put.Single (single_put.Finishing finish))) is knows timely same splits late = splits

  -- nor was it late as it looked for a line
  line_late : MayLack machine again.LogFull → IsLate w0 limit → ⊥
  line_late = ⊎_elim
      (λ (splits : MayLackRoom machine). split_late machine o.sound sure o.timely o.limited splits)
      (λ (refuses : (again.LogFull ≡ again.LogFull) × IsRefusing machine). in_time (subst (λ (m : Running). limit_in (stage_of m) ≡ (running_call m).limit) (sym refuses.1.is) refl))

  -- a write that finds its target worn
  worn_so : (d : NameOp) → HasLimit d limit → FindsWorn w0 d → IsSome limit × IsWorn ((facts w0).version (target_node w0 (name_asked d))) w0.generation
  worn_so (op.Get name) limits worn = absurd worn
  worn_so (op.Put name value) limits worn = (limits, worn)
  worn_so (op.Del name) limits worn = (limits, worn)

  finds_worn : (d : NameOp) → HasLimit d limit → IsSome limit → IsWorn ((facts w0).version (target_node w0 (name_asked d))) w0.generation → FindsWorn w0 d
  finds_worn (op.Get name) none given worn = absurd (let no : false ≡ true = sym (ap is_some none) ∙ given in cc)
  finds_worn (op.Put name value) limits given worn = worn
  finds_worn (op.Del name) limits given worn = worn

  fresh : IsAtNode w0.layout w0.words (running_call machine) → FindsWorn w0 asked → ⊥
  fresh stands finds = let so = worn_so asked o.limits finds in let worn = so.1 in
      stands.unworn (ap is_some o.limited ∙ so.0) (subst (λ (q : ℕ × ℕ). IsWorn ((facts w0).version q.0) q.1) (λ k. (sym (stands.node ∙ ap (λ (n : List ℕ). target_node w0 n) name_is) k, sym generation_is k)) worn)

  -- it had room
  had_room : (d : NameOp) → IsName (name_asked d) → IsAtRest w' → w'.history ≡ w0.history ++ written p.caller p.index (change_of d) → (IsPutOp d → (facts w').list ≡ (facts w0).list) → FindsFull w0 d → ⊥
  had_room (op.Put name value) named rest' history kept finds =
      let list = kept tt in
      let map_is : map_now (facts w') ≡ insert (map_now (facts w0)) name value =
      (λ k. after_all (o.trying.start.base k) (history k)) ∙ after_all-push w0.base w0.history (record { caller = p.caller; index = p.index; change = change.Put name value }) in
      let now : (other : List ℕ) → at (map_now (facts w')) other ≡ at (insert (map_now (facts w0)) name value) other = λ other. ap (λ m. at m other) map_is in
      let fewer = added_had_room w0 w' name rest rest' o.trying.start.layout list named finds.0
      (subst IsSome (sym (now name ∙ changed_found (map_now (facts w0)) (change.Put name value))) refl)
      (λ other number is. subst IsSome (sym (now other)) (still_there (map_now (facts w0)) name value other number is)) in
      let same = finds.1 in
      omega arith
  had_room (op.Get name) named rest' history kept finds = finds
  had_room (op.Del name) named rest' history kept finds = finds

  -- whether it could merge, as it is answered that it took place
  ends_so : (d : NameOp) (m : Running) (placed : Placed) → IsOf d m → IsRunning m → Foresees w0 d m → IsLegal l g (facts w') p.caller p.index p.since (stage_of m) (Some (once.Done placed))
      → NeedsPlace m (placed_in (stage_of m)) → running_turned m x ≡ Done (once.Done placed) → MergesEnd w0 d (stage_of m)
  ends_so (op.Get name) m placed is sound so legal needs done = tt
  ends_so (op.Put name value) m placed is sound so legal needs done = tt
  ends_so (op.Del name) (Deleting m) placed is sound so legal needs done =
      del_ends w0 name o.trying.start.began l g (facts w') p.caller p.index p.since placed m x sound so legal needs (unwrapped (del_turned m x) done)
    where
      unwrapped : (turn : Turn Del (Once Placed)) → wrapped Deleting turn ≡ Done (once.Done placed) → turn ≡ Done (once.Done placed)
      unwrapped (Go next) e = absurd (cc)
      unwrapped (Done answer) e = cc
  ends_so (op.Del name) (Getting m) placed is sound so legal needs done = absurd is
  ends_so (op.Del name) (Putting m) placed is sound so legal needs done = absurd is
  ends_so (op.Del name) (Parting m) placed is sound so legal needs done = absurd is

  -- and what it leaves of the list
  leaves_shape : (d : NameOp) (s : Stage) → HasKeptOrMerged w0 w' (name_asked d) (change_of d) s → MergesEnd w0 d s → LeavesShape w0 d w'
  leaves_shape (op.Get name) s (inl kept) ends = inl ((λ none. none), kept.1)
  leaves_shape (op.Get name) s (inr merged) ends = absurd (let no = merged.1 in cc)
  leaves_shape (op.Put name value) s (inl kept) ends = inl ((λ none. none), kept.1)
  leaves_shape (op.Put name value) s (inr merged) ends = absurd (let no = merged.1 in cc)
  leaves_shape (op.Del name) s (inl kept) ends = inl (ends.0 kept.0, kept.1)
  leaves_shape (op.Del name) s (inr merged) ends = inr ((merged.2, ends.1 merged.0), merged.3)

  -- a put leaves the list
  put_keeps : (d : NameOp) (s : Stage) → HasKeptOrMerged w0 w' (name_asked d) (change_of d) s → IsPutOp d → (facts w').list ≡ (facts w0).list
  put_keeps (op.Get name) s left is = absurd is
  put_keeps (op.Del name) s left is = absurd is
  put_keeps (op.Put name value) s (inl kept) is = kept.1.0
  put_keeps (op.Put name value) s (inr merged) is = absurd (let no = merged.1 in cc)

  -- where it was turned back nothing but the version word of its node has changed
  unmoved : IsAtNode w0.layout w0.words (running_call machine) → IsUnmoved w0.layout w0.words (acted w.layout w.words a) (running_call machine).node
      → IsUnmoved w0.layout w0.words w'.words (target_node w0 (name_asked asked))
  unmoved stands = subst (IsUnmoved w0.layout w0.words (acted w.layout w.words a)) (stands.node ∙ ap (λ (n : List ℕ). target_node w0 n) name_is)

  answered : (answer : Once Placed) → running_turned machine x ≡ Done answer → IsAtRest w' → Says w0 w' (name_asked asked) own p.stage answer → LeavesHistory own w0 w' p
      → IsLegal l g (facts w') p.caller p.index p.since p.stage (Some answer)
      → HasEnded w0.layout w0.generation w0.words (acted w.layout w.words a) (running_call machine) (NeedsPlace machine) (MayLack machine) (placed_in (stage_of machine)) (limit_in (stage_of machine)) answer
      → IsAnswered w0 asked limit w' p answer
  answered (once.Done placed) done rest' says leaves legal ended =
      let same_place = ap placed_in o.stage in
      let history = wrote asked machine o.of (placed_in (stage_of machine)) ended.2 (λ e. leaves.0 (same_place ∙ e)) (λ some. leaves.1 (λ e. some (sym same_place ∙ e))) in
      let named = named_by l g (facts w) (facts w') p.caller p.index p.since (name_asked asked) p.stage placed (o.trying.lawful.sure i p o.trying.there) about legal in
      let ends = ends_so asked machine placed o.of o.sound.here o.foresees (subst (λ (s : Stage). IsLegal l g (facts w') p.caller p.index p.since s (Some (once.Done placed))) o.stage legal) ended.2 done in
      let room_had = had_room asked named rest' history (put_keeps asked p.stage says.2) in (
        (fresh ended.0, in_time ended.3, room_had, λ needs. own_line (had_line asked machine o.of o.stands o.foresees ended.2 room_had needs)),
        says.0,
        says.1,
        subst (λ (q : List ℕ × ℕ). WalksBy w0.layout w0.words q.0 q.1) (λ k. (name_is k, sym ended.1 k)) ended.0.hops,
        history,
        leaves_shape asked p.stage says.2 (subst (MergesEnd w0 asked) (sym o.stage) ends),
      )
  answered (once.Spent clock) done rest' says leaves legal ended =
      (fresh ended.1, subst (λ (q : Option ℕ × ℕ). IsTrue (is_spent q.0 q.1)) (λ k. (o.limited k, says.0 k)) ended.0, says.0, says.1, says.2)
  answered (once.Worn node word) done rest' says leaves legal ended =
      let node_is : node ≡ target_node w0 (name_asked asked) = ended.1 ∙ ap (λ (n : List ℕ). target_node w0 n) name_is in
      (finds_worn asked o.limits (ap is_some (sym o.limited) ∙ ended.0) (subst (λ (v : ℕ). IsWorn v w0.generation) (ended.2 ∙ ap (facts w0).version node_is) ended.3), node_is, ended.2, says.0, says.1)
  answered (once.Again again.LogFull) done rest' says leaves legal ended =
      (fresh ended.0, line_late ended.1, needs asked machine o.of o.foresees ended.1, subst (LacksLine w0.layout w0.words) o.own ended.2, says.0, says.1, unmoved ended.0 ended.3)
  answered (once.Again again.NoFree) done rest' says leaves legal ended =
      let splits = lacks_room again.NoFree (λ e. cc) ended.1 in
      (fresh ended.0, split_late machine o.sound sure o.timely o.limited splits, full asked machine o.foresees splits, own_line ended.2.0, ended.2.1, says.0, says.1, unmoved ended.0 ended.3)
  answered (once.Again (again.NeedsSplit node)) done rest' says leaves legal ended =
      let splits = lacks_room (again.NeedsSplit node) (λ e. cc) ended.1 in
      (fresh ended.0, split_late machine o.sound sure o.timely o.limited splits, full asked machine o.foresees splits, own_line ended.2, ended.3, says.0, says.1, says.2)
  answered (once.Again (again.Locked n word)) done rest' says leaves legal ended = absurd ended.2
  answered (once.Again (again.Moved n first second)) done rest' says leaves legal ended = absurd ended.2
  answered (once.Again (again.Hops count)) done rest' says leaves legal ended = absurd ended.2
  answered (once.Again (again.Held word)) done rest' says leaves legal ended = absurd ended.2
  answered (once.Again (again.Epoch first second)) done rest' says leaves legal ended = absurd ended.2

  -- the try goes on to each stage
  goes_on_to : (next : Running) → running_turned machine x ≡ Go next → Trying (name_asked asked) own w0 i (stepped w i p a (stage_of next)) (moved_on p (stage_of next))
  goes_on_to next turn = tries_go (name_asked asked) own w0 i w p a x (stage_of next) o.trying is_for mine
      (subst (λ (t : Turn Running (Once Placed)). AnyStep l g p.stage a x (stage_after t) (reply_of t)) turn step) told room

  -- which is in order
  goes_on_so : (next : Running) → running_turned machine x ≡ Go next → Sound l g next × Trying (name_asked asked) own w0 i (stepped w i p a (stage_of next)) (moved_on p (stage_of next))
  goes_on_so next turn = (subst (SoundAfter l g) turn (turns_stay_sound l g machine x o.sound tells takes), goes_on_to next turn)

  -- the version words after a turn
  locks_so : AfterLocks g (facts w0).version (facts (stepped w i p a (stage_after (running_turned machine x)))).version (leaves_after (running_turned machine x)) (stage_after (running_turned machine x)) (reply_of (running_turned machine x))
  locks_so = locks_go (facts w0).version w i p (is_leaving machine) a x (stage_after (running_turned machine x)) (leaves_after (running_turned machine x)) (reply_of (running_turned machine x)) o.trying.lawful o.trying.there
      (subst (HasLocked g (facts w0).version (facts w).version (is_leaving machine)) (sym o.stage) o.locks)
      (subst (λ (s : Stage). PartsOnce s (is_leaving machine) (stage_after (running_turned machine x)) (leaves_after (running_turned machine x)) (reply_of (running_turned machine x))) (sym o.stage) (parts_once machine x))
      step told

  -- what it has found out after a turn
  foresees_so : ForeseesTurn w0 asked (running_turned machine x)
  foresees_so = of asked machine o.of o.foresees o.locks o.sound o.stage told o.trying goes_on_so
    where
      of : (d : NameOp) (m : Running) → IsOf d m → Foresees w0 d m → HasLocked g (facts w0).version (facts w).version (is_leaving m) (stage_of m) → Sound l g m → p.stage ≡ stage_of m → x ≡ got l w.words (running_asks m)
          → Trying (name_asked d) (change_of d) w0 i w p
          → ((next : Running) → running_turned m x ≡ Go next → Sound l g next × Trying (name_asked d) (change_of d) w0 i (stepped w i p (running_asks m) (stage_of next)) (moved_on p (stage_of next)))
          → ForeseesTurn w0 d (running_turned m x)
      of d (Getting m) is so locks sound stage heard trying goes = on (get_turned m x)
        where
          on : (turn : Turn Get (Once Placed)) → ForeseesTurn w0 d (wrapped Getting turn)
          on (Go next) = tt
          on (Done answer) = tt
      of (op.Put name value) (Putting m) is so locks sound stage heard trying goes = on (put_turned m x)
          (put_foresees name value (change_of (op.Put name value)) w0 i w p rest m x is.0 sound.layout so (λ next e. let on = goes (Putting next) (ap (wrapped Putting) e) in (on.0.here, on.1)))
        where
          on : (turn : Turn Put (Once Placed)) → PutForeseesSo w0 (op.Put name value) turn → ForeseesTurn w0 (op.Put name value) (wrapped Putting turn)
          on (Go next) so = so
          on (Done answer) so = tt
      of (op.Get name) (Putting m) is so locks sound stage heard trying goes = absurd is
      of (op.Del name) (Putting m) is so locks sound stage heard trying goes = absurd is
      of d (Parting m) is so locks sound stage heard trying goes = on (part_turned m x)
        where
          on : (turn : Turn Part (Once PartWords)) → ForeseesTurn w0 d (wrapped_part turn)
          on (Go next) = tt
          on (Done answer) = tt
      of (op.Del name) (Deleting m) is so locks sound stage heard trying goes = on (del_turned m x)
          (del_foresees name w0 i w p trying rest m x sound.here is.0 sound.layout sound.generation stage so locks heard (λ next e. let on = goes (Deleting next) (ap (wrapped Deleting) e) in (on.0.here, on.1)))
        where
          on : (turn : Turn Del (Once Placed)) → DelForeseesSo w0 name turn → ForeseesTurn w0 (op.Del name) (wrapped Deleting turn)
          on (Go next) so = so
          on (Done answer) so = tt
      of (op.Get name) (Deleting m) is so locks sound stage heard trying goes = absurd is
      of (op.Put name value) (Deleting m) is so locks sound stage heard trying goes = absurd is

  after_turn : (t : Turn Running (Once Placed)) → running_turned machine x ≡ t → AnyStep l g p.stage a x (stage_after t) (reply_of t) → SoundAfter l g t → IsOfAfter asked t → KeepsCall (running_call machine) t
      → (HasOne machine → IsNotPast t) → ForeseesTurn w0 asked t → AfterLocks g (facts w0).version (facts (stepped w i p a (stage_after t))).version (leaves_after t) (stage_after t) (reply_of t)
      → Went w0.layout w0.generation w0.words (acted w.layout w.words a) machine t → AfterCall w0 i asked limit w p machine t
  after_turn (Go next) turn k sound of keeps begun foreseen locks been = record {
    trying = goes_on_to next turn;
    walks = o.walks;
    stage = refl;
    sound = sound;
    of = of;
    limited = keeps.0 ∙ o.limited;
    limits = o.limits;
    own = ap (λ (v : View). v.caller) keeps.1 ∙ o.own;
    stands = been;
    foresees = foreseen;
    locks = locks;
    timely = λ past. ⊎_elim
        (λ (one : HasOne machine). absurd (begun one past))
        (λ (splits : MayLackRoom machine). split_late machine o.sound sure o.timely o.limited splits)
        (one_or_splits machine);
  }
  after_turn (Done answer) turn k sound of keeps begun foreseen locks been =
      let end = tries_end (name_asked asked) own w0 i w p a x Idle answer o.trying is_for about k told room in
      let legal = (any_keeps w i p a x Idle (Some answer) o.trying.lawful o.trying.there k told room).legal in
      (end.0, answered answer turn end.0 end.1 end.2 legal been, subst (λ (n : ℕ). (m : ℕ) → locks_of n ((facts w0).version m) ≤ locks_of n ((facts w').version m) + 1) o.trying.start.generation locks, end.1)

pub lone_calls_go : LoneCallsGo
lone_calls_go w0 i asked limit w p machine x o rest told room =
    let is_told = tells w0 i asked limit w p machine x o rest told room in
    let own_told = subst (λ (q : Layout × ℕ). Told q.0 q.1 (running_asks machine) x) (λ k. (sym o.sound.layout k, sym o.sound.generation k)) is_told in
    let led = takes w0 i asked limit w p machine x o rest told room in
    after_turn w0 i asked limit w p machine x o rest told room (running_turned machine x) refl (step w0 i asked limit w p machine x o rest told room)
    (turns_stay_sound w.layout w.generation machine x o.sound is_told led) (turns_keep_op w.layout w.generation asked machine x o.sound is_told led o.of)
    (call_kept machine x o.sound.here own_told led) (not_past machine x)
    (foresees_so w0 i asked limit w p machine x o rest told room) (locks_so w0 i asked limit w p machine x o rest told room) (went w0 i asked limit w p machine x o rest told room)

-- it takes few locks, wherever it is cut off
pub lone_calls_lose : LoneCallsLose
lone_calls_lose w0 i asked limit w p machine o n =
    let knows = subst (Sure w.layout w.generation (facts w) p.caller p.index p.since) o.stage (o.trying.lawful.sure i p o.trying.there) in
    subst (λ (g : ℕ). locks_of g ((facts w0).version n) ≤ locks_of g ((facts w).version n) + 1) o.trying.start.generation
    (stages_lose w.layout w.generation (facts w0).version (facts w) p.caller p.index p.since (is_leaving machine) (stage_of machine) knows o.locks n)

module _ (w0 : World) (i : ℕ) (limit : Option ℕ) (p : Party) (index : ℕ) (view : View) (name : List ℕ) (rest : IsAtRest w0) (can : CanWalk w0.layout w0.generation w0.words) (there : get_elem? w0.parties i ≡ some p)
    (is_view : IsView view) (layout : view.layout ≡ w0.layout) (generation : view.generation ≡ w0.generation) (named : IsName name) (most : IfSome limit (λ m. m ≤ 2 ^ 62)) where
  abbrev call : Call
  call = new_call view name limit

  abbrev begun : Party
  begun = record { caller = p.caller; index = index; since = length w0.history; stage = Idle }

  looks_sound : IsLookup (starts call)
  looks_sound =
      let nodes : 1 ≤ view.layout.nodes = is_view.layout.nodes.0 in
      record {
        call = record { view = is_view; node = omega arith; packed = packed_from_name name named; print = ap fingerprint_of (sym (bytes_of-words_of name named)); limit = most };
        here = record { sound = floor_starts_sound view.layout call.name is_view.layout (packed_from_name name named); layout = refl; key = refl };
      }

  tries : (own : Option Change) → Trying name own w0 i (started w0 i p index) begun
  tries own = record {
    lawful = start_law w0 i p index (rest_law w0 rest) there (rest.idle i p there);
    there = set_here w0.parties i begun p there;
    start = record { since = refl; layout = refl; generation = refl; base = refl; began = rest.list };
    others = λ j q other at. rest.idle j q (sym (set_else w0.parties i j begun other) ∙ at);
    written = inl (refl, refl);
    shape = is_same refl refl refl;
    gone = omega arith;
  }

  landing : IsLanding w0.layout w0.words call (floor_starts view.layout call.name)
  landing =
      let turns : ℕ = floor_most w0.layout in
      let kept_words : LayerWords = layer_words w0.layout w0.words Cached in
      let exact = floor_is_exact w0.layout call.name kept_words rest.row.layout looks_sound.here.sound.key (λ p. reads_fit w0.layout w0.words Cached p rest.row.fits) can.order in
      record {
        turns = turns;
        answers = subst (λ (l : Layout). IsSomeAnd (answer_from turns kept_words (floor_starts l call.name)) (StartsAt w0.layout w0.words (name_in call))) (sym layout)
            (subst (λ (key : ℕ). IsSomeAnd (answer_from turns kept_words (floor_starts w0.layout call.name)) (IsFloorOf (layer_of w0.layout w0.words) key)) (key_is call looks_sound.call) exact);
      }

  about_name : name_in call ≡ name
  about_name = bytes_of-words_of name named

pub lone_calls_begin : LoneCallsBegin
lone_calls_begin w0 i (op.Get name) limit p index view rest can there is_view layout generation own named most limits fits = record {
  walks = can;
  foresees = tt;
  limits = limits;
  locks = λ m. refl;
  timely = λ past. absurd past;
  trying = tries w0 i limit p index view name rest can there is_view layout generation named most None;
  stage = refl;
  sound = record { layout = layout; generation = generation; here = (looks_sound w0 i limit p index view name rest can there is_view layout generation named most, limits) };
  of = bytes_of-words_of name named;
  limited = refl;
  own = own;
  stands = (refl, landing w0 i limit p index view name rest can there is_view layout generation named most);
}
lone_calls_begin w0 i (op.Put name value) limit p index view rest can there is_view layout generation own named most limits fits = record {
  walks = can;
  foresees = tt;
  limits = limits;
  locks = λ m. refl;
  timely = λ past. absurd past;
  trying = tries w0 i limit p index view name rest can there is_view layout generation named most (Some (change.Put name value));
  stage = refl;
  sound = record { layout = layout; generation = generation; here = (looks_sound w0 i limit p index view name rest can there is_view layout generation named most, fits, limits) };
  of = (bytes_of-words_of name named, refl);
  limited = refl;
  own = own;
  stands = (refl, landing w0 i limit p index view name rest can there is_view layout generation named most);
}
lone_calls_begin w0 i (op.Del name) limit p index view rest can there is_view layout generation own named most limits fits = record {
  walks = can;
  foresees = tt;
  limits = limits;
  locks = λ m. refl;
  timely = λ past. absurd past;
  trying = tries w0 i limit p index view name rest can there is_view layout generation named most (Some (change.Del name));
  stage = refl;
  sound = record { layout = layout; generation = generation; here = (looks_sound w0 i limit p index view name rest can there is_view layout generation named most, limits) };
  of = (bytes_of-words_of name named, tt);
  limited = refl;
  own = own;
  stands = (refl, landing w0 i limit p index view name rest can there is_view layout generation named most);
}

-- to the law a part is a get of its low name
as_part : {w0 w : World} {i : ℕ} {asked : NameOp} {limit : Option ℕ} {p : Party} (call : Call) (count : ℕ) → LoneCall w0 i asked limit w p (Getting (get.Looking (starts call)))
    → LoneCall w0 i asked limit w p (Parting (part.Looking (starts call) count))
as_part call count o = assumption (o, of_part _ o.of)
  where
    of_part : (asked : NameOp) → IsOf asked (Getting (get.Looking (starts call))) → IsOf asked (Parting (part.Looking (starts call) count))
    of_part (op.Get name) is = is
    of_part (op.Put name value) is = is
    of_part (op.Del name) is = is

pub lone_parts_begin : LonePartsBegin
lone_parts_begin w0 i low count p index view rest can there is_view layout generation own named =
    as_part (new_call view low None) count (lone_calls_begin w0 i (op.Get low) None p index view rest can there is_view layout generation own named tt refl tt)
