-- Where the machine of a lone call is after a turn.
use Rattle.std.proofs.Common.{◌≡◌, ◌≢◌, ℕ, ◌+◌, ◌/◌, ◌<◌, ◌==◌, ◌⊎◌, nat_lt, true, false, cond, ltb, List, inl, inr}
use Rattle.std.proofs.Common.{refl, sym, ◌∙◌, subst, arith}
use Rattle.std.specs.Prelude.{Option, Some, None}
use Rattle.pm_words.specs.declared.layout.Layout.{Layout}
use Rattle.pm_words.specs.declared.again.Again.TheVariants as again
use Rattle.pm_words.specs.declared.machine.Turn.{Turn}
use Rattle.pm_words.specs.declared.machine.Turn.TheVariants.{Go, Done}
use Rattle.pm_words.specs.declared.action.Action.TheVariants.{Exchange, Load, Store}
use Rattle.pm_words.specs.Rows.{acted, got}
use Rattle.data_node.specs.Bits.{lowest_clear}
use Rattle.call_stages.specs.declared.once.Once.{Once}
use Rattle.call_stages.specs.declared.once.Once.TheVariants as once
use Rattle.call_stages.specs.declared.once.Placed.{Placed}
use Rattle.call_stages.specs.Stages.{placed_in}
use Rattle.node_ops.specs.declared.call.Call.{Call}
use Rattle.node_ops.specs.declared.lookup.Hit.{Hit}
use Rattle.node_ops.specs.declared.lookup.Found.{Found}
use Rattle.node_ops.specs.declared.lookup.Looked.{Looked}
use Rattle.node_ops.specs.declared.lookup.Looked.TheVariants as looked
use Rattle.node_ops.specs.declared.lookup.Lookup.{Lookup}
use Rattle.pm_words.specs.declared.fence.Fence.{Fence}
use Rattle.node_ops.specs.declared.fill.Fill.{Fill}
use Rattle.node_ops.specs.declared.fill.FillAt.{FillAt}
use Rattle.node_ops.specs.declared.fill.FillAt.TheVariants as fill_at
use Rattle.node_ops.specs.declared.finish.Finish.{Finish}
use Rattle.node_ops.specs.declared.finish.FinishAt.{FinishAt}
use Rattle.node_ops.specs.declared.finish.FinishAt.TheVariants as finish_at
use Rattle.node_ops.specs.declared.get.Get.{Get}
use Rattle.node_ops.specs.declared.put.Put.{Put}
use Rattle.node_ops.specs.declared.put.Put.TheVariants as put
use Rattle.node_ops.specs.declared.single_put.SinglePut.TheVariants as single_put
use Rattle.node_ops.specs.declared.del.Del.{Del}
use Rattle.node_ops.specs.declared.del.Del.TheVariants as del
use Rattle.node_ops.specs.declared.single_del.SingleDel.TheVariants as single_del
use Rattle.node_ops.specs.declared.part.Part.{Part}
use Rattle.node_ops.specs.declared.part.Part.TheVariants as part
use Rattle.node_ops.specs.declared.part.PartWords.{PartWords}
use Rattle.node_ops.specs.declared.part.Reading.{Reading}
use Rattle.node_ops.specs.declared.part.ReadingAt.{ReadingAt}
use Rattle.node_ops.specs.declared.part.ReadingAt.TheVariants as reading_at
use Rattle.data_list.specs.declared.target.Sighting.{Sighting}
use Rattle.node_ops.specs.declared.running.Running.{Running}
use Rattle.node_ops.specs.declared.running.Running.TheVariants.{Getting, Putting, Deleting, Parting}
use Rattle.node_ops.specs.LookupSteps.{lookup_turned, lookup_asks}
use Rattle.pm_words.specs.Fences.{fence_next}
use Rattle.node_ops.specs.FinishSteps.{finish_turned, finish_at_turned, finish_fenced}
use Rattle.node_ops.specs.FillSteps.{fill_turned, fill_at_turned, slot_fenced, print_fenced}
use Rattle.node_ops.specs.GetSteps.{IsGet, get_call, get_asks, get_turned}
use Rattle.node_ops.specs.PutSteps.{IsPut, put_call, put_asks, put_turned, put_looked, put_into, put_full, put_filled}
use Rattle.node_ops.specs.PutSteps.{put_finished, put_split, IsSplitting}
use Rattle.node_ops.specs.DelSteps.{IsDel, IsTakeOf, names_left, del_call, del_asks, del_turned, del_looked, del_slot}
use Rattle.node_ops.specs.DelSteps.{del_hit, saw_next, del_taken, goes_on, merges_at, del_finished, del_merged}
use Rattle.node_ops.specs.RunningSteps.{IsRunning, running_call, running_asks, running_turned, wrapped, wrapped_part}
use Rattle.node_ops.specs.declared.lookup.LookupAt.TheVariants as look
use Rattle.node_ops.specs.declared.lookup.LookupAt.{LookupAt}
use Rattle.node_ops.specs.declared.part.Way.{Way}
use Rattle.node_ops.specs.declared.part.Way.TheVariants as ways
use Rattle.node_ops.specs.PartSteps.{IsFreely, IsHeld, IsPart, IsReading, IsReadingAt, after_at, low_value, next_at}
use Rattle.node_ops.specs.PartSteps.{ordering_turned, part_asks, part_call, part_held, part_locked, part_looked}
use Rattle.node_ops.specs.PartSteps.{part_ordered, part_turned, part_walked, part_words, reading_at_asks}
use Rattle.node_ops.specs.PartSteps.{reading_turned, seen_at, sorted_by, sorted_in, store_on, with_word}
use Rattle.node_ops.specs.PartSteps as node_steps
use Rattle.node_ops.proofs.PartWalks.{WalksOn, walks_on}
use Rattle.permutation.specs.declared.load.LoadPermutation.{LoadPermutation}
use Rattle.permutation.specs.declared.load.LoadPermutationAt.{LoadPermutationAt}
use Rattle.permutation.specs.declared.load.LoadPermutationAt.TheVariants.{Version, Word}
use Rattle.permutation.specs.declared.store.StorePermutation.{StorePermutation}
use Rattle.permutation.specs.Loads.{load_at_asks, load_at_read, load_at_turned}
use Rattle.permutation.specs.Permutations.{permutation_words}
use Rattle.permutation.specs.Sortings.{permutation_address, permutation_version_address}
use Rattle.permutation.specs.Stores.{store_asks, store_turned}
use Rattle.node_ops.specs.permutation_law.specs.Permuted.{made_at}
use Rattle.node_ops.specs.permutation_law.proofs.Columns.{made_at-here}
use Rattle.node_ops.specs.CallStages.{behind_sight, del_stage, get_stage, has_place, put_stage, reading_whole}
use Rattle.node_ops.specs.CallStages.{stage_by, stage_of}
use Rattle.node_ops.specs.Endings.{limit_in}
use Rattle.node_ops.proofs.MergeFacts.{merging_stage, merge_placed, merge_limited}
use Rattle.smo_log.specs.declared.take.Take.{Take}
use Rattle.smo_log.specs.declared.take.TakeAt.TheVariants as take_at
use Rattle.smo_log.specs.declared.take.Taken.{Taken}
use Rattle.smo_log.specs.declared.take.Taken.TheVariants as taken
use Rattle.smo_log.specs.Takes.{take_from, take_asks, take_turned}
use Rattle.smo_log.specs.Laws.{HasLooked, TakeHeeds}
use Rattle.smo_log.proofs.LineLaw.{takes_heed}
use Rattle.split_merge.specs.declared.merging.Merge.{Merge}
use Rattle.split_merge.specs.declared.merging.Merged.{Merged}
use Rattle.split_merge.specs.Merges.{merge_turned}
use Rattle.index_law.specs.Lines.{line_in}
use Rattle.lone_call_law.specs.There.{CanWalk, IsAtNode, IsUnmoved, HasCome, EndsEarly, LookedStands, LookupStands}
use Rattle.lone_call_law.specs.Splitting.{HasLine, HasFree, IsLacking, SplitStands, SplitWent, IsReadyToSplit}
use Rattle.lone_call_law.specs.Splitting.{HoldsAlone}
use Rattle.lone_call_law.proofs.Splitting.{splits_come_there, take_unmoved, take_told}
use Rattle.index_law.specs.Facts.{version_in, list_in}
use Rattle.data_node.specs.Lists.{IsIn, key_of}
use Rattle.data_node.proofs.ListLemmas.{target_in}
use Rattle.call_stages.specs.Kinds.{Told}
use Rattle.call_stages.specs.declared.view.View.{View}
use Rattle.split_merge.specs.declared.splitting.Split.{Split}
use Rattle.split_merge.specs.declared.splitting.SplitDone.{SplitDone}
use Rattle.split_merge.specs.declared.splitting.SplitDone.TheVariants as done
use Rattle.split_merge.specs.Splits.{split_asks, split_turned}
use Rattle.pm_words.specs.declared.again.Again.{Again}
use Rattle.node_ops.specs.declared.lookup.Hold.{Hold}
use Rattle.node_ops.specs.Calls.{name_in, call_address}
use Rattle.lone_call_law.specs.LoneCalls.{GetIsThere, PutIsThere, HasFoundLine, DelIsThere, PartIsThere, WayIsThere}
use Rattle.lone_call_law.specs.LoneCalls.{IsMadeNow, IsThere}
use Rattle.lone_call_law.proofs.There.{looks_come_there, loaded_unmoved, locked_unmoved, stored_unmoved}
use Rattle.node_ops.specs.declared.get.Get.TheVariants as get
use Rattle.node_ops.specs.GetSteps.{get_looked}
use Rattle.std.proofs.Common.{get_or, set}
use Rattle.std.proofs.Common.{ap}
use Rattle.std.specs.Prelude.{IfSome, IsSome, slice_index}
use Rattle.std.proofs.lemmas.Bool.{eq-eqb, eqb-false, eqb-true, ltb-true}
use Rattle.std.proofs.lemmas.List.{set-get_or}
use Rattle.index_law.proofs.Rows.{version_in-here}
use Rattle.call_stages.specs.Kinds.{clock_address, version_address}
use Rattle.version_lock.specs.Versions.{is_worn_word, kept_count, locked_word}
use Rattle.pm_words.specs.Locations.{Location, Line, Node, Cached, Volatile, address_of}
use Rattle.pm_words.proofs.Apart.{at-set_other}
use Rattle.index_law.proofs.Noting.{line-alike}
use Rattle.index_law.proofs.Rows.{spot_in-alike, status_in-alike, version_in-alike}
use Rattle.node_ops.specs.Calls.{IsCall}
use Rattle.pm_words.specs.Offsets.{version_offset, bitmap_offset, next_offset, slot_offset, state_offset, status_offset}
use Rattle.pm_words.specs.Offsets.{permutation_version_offset}

-- a write that has come there holds the lock
came_locked : (l : Layout) (words0 words : List ℕ) (call : Call) (word : ℕ) (limit : Option ℕ) → IsSome limit → HasCome limit l words0 words call word → IsAtNode l words0 call × IsUnmoved l words0 words call.node
came_locked l words0 words call word None some here = absurd (let no : false ≡ true = some in cc)
came_locked l words0 words call word (Some most) some here = here

-- where a get is after a turn
abbrev pub GetWent : Layout → ℕ → List ℕ → List ℕ → Call → Option ℕ → Turn Get (Once Placed) → Type 0
GetWent l g words0 words call limit (Go next) = GetIsThere l words0 words next
GetWent l g words0 words call limit (Done (once.Done placed)) = IsAtNode l words0 call × (placed.hops ≡ call.hops) × (limit ≡ call.limit)
GetWent l g words0 words call limit (Done (once.Worn node word)) = EndsEarly l g words0 call (once.Worn node word)
GetWent l g words0 words call limit (Done (once.Spent clock)) = EndsEarly l g words0 call (once.Spent clock)
GetWent l g words0 words call limit (Done (once.Again why)) = ⊥

early_went : (l : Layout) (g : ℕ) (words0 words : List ℕ) (call : Call) (limit : Option ℕ) (answer : Once Placed) → EndsEarly l g words0 call answer → GetWent l g words0 words call limit (Done answer)
early_went l g words0 words call limit (once.Done placed) is = absurd is
early_went l g words0 words call limit (once.Worn node word) is = is
early_went l g words0 words call limit (once.Spent clock) is = is
early_went l g words0 words call limit (once.Again why) is = absurd is

-- a read is told the version word again that it saw
reads_again : (call : Call) (words0 words : List ℕ) (x word : ℕ) → call.node < call.view.layout.nodes → HasCome None call.view.layout words0 words call word
    → x ≡ got call.view.layout words (Load (version_address call.view.layout call.node)) → x ≡ word
reads_again call words0 words x word within here told =
    told ∙ ap (λ (ws : List ℕ). get_or ws (version_address call.view.layout call.node) 0) here.1 ∙ sym (version_in-here call.view.layout words0 call.node within) ∙ sym here.2

pub get_went : (machine : Get) (words0 words : List ℕ) (x : ℕ) → IsGet machine
    → CanWalk (get_call machine).view.layout (get_call machine).view.generation words0
    → GetIsThere (get_call machine).view.layout words0 words machine → x ≡ got (get_call machine).view.layout words (get_asks machine)
    → GetWent (get_call machine).view.layout (get_call machine).view.generation words0 (acted (get_call machine).view.layout words (get_asks machine)) (get_call machine) (limit_in (get_stage machine)) (get_turned machine x)
get_went (get.Looking lookup) words0 words x sound still stands told = at (lookup_turned lookup x) (looks_come_there lookup words0 words x sound.0 still stands told)
  where
    at : (turn : Turn Lookup Looked) → LookedStands lookup.call.view.layout lookup.call.view.generation words0 (acted lookup.call.view.layout words (lookup_asks lookup)) lookup.call turn
        → GetWent lookup.call.view.layout lookup.call.view.generation words0 (acted lookup.call.view.layout words (lookup_asks lookup)) lookup.call (limit_in (get_stage (get.Looking lookup))) (get_looked lookup.call turn)
    at (Go next) is = is
    at (Done (looked.Early answer)) is = early_went lookup.call.view.layout lookup.call.view.generation words0 (acted lookup.call.view.layout words (lookup_asks lookup)) lookup.call (limit_in (get_stage (get.Looking lookup))) answer is
    at (Done (looked.Found found)) is = subst (λ (o : Option ℕ). HasCome o lookup.call.view.layout words0 (acted lookup.call.view.layout words (lookup_asks lookup)) lookup.call found.hold.locked) sound.1 is
get_went (get.Checking call hold old) words0 words x sound still stands told =
    let same : x ≡ hold.locked = reads_again call words0 words x hold.locked sound.0.node stands told in
    subst (λ b. GetWent call.view.layout call.view.generation words0 (acted call.view.layout words (get_asks (get.Checking call hold old))) call (limit_in (get_stage (get.Checking call hold old)))
    (Done (cond b (once.Done (record { old = old; place = hold.clock; hops = call.hops })) (once.Again (again.Moved call.node hold.locked x))))) (sym (eq-eqb x hold.locked same))
    (stands.0, refl, refl)

-- An answer of a machine: one that wrote had a place, and one that is turned back may be so.
abbrev pub HasEnded : Layout → ℕ → List ℕ → List ℕ → Call → (Option ℕ → Type 0) → (Again → Type 0) → Option ℕ → Option ℕ → Once Placed → Type 0
HasEnded l g words0 words call P R place limit (once.Done placed) = IsAtNode l words0 call × (placed.hops ≡ call.hops) × P place × (limit ≡ call.limit)
HasEnded l g words0 words call P R place limit (once.Worn node word) = EndsEarly l g words0 call (once.Worn node word)
HasEnded l g words0 words call P R place limit (once.Spent clock) = EndsEarly l g words0 call (once.Spent clock)
HasEnded l g words0 words call P R place limit (once.Again (again.NeedsSplit node)) = IsAtNode l words0 call × R (again.NeedsSplit node) × HasLine l words0 call.view.caller × HasFree l g words0
HasEnded l g words0 words call P R place limit (once.Again why) = IsAtNode l words0 call × R why × IsLacking l g words0 call.view.caller why × IsUnmoved l words0 words call.node

early : (l : Layout) (g : ℕ) (words0 words : List ℕ) (call : Call) (P : Option ℕ → Type 0) (R : Again → Type 0) (place limit : Option ℕ) (answer : Once Placed) → EndsEarly l g words0 call answer → HasEnded l g words0 words call P R place limit answer
early l g words0 words call P R place limit (once.Done placed) is = absurd is
early l g words0 words call P R place limit (once.Worn node word) is = is
early l g words0 words call P R place limit (once.Spent clock) is = is
early l g words0 words call P R place limit (once.Again why) is = absurd is

-- one that lacks a line or a node is turned back
turned_back : (l : Layout) (g : ℕ) (words0 words : List ℕ) (call : Call) (P : Option ℕ → Type 0) (R : Again → Type 0) (place limit : Option ℕ) (why : Again) → IsAtNode l words0 call → ((why : Again) → R why)
    → IsUnmoved l words0 words call.node × IsLacking l g words0 call.view.caller why → HasEnded l g words0 words call P R place limit (once.Again why)
turned_back l g words0 words call P R place limit again.LogFull at may lacks = (at, may again.LogFull, lacks.1, lacks.0)
turned_back l g words0 words call P R place limit again.NoFree at may lacks = (at, may again.NoFree, lacks.1, lacks.0)
turned_back l g words0 words call P R place limit (again.Locked n word) at may lacks = absurd lacks.1
turned_back l g words0 words call P R place limit (again.Moved n first second) at may lacks = absurd lacks.1
turned_back l g words0 words call P R place limit (again.Hops count) at may lacks = absurd lacks.1
turned_back l g words0 words call P R place limit (again.NeedsSplit n) at may lacks = absurd lacks.1
turned_back l g words0 words call P R place limit (again.Held word) at may lacks = absurd lacks.1
turned_back l g words0 words call P R place limit (again.Epoch first second) at may lacks = absurd lacks.1

-- it has a place
abbrev pub IsGiven : Option ℕ → Type 0
IsGiven place = place ≢ None

module _ (l : Layout) (g : ℕ) (words0 words : List ℕ) (R : Again → Type 0) where
  abbrev PutWent : Call → Option ℕ → Option ℕ → Turn Put (Once Placed) → Type 0
  PutWent call place limit (Go next) = PutIsThere l words0 words next
  PutWent call place limit (Done answer) = HasEnded l g words0 words call IsGiven R place limit answer

  abbrev DelWent : Call → Option ℕ → Option ℕ → Turn Del (Once Placed) → Type 0
  DelWent call place limit (Go next) = DelIsThere l words0 words next
  DelWent call place limit (Done answer) = HasEnded l g words0 words call IsGiven R place limit answer

  -- the end of a write keeps what is so of its call
  abbrev FinishWent : (Call → Type 0) → Call → Option ℕ → Option ℕ → Turn Finish (Once Placed) → Type 0
  FinishWent Q call place limit (Go next) = Q next.call
  FinishWent Q call place limit (Done answer) = HasEnded l g words0 words call IsGiven R place limit answer

  finish_went : (Q : Call → Type 0) (finish : Finish) (x : ℕ) → Q finish.call → IsAtNode l words0 finish.call
      → FinishWent Q finish.call (placed_in (put_stage (put.Single (single_put.Finishing finish)))) (limit_in (put_stage (put.Single (single_put.Finishing finish)))) (finish_turned finish x)
  finish_went Q finish x holds stands = at finish.at
    where
      fenced : (line : ℕ) (o : Option Fence) (place limit : Option ℕ) → FinishWent Q finish.call place limit (finish_fenced finish line o)
      fenced line (Some fence) place limit = holds
      fenced line None place limit = holds

      at : (at : FinishAt) → FinishWent Q finish.call (placed_in (put_stage (put.Single (single_put.Finishing (record finish { at = at }))))) (limit_in (put_stage (put.Single (single_put.Finishing (record finish { at = at }))))) (finish_at_turned finish at x)
      at (finish_at.Fence line fence) = fenced line (fence_next fence x) None finish.call.limit
      at finish_at.Add = holds
      at (finish_at.Unlock place) = (stands, refl, (λ e. cc), refl)

  abbrev FillWent : Turn Fill Finish → Type 0
  FillWent (Go next) = IsAtNode l words0 next.call
  FillWent (Done finish) = IsAtNode l words0 finish.call

  fill_went : (fill : Fill) (x : ℕ) → IsAtNode l words0 fill.call → FillWent (fill_turned fill x)
  fill_went fill x stands = at fill.at
    where
      slot_on : (o : Option Fence) → FillWent (slot_fenced fill o)
      slot_on (Some fence) = stands
      slot_on None = stands

      print_on : (o : Option Fence) → FillWent (print_fenced fill o)
      print_on (Some fence) = stands
      print_on None = stands

      at : (at : FillAt) → FillWent (fill_at_turned fill at x)
      at (fill_at.Word k) = elim (ltb (k + 1) 4) as (λ b. FillWent (cond b (Go (record fill { at = fill_at.Word (k + 1) })) (Go (record fill { at = fill_at.Print })))) [ true ↦ stands | false ↦ stands ]
      at fill_at.Print = stands
      at (fill_at.FenceSlot fence) = slot_on (fence_next fence x)
      at (fill_at.FencePrint fence) = print_on (fence_next fence x)
      at fill_at.Bitmap = stands

  full_stands : (call : Call) (found : Found) (hit : Option Hit) (value : ℕ) → IsAtNode l words0 call × IsUnmoved l words0 words call.node
      → PutIsThere l words0 words (put_full call found.hold found.directory.bitmap hit value)
  full_stands call found (Some hit) value stands = stands.0
  full_stands call found None value stands = stands

  into_stands : (call : Call) (found : Found) (value : ℕ) (clear : Option ℕ) → IsAtNode l words0 call × IsUnmoved l words0 words call.node
      → PutIsThere l words0 words (put_into call found value clear)
  into_stands call found value (Some slot) stands = stands.0
  into_stands call found value None stands = full_stands call found found.hit value stands

  put_looked_went : (call : Call) (value : ℕ) (place limit : Option ℕ) → IsSome call.limit → (turn : Turn Lookup Looked) → LookedStands l g words0 words call turn → PutWent call place limit (put_looked call value turn)
  put_looked_went call value place limit some (Go next) is = is
  put_looked_went call value place limit some (Done (looked.Early answer)) is = early l g words0 words call IsGiven R place limit answer is
  put_looked_went call value place limit some (Done (looked.Found found)) is = into_stands call found value (lowest_clear found.directory.bitmap call.view.layout.slots) (came_locked l words0 words call found.hold.locked call.limit some is)

  slot_stands : (call : Call) (hold : Hold) (bitmap : ℕ) (hit : Hit) → IsAtNode l words0 call × IsUnmoved l words0 words call.node → DelIsThere l words0 words (del_slot call hold bitmap hit)
  slot_stands call hold bitmap hit stands = elim (nat_lt (call.view.layout.slots / 2) (names_left call bitmap hit)) as (λ b. DelIsThere l words0 words (cond b (del.Single (single_del.Clearing call hold bitmap hit None)) (del.Single (single_del.Next call hold bitmap hit)))) [
    | true ↦ (stands.0, tt)
    | false ↦ stands
  ]

  hit_stands : (call : Call) (found : Found) (hit : Option Hit) → IsAtNode l words0 call × IsUnmoved l words0 words call.node → DelIsThere l words0 words (del_hit call found.hold found.directory.bitmap hit)
  hit_stands call found (Some hit) stands = slot_stands call found.hold found.directory.bitmap hit stands
  hit_stands call found None stands = (stands.0, tt)

  del_looked_went : (call : Call) (place limit : Option ℕ) → IsSome call.limit → (turn : Turn Lookup Looked) → LookedStands l g words0 words call turn → DelWent call place limit (del_looked call turn)
  del_looked_went call place limit some (Go next) is = is
  del_looked_went call place limit some (Done (looked.Early answer)) is = early l g words0 words call IsGiven R place limit answer is
  del_looked_went call place limit some (Done (looked.Found found)) is = hit_stands call found found.hit (came_locked l words0 words call found.hold.locked call.limit some is)

  -- a look for a line begins
  next_went : (call : Call) (hold : Hold) (bitmap : ℕ) (hit : Hit) (place limit : Option ℕ) (next : ℕ) → IsAtNode l words0 call × IsUnmoved l words0 words call.node
      → DelWent call place limit (Go (saw_next call hold bitmap hit next))
  next_went call hold bitmap hit place limit next stands =
      elim (next == 0) as (λ b. DelIsThere l words0 words (cond b (del.Single (single_del.Clearing call hold bitmap hit None)) (del.Single (single_del.Taking call hold bitmap hit (take_from call.view.layout call.view.caller))))) [
        | true ↦ (stands.0, tt)
        | false ↦ (stands.0, stands.1, λ index lt. absurd (let no : index < 0 = lt in omega arith))
      ]

  -- and it finds one, or each is in use
  del_taken_went : (call : Call) (hold : Hold) (bitmap : ℕ) (hit : Hit) (place limit : Option ℕ) (index : ℕ) → IsAtNode l words0 call → IsUnmoved l words0 words call.node → (turn : Turn Take Taken)
      → TakeHeeds call.view.caller (λ number. line_in l words0 call.view.caller number state_offset) index turn → DelWent call place limit (del_taken call hold bitmap hit turn)
  del_taken_went call hold bitmap hit place limit index there unmoved (Go take) heeds = (there, unmoved, heeds)
  del_taken_went call hold bitmap hit place limit index there unmoved (Done (taken.Line line)) heeds = (there, record { number = index; within = heeds.1; empty = heeds.2 })
  del_taken_went call hold bitmap hit place limit index there unmoved (Done taken.Full) heeds = (there, unmoved, heeds)

  -- the end of a write, which may go on with a merge
  goes_on_there : (finish : Finish) (line : Option ℕ) → IsAtNode l words0 finish.call × HasFoundLine l words0 finish.call line → DelIsThere l words0 words (goes_on finish line)
  goes_on_there finish None stands = stands
  goes_on_there finish (Some number) stands = at finish.at
    where
      at : (at : FinishAt) → DelIsThere l words0 words (merges_at finish number at)
      at (finish_at.Fence first fence) = stands
      at finish_at.Add = stands
      at (finish_at.Unlock place) = stands

  put_filled_went : (call : Call) (place limit : Option ℕ) (turn : Turn Fill Finish) → FillWent turn → PutWent call place limit (put_filled turn)
  put_filled_went call place limit (Go next) is = is
  put_filled_went call place limit (Done finish) is = is

  put_finished_went : (call : Call) (place limit : Option ℕ) (turn : Turn Finish (Once Placed)) → FinishWent (IsAtNode l words0) call place limit turn → PutWent call place limit (put_finished turn)
  put_finished_went call place limit (Go next) is = is
  put_finished_went call place limit (Done answer) is = is

  -- a call with its line
  abbrev WithLine : Option ℕ → Call → Type 0
  WithLine line call = IsAtNode l words0 call × HasFoundLine l words0 call line

  del_finished_went : (line : Option ℕ) (call : Call) (place limit : Option ℕ) (turn : Turn Finish (Once Placed)) → FinishWent (WithLine line) call place limit turn → DelWent call place limit (del_finished line turn)
  del_finished_went line call place limit (Go next) is = goes_on_there next line is
  del_finished_went line call place limit (Done answer) is = is

  -- a merge, at whose end it is answered
  del_merged_went : (call : Call) (hold : Hold) (old place limit : Option ℕ) (number : ℕ) → IsAtNode l words0 call → HasLine l words0 call.view.caller → place ≢ None → limit ≡ call.limit → (turn : Turn Merge Merged)
      → DelWent call place limit (del_merged call hold old number turn)
  del_merged_went call hold old place limit number stands has given below (Go merge) = (stands, has)
  del_merged_went call hold old place limit number stands has given below (Done merged) = (stands, refl, given, below)

-- a get and a part need no place
abbrev pub NeedsPlace : Running → Option ℕ → Type 0
NeedsPlace (Getting machine) place = Unit {0}
NeedsPlace (Putting machine) place = IsGiven place
NeedsPlace (Deleting machine) place = IsGiven place
NeedsPlace (Parting machine) place = Unit {0}

-- only a put that splits may find no room
abbrev pub IsSplittingPut : Put → Type 0
IsSplittingPut (put.Splitting call hold bitmap value split) = Unit {0}
IsSplittingPut _ = ⊥

abbrev pub MayLackRoom : Running → Type 0
MayLackRoom (Getting machine) = ⊥
MayLackRoom (Putting machine) = IsSplittingPut machine
MayLackRoom (Deleting machine) = ⊥
MayLackRoom (Parting machine) = ⊥

-- A delete that looked for a line gives its node back.
pub record IsRefusing (machine : Running) : Type 0 where
  pub call : Call
  pub hold : Hold
  pub bitmap : ℕ
  pub hit : Hit
  pub is : machine ≡ Deleting (del.Single (single_del.Refusing call hold bitmap hit))

-- such a delete may find no line, and so may a put that splits
abbrev pub MayLack : Running → Again → Type 0
MayLack machine why = MayLackRoom machine ⊎ ((why ≡ again.LogFull) × IsRefusing machine)

abbrev pub Went : Layout → ℕ → List ℕ → List ℕ → Running → Turn Running (Once Placed) → Type 0
Went l g words0 words machine (Go next) = IsThere l words0 words next
Went l g words0 words machine (Done answer) = HasEnded l g words0 words (running_call machine) (NeedsPlace machine) (MayLack machine) (placed_in (stage_of machine)) (limit_in (stage_of machine)) answer

-- the version word of a node that is held alone while it is to be split is its own
abbrev pub KnowsOwn : Layout → List ℕ → Running → Type 0
KnowsOwn l words (Putting (put.Splitting call hold bitmap value split)) = HoldsAlone split.at → version_in l words call.node ≡ hold.locked
KnowsOwn l words _ = Unit {0}

-- the words as they were are ready for a split of a listed node
ready_to_split : (l : Layout) (g : ℕ) (words0 : List ℕ) (call : Call) → CanWalk l g words0 → IsAtNode l words0 call → IsReadyToSplit l g words0 call.node
ready_to_split l g words0 call still at = record {
  live = still.quiet.quiet.live call.node (subst (IsIn (list_in l words0)) (sym at.node) (target_in 0 (list_in l words0) (key_of (name_in call))));
  first = still.quiet.quiet.live 0 (inl refl);
  free = still.quiet.quiet.free;
}

split_went : (call : Call) (hold : Hold) (bitmap value : ℕ) (split : Split) (words0 words : List ℕ) (x : ℕ) → IsSplitting call hold bitmap split
    → CanWalk call.view.layout call.view.generation words0
    → IsAtNode call.view.layout words0 call → SplitStands call.view.layout call.view.generation words0 words call.node hold.locked call.view.caller split.at
    → Told call.view.layout call.view.generation (split_asks split) x → (HoldsAlone split.at → version_in call.view.layout words call.node ≡ hold.locked)
    → x ≡ got call.view.layout words (split_asks split)
    → SplitWent call.view.layout call.view.generation words0 (acted call.view.layout words (split_asks split)) call.node hold.locked call.view.caller (split_turned split x)
split_went call hold bitmap value split words0 words x sound still at stands tells mine told =
    let all : Path (View × (ℕ × ℕ)) (split.view, (split.node, split.word)) (call.view, (call.node, hold.locked)) = λ k. (sound.view k, (sound.node k, sound.word k)) in
    let back = sym all in
    subst (λ (q : View × (ℕ × ℕ)). SplitWent q.0.layout q.0.generation words0 (acted q.0.layout words (split_asks split)) q.1.0 q.1.1 q.0.caller (split_turned split x)) all
    (splits_come_there split words0 words x sound.here
    (subst (λ (q : View × (ℕ × ℕ)). IsReadyToSplit q.0.layout q.0.generation words0 q.1.0) back (ready_to_split call.view.layout call.view.generation words0 call still at))
    (subst (λ (q : View × (ℕ × ℕ)). SplitStands q.0.layout q.0.generation words0 words q.1.0 q.1.1 q.0.caller split.at) back stands)
    (subst (λ (q : View × (ℕ × ℕ)). Told q.0.layout q.0.generation (split_asks split) x) back tells)
    (subst (λ (q : View × (ℕ × ℕ)). HoldsAlone split.at → version_in q.0.layout words q.1.0 ≡ q.1.1) back mine)
    (subst (λ (q : View × (ℕ × ℕ)). x ≡ got q.0.layout words (split_asks split)) back told))

put_went : (machine : Put) (words0 words : List ℕ) (x : ℕ) → IsPut machine
    → CanWalk (put_call machine).view.layout (put_call machine).view.generation words0
    → Told (put_call machine).view.layout (put_call machine).view.generation (put_asks machine) x
    → KnowsOwn (put_call machine).view.layout words (Putting machine)
    → PutIsThere (put_call machine).view.layout words0 words machine → x ≡ got (put_call machine).view.layout words (put_asks machine)
    → PutWent (put_call machine).view.layout (put_call machine).view.generation words0 (acted (put_call machine).view.layout words (put_asks machine)) (MayLack (Putting machine)) (put_call machine) (placed_in (put_stage machine)) (limit_in (put_stage machine)) (put_turned machine x)
put_went (put.Single (single_put.Looking lookup value)) words0 words x sound still tells mine stands told =
    put_looked_went _ _ words0 _ (MayLack (Putting (put.Single (single_put.Looking lookup value)))) lookup.call value (placed_in (put_stage (put.Single (single_put.Looking lookup value)))) (limit_in (put_stage (put.Single (single_put.Looking lookup value)))) sound.2 (lookup_turned lookup x) (looks_come_there lookup words0 words x sound.0 still stands told)
put_went (put.Single (single_put.Filling fill)) words0 words x sound still tells mine stands told =
    put_filled_went _ _ words0 _ (MayLack (Putting (put.Single (single_put.Filling fill)))) fill.call None fill.call.limit (fill_turned fill x) (fill_went _ fill.call.view.generation words0 words (MayLack (Putting (put.Single (single_put.Filling fill)))) fill x stands)
put_went (put.Single (single_put.Replacing call hold bitmap hit value)) words0 words x sound still tells mine stands told = stands
put_went (put.Single (single_put.Finishing finish)) words0 words x sound still tells mine stands told =
    put_finished_went _ _ words0 _ (MayLack (Putting (put.Single (single_put.Finishing finish)))) finish.call (placed_in (put_stage (put.Single (single_put.Finishing finish)))) (limit_in (put_stage (put.Single (single_put.Finishing finish)))) (finish_turned finish x)
    (finish_went _ _ words0 (acted finish.call.view.layout words (put_asks (put.Single (single_put.Finishing finish)))) (MayLack (Putting (put.Single (single_put.Finishing finish)))) (IsAtNode finish.call.view.layout words0) finish x stands stands)
put_went (put.Splitting call hold bitmap value split) words0 words x sound still tells mine stands told =
    on (split_turned split x) (split_went call hold bitmap value split words0 words x sound still stands.0 stands.1 tells mine told)
  where
    on : (turn : Turn Split SplitDone) → SplitWent call.view.layout call.view.generation words0 (acted call.view.layout words (split_asks split)) call.node hold.locked call.view.caller turn
        → PutWent call.view.layout call.view.generation words0 (acted call.view.layout words (split_asks split)) (MayLack (Putting (put.Splitting call hold bitmap value split))) call (placed_in (put_stage (put.Splitting call hold bitmap value split)))
        (limit_in (put_stage (put.Splitting call hold bitmap value split))) (put_split call hold bitmap value turn)
    on (Go next) went = (stands.0, went)
    on (Done (done.Done fresh)) went = (stands.0, inl tt, went.0, went.1)
    on (Done (done.Again why)) went = turned_back call.view.layout call.view.generation words0 (acted call.view.layout words (split_asks split)) call IsGiven (MayLack (Putting (put.Splitting call hold bitmap value split)))
        (placed_in (put_stage (put.Splitting call hold bitmap value split))) (limit_in (put_stage (put.Splitting call hold bitmap value split))) why stands.0 (λ y. inl tt) went

-- a look for a line of a delete
del_take_went : (call : Call) (hold : Hold) (bitmap : ℕ) (hit : Hit) (take : Take) (words0 words : List ℕ) (x : ℕ) (place limit : Option ℕ) (R : Again → Type 0) → IsTakeOf call.view take
    → IsAtNode call.view.layout words0 call → IsUnmoved call.view.layout words0 words call.node → HasLooked (λ number. line_in call.view.layout words0 call.view.caller number state_offset) take.index take.at
    → x ≡ got call.view.layout words (take_asks take)
    → DelWent call.view.layout call.view.generation words0 (acted call.view.layout words (take_asks take)) R call place limit (del_taken call hold bitmap hit (take_turned take x))
del_take_went call hold bitmap hit take words0 words x place limit R is there still looked told =
    let same = is.layout_is in
    let unmoved = subst (λ (k : Layout). IsUnmoved k words0 words call.node) (sym same) still in
    let own_told : x ≡ got take.layout words (take_asks take) = subst (λ (k : Layout). x ≡ got k words (take_asks take)) (sym same) told in
    let now = subst (λ (k : Layout). IsUnmoved k words0 (acted k words (take_asks take)) call.node) same (take_unmoved take is.here words0 words call.node unmoved) in
    let states : take.at ≡ take_at.State → x ≡ line_in call.view.layout words0 call.view.caller take.index state_offset =
    λ state. subst (λ (q : Layout × ℕ). x ≡ line_in q.0 words0 q.1 take.index state_offset) (λ k. (same k, is.caller_is k)) (take_told take is.here words0 words call.node unmoved x own_told state) in
    del_taken_went call.view.layout call.view.generation words0 (acted call.view.layout words (take_asks take)) R call hold bitmap hit place limit take.index there now (take_turned take x)
    (subst (λ (c : ℕ). TakeHeeds c (λ number. line_in call.view.layout words0 call.view.caller number state_offset) take.index (take_turned take x)) is.caller_is
    (takes_heed take (λ number. line_in call.view.layout words0 call.view.caller number state_offset) x is.here states looked))

del_went : (machine : Del) (words0 words : List ℕ) (x : ℕ) → IsDel machine
    → CanWalk (del_call machine).view.layout (del_call machine).view.generation words0
    → Told (del_call machine).view.layout (del_call machine).view.generation (del_asks machine) x
    → DelIsThere (del_call machine).view.layout words0 words machine → x ≡ got (del_call machine).view.layout words (del_asks machine)
    → DelWent (del_call machine).view.layout (del_call machine).view.generation words0 (acted (del_call machine).view.layout words (del_asks machine)) (MayLack (Deleting machine)) (del_call machine) (placed_in (del_stage machine)) (limit_in (del_stage machine)) (del_turned machine x)
del_went (del.Single (single_del.Looking lookup)) words0 words x sound still tells stands told =
    del_looked_went _ _ words0 _ (MayLack (Deleting (del.Single (single_del.Looking lookup)))) lookup.call (placed_in (del_stage (del.Single (single_del.Looking lookup)))) (limit_in (del_stage (del.Single (single_del.Looking lookup)))) sound.1 (lookup_turned lookup x) (looks_come_there lookup words0 words x sound.0 still stands told)
del_went (del.Single (single_del.Next call hold bitmap hit)) words0 words x sound still tells stands told =
    next_went call.view.layout call.view.generation words0 (acted call.view.layout words (Load (call_address call next_offset))) (MayLack (Deleting (del.Single (single_del.Next call hold bitmap hit)))) call hold bitmap hit None call.limit x
    (stands.0, loaded_unmoved call.view.layout words0 words call.node (call_address call next_offset) stands.1)
del_went (del.Single (single_del.Taking call hold bitmap hit take)) words0 words x sound still tells stands told =
    del_take_went call hold bitmap hit take words0 words x None call.limit (MayLack (Deleting (del.Single (single_del.Taking call hold bitmap hit take)))) sound.2 stands.0 stands.1 stands.2 told
del_went (del.Single (single_del.Refusing call hold bitmap hit)) words0 words x sound still tells stands told =
    (stands.0, inr (refl, record { call = call; hold = hold; bitmap = bitmap; hit = hit; is = refl }), stands.2, stored_unmoved call.view.layout words0 words call.node (hold.locked + 1) sound.call.node stands.1)
del_went (del.Single (single_del.Clearing call hold bitmap hit line)) words0 words x sound still tells stands told = stands
del_went (del.Single (single_del.Finishing finish line)) words0 words x sound still tells stands told =
    del_finished_went _ _ words0 _ (MayLack (Deleting (del.Single (single_del.Finishing finish line)))) line finish.call (placed_in (put_stage (put.Single (single_put.Finishing finish)))) (limit_in (put_stage (put.Single (single_put.Finishing finish)))) (finish_turned finish x)
    (finish_went _ _ words0 (acted finish.call.view.layout words (del_asks (del.Single (single_del.Finishing finish line)))) (MayLack (Deleting (del.Single (single_del.Finishing finish line)))) (WithLine finish.call.view.layout finish.call.view.generation words0 (acted finish.call.view.layout words (del_asks (del.Single (single_del.Finishing finish line)))) (MayLack (Deleting (del.Single (single_del.Finishing finish line)))) line) finish x stands stands.0)
del_went (del.Merging call hold old place merge) words0 words x sound still tells stands told =
    let stage = del_stage (del.Merging call hold old place merge) in
    let of = merging_stage call old place merge in
    let placed : placed_in stage ≡ Some place = merge_placed (has_place call old place) stage of in
    del_merged_went _ _ words0 _ (MayLack (Deleting (del.Merging call hold old place merge))) call hold old (placed_in stage) (limit_in stage) place stands.0 stands.1 (λ none. let no : Some place ≡ None = sym placed ∙ none in cc)
    (merge_limited (has_place call old place) stage of) (merge_turned merge x)

-- where a part is after a turn
abbrev PartWent : Layout → ℕ → List ℕ → List ℕ → Part → Turn Part (Once PartWords) → Type 0
PartWent l g words0 words machine turn = Went l g words0 words (Parting machine) (wrapped_part turn)

abbrev offset_of_volatile : Location → ℕ
offset_of_volatile (Volatile n o) = o
offset_of_volatile _ = 0

-- a store of a volatile word of a node but its status leaves what is so of the list and the lines
beyond_unmoved : (l : Layout) (words0 words : List ℕ) (n m offset y : ℕ) → m < l.nodes → offset < 16 → offset ≢ 0 → IsUnmoved l words0 words n → IsUnmoved l words0 (set words (address_of l (Volatile m offset)) y) n
beyond_unmoved l words0 words n m offset y here most other unmoved =
    let stored : List ℕ = set words (address_of l (Volatile m offset)) y in
    record {
      versions = λ k apart. version_in-alike l words stored k (λ there. at-set_other l words (Volatile m offset) (Cached (Node k version_offset)) y (here, most) (there, omega arith) (λ e. cc)) ∙ unmoved.versions k apart;
      statuses = λ k. status_in-alike l words stored k (λ there. at-set_other l words (Volatile m offset) (Volatile k status_offset) y (here, most) (there, omega arith) (λ e. other (sym (ap offset_of_volatile e)))) ∙ unmoved.statuses k;
      nexts = λ k. spot_in-alike l words stored k next_offset (λ there _. at-set_other l words (Volatile m offset) (Cached (Node k next_offset)) y (here, most) there (λ e. cc)) ∙ unmoved.nexts k;
      lines = λ c j. line-alike l words stored c j state_offset (λ there. at-set_other l words (Volatile m offset) (Cached (Line c j state_offset)) y (here, most) there (λ e. cc)) ∙ unmoved.lines c j;
    }

-- a look-up that came to its node has it as it was
walked_went : (l : Layout) (words0 words : List ℕ) (next : Lookup) (count : ℕ) (at : LookupAt) → next.at ≡ at → LookupStands l words0 words next.call next.at → PartIsThere l words0 words (part_walked next count (seen_at at))
walked_went l words0 words next count (look.Floor floor) is stands = stands
walked_went l words0 words next count (look.Walk walk) is stands = stands
walked_went l words0 words next count (look.Read seen) is stands =
    let here = subst (LookupStands l words0 words next.call) is stands in ((here.1, here.0, here.2), tt)
walked_went l words0 words next count (look.Lock seen locked) is stands = stands
walked_went l words0 words next count (look.Clock locked) is stands = stands
walked_went l words0 words next count (look.Spent hold) is stands = stands
walked_went l words0 words next count (look.Bitmap hold) is stands = stands
walked_went l words0 words next count (look.Prints hold bitmap prints k) is stands = stands
walked_went l words0 words next count (look.Name hold directory left slot k) is stands = stands
walked_went l words0 words next count (look.Value hold directory slot) is stands = stands

part_looked_went : (l : Layout) (g : ℕ) (words0 words : List ℕ) (lookup : Lookup) (count : ℕ) (turn : Turn Lookup Looked) → WalksOn turn → LookedStands l g words0 words lookup.call turn
    → PartWent l g words0 words (part.Looking lookup count) (part_looked count turn)
part_looked_went l g words0 words lookup count (Go next) way is = walked_went l words0 words next count next.at refl is
part_looked_went l g words0 words lookup count (Done (looked.Early (once.Done placed))) way is = absurd is
part_looked_went l g words0 words lookup count (Done (looked.Early (once.Worn node word))) way is = is
part_looked_went l g words0 words lookup count (Done (looked.Early (once.Spent clock))) way is = is
part_looked_went l g words0 words lookup count (Done (looked.Early (once.Again why))) way is = absurd is
part_looked_went l g words0 words lookup count (Done (looked.Found found)) way is = absurd way

-- by whichever way it has its node, a load leaves all as it was
way_loaded : (l : Layout) (words0 words : List ℕ) (call : Call) (word address : ℕ) (way : Way) → WayIsThere l words0 words call word way → WayIsThere l words0 (acted l words (Load address)) call word way
way_loaded l words0 words call word address (ways.Served order) there = ((there.0.0, set-get_or words address 0 ∙ there.0.1, there.0.2), there.1)
way_loaded l words0 words call word address (ways.Held order) there = ((there.0.0, loaded_unmoved l words0 words call.node address there.0.1), there.1)
way_loaded l words0 words call word address ways.Alone there = ((there.0.0, set-get_or words address 0 ∙ there.0.1, there.0.2), there.1)

-- words of a permutation that it makes are none of those that it has its node by
sorted_went : (l : Layout) (words0 words : List ℕ) (r : Reading) (way : Way) → r.way ≡ way → WayIsThere l words0 words r.call r.hold.locked r.way → PartIsThere l words0 words (part.Reading (sorted_by r way))
sorted_went l words0 words r (ways.Served order) is there = there
sorted_went l words0 words r (ways.Held order) is there = subst (WayIsThere l words0 words r.call r.hold.locked) is there
sorted_went l words0 words r ways.Alone is there = there

goes_went : (l : Layout) (words0 words : List ℕ) (r : Reading) (at : ReadingAt) → WayIsThere l words0 words r.call r.hold.locked r.way → PartIsThere l words0 words (part.Reading (node_steps.goes_on r at))
goes_went l words0 words r (reading_at.Load slot word) there = there
goes_went l words0 words r reading_at.Clock there = sorted_went l words0 words (record r { old = low_value r r.call.view.layout.slots }) r.way refl there
goes_went l words0 words r reading_at.Bitmap there = sorted_went l words0 words (record r { old = low_value r r.call.view.layout.slots }) r.way refl there
goes_went l words0 words r reading_at.Check there = sorted_went l words0 words (record r { old = low_value r r.call.view.layout.slots }) r.way refl there
goes_went l words0 words r (reading_at.Store store) there = sorted_went l words0 words (record r { old = low_value r r.call.view.layout.slots }) r.way refl there
goes_went l words0 words r reading_at.Unlock there = sorted_went l words0 words (record r { old = low_value r r.call.view.layout.slots }) r.way refl there

-- without the lock it is told the version word again that it saw
pub free_come : (l : Layout) (words0 words : List ℕ) (call : Call) (word : ℕ) (way : Way) → IsFreely way → WayIsThere l words0 words call word way → HasCome None l words0 words call word
free_come l words0 words call word (ways.Served order) free there = there.0
free_come l words0 words call word (ways.Held order) free there = absurd free
free_come l words0 words call word ways.Alone free there = there.0

-- with the lock it has its node alone
held_come : (l : Layout) (words0 words : List ℕ) (call : Call) (word : ℕ) (way : Way) → IsHeld way → WayIsThere l words0 words call word way → (IsAtNode l words0 call × IsUnmoved l words0 words call.node) × ¬ IsMadeNow l words0 call
held_come l words0 words call word (ways.Served order) held there = absurd held
held_come l words0 words call word (ways.Held order) held there = there
held_come l words0 words call word ways.Alone held there = absurd held

-- it has the lock where it has made a permutation
made_held : (way : Way) (words : List ℕ) → way ≡ ways.Held words → IsHeld way
made_held way words is = subst IsHeld (sym is) tt

held_there : (l : Layout) (words0 words : List ℕ) (call : Call) (word : ℕ) (way : Way) → IsHeld way → IsAtNode l words0 call → IsUnmoved l words0 words call.node → ¬ IsMadeNow l words0 call → WayIsThere l words0 words call word way
held_there l words0 words call word (ways.Served order) held node unmoved new = absurd held
held_there l words0 words call word (ways.Held order) held node unmoved new = ((node, unmoved), new)
held_there l words0 words call word ways.Alone held node unmoved new = absurd held

-- a store of its permutation leaves all else
stores_unmoved : (store : StorePermutation) (l : Layout) (words0 words : List ℕ) (n : ℕ) → store.layout ≡ l → store.node < l.nodes → IsUnmoved l words0 words n → IsUnmoved l words0 (acted l words (store_asks store)) n
stores_unmoved store l words0 words n layout here unmoved =
    let node : store.node < store.layout.nodes = subst (λ (m : Layout). store.node < m.nodes) (sym layout) here in
    elim (nat_lt store.stored 8) as (λ b. nat_lt store.stored 8 ≡ b → IsUnmoved l words0 (acted l words (cond b (Store (permutation_address store.layout store.node store.stored) (slice_index store.words store.stored))
    (Store (permutation_version_address store.layout store.node) (store.locked + 1)))) n) [
      | true ↦ λ more. subst (λ (m : Layout). IsUnmoved l words0 (set words (address_of m (Volatile store.node (8 + store.stored))) (slice_index store.words store.stored)) n) (sym layout)
          (beyond_unmoved l words0 words n store.node (8 + store.stored) (slice_index store.words store.stored) here (let low = ltb-true store.stored 8 more in omega arith) (λ e. omega arith) unmoved)
      | false ↦ λ last. subst (λ (m : Layout). IsUnmoved l words0 (set words (address_of m (Volatile store.node permutation_version_offset)) (store.locked + 1)) n) (sym layout)
          (beyond_unmoved l words0 words n store.node permutation_version_offset (store.locked + 1) here (omega arith) (λ e. omega arith) unmoved)
    ] refl

stored_went : (l : Layout) (words0 words : List ℕ) (reading : Reading) (turn : Turn StorePermutation (Unit {0})) → WayIsThere l words0 words reading.call reading.hold.locked reading.way → PartIsThere l words0 words (part.Reading (store_on reading turn))
stored_went l words0 words reading (Go store) there = there
stored_went l words0 words reading (Done nothing) there = there

-- what it listed has no limit
whole_limit : (reading : Reading) (way : Way) → limit_in (stage_by way reading.call.node reading.hold.locked (behind_sight reading.behind) (reading_whole reading)) ≡ reading.call.limit
whole_limit reading (ways.Served words) = refl
whole_limit reading (ways.Held words) = refl
whole_limit reading ways.Alone = refl

reading_went : (words0 words : List ℕ) (reading : Reading) (x : ℕ) → IsReading reading → WayIsThere reading.call.view.layout words0 words reading.call reading.hold.locked reading.way → (at : ReadingAt) → IsReadingAt reading at
    → x ≡ got reading.call.view.layout words (reading_at_asks reading.call reading.hold at)
    → PartWent reading.call.view.layout reading.call.view.generation words0 (acted reading.call.view.layout words (reading_at_asks reading.call reading.hold at)) (part.Reading (record reading { at = at })) (reading_turned (record reading { at = at }) at x)
reading_went words0 words reading x sound stands reading_at.Clock here told =
    way_loaded reading.call.view.layout words0 words reading.call reading.hold.locked (clock_address reading.call.view.layout) reading.way stands
reading_went words0 words reading x sound stands reading_at.Bitmap here told =
    let l = reading.call.view.layout in
    let address = call_address reading.call bitmap_offset in
    goes_went l words0 (acted l words (Load address)) (record reading { at = reading_at.Bitmap; bitmap = x }) (next_at x 0 l.slots) (way_loaded l words0 words reading.call reading.hold.locked address reading.way stands)
reading_went words0 words reading x sound stands (reading_at.Load slot word) here told =
    let l = reading.call.view.layout in
    let address = call_address reading.call (slot_offset slot word) in
    let loading : Reading = record reading { at = reading_at.Load slot word } in
    goes_went l words0 (acted l words (Load address)) (record loading { entries = with_word reading.entries slot word x }) (after_at loading slot word) (way_loaded l words0 words reading.call reading.hold.locked address reading.way stands)
reading_went words0 words reading x sound stands reading_at.Check here told =
    let come = free_come reading.call.view.layout words0 words reading.call reading.hold.locked reading.way here.0 stands in
    let same : x ≡ reading.hold.locked = reads_again reading.call words0 words x reading.hold.locked sound.call.node come told in
    let whole : Reading = record reading { at = reading_at.Check } in
    subst (λ b. PartWent reading.call.view.layout reading.call.view.generation words0 (acted reading.call.view.layout words (reading_at_asks reading.call reading.hold reading_at.Check)) (part.Reading whole)
    (Done (cond b (once.Done (part_words whole)) (once.Again (again.Moved reading.call.node reading.hold.locked x))))) (sym (eq-eqb x reading.hold.locked same))
    (come.0, refl, tt, whole_limit reading reading.way)
reading_went words0 words reading x sound stands (reading_at.Store store) here told =
    let l = reading.call.view.layout in
    let held = made_held reading.way (permutation_words (sorted_in reading)) here.1.made in
    let come = held_come l words0 words reading.call reading.hold.locked reading.way held stands in
    let layout : store.layout ≡ l = ap (λ (s : StorePermutation). s.layout) here.0.from in
    let node : store.node ≡ reading.call.node = ap (λ (s : StorePermutation). s.node) here.0.from in
    let unmoved = stores_unmoved store l words0 words reading.call.node layout (subst (λ (n : ℕ). n < l.nodes) (sym node) sound.call.node) come.0.1 in
    stored_went l words0 (acted l words (store_asks store)) (record reading { at = reading_at.Store store }) (store_turned store x)
    (held_there l words0 (acted l words (store_asks store)) reading.call reading.hold.locked reading.way held come.0.0 unmoved come.1)
reading_went words0 words reading x sound stands reading_at.Unlock here told =
    let come = held_come reading.call.view.layout words0 words reading.call reading.hold.locked reading.way (made_held reading.way (permutation_words (sorted_in reading)) here.made) stands in
    (come.0.0, refl, tt, whole_limit reading reading.way)

-- the load of its node's permutation, and what it finds
module _ (call : Call) (seen : Sighting) (count : ℕ) (words0 words : List ℕ) (sound : IsCall call) (come : HasCome None call.view.layout words0 words call seen.version) where
  abbrev l : Layout
  l = call.view.layout

  come_on : (address : ℕ) → HasCome None l words0 (acted l words (Load address)) call seen.version
  come_on address = (come.0, set-get_or words address 0 ∙ come.1, come.2)

  -- where there is none it is new
  none_went : (after : List ℕ) → HasCome None l words0 after call seen.version → ¬ IsMadeNow l words0 call → PartIsThere l words0 after (part_ordered call seen count None)
  none_went after here new = elim (is_worn_word seen.version call.view.generation) as (λ b. PartIsThere l words0 after (cond b (part.Dating call seen count ways.Alone)
      (part.Locking call seen count (locked_word call.view.generation (kept_count seen.version call.view.generation))))) [
        | true ↦ (here, new)
        | false ↦ (here, new)
      ]

  ordering_went : (load : LoadPermutation) (at : LoadPermutationAt) (x : ℕ) → load.layout ≡ l → load.node ≡ call.node → load.version ≡ seen.version → IfSome (load_at_read load.words at) (λ read. IsMadeNow l words0 call)
      → x ≡ got l words (load_at_asks load.layout load.node at)
      → PartWent l call.view.generation words0 (acted l words (load_at_asks load.layout load.node at)) (part.Ordering call seen count (record load { at = at })) (ordering_turned call seen count (load_at_turned (record load { at = at }) at x))
  ordering_went load Version x layout node version had told =
      let address = permutation_version_address load.layout load.node in
      let read : x ≡ made_at l words0 call.node =
      told ∙ (λ k. slice_index words (permutation_version_address (layout k) (node k))) ∙ ap (λ (ws : List ℕ). slice_index ws (permutation_version_address l call.node)) come.1 ∙ sym (made_at-here l words0 call.node sound.node) in
      elim (x == load.version) as (λ b. (x == load.version) ≡ b → PartWent l call.view.generation words0 (acted l words (Load address)) (part.Ordering call seen count (record load { at = Version }))
      (ordering_turned call seen count (cond b (Go (record load { at = Word 0 })) (Done None)))) [
        | true ↦ λ same. (come_on address, sym read ∙ eqb-true x load.version same ∙ version ∙ come.2)
        | false ↦ λ other. none_went (acted l words (Load address)) (come_on address) (λ made. eqb-false x load.version other (read ∙ made ∙ sym come.2 ∙ sym version))
      ] refl
  ordering_went load (Word number) x layout node version had told =
      let address = permutation_address load.layout load.node number in
      elim (number + 1 == 8) as (λ b. PartWent l call.view.generation words0 (acted l words (Load address)) (part.Ordering call seen count (record load { at = Word number }))
      (ordering_turned call seen count (cond b (Done (Some (set load.words number x))) (Go (record load { words = set load.words number x; at = Word (number + 1) }))))) [
        | true ↦ (come_on address, had)
        | false ↦ (come_on address, had)
      ]

  -- it takes the lock, since nobody else does anything
  locking_went : (locked x : ℕ) → ¬ IsMadeNow l words0 call → x ≡ got l words (Exchange (call_address call version_offset) seen.version locked)
      → PartWent l call.view.generation words0 (acted l words (Exchange (call_address call version_offset) seen.version locked)) (part.Locking call seen count locked) (part_locked call seen count locked x)
  locking_went locked x new told =
      let same : x ≡ seen.version = told ∙ ap (λ (ws : List ℕ). slice_index ws (version_address l call.node)) come.1 ∙ sym (version_in-here l words0 call.node sound.node) ∙ sym come.2 in
      subst (λ b. PartWent l call.view.generation words0 (acted l words (Exchange (call_address call version_offset) seen.version locked)) (part.Locking call seen count locked)
      (cond b (Go (part_held call seen count locked)) (Done (once.Again (again.Moved call.node seen.version x))))) (sym (eq-eqb x seen.version same))
      ((come.0, locked_unmoved l words0 words call.node seen.version locked sound.node come.1), new)

part_went : (machine : Part) (words0 words : List ℕ) (x : ℕ) → IsPart machine
    → CanWalk (part_call machine).view.layout (part_call machine).view.generation words0
    → PartIsThere (part_call machine).view.layout words0 words machine → x ≡ got (part_call machine).view.layout words (part_asks machine)
    → PartWent (part_call machine).view.layout (part_call machine).view.generation words0 (acted (part_call machine).view.layout words (part_asks machine)) machine (part_turned machine x)
part_went (part.Looking lookup count) words0 words x sound still stands told =
    part_looked_went _ _ words0 _ lookup count (lookup_turned lookup x) (walks_on lookup.call lookup.at x sound.1 sound.2) (looks_come_there lookup words0 words x sound.0 still stands told)
part_went (part.Ordering call seen count load) words0 words x sound still stands told =
    ordering_went call seen count words0 words sound.there.sound stands.0 load load.at x sound.layout sound.node sound.version stands.1 told
part_went (part.Locking call seen count locked) words0 words x sound still stands told =
    locking_went call seen count words0 words sound.0.sound stands.0 locked x stands.1 told
part_went (part.Dating call seen count way) words0 words x sound still stands told =
    way_loaded call.view.layout words0 words call seen.version (clock_address call.view.layout) way stands
part_went (part.Reading reading) words0 words x sound still stands told = reading_went words0 words reading x sound stands reading.at sound.here told

pub machine_went : (machine : Running) (words0 words : List ℕ) (x : ℕ) → IsRunning machine
    → CanWalk (running_call machine).view.layout (running_call machine).view.generation words0
    → Told (running_call machine).view.layout (running_call machine).view.generation (running_asks machine) x
    → KnowsOwn (running_call machine).view.layout words machine
    → IsThere (running_call machine).view.layout words0 words machine → x ≡ got (running_call machine).view.layout words (running_asks machine)
    → Went (running_call machine).view.layout (running_call machine).view.generation words0 (acted (running_call machine).view.layout words (running_asks machine)) machine (running_turned machine x)
machine_went (Getting machine) words0 words x sound still tells mine stands told = at (get_turned machine x) (get_went machine words0 words x sound still stands told)
  where
    ended : (answer : Once Placed) → GetWent (get_call machine).view.layout (get_call machine).view.generation words0 (acted (get_call machine).view.layout words (get_asks machine)) (get_call machine) (limit_in (get_stage machine)) (Done answer)
        → HasEnded (get_call machine).view.layout (get_call machine).view.generation words0 (acted (get_call machine).view.layout words (get_asks machine)) (get_call machine) (λ place. Unit {0}) (MayLack (Getting machine)) (placed_in (stage_of (Getting machine))) (limit_in (stage_of (Getting machine))) answer
    ended (once.Done placed) is = (is.0, is.1, tt, is.2)
    ended (once.Worn node word) is = is
    ended (once.Spent clock) is = is
    ended (once.Again why) is = absurd is

    at : (turn : Turn Get (Once Placed)) → GetWent (get_call machine).view.layout (get_call machine).view.generation words0 (acted (get_call machine).view.layout words (get_asks machine)) (get_call machine) (limit_in (get_stage machine)) turn
        → Went (get_call machine).view.layout (get_call machine).view.generation words0 (acted (get_call machine).view.layout words (get_asks machine)) (Getting machine) (wrapped Getting turn)
    at (Go next) is = is
    at (Done answer) is = ended answer is
machine_went (Putting machine) words0 words x sound still tells mine stands told = at (put_turned machine x) (put_went machine words0 words x sound still tells mine stands told)
  where
    at : (turn : Turn Put (Once Placed)) → PutWent (put_call machine).view.layout (put_call machine).view.generation words0 (acted (put_call machine).view.layout words (put_asks machine)) (MayLack (Putting machine)) (put_call machine) (placed_in (put_stage machine)) (limit_in (put_stage machine)) turn
        → Went (put_call machine).view.layout (put_call machine).view.generation words0 (acted (put_call machine).view.layout words (put_asks machine)) (Putting machine) (wrapped Putting turn)
    at (Go next) is = is
    at (Done answer) is = is
machine_went (Deleting machine) words0 words x sound still tells mine stands told = at (del_turned machine x) (del_went machine words0 words x sound still tells stands told)
  where
    at : (turn : Turn Del (Once Placed)) → DelWent (del_call machine).view.layout (del_call machine).view.generation words0 (acted (del_call machine).view.layout words (del_asks machine)) (MayLack (Deleting machine)) (del_call machine) (placed_in (del_stage machine)) (limit_in (del_stage machine)) turn
        → Went (del_call machine).view.layout (del_call machine).view.generation words0 (acted (del_call machine).view.layout words (del_asks machine)) (Deleting machine) (wrapped Deleting turn)
    at (Go next) is = is
    at (Done answer) is = is
machine_went (Parting machine) words0 words x sound still tells mine stands told = part_went machine words0 words x sound still stands told
