-- The fields of a call keep what they keep, whatever its actions give.
use Rattle.std.proofs.Common.{◌≡◌, ℕ, ◌+◌, ◌*◌, ◌/◌, ◌%◌, ◌<◌, ◌≤◌, ◌^◌, ◌==◌, true, false, cond, ltb, Option, Some, None, IfSome, refl, sym, subst, ap, ◌∙◌, arith}
use Rattle.std.proofs.lemmas.Bool.{ltb-true, ltb-false}
use Rattle.pm_words.specs.declared.layout.Layout.{Layout}
use Rattle.pm_words.specs.declared.machine.Turn.{Turn}
use Rattle.pm_words.specs.declared.machine.Turn.TheVariants.{Go, Done}
use Rattle.data_node.specs.Slots.{AreAllLive}
use Rattle.data_node.specs.Bits.{lowest_clear}
use Rattle.data_node.proofs.BitLemmas.{lowest_clear-some, lowest_clear-none}
use Rattle.call_stages.specs.declared.once.Once.{Once}
use Rattle.call_stages.specs.declared.once.Placed.{Placed}
use Rattle.call_stages.specs.Kinds.{Told}
use Rattle.node_ops.specs.declared.call.Call.{Call}
use Rattle.node_ops.specs.declared.lookup.Hit.{Hit}
use Rattle.node_ops.specs.declared.lookup.Found.{Found}
use Rattle.node_ops.specs.declared.lookup.Looked.{Looked}
use Rattle.node_ops.specs.declared.lookup.Looked.TheVariants as looked
use Rattle.node_ops.specs.declared.lookup.Lookup.{Lookup}
use Rattle.pm_words.specs.declared.fence.Fence.{Fence}
use Rattle.node_ops.specs.declared.finish.Finish.{Finish}
use Rattle.node_ops.specs.declared.finish.FinishAt.{FinishAt}
use Rattle.node_ops.specs.declared.finish.FinishAt.TheVariants as finish_at
use Rattle.node_ops.specs.declared.fill.Fill.{Fill}
use Rattle.node_ops.specs.declared.fill.FillAt.{FillAt}
use Rattle.node_ops.specs.declared.fill.FillAt.TheVariants as fill_at
use Rattle.node_ops.specs.declared.get.Get.{Get}
use Rattle.node_ops.specs.declared.get.Get.TheVariants as get
use Rattle.node_ops.specs.declared.put.Put.{Put}
use Rattle.node_ops.specs.declared.put.Put.TheVariants as put
use Rattle.node_ops.specs.declared.single_put.SinglePut.TheVariants as single_put
use Rattle.node_ops.specs.declared.del.Del.{Del}
use Rattle.node_ops.specs.declared.del.Del.TheVariants as del
use Rattle.node_ops.specs.declared.single_del.SingleDel.TheVariants as single_del
use Rattle.node_ops.specs.declared.running.Running.{Running}
use Rattle.node_ops.specs.declared.running.Running.TheVariants.{Getting, Putting, Deleting, Parting}
use Rattle.node_ops.specs.Calls.{IsCall, IsInside, at_node, IsSame}
use Rattle.pm_words.specs.Fences.{IsFence, line_of, fence_start, fence_next}
use Rattle.pm_words.specs.Locations.{node_words}
use Rattle.pm_words.specs.Offsets.{bitmap_offset, slot_offset, value_word}
use Rattle.pm_words.proofs.Fencing.{fence_stays}
use Rattle.node_ops.specs.LookupSteps.{IsHit, IsFoundBy, lookup_turned}
use Rattle.node_ops.specs.FinishSteps.{IsFinish, IsFinishAt, finish_turned, finish_at_turned, finish_fenced}
use Rattle.node_ops.specs.FillSteps.{IsFill, IsFillAt, fill_turned, fill_at_turned, slot_fenced, print_fenced}
use Rattle.node_ops.specs.GetSteps.{IsGet, get_call, get_asks, get_turned, get_looked}
use Rattle.node_ops.specs.PutSteps.{IsPut, put_call, put_asks, put_turned, put_looked, put_into, put_full, put_filled, put_finished, put_split, put_leads}
use Rattle.split_merge.specs.declared.splitting.Split.{Split}
use Rattle.split_merge.specs.declared.splitting.SplitDone.{SplitDone}
use Rattle.split_merge.specs.Splits.{split_asks, split_turned}
use Rattle.split_merge.specs.SplitLaws.{SplitStays}
use Rattle.split_merge.proofs.SplitStaying.{splits_stay}
use Rattle.call_stages.specs.declared.view.View.{View}
use Rattle.smo_log.specs.declared.take.Take.{Take}
use Rattle.smo_log.specs.declared.take.Taken.{Taken}
use Rattle.smo_log.specs.declared.take.Taken.TheVariants.{Line, Full}
use Rattle.smo_log.specs.Takes.{take_from, take_asks, take_turned, take_held, TakeNotes}
use Rattle.smo_log.proofs.LineLaw.{takes_are_notes}
use Rattle.split_merge.specs.declared.merging.Merge.{Merge}
use Rattle.split_merge.specs.declared.merging.Merged.{Merged}
use Rattle.split_merge.specs.Splits.{IsOwnLine}
use Rattle.split_merge.specs.Merges.{merge_asks, merge_turned}
use Rattle.split_merge.specs.MergeLaws.{MergeStays}
use Rattle.split_merge.proofs.MergeStaying.{merges_stay}
use Rattle.node_ops.specs.DelSteps.{IsDel, IsClearing, IsEnding, IsUnplaced, IsTakeOf, LeavesFew, names_left, del_call, del_asks, del_turned, del_looked, del_slot, del_hit, del_taken, del_finished, del_merged, del_leads, cleared, goes_on, merges_at}
use Rattle.node_ops.specs.RunningSteps.{running_call, running_asks, running_turned, wrapped, IsRunning, running_leads}
use Rattle.node_ops.specs.CallStages.{SoundAfter}
use Rattle.node_ops.specs.Laws.{TurnsStaySound}
use Rattle.node_ops.specs.declared.part.Part.{Part}
use Rattle.node_ops.specs.PartSteps.{IsPart, part_call, placed_turn, part_turned}
use Rattle.node_ops.proofs.PartSound.{part_stays}
use Rattle.node_ops.proofs.LookupSound.{found_by, SoundLooked, lookup_stays, Stays}
use Rattle.std.specs.Prelude.{is_some}

-- the fields after a turn, and that the call is the same
abbrev SoundFinish : Call → Turn Finish (Once Placed) → Type 0
SoundFinish call (Go finish) = IsFinish finish × IsSame call finish.call
SoundFinish call (Done answer) = Unit {0}

finish_stays : (finish : Finish) (x : ℕ) → IsFinish finish → x < 2 ^ 64 → SoundFinish finish.call (finish_turned finish x)
finish_stays finish x sound fits = at finish.at sound.here
  where
    fenced : (line : ℕ) (o : Option Fence) → line + 8 ≤ node_words finish.call.view.layout → IfSome o IsFence → SoundFinish finish.call (finish_fenced finish line o)
    fenced line (Some fence) inside is = (record { call = sound.call; locked = sound.locked; here = (inside, is) }, refl)
    fenced line None inside is = (record { call = sound.call; locked = sound.locked; here = tt }, refl)

    at : (at : FinishAt) → IsFinishAt finish.call at → SoundFinish finish.call (finish_at_turned finish at x)
    at (finish_at.Fence line fence) here = fenced line (fence_next fence x) here.0 (fence_stays fence x here.1 fits)
    at finish_at.Add here = (record { call = sound.call; locked = sound.locked; here = tt }, refl)
    at (finish_at.Unlock place) here = tt

starts : IsFence fence_start
starts = record { word = omega arith; value = tt }

-- the lines that are fenced are the node's
bitmap_inside : (call : Call) → line_of bitmap_offset + 8 ≤ node_words call.view.layout
bitmap_inside call = omega arith

value_inside : (call : Call) (slot : ℕ) → IsCall call → slot < call.view.layout.slots → line_of (slot_offset slot value_word) + 8 ≤ node_words call.view.layout
value_inside call slot sound within =
    let even : call.view.layout.slots % 2 ≡ 0 = sound.view.layout.slots.2 in
    omega arith

abbrev SoundFill : Call → Turn Fill Finish → Type 0
SoundFill call (Go fill) = IsFill fill × IsSame call fill.call
SoundFill call (Done finish) = IsFinish finish × IsSame call finish.call

fill_stays : (fill : Fill) (x : ℕ) → IsFill fill → x < 2 ^ 64 → SoundFill fill.call (fill_turned fill x)
fill_stays fill x sound fits = at fill.at sound.here
  where
    on : (at : FillAt) → IsFillAt at → SoundFill fill.call (Go (record fill { at = at }))
    on at here = (record { call = sound.call; locked = sound.locked; bitmap = sound.bitmap; within = sound.within; clear = sound.clear; hit = sound.hit; value = sound.value; here = here }, refl)

    slot_fence : (o : Option Fence) → IfSome o IsFence → SoundFill fill.call (slot_fenced fill o)
    slot_fence (Some fence) is = on (fill_at.FenceSlot fence) is
    slot_fence None is = on (fill_at.FencePrint fence_start) starts

    print_fence : (o : Option Fence) → IfSome o IsFence → SoundFill fill.call (print_fenced fill o)
    print_fence (Some fence) is = on (fill_at.FencePrint fence) is
    print_fence None is = on fill_at.Bitmap tt

    at : (at : FillAt) → IsFillAt at → SoundFill fill.call (fill_at_turned fill at x)
    at (fill_at.Word k) here =
        elim (ltb (k + 1) 4) as (λ b. ltb (k + 1) 4 ≡ b → SoundFill fill.call (cond b (Go (record fill { at = fill_at.Word (k + 1) })) (Go (record fill { at = fill_at.Print })))) [
          | true ↦ λ more. on (fill_at.Word (k + 1)) (ltb-true _ _ more)
          | false ↦ λ last. on fill_at.Print tt
        ] refl
    at fill_at.Print here = on (fill_at.FenceSlot fence_start) starts
    at (fill_at.FenceSlot fence) here = slot_fence (fence_next fence x) (fence_stays fence x here fits)
    at (fill_at.FencePrint fence) here = print_fence (fence_next fence x) (fence_stays fence x here fits)
    at fill_at.Bitmap here = (record { call = sound.call; locked = sound.locked; here = (bitmap_inside fill.call, starts) }, refl)

pub get_stays : (get : Get) (x : ℕ) → IsGet get → Told (get_call get).view.layout (get_call get).view.generation (get_asks get) x → Stays IsGet get_call (get_call get) (get_turned get x)
get_stays (get.Looking lookup) x sound told = at (lookup_turned lookup x) (lookup_stays lookup x sound.0 told)
  where
    at : (turn : Turn Lookup Looked) → SoundLooked lookup.call turn → Stays IsGet get_call lookup.call (get_looked lookup.call turn)
    at (Go next) is = ((is.0, ap (λ (c : Call). c.limit) is.1 ∙ sound.1), is.1)
    at (Done (looked.Early answer)) is = tt
    at (Done (looked.Found found)) is = ((sound.0.call, sound.1), refl)
get_stays (get.Checking call hold old) x sound told = tt

-- a machine inside goes on, of the same node with the same lock
inside_on : {of : Call} {lock : ℕ} {its next : View} {own onward held still : ℕ} {Here Next More : Type 0} → IsInside of lock its own held Here More → Next → next ≡ its → onward ≡ own → still ≡ held
    → IsInside of lock next onward still Next More
inside_on sound here view node word = record {
  call = sound.call;
  locked = sound.locked;
  more = sound.more;
  here = here;
  view = view ∙ sound.view;
  node = node ∙ sound.node;
  word = word ∙ sound.word;
}

pub put_stays : (put : Put) (x : ℕ) → IsPut put → Told (put_call put).view.layout (put_call put).view.generation (put_asks put) x → put_leads put x → Stays IsPut put_call (put_call put) (put_turned put x)
put_stays (put.Single (single_put.Looking lookup value)) x sound told leads = at (lookup_turned lookup x) (lookup_stays lookup x sound.0 told)
  where
    full : (found : Found) (hit : Option Hit) → IfSome hit (IsHit lookup.call.view.layout.slots found.directory.bitmap) → IsFoundBy lookup.call.view.layout.slots found
        → AreAllLive found.directory.bitmap lookup.call.view.layout.slots → Stays IsPut put_call lookup.call (Go (put_full lookup.call found.hold found.directory.bitmap hit value))
    full found (Some hit) is_hit is all = (record { call = sound.0.call; locked = is.locked; hit = is_hit; value = sound.1 }, refl)
    full found None is_hit is all = (
      record {
        call = sound.0.call;
        locked = is.locked;
        more = all;
        here = record { view = sound.0.call.view; node = sound.0.call.node; lock = is.locked; here = tt };
        view = refl;
        node = refl;
        word = refl;
      },
      refl,
    )

    into : (found : Found) (clear : Option ℕ) → lowest_clear found.directory.bitmap lookup.call.view.layout.slots ≡ clear → IsFoundBy lookup.call.view.layout.slots found
        → Stays IsPut put_call lookup.call (Go (put_into lookup.call found value clear))
    into found (Some slot) same is =
        let lowest = lowest_clear-some found.directory.bitmap lookup.call.view.layout.slots slot is.directory.bitmap sound.0.call.view.layout.slots.1 same in
        (record { call = sound.0.call; locked = is.locked; bitmap = is.directory.bitmap; within = lowest.within; clear = lowest.clear; hit = is.hit; value = sound.1; here = omega arith }, refl)
    into found None same is = full found found.hit is.hit is (lowest_clear-none found.directory.bitmap lookup.call.view.layout.slots is.directory.bitmap same)

    at : (turn : Turn Lookup Looked) → SoundLooked lookup.call turn → Stays IsPut put_call lookup.call (put_looked lookup.call value turn)
    at (Go next) is = ((is.0, sound.1, ap (λ (c : Call). is_some c.limit) is.1 ∙ sound.2), is.1)
    at (Done (looked.Early answer)) is = tt
    at (Done (looked.Found found)) is = into found (lowest_clear found.directory.bitmap lookup.call.view.layout.slots) refl (found_by lookup.call.limit lookup.call.view.layout.slots found sound.2 is)
put_stays (put.Single (single_put.Filling fill)) x sound told leads = at (fill_turned fill x) (fill_stays fill x sound told.fits)
  where
    at : (turn : Turn Fill Finish) → SoundFill fill.call turn → Stays IsPut put_call fill.call (put_filled turn)
    at (Go next) is = is
    at (Done finish) is = is
put_stays (put.Single (single_put.Replacing call hold bitmap hit value)) x sound told leads = (record { call = sound.call; locked = sound.locked; here = (value_inside call hit.slot sound.call sound.hit.within, starts) }, refl)
put_stays (put.Single (single_put.Finishing finish)) x sound told leads = at (finish_turned finish x) (finish_stays finish x sound told.fits)
  where
    at : (turn : Turn Finish (Once Placed)) → SoundFinish finish.call turn → Stays IsPut put_call finish.call (put_finished turn)
    at (Go next) is = is
    at (Done answer) is = tt
put_stays (put.Splitting call hold bitmap value split) x sound told leads =
    elim (split_turned split x) as (λ (turn : Turn Split SplitDone). SplitStays split turn → Stays IsPut put_call call (put_split call hold bitmap value turn)) [
      | Go next ↦ λ is. (inside_on sound is.0 is.1.view is.1.node is.1.word, refl)
      | Done answer ↦ λ is. tt
    ] (splits_stay split x (sound.here, subst (λ (v : View). Told v.layout v.generation (split_asks split) x) (sym sound.view) told, leads))

pub del_is_call : (del : Del) → IsDel del → IsCall (del_call del)
del_is_call (del.Single (single_del.Looking lookup)) is = is.0.call
del_is_call (del.Single (single_del.Next call hold bitmap hit)) is = is.0.call
del_is_call (del.Single (single_del.Taking call hold bitmap hit take)) is = is.0.call
del_is_call (del.Single (single_del.Refusing call hold bitmap hit)) is = is.call
del_is_call (del.Single (single_del.Clearing call hold bitmap hit line)) is = is.0.call
del_is_call (del.Single (single_del.Finishing finish line)) is = is.0.here.call
del_is_call (del.Merging call hold old place merge) is = is.call

-- a line that is taken is one of its caller's
taken_own : (view : View) (take : Take) (x line : ℕ) → IsTakeOf view take → x < 2 ^ 64 → take_turned take x ≡ Done (Line line) → IsOwnLine view line
taken_own view take x line is fits taken =
    let note = subst (TakeNotes take.layout take.caller (take_held take) (take_asks take) x) taken (takes_are_notes take x is.here fits) in (
      note.1 ∙ is.caller_is,
      subst (λ (l : Layout). line < 8 * l.callers) is.layout_is note.2,
    )

-- the end of a write keeps its line
pub ending_on : (finish next : Finish) (line : Option ℕ) (x : ℕ) → IsEnding finish line → x < 2 ^ 64 → Go next ≡ finish_turned finish x → IsEnding next line
ending_on finish next line x ending fits goes =
    let so = subst (SoundFinish finish.call) (sym goes) (finish_stays finish x ending.here fits) in
    record { here = so.0; own = subst (λ (call : Call). IfSome line (IsOwnLine call.view)) (sym so.1) ending.own }

-- what goes on from a call goes on from that before it
same_on : (before after : Call) (del : Del) → IsSame before after → IsDel del × IsSame after (del_call del) → IsDel del × IsSame before (del_call del)
same_on before after del one stays = (stays.0, stays.1 ∙ ap (λ (call : Call). at_node call (del_call del).node (del_call del).hops) one)

-- the end of a write goes on, and with a line it merges from its place on
module _ (line : Option ℕ) where
  ends_on : (finish : Finish) → IsFinish finish → IfSome line (IsOwnLine finish.call.view) → Stays IsDel del_call finish.call (Go (goes_on finish line))
  ends_on finish is own =
      elim line as (λ o. IfSome o (IsOwnLine finish.call.view) → Stays IsDel del_call finish.call (Go (goes_on finish o))) [
        | None ↦ λ no. ((record { here = is; own = tt }, tt), refl)
        | Some number ↦ λ has. at number has finish.at refl
      ] own
    where
      at : (number : ℕ) → IsOwnLine finish.call.view number → (at : FinishAt) → finish.at ≡ at → Stays IsDel del_call finish.call (Go (merges_at finish number at))
      at number has (finish_at.Fence first fence) same = ((record { here = is; own = has }, subst IsUnplaced (sym same) tt), refl)
      at number has finish_at.Add same = ((record { here = is; own = has }, subst IsUnplaced (sym same) tt), refl)
      at number has (finish_at.Unlock place) same = (
        record {
          call = is.call;
          locked = is.locked;
          more = tt;
          here = record { view = is.call.view; node = is.call.node; lock = is.locked; line = has; here = tt };
          view = refl;
          node = refl;
          word = refl;
        },
        refl,
      )

pub del_stays : (del : Del) (x : ℕ) → IsDel del → Told (del_call del).view.layout (del_call del).view.generation (del_asks del) x → del_leads del x → Stays IsDel del_call (del_call del) (del_turned del x)
del_stays (del.Single (single_del.Looking lookup)) x sound told leads = at (lookup_turned lookup x) (lookup_stays lookup x sound.0 told)
  where
    slot : (found : Found) (h : Hit) → IsHit lookup.call.view.layout.slots found.directory.bitmap h → IsFoundBy lookup.call.view.layout.slots found
        → Stays IsDel del_call lookup.call (Go (del_slot lookup.call found.hold found.directory.bitmap h))
    slot found h is_hit is =
        let bitmap = found.directory.bitmap in
        let clears : IsClearing lookup.call found.hold bitmap h = record { call = sound.0.call; locked = is.locked; fits = is.directory.bitmap; hit = is_hit } in
        elim (ltb (lookup.call.view.layout.slots / 2) (names_left lookup.call bitmap h)) as (λ b. ltb (lookup.call.view.layout.slots / 2) (names_left lookup.call bitmap h) ≡ b
        → Stays IsDel del_call lookup.call (Go (cond b (del.Single (single_del.Clearing lookup.call found.hold bitmap h None)) (del.Single (single_del.Next lookup.call found.hold bitmap h))))) [
          | true ↦ λ many. ((clears, tt), refl)
          | false ↦ λ few. ((clears, ltb-false _ _ few), refl)
        ] refl

    hit : (found : Found) (hit : Option Hit) → IfSome hit (IsHit lookup.call.view.layout.slots found.directory.bitmap) → IsFoundBy lookup.call.view.layout.slots found
        → Stays IsDel del_call lookup.call (Go (del_hit lookup.call found.hold found.directory.bitmap hit))
    hit found (Some h) is_hit is = slot found h is_hit is
    hit found None is_hit is = ((record { here = record { call = sound.0.call; locked = is.locked; here = tt }; own = tt }, tt), refl)

    at : (turn : Turn Lookup Looked) → SoundLooked lookup.call turn → Stays IsDel del_call lookup.call (del_looked lookup.call turn)
    at (Go next) is = ((is.0, ap (λ (c : Call). is_some c.limit) is.1 ∙ sound.1), is.1)
    at (Done (looked.Early answer)) is = tt
    at (Done (looked.Found found)) is = let by = found_by lookup.call.limit lookup.call.view.layout.slots found sound.1 is in hit found found.hit by.hit by
del_stays (del.Single (single_del.Next call hold bitmap hit)) x sound told leads =
    elim (x == 0) as (λ b. Stays IsDel del_call call (Go (cond b (del.Single (single_del.Clearing call hold bitmap hit None)) (del.Single (single_del.Taking call hold bitmap hit (take_from call.view.layout call.view.caller)))))) [
      | true ↦ ((sound.0, tt), refl)
      | false ↦ (
        (
          sound.0,
          sound.1,
          record {
            here = record { layout = sound.0.call.view.layout; caller = sound.0.call.view.caller; index = omega arith; here = tt };
            layout_is = refl;
            caller_is = refl;
          },
        ),
        refl,
      )
    ]
del_stays (del.Single (single_del.Taking call hold bitmap hit take)) x sound told leads = at (take_turned take x) refl (takes_are_notes take x sound.2.here told.fits)
  where
    at : (turn : Turn Take Taken) → take_turned take x ≡ turn → TakeNotes take.layout take.caller (take_held take) (take_asks take) x turn
        → Stays IsDel del_call call (del_taken call hold bitmap hit turn)
    at (Go next) is note = ((sound.0, sound.1, record { here = note.1; layout_is = note.2 ∙ sound.2.layout_is; caller_is = note.3 ∙ sound.2.caller_is }), refl)
    at (Done (Line line)) is note = ((sound.0, (sound.1, taken_own call.view take x line sound.2 told.fits is)), refl)
    at (Done Full) is note = (sound.0, refl)
del_stays (del.Single (single_del.Refusing call hold bitmap hit)) x sound told leads = tt
del_stays (del.Single (single_del.Clearing call hold bitmap hit line)) x sound told leads =
    elim line as (λ o. IfSome o (λ number. LeavesFew call bitmap hit × IsOwnLine call.view number) → Stays IsDel del_call call (Go (del.Single (single_del.Finishing (cleared call hold hit) o)))) [
      | None ↦ λ no. ((record { here = finish; own = tt }, tt), refl)
      | Some number ↦ λ has. ((record { here = finish; own = has.1 }, tt), refl)
    ] sound.1
  where
    finish : IsFinish (cleared call hold hit)
    finish = record { call = sound.0.call; locked = sound.0.locked; here = (bitmap_inside call, starts) }
del_stays (del.Single (single_del.Finishing finish line)) x sound told leads = at (finish_turned finish x) refl (finish_stays finish x sound.0.here told.fits)
  where
    at : (turn : Turn Finish (Once Placed)) → finish_turned finish x ≡ turn → SoundFinish finish.call turn → Stays IsDel del_call finish.call (del_finished line turn)
    at (Go next) goes is =
        let ending = ending_on finish next line x sound.0 told.fits (sym goes) in
        same_on finish.call next.call (goes_on next line) is.1 (ends_on line next ending.here ending.own)
    at (Done answer) goes is = tt
del_stays (del.Merging call hold old place merge) x sound told leads =
    elim (merge_turned merge x) as (λ (turn : Turn Merge Merged). MergeStays merge turn → Stays IsDel del_call call (del_merged call hold old place turn)) [
      | Go next ↦ λ is. (inside_on sound is.0 is.1.view is.1.node is.1.word, refl)
      | Done merged ↦ λ is. tt
    ] (merges_stay merge x (sound.here, subst (λ (v : View). Told v.layout v.generation (merge_asks merge) x) (sym sound.view) told, leads))

-- a part stays sound, and so the whole
as_whole : {M : Type 0} (sound : M → Type 0) (of : M → Call) (wrap : M → Running) (l : Layout) (g : ℕ) (call : Call) (turn : Turn M (Once Placed))
    → ((machine : M) → sound machine → IsRunning (wrap machine)) → ((machine : M) → running_call (wrap machine) ≡ of machine)
    → call.view.layout ≡ l → call.view.generation ≡ g → Stays sound of call turn → SoundAfter l g (wrapped wrap turn)
as_whole sound of wrap l g call (Go machine) is_sound same layout generation stays =
    let one : running_call (wrap machine) ≡ at_node call (of machine).node (of machine).hops = same machine ∙ stays.1 in
    record {
      layout = ap (λ (c : Call). c.view.layout) one ∙ layout;
      generation = ap (λ (c : Call). c.view.generation) one ∙ generation;
      here = is_sound machine stays.0;
    }
as_whole sound of wrap l g call (Done answer) is_sound same layout generation stays = tt

pub turns_stay_sound : TurnsStaySound
turns_stay_sound l g running x sound told leads =
    let at_generation = subst (λ (n : ℕ). Told l n (running_asks running) x) (sym sound.generation) told in
    let own = subst (λ (k : Layout). Told k (running_call running).view.generation (running_asks running) x) (sym sound.layout) at_generation in
    at running sound.layout sound.generation sound.here own leads
  where
    at : (running : Running) → (running_call running).view.layout ≡ l → (running_call running).view.generation ≡ g → IsRunning running
        → Told (running_call running).view.layout (running_call running).view.generation (running_asks running) x → running_leads running x → SoundAfter l g (running_turned running x)
    at (Getting get) layout generation is own led = as_whole IsGet get_call (λ (m : Get). Getting m) l g (get_call get) (get_turned get x) (λ m s. s) (λ m. refl) layout generation (get_stays get x is own)
    at (Putting put) layout generation is own led = as_whole IsPut put_call (λ (m : Put). Putting m) l g (put_call put) (put_turned put x) (λ m s. s) (λ m. refl) layout generation (put_stays put x is own led)
    at (Deleting del) layout generation is own led = as_whole IsDel del_call (λ (m : Del). Deleting m) l g (del_call del) (del_turned del x) (λ m s. s) (λ m. refl) layout generation (del_stays del x is own led)
    at (Parting p) layout generation is own led = as_whole IsPart part_call (λ (m : Part). Parting m) l g (part_call p) (placed_turn (part_turned p x)) (λ m s. s) (λ m. refl) layout generation (part_stays p x is own)
