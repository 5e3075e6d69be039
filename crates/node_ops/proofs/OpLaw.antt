-- A call stays one of its op, and makes no other change than the op's.
use Rattle.std.proofs.Common.{◌≡◌, ℕ, ◌/◌, ◌==◌, true, false, cond, ltb, List, Option, Some, None, IfSome, refl, sym, subst, ap, ◌∙◌, []}
use Rattle.pm_words.specs.declared.layout.Layout.{Layout}
use Rattle.pm_words.specs.declared.machine.Turn.{Turn}
use Rattle.pm_words.specs.declared.machine.Turn.TheVariants.{Go, Done}
use Rattle.cat_history.specs.declared.op.NameOp.{NameOp}
use Rattle.cat_history.specs.declared.op.NameOp.TheVariants as op
use Rattle.cat_history.specs.declared.op.Change.{Change}
use Rattle.cat_history.specs.declared.op.Change.TheVariants as change
use Rattle.data_node.specs.Bits.{lowest_clear}
use Rattle.call_stages.specs.declared.once.Once.{Once}
use Rattle.call_stages.specs.declared.once.Placed.{Placed}
use Rattle.call_stages.specs.Stages.{Holds, counted, pending_in, placed_in}
use Rattle.call_stages.specs.Kinds.{Told}
use Rattle.node_ops.specs.declared.call.Call.{Call}
use Rattle.node_ops.specs.declared.lookup.Found.{Found}
use Rattle.node_ops.specs.declared.lookup.Hit.{Hit}
use Rattle.node_ops.specs.declared.lookup.Looked.{Looked}
use Rattle.node_ops.specs.declared.lookup.Looked.TheVariants as looked
use Rattle.node_ops.specs.declared.lookup.Lookup.{Lookup}
use Rattle.node_ops.specs.declared.lookup.LookupAt.{LookupAt}
use Rattle.node_ops.specs.declared.fill.Fill.{Fill}
use Rattle.node_ops.specs.declared.finish.Finish.{Finish}
use Rattle.node_ops.specs.declared.finish.FinishAt.{FinishAt}
use Rattle.node_ops.specs.declared.finish.FinishAt.TheVariants as finish_at
use Rattle.node_ops.specs.declared.get.Get.{Get}
use Rattle.node_ops.specs.declared.get.Get.TheVariants as get
use Rattle.node_ops.specs.declared.put.Put.{Put}
use Rattle.node_ops.specs.declared.put.Put.TheVariants as put
use Rattle.node_ops.specs.declared.single_put.SinglePut.TheVariants as single_put
use Rattle.node_ops.specs.declared.del.Del.{Del}
use Rattle.node_ops.specs.declared.del.Del.TheVariants as del
use Rattle.node_ops.specs.declared.single_del.SingleDel.TheVariants as single_del
use Rattle.node_ops.specs.declared.running.Running.{Running}
use Rattle.node_ops.specs.declared.running.Running.TheVariants.{Getting, Putting, Deleting, Parting}
use Rattle.node_ops.specs.Calls.{name_in}
use Rattle.node_ops.specs.LookupSteps.{lookup_turned}
use Rattle.node_ops.specs.FinishSteps.{finish_turned}
use Rattle.node_ops.specs.FillSteps.{fill_turned}
use Rattle.node_ops.specs.GetSteps.{IsGet, get_call, get_turned}
use Rattle.node_ops.specs.PutSteps.{IsPut, put_call, put_turned, put_looked, put_into, put_full, put_filled, put_finished, put_split}
use Rattle.smo_log.specs.declared.take.Take.{Take}
use Rattle.smo_log.specs.declared.take.Taken.{Taken}
use Rattle.smo_log.specs.declared.take.Taken.TheVariants.{Line, Full}
use Rattle.smo_log.specs.Takes.{take_from, take_turned}
use Rattle.split_merge.specs.declared.merging.Merge.{Merge}
use Rattle.split_merge.specs.declared.merging.Merged.{Merged}
use Rattle.split_merge.specs.Merges.{merge_turned}
use Rattle.split_merge.specs.MergeStages.{merge_footing}
use Rattle.node_ops.specs.DelSteps.{IsDel, names_left, del_call, del_turned, del_looked, del_hit, del_taken, del_finished, del_merged, goes_on, merges_at}
use Rattle.node_ops.specs.RunningSteps.{running_call, running_asks, running_turned, wrapped, IsRunning, running_leads}
use Rattle.node_ops.specs.CallStages.{lookup_at_stage, finish_at_held, change_to, stage_of, found_full, has_place}
use Rattle.split_merge.specs.declared.splitting.Split.{Split}
use Rattle.split_merge.specs.declared.splitting.SplitDone.{SplitDone}
use Rattle.split_merge.specs.Splits.{split_turned}
use Rattle.split_merge.specs.SplitStages.{split_footing}
use Rattle.split_merge.proofs.OfSplits.{stages_are_of_splits}
use Rattle.node_ops.proofs.SplitFacts.{split_unpending, split_about}
use Rattle.node_ops.proofs.MergeFacts.{placed_still, merging_stage, merge_unpending, merge_about}
use Rattle.cat_history.specs.Records.{change_of}
use Rattle.node_ops.specs.Asked.{Gives, TakesOut, IsOf, IsOfAfter, IsAbout, op_of_finish}
use Rattle.node_ops.specs.Laws.{TurnsKeepOp, CountsOwnChange, HoldsOwnName, PendingIsOwnChange, OpIsTold}
use Rattle.node_ops.proofs.LookupSound.{Stays}
use Rattle.node_ops.specs.declared.part.Part.{Part}
use Rattle.node_ops.specs.PartSteps.{IsPart, part_call, placed_turn, part_turned}
use Rattle.node_ops.specs.CallStages.{part_stage}
use Rattle.node_ops.proofs.PartSound.{part_stays}
use Rattle.node_ops.proofs.PartStages.{part_only}
use Rattle.node_ops.proofs.CallSound.{get_stays, put_stays, del_stays}
use Rattle.call_stages.specs.Stages.{Sight}
use Rattle.data_list.specs.WalkStages.{live_sight}
use Rattle.node_ops.proofs.OnlyRead.{counted_pends, uncounted, looks_only}
use Rattle.node_ops.proofs.WriteTurns.{fill_turn_is, finish_turn_is}

-- what a finish leaves under the name is the same after a turn
abbrev NewAfter : Option ℕ → Turn Finish (Once Placed) → Type 0
NewAfter new (Go finish) = finish.new ≡ new
NewAfter new (Done answer) = Unit {0}

finish_keeps : (finish : Finish) (x : ℕ) → NewAfter finish.new (finish_turned finish x)
finish_keeps finish x = finish_turn_is (NewAfter finish.new) finish finish.at x (λ next. refl) (λ placed. tt)

abbrev ValueAfter : ℕ → Turn Fill Finish → Type 0
ValueAfter value (Go fill) = fill.value ≡ value
ValueAfter value (Done finish) = finish.new ≡ Some value

fill_keeps : (fill : Fill) (x : ℕ) → ValueAfter fill.value (fill_turned fill x)
fill_keeps fill x = fill_turn_is (ValueAfter fill.value) fill fill.at x (λ next. refl) (λ is. refl)

abbrev GivesAfter : ℕ → Turn Put (Once Placed) → Type 0
GivesAfter value (Go put) = Gives value put
GivesAfter value (Done answer) = Unit {0}

put_keeps : (value : ℕ) (put : Put) (x : ℕ) → Gives value put → GivesAfter value (put_turned put x)
put_keeps value (put.Single (single_put.Looking lookup number)) x is = at (lookup_turned lookup x)
  where
    full : (found : Found) (hit : Option Hit) → Gives value (put_full lookup.call found.hold found.directory.bitmap hit number)
    full found (Some hit) = is
    full found None = is

    into : (found : Found) (clear : Option ℕ) → Gives value (put_into lookup.call found number clear)
    into found (Some slot) = is
    into found None = full found found.hit

    at : (turn : Turn Lookup Looked) → GivesAfter value (put_looked lookup.call number turn)
    at (Go next) = is
    at (Done (looked.Early answer)) = tt
    at (Done (looked.Found found)) = into found (lowest_clear found.directory.bitmap lookup.call.view.layout.slots)
put_keeps value (put.Single (single_put.Filling fill)) x is = at (fill_turned fill x) (fill_keeps fill x)
  where
    at : (turn : Turn Fill Finish) → ValueAfter fill.value turn → GivesAfter value (put_filled turn)
    at (Go next) same = same ∙ is
    at (Done finish) same = same ∙ ap Some is
put_keeps value (put.Single (single_put.Replacing call hold bitmap hit number)) x is = ap Some is
put_keeps value (put.Single (single_put.Finishing finish)) x is = at (finish_turned finish x) (finish_keeps finish x)
  where
    at : (turn : Turn Finish (Once Placed)) → NewAfter finish.new turn → GivesAfter value (put_finished turn)
    at (Go next) same = same ∙ is
    at (Done answer) same = tt
put_keeps value (put.Splitting call hold bitmap number split) x is = at (split_turned split x)
  where
    at : (turn : Turn Split SplitDone) → GivesAfter value (put_split call hold bitmap number turn)
    at (Go next) = is
    at (Done answer) = tt

abbrev TakesOutAfter : Turn Del (Once Placed) → Type 0
TakesOutAfter (Go del) = TakesOut del
TakesOutAfter (Done answer) = Unit {0}

del_keeps : (del : Del) (x : ℕ) → TakesOut del → TakesOutAfter (del_turned del x)
del_keeps (del.Single (single_del.Looking lookup)) x is = at (lookup_turned lookup x)
  where
    hit : (found : Found) (hit : Option Hit) → TakesOut (del_hit lookup.call found.hold found.directory.bitmap hit)
    hit found (Some h) =
        let bitmap = found.directory.bitmap in
        elim (ltb (lookup.call.view.layout.slots / 2) (names_left lookup.call bitmap h)) as (λ b. TakesOut (cond b (del.Single (single_del.Clearing lookup.call found.hold bitmap h None)) (del.Single (single_del.Next lookup.call found.hold bitmap h)))) [ true ↦ tt | false ↦ tt ]
    hit found None = refl

    at : (turn : Turn Lookup Looked) → TakesOutAfter (del_looked lookup.call turn)
    at (Go next) = tt
    at (Done (looked.Early answer)) = tt
    at (Done (looked.Found found)) = hit found found.hit
del_keeps (del.Single (single_del.Next call hold bitmap hit)) x is =
    elim (x == 0) as (λ b. TakesOut (cond b (del.Single (single_del.Clearing call hold bitmap hit None)) (del.Single (single_del.Taking call hold bitmap hit (take_from call.view.layout call.view.caller))))) [ true ↦ tt | false ↦ tt ]
del_keeps (del.Single (single_del.Taking call hold bitmap hit take)) x is = at (take_turned take x)
  where
    at : (turn : Turn Take Taken) → TakesOutAfter (del_taken call hold bitmap hit turn)
    at (Go next) = tt
    at (Done (Line line)) = tt
    at (Done Full) = tt
del_keeps (del.Single (single_del.Refusing call hold bitmap hit)) x is = tt
del_keeps (del.Single (single_del.Clearing call hold bitmap hit line)) x is = refl
del_keeps (del.Single (single_del.Finishing finish line)) x is = at (finish_turned finish x) (finish_keeps finish x)
  where
    on : (next : Finish) (line : Option ℕ) → next.new ≡ None → TakesOut (goes_on next line)
    on next None none = none
    on next (Some number) none = point next.at
      where
        point : (at : FinishAt) → TakesOut (merges_at next number at)
        point (finish_at.Fence first fence) = none
        point finish_at.Add = none
        point (finish_at.Unlock place) = tt

    at : (turn : Turn Finish (Once Placed)) → NewAfter finish.new turn → TakesOutAfter (del_finished line turn)
    at (Go next) same = on next line (same ∙ is)
    at (Done answer) same = tt
del_keeps (del.Merging call hold old place merge) x is = at (merge_turned merge x)
  where
    at : (turn : Turn Merge Merged) → TakesOutAfter (del_merged call hold old place turn)
    at (Go next) = tt
    at (Done merged) = tt

get_of : (name : List ℕ) (call : Call) (turn : Turn Get (Once Placed)) → name_in call ≡ name → Stays IsGet get_call call turn → IsOfAfter (op.Get name) (wrapped Getting turn)
get_of name call (Go get) is stays = ap name_in stays.1 ∙ is
get_of name call (Done answer) is stays = tt

put_of : (name : List ℕ) (value : ℕ) (call : Call) (turn : Turn Put (Once Placed)) → name_in call ≡ name → Stays IsPut put_call call turn → GivesAfter value turn
    → IsOfAfter (op.Put name value) (wrapped Putting turn)
put_of name value call (Go put) is stays gives = (ap name_in stays.1 ∙ is, gives)
put_of name value call (Done answer) is stays gives = tt

del_of : (name : List ℕ) (call : Call) (turn : Turn Del (Once Placed)) → name_in call ≡ name → Stays IsDel del_call call turn → TakesOutAfter turn → IsOfAfter (op.Del name) (wrapped Deleting turn)
del_of name call (Go del) is stays out = (ap name_in stays.1 ∙ is, out)
del_of name call (Done answer) is stays out = tt

part_of : (name : List ℕ) (call : Call) (turn : Turn Part (Once Placed)) → name_in call ≡ name → Stays IsPart part_call call turn → IsOfAfter (op.Get name) (wrapped Parting turn)
part_of name call (Go p) is stays = ap name_in stays.1 ∙ is
part_of name call (Done answer) is stays = tt

own_keep : (op : NameOp) (running : Running) (x : ℕ) → IsRunning running → Told (running_call running).view.layout (running_call running).view.generation (running_asks running) x → running_leads running x → IsOf op running
    → IsOfAfter op (running_turned running x)
own_keep (op.Get name) (Getting get) x sound told leads is = get_of name (get_call get) (get_turned get x) is (get_stays get x sound told)
own_keep (op.Get name) (Putting put) x sound told leads is = absurd is
own_keep (op.Get name) (Deleting del) x sound told leads is = absurd is
own_keep (op.Get name) (Parting p) x sound told leads is = part_of name (part_call p) (placed_turn (part_turned p x)) is (part_stays p x sound told)
own_keep (op.Put name value) (Getting get) x sound told leads is = absurd is
own_keep (op.Put name value) (Putting put) x sound told leads is = put_of name value (put_call put) (put_turned put x) is.0 (put_stays put x sound told leads) (put_keeps value put x is.1)
own_keep (op.Put name value) (Deleting del) x sound told leads is = absurd is
own_keep (op.Put name value) (Parting p) x sound told leads is = absurd is
own_keep (op.Del name) (Getting get) x sound told leads is = absurd is
own_keep (op.Del name) (Putting put) x sound told leads is = absurd is
own_keep (op.Del name) (Deleting del) x sound told leads is = del_of name (del_call del) (del_turned del x) is.0 (del_stays del x sound told leads) (del_keeps del x is.1)
own_keep (op.Del name) (Parting p) x sound told leads is = absurd is

pub turns_keep_op : TurnsKeepOp
turns_keep_op l g op running x sound told leads is =
    let at_generation = subst (λ (n : ℕ). Told l n (running_asks running) x) (sym sound.generation) told in
    own_keep op running x sound.here (subst (λ (k : Layout). Told k (running_call running).view.generation (running_asks running) x) (sym sound.layout) at_generation) leads is

-- a look-up counts nothing, and holds its node for its call's name
pub lookup_counts : (kept : Sight) (call : Call) (at : LookupAt) → counted (lookup_at_stage kept call at) ≡ None
lookup_counts kept call at = uncounted (lookup_at_stage kept call at) (looks_only kept call at).pending

lookup_about : (kept : Sight) (call : Call) (at : LookupAt) → IsAbout (name_in call) (lookup_at_stage kept call at)
lookup_about kept call at = (looks_only kept call at).about

lookup_pends : (kept : Sight) (call : Call) (at : LookupAt) → pending_in (lookup_at_stage kept call at) ≡ None
lookup_pends kept call at = (looks_only kept call at).pending

counts_nothing : (P : Change → Type 0) (o : Option Change) → o ≡ None → IfSome o P
counts_nothing P o is = subst (λ (c : Option Change). IfSome c P) (sym is) tt

finish_about : (finish : Finish) (at : FinishAt) → IsAbout (name_in finish.call) (Holds finish.call.node finish.hold.locked (finish_at_held finish at))
finish_about finish (finish_at.Fence line fence) = refl
finish_about finish finish_at.Add = refl
finish_about finish (finish_at.Unlock place) = refl

pub holds_own_name : HoldsOwnName
holds_own_name (op.Get name) (Getting (get.Looking lookup)) is = subst (λ n. IsAbout n (lookup_at_stage (live_sight []) lookup.call lookup.at)) is (lookup_about (live_sight []) lookup.call lookup.at)
holds_own_name (op.Get name) (Getting (get.Checking call hold old)) is = is
holds_own_name (op.Get name) (Putting put) is = absurd is
holds_own_name (op.Get name) (Deleting del) is = absurd is
holds_own_name (op.Get name) (Parting p) is = subst (λ n. IsAbout n (part_stage p)) is (part_only p).about
holds_own_name (op.Put name value) (Getting get) is = absurd is
holds_own_name (op.Put name value) (Putting (put.Single (single_put.Looking lookup number))) is = subst (λ n. IsAbout n (lookup_at_stage (live_sight []) lookup.call lookup.at)) is.0 (lookup_about (live_sight []) lookup.call lookup.at)
holds_own_name (op.Put name value) (Putting (put.Single (single_put.Filling fill))) is = is.0
holds_own_name (op.Put name value) (Putting (put.Single (single_put.Replacing call hold bitmap hit number))) is = is.0
holds_own_name (op.Put name value) (Putting (put.Single (single_put.Finishing finish))) is =
    subst (λ n. IsAbout n (Holds finish.call.node finish.hold.locked (finish_at_held finish finish.at))) is.0 (finish_about finish finish.at)
holds_own_name (op.Put name value) (Putting (put.Splitting call hold bitmap number split)) is =
    subst (λ n. IsAbout n (split_footing (found_full call hold bitmap) split).stage) is.0 (split_about _ _ (stages_are_of_splits (found_full call hold bitmap) split))
holds_own_name (op.Put name value) (Deleting del) is = absurd is
holds_own_name (op.Put name value) (Parting p) is = absurd is
holds_own_name (op.Del name) (Getting get) is = absurd is
holds_own_name (op.Del name) (Putting put) is = absurd is
holds_own_name (op.Del name) (Deleting (del.Single (single_del.Looking lookup))) is = subst (λ n. IsAbout n (lookup_at_stage (live_sight []) lookup.call lookup.at)) is.0 (lookup_about (live_sight []) lookup.call lookup.at)
holds_own_name (op.Del name) (Deleting (del.Single (single_del.Next call hold bitmap hit))) is = is.0
holds_own_name (op.Del name) (Deleting (del.Single (single_del.Taking call hold bitmap hit take))) is = is.0
holds_own_name (op.Del name) (Deleting (del.Single (single_del.Refusing call hold bitmap hit))) is = is.0
holds_own_name (op.Del name) (Deleting (del.Single (single_del.Clearing call hold bitmap hit line))) is = is.0
holds_own_name (op.Del name) (Deleting (del.Merging call hold old place merge)) is =
    subst (λ n. IsAbout n (merge_footing (has_place call old place) merge).stage) is.0 (merge_about _ _ (merging_stage call old place merge))
holds_own_name (op.Del name) (Deleting (del.Single (single_del.Finishing finish line))) is =
    subst (λ n. IsAbout n (Holds finish.call.node finish.hold.locked (finish_at_held finish finish.at))) is.0 (finish_about finish finish.at)
holds_own_name (op.Del name) (Parting p) is = absurd is

finish_pends : (P : Change → Type 0) (finish : Finish) (at : FinishAt) → P (change_to (name_in finish.call) finish.new) → IfSome (finish_at_held finish at).pending P
finish_pends P finish (finish_at.Fence line fence) holds = holds
finish_pends P finish finish_at.Add holds = holds
finish_pends P finish (finish_at.Unlock place) holds = tt

pub pending_is_own : (op : NameOp) (running : Running) → IsOf op running → IfSome (pending_in (stage_of running)) (λ change. change_of op ≡ Some change)
pending_is_own (op.Get name) (Getting (get.Looking lookup)) is = counts_nothing _ _ (lookup_pends (live_sight []) lookup.call lookup.at)
pending_is_own (op.Get name) (Getting (get.Checking call hold old)) is = tt
pending_is_own (op.Get name) (Putting put) is = absurd is
pending_is_own (op.Get name) (Deleting del) is = absurd is
pending_is_own (op.Get name) (Parting p) is = counts_nothing _ _ (part_only p).pending
pending_is_own (op.Put name value) (Getting get) is = absurd is
pending_is_own (op.Put name value) (Putting (put.Single (single_put.Looking lookup number))) is = counts_nothing _ _ (lookup_pends (live_sight []) lookup.call lookup.at)
pending_is_own (op.Put name value) (Putting (put.Single (single_put.Filling fill))) is = tt
pending_is_own (op.Put name value) (Putting (put.Single (single_put.Replacing call hold bitmap hit number))) is = tt
pending_is_own (op.Put name value) (Putting (put.Single (single_put.Finishing finish))) is =
    finish_pends (λ c. Some (change.Put name value) ≡ Some c) finish finish.at
    (ap Some (sym (ap (λ (n : Option ℕ). change_to (name_in finish.call) n) is.1 ∙ ap (λ (n : List ℕ). change.Put n value) is.0)))
pending_is_own (op.Put name value) (Putting (put.Splitting call hold bitmap number split)) is =
    counts_nothing _ _ (split_unpending _ _ refl (stages_are_of_splits (found_full call hold bitmap) split))
pending_is_own (op.Put name value) (Deleting del) is = absurd is
pending_is_own (op.Put name value) (Parting p) is = absurd is
pending_is_own (op.Del name) (Getting get) is = absurd is
pending_is_own (op.Del name) (Putting put) is = absurd is
pending_is_own (op.Del name) (Deleting (del.Single (single_del.Looking lookup))) is = counts_nothing _ _ (lookup_pends (live_sight []) lookup.call lookup.at)
pending_is_own (op.Del name) (Deleting (del.Single (single_del.Next call hold bitmap hit))) is = tt
pending_is_own (op.Del name) (Deleting (del.Single (single_del.Taking call hold bitmap hit take))) is = tt
pending_is_own (op.Del name) (Deleting (del.Single (single_del.Refusing call hold bitmap hit))) is = tt
pending_is_own (op.Del name) (Deleting (del.Single (single_del.Clearing call hold bitmap hit line))) is = tt
pending_is_own (op.Del name) (Deleting (del.Merging call hold old place merge)) is =
    counts_nothing _ _ (merge_unpending _ _ (placed_still call old place) (merging_stage call old place merge))
pending_is_own (op.Del name) (Deleting (del.Single (single_del.Finishing finish line))) is =
    finish_pends (λ c. Some (change.Del name) ≡ Some c) finish finish.at
    (ap Some (sym (ap (λ (n : Option ℕ). change_to (name_in finish.call) n) is.1 ∙ ap (λ (n : List ℕ). change.Del n) is.0)))
pending_is_own (op.Del name) (Parting p) is = absurd is

-- and what it counts is pending
pub counts_own_change : CountsOwnChange
counts_own_change op running is = counted_pends (λ change. change_of op ≡ Some change) (stage_of running) (pending_is_own op running is)

finish_unplaced : (finish : Finish) (at : FinishAt) → IfSome (finish_at_held finish at).pending (λ c. (finish_at_held finish at).placed ≡ None)
finish_unplaced finish (finish_at.Fence line fence) = refl
finish_unplaced finish finish_at.Add = refl
finish_unplaced finish (finish_at.Unlock place) = tt

-- a call has its change pending or its place, not both
pub pending_is_unplaced : (running : Running) → IfSome (pending_in (stage_of running)) (λ change. placed_in (stage_of running) ≡ None)
pending_is_unplaced (Getting (get.Looking lookup)) = counts_nothing _ _ (lookup_pends (live_sight []) lookup.call lookup.at)
pending_is_unplaced (Getting (get.Checking call hold old)) = tt
pending_is_unplaced (Putting (put.Single (single_put.Looking lookup number))) = counts_nothing _ _ (lookup_pends (live_sight []) lookup.call lookup.at)
pending_is_unplaced (Putting (put.Single (single_put.Filling fill))) = tt
pending_is_unplaced (Putting (put.Single (single_put.Replacing call hold bitmap hit number))) = tt
pending_is_unplaced (Putting (put.Single (single_put.Finishing finish))) = finish_unplaced finish finish.at
pending_is_unplaced (Putting (put.Splitting call hold bitmap number split)) =
    counts_nothing _ _ (split_unpending _ _ refl (stages_are_of_splits (found_full call hold bitmap) split))
pending_is_unplaced (Deleting (del.Single (single_del.Looking lookup))) = counts_nothing _ _ (lookup_pends (live_sight []) lookup.call lookup.at)
pending_is_unplaced (Deleting (del.Single (single_del.Next call hold bitmap hit))) = tt
pending_is_unplaced (Deleting (del.Single (single_del.Taking call hold bitmap hit take))) = tt
pending_is_unplaced (Deleting (del.Single (single_del.Refusing call hold bitmap hit))) = tt
pending_is_unplaced (Deleting (del.Single (single_del.Clearing call hold bitmap hit line))) = tt
pending_is_unplaced (Deleting (del.Single (single_del.Finishing finish line))) = finish_unplaced finish finish.at
pending_is_unplaced (Deleting (del.Merging call hold old place merge)) =
    counts_nothing _ _ (merge_unpending _ _ (placed_still call old place) (merging_stage call old place merge))
pending_is_unplaced (Parting p) = counts_nothing _ _ (part_only p).pending

pub pends_own_change : PendingIsOwnChange
pends_own_change op running change is pending = (
  subst (λ (o : Option Change). IfSome o (λ c. change_of op ≡ Some c)) pending (pending_is_own op running is),
  subst (λ (o : Option Change). IfSome o (λ c. placed_in (stage_of running) ≡ None)) pending (pending_is_unplaced running),
)

-- a call is of no other op than the one that its machine tells
pub op_told : OpIsTold
op_told (op.Get name) (Getting get) is = ap op.Get is
op_told (op.Get name) (Putting put) is = absurd is
op_told (op.Get name) (Deleting del) is = absurd is
op_told (op.Get name) (Parting p) is = ap op.Get is
op_told (op.Put name value) (Getting get) is = absurd is
op_told (op.Put name value) (Putting (put.Single (single_put.Looking lookup number))) is = λ k. op.Put (is.0 k) (is.1 k)
op_told (op.Put name value) (Putting (put.Single (single_put.Filling fill))) is = λ k. op.Put (is.0 k) (is.1 k)
op_told (op.Put name value) (Putting (put.Single (single_put.Replacing call hold bitmap hit number))) is = λ k. op.Put (is.0 k) (is.1 k)
op_told (op.Put name value) (Putting (put.Single (single_put.Finishing finish))) is = ap (op_of_finish finish) is.1 ∙ ap (λ (n : List ℕ). op.Put n value) is.0
op_told (op.Put name value) (Putting (put.Splitting call hold bitmap number split)) is = λ k. op.Put (is.0 k) (is.1 k)
op_told (op.Put name value) (Deleting del) is = absurd is
op_told (op.Put name value) (Parting p) is = absurd is
op_told (op.Del name) (Getting get) is = absurd is
op_told (op.Del name) (Putting put) is = absurd is
op_told (op.Del name) (Deleting (del.Single (single_del.Looking lookup))) is = ap op.Del is.0
op_told (op.Del name) (Deleting (del.Single (single_del.Next call hold bitmap hit))) is = ap op.Del is.0
op_told (op.Del name) (Deleting (del.Single (single_del.Taking call hold bitmap hit take))) is = ap op.Del is.0
op_told (op.Del name) (Deleting (del.Single (single_del.Refusing call hold bitmap hit))) is = ap op.Del is.0
op_told (op.Del name) (Deleting (del.Single (single_del.Clearing call hold bitmap hit line))) is = ap op.Del is.0
op_told (op.Del name) (Deleting (del.Merging call hold old place merge)) is = ap op.Del is.0
op_told (op.Del name) (Deleting (del.Single (single_del.Finishing finish line))) is = ap (op_of_finish finish) is.1 ∙ ap op.Del is.0
op_told (op.Del name) (Parting p) is = absurd is
