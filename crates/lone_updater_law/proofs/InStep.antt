-- A call's line is READY only behind its switch, and OPEN from there on.
use Rattle.std.proofs.Common.{◌≡◌, ℕ, suc, zero, inl, inr, Bool, cond, true, false, refl}
use Rattle.std.specs.Prelude.{Option, Some, None}
use Rattle.call_stages.specs.Stages.{Held, Stage, Holds, Eyes}
use Rattle.pm_alloc.specs.declared.claim.ClaimAt.{ClaimAt}
use Rattle.pm_alloc.specs.declared.claim.ClaimAt.TheVariants as claim_at
use Rattle.pm_alloc.specs.Claims.{lock_of}
use Rattle.pm_alloc.specs.ClaimStages.{claim_at_stage}
use Rattle.version_lock.specs.Versions.{is_free_word, is_worn_word}
use Rattle.smo_log.specs.declared.line.Entry.{Entry}
use Rattle.smo_log.specs.declared.take.TakeAt.{TakeAt}
use Rattle.smo_log.specs.declared.take.TakeAt.TheVariants as take_at
use Rattle.smo_log.specs.declared.open.OpenAt.{OpenAt}
use Rattle.smo_log.specs.declared.open.OpenAt.TheVariants as open_at
use Rattle.smo_log.specs.declared.state.ReadyAt.{ReadyAt}
use Rattle.smo_log.specs.declared.state.ReadyAt.TheVariants as ready_at
use Rattle.smo_log.specs.Opens.{open_at_held}
use Rattle.smo_log.specs.States.{ready_at_held}
use Rattle.smo_log.specs.Takes.{take_at_held}
use Rattle.lone_call_law.specs.split_merge.specs.declared.joining.JoinAt.{JoinAt}
use Rattle.lone_call_law.specs.split_merge.specs.declared.joining.JoinAt.TheVariants as join_at
use Rattle.lone_call_law.specs.split_merge.specs.declared.merging.Merge.{Merge}
use Rattle.lone_call_law.specs.split_merge.specs.declared.merging.MergeAt.{MergeAt}
use Rattle.lone_call_law.specs.split_merge.specs.declared.merging.MergeAt.TheVariants as merge_at
use Rattle.lone_call_law.specs.split_merge.specs.declared.moving.MoveAt.{MoveAt}
use Rattle.lone_call_law.specs.split_merge.specs.declared.moving.MoveAt.TheVariants as move_at
use Rattle.lone_call_law.specs.split_merge.specs.declared.planning.Plan.{Plan}
use Rattle.lone_call_law.specs.split_merge.specs.declared.splitting.Split.{Split}
use Rattle.lone_call_law.specs.split_merge.specs.declared.splitting.SplitAt.{SplitAt}
use Rattle.lone_call_law.specs.split_merge.specs.declared.splitting.SplitAt.TheVariants as split_at
use Rattle.lone_call_law.specs.split_merge.specs.declared.uniting.Union.{Union}
use Rattle.lone_call_law.specs.split_merge.specs.Plans as plans
use Rattle.lone_call_law.specs.split_merge.specs.Unions as unions
use Rattle.lone_call_law.specs.split_merge.specs.JoinStages.{join_at_stage, join_at_line}
use Rattle.lone_call_law.specs.split_merge.specs.MergeStages.{merge_at_footing}
use Rattle.lone_call_law.specs.split_merge.specs.MoveStages.{Known, move_at_stage, move_at_line}
use Rattle.lone_call_law.specs.split_merge.specs.SplitStages.{split_at_footing}
use Rattle.lone_call_law.specs.node_ops.specs.declared.del.Del.{Del}
use Rattle.lone_call_law.specs.node_ops.specs.declared.del.Del.TheVariants as del
use Rattle.lone_call_law.specs.node_ops.specs.declared.finish.Finish.{Finish}
use Rattle.lone_call_law.specs.node_ops.specs.declared.finish.FinishAt.{FinishAt}
use Rattle.lone_call_law.specs.node_ops.specs.declared.finish.FinishAt.TheVariants as finish_at
use Rattle.lone_call_law.specs.node_ops.specs.declared.put.Put.{Put}
use Rattle.lone_call_law.specs.node_ops.specs.declared.put.Put.TheVariants as put
use Rattle.lone_call_law.specs.node_ops.specs.declared.running.Running.TheVariants.{Getting, Putting, Deleting, Parting}
use Rattle.lone_call_law.specs.node_ops.specs.declared.single_del.SingleDel.TheVariants as single_del
use Rattle.lone_call_law.specs.node_ops.specs.CallStages.{put_footing, del_footing, line_taken, found_full}
use Rattle.lone_call_law.specs.node_ops.specs.CallStages.{finish_stage, finish_at_held, has_place}
use Rattle.lone_updater_law.specs.CallLogs.{HasSwitched, HasNotSwitched, IsInStep, CallsAreInStep}

-- a line that is EMPTY, or may be, at a stage before the switch
taking : (s : Stage) (line : ℕ) (at : TakeAt) → HasNotSwitched s → IsInStep s (take_at_held line at)
taking s line take_at.State before = tt
taking s line (take_at.Fence fence) before = inr (inl (refl, before))

opening : (s : Stage) (line : ℕ) (entry : Entry) (at : OpenAt) → HasNotSwitched s → IsInStep s (Some (open_at_held line entry at))
opening s line entry (open_at.Field zero) before = inr (inl (refl, before))
opening s line entry (open_at.Field (suc n)) before = inr (inl (refl, before))
opening s line entry (open_at.FenceFields fence) before = inr (inl (refl, before))
opening s line entry open_at.State before = inr (inl (refl, before))
opening s line entry (open_at.FenceState fence) before = inr (inl (refl, before))

readying : (s : Stage) (line : ℕ) (entry : Entry) (at : ReadyAt) → HasSwitched s → IsInStep s (Some (ready_at_held line entry at))
readying s line entry ready_at.State past = inr (inr (refl, λ t tells. tells.0))
readying s line entry (ready_at.Fence fence) past = inl (refl, past)

-- a split
moving : (plan : Plan) (known : Known) (at : MoveAt) → IsInStep (move_at_stage plan known at) (move_at_line plan at)
moving plan known (move_at.Slot word) = inr (inl (refl, (refl, refl)))
moving plan known (move_at.Print word) = inr (inl (refl, (refl, refl)))
moving plan known move_at.Bitmap = inr (inl (refl, (refl, refl)))
moving plan known (move_at.Anchor word) = inr (inl (refl, (refl, refl)))
moving plan known move_at.Next = inr (inl (refl, (refl, refl)))
moving plan known (move_at.FenceFresh first fence) = inr (inl (refl, (refl, refl)))
moving plan known (move_at.Open machine) = opening (move_at_stage plan known (move_at.Open machine)) machine.line machine.entry machine.at (refl, refl)
moving plan known move_at.Prev = inr (inr (refl, λ t tells. tells.0))
moving plan known move_at.Light = inr (inr (refl, λ t tells. tells.0))
moving plan known move_at.Switch = inr (inr (refl, λ t tells. tells.0))
moving plan known (move_at.FenceSwitch fence) = inr (inr (refl, λ t tells. tells.0))
moving plan known move_at.NextPrev = inr (inr (refl, λ t tells. tells.0))
moving plan known move_at.Trim = inr (inr (refl, λ t tells. tells.0))
moving plan known (move_at.FenceTrim fence) = inr (inr (refl, λ t tells. tells.0))
moving plan known (move_at.Ready ready) = readying (move_at_stage plan known (move_at.Ready ready)) ready.line (plans.entry_in plan) ready.at (inl refl)
moving plan known move_at.UnlockFresh = inl (refl, inl refl)
moving plan known move_at.Unlock = tt

either : (b c : Bool) (s t : Stage) → HasNotSwitched s → HasNotSwitched t → HasNotSwitched (cond b (cond c s t) s)
either true true s t first second = first
either true false s t first second = second
either false c s t first second = first

claiming : (g n w : ℕ) (h : Held) (node : ℕ) (at : ClaimAt) → h.merged ≡ false → HasNotSwitched (claim_at_stage g n w h node at)
claiming g n w h node claim_at.Nowhere unmerged = (refl, unmerged)
claiming g n w h node claim_at.Version unmerged = (refl, unmerged)
claiming g n w h node (claim_at.Status version) unmerged =
    either (is_free_word version g) (is_worn_word version g) (Holds n w h) (Eyes n w h node version (lock_of version g) false) (refl, unmerged) (refl, unmerged)
claiming g n w h node (claim_at.Lock version locked) unmerged = (refl, unmerged)

splitting : (h : Held) (split : Split) (at : SplitAt) → h.merged ≡ false → IsInStep (split_at_footing h split at).stage (split_at_footing h split at).line
splitting h split split_at.Next unmerged = tt
splitting h split (split_at.Take next take) unmerged = taking (split_at_footing h split (split_at.Take next take)).stage _ take.at (refl, unmerged)
splitting h split (split_at.Claim next line claim) unmerged = inr (inl (refl, claiming claim.generation split.node split.word _ claim.node claim.at unmerged))
splitting h split (split_at.Read share full count) unmerged = inr (inl (refl, (refl, refl)))
splitting h split (split_at.Move m) unmerged = moving m.plan _ m.at
splitting h split (split_at.Refuse next why) unmerged = tt

-- a merge
joining : (h : Held) (union : Union) (at : JoinAt) → h.merged ≡ false → IsInStep (join_at_stage h union at) (join_at_line union at)
joining h union (join_at.Open machine) unmerged = opening (join_at_stage h union (join_at.Open machine)) machine.line machine.entry machine.at (refl, unmerged)
joining h union (join_at.Load left word) unmerged = inr (inr (refl, λ t tells. tells.0))
joining h union (join_at.Copy left word value) unmerged = inr (inr (refl, λ t tells. tells.0))
joining h union (join_at.Print word) unmerged = inr (inr (refl, λ t tells. tells.0))
joining h union (join_at.FenceCopies first fence) unmerged = inr (inr (refl, λ t tells. tells.0))
joining h union join_at.Bitmap unmerged = inr (inr (refl, λ t tells. tells.0))
joining h union (join_at.FenceBitmap fence) unmerged = inr (inr (refl, λ t tells. tells.0))
joining h union join_at.Switch unmerged = inr (inr (refl, λ t tells. tells.0))
joining h union (join_at.FenceSwitch fence) unmerged = inr (inr (refl, λ t tells. tells.0))
joining h union join_at.Retire unmerged = inr (inr (refl, λ t tells. tells.0))
joining h union join_at.Prev unmerged = inr (inr (refl, λ t tells. tells.0))
joining h union join_at.NextPrev unmerged = inr (inr (refl, λ t tells. tells.0))
joining h union (join_at.Ready ready) unmerged = readying (join_at_stage h union (join_at.Ready ready)) ready.line (unions.entry_in union) ready.at (inr refl)
joining h union join_at.UnlockRight unmerged = inl (refl, inr refl)
joining h union join_at.Unlock unmerged = tt

merging : (h : Held) (merge : Merge) (at : MergeAt) → h.merged ≡ false → IsInStep (merge_at_footing h merge at).stage (merge_at_footing h merge at).line
merging h merge merge_at.Bitmap unmerged = inr (inl (refl, (refl, unmerged)))
merging h merge (merge_at.Next own) unmerged = inr (inl (refl, (refl, unmerged)))
merging h merge (merge_at.Version near) unmerged = inr (inl (refl, (refl, unmerged)))
merging h merge (merge_at.Lock near version locked) unmerged = inr (inl (refl, (refl, unmerged)))
merging h merge (merge_at.Head near locked head count) unmerged = inr (inl (refl, (refl, unmerged)))
merging h merge (merge_at.Prints near locked head prints count) unmerged = inr (inl (refl, (refl, unmerged)))
merging h merge (merge_at.Join join) unmerged = joining h join.union join.at unmerged
merging h merge (merge_at.Part near locked bitmap) unmerged = inr (inl (refl, (refl, unmerged)))
merging h merge (merge_at.Leave near) unmerged = inr (inl (refl, (refl, unmerged)))

-- each call
taken : (s : Stage) (line : Option ℕ) → HasNotSwitched s → IsInStep s (line_taken line)
taken s None before = tt
taken s (Some line) before = inr (inl (refl, before))

putting : (machine : Put) → IsInStep (put_footing machine).stage (put_footing machine).line
putting (put.Single single) = tt
putting (put.Splitting call hold bitmap value split) = splitting (found_full call hold bitmap) split split.at refl

finishing : (finish : Finish) → HasNotSwitched (finish_stage finish)
finishing finish = of finish.at
  where
    of : (at : FinishAt) → HasNotSwitched (Holds finish.call.node finish.hold.locked (finish_at_held finish at))
    of (finish_at.Fence line fence) = (refl, refl)
    of finish_at.Add = (refl, refl)
    of (finish_at.Unlock place) = (refl, refl)

deleting : (machine : Del) → IsInStep (del_footing machine).stage (del_footing machine).line
deleting (del.Single (single_del.Looking lookup)) = tt
deleting (del.Single (single_del.Next call hold bitmap hit)) = tt
deleting (del.Single (single_del.Taking call hold bitmap hit take)) = taking (del_footing (del.Single (single_del.Taking call hold bitmap hit take))).stage _ take.at (refl, refl)
deleting (del.Single (single_del.Refusing call hold bitmap hit)) = tt
deleting (del.Single (single_del.Clearing call hold bitmap hit line)) = taken (del_footing (del.Single (single_del.Clearing call hold bitmap hit line))).stage line (refl, refl)
deleting (del.Single (single_del.Finishing finish line)) = taken (finish_stage finish) line (finishing finish)
deleting (del.Merging call hold old place merge) = merging (has_place call old place) merge merge.at refl

pub calls_are_in_step : CallsAreInStep
calls_are_in_step (Getting machine) = tt
calls_are_in_step (Putting machine) = putting machine
calls_are_in_step (Deleting machine) = deleting machine
calls_are_in_step (Parting machine) = tt
