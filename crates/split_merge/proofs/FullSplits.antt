-- A split knows that its node is full until that leads to the fresh one.
use Rattle.std.proofs.Common.{ℕ, ◌≤◌, ◌*◌, ◌+◌, true, false, cond, List, ◌∷◌}
use Rattle.version_lock.specs.Versions.{is_free_word, is_worn_word}
use Rattle.pm_words.specs.Offsets.{bitmap_offset, next_offset}
use Rattle.data_node.specs.Slots.{AreAllLive}
use Rattle.data_node.specs.Spots.{Spot}
use Rattle.call_stages.specs.Stages.{Held, Tells, Holds, Eyes}
use Rattle.pm_alloc.specs.declared.claim.ClaimAt.{ClaimAt}
use Rattle.pm_alloc.specs.declared.claim.ClaimAt.TheVariants as claim_at
use Rattle.pm_alloc.specs.Claims.{lock_of}
use Rattle.pm_alloc.specs.ClaimStages.{claim_at_stage}
use Rattle.split_merge.specs.declared.planning.Plan.{Plan}
use Rattle.split_merge.specs.declared.moving.MoveAt.{MoveAt}
use Rattle.split_merge.specs.declared.moving.MoveAt.TheVariants as move_at
use Rattle.split_merge.specs.declared.splitting.Split.{Split}
use Rattle.split_merge.specs.declared.splitting.SplitAt.{SplitAt}
use Rattle.split_merge.specs.declared.splitting.SplitAt.TheVariants as at
use Rattle.split_merge.specs.declared.uniting.Union.{Union}
use Rattle.split_merge.specs.declared.joining.JoinAt.{JoinAt}
use Rattle.split_merge.specs.declared.joining.JoinAt.TheVariants as join_at
use Rattle.split_merge.specs.declared.merging.Merge.{Merge}
use Rattle.split_merge.specs.declared.merging.MergeAt.{MergeAt}
use Rattle.split_merge.specs.declared.merging.MergeAt.TheVariants as merge_at
use Rattle.split_merge.specs.JoinStages.{join_at_stage}
use Rattle.split_merge.specs.MergeStages.{merge_at_footing}
use Rattle.split_merge.specs.MoveStages.{move_at_stage}
use Rattle.split_merge.specs.Plans.{spot_of}
use Rattle.split_merge.specs.SplitLaws.{IsSplitOfFull, SplitsAreOfFull, MergesSplitNone}
use Rattle.split_merge.specs.SplitStages.{bitmap_in, read_seen, known_by, split_at_footing}
use Rattle.split_merge.proofs.CutLaw.{told_past, full_told}

module _ (slots : ℕ) (h : Held) (some_slots : 1 ≤ slots) (full : AreAllLive (bitmap_in h.known.seen) slots) where
  -- what it has loaded of the node begins with the bitmap
  read : (words : List ℕ) (count : ℕ) (s : Spot) → Tells (read_seen words count h) s → AreAllLive (s bitmap_offset) slots
  read words count s told = (full_told h.known.seen slots some_slots full s (told_past (spot_of words) 8 count ((next_offset, spot_of words next_offset) ∷ h.known.seen) s told).1).1

  claims : (g n w : ℕ) (held : Held) (m : ℕ) (at : ClaimAt) → IsSplitOfFull slots (claim_at_stage g n w held m at)
  claims g n w held m claim_at.Nowhere = tt
  claims g n w held m claim_at.Version = tt
  claims g n w held m (claim_at.Status version) = elim (is_free_word version g) as (λ b. IsSplitOfFull slots (cond b (cond (is_worn_word version g) (Holds n w held) (Eyes n w held m version (lock_of version g) false)) (Holds n w held))) [
    | true ↦ elim (is_worn_word version g) as (λ b. IsSplitOfFull slots (cond b (Holds n w held) (Eyes n w held m version (lock_of version g) false))) [ true ↦ tt | false ↦ tt ]
    | false ↦ tt
  ]
  claims g n w held m (claim_at.Lock version locked) = tt

  moves : (plan : Plan) (at : MoveAt) → IsSplitOfFull slots (move_at_stage plan (known_by h plan) at)
  moves plan (move_at.Slot word) = read plan.full (8 + 4 * plan.layout.slots)
  moves plan (move_at.Print word) = read plan.full (8 + 4 * plan.layout.slots)
  moves plan move_at.Bitmap = read plan.full (8 + 4 * plan.layout.slots)
  moves plan (move_at.Anchor word) = read plan.full (8 + 4 * plan.layout.slots)
  moves plan move_at.Next = read plan.full (8 + 4 * plan.layout.slots)
  moves plan (move_at.FenceFresh first fence) = read plan.full (8 + 4 * plan.layout.slots)
  moves plan (move_at.Open machine) = read plan.full (8 + 4 * plan.layout.slots)
  moves plan move_at.Prev = read plan.full (8 + 4 * plan.layout.slots)
  moves plan move_at.Light = read plan.full (8 + 4 * plan.layout.slots)
  moves plan move_at.Switch = read plan.full (8 + 4 * plan.layout.slots)
  moves plan (move_at.FenceSwitch fence) = tt
  moves plan move_at.NextPrev = tt
  moves plan move_at.Trim = tt
  moves plan (move_at.FenceTrim fence) = tt
  moves plan (move_at.Ready ready) = tt
  moves plan move_at.UnlockFresh = tt
  moves plan move_at.Unlock = tt

  splits : (split : Split) (at : SplitAt) → IsSplitOfFull slots (split_at_footing h split at).stage
  splits split at.Next = tt
  splits split (at.Take next take) = tt
  splits split (at.Claim next line claim) = claims claim.generation split.node split.word _ claim.node claim.at
  splits split (at.Read share words count) = read words count
  splits split (at.Move moving) = moves moving.plan moving.at
  splits split (at.Refuse next why) = tt

pub splits_are_of_full : SplitsAreOfFull
splits_are_of_full split h some_slots full = splits split.view.layout.slots h some_slots full split split.at

joins : (slots : ℕ) (h : Held) (union : Union) (at : JoinAt) → IsSplitOfFull slots (join_at_stage h union at)
joins slots h union (join_at.Open machine) = tt
joins slots h union (join_at.Load left word) = tt
joins slots h union (join_at.Copy left word value) = tt
joins slots h union (join_at.Print word) = tt
joins slots h union (join_at.FenceCopies first fence) = tt
joins slots h union join_at.Bitmap = tt
joins slots h union (join_at.FenceBitmap fence) = tt
joins slots h union join_at.Switch = tt
joins slots h union (join_at.FenceSwitch fence) = tt
joins slots h union join_at.Retire = tt
joins slots h union join_at.Prev = tt
joins slots h union join_at.NextPrev = tt
joins slots h union (join_at.Ready ready) = tt
joins slots h union join_at.UnlockRight = tt
joins slots h union join_at.Unlock = tt

merges : (slots : ℕ) (h : Held) (merge : Merge) (at : MergeAt) → IsSplitOfFull slots (merge_at_footing h merge at).stage
merges slots h merge merge_at.Bitmap = tt
merges slots h merge (merge_at.Next own) = tt
merges slots h merge (merge_at.Version near) = tt
merges slots h merge (merge_at.Lock near version locked) = tt
merges slots h merge (merge_at.Head near locked head count) = tt
merges slots h merge (merge_at.Prints near locked head prints count) = tt
merges slots h merge (merge_at.Join join) = joins slots h join.union join.at
merges slots h merge (merge_at.Part near locked bitmap) = tt
merges slots h merge (merge_at.Leave near) = tt

pub merges_split_none : MergesSplitNone
merges_split_none slots merge h = merges slots h merge merge.at
