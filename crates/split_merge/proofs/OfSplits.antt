-- Each stage that a split comes to is one of a split.
use Rattle.std.proofs.Common.{ℕ, true, false, cond, refl}
use Rattle.call_stages.specs.Stages.{Held, Holds, Eyes}
use Rattle.version_lock.specs.Versions.{is_free_word, is_worn_word}
use Rattle.pm_alloc.specs.declared.claim.ClaimAt.{ClaimAt}
use Rattle.pm_alloc.specs.declared.claim.ClaimAt.TheVariants as claim
use Rattle.pm_alloc.specs.Claims.{lock_of}
use Rattle.pm_alloc.specs.ClaimStages.{claim_at_stage}
use Rattle.split_merge.specs.declared.planning.Plan.{Plan}
use Rattle.split_merge.specs.declared.moving.MoveAt.{MoveAt}
use Rattle.split_merge.specs.declared.moving.MoveAt.TheVariants as move
use Rattle.split_merge.specs.declared.splitting.Split.{Split}
use Rattle.split_merge.specs.declared.splitting.SplitAt.{SplitAt}
use Rattle.split_merge.specs.declared.splitting.SplitAt.TheVariants as at
use Rattle.split_merge.specs.MoveStages.{move_at_stage}
use Rattle.split_merge.specs.SplitStages.{led, known_by, split_at_footing}
use Rattle.split_merge.specs.OfSplits.{StandsFor, IsOfSplit, StagesAreOfSplits}

-- with where the node leads known beside
led_stands : (next : ℕ) (h : Held) → StandsFor h (led next h)
led_stands next h = record { name = refl; limit = refl; old = refl; pending = refl; ready = refl; placed = refl }

claims_stand : (g n w : ℕ) (h k : Held) (m : ℕ) (at : ClaimAt) → StandsFor h k → IsOfSplit h (claim_at_stage g n w k m at)
claims_stand g n w h k m claim.Nowhere is = is
claims_stand g n w h k m claim.Version is = is
claims_stand g n w h k m (claim.Status version) is =
    elim (is_free_word version g) as (λ b. IsOfSplit h (cond b (cond (is_worn_word version g) (Holds n w k) (Eyes n w k m version (lock_of version g) false)) (Holds n w k))) [
      | true ↦ elim (is_worn_word version g) as (λ b. IsOfSplit h (cond b (Holds n w k) (Eyes n w k m version (lock_of version g) false))) [ true ↦ is | false ↦ is ]
      | false ↦ is
    ]
claims_stand g n w h k m (claim.Lock version locked) is = is

moves_stand : (h : Held) (plan : Plan) (at : MoveAt) → IsOfSplit h (move_at_stage plan (known_by h plan) at)
moves_stand h plan (move.Slot word) = (refl, refl)
moves_stand h plan (move.Print word) = (refl, refl)
moves_stand h plan move.Bitmap = (refl, refl)
moves_stand h plan (move.Anchor word) = (refl, refl)
moves_stand h plan move.Next = (refl, refl)
moves_stand h plan (move.FenceFresh first fence) = (refl, refl)
moves_stand h plan (move.Open machine) = (refl, refl)
moves_stand h plan move.Prev = (refl, refl)
moves_stand h plan move.Light = (refl, refl)
moves_stand h plan move.Switch = (refl, refl)
moves_stand h plan (move.FenceSwitch fence) = (refl, refl)
moves_stand h plan move.NextPrev = (refl, refl)
moves_stand h plan move.Trim = (refl, refl)
moves_stand h plan (move.FenceTrim fence) = (refl, refl)
moves_stand h plan (move.Ready ready) = (refl, refl)
moves_stand h plan move.UnlockFresh = (refl, refl)
moves_stand h plan move.Unlock = tt

splits_stand : (h : Held) (split : Split) (at : SplitAt) → IsOfSplit h (split_at_footing h split at).stage
splits_stand h split at.Next = record { name = refl; limit = refl; old = refl; pending = refl; ready = refl; placed = refl }
splits_stand h split (at.Take next take) = led_stands next h
splits_stand h split (at.Claim next line claim) = claims_stand claim.generation split.node split.word h (led next h) claim.node claim.at (led_stands next h)
splits_stand h split (at.Read share full count) = (refl, refl)
splits_stand h split (at.Move moving) = moves_stand h moving.plan moving.at
splits_stand h split (at.Refuse next why) = led_stands next h

pub stages_are_of_splits : StagesAreOfSplits
stages_are_of_splits h split = splits_stand h split split.at
