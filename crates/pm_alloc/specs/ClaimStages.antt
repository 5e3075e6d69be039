-- What a claim relies on, which a party makes that holds a full node.
use Rattle.std.specs.Prelude.{ℕ, true, false, if◌then◌else◌}
use Rattle.call_stages.specs.Stages.{Held, Stage, Holds, Eyes}
use Rattle.version_lock.specs.Versions.{is_free_word, is_worn_word}
use Rattle.pm_alloc.specs.declared.claim.Claim.{Claim}
use Rattle.pm_alloc.specs.declared.claim.ClaimAt.{ClaimAt}
use Rattle.pm_alloc.specs.declared.claim.ClaimAt.TheVariants as at
use Rattle.pm_alloc.specs.Claims.{lock_of}

-- of node m it saw this version word, which it may lock, or not
abbrev pub eyes_stage : ℕ → ℕ → ℕ → Held → ℕ → ℕ → Stage
eyes_stage g n w h m version =
    if is_free_word version g then (if is_worn_word version g then Holds n w h else Eyes n w h m version
    (lock_of version g) false)
    else Holds n w h

abbrev pub claim_at_stage : ℕ → ℕ → ℕ → Held → ℕ → ClaimAt → Stage
claim_at_stage g n w h m at.Nowhere = Holds n w h
claim_at_stage g n w h m at.Version = Holds n w h
claim_at_stage g n w h m (at.Status version) = eyes_stage g n w h m version
claim_at_stage g n w h m (at.Lock version locked) = Eyes n w h m version locked true

-- the stage of a party that holds node n, whose version word is w
abbrev pub claim_stage : ℕ → ℕ → Held → Claim → Stage
claim_stage n w h claim = claim_at_stage claim.generation n w h claim.node claim.at
