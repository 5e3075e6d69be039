-- The claim of a free node, step by step.
use Rattle.std.specs.Prelude.{◌≡◌, ◌≢◌, ℕ, ◌+◌, ◌-◌, ◌*◌, ◌<◌, ◌≤◌, ◌==◌, nat_lt, if◌then◌else◌}
use Rattle.pm_words.specs.Codes.{free_status}
use Rattle.pm_words.specs.declared.layout.Layout.{Layout}
use Rattle.pm_words.specs.declared.action.Action.{Action}
use Rattle.pm_words.specs.declared.action.Action.TheVariants.{Load, Exchange}
use Rattle.pm_words.specs.declared.again.Again.TheVariants.{Locked, Moved}
use Rattle.pm_words.specs.declared.machine.Turn.{Turn}
use Rattle.pm_words.specs.declared.machine.Turn.TheVariants.{Go, Done}
use Rattle.pm_words.specs.Layouts.{IsLayout}
use Rattle.version_lock.specs.declared.TheConstants.{GENERATION_LIMIT}
use Rattle.version_lock.specs.Versions.{generation_of, kept_count, locked_word, IsFree, IsWorn, is_free_word}
use Rattle.version_lock.specs.Versions.{is_worn_word}
use Rattle.call_stages.specs.Kinds.{version_address, status_address, Told}
use Rattle.pm_alloc.specs.declared.claim.Claimed.{Claimed}
use Rattle.pm_alloc.specs.declared.claim.Claimed.TheVariants as claimed
use Rattle.pm_alloc.specs.declared.claim.Claim.{Claim}
use Rattle.pm_alloc.specs.declared.claim.ClaimAt.{ClaimAt}
use Rattle.pm_alloc.specs.declared.claim.ClaimAt.TheVariants as at

abbrev pub claim_from : Layout → ℕ → Claim
claim_from layout generation =
    if layout.nodes == 1 then record { layout = layout; generation = generation; node = 0; at = at.Nowhere }
    else record { layout = layout; generation = generation; node = 1; at = at.Version }

abbrev pub claim_at_asks : Layout → ℕ → ClaimAt → Action
claim_at_asks l n at.Nowhere = Load (version_address l n)
claim_at_asks l n at.Version = Load (version_address l n)
claim_at_asks l n (at.Status version) = Load (status_address l n)
claim_at_asks l n (at.Lock version locked) = Exchange (version_address l n) version locked

abbrev pub claim_asks : Claim → Action
claim_asks claim = claim_at_asks claim.layout claim.node claim.at

-- it goes on there
abbrev pub goes_to : Claim → ClaimAt → Turn Claim Claimed
goes_to claim at = Go (record claim { at = at })

-- it goes on at the next node, if there is one
abbrev pub passes : Claim → Turn Claim Claimed
passes claim =
    if nat_lt (claim.node + 1) claim.layout.nodes then Go (record claim { node = claim.node + 1; at = at.Version })
    else Done claimed.NoFree

-- the word that locks a node in this generation
abbrev pub lock_of : ℕ → ℕ → ℕ
lock_of version generation = locked_word generation (kept_count version generation)

-- the node is FREE
abbrev pub saw_free : Claim → ℕ → Turn Claim Claimed
saw_free claim version =
    if is_free_word version claim.generation
    then (if is_worn_word version claim.generation then passes claim else goes_to claim
    (at.Lock version (lock_of version claim.generation)))
    else Done (claimed.Again (Locked claim.node version))

abbrev pub saw_status : Claim → ℕ → ℕ → Turn Claim Claimed
saw_status claim version status = if status == free_status then saw_free claim version else passes claim

abbrev pub found : Claim → ℕ → ℕ → ℕ → Turn Claim Claimed
found claim version locked word =
    if word == version then Done (claimed.Node claim.node locked) else Done
    (claimed.Again (Moved claim.node version word))

abbrev pub claim_at_turned : Claim → ClaimAt → ℕ → Turn Claim Claimed
claim_at_turned claim at.Nowhere got = Done claimed.NoFree
claim_at_turned claim at.Version got = goes_to claim (at.Status got)
claim_at_turned claim (at.Status version) got = saw_status claim version got
claim_at_turned claim (at.Lock version locked) got = found claim version locked got

abbrev pub claim_turned : Claim → ℕ → Turn Claim Claimed
claim_turned claim got = claim_at_turned claim claim.at got

-- the version word can be locked, and this word locks it
pub record Locks (g version locked : ℕ) : Type 0 where
  pub known : generation_of version ≤ g
  pub free : IsFree version g
  pub unworn : IsWorn version g → ⊥
  pub lock : locked ≡ lock_of version g

abbrev pub IsClaimAt : ℕ → ℕ → ClaimAt → Type 0
IsClaimAt g n at.Nowhere = Unit {0}
IsClaimAt g n at.Version = n ≢ 0
IsClaimAt g n (at.Status version) = (n ≢ 0) × (generation_of version ≤ g)
IsClaimAt g n (at.Lock version locked) = (n ≢ 0) × Locks g version locked

-- what its fields keep
pub record IsClaim (claim : Claim) : Type 0 where
  pub layout : IsLayout claim.layout
  pub generation : claim.generation < GENERATION_LIMIT
  pub node : claim.node < claim.layout.nodes
  pub here : IsClaimAt claim.generation claim.node claim.at

-- a claim goes on as one of this layout and generation
abbrev pub StaysClaim : Layout → ℕ → Turn Claim Claimed → Type 0
StaysClaim l g (Go claim) = IsClaim claim × (claim.layout ≡ l) × (claim.generation ≡ g)
StaysClaim l g (Done answer) = Unit {0}

abbrev pub claim_takes : Claim → ℕ → Type 0
claim_takes claim got = IsClaim claim × Told claim.layout claim.generation (claim_asks claim) got

-- how many actions it makes at a node at most from here on
abbrev pub claim_at_left : ClaimAt → ℕ
claim_at_left at.Nowhere = 1
claim_at_left at.Version = 3
claim_at_left (at.Status version) = 2
claim_at_left (at.Lock version locked) = 1

abbrev pub claim_left : Claim → ℕ
claim_left claim = 3 * (claim.layout.nodes - (claim.node + 1)) + claim_at_left claim.at

abbrev pub turn_left : Turn Claim Claimed → ℕ
turn_left (Go claim) = 1 + (3 * (claim.layout.nodes - (claim.node + 1)) + claim_at_left claim.at)
turn_left (Done answer) = 0
