-- What a claim answers, by the words that it was told.
use Rattle.std.specs.Prelude.{◌≡◌, ◌≢◌, ℕ, ◌<◌, ◌≤◌}
use Rattle.pm_words.specs.Codes.{free_status}
use Rattle.pm_words.specs.declared.layout.Layout.{Layout}
use Rattle.pm_words.specs.declared.again.Again.TheVariants as again
use Rattle.pm_words.specs.declared.machine.Turn.{Turn}
use Rattle.pm_words.specs.declared.machine.Turn.TheVariants.{Go, Done}
use Rattle.version_lock.specs.Versions.{IsFree, IsWorn}
use Rattle.call_stages.specs.Kinds.{Told}
use Rattle.pm_alloc.specs.declared.claim.Claimed.{Claimed}
use Rattle.pm_alloc.specs.declared.claim.Claimed.TheVariants as claimed
use Rattle.pm_alloc.specs.declared.claim.Claim.{Claim}
use Rattle.pm_alloc.specs.declared.claim.ClaimAt.{ClaimAt}
use Rattle.pm_alloc.specs.declared.claim.ClaimAt.TheVariants as step
use Rattle.pm_alloc.specs.Claims.{IsClaim, claim_from, claim_asks, claim_turned, lock_of}

-- The numbers of one claim: it loads the version word and the status of a node once at most, and makes one exchange at
-- most, which finds a word.
pub record Heard : Type 0 where
  pub version : ℕ → ℕ
  pub status : ℕ → ℕ
  pub found : ℕ

-- The node was FREE; and it wasn't worn, unless another party had it locked.
abbrev pub IsOpen : ℕ → Heard → ℕ → Type 0
IsOpen g h n = (h.status n ≡ free_status) × (IsFree (h.version n) g → IsWorn (h.version n) g → ⊥)

-- The claim passed the nodes from 1 up to this one.
abbrev pub Passed : ℕ → Heard → ℕ → Type 0
Passed g h most = (n : ℕ) → 1 ≤ n → n < most → IsOpen g h n → ⊥

-- It is the first such node.
pub record IsFirst (l : Layout) (g : ℕ) (h : Heard) (n : ℕ) : Type 0 where
  pub positive : 1 ≤ n
  pub within : n < l.nodes
  pub ready : IsOpen g h n
  pub before : Passed g h n

-- What a claim answers that was told these: the first open node, which was free, was found as it was loaded, and is
-- locked by this word; or there is none; or the first one was locked; or another word was found there.
abbrev pub Tells : Layout → ℕ → Heard → Claimed → Type 0
Tells l g h (claimed.Node n word) =
    IsFirst l g h n × IsFree (h.version n) g × (h.found ≡ h.version n) × (word ≡ lock_of (h.version n) g)
Tells l g h claimed.NoFree = Passed g h l.nodes
Tells l g h (claimed.Again (again.Locked n word)) = IsFirst l g h n × (word ≡ h.version n) ×
    (IsFree (h.version n) g → ⊥)
Tells l g h (claimed.Again (again.Moved n first second)) =
    IsFirst l g h n × IsFree (h.version n) g × (first ≡ h.version n) × (second ≡ h.found) × (h.found ≢ h.version n)
Tells l g h (claimed.Again why) = ⊥

-- The number that it is told for its next action.
abbrev pub heard_at : Heard → ℕ → ClaimAt → ℕ
heard_at h n step.Nowhere = h.version n
heard_at h n step.Version = h.version n
heard_at h n (step.Status version) = h.status n
heard_at h n (step.Lock version locked) = h.found

-- What it has loaded so far is so.
abbrev pub HasHeard : Layout → ℕ → Heard → ℕ → ClaimAt → Type 0
HasHeard l g h n step.Nowhere = l.nodes ≡ 1
HasHeard l g h n step.Version = Passed g h n
HasHeard l g h n (step.Status version) = Passed g h n × (version ≡ h.version n)
HasHeard l g h n (step.Lock version locked) = Passed g h n × (version ≡ h.version n) × (h.status n ≡ free_status)

abbrev pub Heeds : Layout → ℕ → Heard → Turn Claim Claimed → Type 0
Heeds l g h (Go claim) = IsClaim claim × (claim.layout ≡ l) × (claim.generation ≡ g) ×
    HasHeard l g h claim.node claim.at
Heeds l g h (Done answer) = Tells l g h answer

-- A claim begins with nothing heard, each turn adds what it is told, and the answer follows from that.
abbrev pub ClaimsBegin : Type 0
ClaimsBegin = (l : Layout) (g : ℕ) (h : Heard) → HasHeard l g h (claim_from l g).node (claim_from l g).at

abbrev pub ClaimsHeed : Type 0
ClaimsHeed = (claim : Claim) (h : Heard) → IsClaim claim →
    Told claim.layout claim.generation (claim_asks claim) (heard_at h claim.node claim.at) →
    HasHeard claim.layout claim.generation h claim.node claim.at →
    Heeds claim.layout claim.generation h (claim_turned claim (heard_at h claim.node claim.at))
