-- What every turn of a claim is.
use Rattle.std.specs.Prelude.{◌≡◌, ◌≢◌, ℕ, ◌<◌, false, [], None}
use Rattle.pm_words.specs.declared.layout.Layout.{Layout}
use Rattle.pm_words.specs.declared.action.Action.{Action}
use Rattle.pm_words.specs.declared.machine.Turn.{Turn}
use Rattle.pm_words.specs.declared.machine.Turn.TheVariants.{Go, Done}
use Rattle.call_stages.specs.Stages.{Held, Stage, Holds, Splits, Filling, full_grip, fresh_grip}
use Rattle.call_stages.specs.Kinds.{IsStill, MaySplit, IsRefusal, Look, Step, Told}
use Rattle.pm_alloc.specs.declared.claim.Claimed.{Claimed}
use Rattle.pm_alloc.specs.declared.claim.Claimed.TheVariants as claimed
use Rattle.pm_alloc.specs.declared.claim.Claim.{Claim}
use Rattle.pm_alloc.specs.Claims.{IsClaim, claim_asks, claim_turned}
use Rattle.pm_alloc.specs.ClaimStages.{claim_stage}

-- The party holds a full node, in which all is durable, with no change that isn't counted, and no place.
pub record MayClaim (h : Held) : Type 0 where
  pub still : IsStill h
  pub durable : h.dirty ≡ []
  pub split : MaySplit h

-- The kind of step of a turn, and that the fields are kept: a look while it goes on, and where it claims no node; the
-- claim of a node, which it holds then and which isn't node 0.
abbrev pub Claims : Layout → ℕ → ℕ → ℕ → Held → Stage → Action → ℕ → Turn Claim Claimed → Type 0
Claims l g n w h stage action x (Go claim) =
    Look l g stage action x (claim_stage n w h claim) None × IsClaim claim × (claim.layout ≡ l) × (claim.generation ≡ g)
Claims l g n w h stage action x (Done (claimed.Node m word)) =
    Step l g stage action x (Splits (full_grip n w h) (fresh_grip m word) (Filling false)) None × (m ≢ 0) ×
    (m < l.nodes)
Claims l g n w h stage action x (Done claimed.NoFree) = Look l g stage action x (Holds n w h) None
Claims l g n w h stage action x (Done (claimed.Again why)) = Look l g stage action x (Holds n w h) None × IsRefusal why

-- Each turn of a claim, whatever it is told, is a step of the party that holds the full node.
abbrev pub ClaimsAreSteps : Type 0
ClaimsAreSteps = (claim : Claim) (n w : ℕ) (h : Held) (x : ℕ) → IsClaim claim → MayClaim h →
    Told claim.layout claim.generation (claim_asks claim) x →
    Claims claim.layout claim.generation n w h (claim_stage n w h claim) (claim_asks claim) x (claim_turned claim x)
