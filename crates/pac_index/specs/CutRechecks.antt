-- Rechecks that were cut off.
use Rattle.std.specs.Prelude.{◌≡◌, ◌⊎◌, ℕ, Some}
use Rattle.pac_index.specs.declared.caller.Caller.{Caller}
use Rattle.pac_index.specs.declared.rule.Member.{Member}
use Rattle.pac_index.specs.Callers.{seen_by}
use Rattle.pac_index.specs.Pinned.{WasPinned}
use Rattle.pac_index.specs.Rechecked.{Dates}

-- It has loaded the clock, and no more. A recheck is no call that is in flight.
abbrev pub HasLookedOnce : Member → Member → Type 0
HasLookedOnce old new = (clock : ℕ) × Dates old clock new

-- A recheck was cut off. Its caller has no step left: as the recheck began, so that nothing has changed, or behind its
-- first load.
pub record IsCutRecheck (old new : Caller) : Type 0 where
  pub spent : new.left ≡ Some 0
  pub cut : (new ≡ old) ⊎ (HasLookedOnce (seen_by old) (seen_by new) × WasPinned old new × (new.cut ≡ old.cut))
