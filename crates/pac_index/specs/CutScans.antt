-- Range scans that were cut off, and how a scan and its parts end.
use Rattle.std.specs.Prelude.{◌≡◌, ◌⊎◌, ℕ, Bool, true, false, List, Option, Some, None, Result, Ok, Err}
use Rattle.cat_history.specs.declared.record.ScanPart.{ScanPart}
use Rattle.index_core.specs.declared.party.CoreCall.TheVariants as call
use Rattle.index_core.specs.PartyStates.{next_index}
use Rattle.pac_index.specs.declared.caller.Caller.{Caller}
use Rattle.pac_index.specs.declared.caller.CutCall.{CutCall}
use Rattle.pac_index.specs.declared.scans.Scanned.{Scanned}
use Rattle.pac_index.specs.declared.scans.Scanned.TheVariants as scanned
use Rattle.pac_index.specs.Callers.{IsAtRest}

-- If a caller tells of a call that was cut off, it is a part of its call of this index.
abbrev pub IsPartCut : Option CutCall → ℕ → Type 0
IsPartCut None index = Unit {0}
IsPartCut (Some cut) index = (low : List ℕ) × (count : ℕ) × (cut.call ≡ call.Part low count) × (cut.index ≡ index)

-- A scan was cut off. Its caller has no step left: as the scan began, so that nothing has changed, or within a part.
pub record IsCutScan (old new : Caller) : Type 0 where
  pub spent : new.left ≡ Some 0
  pub cut : (new ≡ old) ⊎ IsPartCut new.cut old.index

-- What the caller comes to whose scan was read, as far as it goes: it is at rest, or the scan was cut off.
abbrev pub PartsEnd : {E : Type 0} → Result Scanned E → Caller → Caller → Type 0
PartsEnd (Ok (scanned.Done parts)) old new = IsAtRest new
PartsEnd (Ok (scanned.Cut parts)) old new = IsCutScan old new
PartsEnd (Err error) old new = IsAtRest new

-- The same of one part.
abbrev pub PartEnds : {E : Type 0} → Result (Option ScanPart) E → Caller → Caller → Type 0
PartEnds (Ok (Some part)) old new = IsAtRest new
PartEnds (Ok None) old new = IsCutScan old new
PartEnds (Err error) old new = IsAtRest new

-- The scan counts as one call, unless it was cut off.
abbrev pub ScanEnds : {E : Type 0} → Result Scanned E → Caller → Caller → Type 0
ScanEnds (Ok (scanned.Done parts)) old new = IsAtRest new × (new.index ≡ next_index old.index)
ScanEnds (Ok (scanned.Cut parts)) old new = IsCutScan old new × (new.index ≡ old.index)
ScanEnds (Err error) old new = IsAtRest new × (new.index ≡ next_index old.index)

abbrev pub is_cut_scan : {E : Type 0} → Result Scanned E → Bool
is_cut_scan (Ok (scanned.Done parts)) = false
is_cut_scan (Ok (scanned.Cut parts)) = true
is_cut_scan (Err error) = false
