-- A round of one caller that stopped, as it was run.
use Rattle.std.specs.Prelude.{◌≡◌, ℕ, Bool, List, All, map}
use Rattle.cat_history.specs.Scans.{AreParts}
use Rattle.cat_history.specs.Writes.{after_all}
use Rattle.cat_history.specs.Records.{call_of, numbered}
use Rattle.cat_history.specs.LoneRounds.{writes_of}
use Rattle.cat_history.specs.CrashRounds.{changes_cut}
use Rattle.cat_history.specs.declared.op.CallerOp.{CallerOp}
use Rattle.cat_history.specs.declared.record.Record.{Record}
use Rattle.cat_history.specs.declared.record.ScanPart.{ScanPart}
use Rattle.shapes.specs.Anchors.{next_of}
use Rattle.shapes.specs.Runs.{opening, IsFullInTime}
use Rattle.shapes.specs.ShapeRounds.{IsBoundedByShape}
use Rattle.stopped_rounds.specs.Bounded.{MapState}
use Rattle.stopped_rounds.specs.LoneStops.{IsLoneStop, IsWithin}
use Rattle.stopped_rounds.specs.MoreCuts.{AreAmong}

-- The calls of the round came so far, within this budget: those that were answered by the map and its shape as the
-- earlier ones left them. The map is as all placed writes leave it, and of what was cut off without a place the records
-- tell.
pub record HasStopped (slots most limit budget : ℕ) (s : MapState) (asked : List CallerOp) (records : List Record)
    (new : MapState) : Type 0 where
  pub stop : IsLoneStop limit s.contents records
  pub full : IsFullInTime slots most limit (opening s.contents s.anchors) stop.done
  pub bounds : IsBoundedByShape slots s.contents s.anchors stop.done
  pub in_script_order : map call_of records ≡ numbered asked
  pub within : IsWithin budget records
  pub leaves : new.contents ≡ after_all s.contents (writes_of records)
  pub cut : AreAmong new.cut (changes_cut records)

-- The parts of a scan, as far as it came: whether it was cut off behind them, and each at this place, ending with a
-- member.
pub record IsScanSoFar (s : MapState) (from : List ℕ) (count place : ℕ) (cut : Bool) (parts : List ScanPart) : Type 0
  where
    pub legal : AreParts (λ _. s.contents) from count 0 cut parts
    pub at_once : All (λ part. part.place ≡ place) parts
    pub ends : All (λ part. part.high ≡ next_of s.anchors part.low) parts
