-- What a whole range scan is answered.
use Rattle.std.specs.Prelude.{ℕ, ◌<◌, ◌≤◌, ◌^◌, Bool, true, false, List, length, flat_map, All, IfSome}
use Rattle.cat_key.specs.Names.{IsName}
use Rattle.cat_key.specs.declared.Pair.{Pair}
use Rattle.cat_history.specs.Maps.{map_of}
use Rattle.cat_history.specs.Scans.{AreParts, IsPart, Rise}
use Rattle.cat_history.specs.Writes.{after}
use Rattle.cat_history.specs.declared.record.ScanPart.{ScanPart}
use Rattle.pac_index.specs.declared.rule.Member.{Member}
use Rattle.pac_index.specs.declared.scans.Scanned.{Scanned}
use Rattle.pac_index.specs.declared.scans.Scanned.TheVariants as scanned

-- What holds of the parts of a scan, where it is done, and where it was cut off behind these.
abbrev pub OnScan : Scanned → (List ScanPart → Type 0) → (List ScanPart → Type 0) → Type 0
OnScan (scanned.Done parts) done cut = done parts
OnScan (scanned.Cut parts) done cut = cut parts

-- The part begins at a name and ends below one, or nowhere; it lists names, each with a number. Numbers have 64 bits.
pub record IsNamed (part : ScanPart) : Type 0 where
  pub low : IsName part.low
  pub high : IfSome part.high IsName
  pub place : part.place < 2 ^ 64
  pub pairs : All (λ (pair : Pair). IsName pair.name × (pair.value < 2 ^ 64)) part.pairs

-- A part of a scan that was answered between two views, from this name on, with so many names left.
pub record IsRead (low : List ℕ) (left : ℕ) (old new : Member) (part : ScanPart) : Type 0 where
  pub part_of : IsPart (after (map_of old.about.base) new.seen) low left (length old.seen) part
  pub within : part.place ≤ length new.seen
  pub named : IsNamed part

-- The parts of a scan of so many names from this one on, each of the map at a place of its own: after as many writes of
-- the history as the caller had seen before the scan at least, and as it has seen behind it at most. No place is before
-- that of an earlier part, and the names rise through all parts. Of a scan that was cut off these are the parts that
-- were answered.
pub record AreScanned (from : List ℕ) (count : ℕ) (cut : Bool) (old new : Member) (parts : List ScanPart) : Type 0 where
  pub scan : AreParts (after (map_of old.about.base) new.seen) from count (length old.seen) cut parts
  pub within : All (λ part. part.place ≤ length new.seen) parts
  pub rise : Rise (flat_map (λ part. part.pairs) parts)
  pub named : All IsNamed parts

-- What a scan read that comes to this: all its parts where it is done, and those before it was cut off.
abbrev pub HasScanned : List ℕ → ℕ → Member → Scanned → Member → Type 0
HasScanned from count old scanned new =
    OnScan scanned (AreScanned from count false old new) (AreScanned from count true old new)
