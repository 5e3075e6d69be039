-- Scans: the names of a range, and what the parts of a scan list.
use Rattle.std.specs.Prelude.{◌≡◌, ℕ, ◌-◌, ◌<◌, ◌≤◌, ◌⊎◌, ◌&&◌, Bool, true, false, not, Option, Some, None, IfSome}
use Rattle.std.specs.Prelude.{List, [], ◌∷◌, ◌++◌, length, map, take, flat_map}
use Rattle.std.specs.FinMap.{entries}
use Rattle.std.specs.List.{filter}
use Rattle.std.specs.Ordering.{is_lt}
use Rattle.cat_key.specs.Names.{name_cmp}
use Rattle.cat_key.specs.declared.Pair.{Pair}
use Rattle.cat_history.specs.Maps.{Map}
use Rattle.cat_history.specs.declared.record.ScanPart.{ScanPart}

-- The first name is below the second.
abbrev pub is_below : List ℕ → List ℕ → Bool
is_below a b = is_lt (name_cmp a b)

-- The name is below the high one, or there is none.
abbrev pub is_under : Option (List ℕ) → List ℕ → Bool
is_under None name = true
is_under (Some high) name = is_below name high

-- The name is at least the low one and below the high one, if there is one.
abbrev pub is_between : List ℕ → Option (List ℕ) → List ℕ → Bool
is_between low high name = not (is_below name low) && is_under high name

-- The names that a map has there, with their numbers, in rising order of names.
abbrev pub range : Map → List ℕ → Option (List ℕ) → List Pair
range m low high =
    map (λ (e : List ℕ × ℕ). record { name = e.0; value = e.1 }) (filter (λ e. is_between low high e.0) (entries m))

-- The names rise, and the first is above this one.
abbrev pub RiseAbove : List ℕ → List Pair → Type 0
RiseAbove name [] = Unit {0}
RiseAbove name (pair ∷ pairs) = (is_below name pair.name ≡ true) × RiseAbove pair.name pairs

-- Each name but the first is above the one before it.
abbrev pub Rise : List Pair → Type 0
Rise [] = Unit {0}
Rise (pair ∷ pairs) = RiseAbove pair.name pairs

-- A part of a scan that has come to the name low, with so many names left and no part before it past this place, where
-- map_at gives the map at each place: it begins there, its bounds are two names in order or have no upper one, and it
-- lists the first names between them that the map at its place has, as many as are left.
pub record IsPart (map_at : ℕ → Map) (low : List ℕ) (left place : ℕ) (part : ScanPart) : Type 0 where
  pub begins : part.low ≡ low
  pub bounds : IfSome part.high (λ high. is_below part.low high ≡ true)
  pub later : place ≤ part.place
  pub lists : part.pairs ≡ take left (range (map_at part.place) part.low part.high)

-- It is the last one of its scan: it reaches the count, or nothing lies above it.
abbrev pub IsLastPart : ℕ → ScanPart → Type 0
IsLastPart left part = (length part.pairs ≡ left) ⊎ (part.high ≡ None)

-- The parts of a scan that has come so far, and whether it was cut off after them. Only one that was cut off ends
-- before its last part, and none goes on behind that.
pub data AreParts (map_at : ℕ → Map) : List ℕ → ℕ → ℕ → Bool → List ScanPart → Type 0 where
  cut_off : {low : List ℕ} {left place : ℕ} → AreParts map_at low left place true []
  ends : {low : List ℕ} {left place : ℕ} {part : ScanPart} → IsPart map_at low left place part → IsLastPart left part →
      AreParts map_at low left place false (part ∷ [])
  goes_on : {low : List ℕ} {left place : ℕ} {cut : Bool} {part : ScanPart} {parts : List ScanPart} (high : List ℕ) →
      IsPart map_at low left place part → length part.pairs < left → part.high ≡ Some high →
      AreParts map_at high (left - length part.pairs) part.place cut parts →
      AreParts map_at low left place cut (part ∷ parts)

-- A legal scan of so many names, from this one on.
abbrev pub IsLegalScan : (ℕ → Map) → List ℕ → ℕ → Bool → List ScanPart → Type 0
IsLegalScan map_at from count cut parts = AreParts map_at from count 0 cut parts

-- A scan that wasn't cut off, of a map that stays: its parts together list the first names from there on, as many as
-- were asked for.
abbrev pub ScanIsWhole : Type 0
ScanIsWhole = (m : Map) (from : List ℕ) (count : ℕ) (parts : List ScanPart) →
    IsLegalScan (λ _. m) from count false parts →
    flat_map (λ part. part.pairs) parts ≡ take count (range m from None)

-- The first names of a range rise,
abbrev pub RangesRise : Type 0
RangesRise = (m : Map) (low : List ℕ) (high : Option (List ℕ)) (count : ℕ) → Rise (take count (range m low high))

-- and those of a scan, through all its parts, whatever the maps at their places are.
abbrev pub ScansRise : Type 0
ScansRise = (map_at : ℕ → Map) (low : List ℕ) (left place : ℕ) (cut : Bool) (parts : List ScanPart) →
    AreParts map_at low left place cut parts → Rise (flat_map (λ part. part.pairs) parts)

-- Parts with no place before this one have none before an earlier one.
abbrev pub PartsAreLater : Type 0
PartsAreLater = (map_at : ℕ → Map) (low : List ℕ) (left sooner place : ℕ) (cut : Bool) (parts : List ScanPart) →
    sooner ≤ place → AreParts map_at low left place cut parts → AreParts map_at low left sooner cut parts

-- What is still to come of a scan from this name and place on that has these parts: nothing, or whatever are parts from
-- a name on, of which so many are left, with no place before this one.
abbrev pub GoesOn : (ℕ → Map) → List ℕ → ℕ → ℕ → Option (List ℕ) → ℕ → ℕ → List ScanPart → Type 0
GoesOn map_at from count start None left place parts = AreParts map_at from count start false parts
GoesOn map_at from count start (Some low) left place parts =
    (more : List ScanPart) → AreParts map_at low left place false more →
    AreParts map_at from count start false (parts ++ more)

-- A part more: with names left the scan goes on where it ends, and else it was the last one.
abbrev pub PartsFollow : Type 0
PartsFollow = (map_at : ℕ → Map) (from : List ℕ) (count start : ℕ) (low : List ℕ) (left place : ℕ)
    (parts : List ScanPart) (part : ScanPart) → GoesOn map_at from count start (Some low) left place parts →
    IsPart map_at low left place part →
    (length part.pairs < left → GoesOn map_at from count start part.high (left - length part.pairs) part.place
    (parts ++ part ∷ []))
    × (left ≤ length part.pairs → AreParts map_at from count start false (parts ++ part ∷ []))
