-- Scans in two halves: whether their parts follow one another, and whether each lists what the map at its place has.
use Rattle.std.specs.Prelude.{◌≡◌, ℕ, ◌-◌, ◌<◌, ◌≤◌, ◌⊎◌, Bool, true, false, Option, Some, None, IfSome, List, [], ◌∷◌}
use Rattle.std.specs.Prelude.{length, take, flat_map}
use Rattle.cat_key.specs.declared.Pair.{Pair}
use Rattle.cat_history.specs.Maps.{Map}
use Rattle.cat_history.specs.Scans.{is_below, range}
use Rattle.cat_history.specs.declared.op.Op.{Op}
use Rattle.cat_history.specs.declared.op.Op.TheVariants.{Put, Get, Del, Scan}
use Rattle.cat_history.specs.declared.record.Record.{Record}
use Rattle.cat_history.specs.declared.record.Reply.{Reply}
use Rattle.cat_history.specs.declared.record.Reply.TheVariants.{Old, Parts, Full, Spent, Cut, Unstarted}
use Rattle.cat_history.specs.declared.record.ScanPart.{ScanPart}
use Rattle.transcript.specs.declared.parts.PartLook.{PartLook}

-- A part begins at this name, no sooner than at this place, and its bounds are two names in order or have no upper one.
pub record Begins (low : List ℕ) (place : ℕ) (part : ScanPart) : Type 0 where
  pub begins : part.low ≡ low
  pub bounds : IfSome part.high (λ high. is_below part.low high ≡ true)
  pub later : place ≤ part.place

-- What follows a part of a scan that has come to the name low, with so many names left: nothing, where the part has no
-- upper bound; and else more parts from there on, where it lists fewer names than are left, or nothing, where it lists
-- as many. What may come then is told by whether the scan goes on, from which name, with how many left, at which place.
abbrev pub WhatFollows : (Bool → List ℕ → ℕ → ℕ → Type 0) → List ℕ → ℕ → ℕ → ScanPart → Option (List ℕ) → Type 0
WhatFollows More low left place part None = More false low left place
WhatFollows More low left place part (Some high) =
    ((length part.pairs < left) × More true high (left - length part.pairs) part.place)
    ⊎ ((length part.pairs ≡ left) × More false low left place)

-- The parts follow one another, each from where the one before it ended, and just those of a scan that wasn't cut off
-- come to its end.
abbrev pub AreChained : Bool → Bool → List ℕ → ℕ → ℕ → List ScanPart → Type 0
AreChained cut goes low left place [] = goes ≡ cut
AreChained cut goes low left place (part ∷ parts) = (goes ≡ true) × Begins low place part
    × WhatFollows (λ goes low left place. AreChained cut goes low left place parts) low left place part part.high

-- The same of what a scan was told.
abbrev pub IsChainedScan : Op → Bool → List ScanPart → Type 0
IsChainedScan (Put name value) cut parts = Unit {0}
IsChainedScan (Get name) cut parts = Unit {0}
IsChainedScan (Del name) cut parts = Unit {0}
IsChainedScan (Scan from count) cut parts = AreChained cut true from count 0 parts

abbrev pub IsChained : Op → Reply → Type 0
IsChained op (Old old place) = Unit {0}
IsChained op (Parts parts cut) = IsChainedScan op cut parts
IsChained op Full = Unit {0}
IsChained op (Spent clock) = Unit {0}
IsChained op (Cut mark) = Unit {0}
IsChained op Unstarted = Unit {0}

-- A part of a scan that has so many names left lists the first names of its range that the map at its place has.
abbrev pub ListsFirst : (ℕ → Map) → ℕ × ScanPart → Type 0
ListsFirst map_at look =
    look.1.pairs ≡ take look.0 (range (map_at look.1.place) look.1.low look.1.high)

-- The parts of a scan, each beside how many names are left to it.
abbrev pub parts_left : ℕ → List ScanPart → List (ℕ × ScanPart)
parts_left left [] = []
parts_left left (part ∷ parts) = (left, part) ∷ parts_left (left - length part.pairs) parts

-- The parts of a scan that was told some.
abbrev pub parts_of_scan : Op → List ScanPart → List (ℕ × ScanPart)
parts_of_scan (Put name value) parts = []
parts_of_scan (Get name) parts = []
parts_of_scan (Del name) parts = []
parts_of_scan (Scan from count) parts = parts_left count parts

abbrev pub parts_of_reply : Op → Reply → List (ℕ × ScanPart)
parts_of_reply op (Old old place) = []
parts_of_reply op (Parts parts cut) = parts_of_scan op parts
parts_of_reply op Full = []
parts_of_reply op (Spent clock) = []
parts_of_reply op (Cut mark) = []
parts_of_reply op Unstarted = []

-- The parts of all scans.
abbrev pub parts_told : List Record → List (ℕ × ScanPart)
parts_told told = flat_map (λ r. parts_of_reply r.op r.reply) told

-- A look at a part: how many names are left to it, and the part.
abbrev pub seen : PartLook → ℕ × ScanPart
seen look = (look.left, look.part.now)

-- An entry of a map as a pair.
abbrev pub pair_of : List ℕ × ℕ → Pair
pair_of e = record { name = e.0; value = e.1 }
