-- What the line of a scan's part says.
use Rattle.std.specs.Prelude.{◌≡◌, ℕ, ◌<◌, ◌^◌, List, ◌∷◌, ◌++◌, All, IfSome, codes, flat_map}
use Rattle.cat_key.specs.Names.{IsName}
use Rattle.cat_key.specs.declared.Pair.{Pair}
use Rattle.cat_history.specs.Scans.{Rise}
use Rattle.cat_history.specs.declared.record.ScanPart.{ScanPart}
use Rattle.cat_text.specs.ReportGrammar.{IsReportPair, IsReportPart}
use Rattle.cat_text.specs.ReportLines.{high_fields, place_field, pair_fields, part_fields}
use Rattle.report_reader.specs.declared.fault.LineFault.{LineFault}
use Rattle.report_reader.specs.declared.fault.LineFault.TheVariants.{Outside, NoMemory}
use Rattle.report_reader.specs.declared.part.Bounds.{Bounds}

abbrev pub SaysPart : List (List ℕ) → ScanPart → Type 0
SaysPart fields part = IsReportPart part × (fields ≡ part_fields part)

-- The fields are those of names that rise, each with its number.
abbrev pub SaysPairs : List (List ℕ) → List Pair → Type 0
SaysPairs fields pairs = All IsReportPair pairs × Rise pairs × (fields ≡ flat_map pair_fields pairs)

-- The bounds and the place of a part.
abbrev pub AreBounds : Bounds → Type 0
AreBounds bounds = IsName bounds.low × IfSome bounds.high IsName × (bounds.place < 2 ^ 64)

-- The fields of a part begin so, and these follow.
abbrev pub bounds_fields : Bounds → List (List ℕ) → List (List ℕ)
bounds_fields bounds more =
    codes "part" ∷ bounds.low ∷ (high_fields bounds.high ++ place_field bounds.place ∷ more)

abbrev pub SaysBounds : List (List ℕ) → Bounds → List (List ℕ) → Type 0
SaysBounds fields bounds more = AreBounds bounds × (fields ≡ bounds_fields bounds more)

-- This is so where the line is outside; want of memory says nothing.
abbrev pub FailsBy : Type 0 → LineFault → Type 0
FailsBy P Outside = P
FailsBy P NoMemory = Unit {0}
