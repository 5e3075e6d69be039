-- How an image is opened that a crash left.
use Rattle.std.specs.Prelude.{ℕ, List}
use Rattle.pm_words.specs.Images.{Row}
use Rattle.index_core.specs.declared.party.PartyState.{PartyState}
use Rattle.index_core.specs.Crashes.{IsCrash}
use Rattle.index_core.specs.Indexes.{Index}
use Rattle.image_recovery.specs.declared.recovering.OpenFault.TheVariants.{Damaged}
use Rattle.image_recovery.specs.Recovered.{IsOpenFault}

-- It breaks no rule, whatever was in flight.
abbrev pub CrashIsUndamaged : Type 0
CrashIsUndamaged = (s : Index) (image : Row) (cuts : List PartyState) (rule word : ℕ) → IsCrash s image cuts →
    ¬ IsOpenFault image (Damaged rule word)
