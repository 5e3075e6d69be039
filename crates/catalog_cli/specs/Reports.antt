-- What a script plays, and what is reported of it: from what its rounds begin, how they go on, and where they end.
use Rattle.std.specs.Prelude.{◌≡◌, ℕ, ◌/◌, ◌<◌, ◌⊎◌, List, [], ◌∷◌, All, length, true}
use Rattle.std.specs.FinMap.{empty, len}
use Rattle.cat_history.specs.Maps.{Map}
use Rattle.cat_script.specs.Fits.{FitsCallers, IsUnfitBy}
use Rattle.cat_script.specs.Scripts.{IsScript, IsFirstFault}
use Rattle.cat_script.specs.declared.fault.ScriptFault.{ScriptFault}
use Rattle.cat_script.specs.declared.fault.ScriptFault.TheVariants.{Bytes}
use Rattle.cat_script.specs.declared.fault.TheConstants.{MOST_BYTES}
use Rattle.cat_script.specs.declared.script.Script.{Script}
use Rattle.cat_text.specs.ReportGrammar.{IsReportText}
use Rattle.cat_text.specs.declared.report.RoundReport.{RoundReport}
use Rattle.pm_words.specs.Images.{Row}
use Rattle.pm_words.specs.declared.layout.Layout.{Layout}
use Rattle.image_rules.specs.Sound.{image_map}
use Rattle.image_rules.specs.Weights.{image_weight}
use Rattle.shapes.specs.Anchors.{Anchors}
use Rattle.index_law.specs.Anchors.{image_anchors}
use Rattle.crowd_rounds.specs.core_rounds.specs.CrashWork.{CrashRoundsWork}
use Rattle.crowd_rounds.specs.core_rounds.specs.Rounds.{ArePlayed}
use Rattle.catalog_cli.specs.declared.status.Status.{Status}
use Rattle.catalog_cli.specs.declared.status.Status.TheVariants as status

-- ---- scripts

-- The bytes are this script, and it fits so many callers.
pub record IsAccepted (callers : ℕ) (bytes : List ℕ) (script : Script) : Type 0 where
  pub is_script : IsScript bytes script
  pub fits : All (FitsCallers callers) script.lines

-- The bytes are a script that doesn't fit so many callers, for this fault.
abbrev pub IsUnfitScript : ℕ → List ℕ → ScriptFault → Type 0
IsUnfitScript callers bytes fault = (script : Script) × IsScript bytes script × IsUnfitBy callers script.lines fault

-- The bytes are too many, or no script with this first fault, or a script that doesn't fit for this fault.
abbrev pub HasFault : ℕ → List ℕ → ScriptFault → Type 0
HasFault callers bytes fault =
    ((fault ≡ Bytes) × (MOST_BYTES < length bytes)) ⊎ IsFirstFault bytes fault ⊎ IsUnfitScript callers bytes fault

-- The bytes are refused so, for their fault.
abbrev pub IsRefusedBy : ℕ → List ℕ → Status → Type 0
IsRefusedBy callers bytes status.Done = ⊥
IsRefusedBy callers bytes status.Usage = ⊥
IsRefusedBy callers bytes (status.Script fault) = HasFault callers bytes fault
IsRefusedBy callers bytes status.Read = ⊥
IsRefusedBy callers bytes status.Write = ⊥
IsRefusedBy callers bytes status.Shelf = ⊥
IsRefusedBy callers bytes status.NoMemory = ⊥
IsRefusedBy callers bytes (status.Image refusal) = ⊥

-- ---- reports

-- What the rounds of a script begin from: a catalogue of this layout, with this map in this shape; what that weighs,
-- and how many names the map has.
pub record Opening : Type 0 where
  pub layout : Layout
  pub map : Map
  pub anchors : Anchors
  pub weighs : ℕ
  pub names : ℕ

-- An empty catalogue: its one member has no names, and weighs half as many as a node has slots.
abbrev pub empty_opening : Layout → Opening
empty_opening layout = record {
  layout = layout;
  map = empty;
  anchors = [] ∷ [];
  weighs = layout.slots / 2;
  names = 0;
}

-- The catalogue that an image keeps.
abbrev pub image_opening : Row → Opening
image_opening image = record {
  layout = image.layout;
  map = image_map image.layout image.words;
  anchors = image_anchors image.layout image.words;
  weighs = image_weight image.layout image.words;
  names = len (image_map image.layout image.words);
}

-- The text is that of a report of legal rounds that the bytes, read as a script, ask for, from this opening, of one
-- caller each or of several, joined or ended by a crash. Each full answer is paid for by its weight and its names and
-- the puts since then. In rounds that a crash ends, before which the index was just opened, calls are answered in time.
-- The rounds leave this map in this shape. The report is one of the grammar, so that its text tells it alone.
pub record IsReportOf (opening : Opening) (bytes text : List ℕ) : Type 0 where
  pub script : Script
  pub reports : List RoundReport
  pub end : Map
  pub shape : Anchors
  pub accepted : IsAccepted opening.layout.callers bytes script
  pub played : ArePlayed opening.layout.slots opening.layout.nodes opening.weighs opening.names opening.map
      opening.anchors script.rounds reports end shape
  pub works : CrashRoundsWork opening.layout.slots opening.layout.nodes opening.weighs true (length opening.anchors)
      script.rounds reports
  pub told : IsReportText text reports
