-- The forms of the command line.
use Rattle.std.specs.Prelude.{◌≡◌, ◌≢◌, ℕ, List, [], ◌∷◌, codes}
use Rattle.cat_command.specs.declared.command.Command.{Command}
use Rattle.cat_command.specs.declared.command.Command.TheVariants.{Format, Run, Play, Gen, Words}
use Rattle.cat_script.specs.Numbers.{IsNumber, IsUpTo}
use Rattle.pm_words.specs.Layouts.{IsLayout, IsCallerCount}
use Rattle.pm_words.specs.declared.layout.Layout.{Layout}

-- These words are the numbers of a layout.
pub record AreLayoutWords (nodes slots callers : List ℕ) (layout : Layout) : Type 0 where
  pub nodes_are : IsNumber nodes layout.nodes
  pub slots_are : IsNumber slots layout.slots
  pub callers_are : IsNumber callers layout.callers
  pub in_range : IsLayout layout

-- The words of this command, a case for each form: `format FILE NODES SLOTS CALLERS`, `run FILE`,
-- `play NODES SLOTS CALLERS`, `gen SEED COUNT CALLERS` and `words FILE FROM COUNT`. A file is any word that isn't
-- empty.
abbrev pub IsCommand : List (List ℕ) → Command → Type 0
IsCommand words (Format layout) = (file nodes slots callers : List ℕ) × (file ≢ []) ×
    AreLayoutWords nodes slots callers layout × (words ≡ codes "format" ∷ file ∷ nodes ∷ slots ∷ callers ∷ [])
IsCommand words Run = (file : List ℕ) × (file ≢ []) × (words ≡ codes "run" ∷ file ∷ [])
IsCommand words (Play layout) = (nodes slots callers : List ℕ) × AreLayoutWords nodes slots callers layout ×
    (words ≡ codes "play" ∷ nodes ∷ slots ∷ callers ∷ [])
IsCommand words (Gen seed count callers) = (seed_is count_is callers_are : List ℕ) × IsUpTo 2147483647 seed_is seed ×
    IsUpTo 100000 count_is count × IsNumber callers_are callers × IsCallerCount callers ×
    (words ≡ codes "gen" ∷ seed_is ∷ count_is ∷ callers_are ∷ [])
IsCommand words (Words from count) = (file from_is count_is : List ℕ) × (file ≢ []) × IsNumber from_is from ×
    IsNumber count_is count × (words ≡ codes "words" ∷ file ∷ from_is ∷ count_is ∷ [])
