-- The machine that loads a permutation, step by step.
use Rattle.std.specs.Prelude.{◌≡◌, ℕ, ◌+◌, ◌-◌, ◌<◌, ◌==◌, if◌then◌else◌, List, length, replicate, slice_set}
use Rattle.std.specs.Prelude.{Option, Some, None}
use Rattle.pm_words.specs.declared.layout.Layout.{Layout}
use Rattle.pm_words.specs.declared.action.Action.{Action}
use Rattle.pm_words.specs.declared.action.Action.TheVariants.{Load}
use Rattle.pm_words.specs.declared.machine.Turn.{Turn}
use Rattle.pm_words.specs.declared.machine.Turn.TheVariants.{Go, Done}
use Rattle.pm_words.specs.Layouts.{IsLayout}
use Rattle.call_stages.specs.AnySteps.{IsOnPermutation}
use Rattle.permutation.specs.declared.load.LoadPermutation.{LoadPermutation}
use Rattle.permutation.specs.declared.load.LoadPermutationAt.{LoadPermutationAt}
use Rattle.permutation.specs.declared.load.LoadPermutationAt.TheVariants.{Version, Word}
use Rattle.permutation.specs.Sortings.{permutation_address, permutation_version_address}
use Rattle.permutation.specs.Stores.{words_first}

abbrev pub load_from : Layout → ℕ → ℕ → LoadPermutation
load_from layout node version =
    record { layout = layout; node = node; version = version; words = replicate 8 0; at = Version }

abbrev pub load_at_asks : Layout → ℕ → LoadPermutationAt → Action
load_at_asks l n Version = Load (permutation_version_address l n)
load_at_asks l n (Word number) = Load (permutation_address l n number)

abbrev pub load_asks : LoadPermutation → Action
load_asks load = load_at_asks load.layout load.node load.at

abbrev pub word_loaded : LoadPermutation → ℕ → ℕ → Turn LoadPermutation (Option (List ℕ))
word_loaded load number got =
    if number + 1 == 8 then Done (Some (slice_set load.words number got))
    else Go (record load { words = slice_set load.words number got; at = Word (number + 1) })

abbrev pub load_at_turned : LoadPermutation → LoadPermutationAt → ℕ → Turn LoadPermutation (Option (List ℕ))
load_at_turned load Version got = if got == load.version then Go (record load { at = Word 0 }) else Done None
load_at_turned load (Word number) got = word_loaded load number got

abbrev pub load_turned : LoadPermutation → ℕ → Turn LoadPermutation (Option (List ℕ))
load_turned load got = load_at_turned load load.at got

abbrev pub IsLoadAt : LoadPermutationAt → Type 0
IsLoadAt Version = Unit {0}
IsLoadAt (Word number) = number < 8

-- what its fields keep
pub record IsLoad (load : LoadPermutation) : Type 0 where
  pub layout : IsLayout load.layout
  pub node : load.node < load.layout.nodes
  pub room : length load.words ≡ 8
  pub here : IsLoadAt load.at

abbrev pub load_takes : LoadPermutation → ℕ → Type 0
load_takes load got = IsLoad load

abbrev pub load_at_left : LoadPermutationAt → ℕ
load_at_left Version = 9
load_at_left (Word number) = 8 - number

abbrev pub load_left : LoadPermutation → ℕ
load_left load = load_at_left load.at

-- What it has read of a permutation that was made at the version word: the words by their numbers.
abbrev pub load_at_read : List ℕ → LoadPermutationAt → Option (List (ℕ × ℕ))
load_at_read words Version = None
load_at_read words (Word number) = Some (words_first words number)

abbrev pub load_read : LoadPermutation → Option (List (ℕ × ℕ))
load_read load = load_at_read load.words load.at

abbrev pub answer_read : Option (List ℕ) → Option (List (ℕ × ℕ))
answer_read None = None
answer_read (Some words) = Some (words_first words 8)

abbrev pub read_after : Turn LoadPermutation (Option (List ℕ)) → Option (List (ℕ × ℕ))
read_after (Go load) = load_read load
read_after (Done answer) = answer_read answer

-- Each turn is a load of a permutation.
abbrev pub LoadsAreOnPermutations : Type 0
LoadsAreOnPermutations = (load : LoadPermutation) → IsLoad load → IsOnPermutation load.layout (load_asks load)
