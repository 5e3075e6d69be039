-- What evictions do and a crash leaves, over plain data. Whoever keeps the words, in a core or in a table that threads
-- share, rests on these.
use Rattle.std.specs.Prelude.{◌≡◌, ℕ, zero, suc, ◌+◌, ◌/◌, ◌%◌, ◌^◌, ◌<◌, ◌==◌, Bool, true, false, if◌then◌else◌}
use Rattle.std.specs.Prelude.{List, Some, IfSome}
use mathlib.Core.Option.{some}
use lib.ListN.{get_elem?}
use Rattle.call_stages.specs.Stages.{placed_in}
use Rattle.node_ops.specs.declared.running.Running.{Running}
use Rattle.node_ops.specs.CallStages.{stage_of}
use Rattle.node_ops.specs.RunningSteps.{running_call}
use Rattle.index_core.specs.declared.party.PartyState.{PartyState}
use Rattle.pm_words.specs.declared.layout.Layout.{Layout}
use Rattle.pm_words.specs.Images.{Row}
use Rattle.pm_words.specs.Locations.{image_words}
use Rattle.pm_words.specs.Rows.{evicted, durable_row}
use Rattle.image_rules.specs.Rules.{header_generation}
use Rattle.index_core.specs.Crashes.{IsCrash, evicted_index}
use Rattle.index_core.specs.Indexes.{Index, IsIndex, world}
use Rattle.index_law.specs.Weights.{weight_sum}

-- The bit of the seed that is of the word.
abbrev pub seed_bit : ℕ → ℕ → ℕ
seed_bit seed word = (seed / (2 ^ ((word + word / 64) % 64))) % 2

-- Whether the seed chooses the word: seed 0 none, seed 1 each, and another seed each one that has a bit of 1.
abbrev pub is_chosen : ℕ → ℕ → Bool
is_chosen zero word = false
is_chosen (suc zero) word = true
is_chosen (suc (suc n)) word = seed_bit (suc (suc n)) word == 1

-- The row once those of the first so many image words that the seed chooses are durable, one after another.
abbrev pub evicted_by : Layout → ℕ → ℕ → List ℕ → List ℕ
evicted_by l seed zero words = words
evicted_by l seed (suc n) words =
    if is_chosen seed n then evicted l (evicted_by l seed n words) n else evicted_by l seed n words

-- The index once all of them are.
abbrev pub chosen_index : Index → ℕ → Index
chosen_index s seed = record s { words = evicted_by s.layout seed (image_words s.layout) s.words }

-- A word that becomes durable leaves an index, and so do all that a seed chooses.
abbrev pub EvictionKeeps : Type 0
EvictionKeeps = (s : Index) (word : ℕ) → IsIndex s → word < image_words s.layout → IsIndex (evicted_index s word)

abbrev pub ChosenKeep : Type 0
ChosenKeep = (s : Index) (seed : ℕ) → IsIndex s → IsIndex (chosen_index s seed)

-- and the sum of weights stays.
abbrev pub ChosenWeigh : Type 0
ChosenWeigh = (s : Index) (seed : ℕ) → weight_sum (world (chosen_index s seed)) ≡ weight_sum (world s)

-- The image that a crash leaves.
abbrev pub crash_image : Index → Row
crash_image s = record { layout = s.layout; words = durable_row s.layout s.words }

-- It is what a crash leaves of the index, in the generation of this run.
abbrev pub CrashLeaves : Type 0
CrashLeaves = (s : Index) → IsIndex s → IsCrash s (crash_image s) s.states

abbrev pub CrashKeepsGeneration : Type 0
CrashKeepsGeneration = (s : Index) → IsIndex s →
    header_generation s.layout (durable_row s.layout s.words) ≡ s.generation

-- A call in flight whose write has its place began below its limit, if it has one.
abbrev pub TimelyIn : ℕ → Running → Type 0
TimelyIn since machine = IfSome (placed_in (stage_of machine))
    (λ _. IfSome (running_call machine).limit (λ most. since < most))

abbrev pub PlacedAreTimely : Type 0
PlacedAreTimely = (s : Index) (i : ℕ) (state : PartyState) (machine : Running) → IsIndex s →
    get_elem? s.states i ≡ some state →
    state.machine ≡ Some machine → TimelyIn state.since machine
