-- How many leaves are below a reference, and how many more there is room for.
use Rattle.std.specs.Prelude.{◌≡◌, ℕ, ◌+◌, ◌<◌, ◌≤◌, List, length}
use Rattle.pm_words.specs.declared.layout.Layout.{Layout}
use Rattle.tree_law.specs.Trees.{way_length}
use Rattle.tree_law.specs.Words.{reference_of}
use Rattle.tree_law.specs.Leaves.{leaves}
use Rattle.image_layer_rules.specs.Faults.{image_tree}

-- they are more than there is room for, where the reference is so deep at least
abbrev pub HasMore : Layout → List ℕ → ℕ → ℕ → ℕ → Type 0
HasMore l image reference least room = (fuel : ℕ) → way_length ≤ fuel + least →
    room < length (leaves (image_tree l image) fuel (reference_of reference))

-- behind them so much room is left
abbrev pub LeavesRoom : Layout → List ℕ → ℕ → ℕ → ℕ → ℕ → Type 0
LeavesRoom l image reference least room left = (fuel : ℕ) → way_length ≤ fuel + least →
    left + length (leaves (image_tree l image) fuel (reference_of reference)) ≡ room
