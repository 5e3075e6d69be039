-- Which numbers make a layout.
use Rattle.std.specs.Prelude.{◌≡◌, ℕ, ◌%◌, ◌≤◌}
use Rattle.pm_words.specs.declared.layout.Layout.{Layout}

abbrev pub IsNodeCount : ℕ → Type 0
IsNodeCount n = (1 ≤ n) × (n ≤ 4096)

abbrev pub IsSlotCount : ℕ → Type 0
IsSlotCount n = (4 ≤ n) × (n ≤ 64) × (n % 2 ≡ 0)

abbrev pub IsCallerCount : ℕ → Type 0
IsCallerCount n = (1 ≤ n) × (n ≤ 16)

-- each number is in its range, as it is in every layout that `Layout::new` makes
pub record IsLayout (l : Layout) : Type 0 where
  pub nodes : IsNodeCount l.nodes
  pub slots : IsSlotCount l.slots
  pub callers : IsCallerCount l.callers
