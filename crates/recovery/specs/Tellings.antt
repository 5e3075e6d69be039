-- How the volatile words of a recovered image come to tell its list.
use Rattle.std.specs.Prelude.{◌≡◌, ℕ, ◌<◌, ◌⊎◌, false, List}
use Rattle.pm_words.specs.Codes.{live_status}
use Rattle.pm_words.specs.declared.layout.Layout.{Layout}
use Rattle.pm_words.specs.declared.action.Action.TheVariants.{Store}
use Rattle.pm_words.specs.Images.{Row}
use Rattle.pm_words.specs.Locations.{Location, Volatile, HasLocation, IsVolatile, at}
use Rattle.pm_words.specs.Rows.{acted}
use Rattle.pm_words.specs.Offsets.{permutation_version_offset, prev_offset, status_offset}
use Rattle.data_node.specs.Lists.{MakeList}
use Rattle.layer_map.specs.Places.{is_of_layer}
use Rattle.call_stages.specs.Kinds.{prev_address, status_address}
use Rattle.index_law.specs.Facts.{list_in, spot_in}

-- The nodes make a list, and no volatile word tells anything yet, but for the marks of the layer.
pub record IsUntold (l : Layout) (words : List ℕ) : Type 0 where
  pub some : 0 < l.nodes
  pub makes : MakeList l.nodes (spot_in l words) (list_in l words)
  pub zero : (p : Location) → HasLocation l p → IsVolatile p → is_of_layer p ≡ false → at l words p ≡ 0

-- The status of a node, or its prev, or the version of its permutation.
abbrev pub IsNodeMark : Location → Type 0
IsNodeMark (Volatile n offset) =
    ((offset ≡ status_offset) ⊎ (offset ≡ prev_offset)) ⊎ (offset ≡ permutation_version_offset)
IsNodeMark _ = ⊥

-- No word but these has changed.
abbrev pub KeepsBeside : Layout → List ℕ → List ℕ → Type 0
KeepsBeside l words after = (p : Location) → HasLocation l p → (IsNodeMark p → ⊥) → at l after p ≡ at l words p

-- The row once a node is LIVE and has this prev.
abbrev pub told_words : Layout → List ℕ → ℕ → ℕ → List ℕ
told_words l words node prev =
    acted l (acted l words (Store (status_address l node) live_status)) (Store (prev_address l node) prev)

abbrev pub told_node : Row → ℕ → ℕ → Row
told_node row node prev = record row { words = told_words row.layout row.words node prev }

abbrev pub IsOrder : Location → Type 0
IsOrder (Volatile n offset) = offset ≡ permutation_version_offset
IsOrder _ = ⊥

-- No word but the versions of permutations has changed.
abbrev pub KeepsButOrders : Layout → List ℕ → List ℕ → Type 0
KeepsButOrders l words after = (p : Location) → HasLocation l p → (IsOrder p → ⊥) → at l after p ≡ at l words p
