-- All steps of a party: those on nodes, and those beside them, on words of log lines, on prevs, on permutations and of
-- the search layer, which say nothing of nodes.
use Rattle.std.specs.Prelude.{◌≡◌, ℕ, ◌<◌, ◌≤◌, ◌^◌, ◌⊎◌, Option, None}
use Rattle.pm_words.specs.Offsets.{permutation_version_offset, permutation_offset}
use Rattle.pm_words.specs.declared.layout.Layout.{Layout}
use Rattle.pm_words.specs.declared.action.Action.{Action}
use Rattle.pm_words.specs.declared.action.Action.TheVariants.{Load, Store, Drain}
use Rattle.pm_words.specs.Locations.{Word, Cached, Volatile, address_of}
use Rattle.layer_map.specs.Places.{IsLayerPlace}
use Rattle.call_stages.specs.declared.once.Once.{Once}
use Rattle.call_stages.specs.declared.once.Placed.{Placed}
use Rattle.call_stages.specs.Stages.{Stage, counted}
use Rattle.call_stages.specs.Kinds.{Step, prev_address}
use Rattle.call_stages.specs.Lines.{line_address}

-- The line j of the caller c and the offset are of this layout.
abbrev pub HasLineWord : Layout → ℕ → ℕ → ℕ → Type 0
HasLineWord l c j offset = (c < l.callers) × (j < 8) × (offset < 8)

-- The offset, among a node's volatile words, of its permutation's version, or of one of its eight words.
abbrev pub IsOfPermutation : ℕ → Type 0
IsOfPermutation offset = (offset ≡ permutation_version_offset) ⊎
    ((permutation_offset 0 ≤ offset) × (offset < permutation_offset 8))

abbrev pub volatile_address : Layout → ℕ → ℕ → ℕ
volatile_address l n offset = address_of l (Volatile n offset)

-- A load or a store of a permutation.
pub data IsOnPermutation (l : Layout) : Action → Type 0 where
  loads : {n offset : ℕ} → n < l.nodes → IsOfPermutation offset → IsOnPermutation l (Load (volatile_address l n offset))
  stores : {n offset y : ℕ} → n < l.nodes → IsOfPermutation offset → y < 2 ^ 64 →
      IsOnPermutation l (Store (volatile_address l n offset) y)

-- An action on a word of a log line or of a permutation, the store of a prev, or the load of a word of the search
-- layer, which says nothing that a call could rely on.
pub data IsBeside (l : Layout) : Action → Type 0 where
  loads_line : {c j offset : ℕ} → HasLineWord l c j offset → IsBeside l (Load (line_address l c j offset))
  stores_line : {c j offset y : ℕ} → HasLineWord l c j offset → y < 2 ^ 64 →
      IsBeside l (Store (line_address l c j offset) y)
  drains_line : {c j offset y : ℕ} → HasLineWord l c j offset → y < 2 ^ 64 →
      IsBeside l (Drain (line_address l c j offset) y)
  stores_prev : {n y : ℕ} → n < l.nodes → y < 2 ^ 64 → IsBeside l (Store (prev_address l n) y)
  loads_layer : {w : Word} → IsLayerPlace l w → IsBeside l (Load (address_of l (Cached w)))
  on_permutation : {action : Action} → IsOnPermutation l action → IsBeside l action

-- A step on nodes, or one beside them of a party that isn't about to count a change. That one leaves its stage.
pub data AnyStep (l : Layout) (g : ℕ) : Stage → Action → ℕ → Stage → Option (Once Placed) → Type 0 where
  on_nodes : {s : Stage} {a : Action} {x : ℕ} {t : Stage} {r : Option (Once Placed)} → Step l g s a x t r →
      AnyStep l g s a x t r
  beside : {s : Stage} {a : Action} {x : ℕ} → counted s ≡ None → IsBeside l a → AnyStep l g s a x s None
