-- The machine that stores a permutation, step by step.
use Rattle.std.specs.Prelude.{◌≡◌, ℕ, zero, suc, ◌+◌, ◌-◌, ◌<◌, ◌≤◌, ◌^◌, nat_lt, if◌then◌else◌, List, [], ◌∷◌}
use Rattle.std.specs.Prelude.{slice_index}
use Rattle.pm_words.specs.declared.layout.Layout.{Layout}
use Rattle.pm_words.specs.declared.action.Action.{Action}
use Rattle.pm_words.specs.declared.action.Action.TheVariants.{Store}
use Rattle.pm_words.specs.declared.machine.Turn.{Turn}
use Rattle.pm_words.specs.declared.machine.Turn.TheVariants.{Go, Done}
use Rattle.pm_words.specs.Layouts.{IsLayout}
use Rattle.version_lock.specs.Versions.{IsLockWord}
use Rattle.data_node.specs.Spots.{Spot, IsTidy}
use Rattle.call_stages.specs.Stages.{Knows, Held, Holds}
use Rattle.permutation.specs.declared.store.StorePermutation.{StorePermutation}
use Rattle.permutation.specs.Permutations.{IsPermutationOf}
use Rattle.permutation.specs.Sortings.{Sorting, Unsorted, Storing, Stored, Sorts, permutation_address}
use Rattle.permutation.specs.Sortings.{permutation_version_address}

abbrev pub store_from : Layout → ℕ → ℕ → List ℕ → StorePermutation
store_from layout node locked words =
    record { layout = layout; node = node; locked = locked; words = words; stored = 0 }

abbrev pub store_asks : StorePermutation → Action
store_asks store =
    if nat_lt store.stored 8
    then Store (permutation_address store.layout store.node store.stored) (slice_index store.words store.stored)
    else Store (permutation_version_address store.layout store.node) (store.locked + 1)

abbrev pub store_turned : StorePermutation → ℕ → Turn StorePermutation (Unit {0})
store_turned store got = if nat_lt store.stored 8 then Go (record store { stored = store.stored + 1 }) else Done tt

-- what its fields keep
pub record IsStore (store : StorePermutation) : Type 0 where
  pub layout : IsLayout store.layout
  pub node : store.node < store.layout.nodes
  pub lock : IsLockWord store.locked
  pub few : store.stored ≤ 8

abbrev pub store_takes : StorePermutation → ℕ → Type 0
store_takes store got = IsStore store

abbrev pub store_left : StorePermutation → ℕ
store_left store = 9 - store.stored

-- the first so many words, by their numbers
abbrev pub words_first : List ℕ → ℕ → List (ℕ × ℕ)
words_first words zero = []
words_first words (suc k) = (k, slice_index words k) ∷ words_first words k

-- What its party has of the permutation: the words that it has stored, and at the end all.
abbrev pub sorting_at : ℕ → ℕ → List ℕ → ℕ → Sorting
sorting_at node locked words zero = Unsorted
sorting_at node locked words (suc k) = Storing node locked (words_first words (suc k))

abbrev pub sorting_of : StorePermutation → Sorting
sorting_of store = sorting_at store.node store.locked store.words store.stored

abbrev pub sorting_after : StorePermutation → Turn StorePermutation (Unit {0}) → Sorting
sorting_after store (Go next) = sorting_of next
sorting_after store (Done answer) = Stored store.node store.locked

-- By what is known of the node these words are its permutation.
pub record TellsOrder (slots : ℕ) (h : Held) (words : List ℕ) : Type 0 where
  pub fits : (k : ℕ) → k < 8 → slice_index words k < 2 ^ 64
  pub order : (s : Spot) → IsTidy slots s → Knows h.name h.known s → IsPermutationOf slots (λ k. slice_index words k) s

-- It begins with none stored. Then each turn, whatever it is told, is a store of a permutation by who holds the node.
abbrev pub StoresBegin : Type 0
StoresBegin = (l : Layout) (node locked : ℕ) (words : List ℕ) → sorting_of (store_from l node locked words) ≡ Unsorted

abbrev pub StoresAreSorts : Type 0
StoresAreSorts = (store : StorePermutation) (h : Held) (x : ℕ) → IsStore store →
    TellsOrder store.layout.slots h store.words →
    Sorts store.layout (Holds store.node store.locked h) (sorting_of store) (store_asks store)
    (sorting_after store (store_turned store x))
