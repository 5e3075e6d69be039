-- The permutation of a node: eight words with a byte for each place, which keep its live slots in rising order of
-- names.
use Rattle.std.specs.Prelude.{◌≡◌, ℕ, zero, suc, ◌/◌, ◌%◌, ◌<◌, ◌≤◌, Bool, ◌^◌, List, [], ◌∷◌, ◌++◌, length, replicate}
use Rattle.std.specs.Prelude.{slice_index, slice_set}
use Rattle.std.specs.Ordering.{nat_cmp, is_lt, ordering_then}
use Rattle.std.specs.Cmp.Lexicographic.{slice_cmp}
use Rattle.std.specs.Int.{w64, to_le_bytes}
use Rattle.std.specs.List.Sorted.{IsPermutation, IsSortedBy}
use Rattle.pm_words.specs.Offsets.{bitmap_offset}
use Rattle.data_node.specs.Bits.{printed}
use Rattle.data_node.specs.Orders.{live_slots, words_in, comes_before}
use Rattle.data_node.specs.Spots.{Spot, IsLiveIn, name_words}

-- The slot at a place, by the words of the permutation: eight places share a word, the lowest byte first.
abbrev pub slot_at : (ℕ → ℕ) → ℕ → ℕ
slot_at words place = slice_index (to_le_bytes w64 (words (place / 8))) (place % 8)

-- The slots at the first so many places.
abbrev pub first_slots : (ℕ → ℕ) → ℕ → List ℕ
first_slots words zero = []
first_slots words (suc place) = first_slots words place ++ (slot_at words place ∷ [])

-- The words of a permutation that has these slots at its first so many places, a byte each, and zeros behind them,
unfoldable pub words_to : List ℕ → ℕ → List ℕ
words_to slots zero = replicate 8 0
words_to slots (suc place) =
    slice_set (words_to slots place) (place / 8)
    (printed (slice_index (words_to slots place) (place / 8)) place (slice_index slots place))

-- and of one that has all of them.
abbrev pub permutation_words : List ℕ → List ℕ
permutation_words slots = words_to slots (length slots)

-- These are eight words, and they have the slots at their first places.
pub record AreWordsOf (slots words : List ℕ) : Type 0 where
  pub room : length words ≡ 8
  pub fit : (k : ℕ) → k < 8 → slice_index words k < 2 ^ 64
  pub first : first_slots (slice_index words) (length slots) ≡ slots

abbrev pub WordsHaveSlots : Type 0
WordsHaveSlots = (slots : List ℕ) → length slots ≤ 64 → ((k : ℕ) → k < length slots → slice_index slots k < 256) →
    AreWordsOf slots (permutation_words slots)

-- One slot of a node comes before another: by the words of its name, as names compare; and where they have one name, by
-- its number.
abbrev pub comes_first : Spot → ℕ → ℕ → Bool
comes_first s slot other =
    is_lt (ordering_then (slice_cmp nat_cmp (name_words s slot) (name_words s other)) (nat_cmp slot other))

-- The live slots of a node, and what its permutation has at as many places.
abbrev pub live_in : ℕ → Spot → List ℕ
live_in slots s = live_slots (s bitmap_offset) slots

abbrev pub placed_in : ℕ → (ℕ → ℕ) → Spot → List ℕ
placed_in slots words s = first_slots words (length (live_in slots s))

-- The words are a node's permutation: at its first places stand its live slots, each once, in rising order of names.
pub record IsPermutationOf (slots : ℕ) (words : ℕ → ℕ) (s : Spot) : Type 0 where
  pub live : IsPermutation (live_in slots s) (placed_in slots words s)
  pub rising : IsSortedBy (comes_first s) (placed_in slots words s)

-- Each entry has the words of a live slot of the node, those of its name first.
abbrev pub HasEntries : ℕ → List (List ℕ) → Spot → Type 0
HasEntries slots entries s = (slot : ℕ) → slot < slots → IsLiveIn s slot → words_in entries slot ≡ name_words s slot

-- A sorted order of the live slots, as a sort of such entries gives it, is a permutation of the node,
abbrev pub OrdersArePermutations : Type 0
OrdersArePermutations = (slots : ℕ) (entries : List (List ℕ)) (words : ℕ → ℕ) (s : Spot) (order : List ℕ) →
    slots ≤ 64 → HasEntries slots entries s → IsPermutation (live_in slots s) order →
    IsSortedBy (comes_before entries) order →
    first_slots words (length order) ≡ order → IsPermutationOf slots words s

-- and a permutation of the node has such an order at its first places.
pub record IsSortedOrder (bitmap slots : ℕ) (entries : List (List ℕ)) (order : List ℕ) : Type 0 where
  pub live : IsPermutation (live_slots bitmap slots) order
  pub rising : IsSortedBy (comes_before entries) order

abbrev pub PermutationsAreOrders : Type 0
PermutationsAreOrders = (slots : ℕ) (entries : List (List ℕ)) (words : ℕ → ℕ) (s : Spot) → slots ≤ 64 →
    HasEntries slots entries s → IsPermutationOf slots words s →
    IsSortedOrder (s bitmap_offset) slots entries (placed_in slots words s)
