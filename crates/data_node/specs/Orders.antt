-- The live slots of a node in the order of their names.
use Rattle.std.specs.Prelude.{ℕ, zero, suc, ◌==◌, Bool, if◌then◌else◌, List, [], ◌∷◌, ◌++◌, take, slice_index}
use Rattle.std.specs.Prelude.{slice_index_or}
use Rattle.std.specs.Ordering.{nat_cmp, is_lt, ordering_then}
use Rattle.std.specs.Cmp.Lexicographic.{slice_cmp}
use Rattle.std.specs.Int.{bit_at}
use Rattle.data_node.specs.declared.order.Order.{Order}

-- The live ones of the first so many slots, in rising order.
abbrev pub live_slots : ℕ → ℕ → List ℕ
live_slots bitmap zero = []
live_slots bitmap (suc slot) =
    if bit_at bitmap slot == 1 then live_slots bitmap slot ++ (slot ∷ []) else live_slots bitmap slot

-- The slots of an order.
abbrev pub listed : Order → List ℕ
listed order = take order.len order.slots

-- The words of the name in a slot, where each entry has the words of a slot.
abbrev pub words_in : List (List ℕ) → ℕ → List ℕ
words_in entries slot =
    slice_index (slice_index_or entries slot []) 0 ∷ slice_index (slice_index_or entries slot []) 1 ∷ slice_index
    (slice_index_or entries slot []) 2 ∷ []

-- One slot comes before another: by the words of its name, the first word first, as names compare; and where they have
-- one name, by its number.
abbrev pub comes_before : List (List ℕ) → ℕ → ℕ → Bool
comes_before entries slot other =
    is_lt (ordering_then (slice_cmp nat_cmp (words_in entries slot) (words_in entries other)) (nat_cmp slot other))
