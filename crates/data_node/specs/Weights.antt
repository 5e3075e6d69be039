-- How many names a node has, and what it weighs among the nodes of an index.
use Rattle.std.specs.Prelude.{ℕ, zero, suc, ◌+◌, ◌-◌, ◌/◌, ◌==◌, ◌&&◌, Bool, if◌then◌else◌, List, [], ◌∷◌}
use Rattle.std.specs.Int.{bit_at}
use Rattle.cat_key.specs.Names.{bytes_of}
use Rattle.pm_words.specs.Offsets.{bitmap_offset}
use Rattle.data_node.specs.Spots.{Spot, name_words}
use Rattle.data_node.specs.Lists.{ListNode, range_in}

-- The slot is live, and its name is in the range.
abbrev pub has_name_in : (List ℕ → Bool) → Spot → ℕ → Bool
has_name_in range s slot = bit_at (s bitmap_offset) slot == 1 && range (bytes_of (name_words s slot))

-- How many of the first so many slots are live with a name in the range.
abbrev pub names_in : ℕ → (List ℕ → Bool) → Spot → ℕ
names_in zero range s = 0
names_in (suc slot) range s = (if has_name_in range s slot then 1 else 0) + names_in slot range s

-- What a listed node weighs: half its slots, and each of its names above that many.
abbrev pub node_weight : ℕ → (List ℕ → Bool) → Spot → ℕ
node_weight slots range s = slots / 2 + (names_in slots range s - slots / 2)

-- The sum of a number for each node of a list: this one, and those behind it.
abbrev pub total : (ℕ → ℕ) → ℕ → List ListNode → ℕ
total weigh here [] = weigh here
total weigh here (m ∷ behind) = weigh here + total weigh m.node behind

-- What the nodes of a list weigh together, each by its names in its range.
abbrev pub list_weight : ℕ → (ℕ → Spot) → List ListNode → ℕ
list_weight slots now list = total (λ n. node_weight slots (range_in list n) (now n)) 0 list
