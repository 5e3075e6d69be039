-- The words that the calls on bitmaps and fingerprints give, as numbers.
use Rattle.std.specs.Prelude.{ℕ, zero, suc, ◌+◌, ◌-◌, ◌*◌, ◌%◌, ◌^◌, ◌==◌, ◌&&◌, nat_lt, if◌then◌else◌, List, Option}
use Rattle.std.specs.Prelude.{Some}
use Rattle.std.specs.Prelude.{None, slice_set, bit_and, bit_or}
use Rattle.std.specs.Int.{w64, bit_at, trailing_ones, trailing_zeros, from_le_bytes}
use Rattle.data_node.specs.Slots.{prints_of, print_of}

-- the bitmap in which this slot is live too
unfoldable pub with_live : ℕ → ℕ → ℕ
with_live bitmap slot = bit_or bitmap (1 * 2 ^ slot % 2 ^ 64)

-- the bitmap in which this slot is clear
unfoldable pub without_live : ℕ → ℕ → ℕ
without_live bitmap slot = bit_and bitmap (2 ^ 64 - 1 - 1 * 2 ^ slot % 2 ^ 64)

-- the lowest live slot
unfoldable pub lowest_live : ℕ → Option ℕ
lowest_live bitmap = if bitmap == 0 then None else Some (trailing_zeros w64 bitmap)

-- the lowest clear slot of the first so many
unfoldable pub lowest_clear : ℕ → ℕ → Option ℕ
lowest_clear bitmap slots = if nat_lt (trailing_ones w64 bitmap) slots then Some (trailing_ones w64 bitmap) else None

-- the word of fingerprints with a slot's fingerprint changed
unfoldable pub printed : ℕ → ℕ → ℕ → ℕ
printed word slot print = from_le_bytes w64 (slice_set (prints_of word) (slot % 8) print)

-- the candidates among the first so many slots, as bits
unfoldable pub candidate_bits : ℕ → List ℕ → ℕ → ℕ → ℕ
candidate_bits bitmap prints print zero = 0
candidate_bits bitmap prints print (suc slot) =
    if bit_at bitmap slot == 1 && print_of prints slot == print
    then with_live (candidate_bits bitmap prints print slot) slot
    else candidate_bits bitmap prints print slot

-- how many of the first so many slots are live
abbrev pub live_count : ℕ → ℕ → ℕ
live_count zero bitmap = 0
live_count (suc slot) bitmap = (if bit_at bitmap slot == 1 then 1 else 0) + live_count slot bitmap
