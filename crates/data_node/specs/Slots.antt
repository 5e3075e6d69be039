-- The slots of a node as its bitmap and its fingerprint words tell of them.
use Rattle.std.specs.Prelude.{◌≡◌, ℕ, ◌/◌, ◌%◌, ◌<◌, List, slice_index}
use Rattle.std.specs.Int.{w64, bit_at, to_le_bytes}

-- the slot's bit is set
abbrev pub IsLive : ℕ → ℕ → Type 0
IsLive bitmap slot = bit_at bitmap slot ≡ 1

-- the slot's bit is clear
abbrev pub IsClear : ℕ → ℕ → Type 0
IsClear bitmap slot = bit_at bitmap slot ≡ 0

-- each of the first so many slots is live
abbrev pub AreAllLive : ℕ → ℕ → Type 0
AreAllLive bitmap slots = (slot : ℕ) → slot < slots → IsLive bitmap slot

-- the first slot, of so many, whose bit is clear
pub record IsLowestClear (bitmap slots slot : ℕ) : Type 0 where
  pub within : slot < slots
  pub clear : IsClear bitmap slot
  pub below : AreAllLive bitmap slot

-- the eight fingerprints that stand in one word, the lowest byte first
abbrev pub prints_of : ℕ → List ℕ
prints_of word = to_le_bytes w64 word

-- the fingerprint of a slot: eight slots share a word
abbrev pub print_of : List ℕ → ℕ → ℕ
print_of prints slot = slice_index (prints_of (slice_index prints (slot / 8))) (slot % 8)

-- the slot is one of the first so many, is live and has this fingerprint
pub record IsCandidate (bitmap : ℕ) (prints : List ℕ) (print slots slot : ℕ) : Type 0 where
  pub within : slot < slots
  pub live : IsLive bitmap slot
  pub same : print_of prints slot ≡ print
