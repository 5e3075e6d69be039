-- What a node's version word says: bit 0 is its lock, bits 1 to 39 count the times that it was freed,
-- and bits 40 to 63 are the generation, the run of the index that wrote it.
use Rattle.std.specs.Prelude.{◌≡◌, ℕ, ◌+◌, ◌*◌, ◌/◌, ◌%◌, ◌<◌, ◌≤◌, ◌⊎◌, ◌==◌, ◌&&◌, ◌||◌, ◌↔◌, ◌^◌, if◌then◌else◌}
use Rattle.std.specs.Prelude.{nat_lt}
use Rattle.std.specs.Prelude.{Bool, IsTrue}
use Rattle.version_lock.specs.declared.TheConstants.{GENERATION_UNIT, GENERATION_LIMIT, LAST_COUNT}

-- the generation in bits 40 to 63
abbrev pub generation_of : ℕ → ℕ
generation_of word = word / GENERATION_UNIT

-- the number of a run: it counts from 1, and fits into a version word
pub record IsGeneration (g : ℕ) : Type 0 where
  pub least : 1 ≤ g
  pub fits : g < GENERATION_LIMIT

-- the count in bits 1 to 39
abbrev pub count_of : ℕ → ℕ
count_of word = word % GENERATION_UNIT / 2

-- bit 0 is set
abbrev pub IsLocked : ℕ → Type 0
IsLocked word = word % 2 ≡ 1

-- bit 0 is clear
abbrev pub IsUnlocked : ℕ → Type 0
IsUnlocked word = word % 2 ≡ 0

-- the word of a generation and a count whose lock is not taken
abbrev pub version_word : ℕ → ℕ → ℕ
version_word generation count = generation * GENERATION_UNIT + count * 2

-- the same word with its lock taken
abbrev pub locked_word : ℕ → ℕ → ℕ
locked_word generation count = version_word generation count + 1

-- in this generation no party has the lock: one that an earlier run left taken counts for nothing
abbrev pub IsFree : ℕ → ℕ → Type 0
IsFree word generation = (generation_of word < generation) ⊎ IsUnlocked word

-- the count that a lock in this generation begins with: each generation counts from 0
abbrev pub kept_count : ℕ → ℕ → ℕ
kept_count word generation = if nat_lt (generation_of word) generation then 0 else count_of word

-- the count of this generation has come to its end, so no lock can be taken any more
abbrev pub IsWorn : ℕ → ℕ → Type 0
IsWorn word generation = (generation_of word ≡ generation) × (count_of word ≡ LAST_COUNT)

-- the same as tests
abbrev pub is_free_word : ℕ → ℕ → Bool
is_free_word word generation = nat_lt (generation_of word) generation || word % 2 == 0

abbrev pub is_worn_word : ℕ → ℕ → Bool
is_worn_word word generation = generation_of word == generation && count_of word == LAST_COUNT

-- each says what it tests
abbrev pub FreeWordsTold : Type 0
FreeWordsTold = (word generation : ℕ) → IsTrue (is_free_word word generation) ↔ IsFree word generation

abbrev pub WornWordsTold : Type 0
WornWordsTold = (word generation : ℕ) → IsTrue (is_worn_word word generation) ↔ IsWorn word generation

-- A word with which a party has a node locked, and which it can give back.
pub record IsLockWord (word : ℕ) : Type 0 where
  pub locked : IsLocked word
  pub unworn : count_of word < LAST_COUNT
  pub fits : word < 2 ^ 64
