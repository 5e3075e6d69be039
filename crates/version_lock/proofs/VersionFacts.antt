-- What the parts of a version word say of the whole.
use Rattle.std.proofs.Common.{◌≡◌, ℕ, ◌+◌, ◌<◌, ◌≤◌, inl, inr, arith}
use Rattle.std.proofs.lemmas.Bool.{cases_lt}
use Rattle.std.proofs.lemmas.Grind.{common_steps}
use Rattle.version_lock.specs.declared.TheConstants.{LAST_COUNT}
use Rattle.version_lock.specs.Versions.{generation_of, count_of, kept_count, version_word, locked_word, IsLocked, IsFree}

pub generation_of-version_word : (generation count : ℕ) → count ≤ LAST_COUNT → generation_of (version_word generation count) ≡ generation
generation_of-version_word generation count small = omega arith

pub count_of-version_word : (generation count : ℕ) → count ≤ LAST_COUNT → count_of (version_word generation count) ≡ count
count_of-version_word generation count small = omega arith

pub generation_of-locked_word : (generation count : ℕ) → count ≤ LAST_COUNT → generation_of (locked_word generation count) ≡ generation
generation_of-locked_word generation count small = omega arith

pub count_of-locked_word : (generation count : ℕ) → count ≤ LAST_COUNT → count_of (locked_word generation count) ≡ count
count_of-locked_word generation count small = omega arith

pub IsLocked-locked_word : (generation count : ℕ) → IsLocked (locked_word generation count)
IsLocked-locked_word generation count = omega arith

-- giving back a lock moves the count on by one, and nothing else
pub freed-locked_word : (generation count : ℕ) → locked_word generation count + 1 ≡ version_word generation (count + 1)
freed-locked_word generation count = omega arith

-- a count always fits its bits
pub count_of-le : (word : ℕ) → count_of word ≤ LAST_COUNT
count_of-le word = omega arith

-- a word of an earlier generation has no say in the count
pub kept_count-earlier : (word generation : ℕ) → generation_of word < generation → kept_count word generation ≡ 0
kept_count-earlier word generation earlier = grind (arith, common_steps)

-- in its own generation a word keeps its count
pub kept_count-same : (word generation : ℕ) → generation_of word ≡ generation → kept_count word generation ≡ count_of word
kept_count-same word generation same = grind (arith, common_steps)

-- a lock raises the word
pub locked-rises : (word generation : ℕ) → generation_of word ≤ generation → IsFree word generation → word < locked_word generation (kept_count word generation)
locked-rises word generation known free =
    elim (cases_lt (generation_of word) generation) [
      | inl earlier ↦ omega (arith, kept_count-earlier word generation earlier)
      | inr same ↦ let e : generation_of word ≡ generation = omega arith in omega (arith, kept_count-same word generation e)
    ]

-- giving back a lock raises the word
pub freed-rises : (word : ℕ) → IsLocked word → word < version_word (generation_of word) (count_of word + 1)
freed-rises word locked = omega arith
