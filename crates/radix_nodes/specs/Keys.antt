-- A key by its words, and its bytes: eight to a word, the first in the highest place.
use Rattle.std.specs.Prelude.{◌≡◌, ℕ, ◌-◌, ◌*◌, ◌/◌, ◌%◌, ◌^◌, ◌<◌, ◌≤◌, ◌==◌, nat_le, nat_lt, if◌then◌else◌}
use Rattle.cat_key.specs.declared.TheConstants.{WORDS}

-- the words of a key, by number
abbrev pub KeyWords : Type 0
KeyWords = ℕ → ℕ

-- how many bytes a key has
abbrev pub key_bytes : ℕ
key_bytes = 8 * WORDS

-- a byte of a word, counted from the highest
abbrev pub word_byte : ℕ → ℕ → ℕ
word_byte word at = word / 2 ^ (56 - 8 * at) % 256

abbrev pub key_byte_of : KeyWords → ℕ → ℕ
key_byte_of key at = word_byte (key (at / 8)) (at % 8)

-- the first bytes of a word, with zeros behind them
abbrev pub first_bytes_of : ℕ → ℕ → ℕ
first_bytes_of word bytes =
    if bytes == 0 then 0 else if nat_le 8 bytes then word else word - word % 2 ^ (64 - 8 * bytes)

-- the key has zeros from this byte on
abbrev pub EndsAt : ℕ → KeyWords → Type 0
EndsAt depth key = (at : ℕ) → depth ≤ at → at < key_bytes → key_byte_of key at ≡ 0

-- the first so many bytes of a key, and zeros behind them
abbrev pub IsPrefixOf : ℕ → KeyWords → KeyWords → Type 0
IsPrefixOf depth key prefix = (at : ℕ) → at < key_bytes →
    key_byte_of prefix at ≡ (if nat_lt at depth then key_byte_of key at else 0)

-- how many first bytes two keys share: all before are the same, and the next one isn't
pub record IsShared (one other : KeyWords) (count : ℕ) : Type 0 where
  pub within : count ≤ key_bytes
  pub same : (at : ℕ) → at < count → key_byte_of one at ≡ key_byte_of other at
  pub apart : count < key_bytes → key_byte_of one count ≡ key_byte_of other count → ⊥
