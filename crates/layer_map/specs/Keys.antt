-- Keys of the layer: three words, which are zero or those of a name, and their number.
use Rattle.std.specs.Prelude.{◌≡◌, ℕ, ◌+◌, ◌*◌, ◌^◌, ◌<◌, nat_le, List, length, slice_index}
use Rattle.std.specs.Ordering.{nat_cmp, partial_le, as_partial_cmp}
use Rattle.std.specs.Cmp.Lexicographic.{slice_partial_cmp}
use Rattle.cat_key.specs.Names.{IsName, name_cmp, words_of}

-- the number of three words, the first word first: its order is the order of keys
abbrev pub key_of : ℕ → ℕ → ℕ → ℕ
key_of first second third = (first * 2 ^ 64 + second) * 2 ^ 64 + third

abbrev pub key_number : List ℕ → ℕ
key_number words = key_of (slice_index words 0) (slice_index words 1) (slice_index words 2)

-- three words of 64 bits
pub record IsKey (words : List ℕ) : Type 0 where
  pub whole : length words ≡ 3
  pub fits : (k : ℕ) → slice_index words k < 2 ^ 64

-- names compare as the numbers of their words
abbrev pub NumbersKeepOrder : Type 0
NumbersKeepOrder = (a b : List ℕ) → IsName a → IsName b →
    nat_cmp (key_number (words_of a)) (key_number (words_of b)) ≡ name_cmp a b

-- the zero key is below that of each name
abbrev pub ZeroIsLeast : Type 0
ZeroIsLeast = (name : List ℕ) → IsName name → 0 < key_number (words_of name)

-- keys with one number are one key
abbrev pub NumbersTellKeys : Type 0
NumbersTellKeys = (a b : List ℕ) → IsKey a → IsKey b → key_number a ≡ key_number b → (k : ℕ) → k < 3 →
    slice_index a k ≡ slice_index b k

-- keys compare word by word, the first word first, as their numbers do
abbrev pub WordsKeepOrder : Type 0
WordsKeepOrder = (low high : List ℕ) → IsKey low → IsKey high →
    partial_le (slice_partial_cmp (as_partial_cmp nat_cmp)) low high ≡ nat_le (key_number low) (key_number high)
