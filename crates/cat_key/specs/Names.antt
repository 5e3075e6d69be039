-- What a name is, the order of names, the words in which a name is kept, and its fingerprint.
use Rattle.std.specs.Prelude.{◌≡◌, ℕ, zero, suc, ◌+◌, ◌*◌, ◌%◌, ◌≤◌, ◌==◌, not, List, [], ◌∷◌, length, take, drop, All}
use Rattle.std.specs.Prelude.{Some, slice_get, take_while}
use Rattle.std.specs.Int.{w64, from_be_bytes, to_be_bytes}
use Rattle.std.specs.List.{flat_map}
use Rattle.std.specs.Ordering.{nat_cmp}
use Rattle.std.specs.Cmp.Lexicographic.{slice_cmp}
use Rattle.std.specs.declared.cmp.Ordering.{Ordering}
use Rattle.cat_key.specs.declared.TheConstants.{WORDS}

-- a byte of a name: printable, and no space
abbrev pub IsNameByte : ℕ → Type 0
IsNameByte byte = (0x21 ≤ byte) × (byte ≤ 0x7E)

-- the bytes of a name: at least one, no more than its words hold, and each a byte of a name
pub record IsName (text : List ℕ) : Type 0 where
  pub some : 1 ≤ length text
  pub fits : length text ≤ 8 * WORDS
  pub bytes : All IsNameByte text

-- the byte at this place is the first that no name may have
pub record IsFirstBad (text : List ℕ) (at byte : ℕ) : Type 0 where
  pub before : All IsNameByte (take at text)
  pub here : slice_get text at ≡ Some byte
  pub bad : ¬ (IsNameByte byte)

-- the order of names: byte by byte, and a proper prefix is smaller
abbrev pub name_cmp : List ℕ → List ℕ → Ordering
name_cmp = slice_cmp nat_cmp

-- the first bytes of a text, this many, with zeros past its end
abbrev pub padded : ℕ → List ℕ → List ℕ
padded zero text = []
padded (suc count) [] = 0 ∷ padded count []
padded (suc count) (byte ∷ text) = byte ∷ padded count text

-- the word of a text's first eight bytes, big-endian, with zeros past its end
unfoldable pub word_of : List ℕ → ℕ
word_of text = from_be_bytes w64 (padded 8 text)

-- this many words of a text, eight bytes each
abbrev pub first_words : ℕ → List ℕ → List ℕ
first_words zero text = []
first_words (suc count) text = word_of text ∷ first_words count (drop 8 text)

-- the words of a name
unfoldable pub words_of : List ℕ → List ℕ
words_of text = first_words WORDS text

-- the words are those of some name
abbrev pub AreNameWords : List ℕ → Type 0
AreNameWords words = (text : List ℕ) × IsName text × (words_of text ≡ words)

-- two names compare as their words do, the first word first
abbrev pub WordsKeepOrder : Type 0
WordsKeepOrder =
    (a b : List ℕ) → IsName a → IsName b → slice_cmp nat_cmp (words_of a) (words_of b) ≡ name_cmp a b

-- two names with the same words are one name
abbrev pub WordsTellNames : Type 0
WordsTellNames = (a b : List ℕ) → IsName a → IsName b → words_of a ≡ words_of b → a ≡ b

-- the bytes of words, big-endian, zeros included
unfoldable pub all_bytes : List ℕ → List ℕ
all_bytes words = flat_map (to_be_bytes w64) words

-- a text up to its first zero
abbrev pub before_zero : List ℕ → List ℕ
before_zero text = take_while (λ byte. not (byte == 0)) text

-- the bytes of words, big-endian, up to the first zero
unfoldable pub bytes_of : List ℕ → List ℕ
bytes_of words = before_zero (all_bytes words)

-- words that are those of their own bytes, which are a name
pub record IsPacked (words : List ℕ) : Type 0 where
  pub named : IsName (bytes_of words)
  pub whole : words_of (bytes_of words) ≡ words

-- each byte of a text times its weight: an odd number, 1 at place 0 and two more at each next place
abbrev pub weighted_sum : ℕ → List ℕ → ℕ
weighted_sum at [] = 0
weighted_sum at (byte ∷ text) = (2 * at + 1) * byte + weighted_sum (at + 1) text

-- the fingerprint of a name: the weighted sum of its bytes, modulo 256
unfoldable pub fingerprint_of : List ℕ → ℕ
fingerprint_of name = weighted_sum 0 name % 256
