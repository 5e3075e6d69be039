-- The words of a key, and the name that they keep.
use Rattle.std.specs.Prelude.{◌≡◌, ◌↔◌, ℕ, ◌*◌, ◌==◌, ◌&&◌, Bool, true, nat_le, if◌then◌else◌, List, [], ◌∷◌, length}
use Rattle.std.specs.Prelude.{Option, Some, None, IsSome, IfSome, slice_index}
use Rattle.cat_key.specs.declared.TheConstants.{WORDS}
use Rattle.cat_key.specs.Names.{IsName, AreNameWords, words_of, bytes_of}

-- The three words of a key, one by one.
abbrev pub key_words : List ℕ → List ℕ
key_words words = slice_index words 0 ∷ slice_index words 1 ∷ slice_index words 2 ∷ []

-- This is the name whose words these are, and there is none exactly where they are no name's.
pub record IsNameOf (words : List ℕ) (name : Option (List ℕ)) : Type 0 where
  pub some : IsSome name ↔ AreNameWords words
  pub named : IfSome name IsName
  pub whole : IfSome name (λ text. words_of text ≡ words)

-- Whether a text is a name: 1 to 24 bytes, each printable and no space.
abbrev pub are_name_bytes : List ℕ → Bool
are_name_bytes [] = true
are_name_bytes (byte ∷ text) = (nat_le 0x21 byte && nat_le byte 0x7E) && are_name_bytes text

abbrev pub is_name : List ℕ → Bool
is_name text = nat_le 1 (length text) && (nat_le (length text) (8 * WORDS) && are_name_bytes text)

-- Whether these are the words of the text.
abbrev pub keeps : List ℕ → List ℕ → Bool
keeps words text = slice_index (words_of text) 0 == slice_index words 0 &&
    (slice_index (words_of text) 1 == slice_index words 1 && slice_index (words_of text) 2 == slice_index words 2)

-- The name whose words these are, if they are some name's.
unfoldable pub name_kept : List ℕ → Option (List ℕ)
name_kept words =
    if is_name (bytes_of (key_words words)) && keeps words (bytes_of (key_words words))
    then Some (bytes_of (key_words words))
    else None
