-- The bytes of keys, by their words and by their number.
use Rattle.std.specs.Prelude.{◌≡◌, ℕ, ◌*◌, ◌^◌, ◌<◌}
use Rattle.radix_nodes.specs.Keys.{KeyWords, key_bytes, key_byte_of, IsPrefixOf}
use Rattle.tree_row.specs.tree_law.specs.Trees.{span, first_bytes, byte_at}
use Rattle.tree_row.specs.tree_law.specs.Words.{number_of_key}

-- A byte of a key is that of its number.
abbrev pub ByteIsOfNumber : Type 0
ByteIsOfNumber = (key : KeyWords) (at : ℕ) → ((k : ℕ) → key k < 2 ^ 64) → at < key_bytes →
    key_byte_of key at ≡ byte_at at (number_of_key key)

-- The first bytes of a key with zeros behind them are those of its number.
abbrev pub PrefixIsOfNumber : Type 0
PrefixIsOfNumber = (depth : ℕ) (key prefix : KeyWords) → ((k : ℕ) → key k < 2 ^ 64) → ((k : ℕ) → prefix k < 2 ^ 64) →
    depth < key_bytes → IsPrefixOf depth key prefix →
    number_of_key prefix ≡ first_bytes depth (number_of_key key) * span depth
