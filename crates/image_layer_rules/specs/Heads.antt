-- Prefixes, and how the key or the prefix of a child goes on from the prefix of its cell.
use Rattle.std.specs.Prelude.{◌≡◌, ℕ, ◌*◌, ◌<◌}
use Rattle.radix_nodes.specs.Keys.{KeyWords, key_byte_of}
use Rattle.tree_law.specs.Trees.{Tree, span, first_bytes}

-- by bytes: it begins with the first bytes of the prefix, as many as the depth, and has the branch byte next
pub record GoesOn (prefix : KeyWords) (depth byte : ℕ) (key : KeyWords) : Type 0 where
  pub first : (at : ℕ) → at < depth → key_byte_of key at ≡ key_byte_of prefix at
  pub next : key_byte_of key depth ≡ byte

-- the prefix of a cell has zeros from its depth on
abbrev pub HasPrefix : Tree → ℕ → Type 0
HasPrefix t x = first_bytes (t.depth x) (t.prefix x) * span (t.depth x) ≡ t.prefix x
