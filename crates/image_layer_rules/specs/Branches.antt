-- Which branch bytes have children.
use Rattle.std.specs.Prelude.{◌≡◌, ◌≢◌, ℕ, ◌<◌, ◌≤◌}
use Rattle.radix_nodes.specs.Cells.{Children}

-- none from this byte on
abbrev pub HasNoneFrom : Children → ℕ → Type 0
HasNoneFrom m from = (b : ℕ) → from ≤ b → b < 256 → m b ≡ 0

-- the lowest one from this byte on
pub record IsNextFrom (m : Children) (from byte : ℕ) : Type 0 where
  pub least : from ≤ byte
  pub within : byte < 256
  pub some_child : m byte ≢ 0
  pub none_between : (b : ℕ) → from ≤ b → b < byte → m b ≡ 0

-- two of them
pub record HasTwoBytes (m : Children) : Type 0 where
  pub one : ℕ
  pub two : ℕ
  pub rising : one < two
  pub within : two < 256
  pub has_one : m one ≢ 0
  pub has_two : m two ≢ 0
