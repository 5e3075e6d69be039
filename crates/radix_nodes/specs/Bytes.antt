-- The bytes of a word, counted from the lowest.
use Rattle.std.specs.Prelude.{ℕ, ◌+◌, ◌-◌, ◌*◌, ◌/◌, ◌%◌, ◌^◌}

abbrev pub byte_in : ℕ → ℕ → ℕ
byte_in word at = word / 256 ^ at % 256

-- the word with another byte
abbrev pub byte_set : ℕ → ℕ → ℕ → ℕ
byte_set word at byte = word - byte_in word at * 256 ^ at + byte * 256 ^ at
