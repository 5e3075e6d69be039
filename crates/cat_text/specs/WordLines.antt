-- The line of an image word.
use Rattle.std.specs.Prelude.{ℕ, List, ◌++◌, codes, decimal}
use Rattle.std.specs.Int.{w64, to_be_bytes}
use Rattle.hex.specs.Hex.{encode_lower}

-- A word's number, a space and its sixteen hex digits, the highest first.
abbrev pub word_line : ℕ → ℕ → List ℕ
word_line number word = decimal number ++ codes " " ++ encode_lower (to_be_bytes w64 word) ++ codes "\n"
