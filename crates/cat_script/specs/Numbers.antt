-- Numbers as scripts write them.
use Rattle.std.specs.Prelude.{◌≡◌, ℕ, ◌<◌, ◌≤◌, ◌^◌, List, length}
use Rattle.std.specs.Str.Parse.{IsNumeral, digits_value}

-- One to twenty decimal digits that stand for a number below 2 ^ 64; leading zeros are accepted.
pub record IsNumber (text : List ℕ) (n : ℕ) : Type 0 where
  pub numeral : IsNumeral 10 text
  pub short : length text ≤ 20
  pub value : digits_value 10 text ≡ n
  pub fits : n < 2 ^ 64

-- A number that is no greater than this.
abbrev pub IsUpTo : ℕ → List ℕ → ℕ → Type 0
IsUpTo most text n = IsNumber text n × (n ≤ most)

-- The text is the number of some number no greater than this.
abbrev pub IsSomeUpTo : ℕ → List ℕ → Type 0
IsSomeUpTo most text = (n : ℕ) × IsUpTo most text n
